use Rattle.std.proofs.Common.{rules}
use Rattle.std.proofs.Output.{has_written_of_eq}
use Rattle.script.proofs.Refusing.{refused_fault}
use Rattle.script.proofs.answer.ShownRefusalDisplay.fmt.Goals as goal

pub returns-in-NotAdmitted-clause-writes : goal.returns-in-NotAdmitted-clause-writes
returns-in-NotAdmitted-clause-writes g c = λ p o. has_written_of_eq _ _ _ _ _ (refused_fault _ _ _ c.in-NotAdmitted.fault c.number-number.ensures c.in-NotAdmitted.is c.number-cause.ensures) (search rules)
