use Rattle.std.proofs.Common.{rules}
use Rattle.script.proofs.Feeding.{single_line}
use Rattle.script.proofs.answer.answer_line.Goals as goal

pub returns-clause-single : goal.returns-clause-single
returns-clause-single c = single_line c.to_string.result c.args.line c.args.call c.args.answer.now (search rules)
