use Rattle.script.proofs.Speaking.{speaking}
use Rattle.script.proofs.line.statement_of.Goals as goal

pub returns-clause-speaks : goal.returns-clause-speaks
returns-clause-speaks c = speaking c.parsed.result _ c.parsed.ensures
