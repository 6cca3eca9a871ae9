use Rattle.std.proofs.Common.{ap, ◌∙◌}
use Rattle.std.specs.Result.{result_err}
use Rattle.auction.proofs.Capping.{failed_is}
use Rattle.auction.proofs.agency.Agency.failed.Goals as goal

pub returns : goal.returns
returns c = c.err.ensures.value ∙ (ap result_err c.met.ensures ∙ failed_is _)
