use Rattle.share.proofs.Ranging.{sum_few}
use Rattle.share.proofs.pro_rata.ProRataShareRule.share.Goals as goal

pub prorate-requires-clause-few : goal.prorate-requires-clause-few
prorate-requires-clause-few c = sum_few c.args.sizes.now c.args.q c.in_ok-check_request.ensures.taken.0
