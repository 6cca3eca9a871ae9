use Rattle.std.proofs.Common.{◌≡◌, sum, rules}
use Rattle.share.proofs.Dealing.{all_given, over_within, rest_given}
use Rattle.share.proofs.pro_rata.prorate.Goals as goal

pub returns-then-sum-q : goal.returns-then-sum-q
returns-then-sum-q c =
    let e : c.sum-sum.result ≡ sum c.args.sizes.now = search rules in
    all_given _ _ _ _ _ e c.if-sum-q.true c.copy_from_slice.ensures.after

pub left_over-requires : goal.left_over-requires
left_over-requires c =
    let e : c.sum-sum.result ≡ sum c.args.sizes.now = search rules in
    over_within c.args.sizes.now _ _ e c.if-sum-q.false

pub returns : goal.returns
returns c =
    let e : c.sum-sum.result ≡ sum c.args.sizes.now = search rules in
    rest_given _ _ _ e c.if-sum-q.false _ _ _ c.left_over.ensures c.deal.ensures
