use Rattle.std.proofs.Common.{◌≡◌, ℕ, min, fold, rules, arith}
use Rattle.terms.specs.declared.leg.Leg.{Leg}
use Rattle.auction.proofs.Ratios.{at_most_8, folded}
use Rattle.auction.proofs.size.smallest_ratio.Goals as goal

pub returns : goal.returns
returns c =
    let h : c.fold.result ≡ fold (λ (n : ℕ) (l : Leg). min n l.ratio) 8 c.args.legs.now = search rules in
    let f = folded c.args.legs.now 8 (omega arith) in
    let m = at_most_8 c.args.legs.now in
    record { value = omega arith; most = omega arith }
