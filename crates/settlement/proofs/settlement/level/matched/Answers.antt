use Rattle.std.proofs.Common.{◌≡◌, ◌-◌, fold, arith, rules}
use Rattle.allocation.specs.Parts.{counts}
use Rattle.settlement.proofs.Leveling.{unmatched_left}
use Rattle.settlement.proofs.settlement.level.matched.Goals as goal

pub overflow_sub-result : goal.overflow_sub-result
overflow_sub-result c =
    let e : c.fold-rest.result ≡ fold (λ rest x. rest - counts x) c.args.left c.args.here.now = search rules in
    omega (arith, unmatched_left c.args.here.now c.args.left)

pub returns : goal.returns
returns c =
    let e : c.fold-rest.result ≡ fold (λ rest x. rest - counts x) c.args.left c.args.here.now = search rules in
    omega (arith, unmatched_left c.args.here.now c.args.left)
