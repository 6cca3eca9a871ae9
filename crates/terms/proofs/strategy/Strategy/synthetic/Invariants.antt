use Rattle.std.proofs.Common.{◌≡◌, ◌≤◌, true, length, drop}
use Rattle.terms.specs.Legs.{apart}
use Rattle.terms.specs.Synthetics.{Within, shown, summed, valued}
use Rattle.terms.proofs.strategy.Strategy.synthetic.Given as goal

abbrev pub invariant-loop-leg : goal.invariant-loop-leg
invariant-loop-leg l = record {
  sum : summed l.sum (drop l.leg-index l.leg-items) l.left.rest.now ≡ valued l.leg-items (shown l.leg-items l.fn.tops);
  fit : apart (drop l.leg-index l.leg-items) ≡ true;
  few : length l.leg-items ≤ 4;
  bound : Within l.leg-index l.sum.price;
}
