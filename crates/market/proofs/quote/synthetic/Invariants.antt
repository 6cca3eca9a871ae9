use Rattle.std.proofs.Common.{◌≡◌, ◌≤◌, length, take}
use Rattle.terms.specs.Synthetics.{priced}
use Rattle.market.proofs.quote.synthetic.Given as goal

abbrev pub invariant-loop-leg : goal.invariant-loop-leg
invariant-loop-leg g l = record {
  same : l.market ≡ l.initial.market;
  few : length l.leg-items ≤ 4;
  many : length l.tops.items ≡ l.leg-index;
  told : l.tops.items ≡ take l.leg-index (priced (g.M.Market.top (g.M.Market.model l.initial.market)) l.quote l.leg-items);
}
