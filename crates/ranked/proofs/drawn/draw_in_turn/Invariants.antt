use Rattle.std.proofs.Common.{◌≡◌, ◌-◌, ◌++◌, take, drop, sum_by}
use Rattle.ranked.specs.Draws.{drawn}
use Rattle.ranked.proofs.drawn.draw_in_turn.Given as goal

abbrev pub invariant-loop-item : goal.invariant-loop-item
invariant-loop-item g l =
    (take l.item-index l.records ++ drawn g.T.Drawn.contracts g.T.Drawn.reduced l.left (drop l.item-index l.initial.records) ≡ drawn g.T.Drawn.contracts g.T.Drawn.reduced l.q l.initial.records)
    × (drop l.item-index l.records ≡ drop l.item-index l.initial.records)
    × (l.left ≡ l.q - sum_by g.T.Drawn.contracts (take l.item-index l.initial.records))
