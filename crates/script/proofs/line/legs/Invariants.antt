use Rattle.std.proofs.Common.{◌≡◌, Some, map, vec_items}
use Rattle.script.specs.Legs.{each}
use Rattle.script.proofs.line.legs.Given as goal

abbrev pub invariant-loop-piece : goal.invariant-loop-piece
invariant-loop-piece l =
    each (map (λ p. p.now) l.yielded) ≡ Some (vec_items l.legs)
