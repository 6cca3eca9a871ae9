-- What a settlement answers.
use Rattle.std.specs.Prelude.{ℕ, cond, ◌&&◌, List, ◌++◌, length, drop, nat_le}
use Rattle.terms.specs.Refusals.{Said, answered, nothing, refused, row}
use Rattle.settlement.specs.declared.counts.Counts.{Counts}

-- a fill list under 257 places or a contra list under 128 is refused by row 4
abbrev pub settle_said : {F : Type 0} → ℕ → ℕ → Counts → Said Counts F
settle_said fills contra counts = cond (nat_le 257 fills && nat_le 128 contra) (answered counts) (refused (row 4 nothing))

-- written from the front; the places behind keep what they held
abbrev pub over : {X : Type 0} → List X → List X → List X
over new old = new ++ drop (length new) old
