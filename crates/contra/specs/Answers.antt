use Rattle.std.specs.Prelude.{ℕ, cond, nat_le}
use Rattle.terms.specs.Refusals.{Said, answered, nothing, refused, row}

-- a list of fewer than 128 places is refused by row 4; else so many items are written
abbrev pub contra_said : {F : Type 0} → ℕ → ℕ → Said ℕ F
contra_said places count = cond (nat_le 128 places) (answered count) (refused (row 4 nothing))
