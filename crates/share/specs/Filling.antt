-- First come: in rank order each size is given the lesser of it and what is left.
use Rattle.std.specs.Prelude.{ℕ, ◌-◌, min, List, [], ◌∷◌}

unfoldable pub first_come : List ℕ → ℕ → List ℕ
first_come [] q = []
first_come (size ∷ sizes) q = min size q ∷ first_come sizes (q - min size q)
