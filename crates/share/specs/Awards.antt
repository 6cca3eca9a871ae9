-- Awards beside the sizes that they are given to, both in rank order.
use Rattle.std.specs.Prelude.{ℕ, ◌+◌, ◌≤◌, List, [], ◌∷◌}

abbrev pub total : List ℕ → ℕ
total [] = 0
total (size ∷ sizes) = size + total sizes

-- no award is above its size
abbrev pub Within : List ℕ → List ℕ → Type 0
Within [] sizes = Unit {0}
Within (award ∷ awards) [] = ⊥
Within (award ∷ awards) (size ∷ sizes) = (award ≤ size) × Within awards sizes
