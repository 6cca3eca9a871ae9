-- Awards in rank order, one step for each size.
use Rattle.std.specs.Prelude.{◌≡◌, ℕ, ◌^◌, ◌<◌, List, [], ◌∷◌}

-- a step takes a size and what is left, and gives the award and what is left then
unfoldable pub awarded : (ℕ → ℕ → ℕ × ℕ) → ℕ → List ℕ → List ℕ
awarded s left [] = []
awarded s left (size ∷ sizes) = (s size left).0 ∷ awarded s (s size left).1 sizes

-- of numbers of 32 bits a call gives what the step s does
abbrev pub Steps : (ℕ → ℕ → ℕ × ℕ → Type 0) → (ℕ → ℕ → ℕ × ℕ) → Type 0
Steps says s = (size left : ℕ) (r : ℕ × ℕ) → size < 2 ^ 32 → left < 2 ^ 32 → says size left r → r ≡ s size left
