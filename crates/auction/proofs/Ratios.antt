-- The smallest ratio of the legs, worked out from the first on.
use Rattle.std.proofs.Common.{◌≡◌, ℕ, ◌≤◌, min, List, [], ◌∷◌, fold, arith}
use Rattle.terms.specs.declared.leg.Leg.{Leg}
use Rattle.auction.specs.Sizes.{smallest_ratio}

pub at_most_8 : (ls : List Leg) → smallest_ratio ls ≤ 8
at_most_8 [] = omega arith
at_most_8 (l ∷ ls) = omega (arith, at_most_8 ls)

pub folded : (ls : List Leg) (s : ℕ) → s ≤ 8 → fold (λ (n : ℕ) (l : Leg). min n l.ratio) s ls ≡ min s (smallest_ratio ls)
folded [] s h = omega arith
folded (l ∷ ls) s h = omega (arith, folded ls (min s l.ratio) (omega arith))
