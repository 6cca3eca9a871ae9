-- Contracts drawn from the front of a list of records. `contracts x` are those that x holds,
-- and `reduced x k` is x where k of them were taken.
use Rattle.std.specs.Prelude.{◌≡◌, ℕ, ◌+◌, ◌-◌, ◌<◌, ◌≤◌, min, Bool, List, [], ◌∷◌, length, sum_by, slice_index_or}
use Rattle.std.specs.List.{AllZip}
use Rattle.ranked.specs.Ranks.{InOrder}

-- each record gives the lesser of its contracts and what is left of q
abbrev pub drawn : {X : Type 0} → (X → ℕ) → (X → ℕ → X) → ℕ → List X → List X
drawn contracts reduced q [] = []
drawn contracts reduced q (x ∷ xs) = reduced x (min q (contracts x)) ∷ drawn contracts reduced (q - min q (contracts x)) xs

-- what holds where up to q contracts are drawn from the records xs, which become ys
pub record Drawing {X R : Type 0} (rank : X → R) (before : X → X → Bool) (contracts : X → ℕ) (xs : List X) (q answer : ℕ) (ys : List X) : Type 0 where
  -- the lesser of q and all there are
  pub lesser : answer ≡ min q (sum_by contracts xs)
  -- no contract is lost
  pub whole : sum_by contracts ys + answer ≡ sum_by contracts xs
  -- each record stays in its place, keeps its rank and gives no more than it had
  pub each : AllZip (λ x y. (rank y ≡ rank x) × (contracts y ≤ contracts x)) xs ys
  -- where one gives, each in front of it is emptied
  pub front : (k l : ℕ) (d : X) → k < l → l < length xs → contracts (slice_index_or ys l d) < contracts (slice_index_or xs l d) → contracts (slice_index_or ys k d) ≡ 0
  -- a list in rank order stays so
  pub order : InOrder before xs → InOrder before ys
