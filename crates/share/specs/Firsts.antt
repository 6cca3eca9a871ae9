-- First come: the laws of its awards, and the step of its loop.
use Rattle.std.specs.Prelude.{◌≡◌, ℕ, ◌+◌, ◌-◌, ◌<◌, ◌≤◌, min, List, [], ◌∷◌, ◌++◌, length, take, drop, slice_index, slice_set, refl}
use Rattle.std.proofs.Common.{sym, ap, arith}
use Rattle.share.specs.Writing.{write_on, write_end}
use Rattle.share.specs.Awards.{Within, total}
use Rattle.share.specs.Filling.{first_come}

pub first_each : (sizes : List ℕ) (q : ℕ) → length (first_come sizes q) ≡ length sizes
unfolding first_come
first_each [] q = refl
first_each (s ∷ ss) q = omega (arith, first_each ss (q - min s q))

pub first_within : (sizes : List ℕ) (q : ℕ) → Within (first_come sizes q) sizes
unfolding first_come
first_within [] q = tt
first_within (s ∷ ss) q = (omega arith, first_within ss (q - min s q))

pub first_spent : (sizes : List ℕ) (q : ℕ) → total (first_come sizes q) ≡ min q (total sizes)
unfolding first_come
first_spent [] q = omega arith
first_spent (s ∷ ss) q = omega (arith, first_spent ss (q - min s q))

first_step : (s q a : ℕ) (ys : List ℕ) → a ≡ min s q → first_come (s ∷ ys) q ≡ a ∷ first_come ys (q - a)
unfolding first_come
first_step s q a ys e = ap (λ n. n ∷ first_come ys (q - n)) (sym e)

first_none : (q : ℕ) → first_come [] q ≡ []
unfolding first_come
first_none q = refl

-- xs are the sizes, ws the awards so far over the list as it was
module _ (xs ws old : List ℕ) (q i left : ℕ) (inv : (take i ws ++ first_come (drop i xs) left ≡ first_come xs q) × (drop (length xs) ws ≡ drop (length xs) old)) where
  pub fill_on : i < length xs → length ws ≡ length old → length xs ≤ length old → (a : ℕ) → a ≡ min (slice_index xs i) left → (take (i + 1) (slice_set ws i a) ++ first_come (drop (i + 1) xs) (left - a) ≡ first_come xs q) × (drop (length xs) (slice_set ws i a) ≡ drop (length xs) old)
  fill_on h long room a e =
      write_on (λ ys. first_come ys left) (λ ys. first_come ys (left - a)) xs ws old (first_come xs q) i a inv h (omega arith) (λ ys. first_step (slice_index xs i) left a ys e)

  pub fill_end : length xs ≤ i → i ≤ length xs → ws ≡ first_come xs q ++ drop (length xs) old
  fill_end h k = write_end (λ ys. first_come ys left) xs ws old (first_come xs q) i inv (first_none left) (omega arith)
