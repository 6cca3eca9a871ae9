-- Sums over lists: by parts, of what a filter keeps, and in another order.
use Rattle.std.proofs.Common.{◌≡◌, ℕ, ◌+◌, ◌≤◌, Bool, cond, not, List, [], ◌∷◌, ◌++◌, length, filter, refl, arith}
use Rattle.std.specs.List.{flat_map, AllByRecursion}
use Rattle.allocation.specs.Parts.{total}

abbrev pub one : {X : Type 0} → X → ℕ
one x = 1

module _ {X : Type 0} (f : X → ℕ) where
  pub total_none : total f [] ≡ 0
  unfolding total
  total_none = refl

  pub total_step : (x : X) (xs : List X) → total f (x ∷ xs) ≡ f x + total f xs
  unfolding total
  total_step x xs = refl

  pub total_append : (xs ys : List X) → total f (xs ++ ys) ≡ total f xs + total f ys
  unfolding total
  total_append [] ys = omega arith
  total_append (x ∷ xs) ys = omega (arith, total_append xs ys)

  pub total_joined : {Y : Type 0} (g : Y → List X) (ys : List Y) → total f (flat_map g ys) ≡ total (λ y. total f (g y)) ys
  unfolding total
  total_joined g [] = refl
  total_joined g (y ∷ ys) = omega (arith, total_append (g y) (flat_map g ys), total_joined g ys)

  -- a filter keeps its part of a sum
  pub total_kept : (p : X → Bool) (xs : List X) → total f (filter p xs) ≡ total (λ x. cond (p x) (f x) 0) xs
  unfolding total
  total_kept p [] = refl
  total_kept p (x ∷ xs) = let e = total_kept p xs in grind arith

  pub total_both : (p : X → Bool) (xs : List X) → total f (filter p xs) + total f (filter (λ x. not (p x)) xs) ≡ total f xs
  unfolding total
  total_both p [] = omega arith
  total_both p (x ∷ xs) = let e = total_both p xs in grind arith

pub total_one : {X : Type 0} (xs : List X) → total one xs ≡ length xs
unfolding total
total_one [] = refl
total_one (x ∷ xs) = omega (arith, total_one xs)

module _ {X : Type 0} (f g : X → ℕ) where
  pub total_same : (xs : List X) → AllByRecursion (λ x. f x ≡ g x) xs → total f xs ≡ total g xs
  unfolding total
  total_same [] a = refl
  total_same (x ∷ xs) a = omega (arith, a.0, total_same xs a.1)

  pub total_like : ((x : X) → f x ≡ g x) → (xs : List X) → total f xs ≡ total g xs
  unfolding total
  total_like e [] = refl
  total_like e (x ∷ xs) = omega (arith, e x, total_like e xs)

  pub total_most : ((x : X) → f x ≤ g x) → (xs : List X) → total f xs ≤ total g xs
  unfolding total
  total_most e [] = omega arith
  total_most e (x ∷ xs) = omega (arith, e x, total_most e xs)

  pub total_sum : (xs : List X) → total (λ x. f x + g x) xs ≡ total f xs + total g xs
  unfolding total
  total_sum [] = omega arith
  total_sum (x ∷ xs) = omega (arith, total_sum xs)

pub total_zero : {X : Type 0} (xs : List X) → total (λ x. 0) xs ≡ 0
unfolding total
total_zero [] = refl
total_zero (x ∷ xs) = omega (arith, total_zero xs)

-- a sum of sums may be taken in either order
pub total_swap : {X Y : Type 0} (h : X → Y → ℕ) (xs : List X) (ys : List Y) → total (λ x. total (h x) ys) xs ≡ total (λ y. total (λ x. h x y) xs) ys
unfolding total
total_swap h [] ys = omega (arith, total_zero ys)
total_swap h (x ∷ xs) ys = omega (arith, total_sum (h x) (λ y. total (λ z. h z y) xs) ys, total_swap h xs ys)
