-- Kinds split a list: what is taken once for each kind is taken once for each element.
use Rattle.std.proofs.Common.{◌≡◌, ℕ, Bool, true, cond, List, [], ◌∷◌, ◌++◌, filter, ap, ◌∙◌, arith}
use Rattle.std.proofs.ByRecursion.{All-weaker}
use Rattle.std.proofs.lemmas.Map.Steps.{list_any_congr}
use Rattle.std.specs.Cmp.{IsEquivalence}
use Rattle.contra.specs.Kinds.{firsts, some}
use Rattle.contra.proofs.Alike.{some_itself, some_push}
use Rattle.allocation.specs.Parts.{total}
use Rattle.allocation.proofs.Sums.{total_kept, total_like, total_same, total_swap}

module _ {X : Type 0} (same : X → X → Bool) (laws : IsEquivalence same) where
  -- of the first ones of each kind, one at most is of the kind of z
  pub once : (n : ℕ) (z : X) (xs seen : List X) → total (λ y. cond (same y z) n 0) (firsts same seen xs) ≡ cond (some (same z) seen) 0 (cond (some (same z) xs) n 0)
  unfolding total firsts some
  once n z [] seen = grind arith
  once n z (x ∷ xs) seen =
      let e = once n z xs (seen ++ x ∷ []) in
      let f = some_push (same z) seen x in
      let g = list_any_congr laws z x seen in
      let h = laws.symm x z in
      grind arith

  -- each element is taken once
  pub split : (w : X → ℕ) (xs : List X) → total (λ y. total w (filter (same y) xs)) (firsts same [] xs) ≡ total w xs
  unfolding some
  split w xs =
      total_like _ (λ y. total (λ z. cond (same y z) (w z) 0) xs) (λ y. total_kept w (same y) xs) (firsts same [] xs)
      ∙ (total_swap (λ y z. cond (same y z) (w z) 0) (firsts same [] xs) xs
      ∙ total_same _ w xs (All-weaker _ _ (λ z e. once (w z) z xs [] ∙ ap (λ b. cond b (w z) 0) e) xs (some_itself same laws.refl xs)))

  -- a filter that passes whole kinds takes their elements
  pub once_kept : (q : X → Bool) → ((x y : X) → same x y ≡ true → q x ≡ q y) → (n : ℕ) (z : X) (ys : List X) → total (λ y. cond (same y z) n 0) (filter q ys) ≡ cond (q z) (total (λ y. cond (same y z) n 0) ys) 0
  unfolding total
  once_kept q whole n z [] = grind arith
  once_kept q whole n z (y ∷ ys) =
      let e = once_kept q whole n z ys in
      let f = whole y z in
      grind arith

  pub split_kept : (q : X → Bool) → ((x y : X) → same x y ≡ true → q x ≡ q y) → (w : X → ℕ) (xs : List X) → total (λ y. total w (filter (same y) xs)) (filter q (firsts same [] xs)) ≡ total (λ z. cond (q z) (w z) 0) xs
  unfolding some
  split_kept q whole w xs =
      total_like _ (λ y. total (λ z. cond (same y z) (w z) 0) xs) (λ y. total_kept w (same y) xs) (filter q (firsts same [] xs))
      ∙ (total_swap (λ y z. cond (same y z) (w z) 0) (filter q (firsts same [] xs)) xs
      ∙ total_same _ _ xs (All-weaker _ _ (λ z e. once_kept q whole (w z) z (firsts same [] xs) ∙ ap (λ n. cond (q z) n 0) (once (w z) z xs [] ∙ ap (λ b. cond b (w z) 0) e)) xs (some_itself same laws.refl xs)))
