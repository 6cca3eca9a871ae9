-- Pro rata: how its two ways come to its awards.
use Rattle.std.proofs.Common.{◌≡◌, ℕ, ◌-◌, ◌<◌, ◌≤◌, leb, List, [], ◌∷◌, ◌++◌, length, drop, sum, sum_by, sym, refl, ap, ◌∙◌, arith}
use Rattle.std.proofs.lemmas.List.Sums.{sum_by-cons}
use Rattle.std.proofs.lemmas.Bool.{cond-false, cond-true, le-leb, lt-leb}
use Rattle.share.specs.Prorating.{parts_within}
use Rattle.share.specs.Awards.{total}
use Rattle.share.specs.Proration.{part, parts, dealt, pro_rata}

pub sum_total : (xs : List ℕ) → sum xs ≡ total xs
sum_total [] = refl
sum_total (x ∷ xs) = omega (arith, sum_by-cons (λ n. n) x xs, sum_total xs)

pub sum_parts : (all q : ℕ) (xs : List ℕ) → sum_by (part all q) xs ≡ total (parts all q xs)
unfolding parts
sum_parts all q [] = refl
sum_parts all q (x ∷ xs) = omega (arith, sum_by-cons (part all q) x xs, sum_parts all q xs)

-- the quantity covers the sum: the sizes are copied
pub all_given : (xs ws old : List ℕ) (q all : ℕ) → all ≡ sum xs → all ≤ q → ws ≡ xs → ws ++ drop (length xs) old ≡ pro_rata xs q ++ drop (length xs) old
unfolding pro_rata
all_given xs ws old q all e h same =
    ap (λ vs. vs ++ drop (length xs) old) (same ∙ sym (cond-true (leb (total xs) q) xs _ (le-leb (total xs) q (omega (arith, sum_total xs)))))

-- the quantity is short
module _ (xs : List ℕ) (q all : ℕ) (e : all ≡ sum xs) (h : q < all) where
  whole : all ≡ total xs
  whole = e ∙ sum_total xs

  pub over_within : sum_by (part all q) xs ≤ q
  over_within = rw (sum_parts all q xs, whole) (parts_within xs q (omega (arith, whole)))

  short : pro_rata xs q ≡ dealt all q (q - total (parts all q xs)) xs
  unfolding pro_rata
  short = rw whole (cond-false (leb (total xs) q) xs _ (lt-leb (total xs) q (omega (arith, whole))))

  pub rest_given : (ws old : List ℕ) (over : ℕ) → over ≡ q - sum_by (part all q) xs → ws ≡ dealt all q over xs ++ drop (length xs) old → ws ≡ pro_rata xs q ++ drop (length xs) old
  rest_given ws old over f g =
      g ∙ ap (λ vs. vs ++ drop (length xs) old) (ap (λ n. dealt all q n xs) (f ∙ ap (λ n. q - n) (sum_parts all q xs)) ∙ sym short)
