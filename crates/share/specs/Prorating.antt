-- Pro rata: what the parts leave over, and the laws of the awards.
use Rattle.std.specs.Prelude.{◌≡◌, ℕ, ◌+◌, ◌-◌, ◌*◌, ◌/◌, ◌<◌, ◌≤◌, min, List, [], ◌∷◌, length, nat_le, refl}
use Rattle.std.proofs.Common.{inl, inr, ap, ◌∙◌, mul-le-mul_left, zero-mul, arith}
use Rattle.std.proofs.Math.Nat.{lt-mul-div-succ, mul-div-le, mul-lt-mul_of_pos_left, le_of_mul-le-mul_left, zero-div}
use Rattle.std.proofs.lemmas.Nat.{div_below}
use Rattle.std.proofs.lemmas.Bool.{cases_lt, cond_both, leb-false, leb-true}
use Rattle.std.proofs.lemmas.Bool.Decides.{nat_tests}
use Rattle.share.specs.Awards.{Within, total}
use Rattle.share.specs.Proration.{part, parts, one_more, dealt, pro_rata}

-- how many sizes are above 0
pub above : List ℕ → ℕ
above [] = 0
above (s ∷ ss) = min 1 s + above ss

one_more_is : (s left : ℕ) → one_more s left ≡ min (min 1 s) left
one_more_is s left = grind (arith, nat_tests)

nought : (s q : ℕ) → s ≤ 0 → s * q ≡ 0
nought s q h = let z : s ≡ 0 = omega arith in ap (λ n. n * q) z ∙ zero-mul q

-- a size above 0 has room for one more than its part
pub part_room : (sum q s : ℕ) → q < sum → part sum q s + min 1 s ≤ s
part_room sum q s h = elim (cases_lt 0 s) [
  | inl p ↦ omega (arith, div_below (s * q) sum s (omega arith) (mul-lt-mul_of_pos_left h p))
  | inr p ↦ omega (arith, ap (λ n. n / sum) (nought s q p) ∙ zero-div sum)
]

-- a part is rounded down by less than one, and not at all at a size of 0
part_more : (sum q s : ℕ) → 0 < sum → s * q + min 1 s ≤ sum * part sum q s + sum * min 1 s
part_more sum q s h = elim (cases_lt 0 s) [
  | inl p ↦
      let one : min 1 s ≡ 1 = omega arith in
      omega (arith, lt-mul-div-succ (s * q) {b = sum} h, ap (λ n. sum * n) one)
  | inr p ↦ omega (arith, nought s q p)
]

parts_most : (sum q : ℕ) (ss : List ℕ) → sum * total (parts sum q ss) ≤ total ss * q
unfolding parts
parts_most sum q [] = omega arith
parts_most sum q (s ∷ ss) = omega (arith, mul-div-le (s * q) sum, parts_most sum q ss)

parts_more : (sum q : ℕ) (ss : List ℕ) → 0 < sum → total ss * q + above ss ≤ sum * (total (parts sum q ss) + above ss)
unfolding parts above
parts_more sum q [] h = omega arith
parts_more sum q (s ∷ ss) h = omega (arith, part_more sum q s h, parts_more sum q ss h)

some_above : (ss : List ℕ) → 0 < total ss → 0 < above ss
unfolding above
some_above [] h = omega arith
some_above (s ∷ ss) h = elim (cases_lt 0 s) [
  | inl p ↦ omega arith
  | inr p ↦ omega (arith, some_above ss (omega arith))
]

-- a quantity below the sum of the sizes
module _ (ss : List ℕ) (q : ℕ) (short : q < total ss) where
  pub parts_within : total (parts (total ss) q ss) ≤ q
  parts_within =
      let most : total ss * total (parts (total ss) q ss) ≤ total ss * q = omega (arith, parts_most (total ss) q ss) in
      le_of_mul-le-mul_left most (omega arith)

  -- one pass suffices: fewer are left over than there are sizes above 0
  pub left_fewer : q - total (parts (total ss) q ss) < above ss
  left_fewer = elim (cases_lt q (total (parts (total ss) q ss) + above ss)) [
    | inl p ↦ omega (arith, parts_within)
    | inr p ↦
        omega
        (arith, mul-le-mul_left (total ss) p, parts_more (total ss) q ss (omega arith), some_above ss (omega arith))
  ]

dealt_each : (sum q left : ℕ) (ss : List ℕ) → length (dealt sum q left ss) ≡ length ss
unfolding dealt
dealt_each sum q left [] = refl
dealt_each sum q left (s ∷ ss) = omega (arith, dealt_each sum q (left - one_more s left) ss)

dealt_within : (sum q left : ℕ) (ss : List ℕ) → q < sum → Within (dealt sum q left ss) ss
unfolding dealt
dealt_within sum q left [] h = tt
dealt_within sum q left (s ∷ ss) h =
    (omega (arith, part_room sum q s h, one_more_is s left), dealt_within sum q (left - one_more s left) ss h)

dealt_total : (sum q left : ℕ) (ss : List ℕ) → total (dealt sum q left ss) ≡ total (parts sum q ss) + min left (above ss)
unfolding dealt parts above
dealt_total sum q left [] = omega arith
dealt_total sum q left (s ∷ ss) = omega (arith, one_more_is s left, dealt_total sum q (left - one_more s left) ss)

all_within : (ss : List ℕ) → Within ss ss
all_within [] = tt
all_within (s ∷ ss) = (omega arith, all_within ss)

module _ (ss : List ℕ) (q : ℕ) where
  pub pro_rata_each : length (pro_rata ss q) ≡ length ss
  unfolding pro_rata
  pro_rata_each = cond_both (nat_le (total ss) q) ss _ (λ vs. length vs ≡ length ss) (λ _. refl) (λ _. dealt_each _ _ _ _)

  pub pro_rata_within : Within (pro_rata ss q) ss
  unfolding pro_rata
  pro_rata_within =
      cond_both (nat_le (total ss) q) ss _ (λ vs. Within vs ss) (λ _. all_within ss) (λ e. dealt_within _ _ _ _ (leb-false (total ss) q e))

  pub pro_rata_spent : total (pro_rata ss q) ≡ min q (total ss)
  unfolding pro_rata
  pro_rata_spent =
      cond_both (nat_le (total ss) q) ss _ (λ vs. total vs ≡ min q (total ss))
      (λ e. omega (arith, leb-true (total ss) q e))
      (λ e.
      let short : q < total ss = leb-false (total ss) q e in
      omega (arith, parts_within ss q short, left_fewer ss q short, dealt_total (total ss) q (q - total (parts (total ss) q ss)) ss))
