-- A rank's fields: the tests of each field come to its comparison, and fields that compare level are the same.
use Rattle.std.specs.Prelude.{◌≡◌, ℕ, Bool, true, false, cond, not, ◌&&◌, ℤ, int_lt, nat_le, nat_lt, refl}
use Rattle.std.specs.Cmp.{IsTotalOrder, bool_cmp_total}
use Rattle.std.specs.Ordering.{bool_cmp, int_cmp, is_le, is_lt, nat_cmp, ordering_reverse, ordering_then}
use Rattle.std.specs.declared.cmp.Reverse.{Reverse}
use Rattle.std.specs.declared.cmp.Ordering.{Ordering}
use Rattle.std.specs.declared.cmp.Ordering.TheVariants.{Less, Equal, Greater}
use Rattle.std.proofs.Common.{ap, sym, ◌∙◌, arith}
use Rattle.std.proofs.lemmas.Cmp.{alike_right, back_total, int_cmp_total, int_ranked, nat_cmp_total, ranked}
use Rattle.std.proofs.lemmas.Bool.Decides.{nat_tests}
use Rattle.ranked.specs.Comparisons.{agreed, passed}
use Rattle.ranked.specs.Ranks.{first_by}

decided : (c o : Ordering) → first_by (is_lt c) (is_lt (ordering_reverse c)) (is_le o) ≡ is_le (ordering_then c o)
decided Less o = refl
decided Equal o = refl
decided Greater o = refl

both_ways : (c : Ordering) (r s : Bool) → first_by (is_lt c) (is_lt (ordering_reverse c)) r ≡ true → first_by (is_lt (ordering_reverse c)) (is_lt c) s ≡ true → (c ≡ Equal) × (r ≡ true) × (s ≡ true)
both_ways Less r s e f = cc
both_ways Equal r s e f = (refl, e, f)
both_ways Greater r s e f = cc

-- a field in a total order, and the test that it is lower
module _ {K : Type 0} {cmp : K → K → Ordering} (total : IsTotalOrder cmp) (lower : K → K → Bool) (tests : (x y : K) → lower x y ≡ is_lt (cmp x y)) where
  turned : (x y : K) → lower y x ≡ is_lt (ordering_reverse (cmp x y))
  turned x y = tests y x ∙ ap is_lt (total.antisymm y x)

  by_field : (x y : K) (o : Ordering) → first_by (lower x y) (lower y x) (is_le o) ≡ is_le (ordering_then (cmp x y) o)
  by_field x y o = (λ i. first_by (tests x y i) (turned x y i) (is_le o)) ∙ decided (cmp x y) o

  -- both ways the field is level, and the rest behind it decides
  pub field_agreed : ((x y : K) → cmp x y ≡ Equal → x ≡ y) → (x y : K) (r s : Bool) → first_by (lower x y) (lower y x) r ≡ true → first_by (lower y x) (lower x y) s ≡ true → (x ≡ y) × (r ≡ true) × (s ≡ true)
  field_agreed exact x y r s e f =
      let both = both_ways (cmp x y) r s (sym (λ i. first_by (tests x y i) (turned x y i) r) ∙ e) (sym (λ i. first_by (turned x y i) (tests x y i) s) ∙ f) in
      (exact x y both.0, both.1, both.2)

  passed_by : (x y z : K) (r s t : Bool) (c d : Ordering) → cmp x y ≡ c → cmp y z ≡ d → first_by (is_lt c) (is_lt (ordering_reverse c)) r ≡ true → first_by (is_lt d) (is_lt (ordering_reverse d)) s ≡ true → (r ≡ true → s ≡ true → t ≡ true) → first_by (is_lt (cmp x z)) (is_lt (ordering_reverse (cmp x z))) t ≡ true
  passed_by x y z r s t Less Less a b e f on = ap (λ c. first_by (is_lt c) (is_lt (ordering_reverse c)) t) (total.trans x y z a b)
  passed_by x y z r s t Less Equal a b e f on =
      ap (λ c. first_by (is_lt c) (is_lt (ordering_reverse c)) t) (sym (alike_right total y z x b) ∙ a)
  passed_by x y z r s t Less Greater a b e f on = cc
  passed_by x y z r s t Equal Less a b e f on = ap (λ c. first_by (is_lt c) (is_lt (ordering_reverse c)) t) (total.congr x y z a ∙ b)
  passed_by x y z r s t Equal Equal a b e f on =
      ap (λ c. first_by (is_lt c) (is_lt (ordering_reverse c)) t) (total.congr x y z a ∙ b) ∙ on e f
  passed_by x y z r s t Equal Greater a b e f on = cc
  passed_by x y z r s t Greater d a b e f on = cc

  -- and what the rest passes on the field does too
  pub field_passed : (x y z : K) (r s t : Bool) → first_by (lower x y) (lower y x) r ≡ true → first_by (lower y z) (lower z y) s ≡ true → (r ≡ true → s ≡ true → t ≡ true) → first_by (lower x z) (lower z x) t ≡ true
  field_passed x y z r s t e f on =
      (λ i. first_by (tests x z i) (turned x z i) t)
      ∙ passed_by x y z r s t (cmp x y) (cmp y z) refl refl (sym (λ i. first_by (tests x y i) (turned x y i) r) ∙ e) (sym (λ i. first_by (tests y z i) (turned y z i) s) ∙ f) on

pub numbers_lower : (a b : ℕ) → nat_lt a b ≡ is_lt (nat_cmp a b)
numbers_lower a b = grind (arith, nat_tests)

pub numbers_upto : (a b : ℕ) → nat_le a b ≡ is_le (nat_cmp a b)
numbers_upto a b = grind (arith, nat_tests)

pub numbers_same : (a b : ℕ) → nat_cmp a b ≡ Equal → a ≡ b
numbers_same a b e = ranked a b Equal (sym e)

lower_first : (l m : Bool) → l ≡ is_lt (cond l Less (cond m Greater Equal))
lower_first true m = refl
lower_first false true = refl
lower_first false false = refl

pub prices_lower : (a b : ℤ) → int_lt a b ≡ is_lt (int_cmp a b)
prices_lower a b = lower_first (int_lt a b) (int_lt b a)

pub prices_same : (a b : ℤ) → int_cmp a b ≡ Equal → a ≡ b
prices_same a b e = int_ranked a b Equal (sym e)

-- of two marks the one that is set is the lower
pub marks_lower : (a b : Bool) → (a && not b) ≡ is_lt (bool_cmp b a)
marks_lower true true = refl
marks_lower true false = refl
marks_lower false true = refl
marks_lower false false = refl

pub marks_same : (a b : Bool) → bool_cmp b a ≡ Equal → a ≡ b
marks_same true true e = refl
marks_same true false e = cc
marks_same false true e = cc
marks_same false false e = refl

then_turned : (a b c : Ordering) → ordering_then a (ordering_then b c) ≡ ordering_then (ordering_then a b) c
then_turned Less b c = refl
then_turned Equal b c = refl
then_turned Greater b c = refl

-- by level, customers first, and number
pub by_level : (l m : ℤ) (c d : Bool) (a b : ℕ) → first_by (int_lt l m) (int_lt m l) (first_by (c && not d) (d && not c) (nat_le a b)) ≡ is_le (ordering_then (ordering_then (int_cmp l m) (bool_cmp d c)) (nat_cmp a b))
by_level l m c d a b =
    ap (λ r. first_by (int_lt l m) (int_lt m l) (first_by (c && not d) (d && not c) r)) (numbers_upto a b)
    ∙ (ap (first_by (int_lt l m) (int_lt m l)) (by_field (back_total bool_cmp_total) (λ c d. c && not d) marks_lower c d (nat_cmp a b))
    ∙ (by_field int_cmp_total int_lt prices_lower l m (ordering_then (bool_cmp d c) (nat_cmp a b))
    ∙ ap is_le (then_turned (int_cmp l m) (bool_cmp d c) (nat_cmp a b))))

-- by user, price and number
pub by_user : (u v : ℕ) (p q : ℤ) (a b : ℕ) → first_by (nat_lt u v) (nat_lt v u) (first_by (int_lt p q) (int_lt q p) (nat_le a b)) ≡ is_le (ordering_then (ordering_then (nat_cmp u v) (int_cmp p q)) (nat_cmp a b))
by_user u v p q a b =
    ap (λ r. first_by (nat_lt u v) (nat_lt v u) (first_by (int_lt p q) (int_lt q p) r)) (numbers_upto a b)
    ∙ (ap (first_by (nat_lt u v) (nat_lt v u)) (by_field int_cmp_total int_lt prices_lower p q (nat_cmp a b))
    ∙ (by_field nat_cmp_total nat_lt numbers_lower u v (ordering_then (int_cmp p q) (nat_cmp a b))
    ∙ ap is_le (then_turned (nat_cmp u v) (int_cmp p q) (nat_cmp a b))))

then_level : (a b : Ordering) → ordering_then a b ≡ Equal → (a ≡ Equal) × (b ≡ Equal)
then_level Less b e = (e, cc)
then_level Equal b e = (refl, e)
then_level Greater b e = (e, cc)

pub same_three : {X Y Z : Type 0} (a a' : X) (b b' : Y) (c c' : Z) → a ≡ a' → b ≡ b' → c ≡ c' → ◌≡◌ {A = X × Y × Z} (a, b, c) (a', b', c')
same_three a a' b b' c c' e f g = cc

-- three fields, where only the same of each compare level
pub same_fields : {X Y Z : Type 0} (f : X → X → Ordering) (g : Y → Y → Ordering) (h : Z → Z → Ordering) → ((x y : X) → f x y ≡ Equal → x ≡ y) → ((x y : Y) → g x y ≡ Equal → x ≡ y) → ((x y : Z) → h x y ≡ Equal → x ≡ y) → (r s : X × Y × Z) → ordering_then (ordering_then (f r.0 s.0) (g r.1 s.1)) (h r.2 s.2) ≡ Equal → r ≡ s
same_fields f g h j k l r s e =
    let last = then_level _ _ e in
    let both = then_level _ _ last.0 in
    same_three r.0 s.0 r.1 s.1 r.2 s.2 (j _ _ both.0) (k _ _ both.1) (l _ _ last.1)

pub customers_same : (a b : Reverse Bool) → bool_cmp b.0 a.0 ≡ Equal → a ≡ b
customers_same a b e = let h = marks_same a.0 b.0 e in λ i. record { 0 = h i }

-- the laws of each kind of field, and of the last
abbrev by_number : ℕ → ℕ → Bool → Bool
by_number a b r = first_by (nat_lt a b) (nat_lt b a) r

abbrev by_price : ℤ → ℤ → Bool → Bool
by_price a b r = first_by (int_lt a b) (int_lt b a) r

abbrev by_mark : Bool → Bool → Bool → Bool
by_mark a b r = first_by (a && not b) (b && not a) r

pub numbers_agreed : (a b : ℕ) (r s : Bool) → by_number a b r ≡ true → by_number b a s ≡ true → (a ≡ b) × (r ≡ true) × (s ≡ true)
numbers_agreed = field_agreed nat_cmp_total nat_lt numbers_lower numbers_same

pub numbers_passed : (a b c : ℕ) (r s t : Bool) → by_number a b r ≡ true → by_number b c s ≡ true → (r ≡ true → s ≡ true → t ≡ true) → by_number a c t ≡ true
numbers_passed = field_passed nat_cmp_total nat_lt numbers_lower

pub prices_agreed : (a b : ℤ) (r s : Bool) → by_price a b r ≡ true → by_price b a s ≡ true → (a ≡ b) × (r ≡ true) × (s ≡ true)
prices_agreed = field_agreed int_cmp_total int_lt prices_lower prices_same

pub prices_passed : (a b c : ℤ) (r s t : Bool) → by_price a b r ≡ true → by_price b c s ≡ true → (r ≡ true → s ≡ true → t ≡ true) → by_price a c t ≡ true
prices_passed = field_passed int_cmp_total int_lt prices_lower

pub marks_agreed : (a b : Bool) (r s : Bool) → by_mark a b r ≡ true → by_mark b a s ≡ true → (a ≡ b) × (r ≡ true) × (s ≡ true)
marks_agreed = field_agreed (back_total bool_cmp_total) (λ a b. a && not b) marks_lower marks_same

pub marks_passed : (a b c : Bool) (r s t : Bool) → by_mark a b r ≡ true → by_mark b c s ≡ true → (r ≡ true → s ≡ true → t ≡ true) → by_mark a c t ≡ true
marks_passed = field_passed (back_total bool_cmp_total) (λ a b. a && not b) marks_lower

pub last_agreed : (a b : ℕ) → nat_le a b ≡ true → nat_le b a ≡ true → a ≡ b
last_agreed = agreed nat_cmp_total (λ n. n) nat_le numbers_upto numbers_same

pub last_passed : (a b c : ℕ) → nat_le a b ≡ true → nat_le b c ≡ true → nat_le a c ≡ true
last_passed = passed nat_cmp_total (λ n. n) nat_le numbers_upto
