-- Items in order: those of a level stand together, and in a level customers' come first.
use Rattle.std.proofs.Common.{◌≡◌, ℕ, ◌+◌, ◌-◌, Bool, true, false, cond, not, ◌||◌, List, [], ◌∷◌, length, take, drop, filter, ℤ, sym, refl, ap, ◌∙◌, one-add, arith}
use Rattle.std.proofs.ByRecursion.{All-weaker}
use Rattle.std.proofs.lemmas.Bool.{cond_both}
use Rattle.std.proofs.lemmas.Int.{ints}
use Rattle.std.proofs.lemmas.List.{take_rest}
use Rattle.std.specs.List.{AllByRecursion, prefix_len}
use Rattle.std.specs.Prelude.{int_lt}
use Rattle.ranked.specs.Contras.{contra_before}
use Rattle.ranked.specs.Ranks.{InOrder}
use Rattle.ranked.specs.declared.contra.ContraItem.{ContraItem}
use Rattle.allocation.specs.Levels.{at_level, items_at}
use Rattle.allocation.specs.Parts.{customers_in, is_customer, others_in}
use Rattle.settlement.specs.Groups.{CustomersFirst}

none_kept : {X : Type 0} (p : X → Bool) (xs : List X) → AllByRecursion (λ x. p x ≡ false) xs → filter p xs ≡ []
none_kept p [] a = refl
none_kept p (x ∷ xs) a = let e = none_kept p xs a.1 in let f = a.0 in grind arith

all_kept : {X : Type 0} (p : X → Bool) (xs : List X) → AllByRecursion (λ x. p x ≡ true) xs → filter p xs ≡ xs
all_kept p [] a = refl
all_kept p (x ∷ xs) a = let e = all_kept p xs a.1 in let f = a.0 in grind arith

-- one place on, whether the item there passes or not
step_taken : {X : Type 0} (b : Bool) (x : X) (kept xs : List X) (n : ℕ) → (b ≡ true → kept ≡ take n xs) → (b ≡ false → kept ≡ []) → cond b (x ∷ kept) kept ≡ take (cond b (1 + n) 0) (x ∷ xs)
step_taken true x kept xs n h k = rw one-add (ap (λ l. x ∷ l) (h refl))
step_taken false x kept xs n h k = k refl

step_left : {X : Type 0} (b : Bool) (x : X) (kept xs : List X) (n : ℕ) → (b ≡ true → kept ≡ drop n xs) → (b ≡ false → kept ≡ xs) → cond (not b) (x ∷ kept) kept ≡ drop (cond b (1 + n) 0) (x ∷ xs)
step_left true x kept xs n h k = rw one-add (h refl)
step_left false x kept xs n h k = ap (λ l. x ∷ l) (k refl)

step_behind : {X : Type 0} (q : X → Bool) (b : Bool) (x : X) (xs kept : List X) (n : ℕ) → (b ≡ true → kept ≡ take (prefix_len q (drop n xs)) (drop n xs)) → (b ≡ false → kept ≡ take (prefix_len q (x ∷ xs)) (x ∷ xs)) → kept ≡ take (prefix_len q (drop (cond b (1 + n) 0) (x ∷ xs))) (drop (cond b (1 + n) 0) (x ∷ xs))
step_behind q true x xs kept n h k = rw one-add (h refl)
step_behind q false x xs kept n h k = k refl

-- those that pass stand in front of the others
module _ {X : Type 0} (p : X → Bool) where
  fails : (x y : X) → p x ≡ false → (p x || not (p y)) ≡ true → p y ≡ false
  fails x y e h = grind arith

  passes : (x y : X) → p x ≡ false → (p x || not (p y)) ≡ true → not (p y) ≡ true
  passes x y e h = grind arith

  front_taken : (xs : List X) → InOrder (λ x y. p x || not (p y)) xs → filter p xs ≡ take (prefix_len p xs) xs
  front_taken [] o = refl
  front_taken (x ∷ xs) o =
      step_taken (p x) x (filter p xs) xs (prefix_len p xs)
      (λ e. front_taken xs o.1)
      (λ e. none_kept p xs (All-weaker _ _ (λ y h. fails x y e h) xs o.0))

  back_left : (xs : List X) → InOrder (λ x y. p x || not (p y)) xs → filter (λ x. not (p x)) xs ≡ drop (prefix_len p xs) xs
  back_left [] o = refl
  back_left (x ∷ xs) o =
      step_left (p x) x (filter (λ y. not (p y)) xs) xs (prefix_len p xs)
      (λ e. back_left xs o.1)
      (λ e. all_kept (λ y. not (p y)) xs (All-weaker _ _ (λ y h. passes x y e h) xs o.0))

pub customers_front : (here : List ContraItem) → CustomersFirst here → customers_in here ≡ take (prefix_len is_customer here) here
customers_front here o = front_taken is_customer here o

pub others_behind : (here : List ContraItem) → CustomersFirst here → others_in here ≡ drop (prefix_len is_customer here) here
others_behind here o = back_left is_customer here o

module _ (z : ℤ) where
  not_lower : (x y : ContraItem) → int_lt x.level z ≡ false → contra_before x y ≡ true → int_lt y.level z ≡ false
  not_lower x y e h = grind (arith, ints)

  level_front : (x y : ContraItem) → int_lt x.level z ≡ false → contra_before x y ≡ true → (at_level z x || not (at_level z y)) ≡ true
  level_front x y e h = grind (arith, ints)

  level_kinds : (x y : ContraItem) → at_level z x ≡ true → at_level z y ≡ true → contra_before x y ≡ true → (x.customer || not y.customer) ≡ true
  level_kinds x y e f h = grind (arith, ints)

  not_here : (x : ContraItem) → int_lt x.level z ≡ true → at_level z x ≡ false
  not_here x e = grind (arith, ints)

  all_lower : (xs : List ContraItem) (x : ContraItem) → int_lt x.level z ≡ false → AllByRecursion (λ y. contra_before x y ≡ true) xs → AllByRecursion (λ y. int_lt y.level z ≡ false) xs
  all_lower xs x e a = All-weaker _ _ (λ y h. not_lower x y e h) xs a

  in_front : (xs : List ContraItem) → InOrder contra_before xs → AllByRecursion (λ y. int_lt y.level z ≡ false) xs → InOrder (λ x y. at_level z x || not (at_level z y)) xs
  in_front [] o a = tt
  in_front (x ∷ xs) o a = (All-weaker _ _ (λ y h. level_front x y a.0 h) xs o.0, in_front xs o.1 a.1)

  pub level_taken : (xs : List ContraItem) → InOrder contra_before xs → items_at z xs ≡ take (prefix_len (at_level z) (drop (prefix_len (λ y. int_lt y.level z) xs) xs)) (drop (prefix_len (λ y. int_lt y.level z) xs) xs)
  level_taken [] o = refl
  level_taken (x ∷ xs) o =
      step_behind (at_level z) (int_lt x.level z) x xs (items_at z (x ∷ xs)) (prefix_len (λ y. int_lt y.level z) xs)
      (λ e. ap (λ b. cond b (x ∷ items_at z xs) (items_at z xs)) (not_here x e) ∙ level_taken xs o.1)
      (λ e. front_taken (at_level z) (x ∷ xs) (in_front (x ∷ xs) o (e, all_lower xs x e o.0)))

  -- those of a level, found behind the lower ones
  pub level_is : (xs : List ContraItem) → InOrder contra_before xs → (m n : ℕ) (ys : List ContraItem) → ys ≡ take (length xs - m) (drop m xs) → m ≡ prefix_len (λ y. int_lt y.level z) xs → n ≡ prefix_len (at_level z) ys → take n ys ≡ items_at z xs
  level_is xs o m n ys e lower count =
      let behind : ys ≡ drop (prefix_len (λ y. int_lt y.level z) xs) xs = e ∙ (take_rest xs m ∙ ap (λ k. drop k xs) lower) in
      ap (λ k. take k ys) count ∙ (ap (λ l. take (prefix_len (at_level z) l) l) behind ∙ sym (level_taken xs o))

  all_kinds : (x : ContraItem) (xs : List ContraItem) → at_level z x ≡ true → AllByRecursion (λ y. contra_before x y ≡ true) xs → AllByRecursion (λ y. (x.customer || not y.customer) ≡ true) (items_at z xs)
  all_kinds x [] e a = tt
  all_kinds x (y ∷ ys) e a =
      cond_both (at_level z y) _ _ (AllByRecursion (λ y. (x.customer || not y.customer) ≡ true))
      (λ f. (level_kinds x y e f a.0, all_kinds x ys e a.1))
      (λ f. all_kinds x ys e a.1)

  pub customers_lead : (xs : List ContraItem) → InOrder contra_before xs → CustomersFirst (items_at z xs)
  customers_lead [] o = tt
  customers_lead (x ∷ xs) o =
      cond_both (at_level z x) _ _ CustomersFirst
      (λ e. (all_kinds x xs e o.0, customers_lead xs o.1))
      (λ e. customers_lead xs o.1)
