-- Records put one after the other into an ordered list over given places.
use Rattle.std.proofs.Common.{◌≡◌, ℕ, ◌+◌, ◌<◌, ◌≤◌, Bool, true, cond, List, [], ◌∷◌, ◌++◌, length, get_or, take, drop, IfSome, is_ok, Some, None, Ok, Err, fold, Option, Result, sym, refl, ap, ◌∙◌, subst, arith}
use Rattle.std.proofs.lemmas.List.{append_assoc, append-nil, take_more, drop_at, drop-drop, length-append, length-drop, length-take-le, take-append-drop, take_at}
use Rattle.std.proofs.lemmas.List.Sorted.{length_permutation}
use Rattle.std.proofs.ByRecursion.{All-append}
use Rattle.std.specs.List.{flat_map, AllByRecursion}
use Rattle.ranked.proofs.Placement.{folded_whole}
use Rattle.std.specs.Option.{option_to_list}
use Rattle.std.proofs.lemmas.Bool.{lt-ltb}
use Rattle.terms.specs.declared.refusal.Refusal.{Refusal}
use Rattle.terms.specs.declared.refusal.Refusal.TheVariants.{Full}
use Rattle.ranked.specs.Ranks.{placed, room}
use Rattle.contra.specs.Gathered.{gathered}

pub folded_append : {X Y : Type 0} (f : Y → X → Y) (a : Y) (xs ys : List X) → fold f a (xs ++ ys) ≡ fold f (fold f a xs) ys
folded_append f a [] ys = refl
folded_append f a (x ∷ xs) ys = folded_append f (f a x) xs ys

module _ {X : Type 0} (before : X → X → Bool) where
  pub gathered_none : (places : List X) (len : ℕ) → places ≡ gathered before places len []
  unfolding gathered
  gathered_none places len =
      let e : len + 0 ≡ len = omega arith in
      sym (take-append-drop len places) ∙ ap (λ n. take len places ++ drop n places) (sym e)

  pub gathered_one : (places zs : List X) (len : ℕ) (x : X) → zs ≡ placed before (take len places) x ++ drop (len + 1) places → zs ≡ gathered before places len (x ∷ [])
  unfolding gathered
  gathered_one places zs len x e = e

  front_length : (places : List X) (len : ℕ) (xs : List X) → len ≤ length places → length (fold (placed before) (take len places) xs) ≡ len + length xs
  front_length places len xs h =
      length_permutation _ _ (folded_whole before xs (take len places))
      ∙ (length-append (take len places) xs ∙ ap (λ n. n + length xs) (length-take-le len places h))

  pub gathered_length : (places : List X) (len : ℕ) (xs : List X) → len + length xs ≤ length places → length (gathered before places len xs) ≡ length places
  unfolding gathered
  gathered_length places len xs h =
      omega
      (arith, length-append (fold (placed before) (take len places) xs) (drop (len + length xs) places), front_length places len xs (omega arith), length-drop (len + length xs) places)

  pub gathered_more : (places : List X) (len : ℕ) (xs ys : List X) → len ≤ length places → gathered before (gathered before places len xs) (len + length xs) ys ≡ gathered before places len (xs ++ ys)
  unfolding gathered
  gathered_more places len xs ys h =
      let front : List X = fold (placed before) (take len places) xs in
      let n : length front ≡ len + length xs = front_length places len xs h in
      let e : take (len + length xs) (front ++ drop (len + length xs) places) ≡ front = take_at front _ (len + length xs) n in
      let s : len + length xs + length ys ≡ len + length (xs ++ ys) = omega (arith, length-append xs ys) in
      let d : drop (len + length xs + length ys) (front ++ drop (len + length xs) places) ≡ drop (len + length (xs ++ ys)) places =
      sym (drop-drop (length ys) (len + length xs) (front ++ drop (len + length xs) places))
      ∙ (ap (drop (length ys)) (drop_at front (drop (len + length xs) places) (len + length xs) n)
      ∙ (drop-drop (length ys) (len + length xs) places ∙ ap (λ k. drop k places) s)) in
      ap (λ l. fold (placed before) l ys ++ drop (len + length xs + length ys) (front ++ drop (len + length xs) places)) e
      ∙ (ap (λ l. l ++ drop (len + length xs + length ys) (front ++ drop (len + length xs) places)) (sym (folded_append (placed before) (take len places) xs ys))
      ∙ ap (λ l. fold (placed before) (take len places) (xs ++ ys) ++ l) d)

-- one record or none is put where there is room for it
module _ {X : Type 0} (before : X → X → Bool) where
  pub put_none : (places : List X) (len : ℕ) (item : Option X) → item ≡ None → places ≡ gathered before places len (option_to_list item)
  put_none places len item e = rw e (gathered_none before places len)

  module _ {F : Type 0} (places zs : List X) (len : ℕ) (x : X) (item : Option X) (r : Result (Unit {0}) (Refusal F)) (is : item ≡ Some x) (h : len < length places) (answer : r ≡ room len (length places)) where
    went : is_ok r ≡ true
    went = ap is_ok answer ∙ ap (λ b. is_ok {E = Refusal F} (cond b (Ok tt) (Err Full))) (lt-ltb len (length places) h)

    pub put_some : zs ≡ cond (is_ok r) (placed before (take len places) x ++ drop (len + 1) places) places → zs ≡ gathered before places len (option_to_list item)
    put_some e = rw is (gathered_one before places zs len x (e ∙ ap (λ b. cond b (placed before (take len places) x ++ drop (len + 1) places) places) went))

    pub put_some_size : zs ≡ cond (is_ok r) (placed before (take len places) x ++ drop (len + 1) places) places → length zs ≡ length places
    put_some_size e = ap length (put_some e) ∙ (rw is (gathered_length before places len (x ∷ []) (omega arith)))

-- a list of entries, each of which makes one record or none
module _ {X Y : Type 0} (f : Y → Option X) where
  abbrev made : List Y → List X
  made ys = flat_map (λ y. option_to_list (f y)) ys

  some_length : (o : Option X) → length (option_to_list o) ≤ 1
  some_length None = omega arith
  some_length (Some x) = omega arith

  made_append : (xs ys : List Y) → made (xs ++ ys) ≡ made xs ++ made ys
  made_append [] ys = refl
  made_append (x ∷ xs) ys = ap (λ l. option_to_list (f x) ++ l) (made_append xs ys) ∙ sym (append_assoc (option_to_list (f x)) (made xs) (made ys))

  made_more : (ys : List Y) (i : ℕ) (y : Y) → i < length ys → y ≡ get_or ys i y → made (take (i + 1) ys) ≡ made (take i ys) ++ option_to_list (f y)
  made_more ys i y h e =
      ap made (take_more ys i y h)
      ∙ (made_append (take i ys) (get_or ys i y ∷ [])
      ∙ (ap (λ l. made (take i ys) ++ l) (append-nil (option_to_list (f (get_or ys i y))))
      ∙ ap (λ z. made (take i ys) ++ option_to_list (f z)) (sym e)))

  pub made_length : (ys : List Y) → length (made ys) ≤ length ys
  made_length [] = omega arith
  made_length (y ∷ ys) = omega (arith, length-append (option_to_list (f y)) (made ys), some_length (f y), made_length ys)

  made_few : (ys : List Y) (i : ℕ) → i ≤ length ys → length (made (take i ys)) ≤ i
  made_few ys i h = omega (arith, made_length (take i ys), length-take-le i ys h)

  -- what holds of each record that is made
  pub made_turns : (P : X → Type 0) (ys : List Y) (i : ℕ) (y : Y) (item : Option X) → i < length ys → y ≡ get_or ys i y → item ≡ f y → AllByRecursion P (made (take i ys)) → IfSome item P → AllByRecursion P (made (take (i + 1) ys))
  made_turns P ys i y item h read is a k =
      let e : made (take (i + 1) ys) ≡ made (take i ys) ++ option_to_list item = made_more ys i y h read ∙ ap (λ o. made (take i ys) ++ option_to_list o) (sym is) in
      let Q : List X → Type 0 = AllByRecursion P in
      subst Q (sym e) (All-append P (made (take i ys)) (option_to_list item) a (one item k))
    where
      one : (o : Option X) → IfSome o P → AllByRecursion P (option_to_list o)
      one None k = tt
      one (Some x) k = (k, tt)

  -- the first i entries were put into a list that had `start` records over `old`, which gives `len` over zs
  module _ (before : X → X → Bool) (ys : List Y) (old zs : List X) (start len i : ℕ) (after : zs ≡ gathered before old start (made (take i ys))) (grown : len ≡ start + length (made (take i ys))) (fits : start + length ys ≤ length old) where
    pub gather_room : i < length ys → length zs ≡ length old → len < length zs
    gather_room h e = omega (arith, made_few ys i (omega arith))

    module _ (y : Y) (item : Option X) (ws : List X) (n : ℕ) (h : i < length ys) (read : y ≡ get_or ys i y) (is : item ≡ f y) where
      items_on : made (take (i + 1) ys) ≡ made (take i ys) ++ option_to_list item
      items_on = made_more ys i y h read ∙ ap (λ o. made (take i ys) ++ option_to_list o) (sym is)

      pub gather_on : ws ≡ gathered before zs len (option_to_list item) → ws ≡ gathered before old start (made (take (i + 1) ys))
      gather_on e =
          e
          ∙ (ap (λ l. gathered before l len (option_to_list item)) after
          ∙ (ap (λ k. gathered before (gathered before old start (made (take i ys))) k (option_to_list item)) grown
          ∙ (gathered_more before old start (made (take i ys)) (option_to_list item) (omega arith)
          ∙ ap (gathered before old start) (sym items_on))))

      pub gather_len : n ≡ len + length (option_to_list item) → n ≡ start + length (made (take (i + 1) ys))
      gather_len e = omega (arith, ap length items_on, length-append (made (take i ys)) (option_to_list item))

-- two lists of records put into a list that was empty over `old`
module _ {X : Type 0} (before : X → X → Bool) (old p₀ p₁ p₂ xs ys : List X) (n₀ n₁ n₂ n : ℕ) where
  module _ (empty : n₀ ≡ 0) (over : p₀ ≡ old) (first : p₁ ≡ gathered before p₀ n₀ xs) (grown : n₁ ≡ n₀ + length xs) (second : p₂ ≡ gathered before p₁ n₁ ys) (full : n₂ ≡ n₁ + length ys) (counted : n ≡ length (take n₂ p₂)) (fits : length xs + length ys ≤ length old) where
    both : p₂ ≡ gathered before old 0 (xs ++ ys)
    both =
        second
        ∙ (ap (λ l. gathered before l n₁ ys) (first ∙ (ap (λ l. gathered before l n₀ xs) over ∙ ap (λ k. gathered before old k xs) empty))
        ∙ (ap (λ k. gathered before (gathered before old 0 xs) k ys) (grown ∙ ap (λ k. k + length xs) empty)
        ∙ gathered_more before old 0 xs ys (omega arith)))

    long : length (xs ++ ys) ≡ length xs + length ys
    long = length-append xs ys

    pub rank_count : n ≡ length (xs ++ ys)
    rank_count =
        let s : length p₂ ≡ length old = ap length both ∙ gathered_length before old 0 (xs ++ ys) (omega (arith, long)) in
        omega (arith, long, length-take-le n₂ p₂ (omega arith))

    pub rank_after : p₂ ≡ fold (placed before) [] (xs ++ ys) ++ drop n old
    unfolding gathered
    rank_after = both ∙ ap (λ k. fold (placed before) [] (xs ++ ys) ++ drop k old) (let e = rank_count in omega arith)

pub fits_made : {X Y Z W : Type 0} (f : Y → Option X) (g : Z → Option X) (ys : List Y) (zs : List Z) (old : List W) → length ys + length zs ≤ length old → length (flat_map (λ y. option_to_list (f y)) ys) + length (flat_map (λ z. option_to_list (g z)) zs) ≤ length old
fits_made f g ys zs old h = omega (arith, made_length f ys, made_length g zs)

pub few_made : {X Y Z : Type 0} (f : Y → Option X) (g : Z → Option X) (ys : List Y) (zs : List Z) → length (flat_map (λ y. option_to_list (f y)) ys ++ flat_map (λ z. option_to_list (g z)) zs) ≤ length ys + length zs
few_made f g ys zs = omega (arith, length-append (flat_map (λ y. option_to_list (f y)) ys) (flat_map (λ z. option_to_list (g z)) zs), made_length f ys, made_length g zs)
