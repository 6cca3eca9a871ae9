-- Drawing from the front: the loop, and what holds of any drawing.
use Rattle.std.proofs.Common.{◌≡◌, ℕ, zero, suc, ◌+◌, ◌-◌, ◌<◌, ◌≤◌, min, Bool, true, List, [], ◌∷◌, ◌++◌, length, get_or, take, drop, set, sum_by, sym, ap, ◌∙◌, subst, inl, inr, arith}
use Rattle.std.proofs.lemmas.List.{append_assoc, append-nil, drop_all, drop_more, drop-set-lt, take_all, take_more_set}
use Rattle.std.proofs.lemmas.List.Sums.{sum_by-cons, sum_by_more}
use Rattle.std.proofs.lemmas.Bool.{cases_lt}
use Rattle.std.specs.List.{AllZip, AllByRecursion}
use Rattle.ranked.specs.Draws.{Drawing, drawn}
use Rattle.ranked.specs.Ranks.{InOrder}

module _ {X : Type 0} (contracts : X → ℕ) (reduced : X → ℕ → X) where
  -- the first i of xs were drawn from, which leaves ws
  module _ (xs ws : List X) (q left i : ℕ) (front : take i ws ++ drawn contracts reduced left (drop i xs) ≡ drawn contracts reduced q xs) (same : drop i ws ≡ drop i xs) (due : left ≡ q - sum_by contracts (take i xs)) where
    module _ (d y : X) (m : ℕ) (h : i < length ws) (k : i < length xs) (remains : m ≡ left - min left (contracts (get_or ws i d))) (gave : y ≡ reduced (get_or ws i d) (min left (contracts (get_or ws i d)))) where
      rest : get_or ws i d ∷ drop (i + 1) ws ≡ get_or xs i d ∷ drop (i + 1) xs
      rest = sym (drop_more ws i d h) ∙ (same ∙ drop_more xs i d k)

      first : get_or ws i d ≡ get_or xs i d
      first = let e = rest in cc

      later : drop (i + 1) ws ≡ drop (i + 1) xs
      later = let e = rest in cc

      pub front_more : take (i + 1) (set ws i y) ++ drawn contracts reduced m (drop (i + 1) xs) ≡ drawn contracts reduced q xs
      front_more =
          let e : drawn contracts reduced left (drop i xs) ≡ y ∷ drawn contracts reduced m (drop (i + 1) xs) =
          ap (drawn contracts reduced left) (drop_more xs i d k ∙ ap (λ z. z ∷ drop (i + 1) xs) (sym first))
          ∙ (ap (λ z. z ∷ drawn contracts reduced (left - min left (contracts (get_or ws i d))) (drop (i + 1) xs)) (sym gave)
          ∙ ap (λ n. y ∷ drawn contracts reduced n (drop (i + 1) xs)) (sym remains)) in
          ap (λ l. l ++ drawn contracts reduced m (drop (i + 1) xs)) (take_more_set ws i y h)
          ∙ (append_assoc (take i ws) (y ∷ []) _ ∙ (ap (λ l. take i ws ++ l) (sym e) ∙ front))

      pub same_more : drop (i + 1) (set ws i y) ≡ drop (i + 1) xs
      same_more = drop-set-lt (i + 1) ws i y (omega arith) ∙ later

      pub due_more : m ≡ q - sum_by contracts (take (i + 1) xs)
      due_more = let e = sum_by_more contracts xs i d k in let f = ap contracts first in omega arith

    pub all_drawn : length ws ≤ i → length xs ≤ i → ws ≡ drawn contracts reduced q xs
    all_drawn h k =
        sym (take_all i ws h) ∙ (sym (append-nil (take i ws)) ∙ (sym (ap (λ l. take i ws ++ drawn contracts reduced left l) (drop_all i xs k)) ∙ front))

    pub lesser_drawn : length xs ≤ i → q - left ≡ min q (sum_by contracts xs)
    lesser_drawn k = let e = ap (sum_by contracts) (take_all i xs k) in omega arith

  module _ (law : (x : X) (k : ℕ) → k ≤ contracts x → contracts (reduced x k) ≡ contracts x - k) where
    given_up : (x : X) (q : ℕ) → contracts (reduced x (min q (contracts x))) ≡ contracts x - q
    given_up x q = let e = law x (min q (contracts x)) (omega arith) in omega arith

    drawn_whole : (xs : List X) (q : ℕ) → sum_by contracts (drawn contracts reduced q xs) + min q (sum_by contracts xs) ≡ sum_by contracts xs
    drawn_whole [] q = omega arith
    drawn_whole (x ∷ xs) q =
        let e = drawn_whole xs (q - min q (contracts x)) in
        let f = given_up x q in
        omega (arith, sum_by-cons contracts x xs, sum_by-cons contracts (reduced x (min q (contracts x))) (drawn contracts reduced (q - min q (contracts x)) xs))

    none_drawn : (xs : List X) (q l : ℕ) (d : X) → q ≡ 0 → contracts (get_or xs l d) ≤ contracts (get_or (drawn contracts reduced q xs) l d)
    none_drawn [] q l d e = omega arith
    none_drawn (x ∷ xs) q zero d e = omega (arith, given_up x q)
    none_drawn (x ∷ xs) q (suc l) d e = none_drawn xs (q - min q (contracts x)) l d (omega arith)

    drawn_front : (xs : List X) (q k l : ℕ) (d : X) → k < l → l < length xs → contracts (get_or (drawn contracts reduced q xs) l d) < contracts (get_or xs l d) → contracts (get_or (drawn contracts reduced q xs) k d) ≡ 0
    drawn_front [] q k l d h m g = omega arith
    drawn_front (x ∷ xs) q zero zero d h m g = omega arith
    drawn_front (x ∷ xs) q zero (suc l) d h m g =
        elim (cases_lt q (contracts x)) [
          | inl s ↦ omega (arith, none_drawn xs (q - min q (contracts x)) l d (omega arith))
          | inr s ↦ omega (arith, given_up x q)
        ]
    drawn_front (x ∷ xs) q (suc k) zero d h m g = omega arith
    drawn_front (x ∷ xs) q (suc k) (suc l) d h m g = drawn_front xs (q - min q (contracts x)) k l d (omega arith) (omega arith) g

    module _ {R : Type 0} (rank : X → R) (ranked : (x : X) (k : ℕ) → rank (reduced x k) ≡ rank x) where
      abbrev Gives : X → X → Type 0
      Gives x y = (rank y ≡ rank x) × (contracts y ≤ contracts x)

      drawn_each : (xs : List X) (q : ℕ) → AllZip Gives xs (drawn contracts reduced q xs)
      drawn_each [] q = tt
      drawn_each (x ∷ xs) q = ((ranked x (min q (contracts x)), omega (arith, given_up x q)), drawn_each xs (q - min q (contracts x)))

      module _ (before : X → X → Bool) (level : (x y : X) → rank x ≡ rank y → before x y ≡ true) (passed : (x y z : X) → before x y ≡ true → before y z ≡ true → before x z ≡ true) where
        all_behind : (x y : X) → rank y ≡ rank x → (xs ys : List X) → AllZip Gives xs ys → AllByRecursion (λ z. before x z ≡ true) xs → AllByRecursion (λ z. before y z ≡ true) ys
        all_behind x y e [] [] p a = tt
        all_behind x y e [] (w ∷ ws) p a = elim p [ ]
        all_behind x y e (z ∷ zs) [] p a = elim p [ ]
        all_behind x y e (z ∷ zs) (w ∷ ws) p a =
            (passed y x w (level y x e) (passed x z w a.0 (level z w (sym p.0.0))), all_behind x y e zs ws p.1 a.1)

        still_ordered : (xs ys : List X) → AllZip Gives xs ys → InOrder before xs → InOrder before ys
        still_ordered [] [] p o = tt
        still_ordered [] (y ∷ ys) p o = elim p [ ]
        still_ordered (x ∷ xs) [] p o = elim p [ ]
        still_ordered (x ∷ xs) (y ∷ ys) p o = (all_behind x y p.0.0 xs ys p.1 o.0, still_ordered xs ys p.1 o.1)

        pub drawing_is : (xs ys : List X) (q answer : ℕ) → answer ≡ min q (sum_by contracts xs) → ys ≡ drawn contracts reduced q xs → Drawing rank before contracts xs q answer ys
        drawing_is xs ys q answer e f =
            let P : List X → Type 0 = Drawing rank before contracts xs q answer in
            subst P (sym f) (record {
              lesser = e;
              whole = omega (arith, drawn_whole xs q);
              each = drawn_each xs q;
              front = drawn_front xs q;
              order = still_ordered xs (drawn contracts reduced q xs) (drawn_each xs q);
            })
