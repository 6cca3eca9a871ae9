-- Where the spellings of a text stand.
use Rattle.std.proofs.Common.{◌≡◌, ℕ, ◌+◌, ◌<◌, ◌≤◌, Bool, true, false, cond, ◌&&◌, eqb, List, [], ◌∷◌, ◌++◌, length, get_or, take, drop, sym, refl, ap, ◌∙◌, add-zero, one-add, arith}
use Rattle.std.proofs.lemmas.List.{drop_all, get_or-drop, length-drop, length-take-le, take-append-drop}
use Rattle.std.proofs.lemmas.List.Sums.{prefix_len_stops}
use Rattle.std.proofs.lemmas.Bool.{cond-false}
use Rattle.std.proofs.lemmas.Bool.Decides.{nat_tests}
use Rattle.std.specs.List.{prefix_len}
use Rattle.script.specs.Lexed.{Begins, Span, begun_at, gap, goes_on, in_word, spanned, spans, spelling_len}

moved : (i j : ℕ) (xs ys : List ℕ) → i ≡ j → xs ≡ ys → spans i xs ≡ spans j ys
moved i j xs ys e f = ap (λ k. spans k xs) e ∙ ap (spans j) f

-- gaps are passed over
gap_by : (t : Bool) (i b n : ℕ) (bs : List ℕ) (other : List Span) → spans (i + 1) bs ≡ spans (i + 1 + n) (drop n bs) → (t ≡ false → other ≡ spans i (b ∷ bs)) → cond t (spans (i + 1) bs) other ≡ spans (i + cond t (1 + n) 0) (drop (cond t (1 + n) 0) (b ∷ bs))
gap_by true i b n bs other e k = e ∙ moved (i + 1 + n) (i + (1 + n)) (drop n bs) (drop (1 + n) (b ∷ bs)) (omega arith) (sym (ap (λ m. drop m (b ∷ bs)) (one-add n)))
gap_by false i b n bs other e k = k refl ∙ ap (λ m. spans m (b ∷ bs)) (sym (add-zero i))

pub past_gaps : (i : ℕ) (xs : List ℕ) → spans i xs ≡ spans (i + prefix_len gap xs) (drop (prefix_len gap xs) xs)
past_gaps i [] = refl
past_gaps i (b ∷ bs) = gap_by (gap b) i b (prefix_len gap bs) bs _ (past_gaps (i + 1) bs) (λ e. sym (cond-false (gap b) (spans (i + 1) bs) _ e))

pub no_gap : (b : ℕ) → in_word b ≡ true → gap b ≡ false
no_gap b e = grind (arith, nat_tests)

opened : (g w t : Bool) (xs ys zs : List Span) → g ≡ false → w ≡ true → cond g xs (cond (w && t) ys zs) ≡ cond t ys zs
opened g w t xs ys zs e f = ap (λ g. cond g xs (cond (w && t) ys zs)) e ∙ ap (λ w. cond (w && t) ys zs) f

same_first : (i j k : ℕ) (ss ts : List Span) → j ≡ k → ss ≡ ts → spanned i j ∷ ss ≡ spanned i k ∷ ts
same_first i j k ss ts e f = ap (λ m. spanned i m ∷ ss) e ∙ ap (λ us. spanned i k ∷ us) f

run_by : (t : Bool) (i c n : ℕ) (cs : List ℕ) → (t ≡ true → spans (i + 1) (c ∷ cs) ≡ spanned (i + 1) (i + 1 + (1 + n)) ∷ spans (i + 1 + (1 + n)) (drop n cs)) → cond t (begun_at i (spans (i + 1) (c ∷ cs))) (spanned i (i + 1) ∷ spans (i + 1) (c ∷ cs)) ≡ spanned i (i + (1 + cond t (1 + n) 0)) ∷ spans (i + (1 + cond t (1 + n) 0)) (drop (cond t (1 + n) 0) (c ∷ cs))
run_by true i c n cs k =
    ap (begun_at i) (k refl)
    ∙ same_first i (i + 1 + (1 + n)) (i + (1 + (1 + n))) (spans (i + 1 + (1 + n)) (drop n cs)) (spans (i + (1 + (1 + n))) (drop (1 + n) (c ∷ cs))) (omega arith)
    (moved (i + 1 + (1 + n)) (i + (1 + (1 + n))) (drop n cs) (drop (1 + n) (c ∷ cs)) (omega arith) (sym (ap (λ m. drop m (c ∷ cs)) (one-add n))))
run_by false i c n cs k = refl

run_at : (i b : ℕ) (bs : List ℕ) → in_word b ≡ true → spans i (b ∷ bs) ≡ spanned i (i + (1 + prefix_len in_word bs)) ∷ spans (i + (1 + prefix_len in_word bs)) (drop (prefix_len in_word bs) bs)
run_at i b [] e = opened (gap b) (in_word b) false (spans (i + 1) []) (begun_at i (spans (i + 1) [])) (spanned i (i + 1) ∷ []) (no_gap b e) e
run_at i b (c ∷ cs) e =
    opened (gap b) (in_word b) (in_word c) (spans (i + 1) (c ∷ cs)) (begun_at i (spans (i + 1) (c ∷ cs))) (spanned i (i + 1) ∷ spans (i + 1) (c ∷ cs)) (no_gap b e) e
    ∙ run_by (in_word c) i c (prefix_len in_word cs) cs (run_at (i + 1) c cs)

comma_at : (g w t : Bool) (xs ys zs : List Span) → g ≡ false → w ≡ false → cond g xs (cond (w && t) ys zs) ≡ zs
comma_at g w t xs ys zs e f = ap (λ g. cond g xs (cond (w && t) ys zs)) e ∙ ap (λ w. cond (w && t) ys zs) f

-- a spelling is as long as it is
spelling_by : (t w : Bool) (i b : ℕ) (bs : List ℕ) → eqb b 44 ≡ t → in_word b ≡ w → gap b ≡ false → spans i (b ∷ bs) ≡ spanned i (i + cond t 1 (cond w (1 + prefix_len in_word bs) 0)) ∷ spans (i + cond t 1 (cond w (1 + prefix_len in_word bs) 0)) (drop (cond t 1 (cond w (1 + prefix_len in_word bs) 0)) (b ∷ bs))
spelling_by true w i b bs e f g = comma_at (gap b) (in_word b) (goes_on bs) (spans (i + 1) bs) (begun_at i (spans (i + 1) bs)) (spanned i (i + 1) ∷ spans (i + 1) bs) g (grind (arith, nat_tests))
spelling_by false true i b bs e f g =
    run_at i b bs f
    ∙ ap (λ ys. spanned i (i + (1 + prefix_len in_word bs)) ∷ spans (i + (1 + prefix_len in_word bs)) ys) (sym (ap (λ m. drop m (b ∷ bs)) (one-add (prefix_len in_word bs))))
spelling_by false false i b bs e f g = let z : ◌≡◌ {A = Bool} true false = grind (arith, nat_tests) in absurd (grind arith)

pub spelling_at : (i b : ℕ) (bs : List ℕ) → gap b ≡ false → spans i (b ∷ bs) ≡ spanned i (i + spelling_len (b ∷ bs)) ∷ spans (i + spelling_len (b ∷ bs)) (drop (spelling_len (b ∷ bs)) (b ∷ bs))
spelling_at i b bs g = spelling_by (eqb b 44) (in_word b) i b bs refl refl g

some_by : (t w : Bool) (b n : ℕ) → eqb b 44 ≡ t → in_word b ≡ w → gap b ≡ false → 0 < cond t 1 (cond w (1 + n) 0)
some_by true w b n e f g = omega arith
some_by false true b n e f g = omega arith
some_by false false b n e f g = let z : ◌≡◌ {A = Bool} true false = grind (arith, nat_tests) in absurd (grind arith)

some_spelling : (b : ℕ) (bs : List ℕ) → gap b ≡ false → 0 < spelling_len (b ∷ bs)
some_spelling b bs g = some_by (eqb b 44) (in_word b) b (prefix_len in_word bs) refl refl g

at_run : (text xs : List ℕ) (i : ℕ) → drop (prefix_len gap text) text ≡ xs → 0 < length xs → (spans i xs ≡ spanned i (i + spelling_len xs) ∷ spans (i + spelling_len xs) (drop (spelling_len xs) xs)) × (0 < spelling_len xs)
at_run text [] i e h = absurd (omega arith)
at_run text (b ∷ bs) i e h =
    let n : ℕ = prefix_len gap text in
    let some : n < length text = omega (arith, ap length e, length-drop n text) in
    let here : get_or text n 0 ≡ b = ap (λ m. get_or text m 0) (sym (add-zero n)) ∙ (sym (get_or-drop n text 0 0) ∙ ap (λ xs. get_or xs 0 0) e) in
    let g : gap b ≡ false = sym (ap gap here) ∙ prefix_len_stops gap text 0 some in
    (spelling_at i b bs g, some_spelling b bs g)

module _ (text left : List ℕ) (cut : drop (prefix_len gap text) text ≡ left) where
  pub none_left : eqb (length left) 0 ≡ true → (i : ℕ) → spans i text ≡ []
  none_left e i =
      let h : length left ≡ 0 = grind (arith, nat_tests) in
      past_gaps i text
      ∙ ap (spans (i + prefix_len gap text)) (drop_all (prefix_len gap text) text (omega (arith, length-drop (prefix_len gap text) text, ap length cut)))

  pub some_left : (m : ℕ) (spelling rest : List ℕ) → eqb (length left) 0 ≡ false → m ≡ spelling_len left → m ≤ length left → spelling ≡ take m left → rest ≡ drop m left → Begins text spelling rest
  some_left m spelling rest t e l f g =
      let k : ℕ = prefix_len gap text in
      let h : 0 < length left = grind (arith, nat_tests) in
      let size : length spelling ≡ m = ap length f ∙ length-take-le m left l in
      let long : spelling_len left ≡ length spelling = sym e ∙ sym size in
      let after : drop (spelling_len left) left ≡ rest = ap (λ j. drop j left) (sym e) ∙ sym g in
      record {
        cut = cut ∙ (sym (take-append-drop m left) ∙ (ap (λ xs. xs ++ drop m left) (sym f) ∙ ap (λ xs. spelling ++ xs) (sym g)));
        some = omega (arith, (at_run text left 0 cut h).1);
        first = λ i.
            past_gaps i text
            ∙ (ap (spans (i + k)) cut
            ∙ ((at_run text left (i + k) cut h).0
            ∙ same_first (i + k) (i + k + spelling_len left) (i + k + length spelling) _ _
            (ap (λ j. i + k + j) long)
            (moved (i + k + spelling_len left) (i + k + length spelling) _ rest (ap (λ j. i + k + j) long) after)));
      }
