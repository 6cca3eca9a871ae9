-- Every word is read back from what is written of it.
use Rattle.std.proofs.Common.{◌≡◌, ℕ, suc, ◌^◌, ◌<◌, ◌≤◌, true, false, not, ◌&&◌, eqb, ltb, leb, List, [], ◌∷◌, length, get_or, ℤ, pos, negsuc, Some, None, decimal, Option, sym, refl, ap, ◌∙◌, inl, inr, arith}
use Rattle.std.proofs.lemmas.Fmt.{decimal_nonempty, digits_decimal, digits_value-decimal}
use Rattle.std.proofs.lemmas.Slice.Eq.{bytes_eq-Decides}
use Rattle.std.proofs.lemmas.Bool.{and_from, cases_Bool, cond-false, cond-true, leb-true, lt-ltb, ne_eqb, not-true}
use Rattle.std.proofs.lemmas.Bool.Decides.{nat_tests}
use Rattle.std.specs.Option.{option_map}
use Rattle.std.specs.Str.{all_ascii_digits, bytes_eq}
use Rattle.script.specs.declared.keyword.Keyword.{Keyword}
use Rattle.script.specs.declared.word.Word.{Word}
use Rattle.script.specs.declared.word.Word.TheVariants.{Key, Comma, Number, Negative}
use Rattle.script.specs.Keywords.{keyword_in, keyword_of, keywords, spelling}
use Rattle.script.specs.Words.{Fit, is_comma, minus, number_below, numeral_of, or_else, plain, read_on, word_of, writes_below, written}
use Rattle.script.proofs.Lookups.{every, found}
use Rattle.script.proofs.Numbers.{own}

read_below : (bound n : ℕ) → n < bound → bound ≤ 4294967296 → number_below bound (decimal n) ≡ Some n
read_below bound n h k =
    let small : n < 2 ^ 64 = omega arith in
    let digits : all_ascii_digits (decimal n) ≡ true = digits_decimal own n small in
    let same : read_on 0 (decimal n) ≡ n = digits_value-decimal own n small in
    let some : ltb 0 (length (decimal n)) ≡ true = lt-ltb 0 (length (decimal n)) (decimal_nonempty n small) in
    let fits : ltb (read_on 0 (decimal n)) bound ≡ true = ap (λ m. ltb m bound) same ∙ lt-ltb n bound h in
    cond-true (writes_below bound (decimal n)) (Some (read_on 0 (decimal n))) None
    (and_from (ltb 0 (length (decimal n))) (all_ascii_digits (decimal n) && ltb (read_on 0 (decimal n)) bound) some
    (and_from (all_ascii_digits (decimal n)) (ltb (read_on 0 (decimal n)) bound) digits fits))
    ∙ ap Some same

first_digit : (ds : List ℕ) → all_ascii_digits ds ≡ true → 0 < length ds → (48 ≤ get_or ds 0 0) × (get_or ds 0 0 ≤ 57)
first_digit [] e h = absurd (omega arith)
first_digit (c ∷ cs) e h = (grind (arith, nat_tests), grind (arith, nat_tests))

no_comma : (bs : List ℕ) → (get_or bs 0 0 ≡ 44 → ⊥) → is_comma bs ≡ false
no_comma [] h = refl
no_comma (c ∷ []) h = ne_eqb c 44 h
no_comma (c ∷ d ∷ cs) h = refl

letter : (k : Keyword) → leb 97 (get_or (spelling k) 0 0) ≡ true
letter = every (λ k. leb 97 (get_or (spelling k) 0 0)) refl

not_spelled : (k : Keyword) (bs : List ℕ) → get_or bs 0 0 < 97 → bytes_eq (spelling k) bs ≡ false
not_spelled k bs h =
    elim (cases_Bool (bytes_eq (spelling k) bs)) [
      | inl e ↦
          let same : get_or (spelling k) 0 0 ≡ get_or bs 0 0 = ap (λ xs. get_or xs 0 0) ((bytes_eq-Decides (spelling k) bs).0 e) in
          absurd (omega (arith, leb-true 97 (get_or (spelling k) 0 0) (letter k)))
      | inr e ↦ e
    ]

not_in : (ks : List Keyword) (bs : List ℕ) → get_or bs 0 0 < 97 → keyword_in ks bs ≡ None
not_in [] bs h = refl
not_in (k ∷ ks) bs h = cond-false (bytes_eq (spelling k) bs) (Some k) (keyword_in ks bs) (not_spelled k bs h) ∙ not_in ks bs h

no_keyword : (bs : List ℕ) → get_or bs 0 0 < 97 → keyword_of bs ≡ None
unfolding keyword_of
no_keyword bs h = not_in keywords bs h

-- what begins with neither a letter nor a comma is a number or nothing
numeral_only : (bs : List ℕ) → get_or bs 0 0 < 97 → (get_or bs 0 0 ≡ 44 → ⊥) → word_of bs ≡ numeral_of bs
numeral_only bs h k =
    cond-false (is_comma bs) (Some Comma) (or_else (option_map Key (keyword_of bs)) (numeral_of bs)) (no_comma bs k)
    ∙ ap (λ o. or_else (option_map Key o) (numeral_of bs)) (no_keyword bs h)

number_back : (n : ℕ) → n < 4294967296 → word_of (decimal n) ≡ Some (Number n)
number_back n h =
    let small : n < 2 ^ 64 = omega arith in
    let first : (48 ≤ get_or (decimal n) 0 0) × (get_or (decimal n) 0 0 ≤ 57) = first_digit (decimal n) (digits_decimal own n small) (decimal_nonempty n small) in
    numeral_only (decimal n) (omega (arith, first.1)) (λ e. omega (arith, first.0))
    ∙ (cond-false (eqb (get_or (decimal n) 0 0) 45) _ (option_map plain (number_below 4294967296 (decimal n))) (ne_eqb (get_or (decimal n) 0 0) 45 (λ e. omega (arith, first.0)))
    ∙ ap (option_map plain) (read_below 4294967296 n h (omega arith)))

minus_back : (n : ℕ) → n < 2147483649 → word_of (45 ∷ decimal n) ≡ Some (minus n)
minus_back n h = numeral_only (45 ∷ decimal n) (omega arith) (λ e. omega arith) ∙ ap (option_map minus) (read_below 2147483649 n h (omega arith))

no_comma_word : (k : Keyword) → is_comma (spelling k) ≡ false
no_comma_word k = not-true (is_comma (spelling k)) (every (λ j. not (is_comma (spelling j))) refl k)

key_back : (k : Keyword) → word_of (spelling k) ≡ Some (Key k)
key_back k =
    cond-false (is_comma (spelling k)) (Some Comma) (or_else (option_map Key (keyword_of (spelling k))) (numeral_of (spelling k))) (no_comma_word k)
    ∙ ap (λ o. or_else (option_map Key o) (numeral_of (spelling k))) (found k)

signed_back : (z : ℤ) → Fit (Negative z) → word_of (written (Negative z)) ≡ Some (Negative z)
signed_back (pos n) h = minus_back n (omega arith) ∙ ap (λ m. Some (minus m)) h ∙ sym (ap (λ m. Some (Negative (pos m))) h)
signed_back (negsuc n) h = minus_back (suc n) (omega arith)

pub word_back : (w : Word) → Fit w → word_of (written w) ≡ Some w
word_back (Key k) h = key_back k
word_back Comma h = refl
word_back (Number n) h = number_back n h
word_back (Negative z) h = signed_back z h

pub read_back : (r : Option Word) (bs : List ℕ) → r ≡ word_of bs → (w : Word) → Fit w → bs ≡ written w → r ≡ Some w
read_back r bs e w h f = e ∙ (ap word_of f ∙ word_back w h)
