-- A number as the library's `parse` reads it.
use Rattle.std.proofs.Common.{◌≡◌, ℕ, ◌^◌, ◌<◌, ◌≤◌, Bool, true, false, cond, eqb, List, [], ◌∷◌, length, get_or, drop, ℤ, pos, neg_ℤ, Some, None, Ok, Err, Option, Result, sym, refl, ap, ◌∙◌, inl, inr, w32, arith}
use Rattle.std.proofs.lemmas.Bool.{cases_Bool, cond-false, cond-true, ne_eqb}
use Rattle.std.proofs.lemmas.Bool.Decides.{nat_tests}
use Rattle.std.proofs.lemmas.Str.{IsUtf8-from_ascii}
use Rattle.std.proofs.lemmas.Str.Ascii.{IsAscii-cons, IsAscii-nil}
use Rattle.std.proofs.lemmas.Str.Parse.{IsNumeralModel, numerals_by_fold, parse_plain, parse_signed_minus, tells_all_ascii_digits}
use Rattle.std.specs.Option.{option_map}
use Rattle.std.specs.Result.{OkIff, result_ok}
use Rattle.std.specs.Str.{IsAscii, IsUtf8, all_ascii_digits}
use Rattle.std.specs.Str.Parse.{ParsesSigned, ParsesUnsigned}
use Rattle.script.specs.declared.word.Word.{Word}
use Rattle.script.specs.declared.word.Word.TheVariants.{Negative}
use Rattle.script.specs.Words.{minus, number_below, numeral_of, plain, read_on, writes_below}

pub own : IsNumeralModel (λ ds. all_ascii_digits ds ≡ true) (read_on 0)
own = numerals_by_fold _ tells_all_ascii_digits read_on (record { empty = λ n. refl; more = λ n c cs h. refl })

writes : (bound : ℕ) (ds : List ℕ) → all_ascii_digits ds ≡ true → 0 < length ds → read_on 0 ds < bound → writes_below bound ds ≡ true
writes bound ds e h k = grind (arith, nat_tests)

parts : (bound : ℕ) (ds : List ℕ) → writes_below bound ds ≡ true → (all_ascii_digits ds ≡ true) × (0 < length ds) × (read_on 0 ds < bound)
parts bound ds e = (grind (arith, nat_tests), grind (arith, nat_tests), grind (arith, nat_tests))

refused : (bound : ℕ) (ds : List ℕ) → ((all_ascii_digits ds ≡ true) × (0 < length ds) × (read_on 0 ds < bound) → ⊥) → ◌≡◌ {A = Option ℕ} None (number_below bound ds)
refused bound ds h =
    elim (cases_Bool (writes_below bound ds)) [
      | inl e ↦ absurd (h (parts bound ds e))
      | inr e ↦ sym (cond-false (writes_below bound ds) (Some (read_on 0 ds)) None e)
    ]

accepted : (bound m : ℕ) (ds : List ℕ) → all_ascii_digits ds ≡ true → 0 < length ds → read_on 0 ds < bound → m ≡ read_on 0 ds → Some m ≡ number_below bound ds
accepted bound m ds e h k f = ap Some f ∙ sym (cond-true (writes_below bound ds) (Some (read_on 0 ds)) None (writes bound ds e h k))

unsigned_by : {E : Type 0} (bs : List ℕ) (r : Result ℕ E) → OkIff r ((all_ascii_digits bs ≡ true) × (0 < length bs) × (read_on 0 bs < 2 ^ 32)) (read_on 0 bs) → result_ok r ≡ number_below 4294967296 bs
unsigned_by bs (Ok n) h = accepted 4294967296 n bs h.0.0 h.0.1 h.0.2 h.1
unsigned_by bs (Err e) h = refused 4294967296 bs h

unsigned : {E : Type 0} (bs : List ℕ) (r : Result ℕ E) (o : Option ℕ) → ParsesUnsigned 32 10 bs r → (get_or bs 0 0 ≡ 43 → ⊥) → o ≡ result_ok r → o ≡ number_below 4294967296 bs
unsigned bs r o h k e = e ∙ unsigned_by bs r (parse_plain own 32 bs r h k)

negative_by : {E : Type 0} (ds : List ℕ) (r : Result ℤ E) → OkIff r ((all_ascii_digits ds ≡ true) × (0 < length ds) × (read_on 0 ds ≤ 2 ^ 31)) (neg_ℤ (pos (read_on 0 ds))) → option_map (λ z. Negative z) (result_ok r) ≡ option_map minus (number_below 2147483649 ds)
negative_by ds (Ok z) h = ap (λ y. Some (Negative y)) h.1 ∙ ap (option_map minus) (accepted 2147483649 (read_on 0 ds) ds h.0.0 h.0.1 (omega (arith, h.0.2)) refl)
negative_by ds (Err e) h = ap (option_map minus) (refused 2147483649 ds (λ p. h (p.0, p.1, omega (arith, p.2))))

negative : {E : Type 0} (bs : List ℕ) (r : Result ℤ E) (o : Option ℤ) → ParsesSigned w32 10 bs r → get_or bs 0 0 ≡ 45 → o ≡ result_ok r → option_map (λ z. Negative z) o ≡ option_map minus (number_below 2147483649 (drop 1 bs))
negative bs r o h k e = ap (option_map (λ z. Negative z)) e ∙ negative_by (drop 1 bs) r (parse_signed_minus own w32 bs r h k)

-- nothing has no sign
pub no_sign : (bs : List ℕ) (sign : ℕ) → length bs < 1 → 0 < sign → get_or bs 0 0 ≡ sign → ⊥
no_sign [] sign h k e = omega arith
no_sign (c ∷ cs) sign h k e = omega arith

-- a word that was read is the one that is written
pub minus_read : {E : Type 0} (text : List ℕ) (r : Result ℤ E) (o : Option ℤ) (w : Option Word) → ParsesSigned w32 10 text r → get_or text 0 0 ≡ 45 → o ≡ result_ok r → w ≡ option_map (λ z. Negative z) o → w ≡ numeral_of text
minus_read text r o w h k e f =
    f ∙ (negative text r o h k e
    ∙ sym (cond-true (eqb (get_or text 0 0) 45) (option_map minus (number_below 2147483649 (drop 1 text))) (option_map plain (number_below 4294967296 text)) (grind (arith, nat_tests))))

pub plain_read : {E : Type 0} (text : List ℕ) (r : Result ℕ E) (o : Option ℕ) (w : Option Word) → ParsesUnsigned 32 10 text r → (get_or text 0 0 ≡ 43 → ⊥) → (get_or text 0 0 ≡ 45 → ⊥) → o ≡ result_ok r → w ≡ option_map plain o → w ≡ numeral_of text
plain_read text r o w h k l e f =
    f ∙ (ap (option_map plain) (unsigned text r o h k e)
    ∙ sym (cond-false (eqb (get_or text 0 0) 45) (option_map minus (number_below 2147483649 (drop 1 text))) (option_map plain (number_below 4294967296 text)) (ne_eqb (get_or text 0 0) 45 l)))

-- digits are a text
digits_text : (ds : List ℕ) → all_ascii_digits ds ≡ true → IsAscii ds
digits_text [] e = IsAscii-nil
digits_text (c ∷ cs) e =
    let f : all_ascii_digits cs ≡ true = grind (arith, nat_tests) in
    IsAscii-cons c cs (grind (arith, nat_tests)) (digits_text cs f)

minus_text : (bs : List ℕ) → get_or bs 0 0 ≡ 45 → all_ascii_digits (drop 1 bs) ≡ true → IsAscii bs
minus_text [] e f = IsAscii-nil
minus_text (c ∷ cs) e f = IsAscii-cons c cs (omega arith) (digits_text cs f)

no_number_by : (bound : ℕ) (ds : List ℕ) → (all_ascii_digits ds ≡ true → ⊥) → ◌≡◌ {A = Option ℕ} None (number_below bound ds)
no_number_by bound ds h = refused bound ds (λ p. h p.0)

no_numeral_by : (t : Bool) (bs : List ℕ) → eqb (get_or bs 0 0) 45 ≡ t → (IsUtf8 bs → ⊥) → ◌≡◌ {A = Option Word} None (cond t (option_map minus (number_below 2147483649 (drop 1 bs))) (option_map plain (number_below 4294967296 bs)))
no_numeral_by true bs e h = ap (option_map minus) (no_number_by 2147483649 (drop 1 bs) (λ f. h (IsUtf8-from_ascii bs (minus_text bs (grind (arith, nat_tests)) f))))
no_numeral_by false bs e h = ap (option_map plain) (no_number_by 4294967296 bs (λ f. h (IsUtf8-from_ascii bs (digits_text bs f))))

-- what is no text is no number
pub no_numeral : (bs : List ℕ) → (IsUtf8 bs → ⊥) → None ≡ numeral_of bs
no_numeral bs h = no_numeral_by (eqb (get_or bs 0 0) 45) bs refl h
