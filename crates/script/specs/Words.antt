-- Which word a spelling is.
use Rattle.std.specs.Prelude.{◌≡◌, ℕ, suc, ◌+◌, ◌-◌, ◌*◌, ◌<◌, Bool, false, cond, ◌&&◌, List, [], ◌∷◌, length, drop, ℤ, pos, negsuc, neg_ℤ, Some, None, codes, decimal, Option, ◌==◌, nat_lt, slice_index}
use Rattle.std.specs.Option.{option_map}
use Rattle.std.specs.Str.{all_ascii_digits}
use Rattle.script.specs.declared.word.Word.{Word}
use Rattle.script.specs.declared.word.Word.TheVariants.{Key, Comma, Number, Negative}
use Rattle.script.specs.Keywords.{keyword_of, spelling}

-- the number that digits write after the number so far
abbrev pub read_on : ℕ → List ℕ → ℕ
read_on n [] = n
read_on n (c ∷ cs) = read_on (n * 10 + (c - 48)) cs

-- digits, one at least, that write a number below the bound
abbrev pub writes_below : ℕ → List ℕ → Bool
writes_below bound ds = nat_lt 0 (length ds) && (all_ascii_digits ds && nat_lt (read_on 0 ds) bound)

abbrev pub number_below : ℕ → List ℕ → Option ℕ
number_below bound ds = cond (writes_below bound ds) (Some (read_on 0 ds)) None

abbrev pub plain : ℕ → Word
plain n = Number n

abbrev pub minus : ℕ → Word
minus n = Negative (neg_ℤ (pos n))

-- a number below 2 ^ 32, or a `-` and one of at most 2 ^ 31
abbrev pub numeral_of : List ℕ → Option Word
numeral_of bs =
    cond (slice_index bs 0 == 45) (option_map minus (number_below 2147483649 (drop 1 bs))) (option_map plain (number_below 4294967296 bs))

abbrev pub or_else : {X : Type 0} → Option X → Option X → Option X
or_else None p = p
or_else (Some x) p = Some x

abbrev pub is_comma : List ℕ → Bool
is_comma [] = false
is_comma (c ∷ []) = c == 44
is_comma (c ∷ d ∷ cs) = false

abbrev pub word_of : List ℕ → Option Word
word_of bs = cond (is_comma bs) (Some Comma) (or_else (option_map Key (keyword_of bs)) (numeral_of bs))

abbrev pub written_minus : ℤ → List ℕ
written_minus (pos n) = 45 ∷ decimal n
written_minus (negsuc n) = 45 ∷ decimal (suc n)

-- a word as it is written
abbrev pub written : Word → List ℕ
written (Key k) = spelling k
written Comma = codes ","
written (Number n) = decimal n
written (Negative z) = written_minus z

abbrev pub FitMinus : ℤ → Type 0
FitMinus (pos n) = n ≡ 0
FitMinus (negsuc n) = n < 2147483648

-- a number without a sign is below 2 ^ 32, and one with a `-` is at least - 2 ^ 31
abbrev pub Fit : Word → Type 0
Fit (Key k) = Unit {0}
Fit Comma = Unit {0}
Fit (Number n) = n < 4294967296
Fit (Negative z) = FitMinus z
