-- Words that are written one after another are read back.
use Rattle.std.proofs.Common.{◌≡◌, ℕ, suc, ◌+◌, ◌-◌, ◌^◌, ◌<◌, Bool, true, false, cond, ◌&&◌, eqb, ltb, List, [], ◌∷◌, ◌++◌, length, take, drop, pos, negsuc, Some, Ok, Err, decimal, Result, Vec, sym, refl, ap, ◌∙◌, append_assoc, one-add, arith}
use Rattle.std.proofs.lemmas.Fmt.{decimal_nonempty, digits_decimal}
use Rattle.std.proofs.lemmas.List.{drop_at, length-append, take_all, take_at}
use Rattle.std.proofs.lemmas.Bool.{and_from, and_parts, cond-true, ltb-true}
use Rattle.std.proofs.lemmas.Bool.Decides.{nat_tests}
use Rattle.std.specs.declared.alloc.Global.{Global}
use Rattle.std.specs.List.{prefix_len}
use Rattle.std.specs.Str.{all_ascii_digits}
use Rattle.script.specs.declared.keyword.Keyword.{Keyword}
use Rattle.script.specs.declared.lex.Unread.{Unread}
use Rattle.script.specs.declared.lex.Unread.TheVariants.{Memory, Unknown}
use Rattle.script.specs.declared.word.Word.{Word}
use Rattle.script.specs.declared.word.Word.TheVariants.{Key, Comma, Number, Negative}
use Rattle.script.specs.Keywords.{spelling}
use Rattle.script.specs.Lexed.{AllFit, Gives, Reads, Span, before_comment, in_word, lexed, part, read_at, read_by, spanned, spans, spelling_len, uncommented, written_all}
use Rattle.script.specs.Words.{Fit, word_of, written}
use Rattle.script.proofs.Cutting.{no_gap, spelling_at}
use Rattle.script.proofs.Lookups.{every}
use Rattle.script.proofs.Numbers.{own}
use Rattle.script.proofs.Writing.{word_back}

-- bytes of one word, none of them a `#`
abbrev firm : List ℕ → Bool
firm [] = true
firm (b ∷ bs) = in_word b && (before_comment b && firm bs)

firm_key : (k : Keyword) → firm (spelling k) ≡ true
firm_key = every (λ k. firm (spelling k)) refl

firm_digits : (ds : List ℕ) → all_ascii_digits ds ≡ true → firm ds ≡ true
firm_digits [] e = refl
firm_digits (c ∷ cs) e =
    let t : all_ascii_digits cs ≡ true = grind (arith, nat_tests) in
    let f : firm cs ≡ true = firm_digits cs t in
    grind (arith, nat_tests)

firm_decimal : (n : ℕ) → n < 2 ^ 64 → firm (decimal n) ≡ true
firm_decimal n h = firm_digits (decimal n) (digits_decimal own n h)

-- no `#`
abbrev quiet : List ℕ → Bool
quiet [] = true
quiet (b ∷ bs) = before_comment b && quiet bs

quiet_firm : (bs : List ℕ) → firm bs ≡ true → quiet bs ≡ true
quiet_firm [] e = refl
quiet_firm (b ∷ bs) e =
    let p = and_parts (in_word b) (before_comment b && firm bs) e in
    let q = and_parts (before_comment b) (firm bs) p.1 in
    and_from (before_comment b) (quiet bs) q.0 (quiet_firm bs q.1)

quiet_append : (xs ys : List ℕ) → quiet xs ≡ true → quiet ys ≡ true → quiet (xs ++ ys) ≡ true
quiet_append [] ys e f = f
quiet_append (x ∷ xs) ys e f =
    let p = and_parts (before_comment x) (quiet xs) e in
    and_from (before_comment x) (quiet (xs ++ ys)) p.0 (quiet_append xs ys p.1 f)

all_quiet : (xs : List ℕ) → quiet xs ≡ true → prefix_len before_comment xs ≡ length xs
all_quiet [] e = refl
all_quiet (x ∷ xs) e =
    let p = and_parts (before_comment x) (quiet xs) e in
    cond-true (before_comment x) (1 + prefix_len before_comment xs) 0 p.0 ∙ (ap (λ n. 1 + n) (all_quiet xs p.1) ∙ one-add (length xs))

all_text : (xs : List ℕ) → quiet xs ≡ true → uncommented xs ≡ xs
all_text xs e = ap (λ n. take n xs) (all_quiet xs e) ∙ take_all (length xs) xs (omega arith)

-- a word goes on as far as it is firm
firm_run : (xs ys : List ℕ) → firm xs ≡ true → prefix_len in_word (xs ++ (32 ∷ ys)) ≡ length xs
firm_run [] ys e = refl
firm_run (x ∷ xs) ys e =
    let p = and_parts (in_word x) (before_comment x && firm xs) e in
    let q = and_parts (before_comment x) (firm xs) p.1 in
    cond-true (in_word x) (1 + prefix_len in_word (xs ++ (32 ∷ ys))) 0 p.0 ∙ (ap (λ n. 1 + n) (firm_run xs ys q.1) ∙ one-add (length xs))

no_comma : (b : ℕ) → in_word b ≡ true → eqb b 44 ≡ false
no_comma b e = grind (arith, nat_tests)

same_spans : (i j k : ℕ) (xs ys : List ℕ) → j ≡ k → xs ≡ ys → spanned i j ∷ spans j xs ≡ spanned i k ∷ spans k ys
same_spans i j k xs ys e f = ap (λ m. spanned i m ∷ spans m xs) e ∙ ap (λ us. spanned i k ∷ spans k us) f

firm_spans : (i : ℕ) (xs ys : List ℕ) → firm xs ≡ true → 0 < length xs → spans i (xs ++ (32 ∷ ys)) ≡ spanned i (i + length xs) ∷ spans (i + length xs + 1) ys
firm_spans i [] ys e h = absurd (omega arith)
firm_spans i (x ∷ xs) ys e h =
    let p = and_parts (in_word x) (before_comment x && firm xs) e in
    let long : spelling_len (x ∷ (xs ++ (32 ∷ ys))) ≡ length (x ∷ xs) = ap (λ t. cond t 1 (prefix_len in_word (x ∷ (xs ++ (32 ∷ ys))))) (no_comma x p.0) ∙ firm_run (x ∷ xs) ys e in
    spelling_at i x (xs ++ (32 ∷ ys)) (no_gap x p.0)
    ∙ same_spans i (i + spelling_len (x ∷ (xs ++ (32 ∷ ys)))) (i + length (x ∷ xs)) (drop (spelling_len (x ∷ (xs ++ (32 ∷ ys)))) (x ∷ (xs ++ (32 ∷ ys)))) (32 ∷ ys)
    (ap (λ n. i + n) long)
    (ap (λ n. drop n (x ∷ (xs ++ (32 ∷ ys)))) long ∙ drop_at (x ∷ xs) (32 ∷ ys) (length (x ∷ xs)) refl)

some_key : (k : Keyword) → 0 < length (spelling k)
some_key k = ltb-true 0 (length (spelling k)) (every (λ j. ltb 0 (length (spelling j))) refl k)

minus_spans : (n i : ℕ) (ys : List ℕ) → n < 2 ^ 64 → spans i ((45 ∷ decimal n) ++ (32 ∷ ys)) ≡ spanned i (i + length (45 ∷ decimal n)) ∷ spans (i + length (45 ∷ decimal n) + 1) ys
minus_spans n i ys h = firm_spans i (45 ∷ decimal n) ys (firm_decimal n h) (omega arith)

-- a word is cut out of what it stands in
word_spans : (w : Word) → Fit w → (i : ℕ) (ys : List ℕ) → spans i (written w ++ (32 ∷ ys)) ≡ spanned i (i + length (written w)) ∷ spans (i + length (written w) + 1) ys
word_spans (Key k) h i ys = firm_spans i (spelling k) ys (firm_key k) (some_key k)
word_spans Comma h i ys = refl
word_spans (Number n) h i ys = firm_spans i (decimal n) ys (firm_decimal n (omega arith)) (decimal_nonempty n (omega arith))
word_spans (Negative (pos n)) h i ys = minus_spans n i ys (omega arith)
word_spans (Negative (negsuc n)) h i ys = minus_spans (suc n) i ys (omega arith)

quiet_word : (w : Word) → Fit w → quiet (written w) ≡ true
quiet_word (Key k) h = quiet_firm (spelling k) (firm_key k)
quiet_word Comma h = refl
quiet_word (Number n) h = quiet_firm (decimal n) (firm_decimal n (omega arith))
quiet_word (Negative (pos n)) h = quiet_firm (45 ∷ decimal n) (firm_decimal n (omega arith))
quiet_word (Negative (negsuc n)) h = quiet_firm (45 ∷ decimal (suc n)) (firm_decimal (suc n) (omega arith))

quiet_words : (ws : List Word) → AllFit ws → quiet (written_all ws) ≡ true
quiet_words [] h = refl
quiet_words (w ∷ ws) h = quiet_append (written w) (32 ∷ written_all ws) (quiet_word w h.0) (quiet_words ws h.1)

cut_part : (xs ys zs : List ℕ) → part (spanned (length xs) (length xs + length ys)) (xs ++ (ys ++ zs)) ≡ ys
cut_part xs ys zs =
    let n : length xs + length ys - length xs ≡ length ys = omega arith in
    ap (λ m. take m (drop (length xs) (xs ++ (ys ++ zs)))) n
    ∙ (ap (take (length ys)) (drop_at xs (ys ++ zs) (length xs) refl) ∙ take_at ys zs (length ys) refl)

read_words : (ws : List Word) (front : List ℕ) → AllFit ws → read_at (front ++ written_all ws) (spans (length front) (written_all ws)) ≡ Ok ws
read_words [] front h = refl
read_words (w ∷ ws) front h =
    let text : List ℕ = front ++ (written w ++ (32 ∷ written_all ws)) in
    let here : Span = spanned (length front) (length front + length (written w)) in
    let past : List ℕ = front ++ (written w ++ (32 ∷ [])) in
    let same : past ++ written_all ws ≡ text = append_assoc front (written w ++ (32 ∷ [])) (written_all ws) ∙ ap (λ xs. front ++ xs) (append_assoc (written w) (32 ∷ []) (written_all ws)) in
    let size : length past ≡ length front + length (written w) + 1 = length-append front (written w ++ (32 ∷ [])) ∙ (ap (λ n. length front + n) (length-append (written w) (32 ∷ [])) ∙ omega arith) in
    let rest : read_at text (spans (length front + length (written w) + 1) (written_all ws)) ≡ Ok ws =
    ap (λ n. read_at text (spans n (written_all ws))) (sym size)
    ∙ (ap (λ xs. read_at xs (spans (length past) (written_all ws))) (sym same) ∙ read_words ws past h.1) in
    ap (read_at text) (word_spans w h.0 (length front) (written_all ws))
    ∙ (ap (λ o. read_by o here (read_at text (spans (length front + length (written w) + 1) (written_all ws))))
    (ap word_of (cut_part front (written w) (32 ∷ written_all ws)) ∙ word_back w h.0)
    ∙ ap (read_by (Some w) here) rest)

words_back : (ws : List Word) → AllFit ws → lexed (written_all ws) ≡ Ok ws
words_back ws h = ap (λ xs. read_at xs (spans 0 xs)) (all_text (written_all ws) (quiet_words ws h)) ∙ read_words ws [] h

pub retold : (r : Result (Vec Word Global) Unread) (line : List ℕ) → Reads line r → (ws : List Word) → AllFit ws → line ≡ written_all ws → Gives ws r
retold (Ok v) line e ws h f =
    let g : lexed line ≡ Ok ws = ap lexed f ∙ words_back ws h in
    cc
retold (Err Memory) line e ws h f = tt
retold (Err (Unknown i j)) line e ws h f =
    let g : lexed line ≡ Ok ws = ap lexed f ∙ words_back ws h in
    let k : lexed line ≡ Err (spanned i j) = e.stops in
    let z : ◌≡◌ {A = ℕ} 0 1 = cc in
    absurd (omega arith)
