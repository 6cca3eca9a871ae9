-- An answer has no line feed in it.
use Rattle.std.proofs.Common.{◌≡◌, ℕ, zero, suc, ◌+◌, ◌/◌, ◌%◌, Bool, true, false, cond, not, eqb, ltb, List, [], ◌∷◌, ◌++◌, ℤ, pos, negsuc, IfOk, Some, None, Ok, Err, string_bytes, codes, decimal, Option, Result, String, refl, ap, ◌∙◌, arith}
use Rattle.market.specs.declared.fault.Fault.{Fault}
use Rattle.market.specs.Faults.{cause_number}
use Rattle.std.proofs.lemmas.Bool.{and_from, ne_eqb}
use Rattle.std.specs.Fmt.{digits, digit_glyph, signed_decimal, digits_onto}
use Rattle.std.specs.declared.alloc.Global.{Global}
use Rattle.terms.specs.declared.answer.Placing.{Placing}
use Rattle.terms.specs.declared.answer.Placing.TheVariants.{Booked, Held}
use Rattle.terms.specs.declared.answer.Reading.{Reading}
use Rattle.terms.specs.declared.refusal.Refusal.{Refusal}
use Rattle.terms.specs.declared.synthetic.Synthetic.{Synthetic}
use Rattle.terms.specs.Refusals.{Beside, clause, due, fault, nothing, told}
use Rattle.script.specs.declared.answer.Answer.{Answer}
use Rattle.script.specs.declared.answer.Answer.TheVariants.{Number, Plain, Placing as Placed, Reading as Read}
use Rattle.script.specs.declared.keyword.Keyword.{Keyword}
use Rattle.script.specs.Answers.{line_of, numbered, one_line, placing_text, price_text, reading_text, said_text, text_of}
use Rattle.script.specs.Keywords.{spelling}
use Rattle.script.proofs.Lookups.{every}

joins : (xs ys : List ℕ) → one_line xs ≡ true → one_line ys ≡ true → one_line (xs ++ ys) ≡ true
joins [] ys e f = f
joins (x ∷ xs) ys e f = grind (arith, joins xs ys)

record Single (xs : List ℕ) : Type 0 where
  is : one_line xs ≡ true

glyph_by : (t : Bool) (d : ℕ) → not (eqb (cond t (48 + d) (87 + d)) 10) ≡ true
glyph_by true d = ap not (ne_eqb (48 + d) 10 (λ e. omega arith))
glyph_by false d = ap not (ne_eqb (87 + d) 10 (λ e. omega arith))

on_glyph : (d : ℕ) (bs : List ℕ) → one_line bs ≡ true → one_line (digit_glyph false d ∷ bs) ≡ true
on_glyph d bs e = and_from (not (eqb (digit_glyph false d) 10)) (one_line bs) (glyph_by (ltb d 10) d) e

digit_by : (t : Bool) (xs ys : List ℕ) → one_line xs ≡ true → one_line ys ≡ true → one_line (cond t xs ys) ≡ true
digit_by true xs ys e f = e
digit_by false xs ys e f = f

digits_on : (k n : ℕ) (acc : List ℕ) → one_line acc ≡ true → one_line (digits_onto k 10 false n acc) ≡ true
digits_on zero n acc e = e
digits_on (suc k) n acc e =
    let f = on_glyph (n % 10) acc e in
    digit_by (eqb (n / 10) 0) (digit_glyph false (n % 10) ∷ acc) (digits_onto k 10 false (n / 10) (digit_glyph false (n % 10) ∷ acc)) f (digits_on k (n / 10) (digit_glyph false (n % 10) ∷ acc) f)

joined : (xs ys : List ℕ) → Single xs → Single ys → Single (xs ++ ys)
joined xs ys e f = record { is = joins xs ys e.is f.is }

number : (n : ℕ) → Single (decimal n)
unfolding digits
number n = record { is = digits_on 64 n [] refl }

signed_number : (z : ℤ) → Single (signed_decimal z)
signed_number (pos n) = number n
signed_number (negsuc n) = record { is = (number (suc n)).is }

marked : (t : Bool) (z : ℤ) → Single (cond t (signed_decimal z ++ codes " customer") (signed_decimal z))
marked true z = joined (signed_decimal z) (codes " customer") (signed_number z) (record { is = refl })
marked false z = signed_number z

price : (o : Option Synthetic) → Single (price_text o)
price None = record { is = refl }
price (Some s) = marked s.customer s.price

-- words, and then a text
after : (ws xs : List ℕ) → one_line ws ≡ true → Single xs → Single (ws ++ xs)
after ws xs e f = record { is = joins ws xs e f.is }

reading : (r : Reading) → Single (reading_text r)
reading r =
    after (codes "sbb ") _ refl (joined (price_text r.sbb) _ (price r.sbb)
    (after (codes ", sbo ") _ refl (joined (price_text r.sbo) _ (price r.sbo)
    (after (codes ", running ") _ refl (joined (decimal r.running) _ (number r.running)
    (after (codes ", due ") _ refl (joined (decimal r.due) _ (number r.due)
    (after (codes ", buy ") _ refl (joined (decimal r.buy) _ (number r.buy)
    (after (codes ", sell ") (decimal r.sell) refl (number r.sell)))))))))))

beside : (n : ℕ) (b : Beside Fault) → Single (numbered n b)
beside n nothing = number n
beside n (due k) = joined (decimal n) _ (number n) (after (codes ", due ") (decimal k) refl (number k))
beside n (fault f) =
    joined (decimal n) _ (number n)
    (after (codes ", component ") _ refl (joined (decimal f.component) _ (number f.component)
    (after (codes " cause ") (decimal (cause_number f.cause)) refl (number (cause_number f.cause)))))
beside n (clause k) = joined (decimal n) _ (number n) (after (codes ", clause ") (decimal k) refl (number k))

placing : (p : Placing) → Single (placing_text p)
placing Booked = record { is = refl }
placing (Held n) = after (codes "held ") (decimal n) refl (number n)

text : (a : Answer) → Single (text_of a)
text (Number n) = after (codes "number ") (decimal n) refl (number n)
text (Plain n) = after (codes "answer ") (decimal n) refl (number n)
text (Placed p) = placing p
text (Read r) = reading r

said : (a : Result Answer (Refusal Fault)) → Single (said_text a)
said (Ok a) = text a
said (Err r) = after (codes "refused ") (numbered (told r).number (told r).beside) refl (beside (told r).number (told r).beside)

keyword : (k : Keyword) → Single (spelling k)
keyword k = record { is = every (λ j. one_line (spelling j)) refl k }

line : (n : ℕ) (k : Keyword) (a : Result Answer (Refusal Fault)) → Single (line_of n k a)
line n k a = joined (decimal n) _ (number n) (after (codes " ") _ refl (joined (spelling k) _ (keyword k) (after (codes ": ") (said_text a) refl (said a))))

pub single_line : {E : Type 0} (r : Result (String Global) E) (n : ℕ) (k : Keyword) (a : Result Answer (Refusal Fault)) → IfOk r (λ s. string_bytes s ≡ line_of n k a) → IfOk r (λ s. one_line (string_bytes s) ≡ true)
single_line (Ok s) n k a e = ap one_line e ∙ (line n k a).is
single_line (Err x) n k a e = tt
