-- The lines printed: what each call answered.
use Rattle.std.specs.Prelude.{ℕ, Bool, true, cond, not, ◌&&◌, List, [], ◌∷◌, ◌++◌, Some, None, Ok, Err, codes, decimal, Option, Result, ◌==◌}
use Rattle.std.specs.Fmt.{signed_decimal}
use Rattle.market.specs.declared.fault.Fault.{Fault}
use Rattle.market.specs.Faults.{cause_number}
use Rattle.terms.specs.declared.answer.Placing.{Placing}
use Rattle.terms.specs.declared.answer.Placing.TheVariants.{Booked, Held}
use Rattle.terms.specs.declared.answer.Reading.{Reading}
use Rattle.terms.specs.declared.refusal.Refusal.{Refusal}
use Rattle.terms.specs.declared.synthetic.Synthetic.{Synthetic}
use Rattle.terms.specs.Refusals.{Beside, nothing, due, fault, clause, Told, told}
use Rattle.script.specs.declared.keyword.Keyword.{Keyword}
use Rattle.script.specs.Keywords.{spelling}
use Rattle.script.specs.declared.answer.Answer.{Answer}
use Rattle.script.specs.declared.answer.Answer.TheVariants.{Number, Plain, Placing as Placed, Reading as Read}

-- a synthetic price, with a word where it is a customer's
abbrev pub price_text : Option Synthetic → List ℕ
price_text None = codes "none"
price_text (Some s) = cond s.customer (signed_decimal s.price ++ codes " customer") (signed_decimal s.price)

abbrev pub reading_text : Reading → List ℕ
reading_text r =
    codes "sbb " ++ (price_text r.sbb ++ (codes ", sbo " ++ (price_text r.sbo ++ (codes ", running " ++ (decimal r.running ++ (codes ", due " ++ (decimal r.due ++ (codes ", buy " ++ (decimal r.buy ++ (codes ", sell " ++ decimal r.sell))))))))))

-- a refusal's number, with what is told beside it
abbrev pub numbered : ℕ → Beside Fault → List ℕ
numbered n nothing = decimal n
numbered n (due k) = decimal n ++ (codes ", due " ++ decimal k)
numbered n (fault f) = decimal n ++ (codes ", component " ++ (decimal f.component ++ (codes " cause " ++ decimal (cause_number f.cause))))
numbered n (clause k) = decimal n ++ (codes ", clause " ++ decimal k)

abbrev pub told_text : Told Fault → List ℕ
told_text t = codes "refused " ++ numbered t.number t.beside

abbrev pub refusal_text : Refusal Fault → List ℕ
refusal_text r = told_text (told r)

abbrev pub placing_text : Placing → List ℕ
placing_text Booked = codes "booked"
placing_text (Held n) = codes "held " ++ decimal n

abbrev pub text_of : Answer → List ℕ
text_of (Number n) = codes "number " ++ decimal n
text_of (Plain n) = codes "answer " ++ decimal n
text_of (Placed p) = placing_text p
text_of (Read r) = reading_text r

abbrev pub said_text : Result Answer (Refusal Fault) → List ℕ
said_text (Ok a) = text_of a
said_text (Err r) = refusal_text r

-- the line of the text, the call's word and what it answered
abbrev pub line_of : ℕ → Keyword → Result Answer (Refusal Fault) → List ℕ
line_of line call a = decimal line ++ (codes " " ++ (spelling call ++ (codes ": " ++ said_text a)))

-- no line feed
abbrev pub one_line : List ℕ → Bool
one_line [] = true
one_line (b ∷ bs) = not (b == 10) && one_line bs
