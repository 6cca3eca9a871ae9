use Rattle.std.proofs.Common.{rules, arith, ◌≡◌, ap, ◌∙◌, sym, get_or}
use Rattle.script.specs.Words.{numeral_of}
use Rattle.script.proofs.Numbers.{minus_read, no_numeral, no_sign, plain_read}
use Rattle.script.proofs.word.numeral.Goals as goal
use Rattle.script.proofs.word.numeral.Goals.{in_default-via-then-bytes-lt1, in_default-via-else-bytes-lt1+in_default-1}

pub returns-in_err-text : goal.returns-in_err-text
returns-in_err-text c = search (rules, no_numeral)

pub returns-in-45 : goal.returns-in-45
returns-in-45 c =
    let text : c.in_ok-text.text.now ≡ c.args.bytes.now = search rules in
    minus_read c.in_ok-text.text.now c.parse.result c.ok-in-45.result c.map.result c.parse.ensures.value.0 (search rules) c.ok-in-45.ensures.value (search rules)
    ∙ ap numeral_of text

pub returns-in_default : goal.returns-in_default
returns-in_default c =
    let text : c.in_ok-text.text.now ≡ c.args.bytes.now = search rules in
    let unsigned : (get_or c.args.bytes.now 0 0 ≡ 43 → ⊥) × (get_or c.args.bytes.now 0 0 ≡ 45 → ⊥) = elim c.in_default.branch [
      | in_default-via-then-bytes-lt1 w ↦ (no_sign c.args.bytes.now 43 (search rules) (omega arith), no_sign c.args.bytes.now 45 (search rules) (omega arith))
      | in_default-via-else-bytes-lt1+in_default-1 w ↦ (search rules, search rules)
    ] in
    let same : get_or c.in_ok-text.text.now 0 0 ≡ get_or c.args.bytes.now 0 0 = ap (λ bs. get_or bs 0 0) text in
    plain_read c.in_ok-text.text.now c.parse-in_default.result c.ok-in_default.result c.map-in_default.result c.parse-in_default.ensures.value.0 (λ e. unsigned.0 (sym same ∙ e)) (λ e. unsigned.1 (sym same ∙ e)) c.ok-in_default.ensures.value (search rules)
    ∙ ap numeral_of text
