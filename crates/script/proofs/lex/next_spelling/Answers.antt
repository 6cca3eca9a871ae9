use Rattle.std.proofs.Common.{sym, ap, ◌∙◌, drop}
use Rattle.script.proofs.Cutting.{none_left, some_left}
use Rattle.script.proofs.lex.next_spelling.Goals as goal

pub returns-then-is_empty : goal.returns-then-is_empty
returns-then-is_empty c =
    none_left c.args.text.now _ (ap (λ n. drop n c.args.text.now) (sym c.gap_len.ensures.value) ∙ sym c.split_at.ensures.back) (sym c.if-is_empty.ensures)

pub returns : goal.returns
returns c =
    some_left c.args.text.now _ (ap (λ n. drop n c.args.text.now) (sym c.gap_len.ensures.value) ∙ sym c.split_at.ensures.back)
    _ _ _ (sym c.if-is_empty.ensures) c.spelling_len.ensures.value c.spelling_len.ensures.within c.split_at-2.ensures.front c.split_at-2.ensures.back
