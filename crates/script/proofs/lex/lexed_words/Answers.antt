use Rattle.std.proofs.Common.{◌-◌, length, ap, refl, take}
use Rattle.script.proofs.Lexing.{no_word, one_word}
use Rattle.script.proofs.lex.lexed_words.Goals as goal

pub loop-spelling-preserved : goal.loop-spelling-preserved
loop-spelling-preserved c = one_word _ _ _ c.loop-spelling.invariant _ _ c.word_of.result c.in-Some.ensures c.word_of.ensures.value _ _ c.in-Some-word_of.is c.in_ok-push.ensures.items

pub returns-in_default-word_of : goal.returns-in_default-word_of
returns-in_default-word_of c =
    no_word _ _ _ c.loop-spelling.invariant _ _ c.word_of.result c.in-Some.ensures c.word_of.ensures.value c.args.line.now _ _ refl c.in_default-word_of.is
    (ap (λ n. length (take n c.args.line.now) - length c.in-Some.after.now) c.uncommented_len.ensures.value) refl
