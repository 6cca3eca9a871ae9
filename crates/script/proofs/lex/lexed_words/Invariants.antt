use Rattle.std.proofs.Common.{length, vec_items}
use Rattle.script.specs.Lexed.{uncommented}
use Rattle.script.proofs.Lexing.{Left}
use Rattle.script.proofs.lex.lexed_words.Given as goal

abbrev pub invariant-loop-spelling : goal.invariant-loop-spelling
invariant-loop-spelling l = Left (uncommented l.line) (vec_items l.words) l.rest

abbrev pub decreases-loop-spelling : goal.decreases-loop-spelling
decreases-loop-spelling l = length l.rest
