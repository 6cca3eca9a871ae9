use Rattle.script.proofs.Retelling.{retold}
use Rattle.script.proofs.lex.words.Goals as goal

pub returns-clause-inverse : goal.returns-clause-inverse
returns-clause-inverse c = retold c.lexed_words.result c.args.line.now c.lexed_words.ensures
