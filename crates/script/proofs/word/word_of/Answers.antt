use Rattle.script.proofs.Writing.{read_back}
use Rattle.script.proofs.word.word_of.Goals as goal

pub returns-clause-inverse : goal.returns-clause-inverse
returns-clause-inverse c = read_back c.spelled_word.result c.args.bytes.now c.spelled_word.ensures
