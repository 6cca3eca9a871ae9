use Rattle.std.proofs.Common.{rules, tests, ◌∙◌}
use Rattle.std.proofs.lemmas.Iterator.{YieldsList-from_slice}
use Rattle.std.proofs.lemmas.Iterator.Search.{find_from_yields_List}
use Rattle.std.specs.Str.{bytes_eq}
use Rattle.script.specs.Keywords.{spelling}
use Rattle.script.proofs.keyword.spelled_among.Goals as goal

pub returns : goal.returns
returns c =
    c.copied.ensures
    ∙ find_from_yields_List (λ k. bytes_eq (spelling k) c.args.bytes.now) _ _ _ c.find.ensures.ran (YieldsList-from_slice c.args.some.now cc) (λ x b q k. search (rules, tests))
