use Rattle.script.proofs.Lookups.{found, looked_up}
use Rattle.script.proofs.keyword.keyword_of.Goals as goal

pub returns : goal.returns
returns c = record {
  value = looked_up _ _ _ c.all_keywords.ensures c.spelled_among.ensures;
  inverse = found;
}
