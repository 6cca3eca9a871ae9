use Rattle.contra.proofs.Counting.{counted_last, counted_none}
use Rattle.contra.proofs.count.+count_all.Goals as goal

pub returns-in-Some : goal.returns-in-Some
returns-in-Some t c = counted_last _ _ _ _ _ c.in-Some.item.now c.in-Some.ensures.cases.0 c.contracts_of-item.ensures c.count_all.ensures

pub returns-in_default : goal.returns-in_default
returns-in_default t c = counted_none _ _ c.in_default.ensures.cases
