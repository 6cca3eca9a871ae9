use Rattle.contra.proofs.Counted.{law_there, turns_there}
use Rattle.contra.proofs.Counting.{items_after, items_count}
use Rattle.contra.specs.Turns.{ItemTurns}
use Rattle.contra.proofs.items.contra_items.Goals as goal

pub returns-clause-turns : goal.returns-clause-turns
returns-clause-turns c =
    let a = c.args.auction.now.row in
    turns_there (ItemTurns a.side) (λ x n h. h) a _ _ _ _ c.entries.ensures.value c.entries-2.ensures.value c.rank-count.ensures.turns

pub returns-clause-law : goal.returns-clause-law
returns-clause-law c =
    let a = c.args.auction.now.row in
    let o = c.entries.ensures.value in
    let r = c.entries-2.ensures.value in
    let s = c.size.ensures.value in
    let k = c.rank-count.ensures in
    law_there a _ _ _ _ c.args.list.now _ _ o r c.entries.ensures.few c.entries-2.ensures.few (items_count a _ _ _ _ _ _ c.args.list.now _ _ o r s k.after k.value) (items_after a _ _ _ _ _ _ _ _ _ o r s k.after k.value c.count_all.ensures)
