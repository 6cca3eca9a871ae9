use Rattle.std.proofs.Common.{refl, ◌∙◌, arith}
use Rattle.ranked.specs.Contras.{contra_before}
use Rattle.contra.specs.Turns.{ItemTurns}
use Rattle.contra.proofs.Gathering.{gather_len, gather_on, gather_room, gathered_none, made_turns}
use Rattle.contra.proofs.gather.gather.Goals as goal

pub loop-entry-init : goal.loop-entry-init
loop-entry-init g c = (gathered_none contra_before _ _, omega arith, refl, refl, tt)

pub put-requires : goal.put-requires
put-requires g c =
    let i = c.loop-entry.invariant in
    gather_room (g.T.Interest.item c.args.auction.now.row) contra_before c.args.entries.now _ _ _ _ _ i.0 i.1 c.requires c.loop-entry-test.true i.2

pub loop-entry-preserved : goal.loop-entry-preserved
loop-entry-preserved g c =
    let i = c.loop-entry.invariant in
    let f = g.T.Interest.item c.args.auction.now.row in
    let p = c.put.ensures in (
      gather_on f contra_before c.args.entries.now _ _ _ _ _ i.0 i.1 c.requires c.entry-item.result _ _ 0 c.loop-entry-test.true c.entry-item.is c.item.ensures.value p.after,
      gather_len f contra_before c.args.entries.now _ _ _ _ _ i.0 i.1 c.requires c.entry-item.result _ c.loop-entry.list.items.now _ c.loop-entry-test.true c.entry-item.is c.item.ensures.value p.len,
      p.size ∙ i.2,
      p.owner ∙ i.3,
      made_turns f (ItemTurns c.args.auction.now.row.side) _ _ _ _ c.loop-entry-test.true c.entry-item.is c.item.ensures.value i.4 c.item.ensures.turns,
    )
