use Rattle.std.proofs.Common.{arith}
use Rattle.std.proofs.lemmas.List.{drop_all, drop_more}
use Rattle.allocation.proofs.Giving.{come_given}
use Rattle.allocation.specs.Deals.{deal_of}
use Rattle.settlement.proofs.Giving.{give_left, give_room, give_same, give_sums, given_all, given_left}
use Rattle.settlement.proofs.settlement.Settlement.give_in_turn.Goals as goal

pub give-rest-requires-clause-room : goal.give-rest-requires-clause-room
give-rest-requires-clause-room g c =
    let i = c.loop-item.invariant in
    give_room (deal_of c.args.self.now.auction.now.row) c.args.items.now _ c.args.q c.loop-item.rest _ _ _ _ i.0 i.1 _ _ (drop_more _ _ _ c.loop-item-test.true) c.requires.room

pub loop-item-preserved : goal.loop-item-preserved
loop-item-preserved g c =
    let d = deal_of c.args.self.now.auction.now.row in
    let i = c.loop-item.invariant in
    let first = drop_more c.args.items.now c.loop-item.item-index _ c.loop-item-test.true in
    let f = c.give-rest.ensures in (
      give_same d c.args.items.now _ c.args.q c.loop-item.rest _ _ _ _ i.0 i.1 _ _ first _ f.given _ _ f.after f.left,
      give_sums d c.args.items.now _ c.args.q c.loop-item.rest _ _ _ _ i.0 i.1 _ _ first _ f.given _ _ f.after f.left,
      give_left d c.args.items.now _ c.args.q c.loop-item.rest _ _ _ _ i.0 i.1 _ _ first _ f.given _ _ f.after f.left i.2,
    )

pub returns : goal.returns
returns g c =
    let d = deal_of c.args.self.now.auction.now.row in
    let i = c.loop-item.invariant in
    let none = drop_all _ _ c.loop-item-test.false in
    record {
      given = record { left = given_left d c.args.items.now _ c.args.q c.loop-item.rest _ _ _ _ i.0 i.1 none; after = given_all d c.args.items.now _ c.args.q c.loop-item.rest _ _ _ _ i.0 i.1 none };
      most = (let less = given_left d c.args.items.now _ c.args.q c.loop-item.rest _ _ _ _ i.0 i.1 none in omega (arith, come_given c.args.items.now c.args.q));
    }
