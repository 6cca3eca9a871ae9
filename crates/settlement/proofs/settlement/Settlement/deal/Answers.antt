use Rattle.std.proofs.Common.{refl}
use Rattle.std.proofs.lemmas.Slice.Zip.{Zip-more, either_empty_from_Zip}
use Rattle.allocation.specs.Deals.{deal_of}
use Rattle.settlement.proofs.Dealing.{deal_each, deal_left, deal_room, deal_same, deal_sums, dealt_after, dealt_left}
use Rattle.settlement.proofs.settlement.Settlement.deal.Goals as goal

pub give_group-requires-clause-room : goal.give_group-requires-clause-room
give_group-requires-clause-room g c =
    let v = c.loop-user.invariant in
    let z = Zip-more c.loop-user.user-iterator c.next.new.self _ _ c.in-Some.is c.next.ensures.steps in
    deal_room (deal_of c.args.self.now.auction.now.row) c.args.groups.now.others.now _ _ _ _ _ _ _ v.0 v.1 v.2 _ _ _ _ z.0 z.1 _ refl c.requires.room

pub loop-user-preserved : goal.loop-user-preserved
loop-user-preserved g c =
    let d = deal_of c.args.self.now.auction.now.row in
    let others = c.args.groups.now.others.now in
    let v = c.loop-user.invariant in
    let z = Zip-more c.loop-user.user-iterator c.next.new.self _ _ c.in-Some.is c.next.ensures.steps in
    let g = c.give_group.ensures in (
      deal_each d others _ _ _ _ _ _ _ v.0 v.1 v.2 _ _ _ _ z.0 z.1 _ refl _ _ g.left g.after v.3,
      deal_same d others _ _ _ _ _ _ _ v.0 v.1 v.2 _ _ _ _ z.0 z.1 _ refl _ _ g.left g.after v.3,
      deal_sums d others _ _ _ _ _ _ _ v.0 v.1 v.2 _ _ _ _ z.0 z.1 _ refl _ _ g.left g.after v.3,
      deal_left d others _ _ _ _ _ _ _ v.0 v.1 v.2 _ _ _ _ z.0 z.1 _ refl _ _ g.left g.after v.3,
    )

pub returns : goal.returns
returns g c =
    let d = deal_of c.args.self.now.auction.now.row in
    let v = c.loop-user.invariant in
    let e = either_empty_from_Zip c.loop-user.user-iterator c.next.new.self _ c.in-None.is c.next.ensures.steps in
    record {
      left = dealt_left d c.args.groups.now.others.now _ _ _ _ _ _ _ v.0 v.1 v.2 e;
      after = dealt_after d c.args.groups.now.others.now _ _ _ _ _ _ _ v.0 v.1 v.2 e;
    }
