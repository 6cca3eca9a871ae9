use Rattle.std.proofs.Common.{ℕ, ◌+◌, get_or, drop, sym, subst}
use Rattle.allocation.specs.Deals.{deal_of}
use Rattle.settlement.specs.Groups.{of_user}
use Rattle.settlement.specs.declared.filling.Filling.{Filling}
use Rattle.settlement.proofs.Giving.{GivesOn, fails_first, give_left, give_room, give_same, give_sums, given_all, given_left, no_item, none_passes, passes_first, same_to, user_other, user_same}
use Rattle.settlement.proofs.settlement.Settlement.give_group.Goals.{then-user-item, else-user-item}
use Rattle.settlement.proofs.settlement.Settlement.give_group.Goals as goal

pub give-rest-requires-clause-room : goal.give-rest-requires-clause-room
give-rest-requires-clause-room g c =
    let i = c.loop-item.invariant in
    let user = c.args.user in
    let others = c.args.groups.now.others.now in
    let first = passes_first (same_to user) others _ no_item c.loop-item-test.true (user_same user (get_or others c.loop-item.item-index no_item) c.if-user-item.true) in
    give_room (deal_of c.args.self.now.auction.now.row) _ _ c.args.q c.loop-item.rest _ _ _ _ i.0 i.1 _ _ first c.requires.room

pub loop-item-preserved : goal.loop-item-preserved
loop-item-preserved g c =
    let d = deal_of c.args.self.now.auction.now.row in
    let i = c.loop-item.invariant in
    let user = c.args.user in
    let others = c.args.groups.now.others.now in
    let rest = c.loop-item.rest in
    let On : Filling → ℕ → Type 0 = GivesOn d (of_user others user) (of_user (drop (c.loop-item.item-index + 1) others) user) c.args.q c.args.filling.now in
    elim c.if-user-item.branch [
      | then-user-item w ↦
          let first = passes_first (same_to user) others _ no_item c.loop-item-test.true (user_same user (get_or others c.loop-item.item-index no_item) w.if-user-item.true) in
          let f = w.give-rest.ensures in
          subst (λ x. On x c.if-user-item.rest) (sym w.filling-is)
          (subst (On w.give-rest.new.filling) (sym w.rest-is) (
            give_same d _ _ c.args.q rest _ _ _ _ i.0 i.1 _ _ first _ f.given _ _ f.after f.left,
            give_sums d _ _ c.args.q rest _ _ _ _ i.0 i.1 _ _ first _ f.given _ _ f.after f.left,
            give_left d _ _ c.args.q rest _ _ _ _ i.0 i.1 _ _ first _ f.given _ _ f.after f.left i.2,
          ))
      | else-user-item w ↦
          let same = fails_first (same_to user) others _ no_item c.loop-item-test.true (user_other user (get_or others c.loop-item.item-index no_item) w.if-user-item.false) in
          subst (λ x. On x c.if-user-item.rest) (sym w.filling-is)
          (subst (On c.loop-item.filling) (sym w.rest-is)
          (subst (λ l. GivesOn d (of_user others user) l c.args.q c.args.filling.now c.loop-item.filling rest) same i))
    ]

pub returns : goal.returns
returns g c =
    let d = deal_of c.args.self.now.auction.now.row in
    let i = c.loop-item.invariant in
    let none = none_passes (same_to c.args.user) c.args.groups.now.others.now _ c.loop-item-test.false in
    record { left = given_left d _ _ c.args.q c.loop-item.rest _ _ _ _ i.0 i.1 none; after = given_all d _ _ c.args.q c.loop-item.rest _ _ _ _ i.0 i.1 none }
