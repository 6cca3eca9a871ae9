use Rattle.std.proofs.Common.{length, ap, ◌∙◌, w32, SFits, rules}
use Rattle.std.proofs.lemmas.Int.{to_z-of_z}
use Rattle.std.proofs.lemmas.List.{length-map}
use Rattle.allocation.specs.Deals.{deal_of}
use Rattle.allocation.specs.Levels.{items_at}
use Rattle.allocation.specs.Parts.{customers_in, leaders_in, others_in}
use Rattle.settlement.proofs.Leveling.{stop_groups_room, stop_own_room, stop_worked}
use Rattle.settlement.proofs.settlement.Settlement.work_stop.Goals as goal

pub share_out-requires-clause-room : goal.share_out-requires-clause-room
share_out-requires-clause-room g c =
    let d = deal_of c.args.self.now.auction.now.row in
    let sized : SFits w32 c.stop-stop.result = search rules in
    let same = to_z-of_z w32 c.stop-stop.result sized ∙ c.stop-stop.ensures.value in
    let h = c.at_level-here.ensures.here ∙ ap (λ z. items_at z c.args.self.now.items.now) same in
    let groups = c.among-groups.result in
    stop_groups_room d (g.S.ShareRule.awards c.args.self.now.rule.now) (items_at d.stop c.args.self.now.items.now) c.by_kind.result.0.now groups.others.now (c.by_kind.ensures.customers ∙ ap customers_in h) (c.among-groups.ensures ∙ (c.by_kind.ensures.others ∙ ap others_in h)) _ _ c.give_in_turn.ensures.given _ _ (c.len.ensures.value ∙ (ap length groups.led ∙ length-map (leaders_in groups.others.now) (λ x. x.user))) c.guarantee-kept.ensures.value c.give_in_turn.new.filling c.requires

pub give_own-requires-clause-room : goal.give_own-requires-clause-room
give_own-requires-clause-room g c =
    let d = deal_of c.args.self.now.auction.now.row in
    let sized : SFits w32 c.stop-stop.result = search rules in
    let same = to_z-of_z w32 c.stop-stop.result sized ∙ c.stop-stop.ensures.value in
    let h = c.at_level-here.ensures.here ∙ ap (λ z. items_at z c.args.self.now.items.now) same in
    let groups = c.among-groups.result in
    stop_own_room d (g.S.ShareRule.awards c.args.self.now.rule.now) (items_at d.stop c.args.self.now.items.now) c.by_kind.result.0.now groups.others.now (c.by_kind.ensures.customers ∙ ap customers_in h) (c.among-groups.ensures ∙ (c.by_kind.ensures.others ∙ ap others_in h)) _ _ c.give_in_turn.ensures.given _ _ (c.len.ensures.value ∙ (ap length groups.led ∙ length-map (leaders_in groups.others.now) (λ x. x.user))) c.guarantee-kept.ensures.value _ c.share_out.ensures.given c.share_out.ensures.most _ same c.requires

pub returns : goal.returns
returns g c =
    let d = deal_of c.args.self.now.auction.now.row in
    let sized : SFits w32 c.stop-stop.result = search rules in
    let same = to_z-of_z w32 c.stop-stop.result sized ∙ c.stop-stop.ensures.value in
    let h = c.at_level-here.ensures.here ∙ ap (λ z. items_at z c.args.self.now.items.now) same in
    let groups = c.among-groups.result in
    let own = c.give_own.ensures in
    stop_worked d (g.S.ShareRule.awards c.args.self.now.rule.now) (items_at d.stop c.args.self.now.items.now) c.by_kind.result.0.now groups.others.now (c.by_kind.ensures.customers ∙ ap customers_in h) (c.among-groups.ensures ∙ (c.by_kind.ensures.others ∙ ap others_in h)) _ _ c.give_in_turn.ensures.given _ _ (c.len.ensures.value ∙ (ap length groups.led ∙ length-map (leaders_in groups.others.now) (λ x. x.user))) c.guarantee-kept.ensures.value _ c.share_out.ensures.given c.share_out.ensures.most _ same _ own.left own.after
