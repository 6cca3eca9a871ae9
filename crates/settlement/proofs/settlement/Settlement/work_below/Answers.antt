use Rattle.std.proofs.Common.{refl, ap, ◌∙◌, w32, SFits, rules}
use Rattle.std.proofs.lemmas.Int.{to_z-of_z}
use Rattle.allocation.specs.Deals.{deal_of}
use Rattle.allocation.specs.Levels.{items_at, matched_in}
use Rattle.allocation.specs.Parts.{customers_in, others_in}
use Rattle.auction.specs.Records.{matches_at}
use Rattle.settlement.proofs.Leveling.{below_groups_room, below_own_room, below_worked}
use Rattle.settlement.proofs.settlement.Settlement.work_below.Goals as goal

pub share_out-requires-clause-room : goal.share_out-requires-clause-room
share_out-requires-clause-room g c =
    let a = c.args.self.now.auction.now.row in
    let level = c.args.first.now.level in
    let sized : SFits w32 level = search rules in
    let h = c.at_level-here.ensures.here ∙ ap (λ z. items_at z c.args.self.now.items.now) (to_z-of_z w32 level sized) in
    let o = c.own_below-own.ensures in
    below_groups_room (deal_of a) (g.S.ShareRule.awards c.args.self.now.rule.now) level (items_at level c.args.self.now.items.now) c.by_kind.result.0.now c.among.result.others.now (c.by_kind.ensures.customers ∙ ap customers_in h) (c.among.ensures ∙ (c.by_kind.ensures.others ∙ ap others_in h)) c.args.filling.now.left c.own_below-own.result (o.value ∙ ap (λ l. matched_in (matches_at a level) l c.args.filling.now.left) h) o.most _ _ refl c.give_in_turn.ensures.given c.give_in_turn.ensures.most c.give_in_turn.new.filling c.requires

pub give_own-requires-clause-room : goal.give_own-requires-clause-room
give_own-requires-clause-room g c =
    let a = c.args.self.now.auction.now.row in
    let level = c.args.first.now.level in
    let sized : SFits w32 level = search rules in
    let same = to_z-of_z w32 level sized in
    let h = c.at_level-here.ensures.here ∙ ap (λ z. items_at z c.args.self.now.items.now) same in
    let o = c.own_below-own.ensures in
    let customers = c.by_kind.ensures.customers ∙ ap customers_in h in
    let match = o.value ∙ ap (λ l. matched_in (matches_at a level) l c.args.filling.now.left) h in
    below_own_room (deal_of a) (g.S.ShareRule.awards c.args.self.now.rule.now) level (items_at level c.args.self.now.items.now) c.by_kind.result.0.now c.among.result.others.now customers (c.among.ensures ∙ (c.by_kind.ensures.others ∙ ap others_in h)) c.args.filling.now.left c.own_below-own.result match o.most _ _ refl c.give_in_turn.ensures.given c.give_in_turn.ensures.most _ c.share_out.ensures.given c.share_out.ensures.most _ same c.requires

pub returns : goal.returns
returns g c =
    let a = c.args.self.now.auction.now.row in
    let level = c.args.first.now.level in
    let sized : SFits w32 level = search rules in
    let same = to_z-of_z w32 level sized in
    let h = c.at_level-here.ensures.here ∙ ap (λ z. items_at z c.args.self.now.items.now) same in
    let o = c.own_below-own.ensures in
    let customers = c.by_kind.ensures.customers ∙ ap customers_in h in
    let match = o.value ∙ ap (λ l. matched_in (matches_at a level) l c.args.filling.now.left) h in
    let own = c.give_own.ensures in
    below_worked (deal_of a) (g.S.ShareRule.awards c.args.self.now.rule.now) level (items_at level c.args.self.now.items.now) c.by_kind.result.0.now c.among.result.others.now customers (c.among.ensures ∙ (c.by_kind.ensures.others ∙ ap others_in h)) c.args.filling.now.left c.own_below-own.result match o.most _ _ refl c.give_in_turn.ensures.given c.give_in_turn.ensures.most _ c.share_out.ensures.given c.share_out.ensures.most _ same _ own.left own.after
