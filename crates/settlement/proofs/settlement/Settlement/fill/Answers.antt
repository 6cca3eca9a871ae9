use Rattle.std.proofs.Common.{◌+◌, ◌++◌, [], sym, ap, ◌∙◌, take, drop}
use Rattle.allocation.specs.Deals.{deal_of}
use Rattle.allocation.specs.Levels.{beginnings}
use Rattle.settlement.proofs.Stepping.{all_done, begins, begins_none, last_done, last_room, level_none, level_on, level_passed, level_room, none_begin, rest_fills}
use Rattle.settlement.proofs.settlement.Settlement.fill.Goals.{then-filling-gt0+then-begins_below, else-filling-gt0, else-filling-gt0-via-then-filling-gt0+else-begins_below, else-filling-gt0-via-else-filling-gt0}
use Rattle.settlement.proofs.settlement.Settlement.fill.Goals as goal

pub loop-i-init : goal.loop-i-init
loop-i-init g c =
    let awards = g.S.ShareRule.awards c.args.self.now.rule.now in
    let d = deal_of c.args.self.now.auction.now.row in
    let items = c.args.self.now.items.now in
    ap (λ l. l ++ rest_fills awards d items (beginnings d [] items) c.args.filling.now.left) c.requires.empty
    ∙ ap (rest_fills awards d items (beginnings d [] items)) c.requires.size

pub work_below-requires : goal.work_below-requires
work_below-requires g c =
    let d = deal_of c.args.self.now.auction.now.row in
    let items = c.args.self.now.items.now in
    level_room (g.S.ShareRule.awards c.args.self.now.rule.now) d items _ c.loop-i.filling c.loop-i.invariant _ _ (begins d items _ _ c.loop-i-test.true (sym c.if-begins_below.true ∙ c.begins_below.ensures)) c.if-filling-gt0.true c.requires.most

pub loop-i-preserved : goal.loop-i-preserved
loop-i-preserved g c =
    let awards = g.S.ShareRule.awards c.args.self.now.rule.now in
    let d = deal_of c.args.self.now.auction.now.row in
    let items = c.args.self.now.items.now in
    let i = c.loop-i.i in
    let next = beginnings d (take (i + 1) items) (drop (i + 1) items) in
    elim c.if-filling-gt0.branch [
      | then-filling-gt0+then-begins_below w ↦ ap (λ f. f.fills.items ++ rest_fills awards d items next f.left) w.filling-is ∙ level_on awards d items _ c.loop-i.filling c.loop-i.invariant _ _ (begins d items _ _ c.loop-i-test.true (sym w.if-begins_below.true ∙ w.begins_below.ensures)) w.if-filling-gt0.true _ w.work_below.ensures
      | else-filling-gt0 w ↦ ap (λ f. f.fills.items ++ rest_fills awards d items next f.left) w.filling-is ∙ (elim w.else-filling-gt0.branch [
        | else-filling-gt0-via-then-filling-gt0+else-begins_below v ↦ level_none awards d items _ c.loop-i.filling c.loop-i.invariant next (begins_none d items _ _ c.loop-i-test.true (sym v.if-begins_below.false ∙ v.begins_below.ensures))
        | else-filling-gt0-via-else-filling-gt0 v ↦ level_passed awards d items _ c.loop-i.filling c.loop-i.invariant next v.if-filling-gt0.false
      ])
    ]

pub work_stop-requires : goal.work_stop-requires
work_stop-requires g c =
    let d = deal_of c.args.self.now.auction.now.row in
    let items = c.args.self.now.items.now in
    last_room (g.S.ShareRule.awards c.args.self.now.rule.now) d items _ c.loop-i.filling c.loop-i.invariant (none_begin d items _ c.loop-i-test.false) c.if-filling-gt0-2.true c.requires.most

pub returns-then-filling-gt0-2 : goal.returns-then-filling-gt0-2
returns-then-filling-gt0-2 g c =
    let d = deal_of c.args.self.now.auction.now.row in
    let items = c.args.self.now.items.now in
    last_done (g.S.ShareRule.awards c.args.self.now.rule.now) d items _ c.loop-i.filling c.loop-i.invariant (none_begin d items _ c.loop-i-test.false) c.if-filling-gt0-2.true _ c.work_stop.ensures

pub returns-else-filling-gt0-2 : goal.returns-else-filling-gt0-2
returns-else-filling-gt0-2 g c =
    let d = deal_of c.args.self.now.auction.now.row in
    let items = c.args.self.now.items.now in
    all_done (g.S.ShareRule.awards c.args.self.now.rule.now) d items _ c.loop-i.filling c.loop-i.invariant (none_begin d items _ c.loop-i-test.false) c.if-filling-gt0-2.false
