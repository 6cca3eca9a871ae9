use Rattle.std.proofs.Common.{◌<◌, length, arith}
use Rattle.ranked.proofs.Drawing.{all_drawn, drawing_is, due_more, front_more, lesser_drawn, same_more}
use Rattle.ranked.proofs.drawn.draw_in_turn.Goals as goal

pub loop-item-preserved : goal.loop-item-preserved
loop-item-preserved g c =
    let n = g.T.Drawn.contracts in
    let d = g.T.Drawn.reduced in
    let i = c.loop-item.invariant in
    let h : c.loop-item.item-index < length c.loop-item.records = omega arith in
    let k = c.loop-item-test.true in
    let t = c.draw_one-left.ensures.value in
    let a = c.draw_one-left.ensures.after in
    (front_more n d _ _ _ _ _ i.0 i.1 i.2 _ _ _ h k t a, same_more n d _ _ _ _ _ i.0 i.1 i.2 _ _ _ h k t a, due_more n d _ _ _ _ _ i.0 i.1 i.2 _ _ _ h k t a)

pub returns-clause-drawing : goal.returns-clause-drawing
returns-clause-drawing g c =
    let n = g.T.Drawn.contracts in
    let d = g.T.Drawn.reduced in
    let i = c.loop-item.invariant in
    let k = c.loop-item-test.false in
    drawing_is n d g.met.T.Drawn.left g.T.Ranked.rank g.met.T.Drawn.ranked g.T.Ranked.before g.met.T.Ranked.level g.met.T.Ranked.passed _ _ _ _ (lesser_drawn n d _ _ _ _ _ i.0 i.1 i.2 k) (all_drawn n d _ _ _ _ _ i.0 i.1 i.2 (omega arith) k)
