use Rattle.std.proofs.Common.{sym, ◌∙◌}
use Rattle.market.proofs.Banding.{lowest_here, lowest_on, lowest_end}
use Rattle.market.proofs.band.Band.lowest_moved.Goals as goal

pub returns-then-moves-clause-value : goal.returns-then-moves-clause-value
returns-then-moves-clause-value g c =
    lowest_here _ _ c.loop-component-test.true (sym (rw c.loop-component.invariant.same at c.if-moves.ensures.value)) ∙ c.loop-component.invariant.left

pub loop-component-preserved : goal.loop-component-preserved
loop-component-preserved g c = record {
  same = c.moves.ensures.same ∙ c.loop-component.invariant.same;
  left = lowest_on _ _ c.loop-component-test.true (sym (rw c.loop-component.invariant.same at c.if-moves.ensures.value)) ∙ c.loop-component.invariant.left;
}

pub returns-clause-value : goal.returns-clause-value
returns-clause-value g c = lowest_end _ _ c.loop-component-test.false ∙ c.loop-component.invariant.left
