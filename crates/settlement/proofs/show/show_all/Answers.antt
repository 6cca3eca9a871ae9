use Rattle.std.proofs.Common.{arith}
use Rattle.settlement.proofs.Showing.{shown_on}
use Rattle.settlement.proofs.show.show_all.Goals as goal

pub loop-record-preserved : goal.loop-record-preserved
loop-record-preserved g c = shown_on (g.T.Shown.shown c.args.side) _ _ _ c.loop-record.invariant c.loop-record-test.true _ _ (omega arith) c.shown.ensures
