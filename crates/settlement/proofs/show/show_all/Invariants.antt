use Rattle.std.proofs.Common.{◌≡◌, ◌++◌, map, take, drop}
use Rattle.settlement.proofs.show.show_all.Given as goal

abbrev pub invariant-loop-record : goal.invariant-loop-record
invariant-loop-record g l =
    l.records ≡ map (g.T.Shown.shown l.side) (take l.record-index l.initial.records) ++ drop l.record-index l.initial.records
