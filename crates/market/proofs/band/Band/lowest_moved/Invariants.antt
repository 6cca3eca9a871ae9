use Rattle.std.proofs.Common.{◌≡◌, ◌-◌}
use Rattle.market.specs.Bands.{lowest, width_of, would_move}
use Rattle.market.proofs.band.Band.lowest_moved.Given as goal

abbrev pub invariant-loop-component : goal.invariant-loop-component
invariant-loop-component g l = record {
  same : l.self ≡ l.fn.self;
  left : lowest (would_move g.M.Market.top g.M.Market.fault g.M.Market.after (width_of l.fn.self.width) (g.M.Market.model l.fn.self.below) l.notice) l.component (17 - l.component)
      ≡ lowest (would_move g.M.Market.top g.M.Market.fault g.M.Market.after (width_of l.fn.self.width) (g.M.Market.model l.fn.self.below) l.notice) 1 16;
}
