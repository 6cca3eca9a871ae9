use Rattle.std.proofs.Common.{◌≡◌, ◌++◌, take, drop}
use Rattle.std.specs.List.{flat_map}
use Rattle.allocation.specs.Deals.{deal_of}
use Rattle.allocation.specs.Fillings.{fills_of, level_fills}
use Rattle.allocation.specs.Levels.{beginnings, levels_from}
use Rattle.settlement.proofs.settlement.Settlement.fill.Given as goal

abbrev pub invariant-loop-i : goal.invariant-loop-i
invariant-loop-i g l =
    l.filling.fills.items ++ flat_map (level_fills (deal_of l.self.auction.now.row)) (levels_from (g.S.ShareRule.awards l.self.rule.now) (deal_of l.self.auction.now.row) l.self.items.now (beginnings (deal_of l.self.auction.now.row) (take l.i l.self.items.now) (drop l.i l.self.items.now)) l.filling.left) ≡ fills_of (g.S.ShareRule.awards l.self.rule.now) (deal_of l.self.auction.now.row) l.self.items.now
