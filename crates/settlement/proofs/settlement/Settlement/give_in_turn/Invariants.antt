use Rattle.std.proofs.Common.{drop}
use Rattle.allocation.specs.Deals.{deal_of}
use Rattle.settlement.proofs.Giving.{GivesOn}
use Rattle.settlement.proofs.settlement.Settlement.give_in_turn.Given as goal

abbrev pub invariant-loop-item : goal.invariant-loop-item
invariant-loop-item g l =
    GivesOn (deal_of l.self.auction.now.row) (l.items) (drop l.item-index l.items) l.q l.initial.filling l.filling l.rest
