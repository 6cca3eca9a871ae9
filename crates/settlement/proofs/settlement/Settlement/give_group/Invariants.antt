use Rattle.std.proofs.Common.{drop}
use Rattle.allocation.specs.Deals.{deal_of}
use Rattle.settlement.specs.Groups.{of_user}
use Rattle.settlement.proofs.Giving.{GivesOn}
use Rattle.settlement.proofs.settlement.Settlement.give_group.Given as goal

abbrev pub invariant-loop-item : goal.invariant-loop-item
invariant-loop-item g l =
    GivesOn (deal_of l.self.auction.now.row) (of_user l.groups.others.now l.user) (of_user (drop l.item-index l.groups.others.now) l.user) l.q l.initial.filling l.filling l.rest
