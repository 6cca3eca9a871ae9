use Rattle.std.proofs.Common.{◌≡◌, ◌+◌, ◌≤◌, ◌++◌, length}
use Rattle.std.specs.Iterator.Adapters.{zip_first, zip_second}
use Rattle.std.specs.Slice.Iter.{iter_rest}
use Rattle.share.specs.Awards as share
use Rattle.allocation.specs.Deals.{deal_of}
use Rattle.allocation.specs.Fillings.{part_fills}
use Rattle.allocation.specs.Parts.{given_in, total}
use Rattle.settlement.specs.Groups.{dealt_to}
use Rattle.settlement.proofs.settlement.Settlement.deal.Given as goal

abbrev pub invariant-loop-user : goal.invariant-loop-user
invariant-loop-user g l =
    (length (iter_rest (zip_first l.user-iterator)) ≡ length (iter_rest (zip_second l.user-iterator)))
    × (l.filling.fills.items ++ part_fills (deal_of l.self.auction.now.row) (dealt_to l.groups.others.now (iter_rest (zip_first l.user-iterator)) (iter_rest (zip_second l.user-iterator))) ≡ l.initial.filling.fills.items ++ part_fills (deal_of l.self.auction.now.row) (dealt_to l.groups.others.now l.groups.users.items l.awards))
    × (l.filling.left + total given_in (dealt_to l.groups.others.now l.groups.users.items l.awards) ≡ l.initial.filling.left + total given_in (dealt_to l.groups.others.now (iter_rest (zip_first l.user-iterator)) (iter_rest (zip_second l.user-iterator))))
    × (share.total (iter_rest (zip_second l.user-iterator)) ≤ l.filling.left)
