use Rattle.std.proofs.Common.{◌≡◌, ◌+◌, length, take}
use Rattle.ranked.specs.Contras.{contra_before}
use Rattle.ranked.specs.Orders.{places}
use Rattle.std.specs.List.{AllByRecursion}
use Rattle.contra.specs.Turns.{ItemTurns}
use Rattle.contra.specs.Gathered.{gathered}
use Rattle.contra.specs.Named.{items_of}
use Rattle.contra.proofs.gather.gather.Given as goal

abbrev pub invariant-loop-entry : goal.invariant-loop-entry
invariant-loop-entry g l =
    (places l.list ≡ gathered contra_before (places l.initial.list) l.initial.list.len (items_of (g.T.Interest.item l.auction.row) (take l.entry-index l.entries)))
    × (l.list.len ≡ l.initial.list.len + length (items_of (g.T.Interest.item l.auction.row) (take l.entry-index l.entries)))
    × (length (places l.list) ≡ length (places l.initial.list))
    × (l.list.items.ghost_name ≡ l.initial.list.items.ghost_name)
    × AllByRecursion (ItemTurns l.auction.row.side) (items_of (g.T.Interest.item l.auction.row) (take l.entry-index l.entries))
