-- What holds of the contra items of an auction, as a buyer sees them.
use Rattle.std.specs.Prelude.{◌≡◌, ◌≤◌, List, [], length, sum_by}
use Rattle.terms.specs.declared.auction.AuctionRow.{AuctionRow}
use Rattle.terms.specs.declared.order.Order.{Order}
use Rattle.terms.specs.declared.order.Response.{Response}
use Rattle.ranked.specs.Contras.{contra_before}
use Rattle.ranked.specs.Ranks.{InOrder, Ranking}
use Rattle.ranked.specs.declared.contra.ContraItem.{ContraItem}
use Rattle.contra.specs.Counting.{brings, counted_from}
use Rattle.contra.specs.Named.{named}

pub record Contra (a : AuctionRow) (orders : List Order) (responses : List Response) (items : List ContraItem) : Type 0 where
  -- all that is contra interest and nothing else, in rank order, before it is counted
  pub ranks : List ContraItem
  pub ranking : Ranking contra_before (named a orders responses) ranks
  -- counted, and still in rank order
  pub counted : items ≡ counted_from a.size [] ranks
  pub order : InOrder contra_before items
  -- no user has more than the Agency size counted at a level, customers' orders apart
  pub grouped : (x : ContraItem) → sum_by (brings x) items ≤ a.size
  pub few : length items ≤ 128
