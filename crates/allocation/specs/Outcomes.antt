-- What a settlement writes, in true prices, and what holds of it.
use Rattle.std.specs.Prelude.{◌≡◌, ℕ, ◌<◌, ◌≤◌, cond, List, map, length, ◌==◌}
use Rattle.std.specs.List.{AllByRecursion}
use Rattle.terms.specs.declared.auction.AuctionRow.{AuctionRow}
use Rattle.terms.specs.declared.order.Order.{Order}
use Rattle.terms.specs.declared.order.Response.{Response}
use Rattle.ranked.specs.declared.contra.ContraItem.{ContraItem}
use Rattle.ranked.specs.declared.fill.Fill.{Fill}
use Rattle.contra.specs.Counting.{contra_of}
use Rattle.contra.specs.Laws.{Contra}
use Rattle.allocation.specs.Deals.{deal_of}
use Rattle.allocation.specs.Fillings.{fills_of}
use Rattle.allocation.specs.Laws.{Settled, filled_for}
use Rattle.allocation.specs.Levels.{Level, levels_of}
use Rattle.allocation.specs.Parts.{Part, total}
use Rattle.allocation.specs.Shown.{shown_fill, shown_item}

-- the fills of an auction, as a buyer sees them
abbrev pub auction_fills : (List ℕ → ℕ → List ℕ) → AuctionRow → List Order → List Response → List Fill
auction_fills awards a orders responses = fills_of awards (deal_of a) (contra_of a orders responses)

-- both lists in true prices
abbrev pub shown_items : AuctionRow → List ContraItem → List ContraItem
shown_items a items = map (shown_item a.side) items

abbrev pub shown_fills : AuctionRow → List Fill → List Fill
shown_fills a fills = map (shown_fill a.side) fills

-- contracts that the items with a number are given at all levels
abbrev pub given_for : ℕ → Part → ℕ
given_for n p = cond (p.item.number == n) p.given 0

abbrev pub received_for : ℕ → List Level → ℕ
received_for n levels = total (λ (l : Level). total (given_for n) l.parts) levels

-- what holds of the lists that a settlement wrote, in true prices; the laws speak of them as a
-- buyer sees them
pub record Outcome (awards : List ℕ → ℕ → List ℕ) (a : AuctionRow) (orders : List Order) (responses : List Response) (items : List ContraItem) (fills : List Fill) : Type 0 where
  pub contra : Contra a orders responses (shown_items a items)
  -- every order and response has a number from 1 on
  pub settled : AllByRecursion (λ o. 0 < o.number) orders → AllByRecursion (λ r. 0 < r.number) responses → Settled (deal_of a) (shown_items a items) (shown_fills a fills)
  -- what each item received
  pub received : (n : ℕ) → 0 < n → filled_for n fills ≡ received_for n (levels_of awards (deal_of a) (contra_of a orders responses))
  pub most : length fills ≤ 257
