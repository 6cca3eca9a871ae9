-- Which resting interest is an auction's contra interest, and the item that each makes, as a buyer
-- sees it. Until items are counted, `counted` is the whole size.
use Rattle.std.specs.Prelude.{Bool, false, cond, not, ◌&&◌, List, ◌++◌, ℤ, None, Option, ◌==◌}
use Rattle.std.specs.Option.{option_map, option_to_list}
use Rattle.std.specs.List.{flat_map}
use Rattle.terms.specs.declared.auction.AuctionRow.{AuctionRow}
use Rattle.terms.specs.declared.order.Order.{Order}
use Rattle.terms.specs.declared.order.Response.{Response}
use Rattle.terms.specs.Sides.{other, same_side}
use Rattle.ranked.specs.declared.contra.ContraItem.{ContraItem}
use Rattle.auction.specs.Records.{level_of, within_stop}
use Rattle.contra.specs.declared.entry.Entry.{Entry}

-- an order of the other side in the strategy, and not the Initiating Member's
abbrev pub against : AuctionRow → Order → Bool
against a o =
    (o.strategy == a.strategy) && (same_side o.side (other a.side) && not (o.user == a.user))

-- a response to this auction, and not the Initiating Member's
abbrev pub answering : AuctionRow → Response → Bool
answering a r = r.auction == a.id && not (r.user == a.user)

-- the item of a resting entry that is priced at or below the stop
abbrev pub entry_item : AuctionRow → Entry → Option ContraItem
entry_item a e =
    option_map (λ (price : ℤ). record {
      user = e.user;
      number = e.number;
      price = price;
      level = level_of a price;
      customer = e.customer;
      counted = e.size;
    }) (within_stop a e.price)

abbrev pub order_entry : Order → Entry
order_entry o =
    record { user = o.user; number = o.number; customer = o.customer; size = o.size; price = o.price }

-- a response is never a customer's
abbrev pub response_entry : Response → Entry
response_entry r =
    record { user = r.user; number = r.number; customer = false; size = r.size; price = r.price }

abbrev pub order_item : AuctionRow → Order → Option ContraItem
order_item a o = cond (against a o) (entry_item a (order_entry o)) None

abbrev pub response_item : AuctionRow → Response → Option ContraItem
response_item a r = cond (answering a r) (entry_item a (response_entry r)) None

-- the items that these make
abbrev pub items_of : {X : Type 0} → (X → Option ContraItem) → List X → List ContraItem
items_of item xs = flat_map (λ x. option_to_list (item x)) xs

-- all contra items of an auction, in no order
abbrev pub named : AuctionRow → List Order → List Response → List ContraItem
named a orders responses = items_of (order_item a) orders ++ items_of (response_item a) responses
