-- Every settlement keeps its laws.
use Rattle.std.proofs.Common.{◌≡◌, ℕ, ◌<◌, true, List, ◌≤ℤ◌, arith}
use Rattle.std.proofs.lemmas.Int.{ints}
use Rattle.std.specs.List.{AllByRecursion}
use Rattle.terms.specs.declared.auction.AuctionRow.{AuctionRow}
use Rattle.terms.specs.declared.order.Order.{Order}
use Rattle.terms.specs.declared.order.Response.{Response}
use Rattle.ranked.specs.declared.contra.ContraItem.{ContraItem}
use Rattle.auction.specs.Caps.{cap_fits}
use Rattle.auction.specs.Records.{sound}
use Rattle.contra.specs.Counting.{contra_of}
use Rattle.allocation.specs.Deals.{Deal, deal_of}
use Rattle.allocation.specs.Fillings.{fills_of}
use Rattle.allocation.specs.Laws.{Lawful, Settled, Shares}
use Rattle.allocation.proofs.Better.{better}
use Rattle.allocation.proofs.Fair.{fair}
use Rattle.allocation.proofs.Few.{few}
use Rattle.allocation.proofs.Holding.{all_named, all_priced, all_sold, none_empty, whole, within}
use Rattle.allocation.proofs.Lawfully.{cap_is_fit, lawful}

-- the cap is at or below the stop, where the Initiating Order may trade without any item
pub settled : (awards : List ℕ → ℕ → List ℕ) → Shares awards → (d : Deal) (items : List ContraItem) → Lawful d items → cap_fits d.floor d.stop ≡ true → Settled d items (fills_of awards d items)
settled awards s d items l fits = record {
  whole = whole awards d items s;
  some = none_empty awards d items;
  named = all_named awards d items;
  under = all_priced awards d items (λ p. p ≤ℤ d.stop) l.under (omega (arith, ints));
  above = all_priced awards d items (λ p. cap_fits d.floor p ≡ true) l.above fits;
  sold = all_sold awards d items l.asks;
  within = within awards d items;
  fair = fair awards s d items l.numbers l.under;
  better = λ price h. better awards s d items price l.numbers l.under l.rising h;
  few = few awards d items;
}

-- so does that of an auction with its orders and responses
pub settled_auction : (awards : List ℕ → ℕ → List ℕ) → Shares awards → (a : AuctionRow) → sound a ≡ true → (orders : List Order) (responses : List Response) → AllByRecursion (λ o. 0 < o.number) orders → AllByRecursion (λ r. 0 < r.number) responses → Settled (deal_of a) (contra_of a orders responses) (fills_of awards (deal_of a) (contra_of a orders responses))
settled_auction awards s a fits orders responses os rs =
    settled awards s (deal_of a) (contra_of a orders responses) (lawful a fits orders responses os rs) (cap_is_fit a fits)
