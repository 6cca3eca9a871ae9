-- The contra items of an auction are what settlement may expect.
use Rattle.std.proofs.Common.{◌≡◌, ◌<◌, Bool, true, List, [], ◌∷◌, ℤ, ◌≤ℤ◌, Some, None, Option, refl, arith}
use lib.Signed.{le_z, lt_z}
use Rattle.std.proofs.ByRecursion.{All-append, All-weaker}
use Rattle.std.proofs.lemmas.Int.{ints}
use Rattle.std.proofs.lemmas.Bool.{and_parts, cond_both}
use Rattle.std.specs.Option.{option_map, option_to_list}
use Rattle.std.specs.List.{flat_map, AllByRecursion}
use Rattle.terms.specs.declared.auction.AuctionRow.{AuctionRow}
use Rattle.terms.specs.declared.order.Order.{Order}
use Rattle.terms.specs.declared.order.Response.{Response}
use Rattle.ranked.specs.Contras.{contra_before}
use Rattle.ranked.specs.Ranks.{InOrder, first_by}
use Rattle.ranked.specs.declared.contra.ContraItem.{ContraItem}
use Rattle.auction.specs.Caps.{cap_fits}
use Rattle.auction.specs.Orientation.{as_buyer}
use Rattle.auction.specs.Records.{cap_at, level_by, level_of, sound, stop_of}
use Rattle.contra.proofs.Counted.{contra_all, contra_order}
use Rattle.contra.specs.Counting.{contra_of}
use Rattle.contra.specs.Named.{against, answering, entry_item, order_item, response_item}
use Rattle.contra.specs.declared.entry.Entry.{Entry}
use Rattle.allocation.specs.Deals.{deal_of}
use Rattle.allocation.specs.Laws.{Lawful, Rising}

-- an item trades between its price and the stop, and not below the cap
level_under : (floor : Option ℤ) (price stop : ℤ) → cap_fits floor stop ≡ true → le_z price stop ≡ true → level_by floor price ≤ℤ stop
level_under None price stop e h = grind (arith, ints)
level_under (Some c) price stop e h = grind (arith, ints)

level_above : (floor : Option ℤ) (price : ℤ) → cap_fits floor (level_by floor price) ≡ true
level_above None price = refl
level_above (Some c) price = grind (arith, ints)

level_asks : (floor : Option ℤ) (price : ℤ) → price ≤ℤ level_by floor price
level_asks None price = omega (arith, ints)
level_asks (Some c) price = grind (arith, ints)

before_rises : (a b : ℤ) (rest : Bool) → first_by (lt_z a b) (lt_z b a) rest ≡ true → a ≤ℤ b
before_rises a b rest e = grind (arith, ints)

rises : (xs : List ContraItem) → InOrder contra_before xs → Rising xs
rises [] o = tt
rises (x ∷ xs) o = (All-weaker _ _ (λ y e. before_rises x.level y.level _ e) xs o.0, rises xs o.1)

joined_all : {X A : Type 0} (P : A → Type 0) (Q : X → Type 0) (f : X → List A) → ((x : X) → Q x → AllByRecursion P (f x)) → (xs : List X) → AllByRecursion Q xs → AllByRecursion P (flat_map f xs)
joined_all P Q f h [] a = tt
joined_all P Q f h (x ∷ xs) a = All-append P _ _ (h x a.0) (joined_all P Q f h xs a.1)

module _ (a : AuctionRow) (fits : sound a ≡ true) where
  -- the cap is at or below the stop
  pub cap_is_fit : cap_fits (deal_of a).floor (deal_of a).stop ≡ true
  cap_is_fit = (and_parts _ _ fits).0

  -- what is shown of each item
  record Fit (x : ContraItem) : Type 0 where
    number : 0 < x.number
    under : x.level ≤ℤ stop_of a
    above : cap_fits (cap_at a) x.level ≡ true
    asks : x.price ≤ℤ x.level

  entry_fits : (e : Entry) → 0 < e.number → AllByRecursion Fit (option_to_list (entry_item a e))
  entry_fits e h =
      let price : ℤ = as_buyer a.side e.price in
      cond_both (le_z price (stop_of a)) (Some price) None
      (λ o. AllByRecursion Fit (option_to_list (option_map (λ (p : ℤ). record { user = e.user; number = e.number; price = p; level = level_of a p; customer = e.customer; counted = e.size }) o)))
      (λ k. (record { number = h; under = level_under (cap_at a) price (stop_of a) cap_is_fit k; above = level_above (cap_at a) price; asks = level_asks (cap_at a) price }, tt))
      (λ k. tt)

  order_fits : (o : Order) → 0 < o.number → AllByRecursion Fit (option_to_list (order_item a o))
  order_fits o h = cond_both (against a o) _ _ (λ i. AllByRecursion Fit (option_to_list i)) (λ _. entry_fits _ h) (λ _. tt)

  response_fits : (r : Response) → 0 < r.number → AllByRecursion Fit (option_to_list (response_item a r))
  response_fits r h = cond_both (answering a r) _ _ (λ i. AllByRecursion Fit (option_to_list i)) (λ _. entry_fits _ h) (λ _. tt)

  module _ (orders : List Order) (responses : List Response) where
    pub lawful : AllByRecursion (λ o. 0 < o.number) orders → AllByRecursion (λ r. 0 < r.number) responses → Lawful (deal_of a) (contra_of a orders responses)
    lawful os rs =
        let all : AllByRecursion Fit (contra_of a orders responses) = contra_all a orders responses Fit
        (λ x n h. record { number = h.number; under = h.under; above = h.above; asks = h.asks })
        (All-append Fit _ _ (joined_all Fit _ _ order_fits orders os) (joined_all Fit _ _ response_fits responses rs)) in
        record {
          numbers = All-weaker Fit _ (λ x h. h.number) _ all;
          under = All-weaker Fit _ (λ x h. h.under) _ all;
          above = All-weaker Fit _ (λ x h. h.above) _ all;
          asks = All-weaker Fit _ (λ x h. h.asks) _ all;
          rising = rises _ (contra_order a orders responses);
        }
