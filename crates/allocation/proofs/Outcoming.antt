-- What a settlement writes, in true prices.
use Rattle.std.proofs.Common.{◌≡◌, ℕ, ◌+◌, ◌<◌, ◌≤◌, Bool, true, false, cond, not, ◌&&◌, eqb, List, [], ◌∷◌, map, length, ℤ, sum_by, filter, sym, refl, ap, ◌∙◌, subst, arith, w32, SFits}
use Rattle.std.proofs.ByRecursion.{All-weaker}
use Rattle.std.proofs.lemmas.List.{length-map}
use Rattle.std.proofs.lemmas.List.Sums.{sum_by-cons}
use Rattle.std.proofs.lemmas.Bool.{ne_eqb}
use Rattle.std.specs.List.{AllByRecursion}
use Rattle.terms.specs.declared.auction.AuctionRow.{AuctionRow}
use Rattle.terms.specs.declared.order.Order.{Order}
use Rattle.terms.specs.declared.order.Response.{Response}
use Rattle.terms.specs.declared.side.Side.{Side}
use Rattle.ranked.specs.declared.contra.ContraItem.{ContraItem}
use Rattle.ranked.specs.declared.fill.Fill.{Fill}
use Rattle.auction.proofs.Capping.{back}
use Rattle.auction.specs.Orientation.{as_buyer}
use Rattle.auction.specs.Records.{sound}
use Rattle.contra.proofs.Counted.{grouped}
use Rattle.contra.specs.Counting.{brings, contra_of, ranked_of}
use Rattle.contra.specs.Kinds.{same_user}
use Rattle.contra.specs.Laws.{Contra}
use Rattle.contra.specs.Turns.{ItemTurns, PriceTurns}
use Rattle.allocation.proofs.Few.{few}
use Rattle.allocation.proofs.Filling.{fills_sum}
use Rattle.allocation.proofs.Holding.{all_priced}
use Rattle.allocation.proofs.Settling.{settled_auction}
use Rattle.allocation.proofs.Sums.{total_kept, total_like, total_step}
use Rattle.allocation.specs.Deals.{deal_of}
use Rattle.allocation.specs.Fillings.{fills_of}
use Rattle.allocation.specs.Laws.{Settled, Shares, filled_for, size_of}
use Rattle.allocation.specs.Levels.{Level, at_level, items_at, levels_of}
use Rattle.allocation.specs.Outcomes.{Outcome, auction_fills, given_for, received_for, shown_fills, shown_items}
use Rattle.allocation.specs.Parts.{counts, group_size, is_other, others_in, total}
use Rattle.allocation.specs.Shown.{shown_fill, shown_item}

-- negated twice, prices are what they were
priced : ContraItem → ℤ → ℤ → ContraItem
priced x price level =
    record { user = x.user; number = x.number; price = price; level = level; customer = x.customer; counted = x.counted }

item_back : (side : Side) (x : ContraItem) → shown_item side (shown_item side x) ≡ x
unfolding priced
item_back side x =
    ap (λ p. priced x p (as_buyer side (as_buyer side x.level))) (back side x.price) ∙ ap (priced x x.price) (back side x.level)

at_true : Fill → ℤ → Fill
at_true f price = record { id = f.id; user = f.user; number = f.number; price = price; size = f.size }

fill_back : (side : Side) (f : Fill) → shown_fill side (shown_fill side f) ≡ f
unfolding at_true
fill_back side f = ap (at_true f) (back side f.price)

map_back : {X : Type 0} (f : X → X) → ((x : X) → f (f x) ≡ x) → (xs : List X) → map f (map f xs) ≡ xs
map_back f e [] = refl
map_back f e (x ∷ xs) = ap (λ y. y ∷ map f (map f xs)) (e x) ∙ ap (λ ys. x ∷ ys) (map_back f e xs)

-- a price does not bear on what is filled for a number
filled_shown : (side : Side) (n : ℕ) (fs : List Fill) → filled_for n (map (shown_fill side) fs) ≡ filled_for n fs
filled_shown side n [] = refl
filled_shown side n (f ∷ fs) =
    let e = filled_shown side n fs in
    elim (eqb f.number n) as (λ b. total size_of (cond b (shown_fill side f ∷ filter (λ g. eqb g.number n) (map (shown_fill side) fs)) (filter (λ g. eqb g.number n) (map (shown_fill side) fs))) ≡ total size_of (cond b (f ∷ filter (λ g. eqb g.number n) fs) (filter (λ g. eqb g.number n) fs))) [
      | true ↦ total_step size_of (shown_fill side f) _ ∙ (ap (λ k. f.size + k) e ∙ sym (total_step size_of f _))
      | false ↦ e
    ]

-- what is filled for a number is what its items received
filled_received : (awards : List ℕ → ℕ → List ℕ) (a : AuctionRow) (items : List ContraItem) (n : ℕ) → 0 < n → filled_for n (fills_of awards (deal_of a) items) ≡ received_for n (levels_of awards (deal_of a) items)
filled_received awards a items n h =
    let none : eqb 0 n ≡ false = ne_eqb 0 n (λ e. omega arith) in
    fills_sum (λ k _. eqb k n) (deal_of a) (levels_of awards (deal_of a) items)
    ∙ total_like _ _ (λ (l : Level). ap (λ b. total (given_for n) l.parts + cond b l.own 0) none ∙ (omega arith)) (levels_of awards (deal_of a) items)

module _ (awards : List ℕ → ℕ → List ℕ) (shares : Shares awards) (a : AuctionRow) (ok : sound a ≡ true) (orders : List Order) (responses : List Response) (law : Contra a orders responses (contra_of a orders responses)) where
  abbrev items : List ContraItem
  items = contra_of a orders responses

  abbrev fills : List Fill
  fills = auction_fills awards a orders responses

  pub items_most : length items ≤ 128
  items_most = law.few

  pub fills_most : length fills ≤ 257
  fills_most = let m = items_most in omega (arith, few awards (deal_of a) items)

  items_seen : shown_items a (shown_items a items) ≡ items
  items_seen = map_back (shown_item a.side) (item_back a.side) items

  fills_seen : shown_fills a (shown_fills a fills) ≡ fills
  fills_seen = map_back (shown_fill a.side) (fill_back a.side) fills

  pub outcome : Outcome awards a orders responses (shown_items a items) (shown_fills a fills)
  outcome = record {
    contra = (let P : List ContraItem → Type 0 = Contra a orders responses in subst P (sym items_seen) law);
    settled = λ p q. (
        let P : List ContraItem → Type 0 = λ xs. Settled (deal_of a) xs (shown_fills a (shown_fills a fills)) in
        let Q : List Fill → Type 0 = Settled (deal_of a) items in
        subst P (sym items_seen) (subst Q (sym fills_seen) (settled_auction awards shares a ok orders responses p q)));
    received = λ n l. filled_shown a.side n fills ∙ filled_received awards a items n l;
    most = (let m = fills_most in omega (arith, length-map fills (shown_fill a.side)));
  }

-- every price of a fill is a level or the stop
pub fills_turn : (awards : List ℕ → ℕ → List ℕ) (a : AuctionRow) (items : List ContraItem) → AllByRecursion (ItemTurns a.side) items → PriceTurns a.side (deal_of a).stop → AllByRecursion (λ (f : Fill). PriceTurns a.side f.price) (fills_of awards (deal_of a) items)
fills_turn awards a items turns stop =
    all_priced awards (deal_of a) items (PriceTurns a.side) (All-weaker _ _ (λ (x : ContraItem) (t : ItemTurns a.side x). t.1) items turns) stop

-- the stop is a price of 32 bits
pub stop_turns : (a : AuctionRow) → SFits w32 a.stop → PriceTurns a.side (deal_of a).stop
stop_turns a fits = subst (SFits w32) (sym (back a.side a.stop)) fits

sum_total : {X : Type 0} (f : X → ℕ) (xs : List X) → sum_by f xs ≡ total f xs
unfolding total
sum_total f [] = refl
sum_total f (x ∷ xs) = sum_by-cons f x xs ∙ ap (λ n. f x + n) (sum_total f xs)

-- a group at a price is what its user brings there
at_price : ContraItem → ℤ → ContraItem
at_price x price = priced x x.price price

group_brings : (items : List ContraItem) (price : ℤ) (x : ContraItem) → group_size (others_in (items_at price items)) x ≡ sum_by (brings (at_price x price)) items
unfolding at_price priced
group_brings items price x =
    total_kept counts (same_user x) (others_in (items_at price items))
    ∙ (total_kept _ is_other (items_at price items)
    ∙ (total_kept _ (at_level price) items
    ∙ (total_like _ _ (λ (z : ContraItem). by (at_level price z) z.customer (same_user x z) z.counted) items ∙ sym (sum_total (brings (at_price x price)) items))))
  where
    by : (l c u : Bool) (n : ℕ) → cond l (cond (not c) (cond u n 0) 0) 0 ≡ cond (not c && (u && l)) n 0
    by true true u n = refl
    by true false true n = refl
    by true false false n = refl
    by false true u n = refl
    by false false true n = refl
    by false false false n = refl

pub groups_at : (a : AuctionRow) (orders : List Order) (responses : List Response) (price : ℤ) (x : ContraItem) → group_size (others_in (items_at price (contra_of a orders responses))) x ≤ a.size
groups_at a orders responses price x =
    omega (arith, group_brings (contra_of a orders responses) price x, grouped a.size (at_price x price) (ranked_of a orders responses))
