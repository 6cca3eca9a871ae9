-- A settlement from its contra items on.
use Rattle.std.proofs.Common.{◌≡◌, ℕ, ◌≤◌, true, leb, List, ◌++◌, length, take, sym, ap, ◌∙◌, subst, inl, inr, arith, w32, SFits}
use Rattle.std.proofs.lemmas.List.{length-map, take_at}
use Rattle.std.proofs.lemmas.Bool.{cases_lt, cond-false, cond-true, le-leb, lt-leb}
use Rattle.std.specs.List.{AllByRecursion}
use Rattle.terms.specs.Refusals.{Said, answered, nothing, refused, row}
use Rattle.terms.specs.declared.auction.AuctionRow.{AuctionRow}
use Rattle.terms.specs.declared.order.Order.{Order}
use Rattle.terms.specs.declared.order.Response.{Response}
use Rattle.ranked.specs.declared.contra.ContraItem.{ContraItem}
use Rattle.ranked.specs.declared.fill.Fill.{Fill}
use Rattle.auction.specs.Records.{sound}
use Rattle.contra.specs.Answers.{contra_said}
use Rattle.contra.specs.Counting.{contra_of}
use Rattle.contra.specs.Laws.{Contra}
use Rattle.contra.specs.Turns.{ItemTurns}
use Rattle.allocation.proofs.Outcoming.{fills_most, fills_turn, groups_at, outcome, stop_turns}
use Rattle.allocation.specs.Deals.{deal_of}
use Rattle.allocation.specs.Fillings.{fills_of}
use Rattle.allocation.specs.Laws.{Shares}
use Rattle.allocation.specs.Outcomes.{Outcome, shown_fills, shown_items}
use Rattle.allocation.specs.Shown.{shown_fill, shown_item}
use Rattle.settlement.specs.Groups.{LevelsFit}
use Rattle.settlement.specs.Settles.{over}
use Rattle.settlement.specs.Shows.{FillTurns}

-- an answered call answers the count
said_count : {F : Type 0} (n places count : ℕ) → ◌≡◌ {A = Said ℕ F} (answered n) (contra_said places count) → n ≡ count
said_count {F} n places count e = elim (cases_lt places 128) [
  | inl h ↦
      let r : ◌≡◌ {A = Said ℕ F} (answered n) (refused (row 4 nothing)) = e ∙ cond-false (leb 128 places) _ _ (lt-leb 128 places h) in
      let z : ◌≡◌ {A = ℕ} 0 1 = cc in
      absurd (let b : ⊥ = omega arith in b)
  | inr h ↦ let r : ◌≡◌ {A = Said ℕ F} (answered n) (answered count) = e ∙ cond-true (leb 128 places) _ _ (le-leb 128 places h) in cc
]

take_over : {X : Type 0} (new old now : List X) (n : ℕ) → n ≡ length new → now ≡ over new old → take n now ≡ new
take_over new old now n e f = ap (take n) f ∙ take_at new _ n (sym e)

-- the first n of the list are the contra items of an auction
module _ (awards : List ℕ → ℕ → List ℕ) (a : AuctionRow) (ok : sound a ≡ true) (orders : List Order) (responses : List Response) {F : Type 0} (old list : List ContraItem) (n : ℕ) (answer : ◌≡◌ {A = Said ℕ F} (answered n) (contra_said (length old) (length (contra_of a orders responses)))) (after : list ≡ over (contra_of a orders responses) old) (law : Contra a orders responses (take n list)) where
  abbrev items : List ContraItem
  items = contra_of a orders responses

  abbrev fills : List Fill
  fills = fills_of awards (deal_of a) (take n list)

  count : n ≡ length items
  count = said_count n (length old) (length items) answer

  here : take n list ≡ items
  here = take_over items old list n count after

  lawful : Contra a orders responses items
  lawful = subst (Contra a orders responses) here law

  pub close_fits : a.size ≤ 100000 → LevelsFit (take n list)
  close_fits most = subst LevelsFit (sym here) (λ price x. omega (arith, groups_at a orders responses price x))

  pub close_most : Shares awards → length fills ≤ 257
  close_most shares = omega (arith, ap (λ xs. length (fills_of awards (deal_of a) xs)) here, fills_most awards shares a ok orders responses lawful)

  pub close_filled : AllByRecursion (ItemTurns a.side) items → SFits w32 a.stop → AllByRecursion (FillTurns a.side) fills
  close_filled turns stop =
      let t = subst (AllByRecursion (ItemTurns a.side)) (sym here) turns in
      fills_turn awards a (take n list) t (stop_turns a stop)

  -- both lists were shown
  pub close_law : Shares awards → (ys rest : List ContraItem) (before now : List Fill) (m : ℕ) → ys ≡ shown_items a (take n list) → m ≡ length fills → now ≡ over (shown_fills a fills) before → Outcome awards a orders responses (take n (ys ++ rest)) (take m now)
  close_law shares ys rest before now m e k f =
      let long : n ≡ length ys = omega (arith, count, ap length here, ap length e, length-map (take n list) (shown_item a.side)) in
      let x : take n (ys ++ rest) ≡ shown_items a items = take_at ys rest n (sym long) ∙ (e ∙ ap (shown_items a) here) in
      let y : take m now ≡ shown_fills a (fills_of awards (deal_of a) items) =
      take_over (shown_fills a fills) before now m (k ∙ sym (length-map fills (shown_fill a.side))) f
      ∙ ap (λ xs. shown_fills a (fills_of awards (deal_of a) xs)) here in
      let P : List ContraItem → Type 0 = λ xs. Outcome awards a orders responses xs (take m now) in
      let Q : List Fill → Type 0 = Outcome awards a orders responses (shown_items a items) in
      subst P (sym x) (subst Q (sym y) (outcome awards shares a ok orders responses lawful))
