-- The Initiating Order holds at most its guarantee at the stop, or every item got all.
use Rattle.std.proofs.Common.{◌≡◌, ℕ, ◌-◌, ◌<◌, ◌≤◌, Bool, eqb, ◌⊎◌, List, [], length, ℤ, ◌≤ℤ◌, ap, ◌∙◌, inl, inr, arith}
use Rattle.std.proofs.lemmas.Bool.{cases_lt, ne_eqb}
use Rattle.std.specs.List.{AllByRecursion}
use Rattle.ranked.specs.declared.contra.ContraItem.{ContraItem}
use Rattle.ranked.specs.declared.fill.Fill.{Fill}
use Rattle.auction.specs.Sizes.{guarantee_of}
use Rattle.allocation.specs.Deals.{Deal}
use Rattle.allocation.specs.Fillings.{fills_of}
use Rattle.allocation.specs.Laws.{Shares, counted_for, filled_for, guaranteed, left_for_groups, own_at}
use Rattle.allocation.specs.Levels.{beginnings, guarantee_in, items_at, levels_of, stop_parts}
use Rattle.allocation.specs.Parts.{after_customers, counts, customers_in, given_in, leaders_in, others_in, total}
use Rattle.allocation.proofs.Climbing.{beginnings_below}
use Rattle.allocation.proofs.Closing.{counts_both, stop_given}
use Rattle.allocation.proofs.Filling.{fills_sum, on_item}
use Rattle.allocation.proofs.Giving.{come_given}
use Rattle.allocation.proofs.Owning.{full_sum, own_sum, own_stop}
use Rattle.allocation.proofs.Reaching.{reach, under_sum, under_stop}
use Rattle.allocation.proofs.Sums.{total_kept}
use Rattle.allocation.proofs.Testing.{worth}
use Rattle.allocation.proofs.Working.{levels_whole}

module _ (awards : List ℕ → ℕ → List ℕ) (s : Shares awards) (d : Deal) (items : List ContraItem) where
  abbrev fills : List Fill
  fills = fills_of awards d items

  abbrev here : List ContraItem
  here = items_at d.stop items

  abbrev bs : List ContraItem
  bs = beginnings d [] items

  abbrev left : ℕ
  left = reach awards d items bs d.size

  -- what remains for the groups, by the fills and by the levels
  left_is : left_for_groups d items fills ≡ after_customers here left
  left_is =
      omega
      (arith, fills_sum (under_stop d) d (levels_of awards d items), under_sum awards s d items bs d.size (beginnings_below d items), come_given (customers_in here) left)

  guaranteed_is : guaranteed d items fills ≡ guarantee_in d here left
  guaranteed_is = ap (λ n. guarantee_of d.last n (length (leaders_in (others_in here)))) left_is

  own_is : AllByRecursion (λ x. 0 < x.number) items → own_at d.stop fills ≡ left - total given_in (stop_parts awards d here left)
  own_is numbers =
      fills_sum (own_stop d) d (levels_of awards d items) ∙ own_sum awards d items numbers bs d.size (beginnings_below d items)

  -- where the stop is reached and gives all, every number got all
  all_filled : AllByRecursion (λ x. x.level ≤ℤ d.stop) items → 0 < left → total given_in (stop_parts awards d here left) ≡ total counts here → (n : ℕ) → 0 < n → filled_for n fills ≡ counted_for n items
  all_filled under h e n k =
      let t : ℕ → ℤ → Bool = λ m _. eqb m n in
      omega
      (arith, fills_sum t d (levels_of awards d items), full_sum awards s d items t (λ _. ne_eqb 0 n (omega arith)) bs d.size h e, levels_whole d items (worth (on_item t)) under, total_kept counts (λ x. eqb x.number n) items)

  pub fair : AllByRecursion (λ x. 0 < x.number) items → AllByRecursion (λ x. x.level ≤ℤ d.stop) items → (own_at d.stop fills ≤ guaranteed d items fills) ⊎ ((n : ℕ) → 0 < n → filled_for n fills ≡ counted_for n items)
  fair numbers under =
      let own = own_is numbers in
      let given = stop_given awards s d here left in
      let both = counts_both here in
      let g = guaranteed_is in
      elim (cases_lt (total given_in (stop_parts awards d here left)) (total counts here)) [
        | inl h ↦ inl (omega arith)
        | inr h ↦ elim (cases_lt 0 left) [
          | inl k ↦ inr (all_filled under k (omega arith))
          | inr k ↦ inl (omega arith)
        ]
      ]
