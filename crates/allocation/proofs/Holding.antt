-- The fills add up to the Agency size; what holds of each of them; no item gets more than counts.
use Rattle.std.proofs.Common.{◌≡◌, ℕ, ◌+◌, ◌-◌, ◌<◌, ◌≤◌, Bool, true, false, eqb, List, [], ◌∷◌, ℤ, ◌≤ℤ◌, refl, ◌∙◌, inl, inr, arith}
use Rattle.std.proofs.ByRecursion.{all_has_itself}
use Rattle.std.proofs.lemmas.Bool.{ne_eqb}
use Rattle.std.proofs.lemmas.Bool.Decides.{nat_tests}
use Rattle.std.specs.List.{ContainsAt, AllByRecursion}
use Rattle.ranked.specs.declared.contra.ContraItem.{ContraItem}
use Rattle.contra.proofs.Alike.{all_both}
use Rattle.allocation.specs.Deals.{Deal}
use Rattle.allocation.specs.Fillings.{fills_of}
use Rattle.allocation.specs.Laws.{Shares, Sold, counted_for, filled_for, size_of}
use Rattle.allocation.specs.Levels.{beginnings, guarantee_in, items_at, levels_from, levels_of, matched_in, spent_at}
use Rattle.allocation.specs.Parts.{counts, total}
use Rattle.allocation.proofs.Closing.{below_spent, stop_spent}
use Rattle.allocation.proofs.Filling.{all_fills, fills_sum, fills_total, level_sum, on_item}
use Rattle.allocation.proofs.Sums.{total_kept}
use Rattle.allocation.proofs.Testing.{parts_within, worth}
use Rattle.allocation.proofs.Working.{below_at, levels_le, levels_most, stop_at}

module _ (awards : List ℕ → ℕ → List ℕ) (d : Deal) (items : List ContraItem) where
  levels_spent : Shares awards → (bs : List ContraItem) (left : ℕ) → total spent_at (levels_from awards d items bs left) ≡ left
  unfolding total levels_from
  levels_spent s [] left = let e = stop_spent awards s d (items_at d.stop items) left in grind (arith, nat_tests)
  levels_spent s (b ∷ bs) left =
      let e = below_spent awards s d b.level (items_at b.level items) left in
      let f = levels_spent s bs (left - spent_at (below_at awards d items b left)) in
      grind (arith, nat_tests)

  pub whole : Shares awards → total size_of (fills_of awards d items) ≡ d.size
  whole s = fills_total (λ _ _. true) d (levels_of awards d items) ∙ levels_spent s (beginnings d [] items) d.size

  pub none_empty : AllByRecursion (λ f. 0 < f.size) (fills_of awards d items)
  none_empty = all_fills awards d items (ContainsAt items) _ (λ x n h k. h) (λ x n h k. h) (λ n h. h) (all_has_itself items)

  pub all_named : AllByRecursion (λ f. f.id ≡ d.id) (fills_of awards d items)
  all_named = all_fills awards d items (ContainsAt items) _ (λ x n h k. refl) (λ x n h k. refl) (λ n h. refl) (all_has_itself items)

  -- what holds of each level and of the stop holds of each price
  pub all_priced : (P : ℤ → Type 0) → AllByRecursion (λ x. P x.level) items → P d.stop → AllByRecursion (λ f. P f.price) (fills_of awards d items)
  all_priced P a e = all_fills awards d items (λ x. P x.level) (λ f. P f.price) (λ x n h k. k) (λ x n h k. k) (λ n h. e) a

  pub all_sold : AllByRecursion (λ x. x.price ≤ℤ x.level) items → AllByRecursion (Sold d items) (fills_of awards d items)
  all_sold a =
      all_fills awards d items (λ x. ContainsAt items x × (x.price ≤ℤ x.level)) (Sold d items)
      (λ x n h k. inr (record { item = x; there = k.0; user = refl; number = refl; level = refl; asks = k.1 }))
      (λ x n h k. inl (refl, refl))
      (λ n h. inl (refl, refl))
      (all_both (ContainsAt items) (λ x. x.price ≤ℤ x.level) _ (λ x u v. (u, v)) items (all_has_itself items) a)

  -- a test that no fill of the Initiating Order passes
  module _ (t : ℕ → ℤ → Bool) (none : (price : ℤ) → t 0 price ≡ false) where
    abbrev count : List ContraItem → ℕ
    count xs = total (worth (on_item t)) xs

    pub below_within : (b : ContraItem) (left : ℕ) → level_sum t (below_at awards d items b left) ≤ count (items_at b.level items)
    below_within b left =
        let here : List ContraItem = items_at b.level items in
        let e = parts_within (on_item t) awards here (left - matched_in (d.matched b.level) here left) 0 in
        let f = none b.level in
        grind arith

    pub stop_within : (left : ℕ) → level_sum t (stop_at awards d items left) ≤ count (items_at d.stop items)
    stop_within left =
        let here : List ContraItem = items_at d.stop items in
        let e = parts_within (on_item t) awards here left (guarantee_in d here left) in
        let f = none d.stop in
        grind arith

    pub levels_within : (bs : List ContraItem) (left : ℕ) → total (level_sum t) (levels_from awards d items bs left) ≤ total (λ b. count (items_at b.level items)) bs + count (items_at d.stop items)
    levels_within bs left = levels_le awards d items (level_sum t) _ _ below_within stop_within bs left

  pub within : (n : ℕ) → 0 < n → filled_for n (fills_of awards d items) ≤ counted_for n items
  within n h =
      let t : ℕ → ℤ → Bool = λ k _. eqb k n in
      omega
      (arith, fills_sum t d (levels_of awards d items), levels_within t (λ _. ne_eqb 0 n (omega arith)) (beginnings d [] items) d.size, levels_most d items (worth (on_item t)), total_kept counts (λ x. eqb x.number n) items)
