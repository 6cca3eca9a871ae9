-- Fills above a price: none lie at a level at or below it, and none where nothing remains.
use Rattle.std.proofs.Common.{◌≡◌, ℕ, ◌-◌, ◌<◌, ◌≤◌, Bool, true, false, ltb, List, [], ◌∷◌, ℤ, ◌≤ℤ◌, ap, inl, inr, arith}
use lib.Signed.{lt_z}
use Rattle.std.proofs.ByRecursion.{all-has, All-weaker, kept_by_passes}
use Rattle.std.proofs.lemmas.Int.{ints}
use Rattle.std.proofs.lemmas.Bool.{both_ways, cases_Bool, cases_lt, cond-false, cond-true, le-ltb, lt-ltb}
use Rattle.std.proofs.lemmas.List.Folds.{list_any-append}
use Rattle.std.specs.List.{flat_map}
use Rattle.ranked.specs.declared.contra.ContraItem.{ContraItem}
use Rattle.ranked.specs.declared.fill.Fill.{Fill}
use Rattle.contra.specs.Kinds.{same_price, some}
use Rattle.contra.proofs.Alike.{none_passes, passes_none, prices}
use Rattle.allocation.specs.Deals.{Deal}
use Rattle.allocation.specs.Fillings.{level_fills}
use Rattle.allocation.specs.Laws.{Beyond}
use Rattle.allocation.specs.Levels.{Level, at_level, items_at, levels_from, spent_at}
use Rattle.allocation.proofs.Filling.{level_all, parts_all}
use Rattle.allocation.proofs.Working.{below_at, stop_at}

unfoldable pub above : ℤ → Fill → Bool
above price f = lt_z price f.price

at_most : (price p c : ℤ) → p ≤ℤ price → same_price p c ≡ true → lt_z price c ≡ false
at_most price p c h e = grind (arith, ints)

module _ (awards : List ℕ → ℕ → List ℕ) (d : Deal) (items : List ContraItem) (price : ℤ) where
  abbrev pub fills_from : List ContraItem → ℕ → List Fill
  fills_from bs left = flat_map (level_fills d) (levels_from awards d items bs left)

  -- the fills of a level at or below the price do not lie above it
  pub below_low : (b : ContraItem) (left : ℕ) → b.level ≤ℤ price → some (above price) (level_fills d (below_at awards d items b left)) ≡ false
  unfolding above
  below_low b left h =
      let here : List ContraItem = items_at b.level items in
      passes_none (above price) _ (level_all _ d (below_at awards d items b left)
      (parts_all _ awards here _ 0 (All-weaker _ _ (λ x e n _. at_most price b.level x.level h e) here (kept_by_passes (at_level b.level) items)))
      (λ _. at_most price b.level b.level h (prices.refl b.level)))

  pub stop_low : (left : ℕ) → d.stop ≤ℤ price → some (above price) (level_fills d (stop_at awards d items left)) ≡ false
  unfolding above
  stop_low left h =
      let here : List ContraItem = items_at d.stop items in
      passes_none (above price) _ (level_all _ d (stop_at awards d items left)
      (parts_all _ awards here _ _ (All-weaker _ _ (λ x e n _. at_most price d.stop x.level h e) here (kept_by_passes (at_level d.stop) items)))
      (λ _. at_most price d.stop d.stop h (prices.refl d.stop)))

  -- no level is worked where nothing remains
  over : (bs : List ContraItem) (left : ℕ) → left ≤ 0 → levels_from awards d items bs left ≡ []
  unfolding levels_from
  over [] left h = cond-false (ltb 0 left) _ _ (le-ltb 0 left h)
  over (b ∷ bs) left h = cond-false (ltb 0 left) _ _ (le-ltb 0 left h)

  pub some_left : (bs : List ContraItem) (left : ℕ) → some (above price) (fills_from bs left) ≡ true → 0 < left
  unfolding some
  some_left bs left e = elim (cases_lt 0 left) [
    | inl h ↦ h
    | inr h ↦ absurd (both_ways _ (ap (λ ls. some (above price) (flat_map (level_fills d) ls)) (over bs left h)) e)
  ]

  pub one_more : (b : ContraItem) (bs : List ContraItem) (left : ℕ) → 0 < left → levels_from awards d items (b ∷ bs) left ≡ below_at awards d items b left ∷ levels_from awards d items bs (left - spent_at (below_at awards d items b left))
  unfolding levels_from
  one_more b bs left h = cond-true (ltb 0 left) _ _ (lt-ltb 0 left h)

  pub stop_only : (left : ℕ) → 0 < left → levels_from awards d items [] left ≡ stop_at awards d items left ∷ []
  unfolding levels_from
  stop_only left h = cond-true (ltb 0 left) _ _ (lt-ltb 0 left h)

  -- fills above the price lie behind a level that is at or below it
  pub behind : (l : Level) (ls : List Level) → some (above price) (level_fills d l) ≡ false → some (above price) (flat_map (level_fills d) (l ∷ ls)) ≡ true → some (above price) (flat_map (level_fills d) ls) ≡ true
  unfolding some
  behind l ls e f = let g = list_any-append (above price) (level_fills d l) (flat_map (level_fills d) ls) in grind arith

  -- some fill lies above the price
  pub some_beyond : (fs : List Fill) → Beyond price fs → some (above price) fs ≡ true
  unfolding above
  some_beyond fs (f, k, h) = elim (cases_Bool (some (above price) fs)) [
    | inl e ↦ e
    | inr e ↦ absurd (both_ways _ (all-has _ fs f (none_passes (above price) fs e) k) (grind (arith, ints)))
  ]
