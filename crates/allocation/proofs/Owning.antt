-- What the Initiating Order holds at the stop, and what each number got where contracts reach it.
use Rattle.std.proofs.Common.{◌≡◌, ℕ, ◌+◌, ◌-◌, ◌<◌, Bool, false, ◌&&◌, eqb, List, [], ◌∷◌, ℤ, ◌<ℤ◌, arith}
use Rattle.std.proofs.ByRecursion.{all_kept_by, All-weaker}
use Rattle.std.proofs.lemmas.Int.{ints}
use Rattle.std.proofs.lemmas.Bool.Decides.{nat_tests}
use Rattle.std.specs.List.{AllByRecursion}
use Rattle.ranked.specs.declared.contra.ContraItem.{ContraItem}
use Rattle.contra.specs.Kinds.{same_price}
use Rattle.contra.proofs.Alike.{prices}
use Rattle.allocation.specs.Deals.{Deal}
use Rattle.allocation.specs.Laws.{Shares}
use Rattle.allocation.specs.Levels.{at_level, guarantee_in, items_at, levels_from, matched_in, stop_parts}
use Rattle.allocation.specs.Parts.{counts, given_in, total}
use Rattle.allocation.proofs.Closing.{below_all}
use Rattle.allocation.proofs.Filling.{level_sum, on_item}
use Rattle.allocation.proofs.Testing.{parts_full, parts_within, worth, worth_none}
use Rattle.allocation.proofs.Working.{below_at, stop_at}
use Rattle.allocation.proofs.Reaching.{reach, reach_le, spent}

-- the Initiating Order at the stop
abbrev pub own_stop : Deal → ℕ → ℤ → Bool
own_stop d n price = eqb n 0 && same_price d.stop price

not_same : (a b : ℤ) → a <ℤ b → same_price b a ≡ false
not_same a b h = grind (arith, ints)

module _ (awards : List ℕ → ℕ → List ℕ) (d : Deal) (items : List ContraItem) where
  module _ (numbers : AllByRecursion (λ x. 0 < x.number) items) where
    no_own : (price : ℤ) → total (worth (on_item (own_stop d))) (items_at price items) ≡ 0
    no_own price = worth_none (on_item (own_stop d)) _ (All-weaker _ _ (λ x k. grind (arith, nat_tests)) _ (all_kept_by (at_level price) _ items numbers))

    below_own : (b : ContraItem) (left : ℕ) → b.level <ℤ d.stop → level_sum (own_stop d) (below_at awards d items b left) ≡ 0
    below_own b left h =
        let here : List ContraItem = items_at b.level items in
        let e = parts_within (on_item (own_stop d)) awards here (left - matched_in (d.matched b.level) here left) 0 in
        let f = no_own b.level in
        let g = not_same b.level d.stop h in
        grind arith

    stop_own : (left : ℕ) → level_sum (own_stop d) (stop_at awards d items left) ≡ left - total given_in (stop_parts awards d (items_at d.stop items) left)
    stop_own left =
        let here : List ContraItem = items_at d.stop items in
        let e = parts_within (on_item (own_stop d)) awards here left (guarantee_in d here left) in
        let f = no_own d.stop in
        let g = prices.refl d.stop in
        grind arith

    pub own_sum : (bs : List ContraItem) (left : ℕ) → AllByRecursion (λ b. b.level <ℤ d.stop) bs → total (level_sum (own_stop d)) (levels_from awards d items bs left) ≡ reach awards d items bs left - total given_in (stop_parts awards d (items_at d.stop items) (reach awards d items bs left))
    unfolding total levels_from reach
    own_sum [] left a = let e = stop_own left in grind (arith, nat_tests)
    own_sum (b ∷ bs) left a =
        let e = below_own b left a.0 in
        let f = own_sum bs (left - spent awards d items b left) a.1 in
        let h = reach_le awards d items bs (left - spent awards d items b left) in
        grind (arith, nat_tests)

module _ (awards : List ℕ → ℕ → List ℕ) (s : Shares awards) (d : Deal) (items : List ContraItem) where
  -- a test that no fill of the Initiating Order passes
  module _ (t : ℕ → ℤ → Bool) (none : (price : ℤ) → t 0 price ≡ false) where
    abbrev count : ℤ → ℕ
    count price = total (worth (on_item t)) (items_at price items)

    pub below_full : (b : ContraItem) (left : ℕ) → 0 < left - spent awards d items b left → level_sum t (below_at awards d items b left) ≡ count b.level
    below_full b left h =
        let here : List ContraItem = items_at b.level items in
        let e = parts_full (on_item t) awards here (left - matched_in (d.matched b.level) here left) 0 (below_all awards s d b.level here left h) in
        let f = none b.level in
        grind arith

    pub full_sum : (bs : List ContraItem) (left : ℕ) → 0 < reach awards d items bs left → total given_in (stop_parts awards d (items_at d.stop items) (reach awards d items bs left)) ≡ total counts (items_at d.stop items) → total (level_sum t) (levels_from awards d items bs left) ≡ total (λ b. count b.level) bs + count d.stop
    unfolding total levels_from reach
    full_sum [] left h k =
        let here : List ContraItem = items_at d.stop items in
        let e = parts_full (on_item t) awards here left (guarantee_in d here left) k in
        let f = none d.stop in
        grind (arith, nat_tests)
    full_sum (b ∷ bs) left h k =
        let g = reach_le awards d items bs (left - spent awards d items b left) in
        let e = below_full b left (omega arith) in
        let f = full_sum bs (left - spent awards d items b left) h k in
        grind (arith, nat_tests)
