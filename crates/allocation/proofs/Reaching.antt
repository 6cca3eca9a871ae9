-- What the levels below the stop leave: it is what their fills leave of the Agency Order.
use Rattle.std.proofs.Common.{◌≡◌, ℕ, ◌+◌, ◌-◌, ◌≤◌, Bool, true, false, List, [], ◌∷◌, ℤ, ◌<ℤ◌, arith}
use lib.Signed.{lt_z}
use Rattle.std.proofs.ByRecursion.{All-weaker, kept_by_passes}
use Rattle.std.proofs.lemmas.Int.{ints}
use Rattle.std.proofs.lemmas.Bool.Decides.{nat_tests}
use Rattle.std.specs.List.{AllByRecursion}
use Rattle.ranked.specs.declared.contra.ContraItem.{ContraItem}
use Rattle.contra.specs.Kinds.{same_price}
use Rattle.allocation.specs.Deals.{Deal}
use Rattle.allocation.specs.Laws.{Shares}
use Rattle.allocation.specs.Levels.{at_level, guarantee_in, items_at, levels_from, matched_in, spent_at}
use Rattle.allocation.specs.Parts.{parts_in, total}
use Rattle.allocation.proofs.Closing.{below_spent}
use Rattle.allocation.proofs.Filling.{level_sum, on_item, parts_all}
use Rattle.allocation.proofs.Testing.{gain_all, parts_within, worth_none}
use Rattle.allocation.proofs.Working.{below_at, stop_at}

-- a price below the stop
abbrev pub under_stop : Deal → ℕ → ℤ → Bool
under_stop d n price = lt_z price d.stop

under_same : (a b c : ℤ) → a <ℤ b → same_price a c ≡ true → lt_z c b ≡ true
under_same a b c h e = grind (arith, ints)

not_under : (a b : ℤ) → same_price a b ≡ true → lt_z b a ≡ false
not_under a b e = grind (arith, ints)

less_true : (a b : ℤ) → a <ℤ b → lt_z a b ≡ true
less_true a b h = grind (arith, ints)

not_less : (a : ℤ) → lt_z a a ≡ false
not_less a = grind (arith, ints)

module _ (awards : List ℕ → ℕ → List ℕ) (d : Deal) (items : List ContraItem) where
  abbrev pub spent : ContraItem → ℕ → ℕ
  spent b left = spent_at (below_at awards d items b left)

  -- what the levels leave
  unfoldable pub reach : List ContraItem → ℕ → ℕ
  reach [] left = left
  reach (b ∷ bs) left = reach bs (left - spent b left)

  pub reach_le : (bs : List ContraItem) (left : ℕ) → reach bs left ≤ left
  unfolding reach
  reach_le [] left = omega arith
  reach_le (b ∷ bs) left = omega (arith, reach_le bs (left - spent b left))

module _ (awards : List ℕ → ℕ → List ℕ) (s : Shares awards) (d : Deal) (items : List ContraItem) where
  -- below the stop all is below the stop, and at the stop nothing
  below_under : (b : ContraItem) (left : ℕ) → b.level <ℤ d.stop → level_sum (under_stop d) (below_at awards d items b left) ≡ spent awards d items b left
  below_under b left h =
      let here : List ContraItem = items_at b.level items in
      let q : ℕ = left - matched_in (d.matched b.level) here left in
      let e = gain_all (on_item (under_stop d)) (parts_in awards here q 0) (parts_all _ awards here q 0 (All-weaker _ _ (λ x k n. under_same b.level d.stop x.level h k) here (kept_by_passes (at_level b.level) items))) in
      let f = less_true b.level d.stop h in
      grind arith

  stop_under : (left : ℕ) → level_sum (under_stop d) (stop_at awards d items left) ≡ 0
  stop_under left =
      let here : List ContraItem = items_at d.stop items in
      let e = parts_within (on_item (under_stop d)) awards here left (guarantee_in d here left) in
      let f = worth_none (on_item (under_stop d)) here (All-weaker _ _ (λ x k. not_under d.stop x.level k) here (kept_by_passes (at_level d.stop) items)) in
      let g = not_less d.stop in
      grind arith

  pub under_sum : (bs : List ContraItem) (left : ℕ) → AllByRecursion (λ b. b.level <ℤ d.stop) bs → total (level_sum (under_stop d)) (levels_from awards d items bs left) + reach awards d items bs left ≡ left
  unfolding total levels_from reach
  under_sum [] left a = let e = stop_under left in grind (arith, nat_tests)
  under_sum (b ∷ bs) left a =
      let e = below_under b left a.0 in
      let f = under_sum bs (left - spent awards d items b left) a.1 in
      let g = below_spent awards s d b.level (items_at b.level items) left in
      let h = reach_le awards d items bs (left - spent awards d items b left) in
      grind (arith, nat_tests)
