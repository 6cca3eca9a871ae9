-- The levels of a settlement: bounds over all of them, and how they split the items.
use Rattle.std.proofs.Common.{◌≡◌, ℕ, ◌+◌, ◌-◌, ◌≤◌, true, cond, List, [], ◌∷◌, length, ℤ, ◌≤ℤ◌, ◌∙◌, arith}
use lib.Signed.{lt_z}
use Rattle.std.proofs.ByRecursion.{All-weaker}
use Rattle.std.proofs.lemmas.Int.{ints}
use Rattle.std.specs.List.{AllByRecursion}
use Rattle.ranked.specs.declared.contra.ContraItem.{ContraItem}
use Rattle.contra.specs.Kinds.{firsts, same_level, same_price}
use Rattle.contra.proofs.Alike.{firsts_few, levels}
use Rattle.allocation.specs.Deals.{Deal}
use Rattle.allocation.specs.Levels.{Level, beginnings, below_in, below_stop, items_at, levels_from, spent_at, stop_in}
use Rattle.allocation.specs.Parts.{total}
use Rattle.allocation.proofs.Classes.{split_kept}
use Rattle.allocation.proofs.Sums.{one, total_kept, total_most, total_one, total_same, total_sum}

-- the level that an item begins, and the stop, as they are worked on what remains
abbrev pub below_at : (List ℕ → ℕ → List ℕ) → Deal → List ContraItem → ContraItem → ℕ → Level
below_at awards d items b left = below_in awards d b.level (items_at b.level items) left

abbrev pub stop_at : (List ℕ → ℕ → List ℕ) → Deal → List ContraItem → ℕ → Level
stop_at awards d items left = stop_in awards d (items_at d.stop items) left

module _ (awards : List ℕ → ℕ → List ℕ) (d : Deal) (items : List ContraItem) where
  pub levels_le : (f : Level → ℕ) (g : ContraItem → ℕ) (m : ℕ) → ((b : ContraItem) (left : ℕ) → f (below_at awards d items b left) ≤ g b) → ((left : ℕ) → f (stop_at awards d items left) ≤ m) → (bs : List ContraItem) (left : ℕ) → total f (levels_from awards d items bs left) ≤ total g bs + m
  unfolding total levels_from
  levels_le f g m e h [] left = let k = h left in grind arith
  levels_le f g m e h (b ∷ bs) left =
      let k = e b left in
      let r = levels_le f g m e h bs (left - spent_at (below_at awards d items b left)) in
      grind arith

-- the items by the levels below the stop, and at the stop
module _ (d : Deal) (items : List ContraItem) where
  below_kinds : (x y : ContraItem) → same_level x y ≡ true → below_stop d x ≡ below_stop d y
  below_kinds x y e = grind (arith, ints)

  abbrev share : (ContraItem → ℕ) → ContraItem → ℕ
  share w z = cond (below_stop d z) (w z) 0 + cond (same_price d.stop z.level) (w z) 0

  abbrev by_level : (ContraItem → ℕ) → ℕ
  by_level w = total (λ b. total w (items_at b.level items)) (beginnings d [] items) + total w (items_at d.stop items)

  levels_split : (w : ContraItem → ℕ) → by_level w ≡ total (share w) items
  levels_split w =
      omega
      (arith, split_kept same_level levels (below_stop d) below_kinds w items, total_kept w (λ z. same_price d.stop z.level) items, total_sum (λ z. cond (below_stop d z) (w z) 0) (λ z. cond (same_price d.stop z.level) (w z) 0) items)

  share_most : (n : ℕ) (a b : ℤ) → cond (lt_z a b) n 0 + cond (same_price b a) n 0 ≤ n
  share_most n a b = grind (arith, ints)

  share_whole : (n : ℕ) (a b : ℤ) → a ≤ℤ b → cond (lt_z a b) n 0 + cond (same_price b a) n 0 ≡ n
  share_whole n a b h = grind (arith, ints)

  pub levels_most : (w : ContraItem → ℕ) → by_level w ≤ total w items
  levels_most w = omega (arith, levels_split w, total_most (share w) w (λ z. share_most (w z) z.level d.stop) items)

  pub levels_whole : (w : ContraItem → ℕ) → AllByRecursion (λ x. x.level ≤ℤ d.stop) items → by_level w ≡ total w items
  levels_whole w a =
      levels_split w ∙ total_same (share w) w items (All-weaker _ _ (λ z h. share_whole (w z) z.level d.stop h) items a)

  pub beginnings_few : total one (beginnings d [] items) ≤ length items
  beginnings_few =
      omega
      (arith, total_kept one (below_stop d) (firsts same_level [] items), total_most (λ x. cond (below_stop d x) 1 0) one (λ x. grind arith) (firsts same_level [] items), total_one (firsts same_level [] items), firsts_few same_level items [])
