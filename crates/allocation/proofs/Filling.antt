-- The fills of levels: their sums by a test on number and price, and what holds of each of them.
use Rattle.std.proofs.Common.{◌≡◌, ℕ, ◌+◌, ◌-◌, ◌<◌, min, Bool, cond, ltb, List, [], ◌∷◌, ℤ, ◌∙◌, arith}
use Rattle.std.proofs.ByRecursion.{All-append, all_kept_by, All-weaker}
use Rattle.std.proofs.lemmas.Bool.{cond_both, ltb-true}
use Rattle.std.proofs.lemmas.Bool.Decides.{nat_tests}
use Rattle.std.specs.List.{flat_map, AllByRecursion}
use Rattle.ranked.specs.declared.contra.ContraItem.{ContraItem}
use Rattle.ranked.specs.declared.fill.Fill.{Fill}
use Rattle.contra.specs.Kinds.{same_level}
use Rattle.contra.proofs.Alike.{firsts_all}
use Rattle.allocation.specs.Deals.{Deal}
use Rattle.allocation.specs.Fillings.{fills_of, level_fills, own_fill, part_fill, part_fills, unless_empty}
use Rattle.allocation.specs.Laws.{filled, size_of}
use Rattle.allocation.specs.Levels.{Level, at_level, beginnings, below_stop, levels_from, levels_of, spent_at}
use Rattle.allocation.specs.Parts.{Part, come, customers_in, dealt, is_customer, is_other, others_in, part_of, parts_in, total}
use Rattle.allocation.proofs.Sums.{total_append, total_joined, total_kept, total_like}
use Rattle.allocation.proofs.Testing.{gain}
use Rattle.allocation.proofs.Working.{below_at, stop_at}

-- a test on number and price, of a fill and of an item
abbrev pub on_fill : (ℕ → ℤ → Bool) → Fill → Bool
on_fill t f = t f.number f.price

abbrev pub on_item : (ℕ → ℤ → Bool) → ContraItem → Bool
on_item t x = t x.number x.level

-- the contracts of a level that pass
abbrev pub level_sum : (ℕ → ℤ → Bool) → Level → ℕ
level_sum t l = total (gain (on_item t)) l.parts + cond (t 0 l.price) l.own 0

module _ (t : ℕ → ℤ → Bool) (d : Deal) where
  abbrev size : Fill → ℕ
  size f = cond (on_fill t f) f.size 0

  -- a fill of size 0 is no loss
  unless_sum : (f : Fill) → total size (unless_empty f) ≡ size f
  unfolding total
  unless_sum f = grind (arith, nat_tests)

  parts_sum : (ps : List Part) → total size (part_fills d ps) ≡ total (gain (on_item t)) ps
  parts_sum ps =
      total_joined size (λ p. unless_empty (part_fill d p)) ps
      ∙ total_like _ (gain (on_item t)) (λ p. unless_sum (part_fill d p)) ps

  pub level_sums : (l : Level) → total size (level_fills d l) ≡ level_sum t l
  level_sums l =
      omega
      (arith, total_append size (part_fills d l.parts) (unless_empty (own_fill d l.price l.own)), parts_sum l.parts, unless_sum (own_fill d l.price l.own))

  pub fills_total : (ls : List Level) → total size (flat_map (level_fills d) ls) ≡ total (level_sum t) ls
  fills_total ls = total_joined size (level_fills d) ls ∙ total_like _ (level_sum t) level_sums ls

  pub fills_sum : (ls : List Level) → filled (on_fill t) (flat_map (level_fills d) ls) ≡ total (level_sum t) ls
  fills_sum ls =
      total_kept size_of (on_fill t) (flat_map (level_fills d) ls) ∙ fills_total ls

-- what holds of each fill of a level
module _ (F : Fill → Type 0) (d : Deal) where
  unless_all : (f : Fill) → (0 < f.size → F f) → AllByRecursion F (unless_empty f)
  unless_all f h = cond_both (ltb 0 f.size) _ _ (AllByRecursion F) (λ e. (h (ltb-true 0 f.size e), tt)) (λ e. tt)

  parts_fills : (ps : List Part) → AllByRecursion (λ p. 0 < p.given → F (part_fill d p)) ps → AllByRecursion F (part_fills d ps)
  parts_fills [] a = tt
  parts_fills (p ∷ ps) a = All-append F _ _ (unless_all (part_fill d p) a.0) (parts_fills ps a.1)

  pub level_all : (l : Level) → AllByRecursion (λ p. 0 < p.given → F (part_fill d p)) l.parts → (0 < l.own → F (own_fill d l.price l.own)) → AllByRecursion F (level_fills d l)
  level_all l a h = All-append F _ _ (parts_fills l.parts a) (unless_all (own_fill d l.price l.own) h)

  pub fills_all : (ls : List Level) → AllByRecursion (λ l. AllByRecursion F (level_fills d l)) ls → AllByRecursion F (flat_map (level_fills d) ls)
  fills_all [] a = tt
  fills_all (l ∷ ls) a = All-append F _ _ a.0 (fills_all ls a.1)

-- what holds of each item holds of the item of each part
module _ (Q : Part → Type 0) where
  come_all : (xs : List ContraItem) (q : ℕ) → AllByRecursion (λ x. (n : ℕ) → Q (part_of x n)) xs → AllByRecursion Q (come xs q)
  unfolding come
  come_all [] q a = tt
  come_all (x ∷ xs) q a = (a.0 (min q x.counted), come_all xs (q - min q x.counted) a.1)

  dealt_all : (others xs : List ContraItem) (ns : List ℕ) → AllByRecursion (λ x. (n : ℕ) → Q (part_of x n)) others → AllByRecursion Q (dealt others xs ns)
  unfolding dealt
  dealt_all others [] ns a = tt
  dealt_all others (x ∷ xs) [] a = All-append Q _ _ (come_all _ 0 (all_kept_by _ _ others a)) (dealt_all others xs [] a)
  dealt_all others (x ∷ xs) (n ∷ ns) a = All-append Q _ _ (come_all _ n (all_kept_by _ _ others a)) (dealt_all others xs ns a)

  pub parts_all : (awards : List ℕ → ℕ → List ℕ) (here : List ContraItem) (q kept : ℕ) → AllByRecursion (λ x. (n : ℕ) → Q (part_of x n)) here → AllByRecursion Q (parts_in awards here q kept)
  parts_all awards here q kept a =
      All-append Q _ _ (come_all (customers_in here) q (all_kept_by is_customer _ here a)) (dealt_all (others_in here) _ _ (all_kept_by is_other _ here a))

-- what holds of each level as it is worked
module _ (awards : List ℕ → ℕ → List ℕ) (d : Deal) (items : List ContraItem) (L : Level → Type 0) (stop : (left : ℕ) → L (stop_at awards d items left)) where
  pub levels_all : (bs : List ContraItem) (left : ℕ) → AllByRecursion (λ b. (n : ℕ) → L (below_at awards d items b n)) bs → AllByRecursion L (levels_from awards d items bs left)
  unfolding levels_from
  levels_all [] left a = cond_both (ltb 0 left) _ _ (AllByRecursion L) (λ e. (stop left, tt)) (λ e. tt)
  levels_all (b ∷ bs) left a =
      cond_both (ltb 0 left) _ _ (AllByRecursion L)
      (λ e. (a.0 left, levels_all bs (left - spent_at (below_at awards d items b left)) a.1))
      (λ e. tt)

-- what holds of each item, and of the stop, passes to all fills
module _ (awards : List ℕ → ℕ → List ℕ) (d : Deal) (items : List ContraItem) (Q : ContraItem → Type 0) (F : Fill → Type 0) where
  module _ (part : (x : ContraItem) (n : ℕ) → 0 < n → Q x → F (part_fill d (part_of x n))) (own : (x : ContraItem) (n : ℕ) → 0 < n → Q x → F (own_fill d x.level n)) (last : (n : ℕ) → 0 < n → F (own_fill d d.stop n)) where
    here_all : (here : List ContraItem) (q kept : ℕ) → AllByRecursion Q here → AllByRecursion (λ p. 0 < p.given → F (part_fill d p)) (parts_in awards here q kept)
    here_all here q kept a = parts_all _ awards here q kept (All-weaker _ _ (λ x k n h. part x n h k) here a)

    pub all_fills : AllByRecursion Q items → AllByRecursion F (fills_of awards d items)
    all_fills a =
        fills_all F d (levels_of awards d items)
        (levels_all awards d items (λ l. AllByRecursion F (level_fills d l))
        (λ left. level_all F d (stop_at awards d items left) (here_all _ _ _ (all_kept_by (at_level d.stop) Q items a)) (λ h. last _ h))
        (beginnings d [] items) d.size
        (all_kept_by (below_stop d) _ _ (firsts_all same_level _ items []
        (All-weaker _ _ (λ b k n. level_all F d (below_at awards d items b n) (here_all _ _ _ (all_kept_by (at_level b.level) Q items a)) (λ h. own b _ h k)) items a))))
