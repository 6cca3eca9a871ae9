-- Contracts trade at a price only when every better level is exhausted.
use Rattle.std.proofs.Common.{◌≡◌, ℕ, ◌+◌, ◌-◌, ◌<◌, Bool, true, false, cond, not, ◌&&◌, eqb, List, [], ◌∷◌, ℤ, ◌≤ℤ◌, ◌<ℤ◌, sym, refl, ap, ◌∙◌, arith}
use Rattle.std.proofs.ByRecursion.{All-weaker, kept_by_passes}
use Rattle.std.proofs.lemmas.Int.{by_lt_z, ints}
use Rattle.std.proofs.lemmas.Bool.{both_ways, ne_eqb}
use Rattle.std.specs.List.{flat_map, AllByRecursion}
use Rattle.ranked.specs.declared.contra.ContraItem.{ContraItem}
use Rattle.contra.specs.Kinds.{same_price, some}
use Rattle.allocation.specs.Deals.{Deal}
use Rattle.allocation.specs.Fillings.{fills_of, level_fills}
use Rattle.allocation.specs.Laws.{Beyond, Rising, Shares, counted_at, sold_at}
use Rattle.allocation.specs.Levels.{at_level, beginnings, items_at, levels_from, levels_of, spent_at}
use Rattle.allocation.specs.Parts.{counts, total}
use Rattle.allocation.proofs.Beyond.{above, behind, below_low, fills_from, one_more, some_beyond, some_left, stop_low, stop_only}
use Rattle.allocation.proofs.Climbing.{Climbs, beginnings_below, beginnings_climb}
use Rattle.allocation.proofs.Filling.{fills_sum, level_sum, on_item}
use Rattle.allocation.proofs.Holding.{levels_within}
use Rattle.allocation.proofs.Owning.{below_full}
use Rattle.allocation.proofs.Sums.{total_kept, total_same, total_step}
use Rattle.allocation.proofs.Testing.{worth, worth_none}
use Rattle.allocation.proofs.Working.{below_at, levels_whole, stop_at}

-- an item's fill at a price
abbrev pub sold_here : ℤ → ℕ → ℤ → Bool
sold_here price n p = not (eqb n 0) && same_price price p

no_match : (price p c : ℤ) (b : Bool) → price <ℤ p → same_price p c ≡ true → (b && same_price price c) ≡ false
no_match price p c b h e = let f : same_price price c ≡ false = grind (arith, ints) in grind arith

passed : (a b c : ℤ) → a <ℤ b → b <ℤ c → a <ℤ c
passed a b c h k = omega (arith, ints)

numbered : (n m : ℕ) (b : Bool) → 0 < n → cond (not (eqb n 0) && b) m 0 ≡ cond b m 0
numbered n m b h = let e = ne_eqb n 0 (λ z. omega arith) in grind arith

module _ (awards : List ℕ → ℕ → List ℕ) (s : Shares awards) (d : Deal) (items : List ContraItem) (price : ℤ) where
  abbrev t : ℕ → ℤ → Bool
  t = sold_here price

  none : (p : ℤ) → t 0 p ≡ false
  none p = refl

  abbrev count : ℤ → ℕ
  count p = total (worth (on_item t)) (items_at p items)

  abbrev sold : List ContraItem → ℕ → ℕ
  sold bs left = total (level_sum t) (levels_from awards d items bs left)

  -- nothing counts at a price of levels that lie above it
  nothing : (p : ℤ) → price <ℤ p → count p ≡ 0
  nothing p h = worth_none (on_item t) _ (All-weaker _ _ (λ x e. no_match price p x.level _ h e) _ (kept_by_passes (at_level p) items))

  nothing_on : (bs : List ContraItem) → AllByRecursion (λ b. price <ℤ b.level) bs → total (λ b. count b.level) bs ≡ 0
  unfolding total
  nothing_on [] a = refl
  nothing_on (b ∷ bs) a = omega (arith, nothing b.level a.0, nothing_on bs a.1)

  -- where levels lie above the price, nothing trades there
  all_above : (bs : List ContraItem) (left : ℕ) → AllByRecursion (λ b. price <ℤ b.level) bs → price <ℤ d.stop → sold bs left ≡ total (λ b. count b.level) bs + count d.stop
  all_above bs left a h = omega (arith, levels_within awards d items t none bs left, nothing_on bs a, nothing d.stop h)

  -- where fills lie above the price, the levels at the price give all that counts
  exhausted : (bs : List ContraItem) (left : ℕ) → Climbs bs → AllByRecursion (λ b. b.level <ℤ d.stop) bs → some (above price) (fills_from awards d items price bs left) ≡ true → sold bs left ≡ total (λ b. count b.level) bs + count d.stop
  unfolding some
  exhausted [] left c a e =
      by_lt_z price d.stop (λ h. all_above [] left tt h)
      (λ h.
      let f : some (above price) (flat_map (level_fills d) (stop_at awards d items left ∷ [])) ≡ true = sym (ap (λ ls. some (above price) (flat_map (level_fills d) ls)) (stop_only awards d items price left (some_left awards d items price [] left e))) ∙ e in
      absurd (both_ways _ refl (behind awards d items price (stop_at awards d items left) [] (stop_low awards d items price left h) f)))
  exhausted (b ∷ bs) left c a e =
      by_lt_z price b.level
      (λ h. all_above (b ∷ bs) left (h, All-weaker _ _ (λ y k. passed price b.level y.level h k) bs c.0) (passed price b.level d.stop h a.0))
      (λ h.
      let more = one_more awards d items price b bs left (some_left awards d items price (b ∷ bs) left e) in
      let rest : ℕ = left - spent_at (below_at awards d items b left) in
      let f : some (above price) (fills_from awards d items price bs rest) ≡ true = behind awards d items price (below_at awards d items b left) (levels_from awards d items bs rest) (below_low awards d items price b left h) (sym (ap (λ ls. some (above price) (flat_map (level_fills d) ls)) more) ∙ e) in
      omega
      (arith, ap (total (level_sum t)) more, total_step (level_sum t) (below_at awards d items b left) (levels_from awards d items bs rest), below_full awards s d items t none b left (some_left awards d items price bs rest f), exhausted bs rest c.1 a.1 f, total_step (λ b. count b.level) b bs))

  pub better : AllByRecursion (λ x. 0 < x.number) items → AllByRecursion (λ x. x.level ≤ℤ d.stop) items → Rising items → Beyond price (fills_of awards d items) → sold_at price (fills_of awards d items) ≡ counted_at price items
  better numbers under rising beyond =
      omega
      (arith, fills_sum t d (levels_of awards d items), exhausted (beginnings d [] items) d.size (beginnings_climb d items rising) (beginnings_below d items) (some_beyond awards d items price (fills_of awards d items) beyond), levels_whole d items (worth (on_item t)) under, total_kept counts (at_level price) items, total_same (worth (on_item t)) (λ x. cond (at_level price x) x.counted 0) items (All-weaker _ _ (λ x h. numbered x.number x.counted (same_price price x.level) h) items numbers))
