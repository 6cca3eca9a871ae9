-- The levels, one after the other.
use Rattle.std.proofs.Common.{◌≡◌, ℕ, ◌+◌, ◌-◌, ◌<◌, ◌≤◌, ltb, Bool, true, false, not, ◌&&◌, cond, List, [], ◌∷◌, ◌++◌, length, get_or, take, drop, filter, sym, ap, ◌∙◌, arith}
use Rattle.std.proofs.lemmas.List.{append-nil, drop_all, drop_more, take_more}
use Rattle.std.proofs.lemmas.Bool.{cond-false, cond-true, le-ltb, lt-ltb}
use Rattle.std.specs.List.{flat_map, list_any}
use Rattle.ranked.specs.declared.contra.ContraItem.{ContraItem}
use Rattle.ranked.specs.declared.fill.Fill.{Fill}
use Rattle.allocation.specs.Deals.{Deal}
use Rattle.allocation.specs.Fillings.{fills_of, level_fills}
use Rattle.contra.specs.Kinds.{firsts, same_level, some}
use Rattle.allocation.specs.Levels.{Level, beginnings, below_in, below_stop, items_at, levels_from, spent_at, stop_in}
use Rattle.settlement.specs.Writes.{HasRoom, Worked}
use Rattle.settlement.specs.declared.filling.Filling.{Filling}
use Rattle.settlement.proofs.Writing.{end_same, step_room, step_same}

kept_first : {X : Type 0} (p : X → Bool) (b : Bool) (x : X) (ys : List X) → (p x && not b) ≡ true → filter p (cond b ys (x ∷ ys)) ≡ x ∷ filter p ys
kept_first p b x ys e = grind arith

passed_first : {X : Type 0} (p : X → Bool) (b : Bool) (x : X) (ys : List X) → (p x && not b) ≡ false → filter p (cond b ys (x ∷ ys)) ≡ filter p ys
passed_first p b x ys e = grind arith

-- the item at place i begins a level below the stop, or it doesn't
module _ (d : Deal) (items : List ContraItem) (i : ℕ) (x : ContraItem) (h : i < length items) where
  firsts_at : firsts same_level (take i items) (drop i items) ≡ cond (some (same_level (get_or items i x)) (take i items)) (firsts same_level (take (i + 1) items) (drop (i + 1) items)) (get_or items i x ∷ firsts same_level (take (i + 1) items) (drop (i + 1) items))
  unfolding firsts
  firsts_at =
      ap (firsts same_level (take i items)) (drop_more items i x h)
      ∙ ap (λ l. cond (some (same_level (get_or items i x)) (take i items)) (firsts same_level l (drop (i + 1) items)) (get_or items i x ∷ firsts same_level l (drop (i + 1) items))) (sym (take_more items i x h))

  pub begins : true ≡ below_stop d (get_or items i x) && not (list_any (same_level (get_or items i x)) (take i items)) → beginnings d (take i items) (drop i items) ≡ get_or items i x ∷ beginnings d (take (i + 1) items) (drop (i + 1) items)
  unfolding some
  begins e = ap (filter (below_stop d)) firsts_at ∙ kept_first (below_stop d) _ _ _ (sym e)

  pub begins_none : false ≡ below_stop d (get_or items i x) && not (list_any (same_level (get_or items i x)) (take i items)) → beginnings d (take i items) (drop i items) ≡ beginnings d (take (i + 1) items) (drop (i + 1) items)
  unfolding some
  begins_none e = ap (filter (below_stop d)) firsts_at ∙ passed_first (below_stop d) _ _ _ (sym e)

module _ (awards : List ℕ → ℕ → List ℕ) (d : Deal) (items : List ContraItem) where
  levels_spent : (ks : List ContraItem) (left : ℕ) → left ≡ 0 → levels_from awards d items ks left ≡ []
  unfolding levels_from
  levels_spent [] left e = cond-false (ltb 0 left) _ _ (le-ltb 0 left (omega arith))
  levels_spent (k ∷ ks) left e = cond-false (ltb 0 left) _ _ (le-ltb 0 left (omega arith))

  abbrev below : ContraItem → ℕ → Level
  below k left = below_in awards d k.level (items_at k.level items) left

  levels_first : (k : ContraItem) (ks : List ContraItem) (left : ℕ) → 0 < left → levels_from awards d items (k ∷ ks) left ≡ below k left ∷ levels_from awards d items ks (left - spent_at (below k left))
  unfolding levels_from
  levels_first k ks left h = cond-true (ltb 0 left) _ _ (lt-ltb 0 left h)

  abbrev last : ℕ → Level
  last left = stop_in awards d (items_at d.stop items) left

  levels_last : (left : ℕ) → 0 < left → levels_from awards d items [] left ≡ last left ∷ []
  unfolding levels_from
  levels_last left h = cond-true (ltb 0 left) _ _ (lt-ltb 0 left h)

  abbrev pub rest_fills : List ContraItem → ℕ → List Fill
  rest_fills ks left = flat_map (level_fills d) (levels_from awards d items ks left)

  -- the levels that ks begin are still to be worked
  module _ (ks : List ContraItem) (now : Filling) (same : now.fills.items ++ rest_fills ks now.left ≡ fills_of awards d items) where
    module _ (k : ContraItem) (ks' : List ContraItem) (first : ks ≡ k ∷ ks') where
      next : 0 < now.left → rest_fills ks now.left ≡ level_fills d (below k now.left) ++ rest_fills ks' (now.left - spent_at (below k now.left))
      next h = ap (flat_map (level_fills d)) (ap (λ l. levels_from awards d items l now.left) first ∙ levels_first k ks' now.left h)

      pub level_room : 0 < now.left → length (fills_of awards d items) ≤ 257 → HasRoom (level_fills d (below k now.left)) now.fills.items
      level_room h room = step_room [] (fills_of awards d items) now.fills.items (rest_fills ks now.left) same _ _ (next h) 257 (omega arith)

      pub level_on : 0 < now.left → (now' : Filling) → Worked d (below k now.left) now now' → now'.fills.items ++ rest_fills ks' now'.left ≡ fills_of awards d items
      level_on h now' w =
          ap (λ n. now'.fills.items ++ rest_fills ks' n) w.left
          ∙ step_same [] (fills_of awards d items) now.fills.items (rest_fills ks now.left) same _ _ (next h) now'.fills.items w.after

    pub level_passed : (ks' : List ContraItem) → now.left ≤ 0 → now.fills.items ++ rest_fills ks' now.left ≡ fills_of awards d items
    level_passed ks' h =
        let z : now.left ≡ 0 = omega arith in
        ap (λ ls. now.fills.items ++ flat_map (level_fills d) ls) (levels_spent ks' now.left z ∙ sym (levels_spent ks now.left z)) ∙ same

    -- no level begins here
    pub level_none : (ks' : List ContraItem) → ks ≡ ks' → now.fills.items ++ rest_fills ks' now.left ≡ fills_of awards d items
    level_none ks' e = ap (λ l. now.fills.items ++ rest_fills l now.left) (sym e) ∙ same

    module _ (none : ks ≡ []) where
      stop_next : 0 < now.left → rest_fills ks now.left ≡ level_fills d (last now.left) ++ []
      stop_next h = ap (flat_map (level_fills d)) (ap (λ l. levels_from awards d items l now.left) none ∙ levels_last now.left h)

      pub last_room : 0 < now.left → length (fills_of awards d items) ≤ 257 → HasRoom (level_fills d (last now.left)) now.fills.items
      last_room h room = step_room [] (fills_of awards d items) now.fills.items (rest_fills ks now.left) same _ _ (stop_next h) 257 (omega arith)

      pub last_done : 0 < now.left → (now' : Filling) → Worked d (last now.left) now now' → now'.fills.items ≡ fills_of awards d items
      last_done h now' w =
          sym (append-nil now'.fills.items)
          ∙ step_same [] (fills_of awards d items) now.fills.items (rest_fills ks now.left) same _ _ (stop_next h) now'.fills.items w.after

      pub all_done : now.left ≤ 0 → now.fills.items ≡ fills_of awards d items
      all_done h = end_same [] (fills_of awards d items) now.fills.items (rest_fills ks now.left) same (ap (flat_map (level_fills d)) (levels_spent ks now.left (omega arith)))

pub none_begin : (d : Deal) (items : List ContraItem) (i : ℕ) → length items ≤ i → beginnings d (take i items) (drop i items) ≡ []
unfolding firsts
none_begin d items i h = ap (λ l. filter (below_stop d) (firsts same_level (take i items) l)) (drop_all i items h)
