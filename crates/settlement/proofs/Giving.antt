-- Items that are given contracts in turn.
use Rattle.std.proofs.Common.{◌≡◌, ◌≢◌, ◌==◌, ℕ, ◌+◌, ◌-◌, ◌<◌, ◌≤◌, min, Bool, true, false, List, [], ◌∷◌, ◌++◌, length, get_or, drop, filter, pos, refl, ap, ◌∙◌, arith}
use Rattle.std.proofs.lemmas.List.{drop_all, drop_more}
use Rattle.ranked.specs.declared.contra.ContraItem.{ContraItem}
use Rattle.ranked.specs.declared.fill.Fill.{Fill}
use Rattle.std.proofs.lemmas.Bool.Decides.{nat_tests}
use Rattle.allocation.proofs.Sums.{total_none, total_step}
use Rattle.allocation.specs.Deals.{Deal}
use Rattle.allocation.specs.Fillings.{part_fill, part_fills, unless_empty}
use Rattle.allocation.specs.Parts.{come, given_in, part_of, total}
use Rattle.settlement.specs.Writes.{HasRoom}
use Rattle.settlement.specs.declared.filling.Filling.{Filling}
use Rattle.settlement.proofs.Writing.{end_same, step_room, step_same}

come_step : (x : ContraItem) (xs : List ContraItem) (q : ℕ) → come (x ∷ xs) q ≡ part_of x (min q x.counted) ∷ come xs (q - min q x.counted)
unfolding come
come_step x xs q = refl

come_none : (q : ℕ) → come [] q ≡ []
unfolding come
come_none q = refl

-- of q contracts for the items xs, `rest` are left for ys, which still are to be given theirs
abbrev pub GivesOn : Deal → List ContraItem → List ContraItem → ℕ → Filling → Filling → ℕ → Type 0
GivesOn d xs ys q old now rest =
    (now.fills.items ++ part_fills d (come ys rest) ≡ old.fills.items ++ part_fills d (come xs q))
    × (now.left + total given_in (come xs q) ≡ old.left + total given_in (come ys rest))
    × (rest ≤ now.left)

module _ (d : Deal) (xs ys : List ContraItem) (q rest start left : ℕ) (old now : List Fill) (same : now ++ part_fills d (come ys rest) ≡ old ++ part_fills d (come xs q)) (sums : left + total given_in (come xs q) ≡ start + total given_in (come ys rest)) where
  module _ (x : ContraItem) (ys' : List ContraItem) (first : ys ≡ x ∷ ys') where
    next : come ys rest ≡ part_of x (min rest x.counted) ∷ come ys' (rest - min rest x.counted)
    next = ap (λ l. come l rest) first ∙ come_step x ys' rest

    fills_next : part_fills d (come ys rest) ≡ unless_empty (part_fill d (part_of x (min rest x.counted))) ++ part_fills d (come ys' (rest - min rest x.counted))
    fills_next = ap (part_fills d) next

    pub give_room : HasRoom (part_fills d (come xs q)) old → HasRoom (unless_empty (part_fill d (part_of x (min rest x.counted)))) now
    give_room k = step_room old _ now _ same _ _ fills_next 257 k

    module _ (n : ℕ) (given : n ≡ min rest x.counted) (now' : List Fill) (left' : ℕ) (after : now' ≡ now ++ unless_empty (part_fill d (part_of x n))) (less : left' + n ≡ left) where
      pub give_same : now' ++ part_fills d (come ys' (rest - n)) ≡ old ++ part_fills d (come xs q)
      give_same =
          ap (λ k. now' ++ part_fills d (come ys' (rest - k))) given
          ∙ step_same old _ now _ same _ _ fills_next now' (after ∙ ap (λ k. now ++ unless_empty (part_fill d (part_of x k))) given)

      pub give_sums : left' + total given_in (come xs q) ≡ start + total given_in (come ys' (rest - n))
      give_sums =
          omega
          (arith, given, ap (total given_in) next, ap (λ k. total given_in (come ys' (rest - k))) given, total_step given_in (part_of x (min rest x.counted)) (come ys' (rest - min rest x.counted)))

      pub give_left : rest ≤ left → rest - n ≤ left'
      give_left k = omega (arith, less)

  module _ (none : ys ≡ []) where
    over : come ys rest ≡ []
    over = ap (λ l. come l rest) none ∙ come_none rest

    pub given_all : now ≡ old ++ part_fills d (come xs q)
    given_all = end_same old _ now _ same (ap (part_fills d) over)

    pub given_left : left ≡ start - total given_in (come xs q)
    given_left = omega (arith, ap (total given_in) over, total_none given_in)

-- what a read past the end of a list would give
abbrev pub no_item : ContraItem
no_item = record { user = 0; number = 0; price = pos 0; level = pos 0; customer = false; counted = 0 }

-- one place on in a list of which some pass
module _ {X : Type 0} (p : X → Bool) (xs : List X) (i : ℕ) (d : X) (h : i < length xs) where
  pub passes_first : p (get_or xs i d) ≡ true → filter p (drop i xs) ≡ get_or xs i d ∷ filter p (drop (i + 1) xs)
  passes_first e = let m = drop_more xs i d h in grind arith

  pub fails_first : p (get_or xs i d) ≡ false → filter p (drop i xs) ≡ filter p (drop (i + 1) xs)
  fails_first e = let m = drop_more xs i d h in grind arith

pub none_passes : {X : Type 0} (p : X → Bool) (xs : List X) (i : ℕ) → length xs ≤ i → filter p (drop i xs) ≡ []
none_passes p xs i h = ap (filter p) (drop_all i xs h)

abbrev pub same_to : ℕ → ContraItem → Bool
same_to user x = user == x.user

pub user_same : (user : ℕ) (x : ContraItem) → user ≡ x.user → same_to user x ≡ true
user_same user x e = grind (arith, nat_tests)

pub user_other : (user : ℕ) (x : ContraItem) → user ≢ x.user → same_to user x ≡ false
user_other user x e = grind (arith, nat_tests)
