-- Awards that are dealt to groups.
use Rattle.std.proofs.Common.{◌≡◌, ℕ, ◌+◌, ◌-◌, ◌≤◌, ◌⊎◌, List, [], ◌∷◌, ◌++◌, map, length, sym, refl, ap, ◌∙◌, inl, inr, arith}
use Rattle.std.proofs.lemmas.List.{append_assoc}
use Rattle.std.specs.List.{flat_map}
use Rattle.ranked.specs.declared.contra.ContraItem.{ContraItem}
use Rattle.ranked.specs.declared.fill.Fill.{Fill}
use Rattle.share.specs.Awards as share
use Rattle.allocation.proofs.Giving.{come_given}
use Rattle.allocation.proofs.Sums.{total_append, total_none}
use Rattle.allocation.specs.Deals.{Deal}
use Rattle.allocation.specs.Fillings.{part_fill, part_fills, unless_empty}
use Rattle.allocation.specs.Parts.{Part, come, dealt, given_in, group_of, total}
use Rattle.settlement.specs.Groups.{dealt_to, of_user}
use Rattle.settlement.specs.Writes.{HasRoom}
use Rattle.settlement.proofs.Writing.{end_same, step_room, step_same}

pub joined_append : {X Y : Type 0} (f : X → List Y) (xs ys : List X) → flat_map f (xs ++ ys) ≡ flat_map f xs ++ flat_map f ys
joined_append f [] ys = refl
joined_append f (x ∷ xs) ys = ap (λ l. f x ++ l) (joined_append f xs ys) ∙ sym (append_assoc (f x) (flat_map f xs) (flat_map f ys))

pub part_fills_append : (d : Deal) (ps qs : List Part) → part_fills d (ps ++ qs) ≡ part_fills d ps ++ part_fills d qs
part_fills_append d ps qs = joined_append (λ p. unless_empty (part_fill d p)) ps qs

dealt_step : (others : List ContraItem) (x : ℕ) (xs : List ℕ) (n : ℕ) (ns : List ℕ) → dealt_to others (x ∷ xs) (n ∷ ns) ≡ come (of_user others x) n ++ dealt_to others xs ns
unfolding dealt_to
dealt_step others x xs n ns = refl

dealt_none : (others : List ContraItem) (ns : List ℕ) → dealt_to others [] ns ≡ []
unfolding dealt_to
dealt_none others ns = refl

-- the users of leaders, and the leaders' groups
pub dealt_users : (others xs : List ContraItem) (ns : List ℕ) → dealt_to others (map (λ x. x.user) xs) ns ≡ dealt others xs ns
unfolding dealt dealt_to
dealt_users others [] ns = refl
dealt_users others (x ∷ xs) [] = ap (λ l. come (group_of others x) 0 ++ l) (dealt_users others xs [])
dealt_users others (x ∷ xs) (n ∷ ns) = ap (λ l. come (group_of others x) n ++ l) (dealt_users others xs ns)

-- the awards ns are still to be dealt to the groups of xs, of all that is to be dealt
module _ (d : Deal) (others : List ContraItem) (all : List Part) (xs : List ℕ) (ns : List ℕ) (start left : ℕ) (old now : List Fill) (each : length xs ≡ length ns) (same : now ++ part_fills d (dealt_to others xs ns) ≡ old ++ part_fills d all) (sums : left + total given_in all ≡ start + total given_in (dealt_to others xs ns)) where
  module _ (x : ℕ) (xs' : List ℕ) (n : ℕ) (ns' : List ℕ) (first : xs ≡ x ∷ xs') (second : ns ≡ n ∷ ns') where
    next : dealt_to others xs ns ≡ come (of_user others x) n ++ dealt_to others xs' ns'
    next = ap (λ l. dealt_to others l ns) first ∙ (ap (dealt_to others (x ∷ xs')) second ∙ dealt_step others x xs' n ns')

    fills_next : part_fills d (dealt_to others xs ns) ≡ part_fills d (come (of_user others x) n) ++ part_fills d (dealt_to others xs' ns')
    fills_next = ap (part_fills d) next ∙ part_fills_append d (come (of_user others x) n) (dealt_to others xs' ns')

    pub deal_enough : share.total ns ≤ left → n ≤ left
    deal_enough k = omega (arith, ap share.total second)

    module _ (mine : List ContraItem) (is : mine ≡ of_user others x) where
      pub deal_room : HasRoom (part_fills d all) old → HasRoom (part_fills d (come mine n)) now
      deal_room k =
          let room = step_room old (part_fills d all) now (part_fills d (dealt_to others xs ns)) same (part_fills d (come (of_user others x) n)) (part_fills d (dealt_to others xs' ns')) fills_next 257 k in
          omega (arith, ap (λ l. length (part_fills d (come l n))) is)

      module _ (now' : List Fill) (left' : ℕ) (less : left' ≡ left - total given_in (come mine n)) (after : now' ≡ now ++ part_fills d (come mine n)) (enough : share.total ns ≤ left) where
        pub deal_each : length xs' ≡ length ns'
        deal_each = omega (arith, ap length first, ap length second)

        pub deal_same : now' ++ part_fills d (dealt_to others xs' ns') ≡ old ++ part_fills d all
        deal_same = step_same old _ now _ same _ _ fills_next now' (after ∙ ap (λ l. now ++ part_fills d (come l n)) is)

        given_most : total given_in (come mine n) ≤ n
        given_most = omega (arith, come_given mine n)

        pub deal_sums : left' + total given_in all ≡ start + total given_in (dealt_to others xs' ns')
        deal_sums =
            omega
            (arith, given_most, deal_enough enough, ap (total given_in) next, total_append given_in (come (of_user others x) n) (dealt_to others xs' ns'), ap (λ l. total given_in (come l n)) is)

        pub deal_left : share.total ns' ≤ left'
        deal_left = omega (arith, given_most, ap share.total second)

  module _ (over : (xs ≡ []) ⊎ (ns ≡ [])) where
    empty : xs ≡ []
    empty = by over
      where
        by : (xs ≡ []) ⊎ (ns ≡ []) → xs ≡ []
        by (inl e) = e
        by (inr e) = none xs (omega (arith, ap length e))
          where
            none : (ys : List ℕ) → length ys ≡ 0 → ys ≡ []
            none [] z = refl
            none (y ∷ ys) z = absurd (omega (arith, z))

    none_left : dealt_to others xs ns ≡ []
    none_left = ap (λ l. dealt_to others l ns) empty ∙ dealt_none others ns

    pub dealt_left : left ≡ start - total given_in all
    dealt_left = omega (arith, ap (total given_in) none_left, total_none given_in)

    pub dealt_after : now ≡ old ++ part_fills d all
    dealt_after = end_same old _ now _ same (ap (part_fills d) none_left)
