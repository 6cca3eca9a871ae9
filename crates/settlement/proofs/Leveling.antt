-- One level, step by step.
use Rattle.std.proofs.Common.{◌≡◌, ℕ, ◌+◌, ◌-◌, ◌≤◌, fold, List, [], ◌∷◌, ◌++◌, length, ℤ, sym, refl, ap, ◌∙◌, arith}
use Rattle.std.proofs.lemmas.List.{append_assoc, length-append}
use Rattle.ranked.specs.declared.contra.ContraItem.{ContraItem}
use Rattle.ranked.specs.declared.fill.Fill.{Fill}
use Rattle.allocation.proofs.Sums.{total_append}
use Rattle.allocation.specs.Deals.{Deal}
use Rattle.allocation.specs.Fillings.{level_fills, own_fill, part_fills, unless_empty}
use Rattle.allocation.specs.Levels.{below_in, guarantee_in, matched_in, stop_in, stop_parts}
use Rattle.allocation.specs.Parts.{Part, after_customers, come, counts, customers_in, given_in, leaders_in, others_in, parts_in, shared, total}
use Rattle.auction.specs.Sizes.{guarantee_of}
use Rattle.settlement.specs.Writes.{Given, HasRoom, Worked}
use Rattle.settlement.specs.declared.filling.Filling.{Filling}
use Rattle.settlement.proofs.Dealing.{part_fills_append}
use Rattle.settlement.proofs.Writing.{rest_same, step_room, step_same}

-- what all that counts leaves
pub unmatched_left : (xs : List ContraItem) (left : ℕ) → fold (λ rest x. rest - counts x) left xs ≡ left - total counts xs
unfolding total
unmatched_left [] left = omega arith
unmatched_left (x ∷ xs) left = unmatched_left xs (left - x.counted) ∙ (let z : left - x.counted - total counts xs ≡ left - (x.counted + total counts xs) = omega arith in z)

-- the fills of a level: customers, then groups, then what is the Initiating Order's
module _ (d : Deal) (awards : List ℕ → ℕ → List ℕ) (here cs os : List ContraItem) (customers : cs ≡ customers_in here) (others : os ≡ others_in here) (q kept x : ℕ) (groups : x ≡ after_customers here q - kept) (own : List Fill) where
  abbrev first : List Part
  first = come cs q

  abbrev second : List Part
  second = shared awards os x

  abbrev all : List Fill
  all = part_fills d (parts_in awards here q kept) ++ own

  parts_are : parts_in awards here q kept ≡ first ++ second
  parts_are =
      ap (λ l. come l q ++ shared awards (others_in here) (after_customers here q - kept)) (sym customers)
      ∙ (ap (λ l. first ++ shared awards l (after_customers here q - kept)) (sym others)
      ∙ ap (λ n. first ++ shared awards os n) (sym groups))

  all_is : all ≡ part_fills d first ++ (part_fills d second ++ own)
  all_is =
      ap (λ l. part_fills d l ++ own) parts_are
      ∙ (ap (λ l. l ++ own) (part_fills_append d first second) ∙ append_assoc (part_fills d first) (part_fills d second) own)

  pub given_here : total given_in (parts_in awards here q kept) ≡ total given_in first + total given_in second
  given_here = ap (total given_in) parts_are ∙ total_append given_in first second

  module _ (old m l : Filling) (f : Given d first old m) where
    pub groups_room : HasRoom all old.fills.items → HasRoom (part_fills d second) m.fills.items
    groups_room = step_room old.fills.items all m.fills.items (part_fills d second ++ own) same _ _ refl 257
      where
        same : m.fills.items ++ (part_fills d second ++ own) ≡ old.fills.items ++ all
        same = rest_same old.fills.items all (part_fills d first) (part_fills d second ++ own) m.fills.items all_is f.after

    module _ (g : Given d second m l) where
      same : l.fills.items ++ own ≡ old.fills.items ++ all
      same =
          step_same old.fills.items all m.fills.items (part_fills d second ++ own)
          (rest_same old.fills.items all (part_fills d first) (part_fills d second ++ own) m.fills.items all_is f.after) _ _ refl l.fills.items g.after

      pub own_room : HasRoom all old.fills.items → HasRoom own l.fills.items
      own_room h = omega (arith, ap length same, length-append l.fills.items own, length-append old.fills.items all)

      pub level_after : (now : List Fill) → now ≡ l.fills.items ++ own → now ≡ old.fills.items ++ all
      level_after now a = a ∙ same

-- a level below the stop
module _ (d : Deal) (awards : List ℕ → ℕ → List ℕ) (price : ℤ) (here cs os : List ContraItem) (customers : cs ≡ customers_in here) (others : os ≡ others_in here) (left o : ℕ) (match : o ≡ matched_in (d.matched price) here left) (most : o ≤ left) (old m : Filling) (start : left ≡ old.left) (f : Given d (come cs (left - o)) old m) (kept : old.left ≤ m.left + (left - o)) where
  below_is : level_fills d (below_in awards d price here left) ≡ part_fills d (parts_in awards here (left - o) 0) ++ unless_empty (own_fill d price o)
  below_is = ap (λ n. part_fills d (parts_in awards here (left - n) 0) ++ unless_empty (own_fill d price n)) (sym match)

  below_rest : m.left - o ≡ after_customers here (left - o) - 0
  below_rest = let e = f.left in omega (arith, ap (λ l. total given_in (come l (left - o))) customers)

  room_here : HasRoom (level_fills d (below_in awards d price here left)) old.fills.items → HasRoom (part_fills d (parts_in awards here (left - o) 0) ++ unless_empty (own_fill d price o)) old.fills.items
  room_here h = omega (arith, ap length below_is)

  module _ (l : Filling) where
    pub below_groups_room : HasRoom (level_fills d (below_in awards d price here left)) old.fills.items → HasRoom (part_fills d (shared awards os (m.left - o))) m.fills.items
    below_groups_room h = groups_room d awards here cs os customers others (left - o) 0 (m.left - o) below_rest (unless_empty (own_fill d price o)) old m l f (room_here h)

    module _ (g : Given d (shared awards os (m.left - o)) m l) (within : m.left ≤ l.left + (m.left - o)) where
      pub below_own_room : (p : ℤ) → p ≡ price → HasRoom (level_fills d (below_in awards d price here left)) old.fills.items → HasRoom (unless_empty (own_fill d p o)) l.fills.items
      below_own_room p at h =
          let room = own_room d awards here cs os customers others (left - o) 0 (m.left - o) below_rest (unless_empty (own_fill d price o)) old m l f g (room_here h) in
          omega (arith, ap (λ z. length (unless_empty (own_fill d z o))) at)

      pub below_worked : (p : ℤ) → p ≡ price → (now : Filling) → now.left + o ≡ l.left → now.fills.items ≡ l.fills.items ++ unless_empty (own_fill d p o) → Worked d (below_in awards d price here left) old now
      below_worked p at now less after = record {
        left = let e = f.left in let k = g.left in omega (arith, given_here d awards here cs os customers others (left - o) 0 (m.left - o) below_rest (unless_empty (own_fill d price o)), ap (λ n. total given_in (parts_in awards here (left - n) 0) + n) match);
        after = level_after d awards here cs os customers others (left - o) 0 (m.left - o) below_rest (unless_empty (own_fill d price o)) old m l f g now.fills.items (after ∙ ap (λ z. l.fills.items ++ unless_empty (own_fill d z o)) at) ∙ ap (λ fs. old.fills.items ++ fs) (sym below_is);
      }

-- the stop, where k is kept back for the Initiating Order
module _ (d : Deal) (awards : List ℕ → ℕ → List ℕ) (here cs os : List ContraItem) (customers : cs ≡ customers_in here) (others : os ≡ others_in here) (old m : Filling) (f : Given d (come cs old.left) old m) (k n : ℕ) (count : n ≡ length (leaders_in os)) (kept : k ≡ guarantee_of d.last m.left n) where
  abbrev owned : ℕ
  owned = old.left - total given_in (stop_parts awards d here old.left)

  after_is : m.left ≡ after_customers here old.left
  after_is = f.left ∙ ap (λ l. old.left - total given_in (come l old.left)) customers

  kept_is : k ≡ guarantee_in d here old.left
  kept_is =
      kept
      ∙ (ap (λ r. guarantee_of d.last r n) after_is
      ∙ ap (guarantee_of d.last (after_customers here old.left)) (count ∙ ap (λ l. length (leaders_in l)) others))

  rest_is : m.left - k ≡ after_customers here old.left - guarantee_in d here old.left
  rest_is = let a = after_is in let b = kept_is in omega arith

  module _ (l : Filling) where
    pub stop_groups_room : HasRoom (level_fills d (stop_in awards d here old.left)) old.fills.items → HasRoom (part_fills d (shared awards os (m.left - k))) m.fills.items
    stop_groups_room h = groups_room d awards here cs os customers others old.left (guarantee_in d here old.left) (m.left - k) rest_is (unless_empty (own_fill d d.stop owned)) old m l f h

    module _ (g : Given d (shared awards os (m.left - k)) m l) (within : m.left ≤ l.left + (m.left - k)) where
      given : total given_in (stop_parts awards d here old.left) ≡ total given_in (come cs old.left) + total given_in (shared awards os (m.left - k))
      given = given_here d awards here cs os customers others old.left (guarantee_in d here old.left) (m.left - k) rest_is (unless_empty (own_fill d d.stop owned))

      own_is : l.left ≡ owned
      own_is = let e = f.left in let h = g.left in omega (arith, given)

      module _ (price : ℤ) (at : price ≡ d.stop) where
        fill_is : unless_empty (own_fill d price l.left) ≡ unless_empty (own_fill d d.stop owned)
        fill_is = ap (λ z. unless_empty (own_fill d z l.left)) at ∙ ap (λ r. unless_empty (own_fill d d.stop r)) own_is

        pub stop_own_room : HasRoom (level_fills d (stop_in awards d here old.left)) old.fills.items → HasRoom (unless_empty (own_fill d price l.left)) l.fills.items
        stop_own_room h =
            let room = own_room d awards here cs os customers others old.left (guarantee_in d here old.left) (m.left - k) rest_is (unless_empty (own_fill d d.stop owned)) old m l f g h in
            omega (arith, ap length fill_is)

        pub stop_worked : (now : Filling) → now.left + l.left ≡ l.left → now.fills.items ≡ l.fills.items ++ unless_empty (own_fill d price l.left) → Worked d (stop_in awards d here old.left) old now
        stop_worked now less after = record {
          left = omega arith;
          after = level_after d awards here cs os customers others old.left (guarantee_in d here old.left) (m.left - k) rest_is (unless_empty (own_fill d d.stop owned)) old m l f g now.fills.items (after ∙ ap (λ fs. l.fills.items ++ fs) fill_is);
        }
