-- The levels of a settlement, from the lowest to the stop, while contracts remain.
use Rattle.std.specs.Prelude.{ℕ, ◌+◌, ◌-◌, min, Bool, cond, List, [], ◌∷◌, length, ℤ, filter, int_lt, nat_lt}
use Rattle.ranked.specs.declared.contra.ContraItem.{ContraItem}
use Rattle.auction.specs.Sizes.{guarantee_of}
use Rattle.contra.specs.Kinds.{firsts, same_level, same_price}
use Rattle.allocation.specs.Deals.{Deal}
use Rattle.allocation.specs.Parts.{Part, after_customers, counts, given_in, leaders_in, others_in, parts_in, total}

-- a level as it was worked: its price, what its items are given, and the Initiating Order's own
-- contracts there
pub record Level : Type 0 where
  pub price : ℤ
  pub parts : List Part
  pub own : ℕ

abbrev pub spent_at : Level → ℕ
spent_at l = total given_in l.parts + l.own

abbrev pub at_level : ℤ → ContraItem → Bool
at_level price x = same_price price x.level

abbrev pub items_at : ℤ → List ContraItem → List ContraItem
items_at price items = filter (at_level price) items

-- below the stop: where the mode matches, the Initiating Order takes first, the lesser of what
-- remains and all that counts there
abbrev pub matched_in : Bool → List ContraItem → ℕ → ℕ
matched_in matches here left = cond matches (min left (total counts here)) 0

abbrev pub below_in : (List ℕ → ℕ → List ℕ) → Deal → ℤ → List ContraItem → ℕ → Level
below_in awards d price here left = record {
  price = price;
  parts = parts_in awards here (left - matched_in (d.matched price) here left) 0;
  own = matched_in (d.matched price) here left;
}

-- at the stop: the guarantee is kept back from the groups, worked from what customers leave
abbrev pub guarantee_in : Deal → List ContraItem → ℕ → ℕ
guarantee_in d here left = guarantee_of d.last (after_customers here left) (length (leaders_in (others_in here)))

abbrev pub stop_parts : (List ℕ → ℕ → List ℕ) → Deal → List ContraItem → ℕ → List Part
stop_parts awards d here left = parts_in awards here left (guarantee_in d here left)

abbrev pub stop_in : (List ℕ → ℕ → List ℕ) → Deal → List ContraItem → ℕ → Level
stop_in awards d here left = record {
  price = d.stop;
  parts = stop_parts awards d here left;
  own = left - total given_in (stop_parts awards d here left);
}

-- the levels that these items begin, then the stop
unfoldable pub levels_from : (List ℕ → ℕ → List ℕ) → Deal → List ContraItem → List ContraItem → ℕ → List Level
levels_from awards d items [] left = cond (nat_lt 0 left) (stop_in awards d (items_at d.stop items) left ∷ []) []
levels_from awards d items (x ∷ xs) left =
    cond (nat_lt 0 left)
    (below_in awards d x.level (items_at x.level items) left
    ∷ levels_from awards d items xs (left - spent_at (below_in awards d x.level (items_at x.level items) left)))
    []

abbrev pub below_stop : Deal → ContraItem → Bool
below_stop d x = int_lt x.level d.stop

-- the first item of each level below the stop, in rank order
abbrev pub beginnings : Deal → List ContraItem → List ContraItem → List ContraItem
beginnings d seen items = filter (below_stop d) (firsts same_level seen items)

abbrev pub levels_of : (List ℕ → ℕ → List ℕ) → Deal → List ContraItem → List Level
levels_of awards d items = levels_from awards d items (beginnings d [] items) d.size
