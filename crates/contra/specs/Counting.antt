-- The contracts of an item that count. A customer's order counts whole. All other items of one user
-- at one level form a group, which counts up to the Agency size in the order of the list.
use Rattle.std.specs.Prelude.{ℕ, ◌-◌, min, Bool, cond, not, ◌&&◌, List, [], ◌∷◌, ◌++◌, sum_by}
use Rattle.terms.specs.declared.auction.AuctionRow.{AuctionRow}
use Rattle.terms.specs.declared.order.Order.{Order}
use Rattle.terms.specs.declared.order.Response.{Response}
use Rattle.ranked.specs.Contras.{contra_before}
use Rattle.ranked.specs.Ranks.{listed}
use Rattle.ranked.specs.declared.contra.ContraItem.{ContraItem}
use Rattle.contra.specs.Kinds.{same_level, same_user}
use Rattle.contra.specs.Named.{named}

-- y belongs to the group of a user and level, those of x
abbrev pub in_group : ContraItem → ContraItem → Bool
in_group x y = not y.customer && (same_user x y && same_level x y)

-- what y brings into the group of x
abbrev pub brings : ContraItem → ContraItem → ℕ
brings x y = cond (in_group x y) y.counted 0

abbrev pub with_counted : ContraItem → ℕ → ContraItem
with_counted x n =
    record { user = x.user; number = x.number; price = x.price; level = x.level; customer = x.customer; counted = n }

-- what counts of x, behind these items, where the group counts up to this size
abbrev pub count_of : ℕ → List ContraItem → ContraItem → ℕ
count_of size earlier x = cond x.customer x.counted (min x.counted (size - sum_by (brings x) earlier))

unfoldable pub counted_from : ℕ → List ContraItem → List ContraItem → List ContraItem
counted_from size earlier [] = []
counted_from size earlier (x ∷ xs) = with_counted x (count_of size earlier x) ∷ counted_from size (earlier ++ x ∷ []) xs

-- the contra items of an auction in rank order, their whole sizes counted
abbrev pub ranked_of : AuctionRow → List Order → List Response → List ContraItem
ranked_of a orders responses = listed contra_before (named a orders responses)

-- the contra items of an auction as a buyer sees them, ranked and counted
abbrev pub contra_of : AuctionRow → List Order → List Response → List ContraItem
contra_of a orders responses = counted_from a.size [] (ranked_of a orders responses)
