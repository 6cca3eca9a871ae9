-- The kinds at a level: customers, and the groups that other items form, no larger than an order may be.
use Rattle.std.specs.Prelude.{ℕ, ◌≤◌, not, ◌||◌, List, [], ◌∷◌, ◌++◌, map, ℤ, filter, ◌==◌}
use Rattle.ranked.specs.Ranks.{InOrder}
use Rattle.ranked.specs.declared.contra.ContraItem.{ContraItem}
use Rattle.allocation.specs.Levels.{items_at}
use Rattle.allocation.specs.Parts.{Part, come, group_size, leaders_in, others_in}

-- no group is larger than an order may be
abbrev pub GroupsFit : List ContraItem → Type 0
GroupsFit others = (x : ContraItem) → group_size others x ≤ 100000

-- at no price is a group larger than an order may be
abbrev pub LevelsFit : List ContraItem → Type 0
LevelsFit items = (price : ℤ) → GroupsFit (others_in (items_at price items))

-- customers' items stand in front of the others
abbrev pub CustomersFirst : List ContraItem → Type 0
CustomersFirst here = InOrder (λ x y. x.customer || not y.customer) here

-- the users of items, each once, in the order of their first items
abbrev pub users_in : List ContraItem → List ℕ
users_in others = map (λ x. x.user) (leaders_in others)

-- the items of a user
abbrev pub of_user : List ContraItem → ℕ → List ContraItem
of_user others user = filter (λ x. user == x.user) others

-- each award goes to a user's items first come; a user without an award gets nothing
unfoldable pub dealt_to : List ContraItem → List ℕ → List ℕ → List Part
dealt_to others [] awards = []
dealt_to others (x ∷ xs) [] = come (of_user others x) 0 ++ dealt_to others xs []
dealt_to others (x ∷ xs) (n ∷ ns) = come (of_user others x) n ++ dealt_to others xs ns
