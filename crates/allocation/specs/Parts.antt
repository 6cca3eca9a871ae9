-- What the items at one level are given. A part is an item and the contracts that it is given.
use Rattle.std.specs.Prelude.{ℕ, ◌+◌, ◌-◌, min, Bool, not, List, [], ◌∷◌, ◌++◌, map, filter}
use Rattle.ranked.specs.declared.contra.ContraItem.{ContraItem}
use Rattle.contra.specs.Kinds.{firsts, same_user}

-- the sum of f over a list
unfoldable pub total : {X : Type 0} → (X → ℕ) → List X → ℕ
total f [] = 0
total f (x ∷ xs) = f x + total f xs

abbrev pub counts : ContraItem → ℕ
counts x = x.counted

pub record Part : Type 0 where
  pub item : ContraItem
  pub given : ℕ

abbrev pub part_of : ContraItem → ℕ → Part
part_of x n = record { item = x; given = n }

abbrev pub given_in : Part → ℕ
given_in p = p.given

-- first come: each is given the lesser of its counted contracts and what is left
unfoldable pub come : List ContraItem → ℕ → List Part
come [] q = []
come (x ∷ xs) q = part_of x (min q x.counted) ∷ come xs (q - min q x.counted)

abbrev pub is_customer : ContraItem → Bool
is_customer x = x.customer

abbrev pub is_other : ContraItem → Bool
is_other x = not x.customer

abbrev pub customers_in : List ContraItem → List ContraItem
customers_in here = filter is_customer here

abbrev pub others_in : List ContraItem → List ContraItem
others_in here = filter is_other here

-- the first of each user, in the order of first numbers
abbrev pub leaders_in : List ContraItem → List ContraItem
leaders_in others = firsts same_user [] others

-- the items of a leader's user
abbrev pub group_of : List ContraItem → ContraItem → List ContraItem
group_of others x = filter (same_user x) others

abbrev pub group_size : List ContraItem → ContraItem → ℕ
group_size others x = total counts (group_of others x)

-- the size of each group, in rank order
abbrev pub group_sizes : List ContraItem → List ℕ
group_sizes others = map (group_size others) (leaders_in others)

-- each group's award goes to its items first come; a group without an award gets nothing
unfoldable pub dealt : List ContraItem → List ContraItem → List ℕ → List Part
dealt others [] awards = []
dealt others (x ∷ xs) [] = come (group_of others x) 0 ++ dealt others xs []
dealt others (x ∷ xs) (n ∷ ns) = come (group_of others x) n ++ dealt others xs ns

-- the groups share q by a share rule
abbrev pub shared : (List ℕ → ℕ → List ℕ) → List ContraItem → ℕ → List Part
shared awards others q = dealt others (leaders_in others) (awards (group_sizes others) q)

abbrev pub customers_of : List ContraItem → ℕ → List Part
customers_of here q = come (customers_in here) q

abbrev pub after_customers : List ContraItem → ℕ → ℕ
after_customers here q = q - total given_in (customers_of here q)

-- customers first, by number; then the groups share what they leave, less what is kept back
abbrev pub parts_in : (List ℕ → ℕ → List ℕ) → List ContraItem → ℕ → ℕ → List Part
parts_in awards here q kept =
    customers_of here q ++ shared awards (others_in here) (after_customers here q - kept)
