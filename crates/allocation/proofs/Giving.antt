-- What items are given in all, first come and by awards; and each item at a level has one part.
use Rattle.std.proofs.Common.{◌≡◌, ℕ, ◌-◌, ◌≤◌, min, List, [], ◌∷◌, refl, arith}
use Rattle.ranked.specs.declared.contra.ContraItem.{ContraItem}
use Rattle.contra.specs.Kinds.{same_user}
use Rattle.contra.proofs.Alike.{users}
use Rattle.share.specs.Awards as share
use Rattle.allocation.specs.Laws.{Shares}
use Rattle.allocation.specs.Parts.{Part, after_customers, come, counts, customers_in, customers_of, dealt, given_in, group_of, group_sizes, is_customer, leaders_in, others_in, parts_in, shared, total}
use Rattle.allocation.proofs.Classes.{split}
use Rattle.allocation.proofs.Sums.{total_append, total_both}

pub come_given : (xs : List ContraItem) (q : ℕ) → total given_in (come xs q) ≡ min q (total counts xs)
unfolding total come
come_given [] q = omega arith
come_given (x ∷ xs) q = omega (arith, come_given xs (q - min q x.counted))

pub dealt_given_le : (others xs : List ContraItem) (ns : List ℕ) → total given_in (dealt others xs ns) ≤ share.total ns
unfolding total dealt
dealt_given_le others [] ns = omega arith
dealt_given_le others (x ∷ xs) [] =
    omega
    (arith, total_append given_in (come (group_of others x) 0) (dealt others xs []), come_given (group_of others x) 0, dealt_given_le others xs [])
dealt_given_le others (x ∷ xs) (n ∷ ns) =
    omega
    (arith, total_append given_in (come (group_of others x) n) (dealt others xs ns), come_given (group_of others x) n, dealt_given_le others xs ns)

pub shared_given_le : (awards : List ℕ → ℕ → List ℕ) → Shares awards → (others : List ContraItem) (q : ℕ) → total given_in (shared awards others q) ≤ q
shared_given_le awards s others q =
    omega
    (arith, dealt_given_le others (leaders_in others) (awards (group_sizes others) q), s.spent (group_sizes others) q)

-- the groups hold each item once
pub groups_split : (w : ContraItem → ℕ) (others : List ContraItem) → total (λ x. total w (group_of others x)) (leaders_in others) ≡ total w others
groups_split w others = split same_user users w others

-- each item has one part: what is taken from the items of parts is taken from the items
module _ (w : ContraItem → ℕ) where
  abbrev of_item : Part → ℕ
  of_item p = w p.item

  pub come_items : (xs : List ContraItem) (q : ℕ) → total of_item (come xs q) ≡ total w xs
  unfolding total come
  come_items [] q = refl
  come_items (x ∷ xs) q = omega (arith, come_items xs (q - min q x.counted))

  dealt_items : (others xs : List ContraItem) (ns : List ℕ) → total of_item (dealt others xs ns) ≡ total (λ x. total w (group_of others x)) xs
  unfolding total dealt
  dealt_items others [] ns = refl
  dealt_items others (x ∷ xs) [] =
      omega
      (arith, total_append of_item (come (group_of others x) 0) (dealt others xs []), come_items (group_of others x) 0, dealt_items others xs [])
  dealt_items others (x ∷ xs) (n ∷ ns) =
      omega
      (arith, total_append of_item (come (group_of others x) n) (dealt others xs ns), come_items (group_of others x) n, dealt_items others xs ns)

  pub parts_items : (awards : List ℕ → ℕ → List ℕ) (here : List ContraItem) (q kept : ℕ) → total of_item (parts_in awards here q kept) ≡ total w here
  parts_items awards here q kept =
      let others : List ContraItem = others_in here in
      let left : ℕ = after_customers here q - kept in
      omega
      (arith, total_append of_item (customers_of here q) (shared awards others left), come_items (customers_in here) q, dealt_items others (leaders_in others) (awards (group_sizes others) left), groups_split w others, total_both w is_customer here)
