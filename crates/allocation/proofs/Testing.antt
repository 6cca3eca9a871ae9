-- What the items that pass a test are given: at most what counts of them, and all of it where the
-- level gives all.
use Rattle.std.proofs.Common.{◌≡◌, ℕ, ◌+◌, ◌-◌, ◌≤◌, min, Bool, true, false, cond, not, List, [], ◌∷◌, refl, arith}
use Rattle.ranked.specs.declared.contra.ContraItem.{ContraItem}
use Rattle.std.specs.List.{AllByRecursion}
use Rattle.allocation.specs.Parts.{Part, after_customers, come, counts, customers_in, customers_of, dealt, given_in, group_of, group_sizes, is_customer, leaders_in, others_in, parts_in, shared, total}
use Rattle.allocation.proofs.Giving.{groups_split}
use Rattle.allocation.proofs.Sums.{total_append, total_both}

-- what a part gives to an item that passes, and what counts of it
abbrev pub gain : (ContraItem → Bool) → Part → ℕ
gain t p = cond (t p.item) p.given 0

abbrev pub worth : (ContraItem → Bool) → ContraItem → ℕ
worth t x = cond (t x) x.counted 0

module _ (t : ContraItem → Bool) where
  come_within : (xs : List ContraItem) (q : ℕ) → total (gain t) (come xs q) ≤ total (worth t) xs
  unfolding total come
  come_within [] q = omega arith
  come_within (x ∷ xs) q = let e = come_within xs (q - min q x.counted) in grind arith

  dealt_within : (others xs : List ContraItem) (ns : List ℕ) → total (gain t) (dealt others xs ns) ≤ total (λ x. total (worth t) (group_of others x)) xs
  unfolding total dealt
  dealt_within others [] ns = omega arith
  dealt_within others (x ∷ xs) [] =
      omega
      (arith, total_append (gain t) (come (group_of others x) 0) (dealt others xs []), come_within (group_of others x) 0, dealt_within others xs [])
  dealt_within others (x ∷ xs) (n ∷ ns) =
      omega
      (arith, total_append (gain t) (come (group_of others x) n) (dealt others xs ns), come_within (group_of others x) n, dealt_within others xs ns)

  pub parts_within : (awards : List ℕ → ℕ → List ℕ) (here : List ContraItem) (q kept : ℕ) → total (gain t) (parts_in awards here q kept) ≤ total (worth t) here
  parts_within awards here q kept =
      let others : List ContraItem = others_in here in
      let left : ℕ = after_customers here q - kept in
      omega
      (arith, total_append (gain t) (customers_of here q) (shared awards others left), come_within (customers_in here) q, dealt_within others (leaders_in others) (awards (group_sizes others) left), groups_split (worth t) others, total_both (worth t) is_customer here)

  -- those that pass and those that do not are all
  gain_both : (ps : List Part) → total (gain t) ps + total (gain (λ x. not (t x))) ps ≡ total given_in ps
  unfolding total
  gain_both [] = omega arith
  gain_both (p ∷ ps) = let e = gain_both ps in grind arith

  worth_both : (xs : List ContraItem) → total (worth t) xs + total (worth (λ x. not (t x))) xs ≡ total counts xs
  unfolding total
  worth_both [] = omega arith
  worth_both (x ∷ xs) = let e = worth_both xs in grind arith

pub parts_full : (t : ContraItem → Bool) (awards : List ℕ → ℕ → List ℕ) (here : List ContraItem) (q kept : ℕ) → total given_in (parts_in awards here q kept) ≡ total counts here → total (gain t) (parts_in awards here q kept) ≡ total (worth t) here
parts_full t awards here q kept e =
    omega
    (arith, gain_both t (parts_in awards here q kept), worth_both t here, parts_within t awards here q kept, parts_within (λ x. not (t x)) awards here q kept)

-- where none passes, nothing counts
pub worth_none : (t : ContraItem → Bool) (xs : List ContraItem) → AllByRecursion (λ x. t x ≡ false) xs → total (worth t) xs ≡ 0
unfolding total
worth_none t [] a = refl
worth_none t (x ∷ xs) a = let e = a.0 in let f = worth_none t xs a.1 in grind arith

-- where all pass, what they are given is given in all
pub gain_all : (t : ContraItem → Bool) (ps : List Part) → AllByRecursion (λ p. t p.item ≡ true) ps → total (gain t) ps ≡ total given_in ps
unfolding total
gain_all t [] a = refl
gain_all t (p ∷ ps) a = let e = a.0 in let f = gain_all t ps a.1 in grind arith
