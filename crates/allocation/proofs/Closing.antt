-- What a level gives in all, in closed form.
use Rattle.std.proofs.Common.{◌≡◌, ℕ, ◌+◌, ◌-◌, ◌<◌, ◌≤◌, min, List, [], ◌∷◌, map, ℤ, refl, arith}
use Rattle.ranked.specs.declared.contra.ContraItem.{ContraItem}
use Rattle.share.specs.Awards.{Within}
use Rattle.share.specs.Awards as share
use Rattle.allocation.specs.Deals.{Deal}
use Rattle.allocation.specs.Laws.{Shares}
use Rattle.allocation.specs.Levels.{below_in, guarantee_in, matched_in, spent_at, stop_in, stop_parts}
use Rattle.allocation.specs.Parts.{after_customers, come, counts, customers_in, customers_of, dealt, given_in, group_of, group_size, group_sizes, is_customer, leaders_in, others_in, parts_in, shared, total}
use Rattle.allocation.proofs.Giving.{come_given, groups_split}
use Rattle.allocation.proofs.Sums.{total_append, total_both}

-- awards that stay within the groups are given whole
dealt_given : (others xs : List ContraItem) (ns : List ℕ) → Within ns (map (group_size others) xs) → total given_in (dealt others xs ns) ≡ share.total ns
unfolding total dealt
dealt_given others [] [] h = refl
dealt_given others [] (n ∷ ns) h = absurd h
dealt_given others (x ∷ xs) [] h =
    omega
    (arith, total_append given_in (come (group_of others x) 0) (dealt others xs []), come_given (group_of others x) 0, dealt_given others xs [] tt)
dealt_given others (x ∷ xs) (n ∷ ns) h =
    omega
    (arith, h.0, total_append given_in (come (group_of others x) n) (dealt others xs ns), come_given (group_of others x) n, dealt_given others xs ns h.1)

total_map : {X : Type 0} (f : X → ℕ) (xs : List X) → share.total (map f xs) ≡ total f xs
unfolding total
total_map f [] = refl
total_map f (x ∷ xs) = omega (arith, total_map f xs)

pub counts_both : (here : List ContraItem) → total counts (customers_in here) + total counts (others_in here) ≡ total counts here
counts_both here = total_both counts is_customer here

module _ (awards : List ℕ → ℕ → List ℕ) (s : Shares awards) where
  pub shared_given : (others : List ContraItem) (q : ℕ) → total given_in (shared awards others q) ≡ min q (total counts others)
  shared_given others q =
      omega
      (arith, dealt_given others (leaders_in others) (awards (group_sizes others) q) (s.within (group_sizes others) q), s.spent (group_sizes others) q, total_map (group_size others) (leaders_in others), groups_split counts others)

  pub parts_given : (here : List ContraItem) (q kept : ℕ) → total given_in (parts_in awards here q kept) ≡ min q (total counts (customers_in here)) + min (q - total counts (customers_in here) - kept) (total counts (others_in here))
  parts_given here q kept =
      omega
      (arith, total_append given_in (customers_of here q) (shared awards (others_in here) (after_customers here q - kept)), come_given (customers_in here) q, shared_given (others_in here) (after_customers here q - kept))

  -- a level below the stop
  module _ (d : Deal) (price : ℤ) (here : List ContraItem) (left : ℕ) where
    abbrev first : ℕ
    first = matched_in (d.matched price) here left

    first_most : first ≤ left
    first_most = grind arith

    pub below_spent : spent_at (below_in awards d price here left) ≤ left
    below_spent = omega (arith, first_most, parts_given here (left - first) 0)

    -- where contracts remain, its items got everything
    pub below_all : 0 < left - spent_at (below_in awards d price here left) → total given_in (below_in awards d price here left).parts ≡ total counts here
    below_all h = omega (arith, first_most, parts_given here (left - first) 0, counts_both here)

  -- the stop
  module _ (d : Deal) (here : List ContraItem) (left : ℕ) where
    pub stop_given : total given_in (stop_parts awards d here left) ≡ min left (total counts (customers_in here)) + min (left - total counts (customers_in here) - guarantee_in d here left) (total counts (others_in here))
    stop_given = parts_given here left (guarantee_in d here left)

    pub stop_spent : spent_at (stop_in awards d here left) ≡ left
    stop_spent = omega (arith, stop_given)
