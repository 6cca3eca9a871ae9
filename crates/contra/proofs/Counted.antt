-- Counted items: a group counts up to the size, and nothing else of an item changes.
use Rattle.std.proofs.Common.{◌≡◌, ℕ, ◌+◌, ◌-◌, ◌≤◌, true, false, cond, not, ◌&&◌, List, [], ◌∷◌, ◌++◌, length, take, drop, sum_by, sym, refl, ap, ◌∙◌, subst, inl, inr, arith}
use Rattle.std.proofs.lemmas.List.{take_at}
use Rattle.std.proofs.lemmas.List.Sorted.{length_permutation}
use Rattle.std.proofs.ByRecursion.{all_shuffled}
use Rattle.std.proofs.lemmas.List.Sums.{sum_by-cons, sum_by_push}
use Rattle.std.proofs.lemmas.Bool.{cases_Bool}
use Rattle.std.specs.List.{AllZip, AllByRecursion}
use Rattle.terms.specs.declared.auction.AuctionRow.{AuctionRow}
use Rattle.terms.specs.declared.order.Order.{Order}
use Rattle.terms.specs.declared.order.Response.{Response}
use Rattle.ranked.specs.ContraLaws.{contra_compared, contra_passed}
use Rattle.ranked.proofs.Placement.{folded_order, folded_ranking, folded_whole}
use Rattle.ranked.specs.Contras.{contra_before}
use Rattle.ranked.specs.Ranks.{InOrder}
use Rattle.ranked.specs.declared.contra.ContraItem.{ContraItem}
use Rattle.contra.proofs.Alike.{levels, users}
use Rattle.contra.proofs.Counting.{counted_length}
use Rattle.contra.proofs.Gathering.{few_made}
use Rattle.contra.specs.Counting.{brings, contra_of, count_of, counted_from, in_group, ranked_of, with_counted}
use Rattle.contra.specs.Kinds.{same_level, same_user}
use Rattle.contra.specs.Laws.{Contra}
use Rattle.contra.specs.Named.{named, order_item, response_item}

sum_by_like : {X : Type 0} (f g : X → ℕ) → ((x : X) → f x ≡ g x) → (xs : List X) → sum_by f xs ≡ sum_by g xs
sum_by_like f g e [] = refl
sum_by_like f g e (x ∷ xs) = omega (arith, e x, sum_by-cons f x xs, sum_by-cons g x xs, sum_by_like f g e xs)

-- items of one group have the same group
one_group : (x y : ContraItem) → same_user x y ≡ true → same_level x y ≡ true → (z : ContraItem) → brings y z ≡ brings x z
one_group x y e f z =
    let u = users.congr x y z e in
    let l = levels.congr x y z f in
    ap (λ b. cond (not z.customer && b) z.counted 0) (sym (ap (λ b. b && same_level x z) u ∙ ap (λ b. same_user y z && b) l))

module _ (size : ℕ) (x : ContraItem) where
  -- what an item adds to the group of x fits into what the items in front leave
  fits_in : (y : ContraItem) (earlier : List ContraItem) (rest : ℕ) → rest ≤ size - sum_by (brings x) (earlier ++ y ∷ []) → brings x (with_counted y (count_of size earlier y)) + rest ≤ size - sum_by (brings x) earlier
  fits_in y earlier rest h =
      let p = sum_by_push (brings x) earlier y in
      elim (cases_Bool (in_group x y)) [
        | inl e ↦
            let own : y.customer ≡ false = grind arith in
            let u : same_user x y ≡ true = grind arith in
            let l : same_level x y ≡ true = grind arith in
            let g = sum_by_like (brings y) (brings x) (one_group x y u l) earlier in
            grind arith
        | inr e ↦ grind arith
      ]

  grouped_from : (xs earlier : List ContraItem) → sum_by (brings x) (counted_from size earlier xs) ≤ size - sum_by (brings x) earlier
  unfolding counted_from
  grouped_from [] earlier = omega arith
  grouped_from (y ∷ ys) earlier =
      omega
      (arith, sum_by-cons (brings x) (with_counted y (count_of size earlier y)) (counted_from size (earlier ++ y ∷ []) ys), fits_in y earlier (sum_by (brings x) (counted_from size (earlier ++ y ∷ []) ys)) (grouped_from ys (earlier ++ y ∷ [])))

  -- a group counts up to the size
  pub grouped : (xs : List ContraItem) → sum_by (brings x) (counted_from size [] xs) ≤ size
  grouped xs = omega (arith, grouped_from xs [])

module _ (size : ℕ) where
  -- with its own contracts each item is as it was
  pub counted_each : (xs earlier : List ContraItem) → AllZip (λ x y. with_counted y x.counted ≡ x) xs (counted_from size earlier xs)
  unfolding counted_from
  counted_each [] earlier = tt
  counted_each (x ∷ xs) earlier = (refl, counted_each xs (earlier ++ x ∷ []))

  -- what does not look at the count stays
  pub counted_all : (P : ContraItem → Type 0) → ((x : ContraItem) (n : ℕ) → P x → P (with_counted x n)) → (xs earlier : List ContraItem) → AllByRecursion P xs → AllByRecursion P (counted_from size earlier xs)
  unfolding counted_from
  counted_all P h [] earlier a = tt
  counted_all P h (x ∷ xs) earlier a = (h x _ a.0, counted_all P h xs (earlier ++ x ∷ []) a.1)

  pub counted_order : (xs earlier : List ContraItem) → InOrder contra_before xs → InOrder contra_before (counted_from size earlier xs)
  unfolding counted_from
  counted_order [] earlier o = tt
  counted_order (x ∷ xs) earlier o =
      (counted_all (λ y. contra_before x y ≡ true) (λ y n h. h) xs (earlier ++ x ∷ []) o.0, counted_order xs (earlier ++ x ∷ []) o.1)

-- the items of an auction: what holds of each as it was named, their order and their number
module _ (a : AuctionRow) (orders : List Order) (responses : List Response) where
  pub contra_all : (P : ContraItem → Type 0) → ((x : ContraItem) (n : ℕ) → P x → P (with_counted x n)) → AllByRecursion P (named a orders responses) → AllByRecursion P (contra_of a orders responses)
  contra_all P h all =
      counted_all a.size P h (ranked_of a orders responses) [] (all_shuffled P _ _ (folded_whole contra_before (named a orders responses) []) all)

  pub contra_order : InOrder contra_before (contra_of a orders responses)
  contra_order =
      counted_order a.size (ranked_of a orders responses) []
      (folded_order contra_before contra_compared contra_passed (named a orders responses) [] tt)

  pub contra_few : length (contra_of a orders responses) ≤ length orders + length responses
  contra_few =
      omega
      (arith, counted_length a.size [] (ranked_of a orders responses), length_permutation _ _ (folded_whole contra_before (named a orders responses) []), few_made (order_item a) (response_item a) orders responses)

-- the laws of the contra items, where at most 64 orders and 64 responses rest
pub contra_law : (a : AuctionRow) (orders : List Order) (responses : List Response) → length orders ≤ 64 → length responses ≤ 64 → Contra a orders responses (contra_of a orders responses)
contra_law a orders responses h k = record {
  ranks = ranked_of a orders responses;
  ranking = folded_ranking contra_before contra_compared contra_passed (named a orders responses);
  counted = refl;
  order = contra_order a orders responses;
  grouped = λ x. grouped a.size x (ranked_of a orders responses);
  few = omega (arith, contra_few a orders responses);
}

-- the same of the items as they stand in front of the list
pub law_there : (a : AuctionRow) (os os' : List Order) (rs rs' : List Response) (old now : List ContraItem) (n : ℕ) → os ≡ os' → rs ≡ rs' → length os ≤ 64 → length rs ≤ 64 → n ≡ length (contra_of a os' rs') → now ≡ contra_of a os' rs' ++ drop (length (contra_of a os' rs')) old → Contra a os' rs' (take n now)
law_there a os os' rs rs' old now n e f h k count after =
    let front : take n now ≡ contra_of a os' rs' = ap (take n) after ∙ take_at (contra_of a os' rs') _ n (sym count) in
    let P : List ContraItem → Type 0 = Contra a os' rs' in
    subst P (sym front) (contra_law a os' rs' (omega (arith, ap length e)) (omega (arith, ap length f)))

pub turns_there : (P : ContraItem → Type 0) → ((x : ContraItem) (n : ℕ) → P x → P (with_counted x n)) → (a : AuctionRow) (os os' : List Order) (rs rs' : List Response) → os ≡ os' → rs ≡ rs' → AllByRecursion P (named a os rs) → AllByRecursion P (contra_of a os' rs')
turns_there P keeps a os os' rs rs' e f all = rw (← e, ← f) (contra_all a os rs P keeps all)
