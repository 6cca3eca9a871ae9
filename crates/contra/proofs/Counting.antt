-- The steps of counting.
use Rattle.std.proofs.Common.{◌≡◌, ℕ, ◌-◌, Bool, List, [], ◌∷◌, ◌++◌, length, take, drop, fold, sum_by, sym, refl, ap, ◌∙◌, arith}
use Rattle.std.proofs.lemmas.List.Sorted.{length_permutation}
use Rattle.ranked.proofs.Placement.{folded_whole}
use Rattle.ranked.specs.Ranks.{placed}
use Rattle.terms.specs.declared.auction.AuctionRow.{AuctionRow}
use Rattle.terms.specs.declared.order.Order.{Order}
use Rattle.terms.specs.declared.order.Response.{Response}
use Rattle.ranked.specs.Contras.{contra_before}
use Rattle.contra.specs.Named.{named}
use Rattle.std.proofs.lemmas.List.{append_assoc, drop_at, append-nil, take_at}
use Rattle.std.proofs.lemmas.List.Sums.{sum_by-cons}
use Rattle.ranked.specs.declared.contra.ContraItem.{ContraItem}
use Rattle.contra.specs.Counting.{contra_of, ranked_of, count_of, counted_from, with_counted}

-- a size less what each brings
pub room_left : {X : Type 0} (f : X → ℕ) (xs : List X) (size : ℕ) → fold (λ room x. room - f x) size xs ≡ size - sum_by f xs
room_left f [] size = omega arith
room_left f (x ∷ xs) size = omega (arith, room_left f xs (size - f x), sum_by-cons f x xs)

-- the last of a list is counted behind those in front, before they are
counted_push : (size : ℕ) (earlier xs : List ContraItem) (x : ContraItem) → counted_from size earlier (xs ++ x ∷ []) ≡ counted_from size earlier xs ++ with_counted x (count_of size (earlier ++ xs) x) ∷ []
unfolding counted_from
counted_push size earlier [] x = rw (append-nil earlier) refl
counted_push size earlier (y ∷ ys) x =
    ap (λ l. with_counted y (count_of size earlier y) ∷ l) (counted_push size (earlier ++ y ∷ []) ys x ∙ ap (λ l. counted_from size (earlier ++ y ∷ []) ys ++ with_counted x (count_of size l x) ∷ []) (append_assoc earlier (y ∷ []) ys))

pub counted_last : (size n : ℕ) (xs earlier ys : List ContraItem) (x : ContraItem) → xs ≡ earlier ++ x ∷ [] → n ≡ count_of size earlier x → ys ≡ counted_from size [] earlier → ys ++ with_counted x n ∷ [] ≡ counted_from size [] xs
counted_last size n xs earlier ys x split count e =
    ap (λ l. l ++ with_counted x n ∷ []) e
    ∙ (ap (λ m. counted_from size [] earlier ++ with_counted x m ∷ []) count
    ∙ (sym (counted_push size [] earlier x) ∙ ap (counted_from size []) (sym split)))

pub counted_none : (size : ℕ) (xs : List ContraItem) → length xs ≡ 0 → xs ≡ counted_from size [] xs
unfolding counted_from
counted_none size [] e = refl
counted_none size (x ∷ xs) e = absurd (omega arith)

pub counted_length : (size : ℕ) (earlier xs : List ContraItem) → length (counted_from size earlier xs) ≡ length xs
unfolding counted_from
counted_length size earlier [] = refl
counted_length size earlier (x ∷ xs) = omega (arith, counted_length size (earlier ++ x ∷ []) xs)

-- the ranked items stand in front, and are counted there
module _ (before : ContraItem → ContraItem → Bool) (items old ws ys : List ContraItem) (size n : ℕ) (after : ws ≡ fold (placed before) [] items ++ drop n old) (count : n ≡ length items) where
  abbrev ranks : List ContraItem
  ranks = fold (placed before) [] items

  long : length ranks ≡ n
  long = length_permutation _ _ (folded_whole before items []) ∙ sym count

  pub count_said : n ≡ length (counted_from size [] ranks)
  count_said = sym (counted_length size [] ranks ∙ long)

  pub count_after : ys ≡ counted_from size [] (take n ws) → ys ++ drop n ws ≡ counted_from size [] ranks ++ drop (length (counted_from size [] ranks)) old
  count_after e =
      let f : take n ws ≡ ranks = ap (take n) after ∙ take_at ranks _ n long in
      let b : drop n ws ≡ drop n old = ap (drop n) after ∙ drop_at ranks _ n long in
      ap (λ l. l ++ drop n ws) (e ∙ ap (counted_from size []) f)
      ∙ (ap (λ l. counted_from size [] ranks ++ l) b
      ∙ ap (λ k. counted_from size [] ranks ++ drop k old) count_said)

-- the same, from what each step of the call gives
module _ (a : AuctionRow) (os os' : List Order) (rs rs' : List Response) (old ws ys : List ContraItem) (size n : ℕ) (orders : os ≡ os') (responses : rs ≡ rs') (whole : size ≡ a.size) (after : ws ≡ ranked_of a os rs ++ drop n old) (count : n ≡ length (named a os rs)) where
  pub items_after : ys ≡ counted_from size [] (take n ws) → ys ++ drop n ws ≡ contra_of a os' rs' ++ drop (length (contra_of a os' rs')) old
  items_after e = rw (← orders, ← responses, ← whole) (count_after contra_before (named a os rs) old ws ys size n after count e)

  pub items_count : n ≡ length (contra_of a os' rs')
  items_count = rw (← orders, ← responses, ← whole) (count_said contra_before (named a os rs) old ws ys size n after count)
