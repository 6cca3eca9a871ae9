-- What a depth book shows is the best of its orders.
use Rattle.std.proofs.Common.{◌≡◌, ℕ, Bool, true, false, ◌&&◌, ◌||◌, eqb, List, [], ◌∷◌, ◌++◌, Some, None, Option, sym, refl, ap, ◌∙◌, subst, ⊎_elim, arith}
use Rattle.std.specs.List.{list_any}
use Rattle.std.proofs.lemmas.List.{append_assoc, append-nil}
use Rattle.std.proofs.lemmas.List.Folds.{list_any-append}
use Rattle.std.proofs.lemmas.Bool.{and_from, and_left, and_parts, cases_Bool, cond-false, cond-true, both_ways, or_from, or_left, or_parts, or_right}
use Rattle.std.proofs.lemmas.Bool.Decides.{nat_tests}
use Rattle.std.proofs.Math.Bool.{or-false}
use Rattle.terms.specs.Ranges.{component}
use Rattle.terms.specs.declared.side.Side.{Side}
use Rattle.terms.specs.declared.side.Side.TheVariants.{Buy, Sell}
use Rattle.terms.specs.declared.top.Top.{Top}
use Rattle.market.specs.declared.book.BookOrder.{BookOrder}
use Rattle.market.specs.Books.{Best, IsBest, ShowsBest, at_price, beats, best_among, better, book_top, customer_at, is_at, joined, joined_to, with_order}

some_push : (p : BookOrder → Bool) (xs : List BookOrder) (o : BookOrder) → list_any p (xs ++ (o ∷ [])) ≡ (list_any p xs || p o)
some_push p xs o = list_any-append p xs (o ∷ []) ∙ ap (λ b. list_any p xs || b) (or-false (p o))

-- a test that passes only where another does fails where that fails throughout
none_by : (p q : BookOrder → Bool) → ((o : BookOrder) → p o ≡ true → q o ≡ true) → (xs : List BookOrder) → list_any q xs ≡ false → list_any p xs ≡ false
none_by p q h [] e = refl
none_by p q h (x ∷ xs) e =
    let w = or_parts (q x) (list_any q xs) e in
    or_from (p x) (list_any p xs)
    (⊎_elim (λ t. absurd (both_ways (q x) w.0 (h x t))) (λ f. f) (cases_Bool (p x)))
    (none_by p q h xs w.1)

irreflexive : (s : Side) (t : Top) → better s t t ≡ false
irreflexive Buy t = grind (arith, nat_tests)
irreflexive Sell t = grind (arith, nat_tests)

asymmetric : (s : Side) (a b : Top) → better s a b ≡ true → better s b a ≡ false
asymmetric Buy a b h = grind (arith, nat_tests)
asymmetric Sell a b h = grind (arith, nat_tests)

transitive : (s : Side) (a b d : Top) → better s a b ≡ true → better s b d ≡ true → better s a d ≡ true
transitive Buy a b d h k = grind (arith, nat_tests)
transitive Sell a b d h k = grind (arith, nat_tests)

-- a better price is another price, and a price like a better one is better
apart : (s : Side) (a b : Top) → better s a b ≡ true → eqb b.price.cents a.price.cents ≡ false
apart Buy a b h = grind (arith, nat_tests)
apart Sell a b h = grind (arith, nat_tests)

like_better : (s : Side) (x a b : Top) → better s a b ≡ true → eqb x.price.cents a.price.cents ≡ true → better s x b ≡ true
like_better Buy x a b h k = grind (arith, nat_tests)
like_better Sell x a b h k = grind (arith, nat_tests)

level : (s : Side) (a b : Top) → better s a b ≡ false → better s b a ≡ false → eqb b.price.cents a.price.cents ≡ true
level Buy a b h k = grind (arith, nat_tests)
level Sell a b h k = grind (arith, nat_tests)

same_price : (s : Side) (x b : Top) (m : Bool) → better s x (record { price = b.price; customer = m }) ≡ better s x b
same_price Buy x b m = refl
same_price Sell x b m = refl

module _ (c : ℕ) (s : Side) (xs : List BookOrder) (o : BookOrder) where
  -- an order elsewhere changes nothing
  pass : (p : BookOrder → Bool) → p o ≡ false → list_any p (xs ++ (o ∷ [])) ≡ list_any p xs
  pass p e = some_push p xs o ∙ (ap (λ b. list_any p xs || b) e ∙ (or-false (list_any p xs)))

  elsewhere : (best : Option Top) → is_at c s o ≡ false → IsBest c s xs best → IsBest c s (xs ++ (o ∷ [])) best
  elsewhere None e w = pass (is_at c s) e ∙ w
  elsewhere (Some t) e w =
      let p : at_price c s t.price.cents o ≡ false = and_left (is_at c s o) _ e in
      let q : beats c s t o ≡ false = and_left (is_at c s o) _ e in
      let r : customer_at c s t.price.cents o ≡ false = and_left (at_price c s t.price.cents o) _ p in
      record {
        there = pass (at_price c s t.price.cents) p ∙ w.there;
        unbeaten = pass (beats c s t) q ∙ w.unbeaten;
        mark = w.mark ∙ sym (pass (customer_at c s t.price.cents) r);
      }

  first : is_at c s o ≡ true → IsBest c s xs None → Best c s (xs ++ (o ∷ [])) o.top
  first e w =
      let t : Top = o.top in
      let n : list_any (at_price c s t.price.cents) xs ≡ false = none_by (at_price c s t.price.cents) (is_at c s) (λ x h. (and_parts (is_at c s x) _ h).0) xs w in
      let m : list_any (beats c s t) xs ≡ false = none_by (beats c s t) (is_at c s) (λ x h. (and_parts (is_at c s x) _ h).0) xs w in
      let k : list_any (customer_at c s t.price.cents) xs ≡ false = none_by (customer_at c s t.price.cents) (at_price c s t.price.cents) (λ x h. (and_parts (at_price c s t.price.cents x) _ h).0) xs n in
      let a : at_price c s t.price.cents o ≡ true = grind (arith, nat_tests) in
      let b : beats c s t o ≡ false = ap (λ x. x && better s t t) e ∙ irreflexive s t in
      record {
        there = some_push _ xs o ∙ or_right _ _ a;
        unbeaten = some_push _ xs o ∙ or_from _ _ m b;
        mark = sym (some_push _ xs o ∙ (ap (λ x. x || customer_at c s t.price.cents o) k ∙ ap (λ x. x && t.customer) a));
      }

  -- how the tests come out at a new order that is there
  module _ (e : is_at c s o ≡ true) (b : Top) (w : Best c s xs b) where
    price_test : (p : ℕ) (v : Bool) → eqb o.top.price.cents p ≡ v → at_price c s p o ≡ v
    price_test p v h = ap (λ x. x && eqb o.top.price.cents p) e ∙ h

    beats_test : (t : Top) (v : Bool) → better s o.top t ≡ v → beats c s t o ≡ v
    beats_test t v h = ap (λ x. x && better s o.top t) e ∙ h

    worse : better s b o.top ≡ true → Best c s (xs ++ (o ∷ [])) b
    worse h = record {
      there = some_push _ xs o ∙ or_left _ _ w.there;
      unbeaten = some_push _ xs o ∙ or_from _ _ w.unbeaten (beats_test b false (asymmetric s b o.top h));
      mark = w.mark ∙ sym (pass (customer_at c s b.price.cents) (and_left _ _ (price_test b.price.cents false (apart s b o.top h))));
    }

    beaten : better s o.top b ≡ true → Best c s (xs ++ (o ∷ [])) o.top
    beaten h =
        let t : Top = o.top in
        let a : at_price c s t.price.cents o ≡ true = price_test t.price.cents true (grind (arith, nat_tests)) in
        let m : list_any (beats c s t) xs ≡ false = none_by (beats c s t) (beats c s b)
        (λ x k. let v = and_parts (is_at c s x) _ k in and_from _ _ v.0 (transitive s x.top t b v.1 h)) xs w.unbeaten in
        let k : list_any (customer_at c s t.price.cents) xs ≡ false = none_by (customer_at c s t.price.cents) (beats c s b)
        (λ x k. let v = and_parts (is_at c s x) _ (and_parts (at_price c s t.price.cents x) _ k).0 in and_from _ _ v.0 (like_better s x.top t b h v.1)) xs w.unbeaten in
        record {
          there = some_push _ xs o ∙ or_right _ _ a;
          unbeaten = some_push _ xs o ∙ or_from _ _ m (beats_test t false (irreflexive s t));
          mark = sym (some_push _ xs o ∙ (ap (λ x. x || customer_at c s t.price.cents o) k ∙ ap (λ x. x && t.customer) a));
        }

    shared : better s b o.top ≡ false → better s o.top b ≡ false → Best c s (xs ++ (o ∷ [])) (record { price = b.price; customer = b.customer || o.top.customer })
    shared h k =
        let r : Top = record { price = b.price; customer = b.customer || o.top.customer } in
        let a : at_price c s b.price.cents o ≡ true = price_test b.price.cents true (level s b o.top h k) in
        record {
          there = some_push _ xs o ∙ or_left _ _ w.there;
          unbeaten = some_push _ xs o ∙ or_from _ _
              (none_by (beats c s r) (beats c s b) (λ x q. let v = and_parts (is_at c s x) _ q in and_from _ _ v.0 (sym (same_price s x.top b r.customer) ∙ v.1)) xs w.unbeaten)
              (beats_test r false (same_price s o.top b r.customer ∙ k));
          mark = sym (some_push _ xs o ∙ (ap (λ x. x || customer_at c s b.price.cents o) (sym w.mark) ∙ ap (λ x. b.customer || (x && o.top.customer)) a));
        }

    joined_best : Best c s (xs ++ (o ∷ [])) (joined s b o.top)
    joined_best = ⊎_elim
        (λ h. subst (Best c s (xs ++ (o ∷ []))) (sym (cond-true (better s b o.top) b _ h)) (worse h))
        (λ h. ⊎_elim
        (λ k. subst (Best c s (xs ++ (o ∷ []))) (sym (cond-false (better s b o.top) b _ h ∙ cond-true (better s o.top b) o.top _ k)) (beaten k))
        (λ k. subst (Best c s (xs ++ (o ∷ []))) (sym (cond-false (better s b o.top) b _ h ∙ cond-false (better s o.top b) o.top _ k)) (shared h k))
        (cases_Bool (better s o.top b)))
        (cases_Bool (better s b o.top))

  joined_at : (best : Option Top) → is_at c s o ≡ true → IsBest c s xs best → IsBest c s (xs ++ (o ∷ [])) (joined_to s best o.top)
  joined_at None e w = first e w
  joined_at (Some b) e w = joined_best e b w

  best_step : (best : Option Top) → IsBest c s xs best → IsBest c s (xs ++ (o ∷ [])) (with_order c s best o)
  best_step best w = ⊎_elim
      (λ e. subst (IsBest c s (xs ++ (o ∷ []))) (sym (cond-true (is_at c s o) (joined_to s best o.top) best e)) (joined_at best e w))
      (λ e. subst (IsBest c s (xs ++ (o ∷ []))) (sym (cond-false (is_at c s o) (joined_to s best o.top) best e)) (elsewhere best e w))
      (cases_Bool (is_at c s o))

best_all : (c : ℕ) (s : Side) (xs ys : List BookOrder) (best : Option Top) → IsBest c s xs best → IsBest c s (xs ++ ys) (best_among c s best ys)
best_all c s xs [] best w = subst (λ l. IsBest c s l best) (sym (append-nil xs)) w
best_all c s xs (y ∷ ys) best w =
    subst (λ l. IsBest c s l (best_among c s (with_order c s best y) ys)) (append_assoc xs (y ∷ []) ys)
    (best_all c s (xs ++ (y ∷ [])) ys (with_order c s best y) (best_step c s xs y best w))

-- what a depth book shows is the best of its orders
pub shows_best : (os : List BookOrder) (c : ℕ) (s : Side) (t : Option Top) → t ≡ book_top os c s → ShowsBest os c s t
shows_best os c s t e h =
    subst (IsBest c s os) (sym (e ∙ cond-true (component c) (best_among c s None os) None h)) (best_all c s [] os None refl)
