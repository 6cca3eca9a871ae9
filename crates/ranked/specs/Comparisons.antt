-- Records that compare by their ranks, which are in a total order.
use Rattle.std.specs.Prelude.{◌≡◌, Bool, true, false, ◌||◌}
use Rattle.std.specs.Cmp.{IsTotalOrder}
use Rattle.std.specs.Ordering.{is_gt, is_le, ordering_reverse}
use Rattle.std.specs.declared.cmp.Ordering.{Ordering}
use Rattle.std.specs.declared.cmp.Ordering.TheVariants.{Less, Equal, Greater}
use Rattle.std.proofs.Common.{ap, refl, sym, ◌∙◌}
use Rattle.std.proofs.lemmas.Cmp.{tied_itself, upto}

one_way : (o : Ordering) → (is_le (ordering_reverse o) || is_le o) ≡ true
one_way Less = refl
one_way Equal = refl
one_way Greater = refl

both_ways : (o : Ordering) → is_le (ordering_reverse o) ≡ true → is_le o ≡ true → o ≡ Equal
both_ways Less e f = cc
both_ways Equal e f = refl
both_ways Greater e f = cc

not_above : (o : Ordering) → is_le o ≡ true → is_gt o ≡ false
not_above Less e = refl
not_above Equal e = refl
not_above Greater e = cc

at_most : (o : Ordering) → is_gt o ≡ false → is_le o ≡ true
at_most Less e = refl
at_most Equal e = refl
at_most Greater e = cc

module _ {X R : Type 0} {cmp : R → R → Ordering} (total : IsTotalOrder cmp) (rank : X → R) (before : X → X → Bool) (compares : (x y : X) → before x y ≡ is_le (cmp (rank x) (rank y))) where
  -- any two compare, one way or both
  pub compared : (x y : X) → (before x y || before y x) ≡ true
  compared x y =
      let e = compares x y in
      let f = compares y x in
      let t = total.antisymm (rank x) (rank y) in
      let o = one_way (cmp (rank y) (rank x)) in
      cc

  -- both ways only where the ranks agree
  pub agreed : (exact : (x y : X) → cmp (rank x) (rank y) ≡ Equal → rank x ≡ rank y) → (x y : X) → before x y ≡ true → before y x ≡ true → rank x ≡ rank y
  agreed exact x y e f =
      let t = total.antisymm (rank y) (rank x) in
      exact x y (both_ways (cmp (rank x) (rank y)) (ap is_le (sym t) ∙ (sym (compares y x) ∙ f)) (sym (compares x y) ∙ e))

  -- and always there
  pub level : (x y : X) → rank x ≡ rank y → before x y ≡ true
  level x y e = compares x y ∙ (ap (λ r. is_le (cmp (rank x) r)) (sym e) ∙ ap is_le (tied_itself total (rank x)))

  pub passed : (x y z : X) → before x y ≡ true → before y z ≡ true → before x z ≡ true
  passed x y z e f =
      let g = upto total (rank x) (rank y) (rank z) (not_above _ (sym (compares x y) ∙ e)) (not_above _ (sym (compares y z) ∙ f)) in
      compares x z ∙ at_most _ g
