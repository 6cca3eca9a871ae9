-- The lowest component that passes a test, and a band over a notice that is not admitted below.
use Rattle.std.proofs.Common.{◌≡◌, ℕ, zero, suc, ◌+◌, ◌-◌, ◌<◌, ◌≤◌, Bool, true, false, Some, None, Option, sym, refl, ap, ◌∙◌, add-one, arith}
use Rattle.std.proofs.lemmas.Bool.{cond-true, cond-false, or_from, le-ltb}
use Rattle.terms.specs.declared.side.Side.{Side}
use Rattle.terms.specs.declared.side.Side.TheVariants.{Buy, Sell}
use Rattle.terms.specs.declared.top.Top.{Top}
use Rattle.std.specs.Option.{option_map}
use Rattle.market.specs.Bands.{Banded, band_fault, fault_or, lowest, moves_far, too_far, would_move}
use Rattle.market.specs.Meaning.{led_by}

module _ (p : ℕ → Bool) (c : ℕ) where
  pub lowest_here : c < 17 → p c ≡ true → Some c ≡ lowest p c (17 - c)
  unfolding lowest
  lowest_here h e = let k : 17 - c ≡ suc (16 - c) = omega arith in rw k (sym (cond-true (p c) (Some c) (lowest p (suc c) (16 - c)) e))

  pub lowest_on : c < 17 → p c ≡ false → lowest p (c + 1) (17 - (c + 1)) ≡ lowest p c (17 - c)
  unfolding lowest
  lowest_on h e = let k : 17 - c ≡ suc (17 - (c + 1)) = omega arith in rw (k, add-one) (sym (cond-false (p c) (Some c) (lowest p (suc c) (17 - suc c)) e))

  pub lowest_end : 17 ≤ c → None ≡ lowest p c (17 - c)
  unfolding lowest
  lowest_end h = let k : 17 - c ≡ 0 = omega arith in rw k refl

pub lowest_none : (p : ℕ → Bool) → ((c : ℕ) → p c ≡ false) → (c n : ℕ) → lowest p c n ≡ None
unfolding lowest
lowest_none p h c zero = refl
lowest_none p h c (suc n) = cond-false (p c) (Some c) (lowest p (suc c) n) (h c) ∙ lowest_none p h (suc c) n

still : (w : ℕ) (t : Option Top) → too_far w t t ≡ false
still w None = refl
still w (Some t) = le-ltb w _ (omega arith)

-- nothing moves where nothing changes
pub nothing_moves : (w : ℕ) (at : ℕ → Side → Option Top) (c n : ℕ) → lowest (moves_far w at at) c n ≡ None
nothing_moves w at c n = lowest_none (moves_far w at at) (λ d. or_from _ _ (still w (at d Buy)) (still w (at d Sell))) c n

module _ {Mo N F : Type 0} (top : Mo → ℕ → Side → Option Top) (fault : Mo → N → Option F) (after : Mo → N → Mo) (outside : ℕ → F) (m : Banded Mo) (n : N) (c : ℕ) where
  outside_by : (o : Option F) → lowest (moves_far m.width (top m.below) (top (led_by o m.below (after m.below n)))) 1 16 ≡ Some c → fault_or o (option_map outside (lowest (moves_far m.width (top m.below) (top (after m.below n))) 1 16)) ≡ Some (outside c)
  outside_by None e = ap (option_map outside) e
  outside_by (Some f) e = let z : ◌≡◌ {A = Option ℕ} None (Some c) = sym (nothing_moves m.width (top m.below) 1 16) ∙ e in let y : ◌≡◌ {A = ℕ} 0 1 = cc in absurd (omega arith)

  -- a component that moves too far is the band's own fault, for nothing moves that is not admitted below
  pub band_outside : lowest (would_move top fault after m.width m.below n) 1 16 ≡ Some c → band_fault top fault after outside m n ≡ Some (outside c)
  band_outside e = outside_by (fault m.below n) e
