-- A stop that meets the clauses is at or above the cap.
use Rattle.std.proofs.Common.{◌≡◌, Bool, true, ℤ, ◌≤ℤ◌, Some, None, Ok, Err, Option, refl, ap, ◌∙◌, arith, w32, w64, SFits, to_z, of_z}
use lib.Signed.{le_z}
use Rattle.std.proofs.lemmas.Int.{ints, to_z-of_z}
use Rattle.std.proofs.lemmas.Bool.Decides.{nat_tests}
use Rattle.std.specs.Option.{option_map}
use Rattle.std.specs.Result.{result_err}
use Rattle.terms.specs.declared.refusal.Clause.{Clause}
use Rattle.terms.specs.declared.side.Side.{Side}
use Rattle.terms.specs.declared.side.Side.TheVariants.{Buy, Sell}
use Rattle.terms.specs.declared.synthetic.Synthetic.{Synthetic}
use Rattle.auction.specs.declared.agency.Agency.{Agency}
use Rattle.auction.specs.Caps.{cap_fits, cap_of, greater, opening_of, raised, unless_failed}
use Rattle.auction.specs.Orientation.{as_buyer, least, seen}
use Rattle.auction.specs.Stops.{failed_clause, meets_bid, meets_orders}

-- what the test of the clauses said
pub unfailed : (f : Option Clause) (u : Unit {0}) → Ok u ≡ unless_failed f (tt {0}) → None ≡ f
unfailed None u e = refl
unfailed (Some k) u e = cc

pub failed_first : {X : Type 0} (f : Option Clause) (k : Clause) (x : X) → Err k ≡ unless_failed {X = Unit {0}} f (tt {0}) → Err k ≡ unless_failed f x
failed_first None k x e = cc
failed_first (Some j) k x e = let h : k ≡ j = cc in ap (λ (c : Clause). Err c) h

pub failed_is : (f : Option Clause) → result_err (unless_failed {X = Unit {0}} f (tt {0})) ≡ f
failed_is None = refl
failed_is (Some k) = refl

bid_fits : (stop : ℤ) (bid : Option Synthetic) → meets_bid stop bid ≡ true → cap_fits (option_map raised bid) stop ≡ true
bid_fits stop None e = refl
bid_fits stop (Some b) e = grind (arith, ints)

best_fits : (stop : ℤ) (customer : Bool) (best : Option Synthetic) → meets_orders stop customer best ≡ true → cap_fits (option_map raised best) stop ≡ true
best_fits stop customer None e = refl
best_fits stop customer (Some b) e = grind (arith, ints)

greater_fits : (stop : ℤ) (a b : Option ℤ) → cap_fits a stop ≡ true → cap_fits b stop ≡ true → cap_fits (greater a b) stop ≡ true
greater_fits stop None b e f = f
greater_fits stop (Some a) None e f = e
greater_fits stop (Some a) (Some b) e f = grind (arith, ints)

-- negated again, a price is the true one
pub back : (side : Side) (p : ℤ) → as_buyer side (as_buyer side p) ≡ p
back Buy p = refl
back Sell p = omega (arith, ints)

fits_by : (side : Side) (stop p : ℤ) → SFits w32 stop → SFits w64 p → least side ≤ℤ p → le_z p (as_buyer side stop) ≡ true → SFits w32 (as_buyer side (to_z w64 (of_z w64 p)))
fits_by Buy stop p f g l h = omega (arith, ints)
fits_by Sell stop p f g l h = omega (arith, ints)

module _ (stop : ℤ) (customer : Bool) (bid best offer : Option Synthetic) (e : None ≡ failed_clause stop customer bid best offer) where
  met_bid : meets_bid stop bid ≡ true
  met_bid = grind (arith, nat_tests)

  met_orders : meets_orders stop customer best ≡ true
  met_orders = grind (arith, nat_tests)

  pub cap_is_fit : cap_fits (cap_of bid best) stop ≡ true
  cap_is_fit = greater_fits stop (option_map raised bid) (option_map raised best) (bid_fits stop bid met_bid) (best_fits stop customer best met_orders)

module _ (a : Agency) (bid best offer : Option Synthetic) (p : ℤ)
    (met : None ≡ failed_clause (as_buyer a.side a.stop) a.customer (seen a.side bid) (seen a.side best) (seen a.side offer))
    (here : Some p ≡ cap_of (seen a.side bid) (seen a.side best)) where
  below : le_z p (as_buyer a.side a.stop) ≡ true
  below =
      ap (λ o. cap_fits o (as_buyer a.side a.stop)) here
      ∙ cap_is_fit (as_buyer a.side a.stop) a.customer (seen a.side bid) (seen a.side best) (seen a.side offer) met

  -- the cap is a price of 32 bits
  pub true_fits : SFits w32 a.stop → SFits w64 p → least a.side ≤ℤ p → SFits w32 (as_buyer a.side (to_z w64 (of_z w64 p)))
  true_fits f g low = fits_by a.side a.stop p f g low below

  module _ (r : ℤ) (f : SFits w32 r) (g : SFits w64 p) (e : r ≡ as_buyer a.side (to_z w64 (of_z w64 p))) where
    same : to_z w32 (of_z w32 r) ≡ as_buyer a.side p
    same = to_z-of_z w32 r f ∙ (e ∙ ap (as_buyer a.side) (to_z-of_z w64 p g))

    pub opens : Ok (Some (to_z w32 (of_z w32 r))) ≡ opening_of a.side a.stop a.customer bid best offer
    opens =
        ap (λ z. Ok (Some z)) same
        ∙ (ap (λ o. Ok (option_map (as_buyer a.side) o)) here
        ∙ ap (λ f. unless_failed f (option_map (as_buyer a.side) (cap_of (seen a.side bid) (seen a.side best)))) met)

    pub capped : le_z (as_buyer a.side (to_z w32 (of_z w32 r))) (as_buyer a.side a.stop) ≡ true
    capped = ap (λ z. le_z z (as_buyer a.side a.stop)) (ap (as_buyer a.side) same ∙ back a.side p) ∙ below
