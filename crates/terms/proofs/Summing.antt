-- A strategy's sum: its bounds, and the steps of the loop that works it out.
use Rattle.std.proofs.Common.{◌≡◌, ℕ, ◌+◌, ◌<◌, ◌≤◌, Bool, true, ◌||◌, List, [], ◌∷◌, length, get_or, drop, ℤ, ◌+ℤ◌, Some, None, Option, sym, refl, ap, ◌∙◌, arith}
use mathlib.Core.Bool.{or_assoc, or-false}
use Rattle.std.proofs.lemmas.List.{drop_more}
use Rattle.std.proofs.lemmas.Int.{ints}
use Rattle.std.proofs.lemmas.Bool.Decides.{nat_tests}
use Rattle.std.specs.Option.{option_map}
use Rattle.terms.specs.declared.leg.Leg.{Leg}
use Rattle.terms.specs.declared.side.Side.TheVariants.{Buy}
use Rattle.terms.specs.declared.synthetic.Synthetic.{Synthetic}
use Rattle.terms.specs.declared.top.Top.{Top}
use Rattle.terms.specs.Legs.{apart, well_formed}
use Rattle.terms.specs.Synthetics.{nought, plus, shown, some_customer, summed, total, valued}

pub same_synthetic : (p q : ℤ) (a b : Bool) → p ≡ q → a ≡ b → ◌≡◌ {A = Synthetic} (record { price = p; customer = a }) (record { price = q; customer = b })
same_synthetic p q a b e f = cc

-- what the code reads past the end of a list
abbrev pub no_leg : Leg
no_leg = record { component = 0; side = Buy; ratio = 0 }

none_left : (s : Synthetic) (l : Leg) (ls : List Leg) (ts : List (Option Top)) → length ts ≡ 0 → None ≡ summed s (l ∷ ls) ts
none_left s l ls [] e = refl
none_left s l ls (t ∷ ts) e = absurd (omega arith)

-- i legs are added, and of the tops these are left
module _ (ls : List Leg) (left : List (Option Top)) (i : ℕ) (s : Synthetic) (whole : Option Synthetic) (inv : summed s (drop i ls) left ≡ whole) where
  at_leg : i < length ls → summed s (get_or ls i no_leg ∷ drop (i + 1) ls) left ≡ whole
  at_leg h = sym (ap (λ x. summed s x left) (drop_more ls i no_leg h)) ∙ inv

  pub short_tops : i < length ls → length left ≡ 0 → None ≡ whole
  short_tops h k = none_left s (get_or ls i no_leg) (drop (i + 1) ls) left k ∙ at_leg h

  pub absent_top : (ts : List (Option Top)) → i < length ls → left ≡ None ∷ ts → None ≡ whole
  absent_top ts h e = sym (ap (summed s (get_or ls i no_leg ∷ drop (i + 1) ls)) e) ∙ at_leg h

pub few_legs : (ls : List Leg) → well_formed ls ≡ true → length ls ≤ 4
few_legs ls e = grind (arith, nat_tests)

pub fit_all : (ls : List Leg) → well_formed ls ≡ true → apart ls ≡ true
fit_all ls e = grind (arith, nat_tests)

-- a price so far, with the sum over the legs
abbrev added : Synthetic → List Leg → List Top → Synthetic
added s ls us = record { price = s.price +ℤ total ls us; customer = s.customer || some_customer us }

added_more : (s : Synthetic) (l : Leg) (t : Top) (ls : List Leg) (us : Option (List Top)) → option_map (added (plus s l t) ls) us ≡ option_map (added s (l ∷ ls)) (option_map (λ vs. t ∷ vs) us)
added_more s l t ls None = refl
added_more s l t ls (Some us) = ap Some (same_synthetic _ _ _ _ (omega (arith, ints)) (or_assoc s.customer t.customer (some_customer us)))

summed_added : (ls : List Leg) (ts : List (Option Top)) (s : Synthetic) → summed s ls ts ≡ option_map (added s ls) (shown ls ts)
summed_added [] ts s = ap Some (same_synthetic _ _ _ _ (omega (arith, ints)) (sym (or-false s.customer)))
summed_added (l ∷ ls) [] s = refl
summed_added (l ∷ ls) (None ∷ ts) s = refl
summed_added (l ∷ ls) (Some t ∷ ts) s = summed_added ls ts (plus s l t) ∙ added_more s l t ls (shown ls ts)

added_nought : (ls : List Leg) (us : Option (List Top)) → option_map (added nought ls) us ≡ valued ls us
added_nought ls None = refl
added_nought ls (Some us) = ap Some (same_synthetic _ _ _ _ (omega (arith, ints)) refl)

-- a sum worked out leg by leg is the sum over the legs
pub summed_valued : (ls : List Leg) (ts : List (Option Top)) → summed nought ls ts ≡ valued ls (shown ls ts)
summed_valued ls ts = summed_added ls ts nought ∙ added_nought ls (shown ls ts)
