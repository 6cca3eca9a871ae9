-- A strategy's synthetic best bid (SBB) and offer (SBO), from a market's tops.
use Rattle.std.specs.Prelude.{ℕ, ◌*◌, Bool, false, ◌||◌, List, [], ◌∷◌, map, ℤ, pos, ◌+ℤ◌, neg_ℤ, ◌≤ℤ◌, Some, None, Option}
use Rattle.std.specs.Option.{option_map}
use Rattle.terms.specs.declared.leg.Leg.{Leg}
use Rattle.terms.specs.declared.side.Side.{Side}
use Rattle.terms.specs.declared.side.Side.TheVariants.{Buy, Sell}
use Rattle.terms.specs.declared.synthetic.Synthetic.{Synthetic}
use Rattle.terms.specs.declared.top.Top.{Top}
use Rattle.terms.specs.Legs.{reads}

abbrev pub signed_by : Side → ℕ → ℤ
signed_by Buy n = pos n
signed_by Sell n = neg_ℤ (pos n)

-- what a leg adds to the price: ratio times the top's price, less it for a sold leg
abbrev pub worth : Leg → Top → ℤ
worth l t = signed_by l.side (l.ratio * t.price.cents)

-- a top for each leg, where none is absent
abbrev pub shown : List Leg → List (Option Top) → Option (List Top)
shown [] ts = Some []
shown (l ∷ ls) [] = None
shown (l ∷ ls) (None ∷ ts) = None
shown (l ∷ ls) (Some t ∷ ts) = option_map (λ us. t ∷ us) (shown ls ts)

-- the sum over the legs of what each adds
abbrev pub total : List Leg → List Top → ℤ
total [] us = pos 0
total (l ∷ ls) [] = pos 0
total (l ∷ ls) (u ∷ us) = worth l u +ℤ total ls us

-- one of the tops is a customer's
abbrev pub some_customer : List Top → Bool
some_customer [] = false
some_customer (u ∷ us) = u.customer || some_customer us

-- absent if a top is, else the sum over the legs, marked if a top is a customer's
abbrev pub valued : List Leg → Option (List Top) → Option Synthetic
valued ls us = option_map (λ (ts : List Top). record { price = total ls ts; customer = some_customer ts }) us

-- the tops that price the legs, in a market that shows `at`
abbrev pub priced : (ℕ → Side → Option Top) → Side → List Leg → List (Option Top)
priced at quote ls = map (λ (l : Leg). at l.component (reads quote l)) ls

-- the SBB (quote Buy) or SBO (quote Sell) of these legs
abbrev pub synthetic_of : (ℕ → Side → Option Top) → Side → List Leg → Option Synthetic
synthetic_of at quote ls = valued ls (shown ls (priced at quote ls))

-- how the sum is worked out, leg by leg
abbrev pub plus : Synthetic → Leg → Top → Synthetic
plus s l t = record { price = s.price +ℤ worth l t; customer = s.customer || t.customer }

abbrev pub nought : Synthetic
nought = record { price = pos 0; customer = false }

-- a price so far with what the legs add to it, each by its own top; absent if a top is
abbrev pub summed : Synthetic → List Leg → List (Option Top) → Option Synthetic
summed s [] ts = Some s
summed s (l ∷ ls) [] = None
summed s (l ∷ ls) (None ∷ ts) = None
summed s (l ∷ ls) (Some t ∷ ts) = summed (plus s l t) ls ts

-- a sum over n legs is at most n times the dearest leg, either way
abbrev pub Within : ℕ → ℤ → Type 0
Within n z = (neg_ℤ (pos (7999992 * n)) ≤ℤ z) × (z ≤ℤ pos (7999992 * n))
