-- The cap of an auction, over prices as a buyer sees them.
use Rattle.std.specs.Prelude.{Bool, true, cond, ℤ, pos, ◌+ℤ◌, Some, None, Ok, Err, Option, Result, int_le}
use Rattle.std.specs.Int.{int_max}
use Rattle.std.specs.Option.{option_map}
use Rattle.terms.specs.declared.refusal.Clause.{Clause}
use Rattle.terms.specs.declared.side.Side.{Side}
use Rattle.terms.specs.declared.synthetic.Synthetic.{Synthetic}
use Rattle.auction.specs.Orientation.{as_buyer, seen}
use Rattle.auction.specs.Stops.{failed_clause}

-- 1 higher if a customer is at that price
abbrev pub raised : Synthetic → ℤ
raised s = cond s.customer (s.price +ℤ pos 1) s.price

-- the greater of two prices; the other one if one is absent
abbrev pub greater : Option ℤ → Option ℤ → Option ℤ
greater None b = b
greater (Some a) None = Some a
greater (Some a) (Some b) = Some (int_max a b)

-- the greater of the bid and the best resting order of the side, each raised first
abbrev pub cap_of : Option Synthetic → Option Synthetic → Option ℤ
cap_of bid best = greater (option_map raised bid) (option_map raised best)

-- a cap, if there is one, is at or below the stop
abbrev pub cap_fits : Option ℤ → ℤ → Bool
cap_fits None stop = true
cap_fits (Some c) stop = int_le c stop

-- what x is where no clause failed
abbrev pub unless_failed : {X : Type 0} → Option Clause → X → Result X Clause
unless_failed None x = Ok x
unless_failed (Some k) x = Err k

-- the cap at which an auction may start, as a true price, or the first clause that its stop fails
abbrev pub opening_of : Side → ℤ → Bool → Option Synthetic → Option Synthetic → Option Synthetic → Result (Option ℤ) Clause
opening_of side stop customer bid best offer =
    unless_failed (failed_clause (as_buyer side stop) customer (seen side bid) (seen side best) (seen side offer))
    (option_map (as_buyer side) (cap_of (seen side bid) (seen side best)))
