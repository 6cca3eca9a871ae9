-- The clauses that a stop price must meet, over prices as a buyer sees them. A clause that names
-- an absent price is met.
use Rattle.std.specs.Prelude.{Bool, true, cond, not, ◌&&◌, ℤ, Some, None, Option, int_le, int_lt}
use Rattle.terms.specs.declared.refusal.Clause.{Clause}
use Rattle.terms.specs.declared.refusal.Clause.TheVariants.{Bid, Orders, Offer}
use Rattle.terms.specs.declared.synthetic.Synthetic.{Synthetic}

-- clause 1: at or above the bid, and above it if a customer is there
abbrev pub meets_bid : ℤ → Option Synthetic → Bool
meets_bid stop None = true
meets_bid stop (Some bid) = cond bid.customer (int_lt bid.price stop) (int_le bid.price stop)

-- clause 2: above the best resting order of its side; at it if the Agency Order is a customer's
-- and no customer is there
abbrev pub meets_orders : ℤ → Bool → Option Synthetic → Bool
meets_orders stop customer None = true
meets_orders stop customer (Some best) =
    cond (customer && not best.customer) (int_le best.price stop) (int_lt best.price stop)

-- clause 3: at or below the offer, and below it if a customer is there
abbrev pub meets_offer : ℤ → Option Synthetic → Bool
meets_offer stop None = true
meets_offer stop (Some offer) = cond offer.customer (int_lt stop offer.price) (int_le stop offer.price)

-- the first clause that fails
abbrev pub failed_clause : ℤ → Bool → Option Synthetic → Option Synthetic → Option Synthetic → Option Clause
failed_clause stop customer bid best offer =
    cond (meets_bid stop bid)
    (cond (meets_orders stop customer best)
    (cond (meets_offer stop offer) None (Some Offer))
    (Some Orders))
    (Some Bid)
