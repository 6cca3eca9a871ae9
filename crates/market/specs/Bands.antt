-- What a price band means, over any market.
use Rattle.std.specs.Prelude.{ℕ, zero, suc, ◌+◌, ◌-◌, Bool, false, cond, ◌||◌, Some, None, Option, nat_lt}
use Rattle.std.specs.Option.{option_map}
use Rattle.terms.specs.declared.price.Price.{Price}
use Rattle.terms.specs.declared.side.Side.{Side}
use Rattle.terms.specs.declared.side.Side.TheVariants.{Buy, Sell}
use Rattle.terms.specs.declared.top.Top.{Top}
use Rattle.terms.specs.Prices.{price_of}
use Rattle.terms.specs.Refusals.{Said, answered, refused, row, nothing}
use Rattle.market.specs.Meaning.{led}
use Rattle.market.specs.declared.band.Band.{Band}
use Rattle.market.specs.declared.band.Width.{Width}
use Rattle.market.specs.declared.fault.Fault.{Fault}

abbrev pub width_of : Width → ℕ
width_of w = w.cents.cents

abbrev width_at : Option Price → Said Width Fault
width_at (Some p) = answered (record { cents = p })
width_at None = refused (row 3 nothing)

-- a width out of range is refused by row 3
abbrev pub width_said : ℕ → Said Width Fault
width_said n = width_at (price_of n)

-- both tops are there, and their prices lie further apart than w
abbrev pub too_far : ℕ → Option Top → Option Top → Bool
too_far w None after = false
too_far w (Some b) None = false
too_far w (Some b) (Some a) = nat_lt w ((b.price.cents - a.price.cents) + (a.price.cents - b.price.cents))

-- one of the two tops of a component moves too far
abbrev pub moves_far : ℕ → (ℕ → Side → Option Top) → (ℕ → Side → Option Top) → ℕ → Bool
moves_far w before after c = too_far w (before c Buy) (after c Buy) || too_far w (before c Sell) (after c Sell)

-- where a notice leads, a top of a component has moved too far
abbrev pub would_move : {Mo N F : Type 0} → (Mo → ℕ → Side → Option Top) → (Mo → N → Option F) → (Mo → N → Mo) → ℕ → Mo → N → ℕ → Bool
would_move top fault after w m n = moves_far w (top m) (top (led fault after m n))

-- the lowest of n numbers from c that passes the test
unfoldable pub lowest : (ℕ → Bool) → ℕ → ℕ → Option ℕ
lowest p c zero = None
lowest p c (suc n) = cond (p c) (Some c) (lowest p (suc c) n)

-- a band is what it stands over, and its width
pub record Banded (Mo : Type 0) : Type 0 where
  pub below : Mo
  pub width : ℕ

abbrev pub banded : {M Mo : Type 0} → (M → Mo) → Band M → Banded Mo
banded model b = record { below = model b.below; width = width_of b.width }

abbrev pub band_top : {Mo : Type 0} → (Mo → ℕ → Side → Option Top) → Banded Mo → ℕ → Side → Option Top
band_top top m c s = top m.below c s

abbrev pub fault_or : {F : Type 0} → Option F → Option F → Option F
fault_or None own = own
fault_or (Some f) own = Some f

-- the fault below goes first; a band's own names the lowest component that would move too far
abbrev pub band_fault : {Mo N F : Type 0} → (Mo → ℕ → Side → Option Top) → (Mo → N → Option F) → (Mo → N → Mo) → (ℕ → F) → Banded Mo → N → Option F
band_fault top fault after outside m n =
    fault_or (fault m.below n) (option_map outside (lowest (moves_far m.width (top m.below) (top (after m.below n))) 1 16))

abbrev pub band_after : {Mo N : Type 0} → (Mo → N → Mo) → Banded Mo → N → Banded Mo
band_after after m n = record { below = after m.below n; width = m.width }
