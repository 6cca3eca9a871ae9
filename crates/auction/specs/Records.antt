-- An auction's record, as a buyer sees it.
use Rattle.std.specs.Prelude.{Bool, true, false, cond, ◌&&◌, ℤ, Some, None, Option, int_le}
use Rattle.std.specs.Int.{int_max}
use Rattle.std.specs.Option.{option_map}
use Rattle.terms.specs.declared.auction.AuctionRow.{AuctionRow}
use Rattle.terms.specs.declared.auction.Mode.{Mode}
use Rattle.terms.specs.declared.auction.Mode.TheVariants.{Single, LastPriority, MatchAll, MatchTo}
use Rattle.terms.specs.declared.side.Side.{Side}
use Rattle.terms.specs.Ranges.{between, complex_price}
use Rattle.auction.specs.Orientation.{as_buyer}
use Rattle.auction.specs.Caps.{cap_fits}

abbrev pub stop_of : AuctionRow → ℤ
stop_of a = as_buyer a.side a.stop

abbrev pub cap_at : AuctionRow → Option ℤ
cap_at a = option_map (as_buyer a.side) a.«cap»

-- a row that an auction may have: its cap, if it has one, is at or below its stop, and its size
-- and its stop are in range
abbrev pub sound : AuctionRow → Bool
sound a = cap_fits (cap_at a) (stop_of a) && (between 1 100000 a.size && complex_price a.stop)

-- an item trades at its price, or at the cap if that is greater
abbrev pub level_by : Option ℤ → ℤ → ℤ
level_by None price = price
level_by (Some c) price = int_max price c

abbrev pub level_of : AuctionRow → ℤ → ℤ
level_of a price = level_by (cap_at a) price

-- the mode matches others at this level
abbrev pub matches_by : Side → Mode → ℤ → Bool
matches_by side Single level = false
matches_by side LastPriority level = false
matches_by side MatchAll level = true
matches_by side (MatchTo limit) level = int_le (as_buyer side limit) level

abbrev pub matches_at : AuctionRow → ℤ → Bool
matches_at a level = matches_by a.side a.mode level

abbrev pub last_priority : Mode → Bool
last_priority Single = false
last_priority LastPriority = true
last_priority MatchAll = false
last_priority (MatchTo limit) = false

-- the price of contra interest as a buyer sees it, if that is at or below the stop
abbrev pub within : ℤ → ℤ → Option ℤ
within stop price = cond (int_le price stop) (Some price) None

abbrev pub within_stop : AuctionRow → ℤ → Option ℤ
within_stop a price = within (stop_of a) (as_buyer a.side price)
