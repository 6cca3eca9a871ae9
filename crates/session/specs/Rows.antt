-- Which auctions and orders are counted.
use Rattle.std.specs.Prelude.{ℕ, Bool, true, false, cond, not, ◌&&◌, Some, None, Option, ◌==◌}
use Rattle.terms.specs.declared.auction.AuctionRow.{AuctionRow}
use Rattle.terms.specs.declared.auction.Stage.{Stage}
use Rattle.terms.specs.declared.auction.Stage.TheVariants.{Running, Due, Halted}
use Rattle.terms.specs.declared.order.Order.{Order}
use Rattle.terms.specs.declared.side.Side.{Side}
use Rattle.terms.specs.Sides.{same_side}
use Rattle.session.specs.declared.rows.Standing.{Standing}
use Rattle.session.specs.declared.rows.Standing.TheVariants as standing

abbrev pub running : Stage → Bool
running Running = true
running Due = false
running Halted = false

abbrev pub counts : Standing → AuctionRow → Bool
counts standing.Due a = not (running a.stage)
counts (standing.DueIn s) a = not (running a.stage) && a.strategy == s
counts (standing.RunningIn s) a = running a.stage && a.strategy == s

-- a free row is never counted
abbrev pub counted : Standing → Option AuctionRow → Bool
counted t None = false
counted t (Some a) = counts t a

-- what an order adds to the contracts resting in a strategy on one side
abbrev pub resting : ℕ → Side → Order → ℕ
resting n s o = cond (o.strategy == n && same_side o.side s) o.size 0
