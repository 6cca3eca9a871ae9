-- What a board means: it shows the tops that notices set and have not cleared.
use Rattle.std.specs.Prelude.{◌≡◌, ℕ, ◌-◌, Bool, true, cond, ◌&&◌, is_some, Some, None, Option, ◌==◌, slice_index_or, slice_set}
use Rattle.terms.specs.declared.side.Side.{Side}
use Rattle.terms.specs.declared.side.Side.TheVariants.{Buy, Sell}
use Rattle.terms.specs.declared.top.Top.{Top}
use Rattle.terms.specs.Prices.{price_of}
use Rattle.terms.specs.Ranges.{component}
use Rattle.terms.specs.Sides.{same_side}
use Rattle.terms.specs.Tops.{top_of}
use Rattle.market.specs.Faults.{fault_at}
use Rattle.market.specs.declared.board.Board.{Board}
use Rattle.market.specs.declared.board.BoardNotice.{BoardNotice}
use Rattle.market.specs.declared.board.BoardNotice.TheVariants.{Set, Clear}
use Rattle.market.specs.declared.board.Tops.{Tops}
use Rattle.market.specs.declared.fault.Fault.{Fault}
use Rattle.market.specs.declared.fault.Cause.TheVariants.{OutOfRange}

abbrev pub no_tops : Tops
no_tops = record { bid = None; offer = None }

abbrev pub on_side : Tops → Side → Option Top
on_side t Buy = t.bid
on_side t Sell = t.offer

abbrev pub with_on_side : Tops → Side → Option Top → Tops
with_on_side t Buy x = record { bid = x; offer = t.offer }
with_on_side t Sell x = record { bid = t.bid; offer = x }

abbrev pub tops_at : Board → ℕ → Tops
tops_at b c = slice_index_or b.tops (c - 1) no_tops

abbrev pub board_top : Board → ℕ → Side → Option Top
board_top b c s = cond (component c) (on_side (tops_at b c) s) None

abbrev pub with_top : Board → ℕ → Side → Option Top → Board
with_top b c s t = record { tops = slice_set b.tops (c - 1) (with_on_side (tops_at b c) s t) }

-- a component out of range goes first, and is told as 0
abbrev pub range_fault : ℕ → Bool → Option Fault
range_fault c priced = cond (component c) (cond priced None (Some (fault_at c OutOfRange))) (Some (fault_at 0 OutOfRange))

-- what a notice speaks of
abbrev pub notice_component : BoardNotice → ℕ
notice_component (Set q) = q.component
notice_component (Clear c s) = c

abbrev pub notice_side : BoardNotice → Side
notice_side (Set q) = q.side
notice_side (Clear c s) = s

-- a price that it sets is in range
abbrev pub priced : BoardNotice → Bool
priced (Set q) = is_some (price_of q.price)
priced (Clear c s) = true

abbrev pub board_fault : BoardNotice → Option Fault
board_fault n = range_fault (notice_component n) (priced n)

-- the top that a notice leaves where it speaks of
abbrev pub heard : BoardNotice → Option Top
heard (Set q) = top_of q.price q.customer
heard (Clear c s) = None

-- the notice is about this component and side
abbrev pub speaks_of : BoardNotice → ℕ → Side → Bool
speaks_of n c s = notice_component n == c && same_side (notice_side n) s

abbrev pub board_after : Board → BoardNotice → Board
board_after b n = with_top b (notice_component n) (notice_side n) (heard n)

-- a board is changed where the notice speaks of, and nowhere else
abbrev pub Shows : Board → BoardNotice → Board → Type 0
Shows b n b' = (c : ℕ) (s : Side) → board_top b' c s ≡ cond (speaks_of n c s) (heard n) (board_top b c s)
