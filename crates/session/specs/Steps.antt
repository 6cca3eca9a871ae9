-- What each call says and leaves, on the abstract state. Rows are tried in the order of their
-- numbers, and the first that applies refuses.
use Rattle.std.specs.Prelude.{◌≡◌, ℕ, ◌+◌, ◌-◌, Bool, true, false, cond, not, List, [], ◌∷◌, ◌++◌, length, Some, None, sum_by, count_by, Option, Result, nat_le, nat_lt, slice_index_or}
use Rattle.std.specs.Option.{option_map}
use Rattle.terms.specs.declared.answer.Placing.{Placing}
use Rattle.terms.specs.declared.answer.Placing.TheVariants.{Booked}
use Rattle.terms.specs.declared.answer.Reading.{Reading}
use Rattle.terms.specs.declared.leg.Leg.{Leg}
use Rattle.terms.specs.declared.side.Side.{Side}
use Rattle.terms.specs.declared.side.Side.TheVariants.{Buy, Sell}
use Rattle.terms.specs.declared.top.Top.{Top}
use Rattle.terms.specs.Legs.{well_formed}
use Rattle.terms.specs.Ranges as range
use Rattle.terms.specs.Refusals.{Said, Told, answered, due, fault, nothing, refused, row, told}
use Rattle.terms.specs.declared.refusal.Refusal.{Refusal}
use Rattle.std.specs.Result.{result_err}
use Rattle.terms.specs.Synthetics.{synthetic_of}
use Rattle.session.specs.declared.rows.Standing.TheVariants as standing
use Rattle.session.specs.declared.state.Phase.{Phase}
use Rattle.session.specs.declared.state.Phase.TheVariants.{Listing, Open, Closed}
use Rattle.session.specs.Rows.{counted, resting}
use Rattle.session.specs.States.{State, with_market, with_phase, with_strategies}

-- what a call says, and the state that it leaves
pub record Done (Mo S A F : Type 0) : Type 0 where
  pub says : Said A F
  pub after : State Mo S

-- a call did what a step gives
pub record Does {Mo S A F : Type 0} (d : Done Mo S A F) (said : Said A F) (after : State Mo S) : Type 0 where
  pub says : said ≡ d.says
  pub leaves : after ≡ d.after

-- a refused call changes nothing
abbrev pub answer_unless : {Mo S A F : Type 0} → Option (Told F) → State Mo S → A → State Mo S → Done Mo S A F
answer_unless None s a after = record { says = answered a; after = after }
answer_unless (Some t) s a after = record { says = refused t; after = s }

-- a row, if its cause holds; else the rows behind it
abbrev pub when : {F : Type 0} → Bool → Told F → Option (Told F) → Option (Told F)
when cause t later = cond cause (Some t) later

abbrev pub listing : Phase → Bool
listing Listing = true
listing (Open p) = false
listing Closed = false

abbrev pub opened : Phase → Bool
opened Listing = false
opened (Open p) = true
opened Closed = false

abbrev pub due_count : {Mo S : Type 0} → State Mo S → ℕ
due_count s = count_by (counted standing.Due) s.auctions

-- rows 1 and 2, before the rows of a call that belongs to the phase or not
abbrev pub unless_due : {Mo S F : Type 0} → State Mo S → Bool → Option (Told F) → Option (Told F)
unless_due s inPhase later = when (not inPhase) (row 1 nothing) (when (nat_lt 0 (due_count s)) (row 2 (due (due_count s))) later)

-- how a result refuses, if it does
abbrev pub refusal_of : {A F : Type 0} → Result A (Refusal F) → Option (Told F)
refusal_of r = option_map told (result_err r)

abbrev pub list_rows : {Mo S F : Type 0} → State Mo S → List Leg → Option (Told F)
list_rows s legs =
    unless_due s (listing s.phase)
    (when (not (well_formed legs)) (row 3 nothing)
    (when (nat_le 8 (length s.strategies)) (row 4 nothing) None))

-- a strategy takes the next number from 1
abbrev pub list_step : {Mo S F : Type 0} → State Mo S → List Leg → Done Mo S ℕ F
list_step s legs = answer_unless (list_rows s legs) s (length s.strategies + 1) (with_strategies s (s.strategies ++ (legs ∷ [])))

abbrev pub open_rows : {Mo S F : Type 0} → State Mo S → ℕ → Option (Told F)
open_rows s period = unless_due s (listing s.phase) (when (not (range.period period)) (row 3 nothing) None)

abbrev pub open_step : {Mo S F : Type 0} → State Mo S → ℕ → Done Mo S ℕ F
open_step s period = answer_unless (open_rows s period) s 0 (with_phase s (Open period))

abbrev pub fault_row : {F : Type 0} → Option F → Option (Told F)
fault_row f = option_map (λ x. row 5 (fault x)) f

abbrev pub notice_rows : {Mo S N F : Type 0} → (Mo → N → Option F) → State Mo S → N → Option (Told F)
notice_rows why s n = unless_due s (opened s.phase) (fault_row (why s.market n))

abbrev pub notice_step : {Mo S N F : Type 0} → (Mo → N → Option F) → (Mo → N → Mo) → State Mo S → N → Done Mo S Placing F
notice_step why after s n = answer_unless (notice_rows why s n) s Booked (with_market s (after s.market n))

-- the legs of a strategy, by its number from 1; none if none is so numbered
abbrev pub strategy_at : List (List Leg) → ℕ → Option (List Leg)
strategy_at ls n = cond (range.between 1 (length ls) n) (Some (slice_index_or ls (n - 1) [])) None

-- what there is of a strategy with these legs
abbrev pub reading_for : {Mo S : Type 0} → (Mo → ℕ → Side → Option Top) → State Mo S → ℕ → List Leg → Reading
reading_for top s n legs = record {
  sbb = synthetic_of (top s.market) Buy legs;
  sbo = synthetic_of (top s.market) Sell legs;
  running = count_by (counted (standing.RunningIn n)) s.auctions;
  due = count_by (counted (standing.DueIn n)) s.auctions;
  buy = sum_by (resting n Buy) s.orders;
  sell = sum_by (resting n Sell) s.orders;
}

-- an unknown strategy is refused
abbrev pub read_by : {Mo S F : Type 0} → (Mo → ℕ → Side → Option Top) → State Mo S → ℕ → Option (List Leg) → Done Mo S Reading F
read_by top s n None = record { says = refused (row 3 nothing); after = s }
read_by top s n (Some legs) = record { says = answered (reading_for top s n legs); after = s }

abbrev pub read_step : {Mo S F : Type 0} → (Mo → ℕ → Side → Option Top) → State Mo S → ℕ → Done Mo S Reading F
read_step top s n = read_by top s n (strategy_at s.strategies n)
