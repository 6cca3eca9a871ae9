-- What a statement makes a session answer, and the state that it leaves.
use Rattle.std.specs.Prelude.{◌≡◌, ℕ, Some, None, Option}
use Rattle.terms.specs.declared.side.Side.{Side}
use Rattle.terms.specs.declared.top.Top.{Top}
use Rattle.terms.specs.Refusals.{Said, answered, refused}
use Rattle.market.specs.declared.fault.Fault.{Fault}
use Rattle.session.specs.States.{State}
use Rattle.session.specs.Steps.{Done, list_step, notice_step, open_step, read_step}
use Rattle.script.specs.declared.answer.Answer.{Answer}
use Rattle.script.specs.declared.answer.Answer.TheVariants as says
use Rattle.script.specs.Lines.{Spoken, market, band, share, listing, opening, board, book, reading}

-- what a call says, with its answer told so
abbrev pub told_by : {A : Type 0} → (A → Answer) → Said A Fault → Said Answer Fault
told_by f (answered a) = answered (f a)
told_by f (refused t) = refused t

abbrev by : {Mo S A : Type 0} → (A → Answer) → Done Mo S A Fault → Option (Done Mo S Answer Fault)
by f d = Some (record { says = told_by f d.says; after = d.after })

abbrev noticed : {Mo S N : Type 0} → (Mo → N → Option Fault) → (Mo → N → Mo) → State Mo S → Option N → Option (Done Mo S Answer Fault)
noticed why after s None = None
noticed why after s (Some n) = by says.Placing (notice_step why after s n)

-- the call that a statement is; none if it is no call of a session over this market
abbrev pub turn_of : {Mo S N : Type 0} → (Mo → ℕ → Side → Option Top) → (Mo → N → Option Fault) → (Mo → N → Mo) → (Spoken → Option N) → State Mo S → Spoken → Option (Done Mo S Answer Fault)
turn_of top why after stated s (market k) = None
turn_of top why after stated s (band n) = None
turn_of top why after stated s (share k) = None
turn_of top why after stated s (listing ls) = by says.Number (list_step s ls)
turn_of top why after stated s (opening n) = by says.Plain (open_step s n)
turn_of top why after stated s (board n) = noticed why after s (stated (board n))
turn_of top why after stated s (book n) = noticed why after s (stated (book n))
turn_of top why after stated s (reading n) = by says.Reading (read_step top s n)

-- a turn was answered as it gives and left the state that it gives; no call is not answered and leaves all as it was
abbrev pub Responds : {Mo S : Type 0} → Option (Done Mo S Answer Fault) → State Mo S → Option (Said Answer Fault) → State Mo S → Type 0
Responds None before r after = (r ≡ None) × (after ≡ before)
Responds (Some d) before r after = (r ≡ Some d.says) × (after ≡ d.after)
