-- What a heading of a text sets, and when it is refused.
use Rattle.std.specs.Prelude.{◌≡◌, ℕ, cond, is_some, Some, None, Ok, Err, Result}
use Rattle.terms.specs.Refusals.{Said, Told, answered, refused, told}
use Rattle.market.specs.declared.band.Width.{Width}
use Rattle.market.specs.declared.fault.Fault.{Fault}
use Rattle.market.specs.Bands.{width_said}
use Rattle.script.specs.declared.line.MarketKind.{MarketKind}
use Rattle.script.specs.declared.line.ShareKind.{ShareKind}
use Rattle.script.specs.Lines.{Spoken, market, band, share, listing, opening, board, book, reading}
use Rattle.console.specs.declared.setup.NotTaken.{NotTaken}
use Rattle.console.specs.declared.setup.NotTaken.TheVariants.{Again, Refused, Call}
use Rattle.console.specs.declared.setup.Setup.{Setup}

abbrev pub unstated : Setup
unstated = record { market = None; band = None; share = None }

-- what a heading is told to be, with a refusal by its row
pub data Headed : Type 0 where
  taken : Headed
  again : Headed
  refused_by : Told Fault → Headed
  call : Headed

abbrev pub heading_said : Result (Unit {0}) NotTaken → Headed
heading_said (Ok u) = taken
heading_said (Err Again) = again
heading_said (Err (Refused e)) = refused_by (told e)
heading_said (Err Call) = call

pub record Head : Type 0 where
  pub says : Headed
  pub after : Setup

pub record Heads (h : Head) (says : Headed) (after : Setup) : Type 0 where
  pub said : says ≡ h.says
  pub leaves : after ≡ h.after

abbrev unchanged : Headed → Setup → Head
unchanged h s = record { says = h; after = s }

abbrev pub takes_market : Setup → MarketKind → Head
takes_market s k = cond (is_some s.market) (unchanged again s) (record { says = taken; after = record { market = Some k; band = s.band; share = s.share } })

abbrev pub takes_share : Setup → ShareKind → Head
takes_share s k = cond (is_some s.share) (unchanged again s) (record { says = taken; after = record { market = s.market; band = s.band; share = Some k } })

abbrev pub takes_width : Setup → Said Width Fault → Head
takes_width s (answered w) = record { says = taken; after = record { market = s.market; band = Some w; share = s.share } }
takes_width s (refused t) = unchanged (refused_by t) s

abbrev pub takes_band : Setup → ℕ → Head
takes_band s n = cond (is_some s.band) (unchanged again s) (takes_width s (width_said n))

-- each heading is taken once; a width out of range is refused by row 3
abbrev pub heading_of : Setup → Spoken → Head
heading_of s (market k) = takes_market s k
heading_of s (band n) = takes_band s n
heading_of s (share k) = takes_share s k
heading_of s (listing ls) = unchanged call s
heading_of s (opening n) = unchanged call s
heading_of s (board n) = unchanged call s
heading_of s (book n) = unchanged call s
heading_of s (reading n) = unchanged call s
