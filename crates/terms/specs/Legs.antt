-- What makes a list of legs a strategy, and which tops price a leg.
use Rattle.std.specs.Prelude.{ℕ, Bool, true, not, ◌&&◌, List, [], ◌∷◌, length, ◌==◌}
use Rattle.std.specs.List.{list_any}
use Rattle.terms.specs.declared.leg.Leg.{Leg}
use Rattle.terms.specs.declared.side.Side.{Side}
use Rattle.terms.specs.declared.side.Side.TheVariants.{Buy, Sell}
use Rattle.terms.specs.Sides.{other}
use Rattle.terms.specs.Ranges as range

abbrev pub leg_fits : Leg → Bool
leg_fits l = range.component l.component && range.ratio l.ratio

-- one of the legs is on the component
abbrev pub names : ℕ → List Leg → Bool
names c ls = list_any (λ (l : Leg). l.component == c) ls

-- each leg is in range and on a component that no later leg is on
abbrev pub apart : List Leg → Bool
apart [] = true
apart (l ∷ ls) = leg_fits l && (not (names l.component ls) && apart ls)

abbrev pub well_formed : List Leg → Bool
well_formed ls = range.leg_count (length ls) && apart ls

-- the side of the market that prices a leg in the strategy's bid (Buy) or offer (Sell)
abbrev pub reads_by : Side → Side → Side
reads_by Buy quote = quote
reads_by Sell quote = other quote

abbrev pub reads : Side → Leg → Side
reads quote l = reads_by l.side quote
