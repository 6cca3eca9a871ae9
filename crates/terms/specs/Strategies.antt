use Rattle.std.specs.Prelude.{List, take}
use Rattle.terms.specs.declared.leg.Leg.{Leg}
use Rattle.terms.specs.declared.strategy.Strategy.{Strategy}

-- a strategy is its legs, in the order listed
abbrev pub legs_of : Strategy → List Leg
legs_of s = take s.count s.legs
