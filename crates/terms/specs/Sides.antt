use Rattle.std.specs.Prelude.{Bool, true, false}
use Rattle.terms.specs.declared.side.Side.{Side}
use Rattle.terms.specs.declared.side.Side.TheVariants.{Buy, Sell}

abbrev pub other : Side → Side
other Buy = Sell
other Sell = Buy

abbrev pub same_side : Side → Side → Bool
same_side Buy Buy = true
same_side Buy Sell = false
same_side Sell Buy = false
same_side Sell Sell = true
