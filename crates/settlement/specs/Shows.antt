-- A fill whose price fits 32 bits when it is turned into the true one.
use Rattle.terms.specs.declared.side.Side.{Side}
use Rattle.ranked.specs.declared.fill.Fill.{Fill}
use Rattle.contra.specs.Turns.{PriceTurns}

abbrev pub FillTurns : Side → Fill → Type 0
FillTurns side f = PriceTurns side f.price
