-- Prices that fit 32 bits when they are turned into true ones, negated for a seller.
use Rattle.std.specs.Int.{w32}
use Rattle.std.specs.Prelude.{ℤ, FitsSigned}
use Rattle.terms.specs.declared.side.Side.{Side}
use Rattle.ranked.specs.declared.contra.ContraItem.{ContraItem}
use Rattle.auction.specs.Orientation.{as_buyer}

abbrev pub PriceTurns : Side → ℤ → Type 0
PriceTurns side z = FitsSigned w32 (as_buyer side z)

abbrev pub ItemTurns : Side → ContraItem → Type 0
ItemTurns side x = PriceTurns side x.price × PriceTurns side x.level
