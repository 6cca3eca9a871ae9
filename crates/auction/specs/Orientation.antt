-- Prices as a buyer sees them. Every rule is written for a buying Agency Order; for a selling one
-- each complex price is negated, and negated again it is the true one.
use Rattle.std.specs.Prelude.{ℤ, negsuc, neg_ℤ, Option}
use Rattle.std.specs.Option.{option_map}
use Rattle.terms.specs.declared.side.Side.{Side}
use Rattle.terms.specs.declared.side.Side.TheVariants.{Buy, Sell}
use Rattle.terms.specs.declared.synthetic.Synthetic.{Synthetic}

abbrev pub as_buyer : Side → ℤ → ℤ
as_buyer Buy z = z
as_buyer Sell z = neg_ℤ z

-- the least that a price of 32 bits can be, as a buyer sees it
abbrev pub least : Side → ℤ
least Buy = negsuc 2147483647
least Sell = negsuc 2147483646

-- a marked price, as a buyer sees it
abbrev pub seen : Side → Option Synthetic → Option Synthetic
seen side o = option_map (λ (s : Synthetic). record { price = as_buyer side s.price; customer = s.customer }) o
