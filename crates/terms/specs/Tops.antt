use Rattle.std.specs.Prelude.{ℕ, Bool, Option}
use Rattle.std.specs.Option.{option_map}
use Rattle.terms.specs.declared.price.Price.{Price}
use Rattle.terms.specs.declared.top.Top.{Top}
use Rattle.terms.specs.Prices.{price_of}

abbrev pub top_at : Option Price → Bool → Option Top
top_at p customer = option_map (λ (q : Price). record { price = q; customer = customer }) p

-- the top at n cents, if that is a price
unfoldable pub top_of : ℕ → Bool → Option Top
top_of n customer = top_at (price_of n) customer
