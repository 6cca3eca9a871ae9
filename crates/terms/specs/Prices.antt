use Rattle.std.specs.Prelude.{◌≡◌, ℕ, Bool, true, false, Some, None, Option, refl}
use Rattle.terms.specs.declared.price.Price.{Price}
use Rattle.terms.specs.Ranges.{simple_price}

abbrev pub price_by : (n : ℕ) (b : Bool) → simple_price n ≡ b → Option Price
price_by n true e = Some (record { cents = n; range = e })
price_by n false e = None

-- the price of n cents, if n is in range
unfoldable pub price_of : ℕ → Option Price
price_of n = price_by n (simple_price n) refl
