use Rattle.std.proofs.Common.{◌≡◌, ℕ, Bool, true, false, is_some, Some, None, Option, refl, ap}
use mathlib.Core.Bool.{Bool-set}
use Rattle.std.proofs.lemmas.Bool.{both_ways, true≢false}
use Rattle.terms.specs.declared.price.Price.{Price}
use Rattle.terms.specs.Ranges.{simple_price}
use Rattle.terms.specs.Prices.{price_by, price_of}

price_is_by : (n : ℕ) (b : Bool) (e : simple_price n ≡ b) (r : simple_price n ≡ true) → ◌≡◌ {A = Option Price} (Some (record { cents = n; range = r })) (price_by n b e)
price_is_by n true e r = ap (λ (p : simple_price n ≡ true). Some (record { cents = n; range = p })) (Bool-set (simple_price n) true r e)
price_is_by n false e r = absurd (both_ways (simple_price n) e r)

-- a price that is there is the price of its cents
pub price_is : (n : ℕ) (r : simple_price n ≡ true) → ◌≡◌ {A = Option Price} (Some (record { cents = n; range = r })) (price_of n)
unfolding price_of
price_is n r = price_is_by n (simple_price n) refl r

some_price : (n : ℕ) (b : Bool) (e : simple_price n ≡ b) → is_some (price_by n b e) ≡ b
some_price n true e = refl
some_price n false e = refl

pub priced : (n : ℕ) → is_some (price_of n) ≡ simple_price n
unfolding price_of
priced n = some_price n (simple_price n) refl

no_price : (n : ℕ) (b : Bool) (e : simple_price n ≡ b) → b ≡ false → None ≡ price_by n b e
no_price n true e f = absurd (true≢false f)
no_price n false e f = refl

pub unpriced : (n : ℕ) → simple_price n ≡ false → None ≡ price_of n
unfolding price_of
unpriced n f = no_price n (simple_price n) refl f
