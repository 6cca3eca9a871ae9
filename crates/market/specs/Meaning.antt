-- What every market means: where a notice leads, and what taking it answers.
use Rattle.std.specs.Prelude.{◌≡◌, ℕ, true, Some, None, Ok, Err, Option, Result}
use Rattle.terms.specs.declared.top.Top.{Top}
use Rattle.terms.specs.Ranges.{component, simple_price}

-- a top is there only for a component in range, at a price in range
abbrev pub Placed : ℕ → Option Top → Type 0
Placed c None = Unit {0}
Placed c (Some t) = (component c ≡ true) × (simple_price t.price.cents ≡ true)

abbrev pub led_by : {Mo F : Type 0} → Option F → Mo → Mo → Mo
led_by None m n = n
led_by (Some f) m n = m

-- where a notice leads: to what it leaves if it is admitted, else nowhere
abbrev pub led : {Mo N F : Type 0} → (Mo → N → Option F) → (Mo → N → Mo) → Mo → N → Mo
led fault after m n = led_by (fault m n) m (after m n)

abbrev pub admission : {F : Type 0} → Option F → Result (Unit {0}) F
admission None = Ok tt
admission (Some f) = Err f
