-- That items are in rank order is one fact, so that a settlement may hold it.
use Rattle.std.specs.Prelude.{◌≡◌, Bool, true, List, [], ◌∷◌}
use Rattle.std.specs.Coded.{×_prop, Unit-prop, Coded-set, coded_bool}
use Rattle.std.specs.List.{AllByRecursion}
use Rattle.ranked.specs.Ranks.{InOrder}

AllTrue-prop : {X : Type 0} (p : X → Bool) (xs : List X) → IsProp (AllByRecursion (λ x. p x ≡ true) xs)
AllTrue-prop p [] = Unit-prop
AllTrue-prop p (x ∷ xs) = ×_prop (Coded-set coded_bool (p x) true) (AllTrue-prop p xs)

pub InOrder-prop : {X : Type 0} (before : X → X → Bool) (xs : List X) → IsProp (InOrder before xs)
InOrder-prop before [] = Unit-prop
InOrder-prop before (x ∷ xs) = ×_prop (AllTrue-prop (before x) xs) (InOrder-prop before xs)
