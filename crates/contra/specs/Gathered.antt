-- Records put one after the other into an ordered list over given places.
use Rattle.std.specs.Prelude.{ℕ, ◌+◌, Bool, List, ◌++◌, length, take, drop, fold}
use Rattle.ranked.specs.Ranks.{placed}

-- all places, where the first `len` are the list; those behind it keep what they held
unfoldable pub gathered : {X : Type 0} → (X → X → Bool) → List X → ℕ → List X → List X
gathered before places len given = fold (placed before) (take len places) given ++ drop (len + length given) places
