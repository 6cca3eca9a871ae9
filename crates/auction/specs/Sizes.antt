-- Small auctions, and what an Initiating Order is guaranteed.
use Rattle.std.specs.Prelude.{ℕ, ◌*◌, ◌/◌, min, max, Bool, cond, List, [], ◌∷◌, ◌==◌, nat_lt}
use Rattle.terms.specs.declared.leg.Leg.{Leg}

-- the smallest ratio of the legs; one not above 8, for a ratio never is
abbrev pub smallest_ratio : List Leg → ℕ
smallest_ratio [] = 8
smallest_ratio (l ∷ ls) = min l.ratio (smallest_ratio ls)

-- an auction so small that no other may be in its strategy: size times smallest ratio under 50
abbrev pub small : ℕ → List Leg → Bool
small size legs = nat_lt (size * smallest_ratio legs) 50

-- the greater of 1 and half of what remains for one group, or two fifths for more, rounded down
abbrev pub entitled : ℕ → ℕ → ℕ
entitled left groups = max 1 (cond (groups == 1) (left / 2) (2 * left / 5))

-- what the Initiating Order is guaranteed at the stop, where so many contracts remain after
-- customers and so many groups are there
abbrev pub guarantee_of : Bool → ℕ → ℕ → ℕ
guarantee_of last left groups =
    cond last 0 (cond (left == 0) 0 (cond (groups == 0) left (entitled left groups)))
