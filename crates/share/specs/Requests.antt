-- What may be shared, and how each other request is refused.
use Rattle.std.specs.Prelude.{ℕ, Bool, cond, ◌&&◌, List, length, nat_le}
use Rattle.std.specs.List.{list_all}
use Rattle.terms.specs.Refusals.{Said, answered, refused, row, nothing}

-- each size is 0 to 100,000
abbrev pub sizes_fit : List ℕ → Bool
sizes_fit sizes = list_all (λ size. nat_le size 100000) sizes

-- at most 128 sizes, all in range, and a quantity of 0 to 100,000
abbrev pub share_fits : List ℕ → ℕ → Bool
share_fits sizes q = nat_le (length sizes) 128 && (nat_le q 100000 && sizes_fit sizes)

-- what a call says whose award list has this many places
abbrev pub share_said : {F : Type 0} → List ℕ → ℕ → ℕ → Said (Unit {0}) F
share_said sizes q places =
    cond (share_fits sizes q)
    (cond (nat_le (length sizes) places) (answered tt) (refused (row 4 nothing)))
    (refused (row 3 nothing))
