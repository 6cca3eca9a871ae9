-- Pro rata: each size is given its part of the quantity, rounded down, and then one more each in rank order.
use Rattle.std.specs.Prelude.{ℕ, ◌+◌, ◌-◌, ◌*◌, ◌/◌, min, cond, List, [], ◌∷◌, ◌==◌, nat_le}
use Rattle.share.specs.Awards.{total}

-- a size's part of a quantity below the sum of the sizes
abbrev pub part : ℕ → ℕ → ℕ → ℕ
part sum q size = size * q / sum

unfoldable pub parts : ℕ → ℕ → List ℕ → List ℕ
parts sum q [] = []
parts sum q (size ∷ sizes) = part sum q size ∷ parts sum q sizes

-- one of what is left over, if the size is above 0
abbrev pub one_more : ℕ → ℕ → ℕ
one_more size left = cond (size == 0) 0 (min 1 left)

-- the parts, with what is left over given one each in rank order
unfoldable pub dealt : ℕ → ℕ → ℕ → List ℕ → List ℕ
dealt sum q left [] = []
dealt sum q left (size ∷ sizes) =
    (part sum q size + one_more size left) ∷ dealt sum q (left - one_more size left) sizes

-- each is given its whole size when the quantity covers the sum
unfoldable pub pro_rata : List ℕ → ℕ → List ℕ
pro_rata sizes q =
    cond (nat_le (total sizes) q) sizes (dealt (total sizes) q (q - total (parts (total sizes) q sizes)) sizes)
