-- The sizes that fit: how large their sum is.
use Rattle.std.proofs.Common.{◌≡◌, ℕ, ◌*◌, ◌^◌, ◌<◌, ◌≤◌, true, ◌&&◌, leb, List, [], ◌∷◌, length, sum, arith}
use Rattle.std.proofs.lemmas.List.Sums.{sum_by-cons}
use Rattle.std.proofs.lemmas.Bool.{and_parts, leb-true}
use Rattle.share.specs.Requests.{sizes_fit, share_fits}

sum_fit : (xs : List ℕ) → sizes_fit xs ≡ true → sum xs ≤ length xs * 100000
sum_fit [] e = omega arith
sum_fit (x ∷ xs) e =
    let both : (leb x 100000 ≡ true) × (sizes_fit xs ≡ true) = and_parts (leb x 100000) (sizes_fit xs) e in
    omega (arith, leb-true x 100000 both.0, sum_by-cons (λ n. n) x xs, sum_fit xs both.1)

-- the sum of the sizes of a request in range, at most 128 × 100,000, fits 32 bits
pub sum_few : (xs : List ℕ) (q : ℕ) → share_fits xs q ≡ true → sum xs < 2 ^ 32
sum_few xs q e =
    let few : (leb (length xs) 128 ≡ true) × ((leb q 100000 && sizes_fit xs) ≡ true) =
    and_parts (leb (length xs) 128) (leb q 100000 && sizes_fit xs) e in
    let fit : (leb q 100000 ≡ true) × (sizes_fit xs ≡ true) = and_parts (leb q 100000) (sizes_fit xs) few.1 in
    omega (arith, leb-true (length xs) 128 few.0, sum_fit xs fit.1)
