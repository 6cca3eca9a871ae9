-- How fills rank.
use Rattle.std.specs.Prelude.{ℕ, Bool, ℤ, int_lt, nat_le, nat_lt}
use Rattle.ranked.specs.declared.fill.Fill.{Fill}
use Rattle.ranked.specs.Ranks.{first_by}

abbrev pub fill_rank : Fill → ℕ × ℤ × ℕ
fill_rank f = (f.user, f.price, f.number)

-- a lower user first; of one user the lower price, and at one price the lower number
abbrev pub fill_before : Fill → Fill → Bool
fill_before a b =
    first_by (nat_lt a.user b.user) (nat_lt b.user a.user)
    (first_by (int_lt a.price b.price) (int_lt b.price a.price)
    (nat_le a.number b.number))
