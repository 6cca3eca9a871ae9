-- Which numbers each quantity of a session may have.
use Rattle.std.specs.Prelude.{ℕ, Bool, ◌&&◌, ℤ, pos, negsuc, int_le, nat_le}

-- from low to high, both included
abbrev pub between : ℕ → ℕ → ℕ → Bool
between low high n = nat_le low n && nat_le n high

abbrev pub simple_price : ℕ → Bool
simple_price n = between 1 999999 n

abbrev pub component : ℕ → Bool
component n = between 1 16 n

abbrev pub ratio : ℕ → Bool
ratio n = between 1 8 n

abbrev pub leg_count : ℕ → Bool
leg_count n = between 2 4 n

abbrev pub period : ℕ → Bool
period n = between 100 1000 n

abbrev pub number : ℕ → Bool
number n = between 1 999999 n

abbrev pub complex_price : ℤ → Bool
complex_price z = int_le (negsuc 31999999) z && int_le z (pos 32000000)
