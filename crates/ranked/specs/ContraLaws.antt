-- The laws of the rank of contra items.
use Rattle.std.specs.Prelude.{◌≡◌, ℕ, Bool, true, ◌||◌, ℤ}
use Rattle.std.specs.Cmp.{IsTotalOrder, bool_cmp_total}
use Rattle.std.specs.Ordering.{bool_cmp, int_cmp, is_le, nat_cmp, ordering_then}
use Rattle.std.specs.declared.cmp.Reverse.{Reverse}
use Rattle.std.specs.declared.cmp.Ordering.{Ordering}
use Rattle.std.proofs.lemmas.Cmp.{back_total, int_cmp_total, nat_cmp_total, on_total, then_total}
use Rattle.ranked.specs.Comparisons.{compared, passed}
use Rattle.ranked.specs.Contras.{contra_before, contra_rank}
use Rattle.ranked.specs.Fields.{by_level}
use Rattle.ranked.specs.declared.contra.ContraItem.{ContraItem}

-- as tuples compare
abbrev rank_cmp : ℤ × Reverse Bool × ℕ → ℤ × Reverse Bool × ℕ → Ordering
rank_cmp r s = ordering_then (ordering_then (int_cmp r.0 s.0) (bool_cmp s.1.0 r.1.0)) (nat_cmp r.2 s.2)

rank_total : IsTotalOrder rank_cmp
rank_total =
    then_total
    (then_total (on_total (λ (r : ℤ × Reverse Bool × ℕ). r.0) int_cmp_total) (on_total (λ (r : ℤ × Reverse Bool × ℕ). r.1.0) (back_total bool_cmp_total)))
    (on_total (λ (r : ℤ × Reverse Bool × ℕ). r.2) nat_cmp_total)

pub contra_compares : (x y : ContraItem) → contra_before x y ≡ is_le (rank_cmp (contra_rank x) (contra_rank y))
contra_compares x y = by_level x.level y.level x.customer y.customer x.number y.number

pub contra_compared : (x y : ContraItem) → (contra_before x y || contra_before y x) ≡ true
contra_compared = compared rank_total contra_rank contra_before contra_compares

pub contra_passed : (x y z : ContraItem) → contra_before x y ≡ true → contra_before y z ≡ true → contra_before x z ≡ true
contra_passed = passed rank_total contra_rank contra_before contra_compares
