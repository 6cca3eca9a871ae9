-- How the items of a contra side rank.
use Rattle.std.specs.Prelude.{ℕ, ◌-◌, Bool, not, ◌&&◌, ℤ, int_lt, nat_le}
use Rattle.std.specs.declared.cmp.Reverse.{Reverse}
use Rattle.ranked.specs.declared.contra.ContraItem.{ContraItem}
use Rattle.ranked.specs.Ranks.{first_by}

abbrev pub contra_rank : ContraItem → ℤ × Reverse Bool × ℕ
contra_rank i = (i.level, record { 0 = i.customer }, i.number)

-- a lower level first; of one level a customer's first, and then the lower number
abbrev pub contra_before : ContraItem → ContraItem → Bool
contra_before a b =
    first_by (int_lt a.level b.level) (int_lt b.level a.level)
    (first_by (a.customer && not b.customer) (b.customer && not a.customer)
    (nat_le a.number b.number))

-- an item of whose counted contracts so many were taken
abbrev pub contra_reduced : ContraItem → ℕ → ContraItem
contra_reduced i k =
    record { user = i.user; number = i.number; price = i.price; level = i.level; customer = i.customer; counted = i.counted - k }
