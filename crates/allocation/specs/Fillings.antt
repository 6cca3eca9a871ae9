-- The fills of a settlement: at each level one for each item that is given contracts, in the order
-- filled, and then one for the Initiating Order. None has size 0.
use Rattle.std.specs.Prelude.{ℕ, cond, List, [], ◌∷◌, ◌++◌, ℤ, nat_lt}
use Rattle.std.specs.List.{flat_map}
use Rattle.ranked.specs.declared.contra.ContraItem.{ContraItem}
use Rattle.ranked.specs.declared.fill.Fill.{Fill}
use Rattle.allocation.specs.Deals.{Deal}
use Rattle.allocation.specs.Levels.{Level, levels_of}
use Rattle.allocation.specs.Parts.{Part}

-- a fill, unless its size is 0
abbrev pub unless_empty : Fill → List Fill
unless_empty f = cond (nat_lt 0 f.size) (f ∷ []) []

abbrev pub part_fill : Deal → Part → Fill
part_fill d p =
    record { id = d.id; user = p.item.user; number = p.item.number; price = p.item.level; size = p.given }

-- the Initiating Order's fill has the Initiating Member's user and number 0
abbrev pub own_fill : Deal → ℤ → ℕ → Fill
own_fill d price own = record { id = d.id; user = d.member; number = 0; price = price; size = own }

abbrev pub part_fills : Deal → List Part → List Fill
part_fills d parts = flat_map (λ p. unless_empty (part_fill d p)) parts

abbrev pub level_fills : Deal → Level → List Fill
level_fills d l = part_fills d l.parts ++ unless_empty (own_fill d l.price l.own)

abbrev pub fills_of : (List ℕ → ℕ → List ℕ) → Deal → List ContraItem → List Fill
fills_of awards d items = flat_map (level_fills d) (levels_of awards d items)
