-- Fills that are added behind those that were written.
use Rattle.std.specs.Prelude.{◌≡◌, ◌+◌, ◌-◌, ◌≤◌, List, ◌++◌, length}
use Rattle.ranked.specs.declared.fill.Fill.{Fill}
use Rattle.allocation.specs.Deals.{Deal}
use Rattle.allocation.specs.Fillings.{level_fills, part_fills}
use Rattle.allocation.specs.Levels.{Level, spent_at}
use Rattle.allocation.specs.Parts.{Part, given_in, total}
use Rattle.settlement.specs.declared.filling.Filling.{Filling}

-- the new fills have room behind the old ones
abbrev pub HasRoom : List Fill → List Fill → Type 0
HasRoom new old = length old + length new ≤ 257

-- items were given their parts
pub record Given (d : Deal) (parts : List Part) (old now : Filling) : Type 0 where
  pub left : now.left ≡ old.left - total given_in parts
  pub after : now.fills.items ≡ old.fills.items ++ part_fills d parts

-- a level was worked
pub record Worked (d : Deal) (l : Level) (old now : Filling) : Type 0 where
  pub left : now.left ≡ old.left - spent_at l
  pub after : now.fills.items ≡ old.fills.items ++ level_fills d l
