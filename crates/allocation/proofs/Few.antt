-- A settlement has few fills: one for each item and each level, and one for the stop.
use Rattle.std.proofs.Common.{ℕ, ◌+◌, ◌-◌, ◌*◌, ◌≤◌, List, [], length, arith}
use Rattle.ranked.specs.declared.contra.ContraItem.{ContraItem}
use Rattle.ranked.specs.declared.fill.Fill.{Fill}
use Rattle.allocation.specs.Deals.{Deal}
use Rattle.allocation.specs.Fillings.{fills_of, level_fills, own_fill, part_fill, part_fills, unless_empty}
use Rattle.allocation.specs.Levels.{Level, beginnings, guarantee_in, items_at, levels_of, matched_in}
use Rattle.allocation.specs.Parts.{total}
use Rattle.allocation.proofs.Giving.{parts_items}
use Rattle.allocation.proofs.Sums.{one, total_append, total_joined, total_most, total_one, total_sum}
use Rattle.allocation.proofs.Working.{beginnings_few, below_at, levels_le, levels_most, stop_at}

one_few : (f : Fill) → total one (unless_empty f) ≤ 1
unfolding total
one_few f = grind arith

level_few : (d : Deal) (l : Level) → total one (level_fills d l) ≤ total one l.parts + 1
level_few d l =
    omega
    (arith, total_append one (part_fills d l.parts) (unless_empty (own_fill d l.price l.own)), one_few (own_fill d l.price l.own), total_joined one (λ p. unless_empty (part_fill d p)) l.parts, total_most (λ p. total one (unless_empty (part_fill d p))) one (λ p. one_few (part_fill d p)) l.parts)

pub few : (awards : List ℕ → ℕ → List ℕ) (d : Deal) (items : List ContraItem) → length (fills_of awards d items) ≤ 2 * length items + 1
few awards d items =
    let at : ContraItem → ℕ = λ b. total one (items_at b.level items) in
    let bs : List ContraItem = beginnings d [] items in
    let end : ℕ = total one (items_at d.stop items) in
    let below : (b : ContraItem) (left : ℕ) → total one (level_fills d (below_at awards d items b left)) ≤ at b + 1 =
    λ b left. omega (arith, level_few d (below_at awards d items b left), parts_items one awards (items_at b.level items) (left - matched_in (d.matched b.level) (items_at b.level items) left) 0) in
    let stop : (left : ℕ) → total one (level_fills d (stop_at awards d items left)) ≤ end + 1 =
    λ left. omega (arith, level_few d (stop_at awards d items left), parts_items one awards (items_at d.stop items) left (guarantee_in d (items_at d.stop items) left)) in
    omega
    (arith, total_one (fills_of awards d items), total_joined one (level_fills d) (levels_of awards d items), levels_le awards d items (λ l. total one (level_fills d l)) (λ b. at b + 1) (end + 1) below stop bs d.size, total_sum at one bs, levels_most d items one, beginnings_few d items, total_one items)
