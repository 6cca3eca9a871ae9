use Rattle.std.specs.Prelude.{ℕ, List, vec_items}
use Rattle.terms.specs.declared.table.Table.{Table}

-- a table is its entries, in the order in which they came
abbrev pub entries : {T : Type 0} {n : ℕ} → Table T n → List T
entries t = vec_items t.items
