-- The table of refusals: each case's number, and what is told beside it.
use Rattle.std.specs.Prelude.{ℕ, Ok, Err, Result}
use Rattle.terms.specs.declared.refusal.Clause.{Clause}
use Rattle.terms.specs.declared.refusal.Clause.TheVariants.{Bid, Orders, Offer}
use Rattle.terms.specs.declared.refusal.Refusal.{Refusal}
use Rattle.terms.specs.declared.refusal.Refusal.TheVariants.{Phase, Due, Range, Full, NotAdmitted, Halted, Concurrent, Stop, Crosses, NoAuction, Nothing, Earlier}

abbrev pub clause_number : Clause → ℕ
clause_number Bid = 1
clause_number Orders = 2
clause_number Offer = 3

-- what is told beside a refusal's number: nothing, a count of auctions due, the market's
-- fault whole, or the first clause failed
pub data Beside (F : Type 0) : Type 0 where
  nothing : Beside F
  due : ℕ → Beside F
  fault : F → Beside F
  clause : ℕ → Beside F

pub record Told (F : Type 0) : Type 0 where
  pub number : ℕ
  pub beside : Beside F

abbrev pub row : {F : Type 0} → ℕ → Beside F → Told F
row n b = record { number = n; beside = b }

-- each case with its number and its values
abbrev pub told : {F : Type 0} → Refusal F → Told F
told Phase = row 1 nothing
told (Due n) = row 2 (due n)
told Range = row 3 nothing
told Full = row 4 nothing
told (NotAdmitted f) = row 5 (fault f)
told Halted = row 6 nothing
told Concurrent = row 7 nothing
told (Stop k) = row 8 (clause (clause_number k))
told Crosses = row 9 nothing
told NoAuction = row 10 nothing
told Nothing = row 11 nothing
told Earlier = row 12 nothing

abbrev pub number_of : {F : Type 0} → Refusal F → ℕ
number_of r = (told r).number

-- what a call says: its answer, or a refusal by its row
pub data Said (A F : Type 0) : Type 0 where
  answered : A → Said A F
  refused : Told F → Said A F

abbrev pub said : {A F : Type 0} → Result A (Refusal F) → Said A F
said (Ok a) = answered a
said (Err e) = refused (told e)
