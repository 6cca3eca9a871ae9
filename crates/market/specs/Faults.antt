use Rattle.std.specs.Prelude.{ℕ}
use Rattle.market.specs.declared.fault.Cause.{Cause}
use Rattle.market.specs.declared.fault.Fault.{Fault}
use Rattle.market.specs.declared.fault.Cause.TheVariants.{OutOfRange, BookFull, OrderNumber, OutsideBand}

abbrev pub cause_number : Cause → ℕ
cause_number OutOfRange = 1
cause_number BookFull = 2
cause_number OrderNumber = 3
cause_number OutsideBand = 4

abbrev pub fault_at : ℕ → Cause → Fault
fault_at c k = record { component = c; cause = k }

abbrev pub outside_band : ℕ → Fault
outside_band c = fault_at c OutsideBand
