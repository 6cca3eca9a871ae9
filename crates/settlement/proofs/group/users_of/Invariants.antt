use Rattle.std.proofs.Common.{◌≡◌, ◌≤◌, length, take}
use Rattle.settlement.specs.Groups.{users_in}
use Rattle.settlement.proofs.group.users_of.Given as goal

abbrev pub invariant-loop-i : goal.invariant-loop-i
invariant-loop-i l = (length l.users.items ≤ l.i) × (l.users.items ≡ users_in (take l.i l.items))
