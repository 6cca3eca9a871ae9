use Rattle.std.proofs.Common.{◌≡◌, map, take}
use Rattle.settlement.proofs.Grouping.{size_of}
use Rattle.settlement.proofs.group.Groups.sizes.Given as goal

abbrev pub invariant-loop-user : goal.invariant-loop-user
invariant-loop-user l = l.sizes.items ≡ map (size_of l.self.others.now) (take l.user-index l.self.users.items)
