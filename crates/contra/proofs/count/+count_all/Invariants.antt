use Rattle.std.proofs.Common.{length}
use Rattle.contra.proofs.count.+count_all.Given as goal

abbrev pub decreases-count_all : goal.decreases-count_all
decreases-count_all l = length l.items.now
