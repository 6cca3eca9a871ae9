use Rattle.std.proofs.Common.{arith}
use Rattle.std.proofs.lemmas.Bool.Decides.{nat_tests}
use Rattle.terms.proofs.Pricing.{price_is, unpriced}
use Rattle.terms.proofs.price.Price.new.Goals as goal

pub returns-then-contains : goal.returns-then-contains
returns-then-contains c = price_is _ _

pub returns-else-contains : goal.returns-else-contains
returns-else-contains c = unpriced _ (grind (arith, nat_tests))
