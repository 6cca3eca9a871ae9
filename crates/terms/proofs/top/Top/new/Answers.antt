use Rattle.std.proofs.Common.{rules}
use Rattle.terms.specs.Tops.{top_of}
use Rattle.terms.proofs.top.Top.new.Goals as goal

pub returns-in_err-price : goal.returns-in_err-price
unfolding top_of
returns-in_err-price c = search rules

pub returns : goal.returns
unfolding top_of
returns c = search rules
