use Rattle.std.proofs.Common.{◌++◌, length, drop, ap, ◌∙◌, rules}
use Rattle.share.proofs.Turning.{first_awarded, lesser}
use Rattle.share.proofs.first_come.fill.Goals as goal

pub returns : goal.returns
returns c =
    c.award_in_turn.ensures lesser (λ size left r h k e. search rules)
    ∙ ap (λ vs. vs ++ drop (length c.args.sizes.now) c.args.given.now) (first_awarded c.args.sizes.now c.args.q)
