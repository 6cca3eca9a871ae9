use Rattle.std.proofs.Common.{◌++◌, length, drop, ap, ◌∙◌, rules}
use Rattle.share.proofs.Turning.{dealt_awarded, part_and_more}
use Rattle.share.proofs.pro_rata.Short.deal.Goals as goal

pub returns : goal.returns
returns c =
    c.award_in_turn.ensures (part_and_more c.args.self.sum c.args.self.q) (λ size left r h k e. search rules)
    ∙ ap (λ vs. vs ++ drop (length c.args.sizes.now) c.args.given.now) (dealt_awarded c.args.self.sum c.args.self.q c.args.sizes.now c.args.over)
