use Rattle.std.proofs.Common.{rules}
use Rattle.share.proofs.Turning.{award_on, award_end}
use Rattle.share.proofs.in_turn.award_in_turn.Goals as goal

pub loop-place-preserved : goal.loop-place-preserved
loop-place-preserved g c =
    let i = c.loop-place.invariant in
    (search rules, λ s f. award_on s _ _ _ _ _ _ (i.1 s f) c.loop-place-test.true c.loop-place.auto.given c.requires.room _ (f _ _ _ (search rules) i.0 c.step-award.ensures))

pub returns : goal.returns
returns g c = λ s f. award_end s _ _ _ _ _ _ (c.loop-place.invariant.1 s f) c.loop-place-test.false c.loop-place.auto.place-end
