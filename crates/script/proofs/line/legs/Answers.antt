use Rattle.std.proofs.Common.{rules, tests, not, sym, ◌∙◌, ap}
use Rattle.std.proofs.lemmas.Iterator.Consumers.{YieldsList-at, YieldsList-end, YieldsList-turn}
use Rattle.std.proofs.lemmas.Iterator.Splits.{YieldsList-from_slice_split}
use Rattle.script.specs.Legs.{each, no_comma}
use Rattle.script.proofs.Listing.{next_leg, no_leg, some_words}
use Rattle.script.proofs.line.legs.Goals as goal

pub returns : goal.returns
returns c =
    let seen = YieldsList-end
    (YieldsList-at c.into_iter-piece-iterator.ensures.into_iter_gives
    (YieldsList-from_slice_split _ (λ w. not (no_comma w)) c.args.words.now c.split-piece-items.ensures.rest c.split-piece-items.ensures.done c.split-piece-items.ensures.closure (λ x b q k. search (rules, tests))))
    c.loop-piece.yielded _ c.loop-piece.yielded_by _ _ c.in-None.is c.next.ensures.steps in
    sym c.loop-piece.invariant ∙ (ap each seen.0 ∙ sym (some_words _ c.if-is_empty.ensures))

pub loop-piece-preserved : goal.loop-piece-preserved
loop-piece-preserved c = next_leg c.loop-piece.yielded c.in-Some.piece _ _ _ _ c.one_leg.ensures c.in-Some-one_leg.is c.loop-piece.invariant c.in_ok-push.ensures.items

pub returns-in_default : goal.returns-in_default
returns-in_default c =
    let turn = YieldsList-turn
    (YieldsList-at c.into_iter-piece-iterator.ensures.into_iter_gives
    (YieldsList-from_slice_split _ (λ w. not (no_comma w)) c.args.words.now c.split-piece-items.ensures.rest c.split-piece-items.ensures.done c.split-piece-items.ensures.closure (λ x b q k. search (rules, tests))))
    c.loop-piece.yielded _ c.loop-piece.yielded_by _ _ c.in-Some.piece c.in-Some.is c.next.ensures.steps in
    no_leg _ _ c.in-Some.piece.now _ c.one_leg.ensures c.in_default.is turn ∙ sym (some_words _ c.if-is_empty.ensures)
