use Rattle.std.proofs.Common.{◌∷◌, ap, ◌∙◌, arith, sym}
use Rattle.std.proofs.lemmas.Int.{ints}
use Rattle.terms.proofs.Summing.{short_tops, absent_top, few_legs, fit_all, summed_valued}
use Rattle.terms.specs.Synthetics.{nought, shown, summed, valued}
use Rattle.terms.proofs.strategy.Strategy.synthetic.Goals as goal

pub loop-leg-init : goal.loop-leg-init
loop-leg-init c = record {
  sum = ap (summed nought c.legs-leg-items.result.now) c.iter-left.ensures.rest ∙ summed_valued c.legs-leg-items.result.now c.args.tops.now;
  fit = fit_all c.legs-leg-items.result.now c.legs-leg-items.ensures.ok;
  few = few_legs c.legs-leg-items.result.now c.legs-leg-items.ensures.ok;
  bound = (omega (arith, ints), omega (arith, ints));
}

pub returns-in_err-next-clause-value : goal.returns-in_err-next-clause-value
returns-in_err-next-clause-value c =
    c.from_residual.ensures ∙ (short_tops _ _ _ _ _ c.loop-leg.invariant.sum c.loop-leg-test.true c.in_err-next.ensures.steps.0
    ∙ ap (λ ls. valued ls (shown ls c.args.tops.now)) c.legs-leg-items.ensures.value)

pub returns-in_err-top-clause-value : goal.returns-in_err-top-clause-value
returns-in_err-top-clause-value c =
    c.from_residual-in_err-top.ensures ∙ (absent_top _ _ _ _ _ c.loop-leg.invariant.sum _ c.loop-leg-test.true (c.in_ok-next.ensures.steps ∙ ap (λ o. o ∷ c.next.new.self.rest.now) (sym c.in_err-top.ensures.value))
    ∙ ap (λ ls. valued ls (shown ls c.args.tops.now)) c.legs-leg-items.ensures.value)
