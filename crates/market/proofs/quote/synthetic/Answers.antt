use Rattle.std.proofs.Common.{◌∙◌, arith}
use Rattle.terms.specs.declared.leg.Leg.{Leg}
use Rattle.terms.specs.declared.side.Side.TheVariants.{Buy}
use Rattle.terms.specs.Legs.{reads}
use Rattle.market.proofs.Quoting.{gathered}
use Rattle.market.proofs.quote.synthetic.Goals as goal

pub loop-leg-preserved : goal.loop-leg-preserved
loop-leg-preserved g c = record {
  same = c.tell.ensures.same ∙ c.loop-leg.invariant.same;
  few = c.loop-leg.invariant.few;
  many = omega arith;
  told = c.push.ensures.items ∙ gathered
      (λ (l : Leg). g.M.Market.top (g.M.Market.model c.args.market.now) l.component (reads c.args.quote l))
      c.legs-leg-items.result.now c.loop-leg.tops.items c.loop-leg.leg-index (record { component = 0; side = Buy; ratio = 0 }) c.tell.result c.loop-leg.invariant.told c.loop-leg-test.true
      cc;
}
