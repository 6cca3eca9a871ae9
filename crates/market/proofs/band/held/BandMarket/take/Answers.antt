use Rattle.std.proofs.Common.{Err, sym, ap, ◌∙◌}
use Rattle.market.proofs.Banding.{band_outside}
use Rattle.market.specs.Bands.{banded}
use Rattle.market.specs.Meaning.{admission}
use Rattle.market.proofs.band.held.BandMarket.take.Goals as goal

pub returns-in-Some-clause-answer : goal.returns-in-Some-clause-answer
returns-in-Some-clause-answer g c =
    ap Err c.outside.ensures ∙ sym (ap admission (band_outside g.M.Market.top g.M.Market.fault g.M.Market.after g.M.Fault.Outside.outside_of (banded g.M.Market.model c.args.self.now) _ _ (sym c.in-Some.ensures.value)))
