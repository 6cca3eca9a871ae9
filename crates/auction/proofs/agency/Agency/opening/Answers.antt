use Rattle.std.proofs.Common.{◌≡◌, ℤ, Err, Option, Result, rules, ◌∙◌}
use Rattle.terms.specs.declared.refusal.Clause.{Clause}
use Rattle.auction.proofs.Capping.{unfailed, failed_first, true_fits, opens, capped}
use Rattle.auction.proofs.agency.Agency.opening.Goals as goal

pub returns-in_err-met-clause-value : goal.returns-in_err-met-clause-value
returns-in_err-met-clause-value c =
    let e : ◌≡◌ {A = Result (Option ℤ) Clause} c.from_residual.result (Err c.in_err-met.field-0.0) = search rules in
    e ∙ failed_first _ _ _ c.in_err-met.ensures

pub true_price-requires : goal.true_price-requires
true_price-requires c =
    true_fits c.args.self c.args.quotes.bid c.args.quotes.best c.args.quotes.offer c.in-Some.cap (unfailed _ _ c.in_ok-met.ensures) c.in-Some.ensures.value (search rules) (search rules) c.in-Some.ensures.low

pub returns-in-Some : goal.returns-in-Some
returns-in-Some c = record {
  value = opens c.args.self c.args.quotes.bid c.args.quotes.best c.args.quotes.offer c.in-Some.cap (unfailed _ _ c.in_ok-met.ensures) c.in-Some.ensures.value c.true_price.result (search rules) (search rules) c.true_price.ensures;
  capped = capped c.args.self c.args.quotes.bid c.args.quotes.best c.args.quotes.offer c.in-Some.cap (unfailed _ _ c.in_ok-met.ensures) c.in-Some.ensures.value c.true_price.result (search rules) (search rules) c.true_price.ensures;
}
