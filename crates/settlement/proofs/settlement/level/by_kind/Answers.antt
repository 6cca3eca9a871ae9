use Rattle.std.proofs.Common.{take, drop, sym, ap, ◌∙◌}
use Rattle.settlement.proofs.Ordering.{customers_front, others_behind}
use Rattle.settlement.proofs.settlement.level.by_kind.Goals as goal

pub returns-clause-customers : goal.returns-clause-customers
returns-clause-customers c =
    let here = c.args.here.now in
    c.split_at.ensures.front ∙ (ap (λ n. take n here) c.customers.ensures.value ∙ sym (customers_front here c.requires))

pub returns-clause-others : goal.returns-clause-others
returns-clause-others c =
    let here = c.args.here.now in
    c.split_at.ensures.back ∙ (ap (λ n. drop n here) c.customers.ensures.value ∙ sym (others_behind here c.requires))
