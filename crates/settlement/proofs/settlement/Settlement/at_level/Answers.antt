use Rattle.std.proofs.Common.{sym, refl, ap, ◌∙◌, subst, w32, SFits, to_z, of_z, rules}
use Rattle.std.proofs.lemmas.Int.{to_z-of_z}
use Rattle.allocation.specs.Levels.{items_at}
use Rattle.settlement.specs.Groups.{CustomersFirst}
use Rattle.settlement.proofs.Ordering.{customers_lead, level_is}
use Rattle.settlement.proofs.settlement.Settlement.at_level.Goals as goal

pub returns-clause-here : goal.returns-clause-here
returns-clause-here g c =
    let sized : SFits w32 c.args.level = search rules in
    let s = c.args.self.now in
    level_is (to_z w32 (of_z w32 c.args.level)) s.items.now s.order c.lower.result c.level_len.result _ refl c.lower.ensures.value c.level_len.ensures.value
    ∙ ap (λ z. items_at z s.items.now) (to_z-of_z w32 c.args.level sized)

pub returns-clause-customers : goal.returns-clause-customers
returns-clause-customers g c =
    subst CustomersFirst (sym (returns-clause-here g c)) (customers_lead c.args.level c.args.self.now.items.now c.args.self.now.order)
