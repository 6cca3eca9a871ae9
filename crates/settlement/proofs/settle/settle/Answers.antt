use Rattle.std.proofs.Common.{◌≤◌, w32, SFits, arith, rules}
use Rattle.std.proofs.lemmas.Bool.Decides.{nat_tests}
use Rattle.settlement.proofs.Closing.{close_filled, close_fits, close_law, close_most}
use Rattle.settlement.proofs.Sharing.{shares_by}
use Rattle.settlement.proofs.settle.settle.Goals as goal

pub fill_and_show-fills-requires-clause-fits : goal.fill_and_show-fills-requires-clause-fits
fill_and_show-fills-requires-clause-fits g c =
    let a = c.args.auction.now in
    let most : a.row.size ≤ 100000 = grind (arith, nat_tests, a.kept) in
    let e = c.in_ok-items.ensures in
    close_fits (g.S.ShareRule.awards c.args.rule.now) a.row a.kept _ _ c.args.contra.now _ _ e.answer e.after e.law most

pub fill_and_show-fills-requires-clause-most : goal.fill_and_show-fills-requires-clause-most
fill_and_show-fills-requires-clause-most g c =
    let laws = g.met.S.ShareRule in
    let shares = shares_by g.S.ShareRule.awards laws.each laws.within laws.spent c.args.rule.now in
    let a = c.args.auction.now in
    let e = c.in_ok-items.ensures in
    close_most (g.S.ShareRule.awards c.args.rule.now) a.row a.kept _ _ c.args.contra.now _ _ e.answer e.after e.law shares

pub fill_and_show-fills-requires-clause-filled : goal.fill_and_show-fills-requires-clause-filled
fill_and_show-fills-requires-clause-filled g c =
    let a = c.args.auction.now in
    let e = c.in_ok-items.ensures in
    let stop : SFits w32 a.row.stop = search rules in
    close_filled (g.S.ShareRule.awards c.args.rule.now) a.row a.kept _ _ c.args.contra.now _ _ e.answer e.after e.law e.turns stop

pub returns-clause-law : goal.returns-clause-law
returns-clause-law g c =
    let laws = g.met.S.ShareRule in
    let shares = shares_by g.S.ShareRule.awards laws.each laws.within laws.spent c.args.rule.now in
    let a = c.args.auction.now in
    let e = c.in_ok-items.ensures in
    let f = c.fill_and_show-fills.ensures in
    close_law (g.S.ShareRule.awards c.args.rule.now) a.row a.kept _ _ c.args.contra.now _ _ e.answer e.after e.law shares _ _ c.args.fills.now _ _ f.items f.count f.fills
