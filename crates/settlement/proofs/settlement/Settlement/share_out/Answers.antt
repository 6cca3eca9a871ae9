use Rattle.std.proofs.Common.{◌≤◌, refl, arith}
use Rattle.allocation.specs.Deals.{deal_of}
use Rattle.settlement.proofs.Sharing.{award_most, share_given, share_room, shares_by}
use Rattle.settlement.proofs.settlement.Settlement.share_out.Goals as goal

pub deal-requires-clause-enough : goal.deal-requires-clause-enough
deal-requires-clause-enough g c =
    let awards = g.S.ShareRule.awards c.args.self.now.rule.now in
    let laws = g.met.S.ShareRule in
    let shares = shares_by g.S.ShareRule.awards laws.each laws.within laws.spent c.args.self.now.rule.now in
    let most : c.args.q ≤ 100000 = (let m = c.args.filling.now.most in omega (arith, c.requires.enough)) in
    let e = c.share-shared.ensures in
    omega (arith, award_most awards shares c.args.groups.now.others.now c.requires.fits c.args.q most c.sizes-sizes.result.items c.deref.result.now c.sizes-sizes.ensures c.deref.ensures.0 c.deref.ensures.1 _ c.share-shared.new.given refl _ e.answer e.after c.len.result c.len.ensures.value, c.requires.enough)

pub deal-requires-clause-room : goal.deal-requires-clause-room
deal-requires-clause-room g c =
    let awards = g.S.ShareRule.awards c.args.self.now.rule.now in
    let laws = g.met.S.ShareRule in
    let shares = shares_by g.S.ShareRule.awards laws.each laws.within laws.spent c.args.self.now.rule.now in
    let most : c.args.q ≤ 100000 = (let m = c.args.filling.now.most in omega (arith, c.requires.enough)) in
    let e = c.share-shared.ensures in
    share_room awards shares c.args.groups.now.others.now c.requires.fits c.args.q most c.sizes-sizes.result.items c.deref.result.now c.sizes-sizes.ensures c.deref.ensures.0 c.deref.ensures.1 _ c.share-shared.new.given refl _ e.answer e.after c.len.result c.len.ensures.value _ c.args.groups.now.led (deal_of c.args.self.now.auction.now.row) _ c.requires.room

pub returns : goal.returns
returns g c =
    let awards = g.S.ShareRule.awards c.args.self.now.rule.now in
    let laws = g.met.S.ShareRule in
    let shares = shares_by g.S.ShareRule.awards laws.each laws.within laws.spent c.args.self.now.rule.now in
    let most : c.args.q ≤ 100000 = (let m = c.args.filling.now.most in omega (arith, c.requires.enough)) in
    let e = c.share-shared.ensures in
    let s = share_given awards shares c.args.groups.now.others.now c.requires.fits c.args.q most c.sizes-sizes.result.items c.deref.result.now c.sizes-sizes.ensures c.deref.ensures.0 c.deref.ensures.1 _ c.share-shared.new.given refl _ e.answer e.after c.len.result c.len.ensures.value _ c.args.groups.now.led (deal_of c.args.self.now.auction.now.row) _ _ c.deal.ensures in
    record { given = s.0; most = s.1 }
