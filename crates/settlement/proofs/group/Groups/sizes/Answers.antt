use Rattle.std.proofs.Common.{◌∙◌, get_or}
use Rattle.settlement.proofs.Grouping.{group_room, sizes_all, sizes_on}
use Rattle.settlement.proofs.group.Groups.sizes.Goals as goal

pub size-requires : goal.size-requires
size-requires c = group_room c.args.self.now.others.now c.requires (get_or c.deref-user-items.result.now c.loop-user.user-index _)

pub loop-user-preserved : goal.loop-user-preserved
loop-user-preserved c = c.push.ensures.items ∙ sizes_on _ _ _ c.deref-user-items.ensures.0 _ _ _ _ c.loop-user.invariant c.loop-user-test.true c.size.ensures

pub returns : goal.returns
returns c = sizes_all _ _ _ c.deref-user-items.ensures.0 c.args.self.now.led _ _ c.loop-user.invariant c.loop-user-test.false
