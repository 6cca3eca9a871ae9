use Rattle.std.proofs.Common.{length, sym, ap, ◌∙◌, arith}
use Rattle.settlement.proofs.Picking.{no_users, user_found, user_known}
use Rattle.settlement.proofs.group.users_of.Goals.{then-not-has_user, else-not-has_user}
use Rattle.settlement.proofs.group.users_of.Goals as goal

pub loop-i-init : goal.loop-i-init
loop-i-init c = (omega (arith, ap length c.new-users.ensures), c.new-users.ensures ∙ sym no_users)

pub loop-i-preserved : goal.loop-i-preserved
loop-i-preserved c =
    let v = c.loop-i.invariant in
    elim c.if-not-has_user.branch [
      | then-not-has_user w ↦ (
        omega (arith, ap (λ l. length l.items) w.users-is, w.push.ensures.len, v.0),
        ap (λ l. l.items) w.users-is ∙ (w.push.ensures.items ∙ user_found c.args.items.now _ _ v.1 _ c.loop-i-test.true _ c.has_user.ensures (sym w.if-not-has_user.true)),
      )
      | else-not-has_user w ↦ (
        omega (arith, ap (λ l. length l.items) w.users-is, v.0),
        ap (λ l. l.items) w.users-is ∙ user_known c.args.items.now _ _ v.1 _ c.loop-i-test.true _ c.has_user.ensures (sym w.if-not-has_user.false),
      )
    ]
