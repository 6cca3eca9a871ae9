use Rattle.std.proofs.Common.{◌≡◌, ◌-◌, fold, ◌∙◌, rules}
use Rattle.contra.specs.Counting.{brings}
use Rattle.contra.proofs.Counting.{room_left}
use Rattle.contra.proofs.count.room_behind.Goals as goal

pub returns : goal.returns
returns c =
    let e : c.fold.result ≡ fold (λ room other. room - brings c.args.item.now other) c.args.size c.args.earlier.now = search rules in
    e ∙ room_left (brings c.args.item.now) c.args.earlier.now c.args.size
