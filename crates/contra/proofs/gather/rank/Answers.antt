use Rattle.std.proofs.Common.{length, sym, ap, ◌∙◌, arith}
use Rattle.ranked.specs.Contras.{contra_before}
use Rattle.contra.specs.Named.{order_item, response_item}
use Rattle.contra.proofs.Gathering.{few_made, fits_made, made_length, rank_after, rank_count}
use Rattle.contra.proofs.gather.rank.Goals as goal

pub gather-requires-2 : goal.gather-requires-2
gather-requires-2 c =
    let size = ap length c.new-ranked.ensures.places in
    let empty = c.new-ranked.ensures.len in
    let grown = c.gather.ensures.len in
    let same = c.gather.ensures.size in
    omega (arith, size, empty, grown, same, made_length (order_item c.args.auction.now.row) c.args.orders.now)

pub returns-clause-value : goal.returns-clause-value
returns-clause-value c =
    let new = c.new-ranked.ensures in
    let one = c.gather.ensures in
    let two = c.gather-2.ensures in
    let a = c.args.auction.now.row in
    let fits = fits_made (order_item a) (response_item a) c.args.orders.now c.args.responses.now c.args.list.now c.requires in
    rank_count contra_before _ _ _ _ _ _ _ _ _ _ new.len new.places one.after one.len two.after two.len c.len.ensures fits

pub returns-clause-few : goal.returns-clause-few
returns-clause-few c =
    let a = c.args.auction.now.row in
    omega (arith, returns-clause-value c, few_made (order_item a) (response_item a) c.args.orders.now c.args.responses.now)

-- what was lent to the list holds at the end what the list does
pub returns-clause-after : goal.returns-clause-after
returns-clause-after c =
    let new = c.new-ranked.ensures in
    let one = c.gather.ensures in
    let two = c.gather-2.ensures in
    let a = c.args.auction.now.row in
    let fits = fits_made (order_item a) (response_item a) c.args.orders.now c.args.responses.now c.args.list.now c.requires in
    let back = c.list-1.given.1.1 (sym (two.owner ∙ (one.owner ∙ new.owner))) in
    back ∙ rank_after contra_before _ _ _ _ _ _ _ _ _ _ new.len new.places one.after one.len two.after two.len c.len.ensures fits
