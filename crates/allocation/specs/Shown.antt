-- Items and fills in true prices, and back as a buyer sees them: the same negation, for a seller.
use Rattle.terms.specs.declared.side.Side.{Side}
use Rattle.ranked.specs.declared.contra.ContraItem.{ContraItem}
use Rattle.ranked.specs.declared.fill.Fill.{Fill}
use Rattle.auction.specs.Orientation.{as_buyer}

abbrev pub shown_item : Side → ContraItem → ContraItem
shown_item side x = record {
  user = x.user;
  number = x.number;
  price = as_buyer side x.price;
  level = as_buyer side x.level;
  customer = x.customer;
  counted = x.counted;
}

abbrev pub shown_fill : Side → Fill → Fill
shown_fill side f =
    record { id = f.id; user = f.user; number = f.number; price = as_buyer side f.price; size = f.size }
