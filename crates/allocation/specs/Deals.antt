-- What settlement needs to know of an auction, as a buyer sees it.
use Rattle.std.specs.Prelude.{ℕ, Bool, ℤ, Option}
use Rattle.terms.specs.declared.auction.AuctionRow.{AuctionRow}
use Rattle.auction.specs.Records.{cap_at, last_priority, matches_at, stop_of}

pub record Deal : Type 0 where
  pub id : ℕ
  -- the Initiating Member
  pub member : ℕ
  pub size : ℕ
  pub stop : ℤ
  pub floor : Option ℤ
  -- the Initiating Order matches others at this level
  pub matched : ℤ → Bool
  pub last : Bool

abbrev pub deal_of : AuctionRow → Deal
deal_of a = record {
  id = a.id;
  member = a.user;
  size = a.size;
  stop = stop_of a;
  floor = cap_at a;
  matched = matches_at a;
  last = last_priority a.mode;
}
