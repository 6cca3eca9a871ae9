-- The abstract state of a session: what its calls depend on, and all that they may change.
use Rattle.std.specs.Prelude.{◌≡◌, ℕ, false, List, [], replicate, None, Option}
use Rattle.terms.specs.declared.auction.AuctionRow.{AuctionRow}
use Rattle.terms.specs.declared.leg.Leg.{Leg}
use Rattle.terms.specs.declared.order.Order.{Order}
use Rattle.terms.specs.declared.order.Response.{Response}
use Rattle.session.specs.declared.state.Halts.{Halts}
use Rattle.session.specs.declared.state.Phase.{Phase}
use Rattle.session.specs.declared.state.Phase.TheVariants.{Listing}

-- Mo is the market's model, S the share rule
pub record State (Mo S : Type 0) : Type 0 where
  pub market : Mo
  pub rule : S
  pub phase : Phase
  pub strategies : List (List Leg)
  pub auctions : List (Option AuctionRow)
  pub orders : List Order
  pub responses : List Response
  pub halts : Halts
  pub clock : ℕ
  pub next : ℕ

unfoldable pub free_rows : List (Option AuctionRow)
free_rows = replicate 8 None

unfoldable pub no_halts : Halts
no_halts = record { strategies = replicate 8 false; components = replicate 16 false }

-- a new session's state: nothing is listed, accepted or halted
pub record Fresh {Mo S : Type 0} (m : Mo) (r : S) (s : State Mo S) : Type 0 where
  pub market : s.market ≡ m
  pub rule : s.rule ≡ r
  pub phase : s.phase ≡ Listing
  pub strategies : s.strategies ≡ []
  pub auctions : s.auctions ≡ free_rows
  pub orders : s.orders ≡ []
  pub responses : s.responses ≡ []
  pub halts : s.halts ≡ no_halts
  pub clock : s.clock ≡ 0
  pub next : s.next ≡ 1

abbrev pub with_market : {Mo S : Type 0} → State Mo S → Mo → State Mo S
with_market s m = record {
  market = m;
  rule = s.rule;
  phase = s.phase;
  strategies = s.strategies;
  auctions = s.auctions;
  orders = s.orders;
  responses = s.responses;
  halts = s.halts;
  clock = s.clock;
  next = s.next;
}

abbrev pub with_phase : {Mo S : Type 0} → State Mo S → Phase → State Mo S
with_phase s p = record {
  market = s.market;
  rule = s.rule;
  phase = p;
  strategies = s.strategies;
  auctions = s.auctions;
  orders = s.orders;
  responses = s.responses;
  halts = s.halts;
  clock = s.clock;
  next = s.next;
}

abbrev pub with_strategies : {Mo S : Type 0} → State Mo S → List (List Leg) → State Mo S
with_strategies s l = record {
  market = s.market;
  rule = s.rule;
  phase = s.phase;
  strategies = l;
  auctions = s.auctions;
  orders = s.orders;
  responses = s.responses;
  halts = s.halts;
  clock = s.clock;
  next = s.next;
}
