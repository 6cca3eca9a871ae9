use Rattle.std.specs.Prelude.{map}
use Rattle.terms.specs.Strategies.{legs_of}
use Rattle.terms.specs.Tables.{entries}
use Rattle.session.specs.States.{State}
use Rattle.session.specs.declared.state.Session.{Session}

-- a session as its abstract state, by its market's model
abbrev pub view : {M S Mo : Type 0} → (M → Mo) → Session M S → State Mo S
view model s = record {
  market = model s.market;
  rule = s.rule;
  phase = s.phase;
  strategies = map legs_of (entries s.strategies);
  auctions = s.auctions;
  orders = entries s.orders;
  responses = entries s.responses;
  halts = s.halts;
  clock = s.clock;
  next = s.next;
}
