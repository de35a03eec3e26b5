use Rattle.std.proofs.Common.{◌≡◌, ℕ, ◌<◌, false, length}
use Rattle.page_action.specs.States.{Continues}
use Rattle.session_calls.specs.Slots.{has_call}
use Rattle.world.specs.Worlds.{ForEachWorldHistory, OnlyLetsGo, WorldStillFits}
use Rattle.world.proofs.world.World.end_calls.Given as goal

abbrev pub invariant-loop-session : goal.invariant-loop-session
invariant-loop-session g l =
    let store = g.S.PageStore in
    record {
      steps : Continues store.follows l.fn.self.store l.self.store;
      sessions : length l.self.calls.slots.items ≡ length l.fn.self.calls.slots.items;
      over : (session : ℕ) → session < l.session → has_call l.self.calls.slots.items session ≡ false;
      same : ((session : ℕ) → has_call l.fn.self.calls.slots.items session ≡ false) → l.self ≡ l.fn.self;
      backing : store.backing l.self.store ≡ store.backing l.fn.self.store;
      kept : OnlyLetsGo (store.state l.fn.self.store) (store.state l.self.store);
      fits : ForEachWorldHistory store g.T.DeadRows l.fn.self l.self (WorldStillFits store g.T.DeadRows l.self);
    }
