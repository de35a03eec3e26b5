use Rattle.std.proofs.Common.{ℕ, refl, sym, subst, ◌∙◌, arith}
use Rattle.buffer_pool.proofs.Noting.{pages_both}
use Rattle.page_store.proofs.Imports.{HasSamePages, Pool, IsSameButWritten, IsWrittenNext, AreWrittenAhead}
use Rattle.page_store.proofs.Evicting.{goes_none, goes_next, ahead_of}
use Rattle.page_store.proofs.Quieting.{quiet_same, quiet_both}
use Rattle.page_store.proofs.logged_pages.LoggedPages.write_ahead.Given.{Over}
use Rattle.page_store.proofs.logged_pages.LoggedPages.write_ahead.Goals.{After-write_next}
use Rattle.page_store.proofs.logged_pages.LoggedPages.write_ahead.Goals as goal

-- one more page was written or not
tried : (g : Over) (c : After-write_next g) → IsSameButWritten g.D.Device c.args.self.now c.write_next.new.self
tried g c = quiet_both g.D.Device c.args.self.now c.loop-count.self c.write_next.new.self c.loop-count.invariant.quiet c.write_next.ensures.quiet

held : (g : Over) (c : After-write_next g) → HasSamePages c.args.self.now.pool c.write_next.new.self.pool
held g c = pages_both c.args.self.now.pool c.loop-count.self.pool c.write_next.new.self.pool c.loop-count.invariant.same c.write_next.ensures.same

pub loop-count-init : goal.loop-count-init
loop-count-init g c = record {
  quiet = quiet_same g.D.Device c.args.self.now;
  same = record { most = refl; reach = refl; count = refl; blocks = refl; frames = λ at. refl; places = λ block. refl; held = λ block. refl };
  goes = goes_none c.args.pinned.now c.args.self.now.durable c.args.place c.args.self.now.pool c.requires.place;
  few = omega arith;
  durable = refl;
  log = refl;
  room = refl;
  failures = refl;
}

pub returns-in_err-write_next-clause-quiet : goal.returns-in_err-write_next-clause-quiet
returns-in_err-write_next-clause-quiet g c = tried g (goal.at.returns-in_err-write_next-clause-quiet g c).After-write_next

pub returns-in_err-write_next-clause-same : goal.returns-in_err-write_next-clause-same
returns-in_err-write_next-clause-same g c = held g (goal.at.returns-in_err-write_next-clause-same g c).After-write_next

pub returns-in_err-write_next-clause-ahead : goal.returns-in_err-write_next-clause-ahead
returns-in_err-write_next-clause-ahead g c =
    let i = c.loop-count.invariant in
    subst (λ (p : Pool). AreWrittenAhead c.args.pinned.now c.args.self.now.durable c.args.place c.args.self.now.pool p) (sym c.in_err-write_next.ensures.refused)
    (ahead_of c.args.pinned.now c.args.self.now.durable c.args.place c.loop-count.count c.args.self.now.pool c.loop-count.self.pool i.goes i.few)

pub returns-then-not-branch-clause-quiet : goal.returns-then-not-branch-clause-quiet
returns-then-not-branch-clause-quiet g c = tried g (goal.at.returns-then-not-branch-clause-quiet g c).After-write_next

pub returns-then-not-branch-clause-same : goal.returns-then-not-branch-clause-same
returns-then-not-branch-clause-same g c = held g (goal.at.returns-then-not-branch-clause-same g c).After-write_next

pub returns-then-not-branch-clause-ahead : goal.returns-then-not-branch-clause-ahead
returns-then-not-branch-clause-ahead g c =
    let i = c.loop-count.invariant in
    subst (λ (p : Pool). AreWrittenAhead c.args.pinned.now c.args.self.now.durable c.args.place c.args.self.now.pool p) (sym (c.in_ok-write_next.ensures.not c.if-not-branch.true))
    (ahead_of c.args.pinned.now c.args.self.now.durable c.args.place c.loop-count.count c.args.self.now.pool c.loop-count.self.pool i.goes i.few)

pub loop-count-preserved : goal.loop-count-preserved
loop-count-preserved g c =
    let here = (goal.at.loop-count-preserved g c).After-write_next in
    let i = c.loop-count.invariant in
    let next = subst (λ (n : ℕ). IsWrittenNext c.args.pinned.now n c.args.place c.loop-count.self.pool c.write_next.new.self.pool) i.durable
    (c.in_ok-write_next.ensures.written c.if-not-branch.false) in
    record {
      quiet = tried g here;
      same = held g here;
      goes = goes_next c.args.pinned.now c.args.self.now.durable c.args.place c.loop-count.count c.args.self.now.pool c.loop-count.self.pool i.goes c.write_next.new.self.pool next;
      few = omega (arith, c.loop-count-test.true, c.frames-most.ensures);
      durable = c.write_next.ensures.durable ∙ i.durable;
      log = c.write_next.ensures.log ∙ i.log;
      room = c.write_next.ensures.room ∙ i.room;
      failures = c.in_ok-write_next.ensures.failures ∙ i.failures;
    }

pub returns-clause-ahead : goal.returns-clause-ahead
returns-clause-ahead g c =
    let i = c.loop-count.invariant in
    ahead_of c.args.pinned.now c.args.self.now.durable c.args.place c.loop-count.count c.args.self.now.pool c.loop-count.self.pool i.goes i.few
