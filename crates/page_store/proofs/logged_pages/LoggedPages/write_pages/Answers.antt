use Rattle.std.proofs.Common.{◌≡◌, ◌<◌, ◌+◌, ℕ, suc, true, Some, None, List, [], length, take, slice_get, get_or, refl, sym, ap, subst, ◌∙◌, arith}
use Rattle.buffer_pool.specs.Pools.{changed_of, IsPool}
use Rattle.page_store.proofs.Imports.{slice_get-get_or, has_block, Pool, DiskMoment, Format, follows_same, pages_now, held_of, AreWrittenUpTo}
use Rattle.page_store.proofs.FollowLaws.{follows_both}
use Rattle.page_store.proofs.Keeping.{up_to_next, up_to_same}
use Rattle.page_store.proofs.logged_pages.LoggedPages.write_pages.Given.{Over}
use Rattle.page_store.proofs.logged_pages.LoggedPages.write_pages.Goals.{After-write_home}
use Rattle.page_store.proofs.logged_pages.LoggedPages.write_pages.Goals as goal

-- the block stands next in the order
at : (g : Over) (c : After-write_home g) → slice_get (changed_of c.loop-written.self.pool) c.loop-written.written ≡ Some c.in-Some.block
at g c = sym c.in-Some.ensures.block

law : (g : Over) (c : After-write_home g) → IsPool c.loop-written.self.pool
law g c = subst IsPool (sym c.loop-written.invariant.same.pool) c.law.ensures

-- the same under equal limits, of an equal pool
moved : (l k : Format) (p q : Pool) (count : ℕ) (m : DiskMoment) → l ≡ k → p ≡ q → AreWrittenUpTo l p count m → AreWrittenUpTo k q count m
moved l k p q count m same_format same_pool home =
    subst (λ (x : Pool). AreWrittenUpTo k x count m) same_pool (subst (λ (x : Format). AreWrittenUpTo x p count m) same_format home)

-- those before it stand at their places
before : (g : Over) (c : After-write_home g) → AreWrittenUpTo c.loop-written.self.format c.loop-written.self.pool c.loop-written.written (g.D.Device.trace c.loop-written.self.device).now
before g c =
    let same = c.loop-written.invariant.same in
    moved _ _ _ _ c.loop-written.written (g.D.Device.trace c.loop-written.self.device).now (sym same.pages.format) (sym same.pool) c.loop-written.invariant.home

pub loop-written-init : goal.loop-written-init
loop-written-init g c = record {
  steps = follows_same (held_of g.D.Device c.args.self.now);
  same = record { log = refl; pool = refl; pages = record { format = refl; history = refl; used = refl; acts = refl }; durable = refl; room = record { room = refl; promised = refl }; honest = refl };
  few = omega (arith, c.requires.none);
  home = λ block page among found.
      let none : take c.args.written.now (changed_of c.args.self.now.pool) ≡ [] = ap (λ n. take n (changed_of c.args.self.now.pool)) c.requires.none in
      let never : has_block [] block ≡ true = subst (λ (xs : List ℕ). has_block xs block ≡ true) none among in
      absurd cc;
  failures = refl;
}

pub returns-in_default-clause-all : goal.returns-in_default-clause-all
returns-in_default-clause-all g c =
    let order = changed_of c.loop-written.self.pool in
    let same : length order ≡ c.changed-count.result = ap (λ (p : Pool). length (changed_of p)) c.loop-written.invariant.same.pool ∙ sym c.changed-count.ensures in
    let below : c.loop-written.written < length order = omega (arith, same, c.loop-written-test.true) in
    let both : None ≡ Some (get_or order c.loop-written.written 0) = c.in_default.ensures.block ∙ slice_get-get_or order c.loop-written.written 0 below in
    absurd cc

pub returns-in_err-write_home-clause-home : goal.returns-in_err-write_home-clause-home
returns-in_err-write_home-clause-home g c =
    let here = (goal.at.returns-in_err-write_home-clause-home g c).After-write_home in
    let held = c.loop-written.self in
    let m = (g.D.Device.trace held.device).now in
    let n = (g.D.Device.trace c.write_home.new.self.device).now in
    moved _ _ _ _ c.loop-written.written n c.loop-written.invariant.same.pages.format c.loop-written.invariant.same.pool
    (up_to_same held.format (pages_now held.history.value) held.acts held.pool (g.D.Device.is_honest held.device) m held.holds (law g here) n
    c.loop-written.written c.in-Some.block (at g here) (before g here) c.write_home.ensures.only)

pub returns-in_err-write_home-clause-steps : goal.returns-in_err-write_home-clause-steps
returns-in_err-write_home-clause-steps g c =
    follows_both (held_of g.D.Device c.args.self.now) (held_of g.D.Device c.loop-written.self) (held_of g.D.Device c.write_home.new.self) c.loop-written.invariant.steps c.write_home.ensures.steps

pub loop-written-preserved : goal.loop-written-preserved
loop-written-preserved g c =
    let here = (goal.at.loop-written-preserved g c).After-write_home in
    let i = c.loop-written.invariant in
    let s = c.write_home.ensures.same in
    let held = c.loop-written.self in
    let m = (g.D.Device.trace held.device).now in
    let n = (g.D.Device.trace c.write_home.new.self.device).now in
    let more : suc c.loop-written.written ≡ c.loop-written.written + 1 = omega arith in
    record {
      steps = follows_both (held_of g.D.Device c.args.self.now) (held_of g.D.Device held) (held_of g.D.Device c.write_home.new.self) i.steps c.write_home.ensures.steps;
      same = record {
        log = s.log ∙ i.same.log;
        pool = s.pool ∙ i.same.pool;
        pages = record {
          format = s.pages.format ∙ i.same.pages.format;
          history = s.pages.history ∙ i.same.pages.history;
          used = s.pages.used
              ∙ i.same.pages.used;
          acts = s.pages.acts ∙ i.same.pages.acts;
        };
        durable = s.durable ∙ i.same.durable;
        room = record { room = s.room.room ∙ i.same.room.room; promised = s.room.promised ∙ i.same.room.promised };
        honest = s.honest ∙ i.same.honest;
      };
      few = omega (arith, c.loop-written-test.true, c.changed-count.ensures);
      home = subst (λ (k : ℕ). AreWrittenUpTo c.args.self.now.format c.args.self.now.pool k n) more
          (moved _ _ _ _ (suc c.loop-written.written) n i.same.pages.format i.same.pool
          (up_to_next held.format (pages_now held.history.value) held.acts held.pool (g.D.Device.is_honest held.device) m held.holds (law g here) n
          c.loop-written.written c.in-Some.block (at g here) (before g here)
          (λ page found. c.in_ok-write_home.ensures.written page found) c.write_home.ensures.only));
      failures = c.in_ok-write_home.ensures.failures ∙ i.failures;
    }
