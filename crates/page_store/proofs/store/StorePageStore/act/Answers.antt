use Rattle.std.proofs.Common.{◌≡◌, ◌∙◌, ◌++◌, Result, Ok, Err, suc, List, length, refl, ap, sym, subst, arith}
use Rattle.page_store.proofs.Costing.{backing_same}
use Rattle.page_store.proofs.Imports.{OnErr, Fault, Format, Page, TableOfCalls, pinned_blocks, Memory, TakesFrames, blocks_of, Backing, with_pages, with_counts, takes_none, AreWaiting}
use Rattle.page_store.proofs.Imports.{with_all_waiting, write_waits, length-with_all_waiting, length-with_counts, Follows, pages_now, backing_of, held_of, memory_in, state_of, held_by}
use Rattle.page_store.proofs.Causes.{taking_cause}
use Rattle.page_store.proofs.FollowLaws.{follows_both}
use Rattle.page_store.proofs.Stating.{state_alike}
use Rattle.page_store.proofs.Ordering.{part_same, part_is}
use Rattle.buffer_pool.specs.Pools.{most_of, changed_of}
use Rattle.page_store.proofs.store.StorePageStore.act.Given.{Over}
use Rattle.page_store.proofs.store.StorePageStore.act.Goals.{After-take_frames, After-act, After-note}
use Rattle.page_store.proofs.store.StorePageStore.act.Goals as goal

-- a frame for each page leaves the pages as they were
same_pages : (g : Over) (c : After-take_frames g) → pages_now c.take_frames.new.self.held.history.value ≡ pages_now c.args.self.now.held.history.value
same_pages g c = ap pages_now c.take_frames.ensures.quiet.pages.history

-- frames were taken and the act was logged or not
steps : (g : Over) (c : After-act g) → Follows (held_by g.D.Device c.args.self.now) (held_of g.D.Device c.act.new.self)
steps g c = follows_both _ (held_by g.D.Device c.take_frames.new.self) _ c.take_frames.ensures.quiet.follows c.act.ensures.steps

-- the pages after the act
pages_are : (g : Over) (c : After-note g) → pages_now c.act.new.self.history.value ≡ with_pages (pages_now c.args.self.now.held.history.value) c.args.pages.now
pages_are g c = c.in_ok-number.ensures.pages ∙ ap (λ (ps : List Page). with_pages ps c.args.pages.now) (same_pages g (goal.at.After-note g c).After-take_frames)

-- the calls after it
calls_are : (g : Over) (c : After-note g)
    → c.note.new.self ≡ record c.args.self.now.calls { counted = with_counts c.args.self.now.calls.counted c.args.pages.now; waiting = with_all_waiting c.args.self.now.calls.waiting c.args.pages.now }
calls_are g c = c.note.ensures
    ∙ ap (λ (t : TableOfCalls). record t { counted = with_counts t.counted c.args.pages.now; waiting = with_all_waiting t.waiting c.args.pages.now }) c.take_frames.ensures.calls

format_is : (g : Over) (c : After-note g) → c.act.new.self.format ≡ c.args.self.now.held.format
format_is g c = c.act.ensures.format ∙ c.take_frames.ensures.quiet.pages.format

pub invariant_of-self-2-clause-counts : goal.invariant_of-self-2-clause-counts
invariant_of-self-2-clause-counts g c =
    let here = (goal.at.invariant_of-self-2-clause-counts g c).After-note in
    let store = c.args.self.now in
    ap (λ (t : TableOfCalls). length t.counted) (calls_are g here)
    ∙ (length-with_counts store.calls.counted (pages_now store.held.history.value) c.args.pages.now store.counts ∙ sym (ap length (pages_are g here)))

pub invariant_of-self-2-clause-waiting : goal.invariant_of-self-2-clause-waiting
invariant_of-self-2-clause-waiting g c =
    let here = (goal.at.invariant_of-self-2-clause-waiting g c).After-note in
    let store = c.args.self.now in
    let pages = pages_now store.held.history.value in
    let changed = c.args.pages.now in
    subst (λ (after : List Page). AreWaiting c.note.new.self.waiting after c.note.new.self.counted) (sym (pages_are g here))
    (subst (λ (calls : TableOfCalls). AreWaiting calls.waiting (with_pages pages changed) calls.counted) (sym (calls_are g here))
    (write_waits store.held.format (length pages) store.calls.waiting pages store.calls.counted changed c.requires.actable (omega arith)
    store.count_room store.counts store.waiting))

pub invariant_of-self-2-clause-count_room : goal.invariant_of-self-2-clause-count_room
invariant_of-self-2-clause-count_room g c =
    let here = (goal.at.invariant_of-self-2-clause-count_room g c).After-note in
    let store = c.args.self.now in
    let same = ap (λ (t : TableOfCalls). length t.waiting) (calls_are g here) in
    let format = ap (λ (l : Format). l.pages) (format_is g here) in
    omega (arith, same, format, store.count_room, length-with_all_waiting store.calls.waiting c.args.pages.now)

pub returns-in_err-number-clause-steps : goal.returns-in_err-number-clause-steps
returns-in_err-number-clause-steps g c = λ first before. follows_both _ (held_by g.D.Device c.args.self.now) _ before (steps g (goal.at.returns-in_err-number-clause-steps g c).After-act)

pub returns-clause-steps : goal.returns-clause-steps
returns-clause-steps g c = λ first before. follows_both _ (held_by g.D.Device c.args.self.now) _ before (steps g (goal.at.returns-clause-steps g c).After-act)

pub returns-clause-done : goal.returns-clause-done
returns-clause-done g c =
    let here = (goal.at.returns-clause-done g c).After-note in
    state_alike _ _ _ _ _ _ _ _ _ _ (format_is g here) (c.in_ok-number.ensures.pool.most ∙ c.take_frames.ensures.most) (pages_are g here)
    (c.in_ok-number.ensures.acts ∙ ap suc c.take_frames.ensures.quiet.pages.acts) (calls_are g here)

pub returns-in-Err-clause-steps : goal.returns-in-Err-clause-steps
returns-in-Err-clause-steps g c = λ first before. follows_both _ (held_by g.D.Device c.args.self.now) _ before c.take_frames.ensures.quiet.follows

pub returns-in-Err-clause-cause : goal.returns-in-Err-clause-cause
returns-in-Err-clause-cause g c =
    let store = c.args.self.now in
    taking_cause (state_of g.D.Device store) (backing_of (held_by g.D.Device store)) (backing_of (held_by g.D.Device c.take_frames.new.self))
    store.held.pool c.args.pages.now c.in-Err.fault refl c.in-Err.ensures.cause

pub returns-then-is_stopped-clause-written : goal.returns-then-is_stopped-clause-written
returns-then-is_stopped-clause-written g c = part_same (changed_of c.args.self.now.held.pool)

pub returns-clause-order : goal.returns-clause-order
returns-clause-order g c = record {
  before = changed_of c.take_frames.new.self.held.pool;
  written = c.take_frames.ensures.quiet.order;
  changed = part_is _ _ c.in_ok-number.ensures.pool.order;
}

on_err : {T : Type 0} (r : Result T Fault) (P : Type 0) → P → OnErr r P
on_err (Ok x) P h = tt
on_err (Err e) P h = h

pub returns-then-is_stopped-clause-taken : goal.returns-then-is_stopped-clause-taken
returns-then-is_stopped-clause-taken g c =
    let store = c.args.self.now in
    let blocks = blocks_of c.args.pages.now in
    takes_none (most_of store.held.pool) (blocks ++ pinned_blocks store.calls.table) blocks (memory_in store.held.pool) (backing_of (held_by g.D.Device store))

pub returns-in_err-number-clause-taken : goal.returns-in_err-number-clause-taken
returns-in_err-number-clause-taken g c =
    let store = c.args.self.now in
    let taken = c.take_frames.new.self.held in
    let blocks = blocks_of c.args.pages.now in
    let a = c.act.ensures in
    let err = c.in_err-number.ensures in
    let pool = err.frames in
    on_err c.from_residual.result _
    (subst (λ (m : Memory).
    TakesFrames (most_of store.held.pool) (blocks ++ pinned_blocks store.calls.table) blocks (memory_in store.held.pool) m
    (backing_of (held_by g.D.Device store)) (backing_of (held_of g.D.Device c.act.new.self)))
    (sym (ap memory_in pool))
    (subst (λ (b : Backing).
    TakesFrames (most_of store.held.pool) (blocks ++ pinned_blocks store.calls.table) blocks (memory_in store.held.pool) (memory_in taken.pool) (backing_of (held_by g.D.Device store)) b)
    (sym (backing_same g.D.Device taken c.act.new.self (ap changed_of pool) err.log a.honest a.failures a.durable err.kept.room err.kept.promised)) c.take_frames.ensures.frames))

pub returns-clause-frames : goal.returns-clause-frames
returns-clause-frames g c = record {
  taken = memory_in c.take_frames.new.self.held.pool;
  between = backing_of (held_of g.D.Device c.take_frames.new.self.held);
  frames = c.take_frames.ensures.frames;
  done = record { changed = c.in_ok-number.ensures.pool.order; waiting = c.in_ok-number.ensures.waiting; durable = c.act.ensures.durable };
}
