use Rattle.std.specs.Prelude.{map}
use Rattle.std.proofs.Common.{◌≡◌, ◌≤◌, ◌+◌, List, [], ◌∷◌, ◌++◌, length, take, arith, refl, sym, ap, subst, length-append, ◌∙◌}
use Rattle.std.proofs.Math.ListN.{drop_of_length-le}
use Rattle.schedule.proofs.Imports.{take_all, take_more, take-append-le, drop-append-le, Answer, Event, StoreAndSlots, Moment, snapshot_of, here_with, EachAlways, answers_after, Ran}
use Rattle.schedule.proofs.Running.{none_ran, makes_runs, ran_more, always_more}
use Rattle.schedule.proofs.one_event.run.Goals as goal

-- what was answered after some answers, with one answer more
after_more : (before answers : List Answer) (answer : Answer) → length before ≤ length answers → answers_after before (answers ++ answer ∷ []) ≡ answers_after before answers ++ answer ∷ []
after_more before answers answer le = drop-append-le (length before) answers (answer ∷ []) le

-- what holds of some events and answers, with one of each more, holds of the first events and of the answers
-- put after those before
grown : (Holds : List Event → List Answer → Type 0) (taken some : List Event) (event : Event) (before answers pushed : List Answer) (answer : Answer)
    → some ≡ taken ++ event ∷ [] → pushed ≡ answers ++ answer ∷ [] → length before ≤ length answers → Holds (taken ++ event ∷ []) (answers_after before answers ++ answer ∷ [])
    → Holds some (answers_after before pushed)
grown Holds taken some event before answers pushed answer more is le h =
    subst (λ (es : List Event). Holds es (answers_after before pushed)) (sym more)
    (subst (λ (xs : List Answer). Holds (taken ++ event ∷ []) xs) (sym (ap (λ (xs : List Answer). answers_after before xs) is ∙ after_more before answers answer le)) h)

pub loop-event-init : goal.loop-event-init
loop-event-init g c =
    let laws = g.met.S.PageStore.laws in
    let before = c.reserve.new.self.items in
    record {
      room = (let same = c.reserve.new.self.ok.0 in let room = c.in-Ok.ensures.ok in omega arith);
      each = omega arith;
      kept = take_all (length before) before (omega arith);
      steps = λ first h. h;
      sessions = refl;
      always = subst (λ (answers : List Answer).
          EachAlways g.S.PageStore [] answers (here_with c.args.store.now c.args.calls.now.slots.items (map g.T.DeadRows.is_in c.args.sets.now))
          (here_with c.args.store.now c.args.calls.now.slots.items (map g.T.DeadRows.is_in c.args.sets.now)))
          (sym (drop_of_length-le before (omega arith))) refl;
      runs = λ honest start history calls fits.
          let now : Moment g.row.S.Denot = snapshot_of (here_with c.args.store.now c.args.calls.now.slots.items (map g.T.DeadRows.is_in c.args.sets.now)) history calls in
          record {
            then_history = history;
            then_calls = calls;
            ran = subst (λ (answers : List Answer). Ran g.S.PageStore start [] answers now now) (sym (drop_of_length-le before (omega arith))) (none_ran g.S.PageStore laws start now fits);
          };
    }

pub loop-event-preserved : goal.loop-event-preserved
loop-event-preserved g c =
    let laws = g.met.S.PageStore.laws in
    let before = c.reserve.new.self.items in
    let answers = c.loop-event.answers.items in
    let answer = c.one-answer.result in
    let event = c.event-item.result in
    let events = c.args.events.now in
    let index = c.loop-event.event-index in
    let each : length answers ≡ length before + index = c.loop-event.invariant.each in
    let le : length before ≤ length answers = omega arith in
    let pushed : c.push_reserved.new.self.items ≡ answers ++ answer ∷ [] = c.push_reserved.ensures.items in
    let more : take (index + 1) events ≡ take index events ++ event ∷ [] = take_more events index event c.loop-event-test.true
    ∙ sym (ap (λ (e : Event). take index events ++ e ∷ []) c.event-item.is) in
    record {
      room = omega arith;
      each = ap (λ (xs : List Answer). length xs) pushed ∙ (let n : length (answers ++ answer ∷ []) ≡ length answers + 1 = length-append answers (answer ∷ []) in omega arith);
      kept = ap (λ (xs : List Answer). take (length before) xs) pushed ∙ take-append-le (length before) answers (answer ∷ []) le ∙ c.loop-event.invariant.kept;
      steps = λ first h. c.one-answer.ensures.steps first (c.loop-event.invariant.steps first h);
      sessions = c.one-answer.ensures.makes.sessions ∙ c.loop-event.invariant.sessions;
      always =
          let start : StoreAndSlots g.row.S.Denot = here_with c.args.store.now c.args.calls.now.slots.items (map g.T.DeadRows.is_in c.args.sets.now) in
          let mid : StoreAndSlots g.row.S.Denot = here_with c.loop-event.store c.loop-event.calls.slots.items (map g.T.DeadRows.is_in c.args.sets.now) in
          let new : StoreAndSlots g.row.S.Denot = here_with c.one-answer.new.store c.one-answer.new.calls.slots.items (map g.T.DeadRows.is_in c.args.sets.now) in
          grown (λ (es : List Event) (xs : List Answer). EachAlways g.S.PageStore es xs start new) (take index events) (take (index + 1) events) event
          before answers c.push_reserved.new.self.items answer more pushed le
          (always_more g.S.PageStore (take index events) (answers_after before answers) event answer start mid new c.loop-event.invariant.always
          (c.one-answer.ensures.steps mid.store (laws.follows_same mid.store)) c.one-answer.ensures.makes.always);
      runs = λ honest start history calls fits.
          let mid = here_with c.loop-event.store c.loop-event.calls.slots.items (map g.T.DeadRows.is_in c.args.sets.now) in
          let new = here_with c.one-answer.new.store c.one-answer.new.calls.slots.items (map g.T.DeadRows.is_in c.args.sets.now) in
          let later = g.met.S.PageStore.laws.follows_later mid.store new.store (c.one-answer.ensures.steps mid.store (g.met.S.PageStore.laws.follows_same mid.store)) in
          let follows = c.one-answer.ensures.steps c.args.store.now (c.loop-event.invariant.steps c.args.store.now (g.met.S.PageStore.laws.follows_same c.args.store.now)) in
          let ran = c.loop-event.invariant.runs (later.honest honest) start history calls fits in
          let one = makes_runs g.S.PageStore laws event answer mid new c.one-answer.ensures.makes honest start ran.then_history ran.then_calls ran.ran.fits in
          let first : Moment g.row.S.Denot = snapshot_of (here_with c.args.store.now c.args.calls.now.slots.items (map g.T.DeadRows.is_in c.args.sets.now)) history calls in
          let between : Moment g.row.S.Denot = snapshot_of mid ran.then_history ran.then_calls in
          let last : Moment g.row.S.Denot = snapshot_of new one.then_history one.then_calls in
          let done : Ran g.S.PageStore start (take index events ++ event ∷ []) (answers_after before answers ++ answer ∷ []) first last =
          ran_more g.S.PageStore laws start (take index events) (answers_after before answers) event answer first between last follows ran.ran one.ran in
          record {
            then_history = one.then_history;
            then_calls = one.then_calls;
            ran =
                grown (λ (es : List Event) (xs : List Answer). Ran g.S.PageStore start es xs first last) (take index events) (take (index + 1) events)
                event before answers c.push_reserved.new.self.items answer more pushed le done;
          };
    }

pub returns-clause-runs : goal.returns-clause-runs
returns-clause-runs g c honest start history calls fits =
    let ran = c.loop-event.invariant.runs honest start history calls fits in
    let first : Moment g.row.S.Denot = snapshot_of (here_with c.args.store.now c.args.calls.now.slots.items (map g.T.DeadRows.is_in c.args.sets.now)) history calls in
    let last : Moment g.row.S.Denot = snapshot_of (here_with c.loop-event.store c.loop-event.calls.slots.items (map g.T.DeadRows.is_in c.args.sets.now)) ran.then_history ran.then_calls in
    record {
      then_history = ran.then_history;
      then_calls = ran.then_calls;
      ran = subst (λ (es : List Event). Ran g.S.PageStore start es (answers_after c.args.answers.now.items c.loop-event.answers.items) first last)
          (take_all c.loop-event.event-index c.args.events.now c.loop-event-test.false)
          (subst (λ (xs : List Answer).
          Ran g.S.PageStore start (take c.loop-event.event-index c.args.events.now) (answers_after xs c.loop-event.answers.items) first last) c.in-Ok.ensures.items ran.ran);
    }

pub returns-clause-always : goal.returns-clause-always
returns-clause-always g c =
    let first : StoreAndSlots g.row.S.Denot = here_with c.args.store.now c.args.calls.now.slots.items (map g.T.DeadRows.is_in c.args.sets.now) in
    let last : StoreAndSlots g.row.S.Denot = here_with c.loop-event.store c.loop-event.calls.slots.items (map g.T.DeadRows.is_in c.args.sets.now) in
    subst (λ (es : List Event). EachAlways g.S.PageStore es (answers_after c.args.answers.now.items c.loop-event.answers.items) first last)
    (take_all c.loop-event.event-index c.args.events.now c.loop-event-test.false)
    (subst (λ (xs : List Answer).
    EachAlways g.S.PageStore (take c.loop-event.event-index c.args.events.now) (answers_after xs c.loop-event.answers.items) first last) c.in-Ok.ensures.items c.loop-event.invariant.always)
