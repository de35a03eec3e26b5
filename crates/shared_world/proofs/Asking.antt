-- What asking a call for its next entry, and giving it up, leave of what is kept under the lock.
use Rattle.std.proofs.Common.{◌≡◌, ◌<◌, ◌≤◌, ◌&&◌, not, Bool, true, false, ℕ, List, [], ◌∷◌, ◌++◌, length, Option, Some, None, slice_set, refl, sym, ap, ◌∙◌, subst, inl, inr, arith, length-append, length-set}
use Rattle.index_model.specs.Order.{IsPast, last_or}
use Rattle.index_model.specs.declared.range.Range.{Range}
use Rattle.schedule.specs.Ready.{MayComeNext, ReadyMayComeNext}
use Rattle.index_model.specs.Row.{Row}
use Rattle.shared_world.specs.Rows.{asked_with}
use Rattle.shared_world.proofs.Imports.{append-nil, Action, ThereAtSomeMoment, AskScan, Call, at_some_moment_later, Entry, SetGhosts, Ghosts, is_last, AnswersEnd, GivesLess, RunsUntilLast, is_busy, ready_count, slot_add}
use Rattle.shared_world.proofs.Imports.{has_call, slot_of, Request, Answer, Gave, Ended, Op, OneCallRuns, Takes, GivesUp, StoreAndSlots, snapshot_of, Next, End, goes_does}
use Rattle.shared_world.proofs.Imports.{get_within, inside, World, OriginGhosts, OriginOnGhosts, GroupGhosts, Live, Job, Scan, PendingCall, IsEventDone, MayBeLeft, given_after, given_more, gift_of, IsBelowRoom, IsWithinRoom, HasRoomLeft, request_of}
use Rattle.shared_world.proofs.Imports.{WasLeft, completed_of}
use Rattle.shared_world.proofs.Happening.{keeps_going, keeps_ended}
use Rattle.shared_world.proofs.Handing.{IsMadeByEvent}
use Rattle.shared_world.proofs.Noting.{some_same, busy_is, last_of, OthersRunOn, others_run_on, matches_runs, matches_ends}
use Rattle.shared_world.proofs.Sharing.{pending_in, log_in, RunsAt, KeepsWith, CarriesOn}
use Rattle.shared_world.proofs.Transiting.{makes_of, next_acts, end_acts}
use Rattle.shared_world.proofs.Meanings.{MovesOnTo, added_in_slot, moved, moved_on, moved_last}

not_last : (b a l : Bool) → a ≡ (b && not l) → a ≡ b → b ≡ true → l ≡ false
not_last true a true until same busy = sym same ∙ until
not_last true a false until same busy = refl
not_last false a l until same busy = absurd cc

not_not : (b : Bool) → not b ≡ false → b ≡ true
not_not true h = refl
not_not false h = sym h

-- the answer to asking for the next entry is never the last of a call
next_on : (answer : Answer) (before after : Option Op) → GivesLess before after answer → RunsUntilLast before after answer → is_busy before ≡ true → is_last answer ≡ false
next_on (Gave entry) before after less until busy = refl
next_on answer before after less until busy = not_last (is_busy before) (is_busy after) (is_last answer) until (ap is_busy less.0) busy

-- a running call that is given up answers that it has ended
ended_of : (slot : Option Op) (answer : Answer) → is_busy slot ≡ true → AnswersEnd slot answer → answer ≡ Ended
ended_of None answer busy h = absurd cc
ended_of (Some op) answer busy h = h

-- a call that is left rightly: a scan, if its room isn't full, or another match may come next; any other,
-- if it has no Add
left_is : (start : Entry → Bool) (l more : List Action) (set : Row → Bool) (job : Job) (request : Request) (call : Call) (s : ℕ) (p : PendingCall)
    (answer : Answer) (to ready : ℕ) (add added : Option ℕ) → added ≡ add → request_of job ≡ Some request → call.ask ≡ asked_with set request
    → call.began ≡ p.from → call.given ≡ p.given → MayBeLeft job p.given ready add → length l ≤ to
    → ((range : Range) → call.ask ≡ AskScan range → 0 < ready → MayComeNext start l range call.began (length l) call.given) → WasLeft start (l ++ more) job (completed_of s p answer to) added
left_is start l more set (Scan range room) request call s p answer to ready add added same asks ask began given (inl below) le next = inl below
left_is start l more set (Scan range room) request call s p answer to ready add added same asks ask began given (inr some) le next =
    let m = next range (ask ∙ ap (asked_with set) (sym (some_same asks))) some in
    inr (record {
      entry = m.entry;
      matched = m.matched;
      was_there = at_some_moment_later start l more p.from (length l) to m.entry (omega arith) le (subst (λ (n : ℕ). ThereAtSomeMoment start l n (length l) m.entry) began m.was_there);
      beyond = subst (λ (es : List Entry). IsPast (last_or None es) m.entry) given m.beyond;
    })
left_is start l more set job request call s p answer to ready add added same asks ask began given may le next = same ∙ may

-- what an answer gives stands after what was given
pub given_as_more : (answer : Answer) (given : List Entry) → given_after answer given ≡ given ++ gift_of answer
given_as_more (Gave (Some e)) given = refl
given_as_more answer given = sym (append-nil given)

-- one answer gives one entry at most
few_gifts : (answer : Answer) → length (gift_of answer) ≤ 1
few_gifts (Gave (Some e)) = omega arith
few_gifts answer = omega arith

-- a call that has room for one entry more has room for what an answer gives
one_more_within : (job : Job) (given : List Entry) (answer : Answer) → IsBelowRoom job given → IsWithinRoom job (given ++ gift_of answer)
one_more_within (Scan range room) given answer below = omega (arith, below, few_gifts answer, length-append given (gift_of answer))
one_more_within job given answer below = tt

-- what a running call answers that is asked for its next entry or given up, and which sessions run a call
-- then
module _ {S : Type 0} (g : Ghosts S) (w v : StoreAndSlots S) (s : ℕ) (runs : has_call w.slots s ≡ true) where
  -- it goes on
  goes_on : (answer : Answer) → IsEventDone g (Next s) answer w v → is_last answer ≡ false
  goes_on answer did = next_on answer (slot_of w.slots s) (slot_of v.slots s) did.always.less did.always.until_last (busy_is w.slots s ∙ runs)

  next_runs : (answer : Answer) → IsEventDone g (Next s) answer w v → (has_call v.slots s ≡ true) × OthersRunOn w.slots v.slots s
  next_runs answer did =
      (not_not (has_call v.slots s) (sym (last_of w.slots v.slots s answer did.always.until_last runs) ∙ goes_on answer did), others_run_on w.slots v.slots s (did.always.others s refl))

  pub end_answers : (answer : Answer) → IsEventDone g (End s) answer w v → answer ≡ Ended
  end_answers answer did = ended_of (slot_of w.slots s) answer (busy_is w.slots s ∙ runs) did.always.answers

  end_runs : (answer : Answer) → IsEventDone g (End s) answer w v → (has_call v.slots s ≡ false) × OthersRunOn w.slots v.slots s
  end_runs answer did = (sym (busy_is v.slots s) ∙ ap is_busy did.always.left.over, others_run_on w.slots v.slots s (did.always.others s refl))

-- ... and what either leaves under the lock
module _ {S T J : Type 0} {g : Ghosts S} {rows : SetGhosts T} {past : OriginOnGhosts J S} {j : OriginGhosts J} {group : GroupGhosts J} (self : Live S T J g rows past j group) (world : World S T)
    (one : OneCallRuns g) (next : IsMadeByEvent g (inside rows self.world) (inside rows world)) (s : ℕ) {p : PendingCall} (here : RunsAt self s p) where
  abbrev w : StoreAndSlots S
  w = inside rows self.world

  abbrev v : StoreAndSlots S
  v = inside rows world

  -- what is kept after it was asked
  next_keeps : (answer : Answer) → IsEventDone g (Next s) answer w v → HasRoomLeft p → KeepsWith self w (pending_in self) (log_in self)
      → KeepsWith self v (slice_set (pending_in self) s (Some (given_more p answer))) (log_in self)
  next_keeps answer did room all honest contents acts calls so =
      let k = all (next.later.honest honest) contents acts calls so in
      let y = k.runs s p here.found in
      let r = did.goes honest contents k.history k.calls k.fit in
      let was = snapshot_of w k.history k.calls in
      let new = snapshot_of v r.then_history r.then_calls in
      let given : given_after answer y.call.given ≡ (given_more p answer).given = ap (given_after answer) y.given_is ∙ given_as_more answer p.given in
      keeps_going g contents acts calls (j.kept_then contents acts calls) w v j.handed self.start (pending_in self) (log_in self) k next.later.durable s p one (given_more p answer) here.found new
      (subst (λ l. MovesOnTo y.number y.call l was new) given
      (moved_on y.number y.call answer was new (goes_on g w v s here.has answer did) (moved g contents s Takes answer was new k.fit (goes_does r.goes) y.number y.call y.is)))
      refl r.fits (λ h. (r.goes.crash h).keeps) refl refl refl refl (one_more_within p.asked p.given answer room)

  -- ... and after it was given up
  end_keeps : ReadyMayComeNext g → (answer : Answer) → IsEventDone g (End s) answer w v → MayBeLeft p.asked p.given (ready_count (slot_of w.slots s)) (slot_add (slot_of w.slots s)) → (to : ℕ) → to ≡ (g.state v.store).acts
      → KeepsWith self w (pending_in self) (log_in self) → KeepsWith self v (slice_set (pending_in self) s None) (log_in self ++ completed_of s p answer to ∷ [])
  end_keeps law answer did may to to_is all honest contents acts calls so =
      let k = all (next.later.honest honest) contents acts calls so in
      let y = k.runs s p here.found in
      let r = did.goes honest contents k.history k.calls k.fit in
      let was = snapshot_of w k.history k.calls in
      let new = snapshot_of v r.then_history r.then_calls in
      let e = moved_last y.number y.call answer was new (ap is_last (end_answers g w v s here.has answer did))
      (moved g contents s GivesUp answer was new k.fit (goes_does r.goes) y.number y.call y.is) in
      let add : e.to.after.added ≡ slot_add (slot_of w.slots s) = e.add_is (end_answers g w v s here.has answer did) ∙ added_in_slot g contents was s k.fit y.number y.call y.is in
      let ready = ready_count (slot_of w.slots s) in
      let until : to ≡ length new.history = to_is ∙ r.fits.explains.count in
      let long : length k.history ≤ to = (let x = ap (λ (l : List Action). length l) e.to.history_is in let z = length-append k.history e.to.more in omega (arith, until, x, z)) in
      keeps_ended g contents acts calls (j.kept_then contents acts calls) w v j.handed self.start (pending_in self) (log_in self) k next.later.durable s p one here.found answer to new e
      refl r.fits (λ h. (r.goes.crash h).keeps) until
      (λ _. subst (λ (l : List Action). WasLeft contents l p.asked (completed_of s p answer to) e.to.after.added) (sym e.to.history_is)
      (left_is contents k.history e.to.more y.set p.asked y.request y.call s p answer to ready (slot_add (slot_of w.slots s)) e.to.after.added add y.asks y.ask_is y.began_is y.given_is may long
      (λ range asks some. law contents was s y.number y.call range k.fit y.is asks some)))

  -- asking for the next entry
  pub next_leaves : (answer : Answer) → IsEventDone g (Next s) answer w v → HasRoomLeft p → CarriesOn self world (slice_set (pending_in self) s (Some (given_more p answer))) (log_in self)
  next_leaves answer did room =
      let runs = next_runs g w v s here.has answer did in
      let q = given_more p answer in
      record {
        keeps = next_keeps answer did room;
        acts = next_acts g j.handed w v (pending_in self) (log_in self) s p here.found answer next.sessions did (one_more_within p.asked p.given answer room) (goes_on g w v s here.has answer did);
        matches = matches_runs w.slots v.slots (pending_in self) s q (get_within (pending_in self) s (Some p) here.found) runs.0 runs.1;
        long = length-set (pending_in self) s (Some q);
        next = next;
      }

  -- giving the call up
  pub end_leaves : ReadyMayComeNext g → (answer : Answer) → IsEventDone g (End s) answer w v → MayBeLeft p.asked p.given (ready_count (slot_of w.slots s)) (slot_add (slot_of w.slots s)) → (to : ℕ) → to ≡ (g.state v.store).acts
      → CarriesOn self world (slice_set (pending_in self) s None) (log_in self ++ completed_of s p answer to ∷ [])
  end_leaves law answer did may to to_is =
      let runs = end_runs g w v s here.has answer did in
      record {
        keeps = end_keeps law answer did may to to_is;
        acts = end_acts g j.handed w v (pending_in self) (log_in self) s p here.found answer (makes_of g (End s) answer w v next.sessions did.goes did.always)
            (end_answers g w v s here.has answer did) may to to_is;
        matches = matches_ends w.slots v.slots (pending_in self) s runs.0 runs.1;
        long = length-set (pending_in self) s None;
        next = next;
      }
