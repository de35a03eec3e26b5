-- What the beginning of a job under the lock leaves of what is kept.
use Rattle.std.proofs.Common.{◌≡◌, ◌⊎◌, Bool, true, false, ℕ, suc, ◌<◌, ◌≤◌, List, [], ◌∷◌, ◌++◌, length, Option, Some, None, slice_get, slice_set, refl, sym, ap, ◌∙◌, subst, inl, inr, arith, length-set}
use Rattle.session_calls.specs.declared.request.Request.TheVariants.{Insert as ToInsert, Scan as ToScan, Bulk as ToBulk, Cleanup as ToCleanup}
use Rattle.whole_calls.specs.Meanings.{IsSameHistory, HasBegun, NothingIsDone, BeginMeans, begun_of}
use Rattle.session_seats.specs.declared.job.Job.TheVariants.{Insert, Scan, Bulk, Cleanup, Commit, Checkpoint}
use Rattle.shared_world.proofs.Imports.{HasCause, Entry, SetGhosts, Fault, Blocked, Ghosts, IsCaused, DeadSets, asked_by, has_call, one_vacuums, slot_has_call, Answer, Begun, Ended, Forced, Checkpointed}
use Rattle.shared_world.proofs.Imports.{Refused, Op, Request, RefusedCallsFit, AnswersEvent, AnswersBeginning, EventAlways, UpkeepIsDone, Stays, kept_answer, causes_of_begun_at, EventDoes}
use Rattle.shared_world.proofs.Imports.{EventEffect, KeepsHistory, Upkeep, Forces, Flushes, Checkpoints, Kind, BeginsCall, MaintainsStore, kind_of, StoreAndSlots, Moment, snapshot_of, ForEachHistory}
use Rattle.shared_world.proofs.Imports.{EventFollows, Fits, Event, goes_does, begins_told, keeps_silent, get_within, inside, World, OriginGhosts, OriginOnGhosts, GroupGhosts, Live, Job, PendingCall, event_of, request_of}
use Rattle.shared_world.proofs.Imports.{upkeep_of, begins, IsBlocked, KeepsFitting, completed_of}
use Rattle.shared_world.proofs.Noting.{set_same, busy_is, OthersRunOn, rests_there, matches_runs, matches_stays}
use Rattle.shared_world.proofs.Handing.{IsMadeByEvent}
use Rattle.shared_world.specs.Kept.{IsToRemove}
use Rattle.shared_world.specs.Rows.{set_asked}
use Rattle.shared_world.proofs.Words.{rows_asked}
use Rattle.shared_world.proofs.Sharing.{pending_in, log_in, asked_still, KeepsWith, CarriesOn}
use Rattle.shared_world.proofs.Acting.{acts_begun, acts_at_once}
use Rattle.shared_world.proofs.Transiting.{makes_of}
use Rattle.shared_world.proofs.Happening.{keeps_begun, keeps_refused, keeps_upkept}

-- a job that asks for a call
pub record AsksCall (s : ℕ) (job : Job) : Type 0 where
  pub request : Request
  pub asks : request_of job ≡ Some request
  pub kind : begins s job ≡ BeginsCall s request

-- one that asks the store
pub record AsksStore (s : ℕ) (job : Job) : Type 0 where
  pub upkeep : Upkeep
  pub asks : upkeep_of job ≡ Some upkeep
  pub kind : begins s job ≡ MaintainsStore upkeep

pub asks_one : (s : ℕ) (job : Job) → AsksCall s job ⊎ AsksStore s job
asks_one s (Insert entry) = inl (record { request = ToInsert entry; asks = refl; kind = refl })
asks_one s (Scan range room) = inl (record { request = ToScan range; asks = refl; kind = refl })
asks_one s (Bulk set) = inl (record { request = ToBulk set; asks = refl; kind = refl })
asks_one s Cleanup = inl (record { request = ToCleanup; asks = refl; kind = refl })
asks_one s Commit = inr (record { upkeep = Forces; asks = refl; kind = refl })
asks_one s Checkpoint = inr (record { upkeep = Checkpoints; asks = refl; kind = refl })

refused_of : (a : Answer) → AnswersBeginning a → (a ≡ Begun → ⊥) → (fault : Fault) × (a ≡ Refused fault)
refused_of Begun h n = absurd (n refl)
refused_of (Refused fault) h n = (fault, refl)
refused_of a h n = absurd h

-- no beginning is blocked
begins_settled : {S : Type 0} (g : Ghosts S) (store : S) (vacuums : Bool) (sets : DeadSets) (request : Request) (slot : Option (Option Op))
    (fault : Fault) → HasCause (causes_of_begun_at g store vacuums sets request slot) fault
    → IsBlocked (Refused fault) → ⊥
begins_settled g store vacuums sets request None (Blocked block) cause h = absurd (let no : false ≡ true = cause in cc)
begins_settled g store vacuums sets request (Some slot) (Blocked block) cause h = absurd (let no : false ≡ true = cause in cc)
begins_settled g store vacuums sets request slot fault cause h = h

upkeep_not_begun : (upkeep : Upkeep) (old new : List (Option Op)) → AnswersEvent (MaintainsStore upkeep) Begun old new → ⊥
upkeep_not_begun Forces old new h = h
upkeep_not_begun Flushes old new h = h
upkeep_not_begun Checkpoints old new h = h

forced_same : (m n : ℕ) → Some (Forced m) ≡ Some (Forced n) → m ≡ n
forced_same m n e = cc

checkpointed_same : (m n : ℕ) → Some (Checkpointed m) ≡ Some (Checkpointed n) → m ≡ n
checkpointed_same m n e = cc

forced_not : (n : ℕ) (fault : Fault) → Some (Forced n) ≡ Some (Refused fault) → ⊥
forced_not n fault e = absurd cc

checkpointed_not : (n : ℕ) (fault : Fault) → Some (Checkpointed n) ≡ Some (Refused fault) → ⊥
checkpointed_not n fault e = absurd cc

-- the number that a commit or a checkpoint tells
kept_of : {S : Type 0} (g : Ghosts S) (upkeep : Upkeep) (answer : Answer) (x y : Moment S) → UpkeepIsDone g upkeep answer x y ⊎ Stays g answer x y
    → (count : ℕ) → kept_answer upkeep count ≡ Some answer → (count ≡ length x.history) × (count ≤ (g.backing y.store).durable)
kept_of g Forces answer x y (inl d) count e = (let n = forced_same count (length x.history) (e ∙ sym d.tells.told) in let durable = d.tells.durable in (n, omega (arith, n, durable)))
kept_of g Checkpoints answer x y (inl d) count e = (let n = checkpointed_same count (length x.history) (e ∙ sym d.tells.told) in let durable = d.tells.durable in (n, omega (arith, n, durable)))
kept_of g Forces answer x y (inr h) count e = absurd (forced_not count h.fault (e ∙ ap Some h.refused))
kept_of g Checkpoints answer x y (inr h) count e = absurd (checkpointed_not count h.fault (e ∙ ap Some h.refused))
kept_of g Flushes answer x y h count e = absurd cc

-- a beginning under the lock, and what it leaves there
module _ {S T J : Type 0} {g : Ghosts S} {rows : SetGhosts T} {past : OriginOnGhosts J S} {j : OriginGhosts J} {group : GroupGhosts J} (self : Live S T J g rows past j group) (world : World S T)
    (next : IsMadeByEvent g (inside rows self.world) (inside rows world)) (s : ℕ) (p : PendingCall) (idle : slice_get (pending_in self) s ≡ Some None)
    (event : Event) (event_is : event ≡ event_of s p.asked) (answer : Answer)
    (goes : ForEachHistory g (inside rows self.world) (inside rows world) (EventFollows g (inside rows self.world) (inside rows world) event answer))
    (sure : EventAlways g (kind_of event) answer (inside rows self.world) (inside rows world)) (from : p.from ≡ (g.state self.world.store).acts) (seen : p.seen ≡ length (log_in self))
    (given : p.given ≡ []) (named : rows_asked (inside rows self.world).sets p.asked ≡ p.rows) where
  abbrev w : StoreAndSlots S
  w = inside rows self.world

  abbrev v : StoreAndSlots S
  v = inside rows world

  -- its session runs nothing
  free : has_call w.slots s ≡ false
  free = rests_there w.slots (pending_in self) s self.matches idle

  -- the event is the job's, and so is what holds of it whatever the pages are
  kind : kind_of event ≡ begins s p.asked
  kind = ap kind_of event_is

  always : EventAlways g (begins s p.asked) answer w v
  always = subst (λ (kd : Kind). EventAlways g kd answer w v) kind sure

  -- what it makes of the world
  makes : EventEffect g (kind_of event) answer w v
  makes = makes_of g event answer w v next.sessions goes sure

  -- which set it is to remove
  removes : IsToRemove j.handed p.asked p.rows (set_asked w.sets p.asked)
  removes = record { rows_are = sym named; stays = asked_still self p.asked }

  -- its call has begun
  begin_keeps_begun : answer ≡ Begun → KeepsWith self w (pending_in self) (log_in self) → KeepsWith self v (slice_set (pending_in self) s (Some p)) (log_in self)
  begin_keeps_begun told all honest contents acts calls so = by (asks_one s p.asked)
    where
      by : AsksCall s p.asked ⊎ AsksStore s p.asked → KeepsFitting g j.handed contents acts calls (j.kept_then contents acts calls) v self.start (slice_set (pending_in self) s (Some p)) (log_in self)
      by (inl a) =
          let k = all (next.later.honest honest) contents acts calls so in
          let r = goes honest contents k.history k.calls k.fit in
          let was = snapshot_of w k.history k.calls in
          let new = snapshot_of v r.then_history r.then_calls in
          let does = subst (λ (kd : Kind). EventDoes g contents kd answer was new) (kind ∙ a.kind) (goes_does r.goes) in
          let b : HasBegun s a.request was new = subst (λ (x : Answer). BeginMeans s a.request (begun_of x) was new) told (begins_told g contents s a.request answer was new does) in
          keeps_begun g contents acts calls (j.kept_then contents acts calls) w v j.handed self.start (pending_in self) (log_in self) k next.later.durable s p a.request idle
          a.asks removes (from ∙ k.fit.explains.count) seen given
          (subst (λ (m : Moment S). Fits g contents m) (λ i. snapshot_of v (b.history_is i) (b.calls_is i)) r.fits)
          (λ h. subst (λ (m : Moment S). KeepsHistory g contents m) (λ i. snapshot_of v (b.history_is i) (b.calls_is i)) (r.goes.crash h).keeps)
      by (inr a) = absurd (upkeep_not_begun a.upkeep w.slots v.slots
          (subst (λ (x : Answer). AnswersEvent (MaintainsStore a.upkeep) x w.slots v.slots) told (subst (λ (kd : Kind). AnswersEvent kd answer w.slots v.slots) a.kind always.answers)))

  -- it is refused as it begins, or is done whole
  begin_keeps_done : RefusedCallsFit g → (answer ≡ Begun → ⊥) → s < length v.slots → KeepsWith self w (pending_in self) (log_in self)
      → KeepsWith self v (pending_in self) ((log_in self) ++ completed_of s p answer p.from ∷ [])
  begin_keeps_done law never within all honest contents acts calls so =
      subst (λ l. KeepsFitting g j.handed contents acts calls (j.kept_then contents acts calls) v self.start l ((log_in self) ++ completed_of s p answer p.from ∷ []))
      (set_same (pending_in self) s None idle) (by (asks_one s p.asked))
    where
      by : AsksCall s p.asked ⊎ AsksStore s p.asked
          → KeepsFitting g j.handed contents acts calls (j.kept_then contents acts calls) v self.start (slice_set (pending_in self) s None) ((log_in self) ++ completed_of s p answer p.from ∷ [])
      by (inl a) =
          let k = all (next.later.honest honest) contents acts calls so in
          let r = goes honest contents k.history k.calls k.fit in
          let was = snapshot_of w k.history k.calls in
          let new = snapshot_of v r.then_history r.then_calls in
          let does = subst (λ (kd : Kind). EventDoes g contents kd answer was new) (kind ∙ a.kind) (goes_does r.goes) in
          let f = refused_of answer (subst (λ (kd : Kind). AnswersEvent kd answer w.slots v.slots) a.kind always.answers) never in
          let t : NothingIsDone f.0 was new = subst (λ (x : Answer). BeginMeans s a.request (begun_of x) was new) f.1 (begins_told g contents s a.request answer was new does) in
          let fits = subst (λ (m : Moment S). Fits g contents m) (λ i. snapshot_of v (t.silent.history_is i) (t.silent.calls_is i)) r.fits in
          let keeps = λ (h : KeepsHistory g contents was).
          subst (λ (m : Moment S). KeepsHistory g contents m) (λ i. snapshot_of v (t.silent.history_is i) (t.silent.calls_is i)) (r.goes.crash h).keeps in
          subst (λ (x : Answer).
          KeepsFitting g j.handed contents acts calls (j.kept_then contents acts calls) v self.start (slice_set (pending_in self) s None) ((log_in self) ++ completed_of s p x p.from ∷ [])) (sym f.1)
          (keeps_refused g contents acts calls (j.kept_then contents acts calls) w v j.handed self.start (pending_in self) (log_in self) k next.later.durable s p a.request
          f.0 idle a.asks removes (from ∙ k.fit.explains.count) seen given
          (begins_settled g w.store (one_vacuums w.slots) w.sets a.request (slice_get w.slots s) f.0
          (subst (λ (x : Answer). IsCaused (causes_of_begun_at g w.store (one_vacuums w.slots) w.sets a.request (slice_get w.slots s)) x) f.1
          (subst (λ (kd : Kind). EventAlways g kd answer w v) a.kind always).causes))
          (law contents (snapshot_of v k.history k.calls) s (asked_by w.sets a.request) f.0 fits within t.not_exists t.not_key_exists)
          (λ h. (let kept = keeps h in record { own = kept.own; parts = kept.parts; durable = kept.durable })))
      by (inr a) =
          let k = all (next.later.honest honest) contents acts calls so in
          let r = goes honest contents k.history k.calls k.fit in
          let was = snapshot_of w k.history k.calls in
          let new = snapshot_of v r.then_history r.then_calls in
          let does = subst (λ (kd : Kind). EventDoes g contents kd answer was new) (kind ∙ a.kind) (goes_does r.goes) in
          let silent : IsSameHistory was new = keeps_silent g contents a.upkeep answer was new does in
          let since : p.from ≡ length k.history = from ∙ k.fit.explains.count in
          keeps_upkept g contents acts calls (j.kept_then contents acts calls) w v j.handed self.start (pending_in self) (log_in self) k next.later.durable s p a.upkeep
          answer idle a.asks since seen (ap (λ (l : List Entry). length l) given)
          (subst (λ (kd : Kind). AnswersEvent kd answer w.slots v.slots) a.kind always.answers)
          (λ count e. (let n = kept_of g a.upkeep answer was new does.also.happens count e in (n.0 ∙ sym since, n.1)))
          (subst (λ (m : Moment S). Fits g contents m) (λ i. snapshot_of v (silent.history_is i) (silent.calls_is i)) r.fits)
          (λ h. subst (λ (m : Moment S). KeepsHistory g contents m) (λ i. snapshot_of v (silent.history_is i) (silent.calls_is i)) (r.goes.crash h).keeps)

  -- what the sessions run: its own has begun a call
  begin_runs : answer ≡ Begun → (has_call v.slots s ≡ true) × OthersRunOn w.slots v.slots s
  begin_runs told = by (asks_one s p.asked)
    where
      by : AsksCall s p.asked ⊎ AsksStore s p.asked → (has_call v.slots s ≡ true) × OthersRunOn w.slots v.slots s
      by (inl a) =
          let m = subst (λ (kd : Kind). EventAlways g kd answer w v) a.kind always in
          (sym (busy_is v.slots s) ∙ rw (m.fresh told) refl, (λ t n. ap slot_has_call (m.others s refl t n)))
      by (inr a) = absurd (upkeep_not_begun a.upkeep w.slots v.slots
          (subst (λ (x : Answer). AnswersEvent (MaintainsStore a.upkeep) x w.slots v.slots) told (subst (λ (kd : Kind). AnswersEvent kd answer w.slots v.slots) a.kind always.answers)))

  -- ... or all as before
  done_runs : (answer ≡ Begun → ⊥) → (t : ℕ) → has_call v.slots t ≡ has_call w.slots t
  done_runs never t = by (asks_one s p.asked)
    where
      by : AsksCall s p.asked ⊎ AsksStore s p.asked → has_call v.slots t ≡ has_call w.slots t
      by (inl a) =
          let m = subst (λ (kd : Kind). EventAlways g kd answer w v) a.kind always in
          let f = refused_of answer m.answers never in
          ap (λ l. has_call l t) (m.refused f.0 f.1).slots_is
      by (inr a) =
          let m = subst (λ (kd : Kind). EventAlways g kd answer w v) a.kind always in
          ap slot_has_call (m.others (suc t) tt t (λ e. omega (arith, e)))

  -- no action is logged
  begin_acts : (g.state v.store).acts ≡ (g.state w.store).acts
  begin_acts = by (asks_one s p.asked)
    where
      by : AsksCall s p.asked ⊎ AsksStore s p.asked → (g.state v.store).acts ≡ (g.state w.store).acts
      by (inl a) = (subst (λ (kd : Kind). EventAlways g kd answer w v) a.kind always).calm
      by (inr a) = (subst (λ (kd : Kind). EventAlways g kd answer w v) a.kind always).calm

  -- after it the job runs
  pub begun_leaves : answer ≡ Begun → CarriesOn self world (slice_set (pending_in self) s (Some p)) (log_in self)
  begun_leaves told =
      let runs = begin_runs told in
      record {
        keeps = begin_keeps_begun told;
        acts = λ a. acts_begun g j.handed w v (pending_in self) (log_in self) a s p free idle named from seen given
            (subst (λ (x : Event × Answer). EventEffect g (kind_of x.0) x.1 w v) (λ i. (event_is i, told i)) makes);
        matches = matches_runs w.slots v.slots (pending_in self) s p (get_within (pending_in self) s None idle) runs.0 runs.1;
        long = length-set (pending_in self) s (Some p);
        next = next;
      }

  -- ... or is recorded
  pub done_leaves : RefusedCallsFit g → (answer ≡ Begun → ⊥) → CarriesOn self world (pending_in self) ((log_in self) ++ completed_of s p answer p.from ∷ [])
  done_leaves law never =
      let inside_it = get_within (pending_in self) s None idle in
      record {
        keeps = begin_keeps_done law never (omega (arith, inside_it, self.seats, next.sessions));
        acts = λ a. acts_at_once g j.handed w v (pending_in self) (log_in self) a s p answer free named from seen given never (begin_acts ∙ sym from)
            (subst (λ (e : Event). EventEffect g (kind_of e) answer w v) event_is makes);
        matches = matches_stays w.slots v.slots (pending_in self) (done_runs never);
        long = refl;
        next = next;
      }

-- no beginning answers that a call has ended
pub begins_no_end : {S : Type 0} (g : Ghosts S) (s : ℕ) (job : Job) (answer : Answer) (w v : StoreAndSlots S) → EventAlways g (begins s job) answer w v → answer ≡ Ended → ⊥
begins_no_end g s job answer w v always e = by (asks_one s job)
  where
    upkeep_no_end : (upkeep : Upkeep) → AnswersEvent (MaintainsStore upkeep) Ended w.slots v.slots → ⊥
    upkeep_no_end Forces h = h
    upkeep_no_end Flushes h = h
    upkeep_no_end Checkpoints h = h

    by : AsksCall s job ⊎ AsksStore s job → ⊥
    by (inl a) = subst (λ (x : Answer). AnswersBeginning x) e (subst (λ (kd : Kind). AnswersEvent kd answer w.slots v.slots) a.kind always.answers)
    by (inr a) = upkeep_no_end a.upkeep (subst (λ (x : Answer). AnswersEvent (MaintainsStore a.upkeep) x w.slots v.slots) e (subst (λ (kd : Kind). AnswersEvent kd answer w.slots v.slots) a.kind always.answers))
