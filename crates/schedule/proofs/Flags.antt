-- Over a run the splits are finished that a session's calls begin.
use Rattle.std.proofs.Common.{◌≡◌, ◌≢◌, ℕ, suc, ◌&&◌, if◌then◌else◌, Bool, false, Option, Some, None, List, [], ◌∷◌, ◌++◌, slice_get, refl, sym, ap, subst, arith, inl, inr, ◌∙◌}
use Rattle.schedule.proofs.Imports.{unwrap_or, cases_eq, Entry, State, Ghosts, Page, OnlyTargetsAreIncomplete, ScanOp, op_before, op_targets, call_kind, ScanKind, RunsOn, OnlyOwnAreIncomplete}
use Rattle.schedule.proofs.Imports.{LeavesOwnIncomplete, RefusalChangesNothing, RunsUntilLast, AnswersNext, GivesLess, is_busy, slot_of, Answer, Begun, Going, Added, Ready, Done, Finished, Gave}
use Rattle.schedule.proofs.Imports.{Ended, Forced, Flushed, Checkpointed, Refused, Op, Insert, Scan, Bulk, Cleanup, Request, ToInsert, ToScan, ToBulk, ToCleanup, EventDoes, IsOfSession, Stays}
use Rattle.schedule.proofs.Imports.{MayBegin, IsUnfailed, LeavesNoneIncomplete, SplitsAreFinished, Steps, Takes, GivesUp, Kind, BeginsCall, MovesCall, MaintainsStore, kind_of, Moment}
use Rattle.schedule.proofs.Fitting.{goes_does}

-- flags are of the pages and of what the session runs
same_flags : (old new : State) (slot : Option Op) → new.pages ≡ old.pages → OnlyOwnAreIncomplete old slot → OnlyOwnAreIncomplete new slot
same_flags old new None same h = subst (λ (pages : List Page). OnlyTargetsAreIncomplete (record new { pages = pages }) []) (sym same) h
same_flags old new (Some op) same h = subst (λ (pages : List Page). OnlyTargetsAreIncomplete (record new { pages = pages }) (op_targets op)) (sym same) h

-- a call that begins has no split to finish
fresh_flags : (st : State) (session : ℕ) (request : Request) → OnlyOwnAreIncomplete st None → OnlyOwnAreIncomplete st (Some (op_before session request))
fresh_flags st session (ToInsert e) h = h
fresh_flags st session (ToScan range) h = h
fresh_flags st session (ToBulk set) h = h
fresh_flags st session ToCleanup h = h

-- nor has a scan
scan_flags : (st : State) (op : Op) → call_kind op ≡ ScanKind → OnlyOwnAreIncomplete st None → OnlyOwnAreIncomplete st (Some op)
scan_flags st (Insert op) is h = absurd cc
scan_flags st (Scan op) is h = h
scan_flags st (Bulk set op) is h = absurd cc
scan_flags st (Cleanup op) is h = absurd cc

-- a slot that is empty after the last answer
emptied : (before after : Option Op) → is_busy after ≡ (is_busy before && false) → after ≡ None
emptied before None h = refl
emptied None (Some op) h = absurd cc
emptied (Some b) (Some op) h = absurd cc

-- after a step
step_flags : (old new : State) (before after : Option Op) (answer : Answer) → LeavesOwnIncomplete new before after answer → RunsUntilLast before after answer
    → RefusalChangesNothing old new before after answer → IsUnfailed answer → OnlyOwnAreIncomplete new after
step_flags old new before after (Added action None) h last refused clean = subst (λ (o : Option Op). OnlyOwnAreIncomplete new o) (sym (emptied before after last)) h
step_flags old new before after (Added action (Some fault)) h last refused clean = absurd clean
step_flags old new None after (Refused fault) h last refused clean = subst (λ (o : Option Op). OnlyOwnAreIncomplete new o) (sym refused.1) h
step_flags old new (Some op) after (Refused fault) h last refused clean =
    subst (λ (o : Option Op). OnlyOwnAreIncomplete new o) (sym (refused.slot_is ∙ ap (λ (b : Bool). if b then None else Some op) clean)) h
step_flags old new before after Begun h last refused clean = h
step_flags old new before after Going h last refused clean = h
step_flags old new before after (Ready count) h last refused clean = h
step_flags old new before after Done h last refused clean = h
step_flags old new before after (Finished stats) h last refused clean = h
step_flags old new before after (Gave entry) h last refused clean = h
step_flags old new before after Ended h last refused clean = h
step_flags old new before after (Forced count) h last refused clean = h
step_flags old new before after (Flushed block) h last refused clean = h
step_flags old new before after (Checkpointed count) h last refused clean = h

-- asking for the next entry leaves a scan, and any other call as it was
scan_stays : (st : State) (after : Option Op) (op : ScanOp) → RunsOn (Some (Scan op)) after → OnlyOwnAreIncomplete st None → OnlyOwnAreIncomplete st after
scan_stays st None op on h = h
scan_stays st (Some next) op on h = scan_flags st next on h

taken : (st : State) (before after : Option Op) (answer : Answer) → AnswersNext before answer → GivesLess before after answer → RunsOn before after
    → OnlyOwnAreIncomplete st before → OnlyOwnAreIncomplete st after
taken st (Some (Scan op)) after (Gave (Some e)) may less on h = scan_stays st after op on h
taken st (Some (Scan op)) after (Gave None) may less on h = subst (λ (o : Option Op). OnlyOwnAreIncomplete st o) (sym less.0) h
taken st (Some (Scan op)) after answer may less on h = absurd may
taken st before after (Refused fault) may less on h = subst (λ (o : Option Op). OnlyOwnAreIncomplete st o) (sym less.0) h
taken st before after answer may less on h = absurd may

module _ {S : Type 0} (g : Ghosts S) (start : Entry → Bool) (session : ℕ) (old new : Moment S) (own : OnlyOwnAreIncomplete (g.state old.store) (slot_of old.slots session)) where
  abbrev Own : Type 0
  Own = OnlyOwnAreIncomplete (g.state new.store) (slot_of new.slots session)

  -- pages and slot are as they were
  stays : (g.state new.store).pages ≡ (g.state old.store).pages → slot_of new.slots session ≡ slot_of old.slots session → Own
  stays pages slot = subst (λ (o : Option Op). OnlyOwnAreIncomplete (g.state new.store) o) (sym slot) (same_flags (g.state old.store) (g.state new.store) (slot_of old.slots session) pages own)

  -- an event of no session, or of another one, that does no act
  elsewhere : (kind : Kind) (answer : Answer) → EventDoes g start kind answer old new → (of : ℕ) → IsOfSession of kind → session ≢ of → (g.state new.store).pages ≡ (g.state old.store).pages → Own
  elsewhere kind answer does of is apart pages = stays pages (ap (λ (o : Option (Option Op)). unwrap_or o None) (does.also.always.others of is session apart))

  still : (kind : Kind) (answer : Answer) → EventDoes g start kind answer old new → (g.state new.store).acts ≡ (g.state old.store).acts → (g.state new.store).pages ≡ (g.state old.store).pages
  still kind answer does calm = does.also.always.kept.quiet calm

  -- its own beginning
  begins : (request : Request) (answer : Answer) → EventDoes g start (BeginsCall session request) answer old new → (o : Option (Option Op))
      → slice_get old.slots session ≡ o → MayBegin g o session request answer old new → Own
  begins request answer does o at may = by o at may
    where
      unchanged : Stays g answer old new → Own
      unchanged h =
          let same = does.also.always.refused h.fault h.refused in
          stays (ap (λ (st : State). st.pages) same.state_is) (ap (λ (slots : List (Option Op)). slot_of slots session) same.slots_is)

      by : (o : Option (Option Op)) → slice_get old.slots session ≡ o → MayBegin g o session request answer old new → Own
      by None at h = unchanged h
      by (Some (Some op)) at h = unchanged h
      by (Some None) at (inr h) = unchanged h
      by (Some None) at (inl h) =
          let none : OnlyOwnAreIncomplete (g.state old.store) None = subst (λ (x : Option (Option Op)). OnlyOwnAreIncomplete (g.state old.store) (unwrap_or x None)) at own in
          subst (λ (x : Option Op). OnlyOwnAreIncomplete (g.state new.store) x) (sym (does.also.always.fresh h.told))
          (fresh_flags (g.state new.store) session request (same_flags (g.state old.store) (g.state new.store) None (still (BeginsCall session request) answer does does.also.always.calm) none))

  event_flags : (kind : Kind) (answer : Answer) → EventDoes g start kind answer old new → ((IsOfSession session kind → ⊥) → new.history ≡ old.history) → LeavesNoneIncomplete session kind answer → Own
  event_flags (MaintainsStore upkeep) answer does quiet clean =
      elsewhere (MaintainsStore upkeep) answer does (suc session) tt (λ e. absurd (let x : session ≡ suc session = e in omega arith)) (still (MaintainsStore upkeep) answer does does.also.always.calm)
  event_flags (BeginsCall of request) answer does quiet clean = elim (cases_eq of session) [
    | inl e ↦ (
        let its : EventDoes g start (BeginsCall session request) answer old new = subst (λ (s : ℕ). EventDoes g start (BeginsCall s request) answer old new) e does in
        begins request answer its (slice_get old.slots session) refl its.also.happens)
    | inr n ↦ elsewhere (BeginsCall of request) answer does of refl (λ e. n (sym e)) (still (BeginsCall of request) answer does does.also.always.calm)
  ]
  event_flags (MovesCall of Takes) answer does quiet clean =
      let pages = still (MovesCall of Takes) answer does does.also.always.calm in
      elim (cases_eq of session) [
        | inl e ↦ (
            let its : EventDoes g start (MovesCall session Takes) answer old new = subst (λ (s : ℕ). EventDoes g start (MovesCall s Takes) answer old new) e does in
            taken (g.state new.store) (slot_of old.slots session) (slot_of new.slots session) answer its.also.always.answers its.also.always.less its.also.always.runs_on
            (same_flags (g.state old.store) (g.state new.store) (slot_of old.slots session) pages own))
        | inr n ↦ elsewhere (MovesCall of Takes) answer does of refl (λ e. n (sym e)) pages
      ]
  event_flags (MovesCall of GivesUp) answer does quiet apart =
      elsewhere (MovesCall of GivesUp) answer does of refl (λ e. apart (sym e)) (still (MovesCall of GivesUp) answer does does.also.always.calm)
  event_flags (MovesCall of Steps) answer does quiet clean = elim (cases_eq of session) [
    | inl e ↦ (
        let its : EventDoes g start (MovesCall session Steps) answer old new = subst (λ (s : ℕ). EventDoes g start (MovesCall s Steps) answer old new) e does in
        step_flags (g.state old.store) (g.state new.store) (slot_of old.slots session) (slot_of new.slots session) answer
        (its.also.followed.fitted.incomplete own) its.also.always.until_last its.also.always.refused (clean e))
    | inr n ↦ elsewhere (MovesCall of Steps) answer does of refl (λ e. n (sym e)) (does.also.quiet.pages (quiet n))
  ]

pub splits_are_finished : {S : Type 0} (g : Ghosts S) → SplitsAreFinished g
splits_are_finished {S} g start told [] [] first last run session quiet clean own =
    subst (λ (m : Moment S). OnlyOwnAreIncomplete (g.state m.store) (slot_of m.slots session)) run own
splits_are_finished g start told (event ∷ events) (answer ∷ answers) first last run session quiet clean own =
    let one = event_flags g start session first run.1.0 own (kind_of event) answer (goes_does run.1.1) quiet.0 clean.0 in
    splits_are_finished g start (told ++ answer ∷ []) events answers run.1.0 last run.1.2 session quiet.1 clean.1 one
splits_are_finished g start told [] (answer ∷ answers) first last run session quiet clean own = absurd run
splits_are_finished g start told (event ∷ events) [] first last run session quiet clean own = absurd run
