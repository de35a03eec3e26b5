-- The steps of an insert over histories.
use Rattle.std.proofs.Common.{◌≡◌, ◌≢◌, ℕ, suc, Bool, true, Option, Some, None, Err, List, length, refl, sym, ap, subst, ◌∙◌}
use Rattle.session_calls.proofs.Imports.{Effect, Add, Remove, Shape, Action, contents_after, Ask, AskInsert, Call, Circumstances, HasCause, Entry, Fault, NoMemory, Io, Stopped, Blocked, Exists}
use Rattle.session_calls.proofs.Imports.{KeyTooLong, BadRow, IndexFull, LogFull, NoFrame, VacuumRunning, NoSession, SessionBusy, BadSuper, BadVersion, LogDamaged, PageDamaged, BadLimits, TooTall}
use Rattle.session_calls.proofs.Imports.{DeviceTooSmall, KeyExists, other_row_is_there, entry_on_live_leaf, State, Backing, HasEffect, IsNoted, IsLeft, InsertContinues, InsertEnds, InsertStays}
use Rattle.session_calls.proofs.Imports.{causes_of_inserting, is_blocked, IsRefusedRightly, InsertOp, ends_call, DeadSets, causes_of_stepped, once_added, IsFaultCaused, CallFits, IsAsked}
use Rattle.session_calls.proofs.Imports.{add_after, OpEvent, Going, Added, Refused, Insert}
use Rattle.session_calls.proofs.Effects.{works_on}
use Rattle.session_calls.proofs.Going.{step_goes_on, step_adds, step_is_refused}

-- a page that is blocked ends no call
blocked_goes_on : (fault : Fault) → is_blocked fault ≡ true → ends_call fault ≡ true → ⊥
blocked_goes_on (Blocked b) h ends = cc
blocked_goes_on NoMemory h ends = cc
blocked_goes_on Io h ends = cc
blocked_goes_on Stopped h ends = cc
blocked_goes_on Exists h ends = cc
blocked_goes_on KeyTooLong h ends = cc
blocked_goes_on BadRow h ends = cc
blocked_goes_on IndexFull h ends = cc
blocked_goes_on LogFull h ends = cc
blocked_goes_on NoFrame h ends = cc
blocked_goes_on VacuumRunning h ends = cc
blocked_goes_on NoSession h ends = cc
blocked_goes_on SessionBusy h ends = cc
blocked_goes_on BadSuper h ends = cc
blocked_goes_on BadVersion h ends = cc
blocked_goes_on LogDamaged h ends = cc
blocked_goes_on (PageDamaged b) h ends = cc
blocked_goes_on BadLimits h ends = cc
blocked_goes_on TooTall h ends = cc
blocked_goes_on DeviceTooSmall h ends = cc
blocked_goes_on (KeyExists r) h ends = cc

-- an insert whose entry is logged isn't ended by a refusal
pub none_logged : (added : Option ℕ) (fault : Fault) → IsRefusedRightly added (Err fault) → ends_call fault ≡ true → added ≡ None
none_logged None fault h ends = refl
none_logged (Some action) fault h ends = absurd (blocked_goes_on fault h ends)

module _ {sets : DeadSets} (old new : State) (first second : Backing) (start : Entry → Bool) (history : List Action) (number : ℕ) (call : Call) (before after : InsertOp)
    (fits : CallFits old sets start history number call (Insert before)) (session : after.session ≡ before.session) (entry : after.entry ≡ before.entry) where
  abbrev at_op : Circumstances
  at_op = causes_of_stepped sets (Insert before) old first second

  -- what is noted of a step is the number of its Add
  noted_is : (effect : Option Effect) (now : Option ℕ) → IsNoted effect old.acts before.entry before.added now → now ≡ add_after before.added (suc (length history)) effect
  noted_is None now h = h
  noted_is (Some (Add x)) now h = h.2 ∙ ap (λ (n : ℕ). Some (suc n)) fits.world.count
  noted_is (Some (Remove es)) now h = absurd h
  noted_is (Some Shape) now h = h

  asked_of_entry : (effect : Option Effect) (now : Option ℕ) → HasEffect effect old new → IsNoted effect old.acts before.entry before.added now
      → IsAsked (contents_after start history) (AskInsert before.entry) before.added effect
  asked_of_entry None now changes h = tt
  asked_of_entry (Some (Add x)) now changes h = ((sym h.0, h.1), sym (fits.world.contents x) ∙ changes.apt)
  asked_of_entry (Some (Remove es)) now changes h = absurd h
  asked_of_entry (Some Shape) now changes h = (tt, tt)

  asked : (effect : Option Effect) (now : Option ℕ) → HasEffect effect old new → IsNoted effect old.acts before.entry before.added now
      → IsAsked (contents_after start history) call.ask call.added effect
  asked effect now changes h =
      subst (λ (a : Ask). IsAsked (contents_after start history) a call.added effect) (sym fits.runs.ask)
      (subst (λ (o : Option ℕ). IsAsked (contents_after start history) (AskInsert before.entry) o effect) (sym fits.runs.added) (asked_of_entry effect now changes h))

  pub insert_goes_on : InsertContinues old new before after → OpEvent at_op old new sets start history number call (Insert after) Going
  insert_goes_on step =
      step_goes_on at_op old new start history number call (Insert before) (Insert after) fits session (ap AskInsert entry) step.effect
      (works_on before.session (AskInsert before.entry) step.effect old new refl step.does)
      (asked step.effect after.added step.does.changes step.noted) (noted_is step.effect after.added step.noted) step.fits tt tt

  left_caused : (effect : Option Effect) (unfinished : Option Fault) → IsLeft old first new second before effect unfinished → IsFaultCaused (once_added at_op) unfinished
  left_caused effect None h = tt
  left_caused effect (Some fault) h = h.1

  left_quiet : (effect : Option Effect) (unfinished : Option Fault) → IsLeft old first new second before effect unfinished → unfinished ≢ None → effect ≡ None
  left_quiet effect None h some = absurd (some refl)
  left_quiet effect (Some fault) h some = h.0

  pub insert_ends : (action : ℕ) (unfinished : Option Fault) → InsertEnds old first new second before action unfinished
      → OpEvent at_op old new sets start history number call (Insert after) (Added action unfinished)
  insert_ends action unfinished step =
      step_adds at_op old new start history number call (Insert before) (Insert after) fits session (ap AskInsert entry) before.entry action
      unfinished step.effect refl (works_on before.session (AskInsert before.entry) step.effect old new refl step.does)
      (asked step.effect (Some action) step.does.changes step.noted) (sym (noted_is step.effect (Some action) step.noted)) (left_caused step.effect unfinished step.left)
      (left_quiet step.effect unfinished step.left)

  pub insert_is_refused : (fault : Fault) → InsertStays old new before after → IsRefusedRightly before.added (Err fault)
      → HasCause (causes_of_inserting old first second before.session before.entry before.at) fault → OpEvent at_op old new sets start history number call (Insert after) (Refused fault)
  insert_is_refused fault stays rightly cause =
      step_is_refused at_op old new start history number call (Insert before) (Insert after) fits session (ap AskInsert entry) fault stays.state
      (ap Insert stays.op) cause (none_logged before.added fault rightly)
      (λ e asks there. (let same : before.entry ≡ e = cc in subst (λ (x : Entry). entry_on_live_leaf old.pages x ≡ true) same there))
      (λ e asks r there. (let same : before.entry ≡ e = cc in subst (λ (x : Entry). other_row_is_there old x r ≡ true) same there))
