-- The steps of a call that is due, counted down.
use Rattle.std.proofs.Common.{◌≡◌, ℕ, suc, ◌<◌, Bool, true, false, true≢false, Option, Some, None, List, length, slice_get, refl, sym, ap, subst, ◌∙◌, arith}
use Rattle.index_model.specs.declared.format.Format.{Format}
use Rattle.page_codec.specs.Edits.{entries_of}
use Rattle.tree_shape.specs.Walks.{entry_aim, frontier_aim}
use Rattle.tree_shape.specs.Nodes.{nodes_of, node_from}
use Rattle.insert_split.specs.Straight.{straight_steps as insert_steps, IsStraight as IsOnEntryWay, HasRoomFor}
use Rattle.insert_split.specs.declared.insert.InsertAt.{InsertAt}
use Rattle.insert_split.specs.declared.insert.InsertAt.TheVariants.{Coming, Finishing}
use Rattle.insert_split.specs.declared.insert.Stage.TheVariants.{Start as InsertStart, At as InsertReads, Holding}
use Rattle.scan.specs.Straight.{scan_straight_steps as scan_steps, ScanIsStraight as IsOnFrontierWay}
use Rattle.session_calls.proofs.Imports.{Effect, Add, Remove, Shape, Bound, Entry, Page, with_row, entry_on_live_leaf, State, HasCover, HasEffect, MovesFlags, NoneIsIncomplete, IsNoted, IsToCome}
use Rattle.session_calls.proofs.Imports.{InsertContinues, InsertOp, waiting, IsMoving, ScanAt, ScanStart, ScanReads, Last, ScanOp, IsKeyAbsent, InsertIsDue, ScanIsDue, IsDueIn, IsHindered}
use Rattle.session_calls.proofs.Imports.{DueCountsDown, Fault, NoMemory, Io, Stopped, Blocked, Exists, KeyTooLong, BadRow, IndexFull, LogFull, NoFrame, VacuumRunning, NoSession, SessionBusy}
use Rattle.session_calls.proofs.Imports.{BadSuper, BadVersion, LogDamaged, PageDamaged, BadLimits, TooTall, DeviceTooSmall, KeyExists, OnlyOwnAreIncomplete, LeavesOwnIncomplete, Answer, Begun}
use Rattle.session_calls.proofs.Imports.{Going, Added, Ready, Done, Finished, Gave, Ended, Forced, Flushed, Checkpointed, Refused, Op, Insert, Scan, Bulk, Cleanup}

abbrev paged : State → List Page → State
paged st pages = record st { pages = pages }

-- what covers a place, covers it in each state with these pages
cover_still : (old new : State) (level : ℕ) (aim : Bound → Bool) (block : ℕ) → new.pages ≡ old.pages → HasCover old level aim block → HasCover new level aim block
cover_still old new level aim block same c =
    let at_old : HasCover (paged old old.pages) level aim block = record { tree = c.tree; in_tree = c.in_tree; covers = c.covers } in
    let at_new : HasCover (paged old new.pages) level aim block = subst (λ (ps : List Page). HasCover (paged old ps) level aim block) (sym same) at_old in
    record { tree = at_new.tree; in_tree = at_new.in_tree; covers = at_new.covers }

room_still : (old new : State) (e : Entry) → new.format ≡ old.format → new.pages ≡ old.pages → HasRoomFor old e → HasRoomFor new e
room_still old new e format same room page found cover =
    subst (λ (l : Format). length (entries_of page.items) < l.items) (sym format)
    (room page (sym (ap (λ (ps : List Page). slice_get ps page.block) same) ∙ found) (cover_still new old 0 (entry_aim e) page.block (sym same) cover))

insert_way_still : (old new : State) (e : Entry) (at : InsertAt) → new.pages ≡ old.pages → IsOnEntryWay old e at → IsOnEntryWay new e at
insert_way_still old new e (Coming InsertStart) same h = tt
insert_way_still old new e (Coming (InsertReads position)) same h = cover_still old new position.level (entry_aim e) position.block same h
insert_way_still old new e (Coming (Holding block)) same h = tt
insert_way_still old new e (Finishing op) same h = absurd h

scan_way_still : (old new : State) (frontier : Bound) (at : ScanAt) → new.pages ≡ old.pages → IsOnFrontierWay old frontier at → IsOnFrontierWay new frontier at
scan_way_still old new frontier ScanStart same h = tt
scan_way_still old new frontier (ScanReads position) same h = cover_still old new position.level (frontier_aim frontier) position.block same h
scan_way_still old new frontier Last same h = absurd h

-- a key that isn't there is so still
key_still : (old new : State) (e : Entry) → new.format ≡ old.format → new.pages ≡ old.pages → IsKeyAbsent old e → IsKeyAbsent new e
key_still old new e format same absent =
    λ unique r. ap (λ (ps : List Page). entry_on_live_leaf ps (with_row e r)) same ∙ absent (ap (λ (f : Format). f.unique) (sym format) ∙ unique) r

-- a call that is due stays so while pages and limits are as they were
pub due_still : (old new : State) (slot : Option Op) (steps : ℕ) → new.format ≡ old.format → new.pages ≡ old.pages → IsDueIn old slot steps → IsDueIn new slot steps
due_still old new None steps format same due = absurd due
due_still old new (Some (Bulk set op)) steps format same due = absurd due
due_still old new (Some (Cleanup op)) steps format same due = absurd due
due_still old new (Some (Insert op)) steps format same due = record {
  steps_are = due.steps_are ∙ sym (ap (λ (ps : List Page). insert_steps ps op.at) same);
  whole = subst NoneIsIncomplete (sym same) due.whole;
  position = insert_way_still old new op.entry op.at same due.position;
  absent = ap (λ (ps : List Page). entry_on_live_leaf ps op.entry) same ∙ due.absent;
  key_absent = key_still old new op.entry format same due.key_absent;
  room = room_still old new op.entry format same due.room;
}
due_still old new (Some (Scan op)) steps format same due = record {
  steps_are = due.steps_are ∙ sym (ap (λ (ps : List Page). scan_steps ps op.at) same);
  whole = subst NoneIsIncomplete (sym same) due.whole;
  position = scan_way_still old new op.frontier op.at same due.position;
  none = due.none;
}

none_incomplete : (pages : List Page) (block : ℕ) → NoneIsIncomplete pages → (nodes_of pages block).split ≡ false
none_incomplete pages block whole = by (slice_get pages block) refl
  where
    by : (found : Option Page) → slice_get pages block ≡ found → (node_from found).split ≡ false
    by None is = refl
    by (Some page) is = whole block page is

-- an insert on its way to its leaf isn't logged yet
not_logged : (st : State) (e : Entry) (at : InsertAt) (added : Option ℕ) → IsOnEntryWay st e at → IsToCome at added → added ≡ None
not_logged st e (Coming InsertStart) added position h = h
not_logged st e (Coming (InsertReads w)) added position h = h
not_logged st e (Coming (Holding block)) added position h = h
not_logged st e (Finishing op) added position h = absurd position

-- so a step on that way does no act, if no page has an incomplete split
quiet_on_way : (old new : State) (e : Entry) (was now : Option ℕ) (effect : Option Effect) → HasEffect effect old new → MovesFlags effect old new
    → IsNoted effect old.acts e was now → now ≡ None → NoneIsIncomplete old.pages → new.pages ≡ old.pages
quiet_on_way old new e was now None changes flags noted none whole = ap (λ (st : State). st.pages) changes
quiet_on_way old new e was now (Some (Add x)) changes flags noted none whole = absurd (let is : Some (suc old.acts) ≡ None = sym noted.2 ∙ none in cc)
quiet_on_way old new e was now (Some (Remove es)) changes flags noted none whole = absurd noted
quiet_on_way old new e was now (Some Shape) changes flags noted none whole = absurd (true≢false (sym flags.was ∙ none_incomplete old.pages flags.cleared whole))

some_steps : (st : State) (e : Entry) (at : InsertAt) → IsOnEntryWay st e at → 0 < insert_steps st.pages at
some_steps st e (Coming InsertStart) position = omega arith
some_steps st e (Coming (InsertReads w)) position = omega arith
some_steps st e (Coming (Holding block)) position = omega arith
some_steps st e (Finishing op) position = absurd position

-- an insert that goes on is due one step sooner
pub insert_counts : (old new : State) (before after : InsertOp) (left : ℕ) → InsertIsDue old before (suc left) → after.entry ≡ before.entry → InsertContinues old new before after
    → IsOnEntryWay new after.entry after.at → suc (insert_steps new.pages after.at) ≡ insert_steps old.pages before.at
    → DueCountsDown old new (Some (Insert before)) (Some (Insert after)) left Going
insert_counts old new before after left due same step position fewer =
    let none = not_logged new after.entry after.at after.added position step.fits.to_come in
    let pages = quiet_on_way old new before.entry before.added after.added step.effect step.does.changes step.does.flags step.noted none due.whole in
    let left_is : left ≡ insert_steps new.pages after.at = (let is : suc left ≡ suc (insert_steps new.pages after.at) = due.steps_are ∙ sym fewer in omega arith) in (
      subst (λ (n : ℕ). 0 < n) (sym left_is) (some_steps new after.entry after.at position),
      record {
        pages = pages;
        format = step.does.format;
        due = record {
          steps_are = left_is;
          whole = subst NoneIsIncomplete (sym pages) due.whole;
          position = position;
          absent = ap (λ (ps : List Page). entry_on_live_leaf ps after.entry) pages ∙ ap (entry_on_live_leaf old.pages) same ∙ due.absent;
          key_absent = key_still old new after.entry step.does.format pages (subst (IsKeyAbsent old) (sym same) due.key_absent);
          room = room_still old new after.entry step.does.format pages (subst (λ (e : Entry). HasRoomFor old e) (sym same) due.room);
        };
      },
    )

some_reads : (st : State) (frontier : Bound) (at : ScanAt) → IsOnFrontierWay st frontier at → 0 < scan_steps st.pages at
some_reads st frontier ScanStart position = omega arith
some_reads st frontier (ScanReads w) position = omega arith
some_reads st frontier Last position = absurd position

-- a scan that goes on is due one step sooner
pub scan_counts : (old new : State) (before after : ScanOp) (left : ℕ) → ScanIsDue old before (suc left) → IsMoving old new before after
    → IsOnFrontierWay old after.frontier after.at → suc (scan_steps old.pages after.at) ≡ scan_steps old.pages before.at
    → DueCountsDown old new (Some (Scan before)) (Some (Scan after)) left Going
scan_counts old new before after left due step position fewer =
    let pages : new.pages ≡ old.pages = ap (λ (st : State). st.pages) step.does.changes in
    let left_is : left ≡ scan_steps old.pages after.at = (let is : suc left ≡ suc (scan_steps old.pages after.at) = due.steps_are ∙ sym fewer in omega arith) in
    let then_due : ScanIsDue old after left = record {
      steps_are = left_is;
      whole = due.whole;
      position = position;
      none = ap (λ (op : ScanOp). waiting op) step.op ∙ step.none;
    } in (
      subst (λ (n : ℕ). 0 < n) (sym left_is) (some_reads old after.frontier after.at position),
      record { pages = pages; format = step.does.format; due = due_still old new (Some (Scan after)) left step.does.format pages then_due },
    )

-- what has an incomplete split is of the pages alone
own_on : (mid new : State) (slot : Option Op) → new.pages ≡ mid.pages → OnlyOwnAreIncomplete mid slot → OnlyOwnAreIncomplete new slot
own_on mid new None same h = λ block is. h block (subst (λ (ps : List Page). (nodes_of ps block).split ≡ true) same is)
own_on mid new (Some op) same h = λ block is. h block (subst (λ (ps : List Page). (nodes_of ps block).split ≡ true) same is)

pub incomplete_on : (mid new : State) (before after : Option Op) (answer : Answer) → new.pages ≡ mid.pages → LeavesOwnIncomplete mid before after answer → LeavesOwnIncomplete new before after answer
incomplete_on mid new before after (Added action (Some fault)) same h = own_on mid new before same h
incomplete_on mid new before after (Added action None) same h = own_on mid new None same h
incomplete_on mid new before after (Refused fault) same h = own_on mid new before same h
incomplete_on mid new before after Begun same h = own_on mid new after same h
incomplete_on mid new before after Going same h = own_on mid new after same h
incomplete_on mid new before after (Ready count) same h = own_on mid new after same h
incomplete_on mid new before after Done same h = own_on mid new after same h
incomplete_on mid new before after (Finished stats) same h = own_on mid new after same h
incomplete_on mid new before after (Gave entry) same h = own_on mid new after same h
incomplete_on mid new before after Ended same h = own_on mid new after same h
incomplete_on mid new before after (Forced count) same h = own_on mid new after same h
incomplete_on mid new before after (Flushed block) same h = own_on mid new after same h
incomplete_on mid new before after (Checkpointed count) same h = own_on mid new after same h

-- a call that is over isn't due
hindered_over : (old mid new : State) (steps : ℕ) (fault : Fault) → IsHindered old mid None steps fault → IsHindered old new None steps fault
hindered_over old mid new steps (Blocked b) h = absurd h.due
hindered_over old mid new steps NoMemory h = h
hindered_over old mid new steps Io h = h
hindered_over old mid new steps Stopped h = h
hindered_over old mid new steps Exists h = h
hindered_over old mid new steps KeyTooLong h = h
hindered_over old mid new steps BadRow h = h
hindered_over old mid new steps IndexFull h = h
hindered_over old mid new steps LogFull h = h
hindered_over old mid new steps NoFrame h = h
hindered_over old mid new steps VacuumRunning h = h
hindered_over old mid new steps NoSession h = h
hindered_over old mid new steps SessionBusy h = h
hindered_over old mid new steps BadSuper h = h
hindered_over old mid new steps BadVersion h = h
hindered_over old mid new steps LogDamaged h = h
hindered_over old mid new steps (PageDamaged b) h = h
hindered_over old mid new steps BadLimits h = h
hindered_over old mid new steps TooTall h = h
hindered_over old mid new steps DeviceTooSmall h = h
hindered_over old mid new steps (KeyExists r) h = h

pub counts_over : (old mid new : State) (before : Option Op) (left : ℕ) (answer : Answer) → DueCountsDown old mid before None left answer → DueCountsDown old new before None left answer
counts_over old mid new before left Going h = absurd h.1.due
counts_over old mid new before left (Refused fault) h = hindered_over old mid new (suc left) fault h
counts_over old mid new before left Begun h = h
counts_over old mid new before left (Added action unfinished) h = h
counts_over old mid new before left (Ready count) h = h
counts_over old mid new before left Done h = h
counts_over old mid new before left (Finished stats) h = h
counts_over old mid new before left (Gave entry) h = h
counts_over old mid new before left Ended h = h
counts_over old mid new before left (Forced count) h = h
counts_over old mid new before left (Flushed block) h = h
counts_over old mid new before left (Checkpointed count) h = h
