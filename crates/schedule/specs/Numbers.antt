-- The page numbers that a running call keeps from one step to the next lead on to their pages.
use Rattle.std.specs.Prelude.{◌≡◌, ◌≢◌, ℕ, ◌<◌, Bool, Option, Some, None, List, [], ◌∷◌, ◌++◌, map, length}
use Rattle.index_model.specs.declared.bound.Bound.{Bound}
use Rattle.index_model.specs.declared.entry.Entry.{Entry}
use Rattle.page_codec.specs.declared.page.PageState.TheVariants.{Deleted}
use Rattle.page_action.specs.Reuse.{IsFresh}
use Rattle.page_action.specs.States.{State}
use Rattle.page_action.specs.declared.page_store.PageStore.{Ghosts}
use Rattle.tree_shape.specs.Nodes.{nodes_of}
use Rattle.tree_shape.specs.Walks.{entry_aim, bound_aim, frontier_aim}
use Rattle.tree_acts.specs.Trees.{HasCover}
use Rattle.descent.specs.declared.position.Position.{Position}
use Rattle.split_finish.specs.Targets.{targets_of}
use Rattle.split_finish.specs.declared.finish.FinishAt.{FinishAt}
use Rattle.split_finish.specs.declared.finish.FinishAt.TheVariants.{Start as FinishStart, Down as FinishDown, Link, Root}
use Rattle.split_finish.specs.declared.finish.Target.{Target}
use Rattle.insert_split.specs.declared.insert.InsertAt.{InsertAt}
use Rattle.insert_split.specs.declared.insert.InsertAt.TheVariants.{Coming, Finishing}
use Rattle.insert_split.specs.declared.insert.Stage.TheVariants.{Start as InsertStart, At as InsertsAt, Holding as Holds}
use Rattle.scan.specs.declared.steps.ScanAt.{ScanAt}
use Rattle.scan.specs.declared.steps.ScanAt.TheVariants.{Start as ScanStart, At as ScansAt, Last}
use Rattle.vacuum.specs.declared.steps.Backtrack.{Backtrack}
use Rattle.page_delete.specs.declared.steps.CleanupAt.{CleanupAt}
use Rattle.page_delete.specs.declared.steps.CleanupAt.TheVariants.{Look, Start as CleanupStart, Down as CleanupDown, Judge, Unlink}
use Rattle.session_calls.specs.Slots.{slot_of}
use Rattle.session_calls.specs.declared.op.Op.{Op}
use Rattle.session_calls.specs.declared.op.Op.TheVariants.{Insert, Scan, Bulk, Cleanup}
use Rattle.schedule.specs.TheoremMoments.{Moment}
use Rattle.schedule.specs.TheoremRuns.{Fits}

-- what a page number is kept for: to come to the page of this level that covers what is looked for, or to any
-- that stands on it
pub data Sought : Type 0 where
  cover_of : (level : ℕ) (aim : Bound → Bool) → Sought
  page_of : (level : ℕ) → Sought

-- a page number that a call keeps
pub record KeptNumber : Type 0 where
  pub block : ℕ
  pub sought : Sought

-- ... of the page that is read next on a way to what is looked for
abbrev pub number_on : Position → (Bound → Bool) → KeptNumber
number_on position aim = record { block = position.block; sought = cover_of position.level aim }

-- ... of a page whose split is to be finished
abbrev pub target_number : Target → KeptNumber
target_number target = record { block = target.block; sought = cover_of target.level (bound_aim target.separator) }

-- ... of a leaf at which a call goes on, whatever it covers
abbrev pub leaf_number : ℕ → KeptNumber
leaf_number block = record { block = block; sought = page_of 0 }

-- those of the way to the parent of a target
abbrev pub finish_numbers : Target → FinishAt → List KeptNumber
finish_numbers target FinishStart = []
finish_numbers target (FinishDown position) = number_on position (bound_aim target.separator) ∷ []
finish_numbers target (Link position) = number_on position (bound_aim target.separator) ∷ []
finish_numbers target Root = []

-- those of an insert of this entry
abbrev pub insert_numbers : Entry → InsertAt → List KeptNumber
insert_numbers e (Coming InsertStart) = []
insert_numbers e (Coming (InsertsAt position)) = number_on position (entry_aim e) ∷ []
insert_numbers e (Coming (Holds block)) = record { block = block; sought = cover_of 0 (entry_aim e) } ∷ []
insert_numbers e (Finishing op) = map target_number (targets_of op) ++ finish_numbers op.target op.at

-- those of a scan that has come to this frontier
abbrev pub scan_numbers : Bound → ScanAt → List KeptNumber
scan_numbers frontier ScanStart = []
scan_numbers frontier (ScansAt position) = number_on position (frontier_aim frontier) ∷ []
scan_numbers frontier Last = []

-- those of a bulk delete, which may go back; in block order it keeps none
abbrev pub back_numbers : Option Backtrack → List KeptNumber
back_numbers None = []
back_numbers (Some back) = leaf_number back.block ∷ []

-- those of a cleanup that is at this block: the leaf there, once it was looked at, and the way to its parent
abbrev pub cleanup_numbers : ℕ → CleanupAt → List KeptNumber
cleanup_numbers cursor Look = []
cleanup_numbers cursor (CleanupStart high) = leaf_number cursor ∷ []
cleanup_numbers cursor (CleanupDown high position) = leaf_number cursor ∷ number_on position (bound_aim high) ∷ []
cleanup_numbers cursor (Judge high parent) = leaf_number cursor ∷ record { block = parent; sought = cover_of 1 (bound_aim high) } ∷ []
cleanup_numbers cursor Unlink = leaf_number cursor ∷ []

-- those of what a session runs; the leaf that a scan stands on is one more, and a live leaf still
-- (`scans_stand_on_leaves`)
abbrev pub kept_numbers : Option Op → List KeptNumber
kept_numbers None = []
kept_numbers (Some (Insert op)) = insert_numbers op.entry op.at
kept_numbers (Some (Scan op)) = scan_numbers op.frontier op.at
kept_numbers (Some (Bulk set op)) = back_numbers op.backtrack
kept_numbers (Some (Cleanup op)) = cleanup_numbers op.cursor op.at

-- a page in use that stands on this level: it isn't deleted
pub record StandsOnLevel (st : State) (level block : ℕ) : Type 0 where
  pub used : block < length st.pages
  pub level_is : (nodes_of st.pages block).level ≡ level
  pub stays : (nodes_of st.pages block).state ≢ Deleted

-- the page is one for which the number is kept
abbrev pub IsKeptFor : State → Sought → ℕ → Type 0
IsKeptFor st (cover_of level aim) page = HasCover st level aim page
IsKeptFor st (page_of level) page = StandsOnLevel st level page

-- right links lead from the first block to the second; neither is one that `fresh` may name, nor is any
-- between them
pub data LeadsPast (st : State) : ℕ → ℕ → Type 0 where
  there : {d : ℕ} → (IsFresh st d → ⊥) → LeadsPast st d d
  next_page : {b r d : ℕ} → (IsFresh st b → ⊥) → (nodes_of st.pages b).right ≡ Some r → LeadsPast st r d → LeadsPast st b d

-- the number leads on to its page
pub record NumberLeads (st : State) (kept : KeptNumber) : Type 0 where
  pub page : ℕ
  pub is : IsKeptFor st kept.sought page
  pub leads : LeadsPast st kept.block page

-- ... and so does each of these
abbrev pub AllLead : State → List KeptNumber → Type 0
AllLead st [] = Unit {0}
AllLead st (kept ∷ numbers) = NumberLeads st kept × AllLead st numbers

-- At each moment that fits, and so at each of a run, each page number that a running call keeps leads on to
-- its page. It leads past none that `fresh` may name. So a page that a call still comes to isn't reused
-- meanwhile.
abbrev pub NumbersLeadOn : {S : Type 0} → Ghosts S → Type 0
NumbersLeadOn {S} g =
    (start : Entry → Bool) (now : Moment S) → Fits g start now → (session : ℕ) → AllLead (g.state now.store) (kept_numbers (slot_of now.slots session))
