-- The theorem's words: what a crash at any moment leaves of a history.
use Rattle.std.specs.Prelude.{◌≡◌, ℕ, ◌≤◌, Bool, true, List, length, take}
use Rattle.index_model.specs.Actions.{Action, contents_after}
use Rattle.index_model.specs.declared.entry.Entry.{Entry}
use Rattle.page_codec.specs.declared.page.Page.{Page}
use Rattle.page_action.specs.Contents.{entry_on_live_leaf}
use Rattle.page_action.specs.declared.page_store.PageStore.{Ghosts}
use Rattle.tree_acts.specs.TheoremKeys.{AreKeyed}
use Rattle.tree_acts.specs.TheoremTree.{IsTree}
use Rattle.schedule.specs.TheoremMoments.{Moment}

-- the pages are a B-link tree whose contents are those after this history; those of a unique index are keyed
pub record ArePagesAfter (unique : Bool) (start : Entry → Bool) (history : List Action) (pages : List Page) : Type 0 where
  pub contents : (e : Entry) → entry_on_live_leaf pages e ≡ contents_after start history e
  pub tree : IsTree pages
  pub keyed : unique ≡ true → AreKeyed pages

-- nobody else wrote to the store's device; the pages after each prefix of its acts are those after that part
-- of the history; and no more acts are durable than the history has actions
pub record KeepsHistory {S : Type 0} (g : Ghosts S) (start : Entry → Bool) (now : Moment S) : Type 0 where
  pub own : g.own now.store
  pub parts : (part : ℕ) → part ≤ length now.history → ArePagesAfter (g.state now.store).format.unique start (take part now.history) (g.past now.store part)
  pub durable : (g.backing now.store).durable ≤ length now.history

-- these bytes restart to pages whose contents are those after a prefix of the history, of at least `least`
-- actions
pub record RestartsToPrefix {S : Type 0} (g : Ghosts S) (start : Entry → Bool) (least : ℕ) (now : Moment S) (image : List ℕ) : Type 0 where
  pub part : ℕ
  pub from : least ≤ part
  pub to : part ≤ length now.history
  pub pages : List Page
  pub restarts : g.restarts now.store image pages
  pub are : ArePagesAfter (g.state now.store).format.unique start (take part now.history) pages

-- the history is kept still; and whatever a crash at some moment in between left restarts to a prefix of it,
-- with all the actions that were durable at the beginning
pub record IsCrashSafe {S : Type 0} (g : Ghosts S) (start : Entry → Bool) (old new : Moment S) : Type 0 where
  pub keeps : KeepsHistory g start new
  pub restarts : (image : List ℕ) → g.leaves old.store new.store image
      → RestartsToPrefix g start (g.backing old.store).durable new image
