-- A store as it is opened.
use Rattle.std.specs.Prelude.{◌≡◌, ℕ, zero, suc, ◌<◌, unwrap_or, Option, Some, None, List, [], ◌∷◌, length, replicate, slice_get, slice_index}
use Rattle.std.proofs.Common.{refl, sym, ap, subst, ◌∙◌, arith}
use Rattle.std.proofs.lemmas.List.{length-replicate}
use Rattle.index_model.specs.declared.format.Format.{Format}
use Rattle.latch_table.specs.Holdings.{Holding, nothing_held, holding_of, latches_exclude}
use Rattle.latch_table.specs.declared.mode.Mode.TheVariants.{Exclusive}
use Rattle.page_codec.specs.declared.page.Page.{Page}
use Rattle.page_store.specs.Stores.{opened_state}
use Rattle.tree_acts.specs.TheoremKeys.{IsTreeFor}
use Rattle.tree_acts.specs.TheoremTree.{IsTree}
use Rattle.tree_acts.proofs.Keyed.{unique_of}
use Rattle.tree_acts.specs.Trees.{IsStart}
use Rattle.page_action.specs.Contents.{entry_on_live_leaf}
use Rattle.page_action.specs.States.{State}
use Rattle.page_action.specs.Stored.{AreStored}
use Rattle.index_model.specs.declared.dead_rows.DeadRows.{Ghosts as SetGhosts}
use Rattle.page_action.specs.declared.page_store.PageStore.{Ghosts}
use Rattle.recovery.specs.Opening.{IsFreshlyOpened}
use Rattle.schedule.specs.MomentInvariants.{IsUnused}
use Rattle.world.specs.Worlds.{WorldFits, WorldKeeps}
use Rattle.world.specs.declared.world.World.{World}

all_same : {A : Type 0} (n i : ℕ) (a : A) → unwrap_or (slice_get (replicate n a) i) a ≡ a
all_same zero i a = refl
all_same (suc n) zero a = refl
all_same (suc n) (suc i) a = all_same n i a

-- nobody holds anything
held_by_none : (session : ℕ) → holding_of (replicate 64 nothing_held) session ≡ nothing_held
held_by_none session = all_same 64 session nothing_held

-- no number counts
none_counts : (n block : ℕ) → slice_index (replicate n 0) block ≡ 0
none_counts zero block = refl
none_counts (suc n) zero = refl
none_counts (suc n) (suc block) = none_counts n block

-- no call runs
none_runs : (start : ℕ) → IsStart (replicate 64 None) start → ⊥
none_runs start is = (let none : Some start ≡ None = sym (ap (λ (o : Option (Option ℕ)). unwrap_or o None) is.is) ∙ all_same 64 is.session None in cc)

-- pages that are a tree, of a unique index keyed, each stored and counted, are in order as they are opened
opened_unused : (format : Format) (frames : ℕ) (pages : List Page) (counted : List ℕ) (last_cycle : ℕ) → IsTreeFor format pages → AreStored format 0 pages → length counted ≡ length pages
    → ((block : ℕ) → slice_index counted block ≡ 0) → IsUnused (opened_state format frames pages counted last_cycle)
opened_unused format frames pages counted last_cycle tree stored count none = record {
  order = record {
    tree = record {
      tree = tree.0;
      stored = stored;
      counted = count;
      within = λ block. (let zero_is = none block in omega arith);
      lead = λ start is. absurd (none_runs start is);
      unique = λ asked. unique_of format pages stored (tree.1 asked);
    };
    apart = λ session other block ne holds. ap (λ (h : Holding). latches_exclude h.latches block Exclusive) (held_by_none other);
    holdings = refl;
    calls = refl;
  };
  acts = refl;
  cycle = refl;
  idle = λ session. record { holds = held_by_none session; number = all_same 64 session None };
}

-- a state as it is opened is unused, if its pages are a tree
pub freshly_unused : (frames : ℕ) (st : State) → IsFreshlyOpened frames st → IsTreeFor st.format st.pages → IsUnused st
freshly_unused frames st opened tree =
    subst IsUnused (sym opened.is) (opened_unused st.format frames st.pages _ _ tree opened.stored (length-replicate (length st.pages) 0) (none_counts (length st.pages)))

-- what was opened is a tree, if it was one
pub tree_opened : (format found : Format) (pages read : List Page) → found ≡ format → read ≡ pages → IsTreeFor format pages → IsTreeFor found read
tree_opened format found pages read is same tree =
    subst (λ (f : Format). IsTreeFor f read) (sym is) (subst (λ (ps : List Page). IsTreeFor format ps) (sym same) tree)

-- a tree has pages
pub tree_has_pages : (pages : List Page) → IsTree pages → 0 < length pages
tree_has_pages [] tree = absurd (none tree.meta tree.meta_at)
  where
    none : (meta : Page) → None ≡ Some meta → ⊥
    none meta h = cc
tree_has_pages (page ∷ pages) tree = omega arith

-- a world begins with the contents of these pages, by whatever name they are called
pub same_start : {S T : Type 0} (g : Ghosts S) (d : SetGhosts T) (world : World S T) (read pages : List Page) → read ≡ pages
    → WorldFits g d world (entry_on_live_leaf read) [] [] → WorldFits g d world (entry_on_live_leaf pages) [] []
same_start g d world read pages same fits = subst (λ (ps : List Page). WorldFits g d world (entry_on_live_leaf ps) [] []) same fits

pub same_kept : {S T : Type 0} (g : Ghosts S) (d : SetGhosts T) (world : World S T) (read pages : List Page) → read ≡ pages
    → WorldKeeps g d world (entry_on_live_leaf read) [] [] → WorldKeeps g d world (entry_on_live_leaf pages) [] []
same_kept g d world read pages same keeps = subst (λ (ps : List Page). WorldKeeps g d world (entry_on_live_leaf ps) [] []) same keeps
