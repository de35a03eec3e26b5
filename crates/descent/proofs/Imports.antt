-- What several proofs of this crate import, passed on from one place. Declares nothing.
pub use Rattle.std.proofs.lemmas.Bool.{and_from, and_parts, cases_Bool, cases_eq, cases_lt, eqb-true, le-leb, le-ltb, leb-true, lt-ltb, ltb-true, or_cases, or_from, or_left, or_right}
pub use Rattle.std.proofs.lemmas.Option.{slice_get_within}
pub use Rattle.std.specs.Prelude.{IfErr, unwrap_or}
pub use Rattle.index_model.specs.Faults.{HasCause}
pub use Rattle.index_model.specs.declared.entry.Entry.{Entry}
pub use Rattle.index_model.specs.declared.fault.Fault.{Fault}
pub use Rattle.page_codec.specs.Grammar.{Ascends, IsBlock, IsLeafIn, IsOfKind, IsPage, LinkBefore, StartsLow}
pub use Rattle.page_codec.specs.declared.page.Items.{Items}
pub use Rattle.page_codec.specs.declared.page.Items.TheVariants.{Downlinks, Entries, Meta}
pub use Rattle.page_codec.specs.declared.page.Page.{Page}
pub use Rattle.page_codec.specs.declared.page.PageState.TheVariants.{Deleted, HalfDead, Live}
pub use Rattle.latch_table.specs.Holdings.{Holding, Table, excludes, has_pin, holding_of, is_held_by_another, latched, latches_exclude, nothing_held, pins_exclude, with_holding}
pub use Rattle.latch_table.specs.declared.mode.Mode.{Mode}
pub use Rattle.latch_table.specs.declared.mode.Mode.TheVariants.{Cleanup, Exclusive, Shared}
pub use Rattle.page_action.specs.Causes.{causes_of_acted, causes_of_read, count_apart, is_at_end, pinned_blocks}
pub use Rattle.page_action.specs.Reuse.{IsFresh, IsFull, is_deleted, is_deleted_page, is_deleted_state, is_reusable}
pub use Rattle.page_action.specs.States.{Backing, IsLater, State, after_act, with_table}
pub use Rattle.page_action.specs.Stored.{AreActable, AreStored, IsApartFrom}
pub use Rattle.tree_acts.proofs.Overlays.{pages_other}
pub use Rattle.tree_acts.specs.StepEffects.{CleanupEffect, DeletesALeaf, FinishesASplit, IsInOrder, IsOneActAtMost, IsRaised, NumbersStay, OthersRely, SplitsALeaf, StepEffect, any_is_reusable}
pub use Rattle.tree_acts.specs.StepEffects.{causes_of_acting, causes_of_working, count_new, first_below, frames_for, fresh_block, lacks_room}
pub use Rattle.tree_acts.specs.Steps.{AreApart, HoldsAlone}
pub use Rattle.tree_acts.specs.Trees.{HasCover, HasTrail, HasTree, LeadsTo, PlacesLast, TrailsLast}
pub use Rattle.descent.specs.NextPage.{DownTo, IsOnDescent, IsShorter, LeadsStraight, LeadsToNext, going, right_from, right_of, walk_length, way_left}
pub use Rattle.descent.specs.declared.position.Position.{Position}
