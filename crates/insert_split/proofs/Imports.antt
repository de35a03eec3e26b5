-- What several proofs of this crate import, passed on from one place. Declares nothing.
pub use Rattle.std.proofs.lemmas.Bool.{cases_Bool, cases_eq, eq-eqb, le-leb, lt-leb, ne_eqb, not-true, or_left, or_right}
pub use Rattle.std.proofs.lemmas.Option.{slice_get_within}
pub use Rattle.std.specs.Prelude.{IfErr, IfOk, IsSome, OnErr, OnOk, slice_index_or}
pub use Rattle.index_model.specs.Actions.{Add, Effect}
pub use Rattle.index_model.specs.Faults.{HasCause}
pub use Rattle.index_model.specs.Order.{IsUpTo, bound_cmp, bound_of, is_among, same_entry}
pub use Rattle.index_model.specs.declared.bound.Bound.{Bound}
pub use Rattle.index_model.specs.declared.entry.Entry.{Entry}
pub use Rattle.index_model.specs.declared.fault.Fault.{Fault}
pub use Rattle.index_model.specs.declared.fault.Fault.TheVariants.{Blocked, Exists, IndexFull, Io, KeyExists, LogFull, NoFrame, PageDamaged, Stopped, TooTall}
pub use Rattle.index_model.specs.declared.format.Format.{Format}
pub use Rattle.index_model.specs.declared.layout.Layout.TheVariants.{Two}
pub use Rattle.index_model.specs.declared.limits.Limits.{Limits}
pub use Rattle.page_codec.specs.Edits.{HasEntries, entries_of}
pub use Rattle.page_codec.specs.Grammar.{IsBlock, IsLeafIn, IsOfKind, IsPage}
pub use Rattle.page_codec.specs.declared.page.Items.{Items}
pub use Rattle.page_codec.specs.declared.page.Items.TheVariants.{Downlinks, Entries, Meta}
pub use Rattle.page_codec.specs.declared.page.Page.{Page}
pub use Rattle.page_codec.specs.declared.page.PageState.TheVariants.{Deleted, HalfDead, Live}
pub use Rattle.latch_table.proofs.Tables.{holding_of-latched, holding_of-latched_other, holding_of-pinned, holding_of-pinned_other, holding_of-released, holding_of-released_other}
pub use Rattle.latch_table.proofs.Tables.{holding_of-unpinned, holding_of-unpinned_other, length-latched, length-pinned, length-released, length-unpinned}
pub use Rattle.latch_table.specs.Holdings.{HasRoom, Holding, Table, has_pin, holding_of, is_held_by_another, latched, latches_exclude, nothing_held, pinned, released, unpinned, without_latch}
pub use Rattle.latch_table.specs.Holdings.{without_pin}
pub use Rattle.latch_table.specs.declared.mode.Mode.TheVariants.{Exclusive, Shared}
pub use Rattle.page_action.specs.Causes.{causes_of_read, count_apart, is_at_end, pinned_blocks, with_row}
pub use Rattle.page_action.specs.Contents.{entry_on_live_leaf}
pub use Rattle.page_action.specs.Reuse.{IsFresh}
pub use Rattle.page_action.specs.States.{Backing, Continues, IsLater, State, after_act, with_table}
pub use Rattle.page_action.specs.Stored.{AreActable, IsApartFrom, IsStored}
pub use Rattle.page_action.specs.declared.page_store.PageStore.{Ghosts}
pub use Rattle.tree_shape.proofs.Fits.{bound_falls}
pub use Rattle.tree_shape.specs.Edits.{LeafHalves}
pub use Rattle.tree_shape.specs.Halves.{left_count}
pub use Rattle.tree_shape.specs.Leaf.{MayHold}
pub use Rattle.tree_shape.specs.Nodes.{Node, node_from, node_of, nodes_of}
pub use Rattle.tree_shape.specs.Walks.{bound_aim, entry_aim, is_fit, is_within}
pub use Rattle.tree_acts.proofs.Entering.{leaf_split_lasts, putting_lasts}
pub use Rattle.tree_acts.proofs.Flagging.{leaf_split_flags, putting_flags}
pub use Rattle.tree_acts.proofs.Leaving.{leaf_split_leaves, putting_leaves}
pub use Rattle.tree_acts.proofs.Meanings.{high_key_shows, leaf_shows, live_shows, metapage_shows, neighbour_shows, root_covers_all, trail_begins_here}
pub use Rattle.tree_acts.proofs.Overlays.{pages_first}
pub use Rattle.tree_acts.proofs.Weighed.{leaf_split_weighs, putting_weighs}
pub use Rattle.tree_acts.specs.Acts.{EntryIsPut, KeyMayEnter, LeafIsSplit}
pub use Rattle.tree_acts.specs.Flags.{FlagsMove, flag_after}
pub use Rattle.tree_acts.specs.StepEffects.{IsInOrder, MayRely, NumbersStay, StepEffect, causes_of_acting, causes_of_working, fresh_block, is_incomplete, level_in, sibling}
pub use Rattle.tree_acts.specs.Steps.{AreApart, HoldsAlone}
pub use Rattle.tree_acts.specs.Trees.{HasCover, HasTree, LeadsTo}
pub use Rattle.tree_acts.specs.Ways.{NoneIsIncomplete}
pub use Rattle.descent.proofs.Acting.{apart_from_held, does_add, holds_else, nothing_else, one_act, one_act_else, one_nothing, one_table, place_held_else}
pub use Rattle.descent.proofs.Shortening.{walk_is_long, way_shortens}
pub use Rattle.descent.proofs.Tables.{any_excluded, apart_latched, apart_pins}
pub use Rattle.descent.proofs.Working.{act_cause, apart_pinned, fresh_is, held_cause, read_pinned_cause, working_later}
pub use Rattle.descent.specs.NextPage.{DescentIsShorter, IsOnDescent, IsShorter, LeadsStraight, LeadsToNext, walk_length, position_from, way_left}
pub use Rattle.descent.specs.Splitting.{RightIsFound, RightIsMendable, RightIsStored, if_read, mended_to}
pub use Rattle.descent.specs.declared.position.Position.{Position}
pub use Rattle.split_finish.specs.Finishes.{FinishSteps, OnlyShapes, causes_of_finishing, finish_blocks, frames_of, takes_block_of}
pub use Rattle.split_finish.specs.Targets.{FinishInvariant, FinishStands, IsTarget, OnlyTargetsAreIncomplete, finish_left, is_among_targets, is_as_read, targets_of}
pub use Rattle.split_finish.specs.declared.finish.FinishAt.TheVariants.{Down, Link, Root, Start as FinishStart}
pub use Rattle.split_finish.specs.declared.finish.FinishOp.{FinishOp}
pub use Rattle.split_finish.specs.declared.finish.Target.{Target}
pub use Rattle.insert_split.specs.Inserts.{AnswersStopped, InsertInvariant, InsertStands, InsertSteps, IsLeafFor, IsLeft, IsNoted, IsToCome, blocks_halved, causes_of_inserting, causes_of_left}
pub use Rattle.insert_split.specs.Inserts.{frames_at, images_at, insert_left, leaf_held, splits_root_at, takes_block_at, targets_at}
pub use Rattle.insert_split.specs.Straight.{CountsDown, HasRoomFor, IsStraight, straight_steps}
pub use Rattle.insert_split.specs.Turns.{ContinuesAs, ContinuesFrom, EndsBy, EntryPut, FinishesSplits, IsNotTaken, IsRefusedRightly, IsSplittable, Leaves, MeetsPage, PlaceRefused, PutsEntry}
pub use Rattle.insert_split.specs.Turns.{SplitsLeaf, Takes, is_blocked}
pub use Rattle.insert_split.specs.declared.insert.InsertAt.{InsertAt}
pub use Rattle.insert_split.specs.declared.insert.InsertAt.TheVariants.{Coming, Finishing}
pub use Rattle.insert_split.specs.declared.insert.InsertOp.{InsertOp}
pub use Rattle.insert_split.specs.declared.insert.InsertStep.{InsertStep}
pub use Rattle.insert_split.specs.declared.insert.InsertStep.TheVariants.{Added, Going, Going as InsertGoing}
pub use Rattle.insert_split.specs.declared.insert.Stage.TheVariants.{At, Holding as Holds, Start}
