-- What several proofs of this crate import, passed on from one place. Declares nothing.
pub use Rattle.std.proofs.Math.Nat.{mul-le-mul_right}
pub use Rattle.std.proofs.lemmas.Bool.{and_from, and_parts, cases_eq, eq-eqb, eqb-true, false≢true, le-leb, lt-leb, lt-ltb, ltb-true, ne_eqb, not-true, or_cases, or_left, or_right}
pub use Rattle.std.proofs.lemmas.Bool.Decides.{eqb_tells}
pub use Rattle.std.proofs.lemmas.Option.{same_Some, slice_get_within}
pub use Rattle.std.specs.Ordering.{is_eq, ordering_index}
pub use Rattle.std.specs.Prelude.{All, IfSome, IsSome, OnErr, OnOk, slice_index_or}
pub use Rattle.index_model.proofs.Order.{bounds_total, exact_bounds}
pub use Rattle.index_model.specs.Actions.{Shape}
pub use Rattle.index_model.specs.Faults.{HasCause}
pub use Rattle.index_model.specs.declared.bound.Bound.{Bound}
pub use Rattle.index_model.specs.declared.fault.Fault.{Fault}
pub use Rattle.index_model.specs.declared.layout.Layout.TheVariants.{Two}
pub use Rattle.page_codec.specs.Grammar.{IsBlock, IsBoundIn, IsLeafIn, IsOfKind, IsPage}
pub use Rattle.page_codec.specs.Spelling.{count_of}
pub use Rattle.page_codec.specs.declared.page.Items.{Items}
pub use Rattle.page_codec.specs.declared.page.Items.TheVariants.{Downlinks, Entries, Meta}
pub use Rattle.page_codec.specs.declared.page.Page.{Page}
pub use Rattle.page_codec.specs.declared.page.PageState.{PageState}
pub use Rattle.page_codec.specs.declared.page.PageState.TheVariants.{Deleted, HalfDead, Live}
pub use Rattle.latch_table.specs.Holdings.{HasRoom, Holding, holding_of, is_held_by_another, nothing_held}
pub use Rattle.latch_table.specs.declared.mode.Mode.TheVariants.{Exclusive}
pub use Rattle.page_action.proofs.StoredPages.{stored_page}
pub use Rattle.page_action.proofs.Writable.{writable}
pub use Rattle.page_action.specs.Reuse.{IsFresh}
pub use Rattle.page_action.specs.States.{Backing, Continues, IsLater, State, after_act}
pub use Rattle.page_action.specs.Stored.{AreActable, IsApartFrom, IsWritable}
pub use Rattle.page_action.specs.declared.page_store.PageStore.{Ghosts}
pub use Rattle.tree_shape.proofs.Fits.{bound_falls}
pub use Rattle.tree_shape.specs.Edits.{IsBelowBound, IsBelowNext, IsBetween, IsLinkAdded, with_links}
pub use Rattle.tree_shape.specs.LinkPlaces.{FitsAfter, HasLinks, IsBelowFirst, LinkSplit, bound_at, child_at, link_at}
pub use Rattle.tree_shape.specs.Nodes.{Node, is_live, links_of, node_of, nodes_of}
pub use Rattle.tree_shape.specs.Tree.{IsMetaOf}
pub use Rattle.tree_shape.specs.Walks.{bound_aim, is_within}
pub use Rattle.tree_acts.proofs.Finishing.{finish_lasts, parent_edit, parent_split_lasts, root_split_lasts}
pub use Rattle.tree_acts.proofs.Flagging.{finish_flags, parent_split_flags, root_split_flags}
pub use Rattle.tree_acts.proofs.Leaving.{finish_leaves, parent_split_leaves, root_split_leaves}
pub use Rattle.tree_acts.proofs.Meanings.{high_key_shows, live_shows, metapage_shows, neighbour_shows, parent_shows, place_inside, root_shows, separator_shows, trail_begins_here}
pub use Rattle.tree_acts.proofs.Overlays.{node_there, pages_first}
pub use Rattle.tree_acts.proofs.Sizes.{low_level}
pub use Rattle.tree_acts.proofs.Weighed.{finish_weighs, parent_split_weighs, root_split_weighs}
pub use Rattle.tree_acts.specs.Acts.{IsClear, IsIncompleteSplit, IsMended, MayActWith, ParentIsSplit, RootIsSplit, SplitIsFinished, TreeLasts}
pub use Rattle.tree_acts.specs.Flags.{FlagsMove, flag_after}
pub use Rattle.tree_acts.specs.Levels.{level_of, level_with, root_level}
pub use Rattle.tree_acts.specs.StepEffects.{IsInOrder, IsOneActAtMost, StepEffect, causes_of_acting, causes_of_working, fresh_block, is_incomplete, sibling}
pub use Rattle.tree_acts.specs.Trees.{HasCover, HasTree, IsStart, LeadsTo}
pub use Rattle.descent.proofs.Acting.{AreFree, does_finish, nothing_else, one_act, one_nothing}
pub use Rattle.descent.proofs.Shortening.{walk_is_long, way_shortens}
pub use Rattle.descent.proofs.Working.{act_cause_of, frames_some, fresh_is, no_room_later, two_are}
pub use Rattle.descent.specs.NextPage.{DescentIsShorter, IsOnDescent, IsShorter, LeadsToNext, walk_length, position_from, way_left}
pub use Rattle.descent.specs.Splitting.{RightIsFound, RightIsMendable, RightIsStored, mended_to}
pub use Rattle.descent.specs.declared.position.Position.{Position}
pub use Rattle.split_finish.specs.Acting.{AreGrown, FinishActs, IsLinkPlace, IsReadToChange, MeetsParent, NoLinkPlace}
pub use Rattle.split_finish.specs.Finishes.{FinishStays, FinishStepped, FinishSteps, blocks_linked, causes_of_finishing, finish_blocks, frames_of, is_full_parent, is_to_grow, is_to_link}
pub use Rattle.split_finish.specs.Finishes.{takes_block_of}
pub use Rattle.split_finish.specs.Parting.{halves_and}
pub use Rattle.split_finish.specs.Targets.{FinishInvariant, FinishStands, IsTarget, OnlyTargetsAreIncomplete, detour, finish_left, is_among_targets, is_as_read, is_ready, one_unless, stale_count}
pub use Rattle.split_finish.specs.Targets.{targets_of, walk_left, walks_left}
pub use Rattle.split_finish.specs.Turns.{IsReadyToGrow, IsReadyToLink, Popped, Pushed, Retaken, TurnContinues, Turned, TurnedOrReady, causes_of_turned, splits_root_of}
pub use Rattle.split_finish.specs.declared.finish.FinishAt.{FinishAt}
pub use Rattle.split_finish.specs.declared.finish.FinishAt.TheVariants.{Down, Link, Root, Start}
pub use Rattle.split_finish.specs.declared.finish.FinishOp.{FinishOp}
pub use Rattle.split_finish.specs.declared.finish.FinishStep.{FinishStep}
pub use Rattle.split_finish.specs.declared.finish.FinishStep.TheVariants.{Done, Going}
pub use Rattle.split_finish.specs.declared.finish.Target.{Target}
