-- What several proofs of this crate import, passed on from one place. Declares nothing.
pub use Rattle.std.proofs.lemmas.Bool.{cases_eq, false≢true}
pub use Rattle.index_model.specs.Faults.{HasCause}
pub use Rattle.index_model.specs.declared.bound.Bound.{Bound}
pub use Rattle.index_model.specs.declared.fault.Fault.{Fault}
pub use Rattle.index_model.specs.declared.layout.Layout.TheVariants.{Two}
pub use Rattle.page_codec.specs.Edits.{HasEntries, renewed}
pub use Rattle.page_codec.specs.Grammar.{IsLeafIn, IsOfKind, IsPage}
pub use Rattle.page_codec.specs.declared.page.Downlink.{Downlink}
pub use Rattle.page_codec.specs.declared.page.Items.{Items}
pub use Rattle.page_codec.specs.declared.page.Items.TheVariants.{Downlinks, Entries, Meta}
pub use Rattle.page_codec.specs.declared.page.Page.{Page}
pub use Rattle.page_codec.specs.declared.page.PageState.{PageState}
pub use Rattle.page_codec.specs.declared.page.PageState.TheVariants.{Deleted, HalfDead, Live}
pub use Rattle.latch_table.specs.Holdings.{HasRoom, Holding, Table, holding_excludes, holding_of, is_held_by_another, nothing_held, others_exclude}
pub use Rattle.latch_table.specs.declared.mode.Mode.TheVariants.{Cleanup}
pub use Rattle.page_action.specs.States.{Backing, Continues, IsLater, State, after_act, with_pages}
pub use Rattle.page_action.specs.Stored.{AreActable, IsStored}
pub use Rattle.page_action.specs.declared.page_store.PageStore.{Ghosts}
pub use Rattle.std.proofs.lemmas.Option.{same_Some, slice_get_within}
pub use Rattle.tree_shape.proofs.Members.{apart_back, apart_sides, in_append_left, in_append_right, member, not_in_apart}
pub use Rattle.tree_shape.specs.Chains.{AreDistinct, IsIn, IsRunOf, IsTreeOf, LeftContext, first_context, past, context_after}
pub use Rattle.tree_shape.specs.Deletion.{MayDie, as_deleted}
pub use Rattle.tree_shape.specs.LinkPlaces.{HasLinks, child_at, with_downlinks}
pub use Rattle.tree_shape.specs.Nodes.{Node, links_of, node_from, node_of, nodes_of}
pub use Rattle.tree_shape.specs.Walks.{IsTrail, bound_aim, over, reached}
pub use Rattle.tree_acts.proofs.Lasting.{deleted_in_use, meta_lives}
pub use Rattle.tree_acts.proofs.Overlays.{node_there, pages_first, pages_other, pages_second, pages_third}
pub use Rattle.tree_acts.proofs.Removing.{leaf_begins_trail, leaf_is}
pub use Rattle.tree_acts.specs.Deletions.{IsCompleteAt, StartsAreBelow, state_in}
pub use Rattle.tree_acts.specs.Leaves.{IsLeafAt, WasLeaf}
pub use Rattle.tree_acts.specs.StepEffects.{IsInOrder, IsOneActAtMost, NumbersStay, frames_for, sibling}
pub use Rattle.tree_acts.specs.Trees.{HasTrail, HasTree, LeadsTo}
pub use Rattle.descent.proofs.Acting.{cleans_nothing, one_act, one_nothing}
pub use Rattle.descent.proofs.Working.{act_cause_of, frames_some, two_are, working_later}
pub use Rattle.descent.specs.NextPage.{DescentIsShorter, IsOnDescent, IsShorter, LeadsToNext, position_from}
pub use Rattle.descent.specs.declared.position.Position.{Position}
pub use Rattle.vacuum.proofs.Counting.{counted_beyond, no_leaf_count}
pub use Rattle.vacuum.proofs.Lasting.{same_page}
pub use Rattle.vacuum.specs.Counts.{deleted_count, entries_below, entry_count}
pub use Rattle.page_delete.specs.Cleanups.{CleanupInvariant, CleanupIsUnderway, CleanupSteps, causes_of_cleaning}
pub use Rattle.page_delete.specs.Counts.{AllIsCleaned, IsCleaned, IsEmptyAt, IsFoundEmpty, come_to, deleted_in}
pub use Rattle.page_delete.specs.Judging.{IsHandingOn, IsHandingPlace, IsToDie}
pub use Rattle.page_delete.specs.Laws.{CleanupsAreBounded, CleanupsAreUndisturbed, NothingIsCleaned, NothingIsSpared}
pub use Rattle.page_delete.specs.Needs.{blocks_judged, blocks_unlinked_at, blocks_written, causes_of_trying}
pub use Rattle.page_delete.specs.Ops.{TurnsAt, cleanup_counted_out, cleanup_stats, moved_past, moved_past_deleted, passes, tries, turned_to, unlinks}
pub use Rattle.page_delete.specs.Parts.{BlocksAreInUse, CandidateAnswers, DeletesOn, IsCandidate, IsInUse, IsLiveAt, IsNotDead, IsSpared, IsTakenLeft, IsTakenRight, IsTakenToChange, IsTried}
pub use Rattle.page_delete.specs.Parts.{LeafDies, LinksLeft, LinksRight, MovesState, PageIsDeleted, PinnedLeafPagesStay, SiblingsAllow, SiblingsAnswer, SiblingsLink, left_answer, left_page}
pub use Rattle.page_delete.specs.Parts.{left_root, left_to, unlinked}
pub use Rattle.page_delete.specs.Spares.{EditsALeaf, HasToStay, IsAlone, IsEmptyLeaf, IsSought, IsSparing, MayGo, MayGoFrom, OnlyNeededStay, dies, goes}
pub use Rattle.page_delete.specs.Work.{cleanup_left, pages_left, steps_for_page, turn_left}
pub use Rattle.page_delete.specs.declared.steps.CleanupAt.{CleanupAt}
pub use Rattle.page_delete.specs.declared.steps.CleanupAt.TheVariants.{Down, Judge, Look, Start, Unlink}
pub use Rattle.page_delete.specs.declared.steps.CleanupOp.{CleanupOp}
pub use Rattle.page_delete.specs.declared.steps.CleanupStep.TheVariants.{Finished, Going}
