-- What several proofs of this crate import, passed on from one place. Declares nothing.
pub use Rattle.std.proofs.Math.Bool.{or-true}
pub use Rattle.std.proofs.lemmas.Bool.{and_parts, cases_eq, cases_lt, false≢true, le-ltb, lt-leb, lt-ltb, or_cases, or_left, or_right}
pub use Rattle.std.proofs.lemmas.Option.{same_Some, slice_get_past, slice_get_within}
pub use Rattle.std.specs.List.{AllByRecursion}
pub use Rattle.std.specs.Prelude.{IfSome, IsNone, nat_lt, slice_set}
pub use Rattle.index_model.proofs.Ascending.{AllByRecursion-among, AllByRecursion-append, is_among-append, is_past-self, same_entry-self}
pub use Rattle.index_model.specs.Actions.{Add, Effect, KeysDiffer, Remove, Shape}
pub use Rattle.index_model.specs.Order.{AscendsPast, IsAscending, bound_of, is_among, is_past, same_entry}
pub use Rattle.index_model.specs.declared.bound.Bound.{Bound}
pub use Rattle.index_model.specs.declared.entry.Entry.{Entry}
pub use Rattle.index_model.specs.declared.format.Format.{Format}
pub use Rattle.page_codec.specs.Edits.{HasEntries, entries_of, with_entries}
pub use Rattle.page_codec.specs.Grammar.{Ascends, FollowedBy, IsBlock, IsLeaf, IsLeafIn, IsMeta, IsOfKind, IsPage}
pub use Rattle.page_codec.specs.declared.page.Items.{Items}
pub use Rattle.page_codec.specs.declared.page.Items.TheVariants.{Downlinks, Entries, Meta}
pub use Rattle.page_codec.specs.declared.page.Page.{Page}
pub use Rattle.page_codec.specs.declared.page.PageState.{PageState}
pub use Rattle.page_codec.specs.declared.page.PageState.TheVariants.{Deleted, HalfDead, Live}
pub use Rattle.page_action.proofs.StoredPages.{length-with_count, length-with_counts, stored-with_page, stored_page}
pub use Rattle.page_action.specs.Contents.{entry_on_live_leaf, is_on, live_entries}
pub use Rattle.page_action.specs.Reuse.{IsFresh, began_after, is_deleted, is_deleted_page, is_deleted_state, is_reusable, others_began_after}
pub use Rattle.page_action.specs.States.{State, after_act, number_to_count, with_count, with_counts, with_page, with_pages}
pub use Rattle.page_action.specs.Stored.{AreActable, AreStored, IsApartFrom, IsStored}
pub use Rattle.tree_shape.proofs.Held.{finish_holds, insertion_adds, leaf_split_adds, parent_split_holds, put_among, removal_takes, root_split_holds}
pub use Rattle.tree_shape.proofs.KeyEdits.{before_key, bounds_added, bounds_handed, keys_filter, unique_halves, unique_links, unique_page, unique_parts, unique_put, unique_root}
pub use Rattle.tree_shape.proofs.LeafSplit.{first_in}
pub use Rattle.tree_shape.proofs.Links.{link_cases}
pub use Rattle.tree_shape.proofs.Members.{apart_back, in_append_right, member, not_in_apart}
pub use Rattle.tree_shape.proofs.Runs.{run_back, split_at}
pub use Rattle.tree_shape.proofs.Shown.{covers_lead_down, frontier_covers_entries, held_on_its_cover, incomplete_split_has_its_link, live_places_stand, only_the_root_is_clear, places_cover}
pub use Rattle.tree_shape.proofs.Shown.{places_go_right, places_keep_their_level, places_stay, root_is_a_place, separator_fits_after}
pub use Rattle.tree_shape.proofs.StaySound.{finish_keeps, insertion_keeps, leaf_on_chain, leaf_split_keeps, parent_split_keeps, removal_keeps, root_split_keeps}
pub use Rattle.tree_shape.proofs.Trails.{here_apart, trail_begins, trail_goes_on, trail_is_short, trail_stays}
pub use Rattle.tree_shape.specs.Chains.{AreDistinct, FitsState, IsIn, IsRunOf, IsTreeOf, LeftContext, Rises, first_context, past}
pub use Rattle.tree_shape.specs.Edits.{IsBetween, IsFinish, IsFree, IsHalfDeath, IsInsertion, IsLeafSplit, IsParentSplit, IsRemoval, IsRootSplit, IsUnlink, cleared, deleted, half_dead, new_root}
pub use Rattle.tree_shape.specs.Edits.{removed_from, with_leaf, with_left, with_links, with_right}
pub use Rattle.tree_shape.specs.KeyPages.{AreUnique, IsKeyFree, IsKeyLink, IsUniqueNode, IsUniquePage, KeyBefore}
pub use Rattle.tree_shape.specs.Laws.{HasLink, IsReusable, IsTreeAgain, IsTreeAgainWithout, OnlyLeavesHold}
pub use Rattle.tree_shape.specs.Nodes.{IsHeld, Node, entries_alive, holds, links_of, node_from, node_of, nodes_of}
pub use Rattle.tree_shape.specs.Tree.{IsMetaOf}
pub use Rattle.tree_shape.specs.Walks.{DeletedLeadOn, IsAim, IsCoverOn, IsDeletedNoEarlier, IsFitOn, IsKeptBack, IsLead, IsNoHigher, IsTrail, KeepsPlaces, bound_aim, by_deleted, entry_aim}
pub use Rattle.tree_shape.specs.Walks.{frontier_aim, is_beyond, is_fit, is_within, on_chain, reached}
pub use Rattle.tree_acts.specs.Acts.{ContentsGain, ContentsLose, ContentsStay, EntriesAreRemoved, EntryIsPut, FinishLasts, IsClear, IsIncompleteSplit, IsMended, LeafIsSplit, LeafSplitLasts}
pub use Rattle.tree_acts.specs.Acts.{ParentIsSplit, ParentSplitLasts, PuttingLasts, RemovingLasts, RootIsSplit, RootSplitLasts, SplitIsFinished, TreeLasts, neighbour, rightmost}
pub use Rattle.tree_acts.specs.Deletions.{HalfDeathDies, HalfDeathFlags, HalfDeathLasts, HalfDeathLinks, IsCompleteAt, LeafIsHalfDead, LinksLast, OneLeafDies, SameSplits}
pub use Rattle.tree_acts.specs.Flags.{FinishFlags, LeafSplitFlags, ParentSplitFlags, PuttingFlags, RemovingFlags, RootSplitFlags, flag_after, is_block}
pub use Rattle.tree_acts.specs.TheoremTree.{IsTree}
pub use Rattle.tree_acts.specs.Trees.{CountsAreWithin, HasCover, HasTrail, HasTree, IsStart, KeptDeletedLeadOn, KeptDeletedNameUsed, LeadsTo}
pub use Rattle.tree_acts.specs.Uniques.{FreeKeyShows, KeyShows, KeyedShows, UniqueShows}
pub use Rattle.tree_acts.specs.Ways.{FrontierShows, HighKeyShows, IncompleteSplitIsBelow, InternalShows, LeafBeginsTrail, LeafShows, LiveShows, MetapageShows, NeighbourShows, NoneIsIncomplete}
pub use Rattle.tree_acts.specs.Ways.{ParentShows, PassedShows, PlacesWiden, RootCoversAll, RootShows, SeparatorShows, StraightShows, TrailBegins, TrailIsShort, TrailMovesRight}
pub use Rattle.tree_acts.specs.Weights.{FinishWeighs, LeafSplitWeighs, ParentSplitWeighs, PuttingWeighs, RootSplitWeighs, weight_of, weight_up_to}
