-- What several proofs of this crate import, passed on from one place. Declares nothing.
pub use Rattle.std.proofs.Math.Bool.{and-false, or-true}
pub use Rattle.std.proofs.lemmas.Bool.{both_ways, cases_Bool, cases_eq, eq-eqb, eqb-true, false≢true, not-false, not-true}
pub use Rattle.std.proofs.lemmas.Cmp.{alike_right, nat_cmp_total, nat_list_cmp_total, tied_itself}
pub use Rattle.std.proofs.lemmas.List.{drop_all, get_or_read, take-append-drop, take_all}
pub use Rattle.std.proofs.lemmas.List.Edits.{length-insert}
pub use Rattle.std.proofs.lemmas.List.Sorted.{IsPartitionPoint-from_clause}
pub use Rattle.std.proofs.lemmas.Map.Lookups.{exact_bytes, exact_unsigned}
pub use Rattle.std.proofs.lemmas.Option.{same_Some}
pub use Rattle.std.specs.Cmp.{IsTotalOrder}
pub use Rattle.std.specs.List.{AllByRecursion, AllWithin}
pub use Rattle.std.specs.List.Sorted.{IsPartitionPoint, IsPartitionedBy}
pub use Rattle.std.specs.Option.{option_cmp}
pub use Rattle.std.specs.Ordering.{is_gt, is_lt, nat_cmp, ordering_reverse, ordering_then}
pub use Rattle.std.specs.Prelude.{IfNone, IfSome}
pub use Rattle.std.specs.declared.cmp.Ordering.{Ordering}
pub use Rattle.std.specs.declared.cmp.Ordering.TheVariants.{Equal, Greater, Less}
pub use Rattle.index_model.proofs.Ascending.{AllByRecursion-among, AllByRecursion-append, AllByRecursion-back, AllByRecursion-front, AscendsPast-back, AscendsPast-from, AscendsPast-front}
pub use Rattle.index_model.proofs.Ascending.{AscendsPast-put, IsPast-trans, is_among-append, is_among-put, is_past-falls, is_past-not_same, is_past-self, is_past-trans, same_entry-is}
pub use Rattle.index_model.proofs.Ascending.{same_entry-self, three_ways}
pub use Rattle.index_model.proofs.Order.{bounds_total}
pub use Rattle.index_model.specs.Order.{AscendsPast, IsAscending, IsBefore, IsEntry, IsUpTo, bound_cmp, bound_of, is_among, is_past, key_cmp, last_or, row_cmp, same_entry}
pub use Rattle.index_model.specs.Range.{below_admits}
pub use Rattle.index_model.specs.declared.bound.Bound.{Bound}
pub use Rattle.index_model.specs.declared.entry.Entry.{Entry}
pub use Rattle.index_model.specs.declared.layout.Layout.{Layout}
pub use Rattle.index_model.specs.declared.layout.Layout.TheVariants.{Two}
pub use Rattle.page_codec.proofs.Renewed.{renewed_is_page}
pub use Rattle.page_codec.specs.Edits.{HasEntries, entries_of, renewed, with_entries}
pub use Rattle.page_codec.specs.Grammar.{AreEntries, AreLinks, Ascends, Below, FollowedBy, IsBlock, IsBoundIn, IsDownlink, IsInternal, IsLeaf, IsLeafIn, IsLiveLeaf, IsOfKind, IsPage, LinkBefore}
pub use Rattle.page_codec.specs.Grammar.{StartsLow}
pub use Rattle.page_codec.specs.declared.page.Downlink.{Downlink}
pub use Rattle.page_codec.specs.declared.page.Items.{Items}
pub use Rattle.page_codec.specs.declared.page.Items.TheVariants.{Downlinks, Entries, Meta}
pub use Rattle.page_codec.specs.declared.page.Page.{Page}
pub use Rattle.page_codec.specs.declared.page.PageState.{PageState}
pub use Rattle.page_codec.specs.declared.page.PageState.TheVariants.{Deleted, HalfDead, Live}
pub use Rattle.tree_shape.specs.Aims.{ArePartedAt, IsToward, IsUpToFirst, aim_of}
pub use Rattle.tree_shape.specs.Chains.{AreDistinct, AscendWithin, BoundsWithin, FitsState, HasItems, IsAtMost, IsBeyond, IsBoundWithin, IsIn, IsNoGreater, IsNotIn, IsPlaced, IsRootLevel, IsRunOf}
pub use Rattle.tree_shape.specs.Chains.{IsTreeOf, LeftContext, LinksWithin, Rises, downlinks, due_link, due_links, first_or, first_context, from_low, low_past, past, context_after}
pub use Rattle.tree_shape.specs.Deletion.{as_deleted, handed_on}
pub use Rattle.tree_shape.specs.Edits.{AreUpTo, IsBeforeFirst, IsBelowBound, IsBelowNext, IsBetween, IsFinish, IsFree, IsHalfDeath, IsInsertion, IsLeafSplit, IsLinkAdded, IsLinkHandedOn}
pub use Rattle.tree_shape.specs.Edits.{IsParentSplit, IsPutIn, IsRemoval, IsRootSplit, IsUnlink, LeafHalves, LinkHalves, cleared, deleted, left_half, left_links, new_root, removed_from}
pub use Rattle.tree_shape.specs.Edits.{right_half, right_links, with_leaf, with_left, with_links, with_right}
pub use Rattle.tree_shape.specs.Halves.{LiesBefore, left_count}
pub use Rattle.tree_shape.specs.KeyBounds.{IsKeyBound, KeyBoundsPartKeys}
pub use Rattle.tree_shape.specs.KeyPages.{AreUnique, IsKeyFree, IsKeyLink, IsUniqueNode, IsUniquePage, KeyBefore}
pub use Rattle.tree_shape.specs.Laws.{CoversLeadStraightDown, FinishKeeps, FirstIsATree, HalfDeathHolds, HalfDeathKeeps, HalfDeathLeadsOn, HasLink, InsertionKeeps, IsLed, IsPassedBy, LeadsRight}
pub use Rattle.tree_shape.specs.Laws.{LeafSplitKeeps, OnlyLeavesHold, ParentSplitKeeps, RemovalKeeps, RemovalTakes, RootCovers, RootSplitKeeps, UnlinkHolds, UnlinkKeeps, UnlinkLeadsOn}
pub use Rattle.tree_shape.specs.Leaf.{AreParts, IsCopiedFrom, IsPlaceOf, MayHold}
pub use Rattle.tree_shape.specs.LinkPlaces.{FitsAfter, HasLinks, IsBelowFirst, LinkSplit, bound_at, child_at, link_at, with_downlinks}
pub use Rattle.tree_shape.specs.Nodes.{HoldsOneMore, HoldsTheSame, IsHeld, Node, entries_alive, holds, links_of, node_of}
pub use Rattle.tree_shape.specs.Separators.{IsCutOf, IsKeyBefore, IsShortestPast, shared}
pub use Rattle.tree_shape.specs.Walks.{AreLeftAfter, IsAim, IsCoverOn, IsEased, IsFitOn, IsKeptBack, IsKeptFromReuse, IsLead, IsLeftOf, IsNoHigher, IsTrail, IsWalked, KeepsPlaces, KeepsTrails}
pub use Rattle.tree_shape.specs.Walks.{SameOrder, bound_aim, by_deleted, entry_aim, frontier_aim, here, is_beyond, is_fit, is_within, on_chain, over, reached, step}
