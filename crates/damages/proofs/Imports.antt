-- What several proofs of this crate import, passed on from one place. Declares nothing.
pub use Rattle.std.proofs.lemmas.Bool.{cases_Bool, cases_eq, cases_lt, false≢true}
pub use Rattle.std.proofs.lemmas.Option.{same_Some, slice_get_within}
pub use Rattle.std.specs.List.{AllByRecursion, Contains}
pub use Rattle.std.specs.Ordering.{is_lt}
pub use Rattle.index_model.specs.Order.{AscendsPast, IsUpTo, bound_cmp, bound_of, key_cmp}
pub use Rattle.index_model.specs.declared.bound.Bound.{Bound}
pub use Rattle.index_model.specs.declared.entry.Entry.{Entry}
pub use Rattle.page_codec.specs.Edits.{entries_of}
pub use Rattle.page_codec.specs.Grammar.{Ascends, Below, FollowedBy, IsLeafIn, IsOfKind, IsPage, LinkBefore, StartsLow}
pub use Rattle.page_codec.specs.declared.page.Downlink.{Downlink}
pub use Rattle.page_codec.specs.declared.page.Items.{Items}
pub use Rattle.page_codec.specs.declared.page.Items.TheVariants.{Downlinks, Entries, Meta}
pub use Rattle.page_codec.specs.declared.page.Page.{Page}
pub use Rattle.page_codec.specs.declared.page.PageState.{PageState}
pub use Rattle.page_codec.specs.declared.page.PageState.TheVariants.{Deleted, HalfDead, Live}
pub use Rattle.tree_shape.proofs.Few.{few_blocks, is_in_or}
pub use Rattle.tree_shape.proofs.Members.{not_in_apart, not_in_from}
pub use Rattle.tree_shape.specs.Chains.{AreDistinct, AscendWithin, BoundsWithin, FitsState, HasItems, IsBeyond, IsBoundWithin, IsIn, IsNotIn, IsPlaced, IsRootLevel, IsRunOf, IsTreeOf, LeftContext}
pub use Rattle.tree_shape.specs.Chains.{LinksWithin, Rises, downlinks, due_link, due_links, first_or, first_context, from_low, low_past, past, context_after}
pub use Rattle.tree_shape.specs.KeyPages.{AreUnique, IsKeyLink, IsUniqueNode, IsUniquePage, KeyBefore}
pub use Rattle.tree_shape.specs.Nodes.{Node, links_of, no_node, node_from, node_of, nodes_of}
pub use Rattle.tree_acts.specs.TheoremTree.{IsTree}
pub use Rattle.damages.specs.Damages.{ComesBefore, HasNotBeyond, Here, Index, IsAfterRoot, IsBack, IsDamage, IsFirstDamage, IsMetBefore, IsOfChain, IsOfParents, IsOfPath, IsOnChain, IsOnLevel}
pub use Rattle.damages.specs.Damages.{IsSound, IsUnlinked, Item, Place, Site, first_child, head, index_of, left_after_steps, moved_left, next_place, node, or_block, place_at, place_from, rank}
pub use Rattle.damages.specs.Damages.{site_block, context, start}
pub use Rattle.damages.specs.Damages.IsOfChain.{beside_root, dead_after_split, deleted, met_before, not_beyond, not_rising, off_level, shared_key, wrong_left}
pub use Rattle.damages.specs.Damages.Site.{at_child, at_page, nowhere, on_chain, on_way}
pub use Rattle.damages.specs.Levels.{AreLevels, HasLevels, HasUniqueLevels, IsAbove, StandAtTheirBlocks}
pub use Rattle.damages.specs.Lows.{IsBoundBeyond, IsFirstBeyond, IsSecondBeyond}
