-- What several proofs of this crate import, passed on from one place. Declares nothing.
pub use Rattle.std.proofs.lemmas.Bool.{and_parts, cases_Bool, eq-eqb, eqb-true, false≢true, leb-true, lt-ltb, ltb-true}
pub use Rattle.std.proofs.lemmas.Nat.{mul-add-lt, mul-le}
pub use Rattle.index_model.specs.Faults.{HasCause}
pub use Rattle.index_model.specs.Formats.{sizes_of}
pub use Rattle.index_model.specs.Order.{IsAscending, IsUpTo, bound_cmp, bound_of, is_among, is_past, key_cmp, row_cmp}
pub use Rattle.index_model.specs.Range.{below_admits, from_admits, start_of}
pub use Rattle.index_model.specs.declared.bound.Bound.{Bound}
pub use Rattle.index_model.specs.declared.entry.Entry.{Entry}
pub use Rattle.index_model.specs.declared.fault.Fault.{Fault}
pub use Rattle.index_model.specs.declared.fault.Fault.TheVariants.{Blocked, NoFrame, PageDamaged, Stopped}
pub use Rattle.index_model.specs.declared.limits.Limits.{Limits}
pub use Rattle.page_codec.specs.Edits.{HasEntries, entries_of}
pub use Rattle.page_codec.specs.Grammar.{IsLeafIn, IsLiveLeaf, IsOfKind, IsPage}
pub use Rattle.page_codec.specs.declared.page.Items.{Items}
pub use Rattle.page_codec.specs.declared.page.Page.{Page}
pub use Rattle.page_codec.specs.declared.page.PageState.TheVariants.{Live}
pub use Rattle.latch_table.specs.Holdings.{HasRoom, Holding, Table, has_pin, holding_of, is_held_by_another, pinned, without_pin}
pub use Rattle.page_action.specs.States.{Backing, Continues, IsLater, State, with_table}
pub use Rattle.std.proofs.lemmas.Option.{same_Some}
pub use Rattle.tree_shape.specs.Chains.{IsIn, IsNoGreater}
pub use Rattle.tree_shape.specs.Leaf.{IsCopiedFrom}
pub use Rattle.tree_shape.specs.Nodes.{Node, is_live, node_of}
pub use Rattle.tree_shape.specs.Walks.{entry_aim, frontier_aim, is_within}
pub use Rattle.tree_acts.proofs.Meanings.{frontier_shows, leaf_shows, metapage_shows, passed_shows, place_inside, places_widen, root_covers_all, trail_begins_here, trail_moves_right}
pub use Rattle.tree_acts.specs.Leaves.{IsLeafAt, WasLeaf}
pub use Rattle.tree_acts.specs.StepEffects.{IsInOrder, IsOneActAtMost, NumbersStay, StepEffect}
pub use Rattle.tree_acts.specs.Trees.{HasCover, HasTrail, HasTree, LeadsTo}
pub use Rattle.tree_acts.specs.Ways.{NoneIsIncomplete, RightIsThere}
pub use Rattle.descent.proofs.Acting.{holds_else, one_nothing}
pub use Rattle.descent.proofs.Shortening.{walk_is_long, way_shortens}
pub use Rattle.descent.specs.NextPage.{DescentIsShorter, IsArrived, IsOnDescent, IsShorter, LeadsStraight, LeadsToNext, walk_length, position_from, way_left}
pub use Rattle.descent.specs.declared.position.Position.{Position}
pub use Rattle.scan.specs.Scans.{IsAfter, IsUnderway, LeafIsLive, LeafIsRead, ScanInvariant, ScanStands, ScanSteps, ScanWaits, after_leaf, after_reading, causes_of_scanning, frontier_past, leaf_pinned}
pub use Rattle.scan.specs.Scans.{moved_to, waiting, without_leaf}
pub use Rattle.scan.specs.Straight.{ScanCountsDown, ScanIsStraight, scan_straight_steps}
pub use Rattle.scan.specs.Work.{count_ahead, is_ahead, leaves_left, scan_left, scan_walk_left}
pub use Rattle.scan.specs.declared.steps.ScanAt.{ScanAt}
pub use Rattle.scan.specs.declared.steps.ScanAt.TheVariants.{At, Last, Start}
pub use Rattle.scan.specs.declared.steps.ScanOp.{ScanOp}
pub use Rattle.scan.specs.declared.steps.ScanStep.TheVariants.{Going, Going as AtEachMoment, Ready}
