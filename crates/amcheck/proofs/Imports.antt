-- What several proofs of this crate import, passed on from one place. Declares nothing.
pub use Rattle.rayon.specs.Lists.{first_true}
pub use Rattle.std.proofs.lemmas.Bool.{cases_Bool, cases_eq, cases_lt, false≢true, le-ltb, lt-leb, lt-ltb, ltb-true}
pub use Rattle.std.proofs.lemmas.List.{append-nil, get_or-set_other, get_or-set_same, length-replicate, length-set, take_all}
pub use Rattle.std.proofs.lemmas.Option.{same_Some, slice_get-get_or, slice_get_past, slice_get_within}
pub use Rattle.std.specs.List.{AllByRecursion, AllZip, Contains, range_with_len}
pub use Rattle.std.specs.Prelude.{All, Err, IfErr, IfOk, IfSome, IsSome, Ok, OnOk, Result}
pub use Rattle.index_model.specs.Faults.{HasCause}
pub use Rattle.index_model.specs.declared.bound.Bound.{Bound}
pub use Rattle.index_model.specs.declared.fault.Fault.{Fault}
pub use Rattle.index_model.specs.declared.fault.Fault.TheVariants.{Io, NoFrame, NoMemory, PageDamaged, Stopped}
pub use Rattle.index_model.specs.declared.format.Format.{Format}
pub use Rattle.page_codec.specs.Grammar.{Ascends, Below, IsBlock, IsLeafIn, IsOfKind, IsPage, LinkBefore, StartsLow}
pub use Rattle.page_codec.specs.declared.page.Downlink.{Downlink}
pub use Rattle.page_codec.specs.declared.page.Items.{Items}
pub use Rattle.page_codec.specs.declared.page.Items.TheVariants.{Downlinks, Entries, Meta}
pub use Rattle.page_codec.specs.declared.page.Page.{Page}
pub use Rattle.page_codec.specs.declared.page.PageState.{PageState}
pub use Rattle.page_codec.specs.declared.page.PageState.TheVariants.{Deleted, HalfDead, Live}
pub use Rattle.latch_table.specs.Holdings.{has_pin, pinned_blocks}
pub use Rattle.page_action.proofs.Framing.{takes_next, takes_none, takes_rest}
pub use Rattle.page_action.proofs.StoredPages.{slice_get_at, stored-add, stored_page}
pub use Rattle.page_action.specs.Causes.{causes_of_read}
pub use Rattle.page_action.specs.Frames.{FrameCosts, Memory, TakesFrame, TakesFrames, is_block_among}
pub use Rattle.page_action.specs.Room.{KeepsRoom}
pub use Rattle.page_action.specs.States.{Backing, Continues, IsLater, State}
pub use Rattle.page_action.specs.Stored.{AreStored, IsStored}
pub use Rattle.tree_shape.proofs.Few.{few_blocks}
pub use Rattle.tree_shape.proofs.Members.{apart_append, apart_back, in_append_cases, in_append_left, in_append_right, not_in_from}
pub use Rattle.tree_shape.specs.Chains.{AreDistinct, IsBeyond, IsIn, LeftContext, LinksWithin, Rises, from_low, past}
pub use Rattle.tree_shape.specs.KeyPages.{AreUnique, IsKeyLink, IsUniqueNode, KeyBefore}
pub use Rattle.tree_shape.specs.Nodes.{Node, links_of, no_node, node_from, node_of, nodes_of}
pub use Rattle.tree_acts.specs.TheoremTree.{IsTree}
pub use Rattle.damages.proofs.Decided.{bool_so, no_link, on_level_so}
pub use Rattle.damages.proofs.Fitting.{page_there}
pub use Rattle.damages.proofs.KeysJudged.{more, without_keys}
pub use Rattle.damages.proofs.Walks.{has_before}
pub use Rattle.damages.specs.Damages.{ComesBefore, HasNotBeyond, Here, Index, IsAfterRoot, IsDamage, IsFirstDamage, IsMetBefore, IsOfChain, IsOfParents, IsOfPath, IsOnChain, IsOnLevel, IsSecond}
pub use Rattle.damages.specs.Damages.{IsSound, IsUnlinked, Item, Place, Site, first_child, index_of, left_after_steps, next_place, node, or_block, place_at, rank, context, start}
pub use Rattle.damages.specs.Damages.IsOfChain.{beside_root, dead_after_split, deleted, met_before, not_beyond, not_rising, off_level, shared_key, wrong_left}
pub use Rattle.damages.specs.Damages.Site.{at_child, at_page, nowhere, on_chain, on_way}
pub use Rattle.amcheck.specs.AllStops.{AreAllStops, HasNoStop, HaveBlocksOnce, IsAt, IsStopOf, PlacesAreOfStops, StopsAreAll}
pub use Rattle.amcheck.specs.Answers.{IsAnswer}
pub use Rattle.amcheck.specs.Chains.{IsClearChain, IsFirstOfChain}
pub use Rattle.amcheck.specs.Checks.{IsCheckFault, causes_of_checked}
pub use Rattle.amcheck.specs.Downlinks.{AreBelow, DownlinksAreNoted, HasExtra, HasOtherLow, HasWrongBound, IsExtra, IsOff, IsSkipped, IsSkippedStop, IsWrongAmong, LacksLink, LeadsBefore}
pub use Rattle.amcheck.specs.Ends.{IsChainEnd, IsEarlier}
pub use Rattle.amcheck.specs.JudgedPages.{JudgesPages}
pub use Rattle.amcheck.specs.LevelDamages.{AreOfUpper, IsClearLevel, IsFirstOfLevel, IsOfUpper}
pub use Rattle.amcheck.specs.Levels.{IsNotMet, NamesRoot}
pub use Rattle.amcheck.specs.Marks.{IsMet}
pub use Rattle.amcheck.specs.PageRooms.{HasPageRoom}
pub use Rattle.amcheck.specs.ParentDamages.{AreChildrenBelow, AreMarked, IsClearAt, IsFirstAt, IsFirstChild, IsFirstOfPage}
pub use Rattle.amcheck.specs.Places.{IsNoneOrBeyond, StandAtTheirBlocks}
pub use Rattle.amcheck.specs.Reading.{AreFetched, IsRestBut, PagesAreRead, blocks_below, without_first}
pub use Rattle.amcheck.specs.Reports.{IsReport, count_entries_on, one_if_deleted, one_if_half_dead, one_if_incomplete, report_of, sum_of_all}
pub use Rattle.amcheck.specs.Searching.{AreSearchable}
pub use Rattle.amcheck.specs.Sketches.{HoldSketches, HasGrown, HoldsSketch, IsSketch, least_bound, links_at, second_bound}
pub use Rattle.amcheck.specs.Sound.{HasLevelsFor, IsSoundTree}
pub use Rattle.amcheck.specs.Stops.{AreStops, HasWrongItem, IsBad, IsFirstPlace, IsLeastNumber, IsRootAt, IsStop, IsTooMuch, IsWrong, IsWrongAt, StopsAreInUse, high_at, context_at, stop_blocks}
pub use Rattle.amcheck.specs.Stops.IsWrongBy.{half_dead_after, linked_wrongly, still_there, too_low, too_much, wrong_item, wrong_keys}
pub use Rattle.amcheck.specs.Ways.{IsClearPath, IsFirstOfPath}
pub use Rattle.amcheck.specs.WrongSketches.{IsWrongSketch}
pub use Rattle.amcheck.specs.declared.marks.Met.{Met}
pub use Rattle.amcheck.specs.declared.report.CheckFault.{CheckFault}
pub use Rattle.amcheck.specs.declared.report.CheckFault.TheVariants.{Damage as Damaged, Refused}
pub use Rattle.amcheck.specs.declared.report.Damage.{Damage}
pub use Rattle.amcheck.specs.declared.report.Report.{Report}
pub use Rattle.amcheck.specs.declared.sketches.Sketch.{Sketch}
pub use Rattle.amcheck.specs.declared.stops.Stop.{Stop}
