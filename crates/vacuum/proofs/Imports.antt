-- What several proofs of this crate import, passed on from one place. Declares nothing.
pub use Rattle.std.proofs.lemmas.Bool.{and_from, and_parts, cases_Bool, cases_eq, cases_lt, lt-ltb, ltb-true, not-true, or_cases, or_left, or_right}
pub use Rattle.index_model.specs.Actions.{Effect, Remove, said_of}
pub use Rattle.index_model.specs.Faults.{HasCause}
pub use Rattle.index_model.specs.Order.{IsAscending, IsEntry, IsUpTo, is_among}
pub use Rattle.index_model.specs.Row.{Row}
pub use Rattle.index_model.specs.declared.entry.Entry.{Entry}
pub use Rattle.index_model.specs.declared.fault.Fault.{Fault}
pub use Rattle.index_model.specs.declared.fault.Fault.TheVariants.{Blocked, Io, LogFull, Stopped}
pub use Rattle.page_codec.specs.Edits.{HasEntries, entries_of, renewed, with_entries}
pub use Rattle.page_codec.specs.declared.page.Items.{Items}
pub use Rattle.page_codec.specs.declared.page.Items.TheVariants.{Downlinks, Entries, Meta}
pub use Rattle.page_codec.specs.declared.page.Page.{Page}
pub use Rattle.page_codec.specs.declared.page.PageState.{PageState}
pub use Rattle.page_codec.specs.declared.page.PageState.TheVariants.{Deleted, HalfDead, Live}
pub use Rattle.latch_table.specs.Holdings.{HasRoom, Holding, Table, excludes, has_pin, holding_excludes, holding_of, is_held_by_another, latches_exclude, others_exclude, pins_exclude}
pub use Rattle.latch_table.specs.declared.mode.Mode.TheVariants.{Cleanup, Exclusive, Shared}
pub use Rattle.page_action.proofs.StoredPages.{stored_page}
pub use Rattle.page_action.specs.Contents.{entry_on_live_leaf, is_on, live_entries}
pub use Rattle.page_action.specs.States.{Backing, Continues, IsLater, State, after_act}
pub use Rattle.page_action.specs.Stored.{AreActable, IsStored}
pub use Rattle.std.proofs.lemmas.Option.{slice_get_past, slice_get_within}
pub use Rattle.tree_shape.specs.Edits.{removed_from}
pub use Rattle.tree_acts.proofs.Overlays.{node_there, page_length, page_other, page_there}
pub use Rattle.tree_acts.proofs.Removing.{leaf_begins_trail, leaf_is, removing_flags, removing_lasts}
pub use Rattle.tree_acts.proofs.Words.{contents_held, trail_in}
pub use Rattle.tree_acts.specs.Acts.{ContentsLose, EntriesAreRemoved, TreeLasts}
pub use Rattle.tree_acts.specs.Leaves.{HasOldEntries, IsLeafAt, LeafBecomes, LeafIsHalved, LeafPagesStay, WasLeaf}
pub use Rattle.tree_acts.specs.StepEffects.{IsInOrder, IsOneActAtMost, NumbersStay, StepEffect, causes_of_working}
pub use Rattle.descent.proofs.Acting.{nothing_else, one_act, one_nothing, others_rely}
pub use Rattle.vacuum.specs.BulkDeletes.{BulkDeleteInvariant, BulkDeleteSteps, IsGoingBack, block_if, causes_of_deleting, causes_of_taking, dead_at, dead_of, has_dead, is_counted_out, removes}
pub use Rattle.vacuum.specs.Counts.{IsBelow, IsCounted, entries_below, entry_count, stats_of}
pub use Rattle.vacuum.specs.Ops.{cursor_past, dead_entries, last_read, lives, moves_of, next_block, without_dead}
pub use Rattle.vacuum.specs.Turns.{IsPruned, LeadsBack, TurnsNoMore, TurnsTo, moved_beyond, written}
pub use Rattle.vacuum.specs.Vacuuming.{BlockIsToCome, DueIsToCome, IsSibling, WentBackFromLeaf, ahead, led, sibling}
pub use Rattle.vacuum.specs.Work.{bulk_delete_left}
pub use Rattle.vacuum.specs.declared.leaf.PrunedLeaf.{PrunedLeaf}
pub use Rattle.vacuum.specs.declared.steps.Backtrack.{Backtrack}
pub use Rattle.vacuum.specs.declared.steps.BulkDeleteOp.{BulkDeleteOp}
