-- What several proofs of this crate import, passed on from one place. Declares nothing.
pub use Rattle.std.proofs.Math.Bool.{or-true}
pub use Rattle.std.proofs.lemmas.Bool.{cases_eq, cases_lt, eq-eqb, le-leb, le-ltb, lt-leb, lt-ltb}
pub use Rattle.std.proofs.lemmas.Option.{get_or_from_slice_get, slice_get_cases, unwrap_or-slice_get}
pub use Rattle.index_model.specs.declared.format.Format.{Format}
pub use Rattle.page_codec.specs.declared.page.Page.{Page}
pub use Rattle.free_blocks.specs.Numbers.{AreBeyond, IsLowest, is_at_most, lesser, number_at}
pub use Rattle.page_action.specs.CallTables.{TableOfCalls, state_with}
pub use Rattle.page_action.specs.Frames.{CostsNothing, Memory, TakesFrame, TakesFrames, blocks_of, is_block_among}
pub use Rattle.page_action.specs.Reuse.{IsFresh, IsFull, is_deleted, is_deleted_page, is_deleted_state, is_reusable, others_began_after}
pub use Rattle.page_action.specs.States.{Backing, State, number_to_count, with_count, with_counts, with_page, with_pages}
pub use Rattle.page_action.specs.Stored.{AreActable, AreStored, IsActableBeside, IsApartFrom, IsFirstMisplaced, IsStorable, IsStored, IsWritable}
pub use Rattle.page_action.specs.Waiting.{AreWaiting, Numbers, least_start, waiting_at, waiting_number, with_all_waiting, with_waiting}
