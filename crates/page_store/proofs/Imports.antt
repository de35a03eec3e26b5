-- What several proofs of this crate import, passed on from one place. Declares nothing.
pub use Rattle.std.proofs.lemmas.Bool.{cases_eq, cases_lt, eq-eqb, le-leb, le-ltb, lt-ltb, ne_eqb, not-false}
pub use Rattle.std.proofs.lemmas.List.{append-nil, append_assoc, drop-append-le, get_or_append_left, length-append, length-replicate, length-take, take-append-drop, take-append-le, take_all}
pub use Rattle.std.proofs.lemmas.List.{take_at}
pub use Rattle.std.proofs.lemmas.Option.{get_or_from_slice_get, slice_get-get_or, slice_get_cases, slice_get_past, slice_get_within}
pub use Rattle.std.specs.List.{list_any}
pub use Rattle.std.specs.Prelude.{All, Bool, Err, IfErr, IsErrAnd, IsSome, IsTrue, Ok, OnErr, OnOk, Result, false, if◌then◌else◌, is_some, remove, slice_range, ◌==◌, ◌||◌, ◌≡◌}
pub use Rattle.std.specs.Result.{is_err}
pub use Rattle.index_model.specs.declared.fault.Fault.{Fault}
pub use Rattle.index_model.specs.declared.fault.Fault.TheVariants.{Io, LogFull, NoFrame, PageDamaged, Stopped}
pub use Rattle.index_model.specs.declared.format.Format.{Format}
pub use Rattle.device.proofs.Going.{goes_both, goes_now, goes_on, goes_weaker, stays, syncs_goes, writes_goes}
pub use Rattle.device.proofs.Standing.{has_drop, has_kept, kept, on_image, same_only, synced_only, wrote_has, wrote_only}
pub use Rattle.device.specs.Disk.{CountsFailures, DiskMoment, MayCrashTo, Trace, Writes, synced, wrote}
pub use Rattle.device.specs.Moments.{AtEachMoment}
pub use Rattle.device.specs.Places.{ChangesOnly, Has, OnDisk}
pub use Rattle.device.specs.declared.device.Device.{Ghosts}
pub use Rattle.page_codec.proofs.Laws.{length-page, one_page}
pub use Rattle.page_codec.specs.Places.{place}
pub use Rattle.page_codec.specs.declared.page.Page.{Page}
pub use Rattle.redo_log.proofs.ImageLists.{images_of-push, last_image-append}
pub use Rattle.redo_log.proofs.Keeping.{forgets_all, keeps_elsewhere, keeps_restarts}
pub use Rattle.redo_log.specs.Images.{if_of, images_of, last_image, later_of}
pub use Rattle.redo_log.specs.Kept.{ChangesItsRange, Holds, HoldsFirst, ImagesFit, IoOrStopped, KeepsActions, LogHolds, Restarts, RestartsOrEmpty, RestartsOrEmptyThroughout, end_with, is_stopped, format_of}
pub use Rattle.redo_log.specs.Kept.{waiting_blocks, waiting_count}
pub use Rattle.redo_log.specs.declared.log.Log.{Log}
pub use Rattle.latch_table.specs.Holdings.{has_pin, pinned_blocks}
pub use Rattle.buffer_pool.specs.Choices.{IsOldest, count_distinct}
pub use Rattle.buffer_pool.specs.Frames.{BlocksAreApart, has_block}
pub use Rattle.buffer_pool.specs.Pools.{HasSamePages, IsPut}
pub use Rattle.buffer_pool.specs.declared.pool.Pool.{Pool}
pub use Rattle.page_action.proofs.Framing.{takes_next, takes_none, takes_nothing, takes_rest}
pub use Rattle.page_action.proofs.StoredPages.{drop_at_item, length-with_counts, slice_get_at, stored-add, stored-with_page, stored_at, stored_page, with_page-few, with_page-longer}
pub use Rattle.page_action.proofs.Waiting.{add_waits, length-with_all_waiting, none_wait, write_waits}
pub use Rattle.page_action.specs.CallTables.{TableOfCalls, state_with}
pub use Rattle.page_action.specs.Frames.{LogStays, Memory, TakesFrame, TakesFrames, TakesOver, TakesUnused, blocks_of}
pub use Rattle.page_action.specs.Order.{IsPartOf, IsRestOf, with_changed}
pub use Rattle.page_action.specs.Room.{WaitsOn, whole_room}
pub use Rattle.page_action.specs.States.{Backing, IsLater, State, with_counts, with_page, with_pages}
pub use Rattle.page_action.specs.Stored.{AreActable, AreStored, IsStored}
pub use Rattle.page_action.specs.Waiting.{AreWaiting, Numbers, waiting_number, with_all_waiting}
pub use Rattle.page_store.specs.Changing.{AreActed, used_after}
pub use Rattle.page_store.specs.Crashing.{crash_restarts, left_now, pages_were, part_of_more}
pub use Rattle.page_store.specs.Following.{Follows, GrowsTo, follows_same}
pub use Rattle.page_store.specs.Histories.{AreActs, after_acts, pages_after, pages_now, with_act}
pub use Rattle.page_store.specs.Logged.{AreHome, Held, IsKept, IsOwn, SameButDevice, StandsOpened, backing_of, held_of, is_named, memory_in, pages_held}
pub use Rattle.page_store.specs.Quiet.{IsSameButWritten, IsUnforced}
pub use Rattle.page_store.specs.Restart.{CrashesToPart, RestartsTo, RestartsToPart, StandsAtHome}
pub use Rattle.page_store.specs.Stores.{held_by, state_of}
pub use Rattle.page_store.specs.Taking.{AreTooMany, AreWrittenAhead, CostsFrame, FetchFails, GetFrames, GetsFrame, IsWrittenNext, SameFrames, TakingFails}
pub use Rattle.page_store.specs.Writing.{AreSeen, AreWrittenUpTo, GivesPage, HoldsPages, IsClean, ReadingFails}
pub use Rattle.page_store.specs.declared.history.History.{History}
pub use Rattle.page_store.specs.declared.logged_pages.LoggedPages.{LoggedPages}
