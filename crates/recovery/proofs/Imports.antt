-- What several proofs of this crate import, passed on from one place. Declares nothing.
pub use Rattle.std.proofs.lemmas.Bool.{cases_eq, cases_lt}
pub use Rattle.std.proofs.lemmas.List.{get_or-drop, get_or-take, length-replicate, take_all, take_at}
pub use Rattle.std.proofs.lemmas.Option.{slice_get_within}
pub use Rattle.std.specs.Int.{from_le_bytes, to_le_bytes, w32}
pub use Rattle.std.specs.Prelude.{IfOk, IsErrAnd, MatchResult, OnOk, ◌||◌}
pub use Rattle.index_model.specs.Limits.{Admits, AreLimits}
pub use Rattle.index_model.specs.declared.fault.Fault.{Fault}
pub use Rattle.index_model.specs.declared.fault.Fault.TheVariants.{BadLimits, BadSuper, BadVersion, IndexFull, Io, LogDamaged, NoMemory, PageDamaged}
pub use Rattle.index_model.specs.declared.format.Format.{Format}
pub use Rattle.index_model.specs.declared.layout.Layout.TheVariants.{One, Two}
pub use Rattle.device.proofs.Going.{goes_both, goes_now, goes_on, goes_weaker, steps, syncs_goes, writes_goes}
pub use Rattle.device.proofs.Standing.{elsewhere_untouched, has_drop, has_kept, kept, on_image, only_more, only_wider, same_only, synced_on, synced_only, wrote_has, wrote_only}
pub use Rattle.device.specs.Disk.{DiskMoment, MayCrashTo, Syncs, Trace, Writes, is_in, next, synced, wrote}
pub use Rattle.device.specs.Moments.{AtEachMoment}
pub use Rattle.device.specs.Places.{ChangesOnly, Has, IsUntouched, OnDisk}
pub use Rattle.page_codec.proofs.Laws.{length-page, one_page}
pub use Rattle.page_codec.specs.Places.{needed_length, place}
pub use Rattle.page_codec.specs.declared.page.Page.{Page}
pub use Rattle.redo_log.specs.Kept.{ChangesItsRange, ForgetsForced, KeepsWhileUntouched, LogHolds, Restarts, RestartsOrEmpty, RestartsOrEmptyThroughout, WhatItKeepsRestarts, format_of}
pub use Rattle.redo_log.specs.Kept.{waiting_count}
pub use Rattle.redo_log.specs.Reading.{HoldsLast, IsDamaged, IsOpened, Replays, kept_image}
pub use Rattle.redo_log.specs.declared.log.Log.{Log}
pub use Rattle.redo_log.specs.declared.log.Replayed.{Replayed}
pub use Rattle.page_action.proofs.StoredPages.{stored-add, stored_page}
pub use Rattle.page_action.specs.Stored.{AreStored, IsStored}
pub use Rattle.page_store.proofs.Restarting.{length-superblock, past_of_none, superblock_kept}
pub use Rattle.page_store.specs.Logged.{AreHome, StandsOpened}
pub use Rattle.page_store.specs.Restart.{CrashesToPages, RestartsTo, StandsAtHome}
pub use Rattle.page_store.specs.Rooms.{counts_of_room, frames_of_room, format_of_room, pages_of_room}
pub use Rattle.page_store.specs.Writing.{AreSeen}
pub use Rattle.recovery.specs.Calls.{FailsWithIoOr, IsIoOr}
pub use Rattle.recovery.specs.Fresh.{AreZero, CrashesToEmpty, CrashesToNoMagic, HasBody, HasPages, IsEmptyIndex, IsFirstLeaf, IsFirstMeta, IsMaking, WritesFront}
pub use Rattle.recovery.specs.Homing.{AreHomed, ChangesNamed, HasImages}
pub use Rattle.recovery.specs.Index.{HasIndex}
pub use Rattle.recovery.specs.Opening.{AreFrames, AreSamePages, HasGroups, IsFound, IsFront, IsFrontFault, IsFrontRefusal, IsNoMemoryOrIo, IsRefusal, IsRestoreRefusal, IsRestored, IsSynced}
pub use Rattle.recovery.specs.Opening.{StandsOnDevice}
pub use Rattle.recovery.specs.Outside.{ChangesAfterFront, ChangesItsBytes, ChangesOneIndex, SameLogBytes}
pub use Rattle.recovery.specs.Reading.{AreBlocks, AreBytesOf, AreInUse, HasReadPages, IsAllRead, IsDamagedAt, IsDamagedBlock, IsEnd, StandFirst, block_bytes, greatest_cycle}
pub use Rattle.recovery.specs.Superblock.{IsLayout, IsNoSuperblock, is_unique, layout_of, sizes_in, spelled_number}
pub use Rattle.recovery.specs.declared.opening.Parts.{Parts}
pub use Rattle.recovery.specs.declared.reading.Found.{Found}
