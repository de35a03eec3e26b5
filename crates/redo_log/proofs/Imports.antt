-- What several proofs of this crate import, passed on from one place. Declares nothing.
pub use Rattle.std.proofs.Math.Seq.{drop-append-add, drop-length, take-append-add}
pub use Rattle.std.proofs.lemmas.Bool.{OnFalse_at, OnTrue_at, OnTrue_from, both_ways, cases_Bool, cases_eq, cases_lt, eq-eqb, eqb-false, eqb-true, false_from_ne_true, false≢true, ne_eqb, or_cases}
pub use Rattle.std.proofs.lemmas.Bool.{or_from, or_left, or_parts, or_right, true≢false}
pub use Rattle.std.proofs.lemmas.List.{append-nil, drop-append-le, drop-drop, drop-take, drop_at, get_or-drop, get_or-set_other, get_or-set_same, get_or-take, get_or_append_left, get_or_push}
pub use Rattle.std.proofs.lemmas.List.{length-replicate, length_push, take-append-drop, take-append-le, take-take, take_at, with_items_is}
pub use Rattle.std.specs.Int.{from_le_bytes, to_le_bytes, w32}
pub use Rattle.std.specs.Prelude.{IfNone, IfSome, OnOk, is_some, slice_range}
pub use Rattle.index_model.specs.declared.format.Format.{Format}
pub use Rattle.device.proofs.Going.{goes_now, goes_on, goes_weaker, steps, syncs_goes, writes_goes}
pub use Rattle.device.proofs.Standing.{elsewhere_untouched, has_back, has_both, has_drop, has_kept, kept, on_back, on_both, on_front, on_image, only_more, only_wider, same_only, synced_on}
pub use Rattle.device.proofs.Standing.{synced_only, untouched_on, wrote_has, wrote_only}
pub use Rattle.device.specs.Disk.{DiskMoment, MayCrashTo, Syncs, Trace, Writes, next, synced, wrote}
pub use Rattle.device.specs.Moments.{AtEachMoment}
pub use Rattle.device.specs.Places.{ChangesOnly, Has, OnDisk}
pub use Rattle.page_codec.proofs.Laws.{length-page, one_page}
pub use Rattle.page_codec.specs.declared.page.Page.{Page}
pub use Rattle.redo_log.specs.Blocks.{AreInside, AreOfBlocks, AreLaid, ReachesPast, image_blocks, is_among_blocks, new_count, with_block, with_blocks, with_image, with_images}
pub use Rattle.redo_log.specs.Groups.{AreGroups, AreImages, IsGroup, IsImage, SpellsGroups, body, log_range, spelled_groups}
pub use Rattle.redo_log.specs.Images.{SameImages, if_of, images_bytes, images_of, last_image, later_of}
pub use Rattle.redo_log.specs.Kept.{ChangesItsRange, ForgetsForced, ImagesFit, IsAjar, IsSettled, KeepsActions, LogHolds, MayBeLetIn, RangeIsUntouched, Restarts, RestartsOrEmpty, RestartsThroughout, SameLog, Waits, WaitsAlike, IsLaid, format_of}
pub use Rattle.redo_log.specs.Kept.{is_ajar, is_written, waiting_blocks, waiting_count, waiting_images}
pub use Rattle.redo_log.specs.Reading.{AreAllImages, AreAllNoted, AreNoted, IsReplay, NotesGroup, NotesImages, Replays, bytes_at}
pub use Rattle.redo_log.specs.declared.log.Log.{Log}
