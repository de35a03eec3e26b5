-- What several proofs of this crate import, passed on from one place. Declares nothing.
pub use Rattle.byteorder.specs.Endian.{little_bytes, little_number}
pub use Rattle.byteorder.specs.Numbers.{little_from-take, little_number-reads_back}
pub use Rattle.std.proofs.lemmas.Bool.Decides.{Decides-eqb, nat_tests}
pub use Rattle.std.proofs.lemmas.List.{append-nil, drop-drop, drop-take, drop_at, get_or-drop, length-drop, length-replicate, take-replicate, take-take, take_all, take_at}
pub use Rattle.std.proofs.lemmas.List.Concat.{flat_map-cons}
pub use Rattle.std.proofs.lemmas.Option.{same_Some}
pub use Rattle.std.specs.Prelude.{IfSome, IsTrue, Some, nat_lt, slice_index, ◌==◌}
pub use Rattle.index_model.specs.Order.{IsEntry, IsUpTo, bound_of}
pub use Rattle.index_model.specs.Padded.{length-padded, padded}
pub use Rattle.index_model.specs.Row.{IsRow, Row}
pub use Rattle.index_model.specs.declared.bound.Bound.{Bound}
pub use Rattle.index_model.specs.declared.entry.Entry.{Entry}
pub use Rattle.index_model.specs.declared.layout.Layout.{Layout}
pub use Rattle.index_model.specs.declared.layout.Layout.TheVariants.{One, Two}
pub use Rattle.page_codec.specs.Begins.{AreItems, Begins, HasSlot, IsRead, size_of}
pub use Rattle.page_codec.specs.Grammar.{AreEntries, AreLinks, Below, EntryBefore, EntryInPlace, IsBlock, IsBoundIn, IsDownlink, IsLeafIn, IsOfKind, IsPage, IsRowIn, LinkBefore, LinkInPlace}
pub use Rattle.page_codec.specs.Spelling.{row_bytes}
pub use Rattle.page_codec.specs.declared.page.Downlink.{Downlink}
pub use Rattle.page_codec.specs.declared.page.Items.{Items}
pub use Rattle.page_codec.specs.declared.page.Items.TheVariants.{Downlinks, Entries, Meta}
pub use Rattle.page_codec.specs.declared.page.Page.{Page}
pub use Rattle.page_codec.specs.declared.page.PageState.{PageState}
pub use Rattle.page_codec.specs.declared.page.PageState.TheVariants.{Deleted, HalfDead, Live}
