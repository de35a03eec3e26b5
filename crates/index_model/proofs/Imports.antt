-- What several proofs of this crate import, passed on from one place. Declares nothing.
pub use Rattle.std.proofs.lemmas.Cmp.{nat_cmp_total, nat_list_cmp_total, on_total, then_total, tied_itself}
pub use Rattle.std.proofs.lemmas.List.{drop-drop, get_or-drop, length-drop, take-append-le, take_all}
pub use Rattle.std.specs.Cmp.{IsTotalOrder, nat_cmp_is, ranks}
pub use Rattle.std.specs.Cmp.Lexicographic.{options_total, slice_cmp}
pub use Rattle.std.specs.Ordering.{MatchOrdering, is_eq, is_gt, is_lt, is_ne, nat_cmp, ordering_reverse, ordering_then}
pub use Rattle.std.specs.declared.cmp.Ordering.{Ordering}
pub use Rattle.std.specs.declared.cmp.Ordering.TheVariants.{Equal, Greater, Less}
pub use Rattle.index_model.specs.Order.{AscendsPast, IsBefore, IsPast, bound_cmp, bound_of, entry_cmp, is_among, is_past, key_cmp, last_or, row_cmp, same_entry}
pub use Rattle.index_model.specs.Padded.{padded_again, spelled}
pub use Rattle.index_model.specs.Row.{Row}
pub use Rattle.index_model.specs.declared.bound.Bound.{Bound}
pub use Rattle.index_model.specs.declared.entry.Entry.{Entry}
