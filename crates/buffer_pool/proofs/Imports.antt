-- What several proofs of this crate import, passed on from one place. Declares nothing.
pub use Rattle.indexmap.specs.IndexSet.{move_index}
pub use Rattle.std.proofs.lemmas.Bool.{cases_Bool, cases_eq, cases_lt, cond-false, cond-true, eq-eqb, eqb-true, false_from_ne_true, le-ltb, lt-ltb, ltb-false, ltb-true, ne_eqb, not-false}
pub use Rattle.std.proofs.lemmas.Bool.{not-true, or_cases, or_left, or_right}
pub use Rattle.std.proofs.lemmas.List.{drop_all, drop_more, get_or-drop, get_or-map, get_or-take, get_or_append_left, get_or_at, get_or_default, get_or_past, get_or_push, get_or_read}
pub use Rattle.std.proofs.lemmas.List.{length-append, length-drop, length-map, length-take, length_push, map-set, map_push, set-get_or, take-append-drop, take_all, with_items_is}
pub use Rattle.std.proofs.lemmas.List.Edits.{Swapped, get_or-insert_above, get_or-remove_above, get_or-remove_below, length-insert, length-remove, length-swap, swapped_from_swap}
pub use Rattle.std.proofs.lemmas.List.Elements.{All-append, All-cons, All-drop, All-from_get_or, All-take, All-weaker}
pub use Rattle.std.proofs.lemmas.List.Folds.{Any-from_list_any, list_any-append, list_any_at, list_any_none}
pub use Rattle.std.proofs.lemmas.List.Quantifiers.{all_pairs_push, all_pairs_remove, position-Some}
pub use Rattle.std.proofs.lemmas.List.Sums.{count_by-le-length, fails_before_first, position_or_len_is, sum_by-set, sum_by_push}
pub use Rattle.std.proofs.lemmas.Option.{get_or_from_slice_get, slice_get-get_or, slice_get_past, slice_get_within}
pub use Rattle.std.specs.List.{All, count_by, position_or_len, remove}
pub use Rattle.std.specs.Option.{IfNone, IfSome, IsSome, is_some, option_and_then, option_map_or}
pub use Rattle.page_codec.specs.declared.page.Page.{Page}
pub use Rattle.buffer_pool.specs.Choices.{AreAllPinned, AreCleanPinned, IsFreeFrame, IsOldest, count_distinct}
pub use Rattle.buffer_pool.specs.Frames.{AreChanged, ArePlaces, BlocksAreApart, act_in, blocks_in, frame_in, has_block}
pub use Rattle.buffer_pool.specs.declared.pool.Pool.{Pool}
