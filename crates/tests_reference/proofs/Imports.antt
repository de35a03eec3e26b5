-- What several proofs of this crate import, passed on from one place. Declares nothing.
pub use Rattle.index_model.proofs.Ascending.{AllByRecursion-among}
pub use Rattle.std.proofs.Math.Bool.{or-true}
pub use Rattle.std.proofs.lemmas.Bool.{cases_lt, false≢true, or_cases}
pub use Rattle.std.proofs.lemmas.List.{take_all, take_rest}
pub use Rattle.std.proofs.lemmas.Option.{same_Some}
pub use Rattle.std.specs.Prelude.{IsTrue, None, if◌then◌else◌, slice_get, unwrap_or, ◌↔◌}
pub use Rattle.index_model.specs.Actions.{Action, Add, Effect, Remove, Shape, is_there_after, last_said, later_or, said_of}
pub use Rattle.index_model.specs.Calls.{ActionsAreOwned, AreRemovable, Call, GivesAll, GivesOnly, IsAdded, IsOwned}
pub use Rattle.index_model.specs.Order.{IsAscending, entry_cmp, is_among, same_entry}
pub use Rattle.index_model.specs.Row.{Row}
pub use Rattle.index_model.specs.declared.entry.Entry.{Entry}
pub use Rattle.tests_reference.specs.Named.{AreRemoved, HasRight, IsGivenIfOwed, IsOwnedAt, IsRemovable, IsRemoved, MayBeGiven, added_by, with_added}
pub use Rattle.tests_reference.specs.Plain.{action_of, call_of, effect_of, history_of, meant_calls}
pub use Rattle.tests_reference.specs.declared.action.PlainAction.{PlainAction}
