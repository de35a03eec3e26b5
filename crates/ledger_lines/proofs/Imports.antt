-- What several proofs of this crate import, passed on from one place. Declares nothing.
pub use Rattle.std.proofs.KnownBytes.{Appends-kept, Appends-trans}
pub use Rattle.std.specs.Io.BufRead.{DropsThrough, drop_through, take_through}
pub use Rattle.std.specs.Io.KnownBytes.{Appends, Keeps}
pub use Rattle.std.specs.Prelude.{Bool, Err, IfErr, IfOk, IfSome, IsOk, List, None, Ok, OnErr, OnOk, Option, Result, Some, cond, false, true, ℕ, ⊤, ◌≡◌, ◌≢◌}
pub use Rattle.index_model.specs.Actions.{Action}
pub use Rattle.index_model.specs.Row.{Row}
pub use Rattle.index_model.specs.declared.fault.Fault.{Fault}
pub use Rattle.device.specs.declared.device.Device.{Ghosts as DeviceGhosts}
pub use Rattle.page_action.specs.declared.page_store.PageStore.{Ghosts}
pub use Rattle.page_store.specs.Crashing.{left_now}
pub use Rattle.page_store.specs.Following.{follows_same}
pub use Rattle.page_store.specs.Stores.{held_by, state_of}
pub use Rattle.page_store.specs.declared.store.Store.{Store}
pub use Rattle.world.proofs.Leaving.{left_index}
pub use Rattle.world.specs.Reopening.{IsIndexAfterPrefix}
pub use Rattle.access_method.specs.Indexes.{SameTokens, TokenAfter, seat_with}
pub use Rattle.access_method.specs.Tokens.{seat_of}
pub use Rattle.access_method.specs.declared.index.Index.{Index}
pub use Rattle.text_forms.specs.Spelling.{lines_of, row_text, with_first}
pub use Rattle.text_forms.specs.Values.{AreRows}
pub use Rattle.ledger_lines.specs.Calls.{GivesEach, IsGive, PrintsScan, listed_line}
pub use Rattle.ledger_lines.specs.Breaking.{AppendsFirst, BreaksList, BreaksScan, IsBrokenOff}
pub use Rattle.ledger_lines.specs.Sessions.{Answers, AnswersAll, AnswersEach, AnswersFirst, AnswersSome, AreFirst, BeginsAnswer, IsClosed, IsClosingRefused, Serves}
pub use Rattle.ledger_lines.specs.declared.dead.Dead.{Dead}
