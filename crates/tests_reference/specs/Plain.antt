-- What plain values mean.
use Rattle.std.specs.Prelude.{Bool, false, ◌||◌, List, [], ◌∷◌}
use Rattle.std.specs.Ordering.{is_eq}
use Rattle.index_model.specs.Row.{Row}
use Rattle.index_model.specs.Order.{row_cmp}
use Rattle.index_model.specs.Actions.{Effect, Add, Remove, Shape, Action}
use Rattle.index_model.specs.Calls.{Ask, AskInsert, AskScan, AskBulkDelete, AskCleanup, Ending, Running, Added, Finished, Vacuumed, GivenUp, Failed, Call}
use Rattle.tests_reference.specs.declared.action.PlainEffect.{PlainEffect}
use Rattle.tests_reference.specs.declared.action.PlainEffect.TheVariants.{Adds, Removes, Reshapes}
use Rattle.tests_reference.specs.declared.action.PlainAction.{PlainAction}
use Rattle.tests_reference.specs.declared.call.PlainAsk.{PlainAsk}
use Rattle.tests_reference.specs.declared.call.PlainAsk.TheVariants.{Inserts, Scans, Deletes, Cleans}
use Rattle.tests_reference.specs.declared.call.PlainEnding.{PlainEnding}
use Rattle.tests_reference.specs.declared.call.PlainEnding.TheVariants.{Runs, HasAdded, HasFinished, HasVacuumed, IsGivenUp, HasFailed}
use Rattle.tests_reference.specs.declared.call.PlainCall.{PlainCall}

-- the effect that a plain one means
abbrev pub effect_of : PlainEffect → Effect
effect_of (Adds e) = Add e
effect_of (Removes es) = Remove es.items
effect_of Reshapes = Shape

-- the action that a plain one means
abbrev pub action_of : PlainAction → Action
action_of a = record { by = a.by; effect = effect_of a.effect }

-- the history that plain actions mean
abbrev pub history_of : List PlainAction → List Action
history_of [] = []
history_of (a ∷ actions) = action_of a ∷ history_of actions

-- the row is one of the list
abbrev pub has_row : List Row → Row → Bool
has_row [] row = false
has_row (x ∷ rows) row = is_eq (row_cmp x row) || has_row rows row

-- the ask that a plain one means
abbrev pub ask_of : PlainAsk → Ask
ask_of (Inserts e) = AskInsert e
ask_of (Scans range) = AskScan range
ask_of (Deletes rows) = AskBulkDelete (has_row rows.items)
ask_of Cleans = AskCleanup

-- the ending that a plain one means
abbrev pub ending_of : PlainEnding → Ending
ending_of Runs = Running
ending_of (HasAdded action unfinished) = Added action unfinished
ending_of HasFinished = Finished
ending_of (HasVacuumed stats) = Vacuumed stats
ending_of IsGivenUp = GivenUp
ending_of (HasFailed fault) = Failed fault

-- the call that a plain one means
abbrev pub call_of : PlainCall → Call
call_of c = record {
  session = c.session;
  ask = ask_of c.ask;
  began = c.began;
  given = c.given.items;
  added = c.added;
  ending = ending_of c.ending;
  until = c.until;
}

-- the calls that plain ones mean
abbrev pub meant_calls : List PlainCall → List Call
meant_calls [] = []
meant_calls (c ∷ calls) = call_of c ∷ meant_calls calls
