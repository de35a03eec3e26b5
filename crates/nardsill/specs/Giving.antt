-- What an open scan gives to C.
use Rattle.std.specs.Prelude.{◌≡◌, ◌≢◌, true, false, Option, None, IsSome, Result, Ok, Err}
use Rattle.access_method.specs.Indexes.{AnswersScan, ForEachIndexHistory, IndexIsRun, IndexMakes, TokenAfter, seat_with}
use Rattle.access_method.specs.Refusals.{GiveHasCause}
use Rattle.access_method.specs.Tokens.{seat_of}
use Rattle.access_method.specs.declared.index.Index.{Index}
use Rattle.access_method.specs.declared.token.ScanToken.{ScanToken}
use Rattle.index_model.specs.declared.entry.Entry.{Entry}
use Rattle.index_model.specs.declared.fault.Fault.{Fault}
use Rattle.index_model.specs.declared.fault.Fault.TheVariants.{NoSession}
use Rattle.page_action.specs.States.{Continues}
use Rattle.page_action.specs.declared.page_store.PageStore.{Ghosts}
use Rattle.schedule.specs.Sessions.{op_of}
use Rattle.whole_calls.specs.Giving.{SessionGivenMeans as TellsCall, given_outcome}
use Rattle.whole_calls.specs.Made.{ComesTo}
use Rattle.nardsill.specs.Serving.{OfBoth}
use Rattle.nardsill.specs.Meanings.{GivesNone, SpellsGiven}
use Rattle.nardsill.specs.declared.answer.Given.{Given}

-- What is given is what the scan of this token answers, with all that the index promises of that: an entry is
-- right, and so is that none is left.
pub record Gives {S : Type 0} (g : Ghosts S) (token : ScanToken) (given : Given) (old new : Index S) : Type 0 where
  pub outcome : Result (Option Entry) Fault
  pub told : SpellsGiven outcome given
  pub does : ForEachIndexHistory g old new (AnswersScan token.session outcome)
  pub runs : seat_of old.seats token ≡ seat_with token false → op_of old.calls token.session ≢ None
      → IndexIsRun g token.session (TellsCall token.session outcome) (given_outcome outcome) old new
  pub made : seat_of old.seats token ≡ seat_with token false → op_of old.calls token.session ≢ None
      → IndexMakes g token.session (ComesTo (given_outcome outcome)) old new
  pub cause : seat_of old.seats token ≡ seat_with token false → ForEachIndexHistory g old new (GiveHasCause g token.session outcome old new.store)
  pub closed : seat_of old.seats token ≡ None → (outcome ≡ Err NoSession) × (new ≡ old)
  pub refused : seat_of old.seats token ≡ seat_with token true → (outcome ≡ Err NoSession) × (new ≡ old)
  pub over : seat_of old.seats token ≡ seat_with token false → op_of old.calls token.session ≡ None → (outcome ≡ Ok None) × (new ≡ old)
  pub tokens : seat_of old.seats token ≡ seat_with token false → TokenAfter token outcome old new
  pub steps : Continues g.follows old.store new.store

-- ... of a handle's index; a handle without one gives none
pub record GivesNext {S : Type 0} (g : Ghosts S) (token : ScanToken) (given : Given) (old new : Option (Index S)) : Type 0 where
  pub empty : old ≡ None → GivesNone NoSession given × (new ≡ None)
  pub gives : IsSome old → OfBoth (Gives g token given) old new
