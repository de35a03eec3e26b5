-- What a scan gives, call after call: the sorted matches.
use Rattle.std.specs.Prelude.{◌≡◌, ℕ, Bool, true, Option, Some, None, Result, Ok, List, [], ◌∷◌}
use Rattle.index_model.specs.Actions.{Action}
use Rattle.index_model.specs.Calls.{Call, IsUpToLast}
use Rattle.index_model.specs.Order.{IsAscending, is_among}
use Rattle.index_model.specs.Range.{matches}
use Rattle.index_model.specs.declared.entry.Entry.{Entry}
use Rattle.index_model.specs.declared.fault.Fault.{Fault}
use Rattle.index_model.specs.declared.range.Range.{Range}
use Rattle.page_action.specs.States.{Continues}
use Rattle.page_action.specs.declared.page_store.PageStore.{Ghosts}
use Rattle.session_calls.specs.declared.answer.Answer.TheVariants.{Begun}
use Rattle.session_calls.specs.declared.request.Request.TheVariants.{Scan as ToScan}
use Rattle.whole_calls.specs.Giving.{SessionGivenMeans, given_outcome}
use Rattle.whole_calls.specs.Meanings.{HasBegun}
use Rattle.access_method.specs.Indexes.{AnswersScan, ForEachIndexHistory, IndexFits, IndexIsRun, IndexKeeps, has_entry}
use Rattle.access_method.specs.declared.index.Index.{Index}

-- a scan of the range is begun in this session, as `ambeginscan` tells it: its `steps` and `runs`
pub record ScanBegins {S : Type 0} (g : Ghosts S) (session : ℕ) (range : Range) (old new : Index S) : Type 0 where
  pub steps : Continues g.follows old.store new.store
  pub runs : IndexIsRun g session (HasBegun session (ToScan range)) (Some Begun) old new

-- the next entry of this session's scan was asked for, and this answered, as `amgettuple` tells it: its
-- `steps`, `runs` and `answers`
pub record NextIs {S : Type 0} (g : Ghosts S) (session : ℕ) (result : Result (Option Entry) Fault) (old new : Index S) : Type 0 where
  pub steps : Continues g.follows old.store new.store
  pub runs : IndexIsRun g session (SessionGivenMeans session result) (given_outcome result) old new
  pub answers : ForEachIndexHistory g old new (AnswersScan session result)

-- ... again and again, with no other call between: these entries were answered, in this order
abbrev pub NextsAre : {S : Type 0} → Ghosts S → ℕ → List Entry → Index S → Index S → Type 0
NextsAre g session [] old new = new ≡ old
NextsAre {S} g session (e ∷ es) old new = (mid : Index S) × NextIs g session (Ok (Some e)) old mid × NextsAre g session es mid new

-- these are a beginning of the sorted matches of what is there: ascending, each of them matches, and none up
-- to the last is left out
pub record BeginTheMatches (is_there : Entry → Bool) (range : Range) (given : List Entry) : Type 0 where
  pub ascending : IsAscending given
  pub right : (e : Entry) → is_among given e ≡ true → (is_there e ≡ true) × (matches range e ≡ true)
  pub first : (e : Entry) → IsUpToLast given e → is_there e ≡ true → matches range e ≡ true → is_among given e ≡ true

-- these are all the sorted matches
pub record AreTheMatches (is_there : Entry → Bool) (range : Range) (given : List Entry) : Type 0 where
  pub ascending : IsAscending given
  pub right : (e : Entry) → is_among given e ≡ true → (is_there e ≡ true) × (matches range e ≡ true)
  pub all : (e : Entry) → is_there e ≡ true → matches range e ≡ true → is_among given e ≡ true

-- No action was done, and no entry has come or gone: the history that fitted before fits with these calls,
-- and is kept if it was.
pub record Rests {S : Type 0} (g : Ghosts S) (old new : Index S) (start : Entry → Bool) (history : List Action) (calls : List Call) : Type 0 where
  pub then_calls : List Call
  pub fits : IndexFits g new start history then_calls
  pub keeps : IndexKeeps g old start history calls → IndexKeeps g new start history then_calls
  pub contents : (e : Entry) → has_entry g new.store e ≡ has_entry g old.store e
