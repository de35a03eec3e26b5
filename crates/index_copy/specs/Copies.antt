-- What a copy leaves of both indexes.
use Rattle.std.specs.Prelude.{◌≡◌, ◌≤◌, ◌⊎◌, ℕ, true, Option, Some, None, Result, Ok, List, length, ⊤}
use Rattle.access_method.specs.Indexes.{AreSoMany, ForEachIndexHistory, NotOpenedFor, SameTokens, SeatBecomes, has_entry, seat_with}
use Rattle.access_method.specs.Scans.{NextIs, NextsAre, ScanBegins}
use Rattle.access_method.specs.declared.index.Index.{Index}
use Rattle.access_method.specs.declared.token.ScanToken.{ScanToken}
use Rattle.index_model.specs.Order.{is_among}
use Rattle.index_model.specs.declared.entry.Entry.{Entry}
use Rattle.index_model.specs.declared.fault.Fault.{Fault}
use Rattle.page_action.specs.States.{Continues}
use Rattle.page_action.specs.declared.page_store.PageStore.{Ghosts}
use Rattle.index_copy.specs.Batches.{BreaksOff}
use Rattle.index_copy.specs.Copying.{Gains, IsPutRefusedFor, WasRefused}
use Rattle.index_copy.specs.declared.copying.NotCopied.{NotCopied}
use Rattle.index_copy.specs.declared.copying.NotCopied.TheVariants.{NotGiven, NotPut, TooMany}

-- the next entry was asked for, and this answered; or it was not asked for
abbrev pub ThenAnswers : {S : Type 0} → Ghosts S → ℕ → Option (Result (Option Entry) Fault) → Index S → Index S → Type 0
ThenAnswers g session None last new = new ≡ last
ThenAnswers g session (Some answer) last new = NextIs g session answer last new

-- nothing was done but asking the session's scan for its next entry, again and again
pub record WasAsked {S : Type 0} (g : Ghosts S) (session : ℕ) (old new : Index S) : Type 0 where
  pub given : List Entry
  pub last : Index S
  pub answer : Option (Result (Option Entry) Fault)
  pub gives : NextsAre g session given old last
  pub then_is : ThenAnswers g session answer last new

-- so many entries were all that the session's scan gave, and the other index has gained these
pub record CopiesScan {S T : Type 0} (g : Ghosts S) (h : Ghosts T) (session count : ℕ) (old new : Index S) (into_old into_new : Index T) : Type 0 where
  pub given : List Entry
  pub last : Index S
  pub many : count ≡ length given
  pub gives : NextsAre g session given old last
  pub ends : NextIs g session (Ok None) last new
  pub gains : ForEachIndexHistory h into_old into_new (λ start history calls. Gains h (is_among given) into_old.store into_new.store)

-- the session's scan gave entries, and the other index was refused one of them so
pub record IsRefusedOne {S T : Type 0} (g : Ghosts S) (h : Ghosts T) (session : ℕ) (old new : Index S) (into_old into_new : Index T) (fault : Fault) : Type 0 where
  pub given : List Entry
  pub last : Index S
  pub gives : NextsAre g session given old last
  pub ends : (new ≡ last) ⊎ NextIs g session (Ok None) last new
  pub refused : ForEachIndexHistory h into_old into_new (λ start history calls. IsPutRefusedFor h (is_among given) into_old.store fault)
  pub cause : WasRefused h fault into_old into_new

-- the session's scan gave 2^64 - 4901 entries or more
pub record GivesTooMany {S : Type 0} (g : Ghosts S) (session : ℕ) (old new : Index S) : Type 0 where
  pub given : List Entry
  pub gives : NextsAre g session given old new
  pub many : 18446744073709546715 ≤ length given

-- why no more of a scan was copied
abbrev pub IsStopped : {S T : Type 0} → Ghosts S → Ghosts T → ℕ → Index S → Index S → Index T → Index T → NotCopied → Type 0
IsStopped g h session old new into_old into_new (NotGiven fault) = BreaksOff g session fault old new
IsStopped g h session old new into_old into_new (NotPut fault) = IsRefusedOne g h session old new into_old into_new fault
IsStopped g h session old new into_old into_new TooMany = GivesTooMany g session old new

-- tokens are as they were; or this one is open, and refused from now on
abbrev pub SeatIsKept : {S : Type 0} → ScanToken → Index S → Index S → Type 0
SeatIsKept token old new = SameTokens old new ⊎ SeatBecomes token (seat_with token true) old new

-- the first store has so many entries; the index has what it had and these, and no other
pub record IsCopied {S T : Type 0} (g : Ghosts S) (h : Ghosts T) (count : ℕ) (from : S) (old new : Index T) : Type 0 where
  pub many : AreSoMany (has_entry g from) count
  pub gains : ForEachIndexHistory h old new (λ start history calls. Gains h (has_entry g from) old.store new.store)

-- an entry of the first store was refused so
abbrev pub IsNotCopied : {S T : Type 0} → Ghosts S → Ghosts T → S → Index T → Index T → NotCopied → Type 0
IsNotCopied g h from old new (NotGiven fault) = ⊤
IsNotCopied g h from old new (NotPut fault) = ForEachIndexHistory h old new (λ start history calls. IsPutRefusedFor h (has_entry g from) old.store fault)
IsNotCopied g h from old new TooMany = ⊤

-- a scan of all was begun, and came to this; only its end has changed the index since
pub record ScanComesTo {S : Type 0} (g : Ghosts S) (comes : ℕ → Index S → Index S → Type 0) (old new : Index S) : Type 0 where
  pub session : ℕ
  pub begun : Index S
  pub last : Index S
  pub begins : ScanBegins g session (record { from = None; below = None }) old begun
  pub came : comes session begun last
  pub steps : Continues g.follows last.store new.store

-- Why a copy stopped: no scan could be begun, or it was refused an entry for a cause; or an insert was
-- refused for a cause; or there were too many entries to be counted.
abbrev pub IsCauseOfStop : {S T : Type 0} → Ghosts S → Ghosts T → Index S → Index S → Index T → Index T → NotCopied → Type 0
IsCauseOfStop g h old new into_old into_new (NotGiven fault) =
    NotOpenedFor g old fault ⊎ ScanComesTo g (λ session begun last. BreaksOff g session fault begun last) old new
IsCauseOfStop g h old new into_old into_new (NotPut fault) = WasRefused h fault into_old into_new
IsCauseOfStop g h old new into_old into_new TooMany = ScanComesTo g (GivesTooMany g) old new
