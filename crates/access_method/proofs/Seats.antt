-- Seats and slots.
use Rattle.std.proofs.Common.{◌≡◌, ◌≢◌, ℕ, ◌<◌, Option, Some, None, unwrap_or, Ok, List, [], ◌∷◌, ◌++◌, length, get_or, slice_get, slice_set, replicate, refl, sym, ap, subst, ◌∙◌, arith, inl, inr, true≢false}
use Rattle.std.proofs.lemmas.Option.{slice_get-get_or}
use Rattle.page_action.specs.Contents.{entry_on_live_leaf}
use Rattle.session_calls.proofs.RunningOn.{stays_vacuum}
use Rattle.page_codec.specs.declared.page.Page.{Page}
use Rattle.access_method.proofs.Imports.{cases_eq, eq-eqb, ne_eqb, Action, AskScan, ◌||◌, Bool, true, false, HasCause, Fault, NoMemory, Io, Stopped, Blocked, Exists, KeyTooLong, BadRow, IndexFull}
use Rattle.access_method.proofs.Imports.{LogFull, NoFrame, VacuumRunning, NoSession, SessionBusy, BadSuper, BadVersion, LogDamaged, PageDamaged, BadLimits, TooTall, DeviceTooSmall, KeyExists}
use Rattle.access_method.proofs.Imports.{nothing_wrong, is_at_end, Backing, Range, Ghosts, DeadSets, begun_call, RunsOn, ToScan, Op, Moment, slot_of, slot_vacuums, OthersStay, causes_of_begun_at}
use Rattle.access_method.proofs.Imports.{in_replicate, get_some, EndMeans, BeginMeans, Index, IndexFits, IndexKeeps, RescanMeans, SeatsAgree, Bulk, get_set_other, get_set_same}
use Rattle.session_calls.specs.Ops.{asks_vacuum}
use Rattle.session_calls.specs.Slots.{is_of_sets}
use Rattle.session_calls.specs.declared.request.Request.{Request}
use Rattle.std.specs.Prelude.{◌&&◌, not}
use Rattle.access_method.proofs.Imports.{seat_for, BulkDeleteOp, sitter_of, IsVacuumSeat, NoVacuumIsOpen}
use Rattle.access_method.specs.declared.token.OpenScan.{OpenScan}
use Rattle.access_method.specs.declared.token.Sitter.{Sitter}
use Rattle.access_method.specs.declared.token.Sitter.TheVariants.{Scan as SitsToScan, Vacuum as SitsToVacuum}

-- no token is open
pub closed_at : (n i number : ℕ) (seats : List (Option Sitter)) → seats ≡ replicate n None → seat_for number (slice_get seats i) ≡ None
closed_at n i number seats is = of (slice_get seats i) refl
  where
    of : (o : Option (Option Sitter)) → slice_get seats i ≡ o → seat_for number o ≡ None
    of None at = refl
    of (Some None) at = refl
    of (Some (Some sitter)) at = (let e : Some sitter ≡ None = in_replicate n None (Some sitter) i (ap (λ (l : List (Option Sitter)). slice_get l i) (sym is) ∙ at) in absurd cc)

-- no vacuum is open if no seat is taken
pub none_seated : (n i : ℕ) (seats : List (Option Sitter)) → seats ≡ replicate n None → IsVacuumSeat seats i → ⊥
none_seated n i seats is at = (let e : Some SitsToVacuum ≡ None = in_replicate n None (Some SitsToVacuum) i (ap (λ (l : List (Option Sitter)). slice_get l i) (sym is) ∙ at) in absurd cc)

-- the seat that is read there is the token's, or another's
pub seat_found : (seats : List (Option Sitter)) (session number : ℕ) (seat : OpenScan) → session < length seats → get_or seats session None ≡ Some (SitsToScan seat)
    → seat.number ≡ number
    → Some seat ≡ seat_for number (slice_get seats session)
seat_found seats session number seat within is same = rw (slice_get-get_or seats session None within, is, eq-eqb seat.number number same) refl

pub seat_of_another : (seats : List (Option Sitter)) (session number : ℕ) (seat : OpenScan) → session < length seats → get_or seats session None ≡ Some (SitsToScan seat)
    → seat.number ≢ number
    → None ≡ seat_for number (slice_get seats session)
seat_of_another seats session number seat within is other = rw (slice_get-get_or seats session None within, is, ne_eqb seat.number number other) refl

-- a token is open and not refused: its seat is not none, and not a refused one
pub not_refused : (found : Option OpenScan) (seat : OpenScan) (number : ℕ) → found ≡ Some seat → seat.is_refused ≡ true
    → found ≡ Some (record { number = number; is_refused = false }) → ⊥
not_refused found seat number is refused is_open = true≢false (sym refused ∙ ap is_refused_in (sym is ∙ is_open))
  where
    is_refused_in : Option OpenScan → Bool
    is_refused_in None = false
    is_refused_in (Some s) = s.is_refused

-- the slots of sessions that stay
stays_at : (old new : List (Option Op)) (session other : ℕ) → OthersStay session old new → other ≢ session → slot_of new other ≡ slot_of old other
stays_at old new session other stay apart = ap (λ (o : Option (Option Op)). unwrap_or o None) (stay other apart)

-- what runs on vacuums no more than it did
pub runs_calm : (before slot : Option Op) → RunsOn before slot → slot_vacuums before ≡ false → slot_vacuums slot ≡ false
runs_calm before None on none = refl
runs_calm None (Some op) on none = absurd on
runs_calm (Some before) (Some op) on none = stays_vacuum before op on ∙ none

-- and what vacuums vacuums on, or is over
sits_on : (before slot : Option Op) → RunsOn before slot → (before ≢ None → slot_vacuums before ≡ true) → slot ≢ None → slot_vacuums slot ≡ true
sits_on before None on sits busy = absurd (busy refl)
sits_on None (Some op) on sits busy = absurd on
sits_on (Some before) (Some op) on sits busy = stays_vacuum before op on ∙ sits (λ e. cc)

module _ (old new : List (Option Op)) (seats : List (Option Sitter)) (session : ℕ) (agree : SeatsAgree old seats) (low : session < 63) (stay : OthersStay session old new) where
  inserts_stay : slot_of new 63 ≡ None
  inserts_stay = stays_at old new session 63 stay (λ e. (omega arith)) ∙ agree.inserts

  -- another session that vacuums did so before
  vacuums_before : (other : ℕ) → other ≢ session → slot_vacuums (slot_of new other) ≡ true → IsVacuumSeat seats other
  vacuums_before other apart vacuums = agree.vacuums other (ap slot_vacuums (sym (stays_at old new session other stay apart)) ∙ vacuums)

  -- ... and runs what it ran
  sits_still : (other : ℕ) → other ≢ session → IsVacuumSeat seats other → slot_of new other ≢ None → slot_vacuums (slot_of new other) ≡ true
  sits_still other apart h busy =
      let same = stays_at old new session other stay apart in
      ap slot_vacuums same ∙ agree.sits other h (λ over. busy (same ∙ over))

  -- a seat is changed, that is then no vacuum's, and whose session doesn't vacuum
  module _ (sitter : Option Sitter) (apart : sitter ≡ Some SitsToVacuum → ⊥) (within : session < length seats) where
    abbrev changed : List (Option Sitter)
    changed = slice_set seats session sitter

    here : (other : ℕ) → other ≡ session → slice_get changed other ≡ Some sitter
    here other same = subst (λ (n : ℕ). slice_get changed n ≡ Some sitter) (sym same) (get_set_same seats session sitter within)

    was_vacuums : (other : ℕ) → IsVacuumSeat changed other → IsVacuumSeat seats other
    was_vacuums other h = elim (cases_eq other session) [
      | inl same ↦ absurd (let at = here other same in apart (ap (λ (o : Option (Option Sitter)). unwrap_or o None) (sym at ∙ h)))
      | inr differ ↦ sym (get_set_other seats session other sitter differ) ∙ h
    ]

    agree_changed : ((other : ℕ) → slice_get changed other ≡ Some None → slot_of new other ≡ None) → slot_vacuums (slot_of new session) ≡ false → SeatsAgree new changed
    agree_changed free calm = record {
      inserts = inserts_stay;
      free = free;
      vacuums = λ other h. elim (cases_eq other session) [
        | inl same ↦ absurd (true≢false (sym h ∙ subst (λ (n : ℕ). slot_vacuums (slot_of new n) ≡ false) (sym same) calm))
        | inr differ ↦ get_set_other seats session other sitter differ ∙ vacuums_before other differ h
      ];
      sits = λ other h. elim (cases_eq other session) [
        | inl same ↦ absurd (let at = here other same in apart (ap (λ (o : Option (Option Sitter)). unwrap_or o None) (sym at ∙ h)))
        | inr differ ↦ sits_still other differ (was_vacuums other h)
      ];
      one = λ one other h k. agree.one one other (was_vacuums one h) (was_vacuums other k);
    }

  no_vacuum_sits : (seat : Option OpenScan) → sitter_of seat ≡ Some SitsToVacuum → ⊥
  no_vacuum_sits None e = cc
  no_vacuum_sits (Some seat) e = cc

  -- a seat is changed, whose session runs nothing
  pub agree_over : (seat : Option OpenScan) → session < length seats → slot_of new session ≡ None → SeatsAgree new (slice_set seats session (sitter_of seat))
  agree_over seat within over = agree_changed (sitter_of seat) (no_vacuum_sits seat) within (λ other h. elim (cases_eq other session) [
    | inl same ↦ subst (λ (n : ℕ). slot_of new n ≡ None) (sym same) over
    | inr apart ↦ stays_at old new session other stay apart ∙ agree.free other (sym (get_set_other seats session other (sitter_of seat) apart) ∙ h)
  ]) (ap slot_vacuums over)

  -- a seat is taken by a scan
  pub agree_taken : (seat : OpenScan) → session < length seats → slot_vacuums (slot_of new session) ≡ false → SeatsAgree new (slice_set seats session (Some (SitsToScan seat)))
  agree_taken seat within calm = agree_changed (Some (SitsToScan seat)) (no_vacuum_sits (Some seat)) within (λ other h. elim (cases_eq other session) [
    | inl same ↦ absurd (let a : Some (Some (SitsToScan seat)) ≡ Some None = sym (here (Some (SitsToScan seat)) (no_vacuum_sits (Some seat)) within other same) ∙ h in cc)
    | inr apart ↦ stays_at old new session other stay apart ∙ agree.free other (sym (get_set_other seats session other (Some (SitsToScan seat)) apart) ∙ h)
  ]) calm

  -- ... by a vacuum, if none is open
  pub agree_begun : session < length seats → NoVacuumIsOpen seats → slot_vacuums (slot_of new session) ≡ true → SeatsAgree new (slice_set seats session (Some SitsToVacuum))
  agree_begun within none begun = record {
    inserts = inserts_stay;
    free = λ other h. elim (cases_eq other session) [
      | inl same ↦ absurd (let a : Some (Some SitsToVacuum) ≡ Some None = sym (there other same) ∙ h in cc)
      | inr apart ↦ stays_at old new session other stay apart ∙ agree.free other (sym (get_set_other seats session other (Some SitsToVacuum) apart) ∙ h)
    ];
    vacuums = λ other h. elim (cases_eq other session) [
      | inl same ↦ there other same
      | inr apart ↦ absurd (none other (vacuums_before other apart h))
    ];
    sits = λ other h busy. subst (λ (n : ℕ). slot_vacuums (slot_of new n) ≡ true) (sym (only other h)) begun;
    one = λ one other h k. only other k ∙ sym (only one h);
  }
    where
      there : (other : ℕ) → other ≡ session → slice_get (slice_set seats session (Some SitsToVacuum)) other ≡ Some (Some SitsToVacuum)
      there other same = subst (λ (n : ℕ). slice_get (slice_set seats session (Some SitsToVacuum)) n ≡ Some (Some SitsToVacuum)) (sym same) (get_set_same seats session (Some SitsToVacuum) within)

      only : (other : ℕ) → IsVacuumSeat (slice_set seats session (Some SitsToVacuum)) other → other ≡ session
      only other h = elim (cases_eq other session) [
        | inl same ↦ same
        | inr apart ↦ absurd (none other (sym (get_set_other seats session other (Some SitsToVacuum) apart) ∙ h))
      ]

  -- no seat is changed; the session's is taken, and what it runs vacuums only if it did before
  pub agree_on : (sitter : Sitter) → slice_get seats session ≡ Some (Some sitter) → RunsOn (slot_of old session) (slot_of new session) → SeatsAgree new seats
  agree_on sitter taken on = record {
    inserts = inserts_stay;
    free = λ other h. elim (cases_eq other session) [
      | inl same ↦ absurd (let a : Some (Some sitter) ≡ Some None = sym (subst (λ (n : ℕ). slice_get seats n ≡ Some (Some sitter)) (sym same) taken) ∙ h in cc)
      | inr apart ↦ stays_at old new session other stay apart ∙ agree.free other h
    ];
    vacuums = λ other h. elim (cases_eq other session) [
      | inl same ↦ subst (λ (n : ℕ). IsVacuumSeat seats n) (sym same) (agree.vacuums session (was (slot_vacuums (slot_of old session)) refl (subst (λ (n : ℕ). slot_vacuums (slot_of new n) ≡ true) same h)))
      | inr apart ↦ vacuums_before other apart h
    ];
    sits = λ other h. elim (cases_eq other session) [
      | inl same ↦ subst (λ (n : ℕ). slot_of new n ≢ None → slot_vacuums (slot_of new n) ≡ true) (sym same)
          (sits_on (slot_of old session) (slot_of new session) on (agree.sits session (subst (λ (n : ℕ). IsVacuumSeat seats n) same h)))
      | inr apart ↦ sits_still other apart h
    ];
    one = agree.one;
  }
    where
      was : (b : Bool) → slot_vacuums (slot_of old session) ≡ b → slot_vacuums (slot_of new session) ≡ true → slot_vacuums (slot_of old session) ≡ true
      was true at h = at
      was false at h = absurd (true≢false (sym h ∙ runs_calm (slot_of old session) (slot_of new session) on at))

-- if no vacuum is open no session runs a bulk delete
pub none_runs : (slots : List (Option Op)) (seats : List (Option Sitter)) → SeatsAgree slots seats → NoVacuumIsOpen seats
    → (session set : ℕ) (op : BulkDeleteOp) → slice_get slots session ≡ Some (Some (Bulk set op)) → ⊥
none_runs slots seats agree none session set op at =
    none session (agree.vacuums session (ap (λ (o : Option (Option Op)). slot_vacuums (unwrap_or o None)) at))

-- ... nor after the end of the one that was open
pub none_runs_on : (old new : List (Option Op)) (seats : List (Option Sitter)) (session : ℕ) → SeatsAgree old seats → OthersStay session old new → IsVacuumSeat seats session
    → slot_of new session ≡ None → (other set : ℕ) (op : BulkDeleteOp) → slice_get new other ≡ Some (Some (Bulk set op)) → ⊥
none_runs_on old new seats session agree stay seat over other set op at = elim (cases_eq other session) [
  | inl same ↦ absurd (let a : Some (Bulk set op) ≡ None = sym (runs_there other at) ∙ subst (λ (n : ℕ). slot_of new n ≡ None) (sym same) over in cc)
  | inr apart ↦ apart (agree.one session other seat (agree.vacuums other (ap slot_vacuums (sym (stays_at old new session other stay apart) ∙ runs_there other at))))
]
  where
    runs_there : (n : ℕ) → slice_get new n ≡ Some (Some (Bulk set op)) → slot_of new n ≡ Some (Bulk set op)
    runs_there n h = ap (λ (o : Option (Option Op)). unwrap_or o None) h

-- an end, and then a beginning
pub rescan_told : {S : Type 0} (session : ℕ) (range : Range) (u : Unit {0}) (x y z : Moment S) → EndMeans session x y
    → BeginMeans session (ToScan range) (Ok u) y z → RescanMeans session range x z
rescan_told session range u x y z end began = record {
  history_is = began.history_is ∙ end.history_is;
  given_up = y.calls;
  kept = end.calls_is;
  calls_is = began.calls_is ∙ ap (λ (l : List Action). y.calls ++ begun_call session (AskScan range) (length l) ∷ []) end.history_is;
}

-- a session that is there and runs nothing has an empty slot
pub empty_slot : (slots : List (Option Op)) (session : ℕ) → session < length slots → slot_of slots session ≡ None → slice_get slots session ≡ Some None
empty_slot slots session within over =
    let found = get_some slots session within in
    let same : slot_of slots session ≡ found.0 = ap (λ (o : Option (Option Op)). unwrap_or o None) found.1 in
    found.1 ∙ ap (λ (o : Option Op). Some o) (sym same ∙ over)

no_cause : (stopped no_session vacuums : Bool) → stopped ≡ false → no_session ≡ false → vacuums ≡ false → (fault : Fault)
    → HasCause (record nothing_wrong { is_stopped = stopped; session_has_a_call = false; no_such_session = no_session; vacuum_runs = vacuums }) fault → ⊥
no_cause stopped no_session vacuums runs there calm NoMemory h = cc
no_cause stopped no_session vacuums runs there calm Io h = cc
no_cause stopped no_session vacuums runs there calm Stopped h = cc
no_cause stopped no_session vacuums runs there calm (Blocked b) h = cc
no_cause stopped no_session vacuums runs there calm Exists h = cc
no_cause stopped no_session vacuums runs there calm KeyTooLong h = h
no_cause stopped no_session vacuums runs there calm BadRow h = h
no_cause stopped no_session vacuums runs there calm IndexFull h = cc
no_cause stopped no_session vacuums runs there calm LogFull h = cc
no_cause stopped no_session vacuums runs there calm NoFrame h = cc
no_cause stopped no_session vacuums runs there calm VacuumRunning h = cc
no_cause stopped no_session vacuums runs there calm NoSession h = cc
no_cause stopped no_session vacuums runs there calm SessionBusy h = cc
no_cause stopped no_session vacuums runs there calm BadSuper h = h
no_cause stopped no_session vacuums runs there calm BadVersion h = h
no_cause stopped no_session vacuums runs there calm LogDamaged h = h
no_cause stopped no_session vacuums runs there calm (PageDamaged b) h = cc
no_cause stopped no_session vacuums runs there calm BadLimits h = h
no_cause stopped no_session vacuums runs there calm TooTall h = cc
no_cause stopped no_session vacuums runs there calm DeviceTooSmall h = h
no_cause stopped no_session vacuums runs there calm (KeyExists row) h = cc

-- a call that may begin is not refused; a bulk delete and a cleanup may while none vacuums
pub may_begin : {S : Type 0} (g : Ghosts S) (old store : S) (slots : List (Option Op)) (session : ℕ) (fault : Fault) (at_end : Bool)
    → ((g.backing old).stopped || (is_at_end (g.state old).begun || at_end)) ≡ false → g.backing store ≡ g.backing old → (g.state store).begun ≡ (g.state old).begun
    → session < length slots → slot_of slots session ≡ None → (vacuums : Bool) (sets : DeadSets) (request : Request) → is_of_sets sets request ≡ true → (asks_vacuum request && vacuums) ≡ false
    → HasCause (causes_of_begun_at g store vacuums sets request (slice_get slots session)) fault → ⊥
may_begin g old store slots session fault at_end may backing begun within over vacuums sets request there calm cause =
    no_cause ((g.backing store).stopped || is_at_end (g.state store).begun) (not (is_of_sets sets request)) (asks_vacuum request && vacuums) runs (ap not there) calm fault
    (subst (λ (o : Option (Option Op)). HasCause (causes_of_begun_at g store vacuums sets request o) fault) (empty_slot slots session within over) cause)
  where
    first : (a b c : Bool) → (a || (b || c)) ≡ false → (a || b) ≡ false
    first false false c h = refl
    first false true c h = h
    first true b c h = h

    runs : ((g.backing store).stopped || is_at_end (g.state store).begun) ≡ false
    runs = ap (λ (b : Backing). b.stopped || is_at_end (g.state store).begun) backing ∙ ap (λ (n : ℕ). (g.backing old).stopped || is_at_end n) begun
        ∙ first (g.backing old).stopped (is_at_end (g.state old).begun) at_end may

-- an index begins with the contents of these pages, by whatever name they are called
pub same_start : {S : Type 0} (g : Ghosts S) (index : Index S) (read pages : List Page) → read ≡ pages
    → IndexFits g index (entry_on_live_leaf read) [] [] → IndexFits g index (entry_on_live_leaf pages) [] []
same_start g index read pages same fits = subst (λ (ps : List Page). IndexFits g index (entry_on_live_leaf ps) [] []) same fits

pub same_kept : {S : Type 0} (g : Ghosts S) (index : Index S) (read pages : List Page) → read ≡ pages
    → IndexKeeps g index (entry_on_live_leaf read) [] [] → IndexKeeps g index (entry_on_live_leaf pages) [] []
same_kept g index read pages same keeps = subst (λ (ps : List Page). IndexKeeps g index (entry_on_live_leaf ps) [] []) same keeps
