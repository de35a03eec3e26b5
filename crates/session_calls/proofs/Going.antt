-- Steps of operations over histories, and the events that they make.
use Rattle.std.proofs.Common.{◌≡◌, ◌≢◌, ℕ, suc, ◌+◌, ◌<◌, Bool, true, false, true≢false, if◌then◌else◌, Option, Some, None, List, [], ◌++◌, length, refl, sym, ap, subst, ◌∙◌}
use Rattle.session_calls.proofs.Imports.{append-nil, Effect, Action, contents_after, Ask, AskInsert, AskScan, Running, EndsAdded, GivenUp, Failed, Call, InsertMayFail, Meets, Circumstances}
use Rattle.session_calls.proofs.Imports.{HasCause, Row, Entry, Fault, Range, with_row, other_row_is_there, entry_on_live_leaf, State, nothing_else, ends_call, DeadSets, acts_of, session_of}
use Rattle.session_calls.proofs.Imports.{is_bulk_delete, asked_of, add_of, OpInvariant, OpKnows, IsCaused, once_added, IsFaultCaused, is_last, Matches, OpRuns, CallFits, act_count, IsAsked}
use Rattle.session_calls.proofs.Imports.{add_after, noted, ended, AnswerMeans, let_go, op_after_call, cycle_after, CallEffect, SessionEvent, OpEvent, HoldsOn, OpDeletions, Answer, Going, Added}
use Rattle.session_calls.proofs.Imports.{Ready, Ended, Refused, Op, Insert, Scan, Bulk, Cleanup, nothing_wrong}
use Rattle.session_calls.proofs.Meanings.{told_same}
use Rattle.session_calls.proofs.Effects.{works_nothing, matches_after, started_after, pages_stay, go_shape, go_pinned, go_matches, go_others, go_idle, go_format, go_frames, go_pages, go_leaves, go_cycle, cycle_stays}
use Rattle.session_calls.proofs.Meeting.{grown, began_before, meets_noted, meets_failed, meets_given_up, meets_ended_added, there_at_present, other_row_is}

-- a scan was asked for no insert
pub scans_insert_none : (range : Range) (e : Entry) → AskScan range ≡ AskInsert e → ⊥
scans_insert_none range e asks = cc

-- a step of an operation is an event of its session; if its answer is the last, what the session held is
-- let go
module _ {sets : DeadSets} (at : Circumstances) (old mid new : State) (start : Entry → Bool) (history : List Action) (number : ℕ) (call : Call) (before op : Op) (answer : Answer)
    (ask : call.ask ≡ asked_of sets before) (matches : Matches old start history) (low : call.session < 64) (goes : OpEvent at old mid sets start history number call op answer) where
  mid_matches : Matches mid start (history ++ acts_of number goes.effect)
  mid_matches = matches_after call.session call.ask goes.effect old mid start history number matches goes.works

  mid_pages : goes.effect ≡ None → mid.pages ≡ old.pages
  mid_pages none = pages_stay call.session call.ask old mid (subst (λ (x : Option Effect). CallEffect call.session call.ask x old mid) none goes.works)

  abbrev ends_cycle : Bool
  ends_cycle = is_bulk_delete before

  by_last : (b : Bool) → is_last answer ≡ b → new ≡ (if b then let_go ends_cycle call.session mid else mid)
      → HoldsOn b mid sets start (history ++ acts_of number goes.effect) goes.then_call op → goes.then_call.session ≡ call.session
      → SessionEvent at old new sets start history number call (if b then None else Some op) answer
  by_last true last is holds same = subst (λ (st : State). SessionEvent at old st sets start history number call None answer) (sym is) (record {
    effect = goes.effect;
    after = goes.then_call;
    asked = goes.asked;
    told = goes.told;
    caused = goes.caused;
    world = go_matches ends_cycle mid call.session start (history ++ acts_of number goes.effect) low mid_matches;
    shape = go_shape ends_cycle call.ask old mid call.session goes.effect goes.works.shape;
    format = go_format ends_cycle call.session mid ∙ goes.works.format;
    frames = go_frames ends_cycle call.session mid ∙ goes.works.frames;
    pages = λ none. go_pages ends_cycle call.session mid ∙ mid_pages none;
    others = go_others ends_cycle old mid call.session goes.works.others;
    cycle = go_cycle sets before mid call.session old.cycle goes.works.cycle ∙ sym (ap (λ (a : Ask). cycle_after a None old.cycle) ask);
    leaves = λ other stays. go_leaves ends_cycle old mid call.session goes.effect (goes.works.leaves other) stays;
    pinned = go_pinned ends_cycle old mid call.session goes.works.pinned;
    meets = goes.meets;
    holds = (holds, rw same (go_idle ends_cycle call.session mid low mid_matches.order));
    deletions = tt;
  })
  by_last false last is holds same = subst (λ (st : State). SessionEvent at old st sets start history number call (Some op) answer) (sym is) (record {
    effect = goes.effect;
    after = goes.then_call;
    asked = goes.asked;
    told = goes.told;
    caused = goes.caused;
    world = mid_matches;
    shape = goes.works.shape;
    format = goes.works.format;
    frames = goes.works.frames;
    pages = mid_pages;
    others = goes.works.others;
    cycle = goes.works.cycle ∙ cycle_stays call.ask op old.cycle;
    leaves = λ other stays. goes.works.leaves other;
    pinned = goes.works.pinned;
    meets = goes.meets;
    holds = holds;
    deletions = goes.deletions last;
  })

  same_session : call.ending ≡ Running → goes.then_call.session ≡ call.session
  same_session running = (told_same (history ++ acts_of number goes.effect) (length history) goes.effect call goes.then_call running (grown history number goes.effect) answer goes.told).session

  pub event_of_last : is_last answer ≡ true → new ≡ let_go ends_cycle call.session mid → call.ending ≡ Running → SessionEvent at old new sets start history number call None answer
  event_of_last last is running = by_last true last is
      (subst (λ (b : Bool). HoldsOn b mid sets start (history ++ acts_of number goes.effect) goes.then_call op) last goes.holds) (same_session running)

  pub event_of_more : is_last answer ≡ false → new ≡ mid → call.ending ≡ Running → SessionEvent at old new sets start history number call (Some op) answer
  event_of_more more is running = by_last false more is
      (subst (λ (b : Bool). HoldsOn b mid sets start (history ++ acts_of number goes.effect) goes.then_call op) more goes.holds) (same_session running)

-- an operation is one of a session that exists
pub low_of : (st : State) (op : Op) → OpInvariant st op → session_of op < 64
low_of st (Insert op) fits = fits.session
low_of st (Scan op) fits = fits.session
low_of st (Bulk set op) fits = fits.session
low_of st (Cleanup op) fits = fits.session

-- a running call that is given up
pub event_of_end : {sets : DeadSets} (old new : State) (start : Entry → Bool) (history : List Action) (number : ℕ) (call : Call) (op : Op)
    → CallFits old sets start history number call op → new ≡ op_after_call op old
    → SessionEvent nothing_wrong old new sets start history number call None Ended
event_of_end {sets} old new start history number call op fits is =
    let low : call.session < 64 = subst (λ (t : ℕ). t < 64) fits.runs.session (low_of old op fits.runs.fits) in
    let mine : new ≡ let_go (is_bulk_delete op) call.session old = is ∙ ap (λ (t : ℕ). let_go (is_bulk_delete op) t old) fits.runs.session in
    let none = works_nothing call.session call.ask old old refl fits.world.order in
    subst (λ (st : State). SessionEvent nothing_wrong old st sets start history number call None Ended) (sym mine) (record {
      effect = None;
      after = ended call GivenUp (length history);
      asked = tt;
      told = record { none = refl; after_is = refl };
      caused = tt;
      shape = go_shape (is_bulk_delete op) call.ask old old call.session None none.shape;
      world = subst (λ (l : List Action). Matches (let_go (is_bulk_delete op) call.session old) start l) (sym (append-nil history)) (go_matches (is_bulk_delete op) old call.session start history low fits.world);
      format = go_format (is_bulk_delete op) call.session old;
      frames = go_frames (is_bulk_delete op) call.session old;
      pages = λ quiet. go_pages (is_bulk_delete op) call.session old;
      others = go_others (is_bulk_delete op) old old call.session none.others;
      cycle = go_cycle sets op old call.session old.cycle refl ∙ sym (ap (λ (a : Ask). cycle_after a None old.cycle) fits.runs.ask);
      leaves = λ other stays. go_leaves (is_bulk_delete op) old old call.session None (none.leaves other) stays;
      pinned = go_pinned (is_bulk_delete op) old old call.session none.pinned;
      meets = subst (λ (l : List Action). Meets start l number (ended call GivenUp (length history))) (sym (append-nil history)) (meets_given_up start history number call fits.meets fits.running);
      holds = (λ h. cc, go_idle (is_bulk_delete op) call.session old low fits.world.order);
      deletions = tt;
    })

-- an event with no action, which changes nothing of the pages
pub event_of_nothing : {sets : DeadSets} (at : Circumstances) (old new : State) (start : Entry → Bool) (history : List Action) (number : ℕ) (call after : Call) (op : Op) (answer : Answer)
    → Matches old start history → new ≡ old → AnswerMeans answer (length history) None call after → IsCaused at answer → Meets start history number after
    → after.ending ≡ Running → OpRuns new sets start history after op
    → OpDeletions new sets start history number after.began op
    → SessionEvent at old new sets start history number call (Some op) answer
event_of_nothing {sets} at old new start history number call after op answer m same told caused meets running runs deletions = record {
  effect = None;
  after = after;
  asked = tt;
  told = told;
  caused = caused;
  shape = (works_nothing call.session call.ask old new same m.order).shape;
  world = matches_after call.session call.ask None old new start history number m (works_nothing call.session call.ask old new same m.order);
  format = ap (λ (st : State). st.format) same;
  frames = ap (λ (st : State). st.frames) same;
  pages = λ none. ap (λ (st : State). st.pages) same;
  others = (nothing_else call.session old new same m.order).others;
  cycle = ap (λ (st : State). st.cycle) same ∙ cycle_stays call.ask op old.cycle;
  leaves = λ other stays. (nothing_else call.session old new same m.order).leaves;
  pinned = (works_nothing call.session call.ask old new same m.order).pinned;
  meets = subst (λ (l : List Action). Meets start l number after) (sym (append-nil history)) meets;
  holds = (running, subst (λ (l : List Action). OpRuns new sets start l after op) (sym (append-nil history)) runs);
  deletions = subst (λ (l : List Action). OpDeletions new sets start l number after.began op) (sym (append-nil history)) deletions;
}

-- the steps of an operation that runs a call
module _ {sets : DeadSets} (at : Circumstances) (old new : State) (start : Entry → Bool) (history : List Action) (number : ℕ) (call : Call) (before after : Op)
    (fits : CallFits old sets start history number call before) (session : session_of after ≡ session_of before) (ask : asked_of sets after ≡ asked_of sets before) where
  my_works : (effect : Option Effect) → CallEffect (session_of before) (asked_of sets before) effect old new → CallEffect call.session call.ask effect old new
  my_works effect works = subst (λ (a : Ask). CallEffect call.session a effect old new) (sym fits.runs.ask) (subst (λ (t : ℕ). CallEffect t (asked_of sets before) effect old new) fits.runs.session works)

  -- one that goes on
  pub step_goes_on : (effect : Option Effect) → CallEffect (session_of before) (asked_of sets before) effect old new → IsAsked (contents_after start history) call.ask call.added effect
      → add_of after ≡ add_after (add_of before) (suc (length history)) effect → OpInvariant new after → OpKnows start (history ++ acts_of number effect) call.began call.given after
      → OpDeletions new sets start (history ++ acts_of number effect) number call.began after
      → OpEvent at old new sets start history number call after Going
  step_goes_on effect works asked add then_fits knows deletions =
      let mine = my_works effect works in
      record {
        effect = effect;
        then_call = noted call (length history) effect;
        works = mine;
        asked = asked;
        told = refl;
        caused = tt;
        meets = meets_noted start history number call fits.meets fits.running effect asked;
        holds = (
          fits.running,
          record {
            ask = fits.runs.ask ∙ sym ask;
            session = session ∙ fits.runs.session;
            added = ap (λ (o : Option ℕ). add_after o (suc (length history)) effect) fits.runs.added ∙ sym add;
            started = started_after call.session call.session call.ask effect old new mine fits.runs.started;
            fits = then_fits;
            knows = knows;
          },
        );
        deletions = λ more. deletions;
      }

  -- one that finds entries
  pub step_is_ready : (count : ℕ) → CallEffect (session_of before) (asked_of sets before) None old new → add_of after ≡ add_of before
      → OpInvariant new after → OpKnows start history call.began call.given after
      → OpDeletions new sets start history number call.began after → OpEvent at old new sets start history number call after (Ready count)
  step_is_ready count works add then_fits knows deletions =
      let mine = my_works None works in
      record {
        effect = None;
        then_call = call;
        works = mine;
        asked = tt;
        told = record { none = refl; after_is = refl };
        caused = tt;
        meets = subst (λ (l : List Action). Meets start l number call) (sym (append-nil history)) fits.meets;
        holds = (
          fits.running,
          subst (λ (l : List Action). OpRuns new sets start l call after) (sym (append-nil history)) (record {
            ask = fits.runs.ask ∙ sym ask;
            session = session ∙ fits.runs.session;
            added = fits.runs.added ∙ sym add;
            started = started_after call.session call.session call.ask None old new mine fits.runs.started;
            fits = then_fits;
            knows = knows;
          }),
        );
        deletions = λ more. subst (λ (l : List Action). OpDeletions new sets start l number call.began after) (sym (append-nil history)) deletions;
      }

  -- an insert that is over with its Add, which it may make now
  pub step_adds : (e : Entry) (action : ℕ) (unfinished : Option Fault) (effect : Option Effect) → asked_of sets before ≡ AskInsert e → CallEffect (session_of before) (asked_of sets before) effect old new
      → IsAsked (contents_after start history) call.ask call.added effect → add_after (add_of before) (suc (length history)) effect ≡ Some action → IsFaultCaused (once_added at) unfinished
      → (unfinished ≢ None → effect ≡ None) → OpEvent at old new sets start history number call after (Added action unfinished)
  step_adds e action unfinished effect inserts works asked add caused quiet =
      let more : List Action = history ++ acts_of number effect in
      let then_call : Call = noted call (length history) effect in
      let noted_is : then_call.added ≡ Some action = ap (λ (o : Option ℕ). add_after o (suc (length history)) effect) fits.runs.added ∙ add in
      record {
        effect = effect;
        then_call = ended then_call (EndsAdded action unfinished) (act_count effect + length history);
        works = my_works effect works;
        asked = asked;
        told = record { noted_is = noted_is; after_is = refl; quiet = quiet };
        caused = caused;
        meets = subst (λ (n : ℕ). Meets start more number (ended then_call (EndsAdded action unfinished) n)) (grown history number effect)
            (meets_ended_added start more number then_call (meets_noted start history number call fits.meets fits.running effect asked) fits.running e
            action unfinished (fits.runs.ask ∙ inserts) noted_is);
        holds = λ h. absurd cc;
        deletions = λ more. absurd (true≢false more);
      }

  -- one that is refused
  pub step_is_refused : (fault : Fault) → new ≡ old → after ≡ before → HasCause at fault → (ends_call fault ≡ true → add_of before ≡ None)
      → ((e : Entry) → asked_of sets before ≡ AskInsert e → at.entry_was_there ≡ true → entry_on_live_leaf old.pages e ≡ true)
      → ((e : Entry) → asked_of sets before ≡ AskInsert e → (r : Row) → at.key_was_there r ≡ true → other_row_is_there old e r ≡ true)
      → OpEvent at old new sets start history number call after (Refused fault)
  step_is_refused fault same same_op cause none there other = by_end (ends_call fault) refl
    where
      may : ends_call fault ≡ true → (e : Entry) → call.ask ≡ AskInsert e → (call.added ≡ None) × InsertMayFail start history call.began (length history) e fault
      may ends e asked = (
        fits.runs.added ∙ none ends,
        (
          λ is. there_at_present old start history call.began e fits.world (began_before start history number call fits.meets fits.running)
              (there e (sym fits.runs.ask ∙ asked) (subst (λ (f : Fault). HasCause at f) is cause)),
          λ r is.
              let key = other_row_is old e r (other e (sym fits.runs.ask ∙ asked) r (subst (λ (f : Fault). HasCause at f) is cause)) in
              (key.1, there_at_present old start history call.began (with_row e r) fits.world (began_before start history number call fits.meets fits.running) key.2),
        ),
      )

      works : CallEffect call.session call.ask None old new
      works = works_nothing call.session call.ask old new same fits.world.order

      by_end : (b : Bool) → ends_call fault ≡ b → OpEvent at old new sets start history number call after (Refused fault)
      by_end true ends = record {
        effect = None;
        then_call = ended call (Failed fault) (length history);
        works = works;
        asked = tt;
        told = (refl, rw ends refl);
        caused = cause;
        meets = subst (λ (l : List Action). Meets start l number (ended call (Failed fault) (length history))) (sym (append-nil history))
            (meets_failed start history number call fits.meets fits.running fault (may ends));
        holds = subst (λ (b : Bool). HoldsOn b new sets start (history ++ []) (ended call (Failed fault) (length history)) after) (sym ends) (λ h. cc);
        deletions = λ more. absurd (true≢false (sym ends ∙ more));
      }
      by_end false ends = record {
        effect = None;
        then_call = call;
        works = works;
        asked = tt;
        told = (refl, rw ends refl);
        caused = cause;
        meets = subst (λ (l : List Action). Meets start l number call) (sym (append-nil history)) fits.meets;
        holds = subst (λ (b : Bool). HoldsOn b new sets start (history ++ []) call after) (sym ends) (
          fits.running,
          subst (λ (l : List Action). OpRuns new sets start l call after) (sym (append-nil history))
              (subst (λ (st : State). OpRuns st sets start history call after) (sym same) (subst (λ (op : Op). OpRuns old sets start history call op) (sym same_op) fits.runs)),
        );
        deletions = λ more. subst (λ (l : List Action). OpDeletions new sets start l number call.began after) (sym (append-nil history))
            (subst (λ (st : State). OpDeletions st sets start history number call.began after) (sym same)
            (subst (λ (op : Op). OpDeletions old sets start history number call.began op) (sym same_op) fits.deletions));
      }
