-- What lies under the lock of a run of jobs: what a worker's seat tells of it, and what is so of it after an
-- event of the worker's session.
use Rattle.std.proofs.Common.{◌≡◌, ◌≢◌, ◌<◌, ◌≤◌, ◌+◌, ◌++◌, ◌∷◌, [], ℕ, Bool, true, false, unwrap_or, List, length, Option, Some, None, slice_get, slice_set, get_or, vec_len, vec_capacity, refl, sym, ap, ◌∙◌, subst, inr, ⊎_elim, arith, length-set}
use Rattle.session_calls.specs.TheoremCalls.{DeadSets}
use Rattle.shared_world.proofs.Imports.{slice_get_read, SetGhosts, Ghosts, Answer, Ended, registry_of, known_by, LedgerGhosts, RunGhosts, SeatView, JobGhosts, OriginGhosts, OriginOnGhosts, GroupGhosts, nat_cases, get_within, set_here, set_else}
use Rattle.shared_world.proofs.Imports.{Job, Record, Pending, Shared, PendingCall, SessionSeat, SessionView, view_of, completed_of, completed_calls, pending_call, pending_call_of, pending_calls}
use Rattle.shared_world.proofs.Imports.{AreBooked, AreSeated, HoldsSeat, IsSeatAt, IsBelowRoom, IsFullScan, IsRoomOf, MayBeLeft, Scan, ScanIsFull, HasRoomLeft, LeavesCall, RunsItsCall, call_in, empty_call, record_of, notes_of, jobs_of, TurnMeans, HasNotedAt}
use Rattle.shared_world.proofs.Noting.{some_same, set_same, set_twice}
use Rattle.shared_world.proofs.Listing.{none_there, some_there, within, jobs_of_set, notes_of_snoc, length_notes, seat_runs, pending_calls_set, completed_calls_snoc, booked_runs, booked_done}

-- a place that has the seat of a session has a seat
holds : {J : Type 0} {group : GroupGhosts J} (sets : DeadSets) (s : ℕ) (o : Option Pending) (x : Option (Option (SessionSeat J group))) → IsSeatAt sets s (Some o) x → HoldsSeat x
holds sets s o (Some (Some v)) h = tt
holds sets s o x h = absurd h

module _ {S T J : Type 0} {g : Ghosts S} {rows : SetGhosts T} {j : JobGhosts J} {run : RunGhosts J} {ledger : LedgerGhosts J} {past : OriginOnGhosts J S} {origin : OriginGhosts J} {group : GroupGhosts J} (self : Shared S T J g rows j run ledger past origin group) where
  -- what the registry of the sessions' seats knows
  abbrev pub registry_in : SessionView
  registry_in = view_of self.live.desk.registry

  -- all that is to be so as the lock is released
  abbrev pub IsServed : List (Option Pending) → List Record → List (Option (SessionSeat J group)) → SessionView → ℕ → ℕ → ℕ → SeatView → Type 0
  IsServed pending records seats k count capacity total view = record {
    stays : origin.handed.spare ≡ None;
    told : k.log ≡ completed_calls origin.handed.sets records;
    runs : k.pending ≡ pending_calls origin.handed.sets pending;
    booked : AreBooked j.jobs pending records;
    seated : AreSeated origin.handed.sets j.workers pending seats;
    workers : vec_len self.pending ≡ j.workers;
    enough : length j.jobs ≤ capacity;
    counted : total ≡ count;
    knows : view ≡ registry_of (notes_of records) (jobs_of pending);
  }

  -- it is so if nothing has changed
  pub served_same : {pending : List (Option Pending)} {view : SeatView} → pending ≡ self.pending.items → view ≡ known_by self.desk.registry
      → IsServed pending self.history.items self.seats.items registry_in (vec_len self.history) (vec_capacity self.history) self.book.total view
  served_same {pending} {view} same knows = subst (λ (l : List (Option Pending)). IsServed l self.history.items self.seats.items registry_in (vec_len self.history) (vec_capacity self.history) self.book.total view) (sym same) (record {
    stays = self.stays;
    told = self.told;
    runs = self.runs;
    booked = self.booked;
    seated = self.seated;
    workers = self.workers;
    enough = self.enough;
    counted = self.counted;
    knows = knows ∙ self.knows;
  })

  module _ (w : ℕ) where
    -- the worker's session runs this job: it is pending at the worker's place
    pub record RunsJobAt (job : ℕ) (p : Pending) : Type 0 where
      pub found : slice_get self.pending.items w ≡ Some (Some p)
      pub job_is : p.job ≡ job
      pub inside : w < vec_len self.pending

    -- it runs what its seat tells
    pub runs_at : {job : ℕ} {o : Option ℕ} → slice_get (known_by self.desk.registry).running w ≡ Some o → o ≡ Some job → (p : Pending) × RunsJobAt job p
    runs_at {job} {o} at is =
        let known = seat_runs (known_by self.desk.registry) w (notes_of self.history.items) self.pending.items o (Some job) self.knows at is in
        let inside = within self.pending.items w (Some job) known in
        let p = some_there self.pending.items w job known in
        (p.0, record { found = p.1; job_is = p.2; inside = omega (arith, inside, self.pending.ok.0) })

    -- it runs nothing, if its seat tells so
    pub idle_at : {o : Option ℕ} → slice_get (known_by self.desk.registry).running w ≡ Some o → o ≡ None → slice_get self.pending.items w ≡ Some None
    idle_at {o} at is = none_there self.pending.items w (seat_runs (known_by self.desk.registry) w (notes_of self.history.items) self.pending.items o None self.knows at is)

    -- what is read at the worker's place is the job that runs
    pub read_here : {job : ℕ} {p : Pending} → RunsJobAt job p → (x : Option Pending) → x ≡ get_or self.pending.items w x → x ≡ Some p
    read_here here x value = some_same (sym (slice_get_read self.pending.items self.pending.len w x self.pending.ok.0 here.inside value) ∙ here.found)

    -- ... and so is what is taken out there
    pub taken_out : {job : ℕ} {o : Option ℕ} {x y : Option Pending} {p : Pending} → slice_get (known_by self.desk.registry).running w ≡ Some o → o ≡ Some job
        → x ≡ get_or self.pending.items w x → y ≡ x → y ≡ Some p → RunsJobAt job p
    taken_out {job} {o} {x} at is value took some =
        let q = runs_at at is in
        subst (RunsJobAt job) (some_same (sym (took ∙ read_here q.1 x value) ∙ some)) q.1

    -- ... so that something is
    pub some_taken : {job : ℕ} {o : Option ℕ} {x y : Option Pending} → slice_get (known_by self.desk.registry).running w ≡ Some o → o ≡ Some job
        → x ≡ get_or self.pending.items w x → y ≡ x → ((p : Pending) → y ≡ Some p → ⊥) → ⊥
    some_taken {job} {o} {x} at is value took none =
        let q = runs_at at is in
        none q.0 (took ∙ read_here q.1 x value)

    -- a turn that made a record of the job, and took it out
    pub turn_recorded : {job : ℕ} {p : Pending} → RunsJobAt job p → (answer : Answer) (to : ℕ) {place : ℕ} {x : Record} {records : List Record} {o : Option Pending}
        → place ≡ vec_len self.history → records ≡ self.history.items ++ x ∷ [] → x ≡ record_of w p answer to → o ≡ None
        → TurnMeans w job answer to (Some place) self.history.items records self.pending.items (slice_set self.pending.items w o)
    turn_recorded {job} {p} here answer to place items is none = record {
      running = p;
      found = here.found;
      job_is = here.job_is;
      history = (place ∙ self.history.ok.0, items ∙ ap (λ (r : Record). self.history.items ++ r ∷ []) is);
      pending = ap (slice_set self.pending.items w) none;
    }

    -- ... and the note of its seat
    pub seat_noted : {job : ℕ} {p : Pending} → RunsJobAt job p → {mid before now after : SeatView} {place : ℕ} → mid ≡ known_by self.desk.registry → now ≡ before → place ≡ vec_len self.history
        → after.job ≡ None → after.notes ≡ now.notes ++ (length mid.log, p.job) ∷ [] → HasNotedAt job place before after
    seat_noted here knows view is rests notes =
        let place = ap (λ (v : SeatView). length v.log) (knows ∙ self.knows) ∙ length_notes self.history.items ∙ sym (is ∙ self.history.ok.0) in
        record { rests = rests; notes = notes ∙ (λ i. (view i).notes ++ (place i, here.job_is i) ∷ []) }

    -- the worker's session has its seat under the lock
    module _ (o : Option Pending) (at : slice_get self.pending.items w ≡ Some o) where
      within_workers : w < j.workers
      within_workers = (let inside = get_within self.pending.items w o at in omega (arith, inside, self.pending.ok.0, self.workers))

      seat_is : (x : Option (Option (SessionSeat J group))) → slice_get self.seats.items w ≡ x → IsSeatAt origin.handed.sets w (Some o) x
      seat_is x e = subst (λ (y : Option (Option Pending) × Option (Option (SessionSeat J group))). IsSeatAt origin.handed.sets w y.0 y.1) (λ i. (at i, e i)) (self.seated w within_workers)

      pub seat_there : HoldsSeat (slice_get self.seats.items w)
      seat_there = holds origin.handed.sets w o (slice_get self.seats.items w) (seat_is _ refl)

      module _ (seat : SessionSeat J group) (there : slice_get self.seats.items w ≡ Some (Some seat)) where
        pub session_is : seat.session ≡ w
        session_is = (seat_is (Some (Some seat)) there).0

        pub call_is : (view_of seat.pass).call ≡ pending_call_of origin.handed.sets o
        call_is = (seat_is (Some (Some seat)) there).1

        -- an event of its call is one of the worker's session
        pub leaves_at : {over wanted : Bool} {p : PendingCall} {answer : Answer} {to until : ℕ} {k : SessionView} {after : SessionView} → over ≡ wanted → to ≡ until
            → LeavesCall seat.session over p answer to registry_in k (view_of seat.pass) after → LeavesCall w wanted p answer until registry_in k (view_of seat.pass) after
        leaves_at {over} {wanted} {p} {answer} {to} {until} {k} {after} ends then leaves =
            subst (λ (x : ℕ × Bool × ℕ). LeavesCall x.0 x.1 p answer x.2 registry_in k (view_of seat.pass) after) (λ i. (session_is i, ends i, then i)) leaves

        -- there is a place for it once it was taken out
        pub place_within : {seats : List (Option (SessionSeat J group))} → seats ≡ slice_set self.seats.items w None → w < length seats
        place_within taken = (let inside = get_within self.seats.items w (Some seat) there in let long = length-set self.seats.items w None in omega (arith, inside, long, ap (λ (l : List (Option (SessionSeat J group))). length l) taken))

        -- all have their seats again, once it is back with what it runs then
        seated_again : (now : Option Pending) (back : SessionSeat J group) {seats seats' : List (Option (SessionSeat J group))} → seats ≡ slice_set self.seats.items w None → seats' ≡ slice_set seats w (Some back)
            → back.session ≡ seat.session → (view_of back.pass).call ≡ pending_call_of origin.handed.sets now → AreSeated origin.handed.sets j.workers (slice_set self.pending.items w now) seats'
        seated_again now back {seats = seats} {seats' = seats'} taken put session call t l = subst (λ (x : List (Option (SessionSeat J group))). IsSeatAt origin.handed.sets t (slice_get (slice_set self.pending.items w now) t) (slice_get x t)) (sym once)
            (⊎_elim here else (nat_cases t w))
          where
            once : seats' ≡ slice_set self.seats.items w (Some back)
            once = put ∙ ap (λ (x : List (Option (SessionSeat J group))). slice_set x w (Some back)) taken ∙ set_twice self.seats.items w None (Some back)

            here : t ≡ w → IsSeatAt origin.handed.sets t (slice_get (slice_set self.pending.items w now) t) (slice_get (slice_set self.seats.items w (Some back)) t)
            here e = subst (λ (x : ℕ × Option (Option Pending) × Option (Option (SessionSeat J group))). IsSeatAt origin.handed.sets x.0 x.1 x.2)
                (λ i. (sym e i, sym (ap (slice_get (slice_set self.pending.items w now)) e ∙ set_here self.pending.items w o now at) i, sym (ap (slice_get (slice_set self.seats.items w (Some back))) e ∙ set_here self.seats.items w (Some seat) (Some back) there) i))
                (session ∙ session_is, call)

            else : t ≢ w → IsSeatAt origin.handed.sets t (slice_get (slice_set self.pending.items w now) t) (slice_get (slice_set self.seats.items w (Some back)) t)
            else n = subst (λ (x : Option (Option Pending) × Option (Option (SessionSeat J group))). IsSeatAt origin.handed.sets t x.0 x.1)
                (λ i. (sym (set_else self.pending.items w t now n) i, sym (set_else self.seats.items w t (Some back) n) i)) (self.seated t l)

        module _ (back : SessionSeat J group) {seats seats' : List (Option (SessionSeat J group))} (taken : seats ≡ slice_set self.seats.items w None) (put : seats' ≡ slice_set seats w (Some back)) (same : back.session ≡ seat.session)
            {k : SessionView} {p : PendingCall} {answer : Answer} {to : ℕ} where
          -- it is so if the job runs on
          pub served_on : (q : Pending) → LeavesCall w false p answer to registry_in k (view_of seat.pass) (view_of back.pass) → p ≡ pending_call origin.handed.sets q → slice_get j.jobs q.job ≡ Some q.asked → IsRoomOf q.asked (vec_capacity q.given)
              → {pending : List (Option Pending)} {view : SeatView} → pending ≡ slice_set self.pending.items w (Some q) → view ≡ registry_of (notes_of self.history.items) (slice_set (jobs_of self.pending.items) w (Some q.job))
              → IsServed pending self.history.items seats' k (vec_len self.history) (vec_capacity self.history) self.book.total view
          served_on q leaves is job room {pending} {view} pending_is knows = subst (λ (l : List (Option Pending)). IsServed l self.history.items seats' k (vec_len self.history) (vec_capacity self.history) self.book.total view) (sym pending_is) (record {
            stays = self.stays;
            told = leaves.log ∙ self.told;
            runs = leaves.pending ∙ (λ i. slice_set (self.runs i) w (Some (is i))) ∙ sym (pending_calls_set origin.handed.sets self.pending.items w (Some q));
            booked = booked_runs j.jobs self.pending.items self.history.items w q job room self.booked;
            seated = seated_again (Some q) back taken put same (leaves.call ∙ ap Some is);
            workers = self.workers;
            enough = self.enough;
            counted = self.counted;
            knows = knows ∙ ap (registry_of (notes_of self.history.items)) (sym (jobs_of_set self.pending.items w (Some q)));
          })

          -- ... or is done, and has its record
          pub served_done : (q : Pending) → LeavesCall w true p answer to registry_in k (view_of seat.pass) (view_of back.pass) → p ≡ pending_call origin.handed.sets q → slice_get j.jobs q.job ≡ Some q.asked → (answer ≡ Ended → ScanIsFull q.asked q.given.items)
              → {x : Record} {pending : List (Option Pending)} {records : List Record} {count capacity total worker : ℕ} {mid view : SeatView}
              → pending ≡ slice_set self.pending.items w None → records ≡ self.history.items ++ x ∷ [] → x ≡ record_of w q answer to → count ≡ vec_len self.history + 1 → capacity ≡ vec_capacity self.history → total ≡ self.book.total + 1
              → mid ≡ known_by self.desk.registry → worker ≡ w → view ≡ registry_of (mid.log ++ (worker, q.job) ∷ []) (slice_set mid.running worker None)
              → IsServed pending records seats' k count capacity total view
          served_done q leaves is job full {x} {pending} {records} {count} {capacity} {total} {worker} {mid} {view} pending_is items x_is count_is holds total_is same_desk sits knows =
              let r = record_of w q answer to in
              let all = items ∙ ap (λ (r : Record). self.history.items ++ r ∷ []) x_is in
              let v = same_desk ∙ self.knows in
              subst (λ (h : List (Option Pending) × List Record). IsServed h.0 h.1 seats' k count capacity total view) (λ i. (sym pending_is i, sym all i)) (record {
                stays = self.stays;
                told = leaves.log ∙ (λ i. self.told i ++ completed_of w (is i) answer to ∷ []) ∙ sym (completed_calls_snoc origin.handed.sets self.history.items r);
                runs = leaves.pending ∙ ap (λ (l : List (Option PendingCall)). slice_set l w None) self.runs ∙ sym (pending_calls_set origin.handed.sets self.pending.items w None);
                booked = booked_done j.jobs self.pending.items self.history.items w r job full self.booked;
                seated = seated_again None back taken put same leaves.call;
                workers = self.workers;
                enough = omega (arith, self.enough, holds);
                counted = total_is ∙ ap (λ n. n + 1) self.counted ∙ sym count_is;
                knows = knows ∙ (λ i. registry_of ((v i).log ++ (sits i, q.job) ∷ []) (slice_set (v i).running (sits i) None))
                    ∙ (λ i. registry_of (sym (notes_of_snoc self.history.items r) i) (sym (jobs_of_set self.pending.items w None) i));
              })

    -- one more is within a room that isn't full
    pub room_left : (q : Pending) → slice_get self.pending.items w ≡ Some (Some q) → vec_len q.given < vec_capacity q.given → IsBelowRoom q.asked q.given.items
    room_left q found below = left q.asked (self.booked.room w q found)
      where
        left : (j : Job) → IsRoomOf j (vec_capacity q.given) → IsBelowRoom j q.given.items
        left (Scan range room) is = (let cap : vec_capacity q.given ≡ room = is in let long = q.given.ok.0 in omega (arith, cap, long, below))
        left j is = tt

    -- a job that runs
    module _ (q : Pending) (found : slice_get self.pending.items w ≡ Some (Some q)) where
      -- what the desk's registry knows of it stays the same, if it runs on
      pub runs_same : jobs_of self.pending.items ≡ slice_set (jobs_of self.pending.items) w (Some q.job)
      runs_same = ap jobs_of (sym (set_same self.pending.items w (Some q) found)) ∙ jobs_of_set self.pending.items w (Some q)

      module _ (seat : SessionSeat J group) (there : slice_get self.seats.items w ≡ Some (Some seat)) where
        -- the session's seat tells its call
        runs_is : (view_of seat.pass).call ≡ Some (pending_call origin.handed.sets q)
        runs_is = call_is (Some q) found seat there

        pub call_in_is : call_in (view_of seat.pass) ≡ pending_call origin.handed.sets q
        call_in_is = ap (λ (o : Option PendingCall). unwrap_or o empty_call) runs_is

        pub runs_call : RunsItsCall (view_of seat.pass)
        runs_call = runs_is ∙ ap Some (sym call_in_is)

        -- if its room isn't full, it may give one entry more
        pub has_room : vec_len q.given < vec_capacity q.given → HasRoomLeft (call_in (view_of seat.pass))
        has_room below = subst HasRoomLeft (sym call_in_is) (room_left q found below)

        -- a scan whose room is full may be left if an entry more is ready
        pub may_leave : {asked : Job} {ready : ℕ} → asked ≡ q.asked → IsFullScan asked (Some q) ready → {now : ℕ} (added : Option ℕ) → ready ≡ now → MayBeLeft (call_in (view_of seat.pass)).asked (call_in (view_of seat.pass)).given now added
        may_leave {asked} {ready} same full {now} added is = subst (λ (x : PendingCall × ℕ). MayBeLeft x.0.asked x.0.given x.1 added) (λ i. (sym call_in_is i, is i)) (may q.asked (subst (λ (j : Job). IsFullScan j (Some q) ready) same full))
          where
            may : (j : Job) → IsFullScan j (Some q) ready → MayBeLeft j q.given.items ready added
            may (Scan range room) h = inr h.1
            may j h = absurd h

      -- ... and gave as many as the room holds
      pub full_room : {asked : Job} (ready : ℕ) → asked ≡ q.asked → IsFullScan asked (Some q) ready → ScanIsFull q.asked q.given.items
      full_room {asked} ready same full = room_full q.asked (self.booked.room w q found) (subst (λ (j : Job). IsFullScan j (Some q) ready) same full)
        where
          room_full : (j : Job) → IsRoomOf j (vec_capacity q.given) → IsFullScan j (Some q) ready → ScanIsFull j q.given.items
          room_full (Scan range room) is h = (let cap : vec_capacity q.given ≡ room = is in let over : vec_capacity q.given ≤ vec_len q.given = h.0 in let long = q.given.ok.0 in let fits = q.given.ok.1 in omega (arith, cap, over, long, fits))
          room_full j is h = absurd h
