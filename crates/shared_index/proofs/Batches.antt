-- Parts of a scan, one behind the other.
use Rattle.std.proofs.Common.{◌≡◌, ◌<◌, ◌+◌, ℕ, Bool, true, false, List, [], ◌∷◌, ◌++◌, length, Option, Some, None, unwrap_or, refl, sym, ap, ◌∙◌, append_assoc, length-append, is_some, IsSome, arith}
use Rattle.std.proofs.lemmas.List.{append-nil}
use Rattle.index_model.specs.declared.entry.Entry.{Entry}
use Rattle.session_calls.specs.declared.answer.Answer.{Answer}
use Rattle.std.specs.Option.{ForSome}
use Rattle.session_seats.specs.Calls.{completed_of, empty_call, gift_of, given_more}
use Rattle.session_seats.specs.Seats.{view_of}
use Rattle.session_seats.specs.declared.group.SessionGroup.{Ghosts}
use Rattle.session_seats.specs.declared.seat.SessionSeat.{SessionSeat}
use Rattle.session_seats.specs.declared.call.PendingCall.{PendingCall}
use Rattle.session_seats.specs.declared.job.Job.{Job}
use Rattle.session_seats.specs.declared.job.Job.TheVariants.{Insert, Scan, Bulk, Cleanup, Commit, Checkpoint}
use Rattle.session_seats.specs.declared.seating.SessionView.{SessionView}
use Rattle.shared_world.specs.Jobs.{IsBelowRoom, room_of}
use Rattle.shared_world.specs.Leaving.{LeavesCall, RunsItsCall, call_in}
use Rattle.shared_index.specs.Scanning.{HasTakenMore, RunsScan, ScanGoesOn, ScanLeaves, SeatScans, scan_room}
use Rattle.shared_index.specs.Sessions.{SeatRests, open_scan}

-- a scan that has given less than its room may give one entry more
pub below_room : (asked : Job) (given : List Entry) → length given < room_of asked → IsBelowRoom asked given
below_room (Insert entry) given l = tt
below_room (Scan range room) given l = l
below_room (Bulk set) given l = tt
below_room Cleanup given l = tt
below_room Commit given l = tt
below_room Checkpoint given l = tt

-- a scan that runs has room
pub runs_below : (count : ℕ) (v : SessionView) → RunsScan count v → length (call_in v).given < room_of (call_in v).asked
runs_below count v r = let long = r.count_is in let room = r.room_is in let few = r.few in omega (arith, long, room, few)

-- which call it is after it has given these
abbrev given_call : PendingCall → List Entry → PendingCall
given_call p more = record p { given = p.given ++ more }

still_in : (more : List Entry) (u v : SessionView) → ScanGoesOn more u v → call_in v ≡ given_call (call_in u) more
still_in more u v s = ap (λ (o : Option PendingCall). unwrap_or o empty_call) s.call_is

-- nothing was given
pub taken_none : (given : List Entry) (v : SessionView) → RunsItsCall v → HasTakenMore None given given v v
taken_none given v runs = record {
  more = [];
  after_is = sym (append-nil given);
  leaves = record { call_is = runs ∙ ap (λ (l : List Entry). Some (record (call_in v) { given = l })) (sym (append-nil (call_in v).given)); calls_are = refl };
}

leaves_twice : (over : Option Answer) (a b : List Entry) (u v w : SessionView) → ScanGoesOn a u v → ScanLeaves over b v w → ScanLeaves over (a ++ b) u w
leaves_twice None a b u v w first then =
    let is = still_in a u v first in record {
      call_is = then.call_is ∙ (λ i. Some (given_call (is i) b)) ∙ ap (λ (l : List Entry). Some (record (call_in u) { given = l })) (append_assoc (call_in u).given a b);
      calls_are = then.calls_are ∙ first.calls_are;
    }
leaves_twice (Some answer) a b u v w first then =
    let is = still_in a u v first in record {
      place = then.place;
      call = then.call;
      calls_are = then.calls_are ∙ ap (λ l. l ++ (then.place, then.call) ∷ []) first.calls_are;
      asked_is = then.asked_is ∙ ap (λ (p : PendingCall). p.asked) is;
      given_is = then.given_is ∙ ap (λ (p : PendingCall). p.given ++ b) is ∙ append_assoc (call_in u).given a b;
      answer_is = then.answer_is;
      rests = then.rests;
    }

-- a part, and one behind it
pub taken_twice : (over : Option Answer) (before middle after : List Entry) (u v w : SessionView) → HasTakenMore None before middle u v → HasTakenMore over middle after v w → HasTakenMore over before after u w
taken_twice over before middle after u v w first then = record {
  more = first.more ++ then.more;
  after_is = then.after_is ∙ ap (λ l. l ++ then.more) first.after_is ∙ append_assoc before first.more then.more;
  leaves = leaves_twice over first.more then.more u v w first.leaves then.leaves;
}

-- it was asked for its next entry, and had none ready
pub next_none : {session to : ℕ} {answer : Answer} {k l u v : SessionView} (given : List Entry) → LeavesCall session false (given_more (call_in u) answer) answer to k l u v → gift_of answer ≡ [] → HasTakenMore None given given u v
next_none {session} {to} {answer} {k} {l} {u} {v} given leaves none = record {
  more = [];
  after_is = sym (append-nil given);
  leaves = record { call_is = leaves.call ∙ ap (λ (g : List Entry). Some (given_call (call_in u) g)) none; calls_are = leaves.calls };
}

-- a step that leaves the scan running
pub step_on : {session to : ℕ} {answer : Answer} {k l v w : SessionView} (over : Bool) (given : List Entry) → LeavesCall session over (call_in v) answer to k l v w → over ≡ false → HasTakenMore None given given v w
step_on true given leaves on = absurd (cc)
step_on {session} {to} {answer} {k} {l} {v} {w} false given leaves on = record {
  more = [];
  after_is = sym (append-nil given);
  leaves = record { call_is = leaves.call ∙ ap (λ (g : List Entry). Some (record (call_in v) { given = g })) (sym (append-nil (call_in v).given)); calls_are = leaves.calls };
}

-- ... and its last one
pub step_over : {session to : ℕ} {answer : Answer} {k l v w : SessionView} (over : Bool) (given : List Entry) → LeavesCall session over (call_in v) answer to k l v w → over ≡ true → HasTakenMore (Some answer) given given v w
step_over false given leaves done = absurd (cc)
step_over {session} {to} {answer} {k} {l} {v} {w} true given leaves done = record {
  more = [];
  after_is = sym (append-nil given);
  leaves = record {
    place = length k.log;
    call = completed_of session (call_in v) answer to;
    calls_are = leaves.calls;
    asked_is = refl;
    given_is = sym (append-nil (call_in v).given);
    answer_is = refl;
    rests = leaves.call;
  };
}

-- the seat of an open scan runs it
pub scan_at : {J : Type 0} {h : Ghosts J} (scan : Option ℕ) (seat : Option (SessionSeat J h)) (count : ℕ) (s : SessionSeat J h) → ForSome scan (λ n. SeatScans n seat) → scan ≡ Some count → seat ≡ Some s → RunsScan count (view_of s.pass)
scan_at scan seat count s scans counts there = scans count counts s there

-- a session has a scan open exactly if it counts its entries
pub scan_is_open : {J : Type 0} {h : Ghosts J} (scan : Option ℕ) (seat : Option (SessionSeat J h)) → ForSome scan (λ n. SeatScans n seat) → IsSome seat → is_some scan ≡ true → IsSome (open_scan seat)
scan_is_open None seat scans there counts = absurd (cc)
scan_is_open (Some n) None scans there counts = absurd (cc)
scan_is_open (Some n) (Some s) scans there counts = ap (λ (o : Option PendingCall). is_some o) (scans n refl s refl).runs

pub none_is_open : {J : Type 0} {h : Ghosts J} (scan : Option ℕ) (seat : Option (SessionSeat J h)) → (scan ≡ None → SeatRests seat) → is_some scan ≡ false → open_scan seat ≡ None
none_is_open (Some n) seat rests none = absurd (cc)
none_is_open None None rests none = refl
none_is_open None (Some s) rests none = rests refl s refl
