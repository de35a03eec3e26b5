-- What sessions know of their calls, side by side with the one log.
use Rattle.std.specs.Prelude.{◌≡◌, ◌+◌, ℕ, Option, None, List, [], map, length, slice_get, IfSome}
use Rattle.session_seats.specs.Seats.{calls_from}
use Rattle.session_seats.specs.declared.call.CompletedCall.{CompletedCall}
use Rattle.session_seats.specs.declared.call.PendingCall.{PendingCall}
use Rattle.session_seats.specs.declared.group.SessionGroup.{Ghosts}
use Rattle.shared_index.specs.Sessions.{calls_had, number_of_seat, open_scan}
use Rattle.shared_index.specs.declared.session.SharedSession.{SharedSession}

-- a session's number, and its calls with their places in the log
abbrev pub told_by : {J : Type 0} {h : Ghosts J} → SharedSession J h → ℕ × List (ℕ × CompletedCall)
told_by s = (number_of_seat s.seat, calls_had s.seat)

-- ... of each of these
abbrev pub all_told : {J : Type 0} {h : Ghosts J} → List (SharedSession J h) → List (ℕ × List (ℕ × CompletedCall))
all_told sessions = map (λ s. told_by s) sessions

-- a session's number and calls, with the scan that is open in it, if one is
abbrev pub standing_of : {J : Type 0} {h : Ghosts J} → SharedSession J h → (ℕ × List (ℕ × CompletedCall)) × Option PendingCall
standing_of s = (told_by s, open_scan s.seat)

-- they are the sessions from this one on, and have had no call
abbrev pub AreFresh : {J : Type 0} {h : Ghosts J} → ℕ → List (SharedSession J h) → Type 0
AreFresh first sessions = (k : ℕ) → IfSome (slice_get sessions k) (λ s. standing_of s ≡ ((first + k, []), None))

-- each of them has had just the calls that the log has of it
abbrev pub AreOfLog : List CompletedCall → List (ℕ × List (ℕ × CompletedCall)) → Type 0
AreOfLog log told = (k : ℕ) → IfSome (slice_get told k) (λ t. t.1 ≡ calls_from 0 t.0 log)

-- They are the sessions from 0 on, with an answer of each, and each answer tells this of its session's calls.
pub record HaveLearnt {O : Type 0} (learnt : O → List (ℕ × CompletedCall) → Type 0) (outs : List O) (told : List (ℕ × List (ℕ × CompletedCall))) : Type 0 where
  pub long : length told ≡ length outs
  pub numbers : (k : ℕ) → IfSome (slice_get told k) (λ t. t.0 ≡ k)
  pub each : (k : ℕ) → IfSome (slice_get told k) (λ t. IfSome (slice_get outs k) (λ out. learnt out t.1))
