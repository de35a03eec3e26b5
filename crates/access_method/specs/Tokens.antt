-- Tokens, which of them are open, and who has a session.
use Rattle.std.specs.Prelude.{◌≡◌, ◌≢◌, ℕ, true, ◌==◌, if◌then◌else◌, Option, Some, None, List, slice_get}
use Rattle.session_calls.specs.declared.op.Op.{Op}
use Rattle.session_calls.specs.Slots.{slot_of, slot_vacuums}
use Rattle.access_method.specs.declared.token.ScanToken.{ScanToken}
use Rattle.access_method.specs.declared.token.OpenScan.{OpenScan}
use Rattle.access_method.specs.declared.token.Sitter.{Sitter}
use Rattle.access_method.specs.declared.token.Sitter.TheVariants.{Scan, Vacuum}

-- the seat of this token's session, if it is the token's
abbrev pub seat_for : ℕ → Option (Option Sitter) → Option OpenScan
seat_for number None = None
seat_for number (Some None) = None
seat_for number (Some (Some Vacuum)) = None
seat_for number (Some (Some (Scan seat))) = if seat.number == number then Some seat else None

-- the seat of a token that is open
abbrev pub seat_of : List (Option Sitter) → ScanToken → Option OpenScan
seat_of seats token = seat_for token.number (slice_get seats token.session)

-- a scan's seat, or none
abbrev pub sitter_of : Option OpenScan → Option Sitter
sitter_of None = None
sitter_of (Some seat) = Some (Scan seat)

-- the vacuum that goes on in parts has this session
abbrev pub IsVacuumSeat : List (Option Sitter) → ℕ → Type 0
IsVacuumSeat seats session = slice_get seats session ≡ Some (Some Vacuum)

-- none goes on in parts
abbrev pub NoVacuumIsOpen : List (Option Sitter) → Type 0
NoVacuumIsOpen seats = (session : ℕ) → IsVacuumSeat seats session → ⊥

-- Inserts have run to their ends, and a session whose seat is free runs nothing. A session that runs a bulk
-- delete or a cleanup is that of the vacuum that goes on in parts. It runs nothing else, and there is one at
-- most.
pub record SeatsAgree (slots : List (Option Op)) (seats : List (Option Sitter)) : Type 0 where
  pub inserts : slot_of slots 63 ≡ None
  pub free : (session : ℕ) → slice_get seats session ≡ Some None → slot_of slots session ≡ None
  pub vacuums : (session : ℕ) → slot_vacuums (slot_of slots session) ≡ true → IsVacuumSeat seats session
  pub sits : (session : ℕ) → IsVacuumSeat seats session → slot_of slots session ≢ None → slot_vacuums (slot_of slots session) ≡ true
  pub one : (session other : ℕ) → IsVacuumSeat seats session → IsVacuumSeat seats other → other ≡ session

-- no seat is free
abbrev pub AreTaken : List (Option Sitter) → Type 0
AreTaken seats = (session : ℕ) → slice_get seats session ≢ Some None

-- a free seat; or none is
abbrev pub IsFreeSeat : List (Option Sitter) → Option ℕ → Type 0
IsFreeSeat seats None = AreTaken seats
IsFreeSeat seats (Some session) = slice_get seats session ≡ Some None

-- the vacuum's seat; or none is open
abbrev pub IsSeatOfVacuum : List (Option Sitter) → Option ℕ → Type 0
IsSeatOfVacuum seats None = NoVacuumIsOpen seats
IsSeatOfVacuum seats (Some session) = IsVacuumSeat seats session
