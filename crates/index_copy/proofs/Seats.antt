-- The seat of a token that is opened, asked and closed.
use Rattle.std.specs.Prelude.{OnOk, OnErr, slice_get, slice_set}
use Rattle.std.proofs.Common.{◌≡◌, ◌<◌, ℕ, zero, suc, Bool, true, false, Option, Some, None, Result, Ok, Err, List, [], ◌∷◌, length, refl, sym, ap, subst, inl, inr, ◌∙◌, eq-eqb}
use Rattle.schedule.proofs.Lists.{get_set_same, get_within}
use Rattle.access_method.specs.Indexes.{IsNewToken, SameTokens, SeatBecomes, TokenAfter, seat_with}
use Rattle.index_model.specs.declared.entry.Entry.{Entry}
use Rattle.access_method.specs.Tokens.{seat_for, seat_of, sitter_of}
use Rattle.access_method.specs.declared.index.Index.{Index}
use Rattle.access_method.specs.declared.token.ScanToken.{ScanToken}
use Rattle.access_method.specs.declared.token.OpenScan.{OpenScan}
use Rattle.access_method.specs.declared.token.Sitter.{Sitter}
use Rattle.access_method.specs.declared.token.Sitter.TheVariants.{Scan as SitsToScan}
use Rattle.index_model.specs.declared.fault.Fault.{Fault}
use Rattle.index_copy.specs.Copies.{SeatIsKept}

set_twice : {X : Type 0} (xs : List X) (i : ℕ) (a b : X) → slice_set (slice_set xs i a) i b ≡ slice_set xs i b
set_twice [] i a b = refl
set_twice (y ∷ ys) zero a b = refl
set_twice {X = X} (y ∷ ys) (suc i) a b = ap (λ (l : List X). y ∷ l) (set_twice ys i a b)

set_back : {X : Type 0} (xs : List X) (i : ℕ) (x : X) → slice_get xs i ≡ Some x → slice_set xs i x ≡ xs
set_back [] i x h = refl
set_back {X = X} (y ∷ ys) zero x h = let same : x ≡ y = cc in ap (λ (z : X). z ∷ ys) same
set_back {X = X} (y ∷ ys) (suc i) x h = ap (λ (l : List X). y ∷ l) (set_back ys i x h)

-- the seat that a scan of this token sits on
abbrev pub sits : ScanToken → Bool → OpenScan
sits token is_refused = record { number = token.number; is_refused = is_refused }

abbrev sitter : ScanToken → Bool → Option Sitter
sitter token is_refused = Some (SitsToScan (sits token is_refused))

seat_found : (o : Option (Option Sitter)) (token : ScanToken) (is_refused : Bool) → o ≡ Some (sitter token is_refused) → seat_for token.number o ≡ Some (sits token is_refused)
seat_found o token is_refused at = ap (λ (s : Option (Option Sitter)). seat_for token.number s) at ∙ rw (eq-eqb token.number token.number refl) refl

seat_set : (seats : List (Option Sitter)) (token : ScanToken) (is_refused : Bool) → token.session < length seats
    → seat_of (slice_set seats token.session (sitter token is_refused)) token ≡ seat_with token is_refused
seat_set seats token is_refused within = seat_found _ token is_refused (get_set_same seats token.session (sitter token is_refused) within)

module _ {S : Type 0} (token : ScanToken) (old begun : Index S) (new_token : IsNewToken old begun token) where
  within : token.session < length old.seats
  within = get_within old.seats token.session None new_token.was_free

  -- its seat, once it is opened
  pub seat_begun : seat_of begun.seats token ≡ seat_with token false
  seat_begun = ap (λ (seats : List (Option Sitter)). seat_of seats token) new_token.seats_is ∙ seat_set old.seats token false within

  -- ... and asked
  asked_seats : (mid : Index S) → SeatIsKept token begun mid → (is_refused : Bool) × (mid.seats ≡ slice_set old.seats token.session (sitter token is_refused))
  asked_seats mid (inl same) = (false, same.seats_is ∙ new_token.seats_is)
  asked_seats mid (inr refused) = (
    true,
    refused.seats_is ∙ ap (λ (seats : List (Option Sitter)). slice_set seats token.session (sitter token true)) new_token.seats_is
        ∙ set_twice old.seats token.session (sitter token false) (sitter token true),
  )

  -- so it is open, and can be closed
  pub closes : {A P : Type 0} (mid : Index S) (result : Result A Fault) → SeatIsKept token begun mid → OnOk result P → OnErr result (seat_of mid.seats token ≡ None) → P
  closes mid (Ok done) kept does closed = does
  closes mid (Err fault) kept does closed =
      let is = asked_seats mid kept in
      let open_then : seat_of mid.seats token ≡ Some (sits token is.0) = ap (λ (seats : List (Option Sitter)). seat_of seats token) is.1 ∙ seat_set old.seats token is.0 within in
      let both : Some (sits token is.0) ≡ None = sym open_then ∙ closed in
      absurd cc

  -- and all seats are what they were
  pub seats_back : (mid new : Index S) → SeatIsKept token begun mid → SeatBecomes token None mid new → new.seats ≡ old.seats
  seats_back mid new kept becomes =
      let is = asked_seats mid kept in
      becomes.seats_is ∙ ap (λ (seats : List (Option Sitter)). slice_set seats token.session None) is.1
      ∙ set_twice old.seats token.session (sitter token is.0) None ∙ set_back old.seats token.session None new_token.was_free

-- a scan that is refused then, was open before
pub becomes_then : {S : Type 0} (token : ScanToken) (seat : Option OpenScan) (old mid new : Index S) → SameTokens old mid → SeatBecomes token seat mid new → SeatBecomes token seat old new
becomes_then token seat old mid new same becomes = record {
  given_is = becomes.given_is ∙ same.given_is;
  seats_is = becomes.seats_is ∙ ap (λ (seats : List (Option Sitter)). slice_set seats token.session (sitter_of seat)) same.seats_is;
}

-- a seat stays if tokens do
pub seat_stays : {S : Type 0} (token : ScanToken) (seat : Option OpenScan) (old new : Index S) → SameTokens old new → seat_of old.seats token ≡ seat → seat_of new.seats token ≡ seat
seat_stays token seat old new same was = ap (λ (seats : List (Option Sitter)). seat_of seats token) same.seats_is ∙ was

-- tokens stay if a scan gives an entry, or has given all
pub tokens_given : {S : Type 0} (token : ScanToken) (answer : Result (Option Entry) Fault) (given : Option Entry) (old new : Index S) → answer ≡ Ok given → TokenAfter token answer old new → SameTokens old new
tokens_given {S = S} token answer given old new is after = subst (λ (r : Result (Option Entry) Fault). TokenAfter token r old new) is after

-- ... and a scan that is refused stays open, and refused
pub tokens_refused : {S : Type 0} (token : ScanToken) (answer : Result (Option Entry) Fault) (fault : Fault) (old new : Index S) → answer ≡ Err fault → TokenAfter token answer old new
    → SeatBecomes token (seat_with token true) old new
tokens_refused {S = S} token answer fault old new is after = subst (λ (r : Result (Option Entry) Fault). TokenAfter token r old new) is after
