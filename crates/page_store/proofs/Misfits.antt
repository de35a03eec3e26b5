-- How many images fit into a log.
use Rattle.std.proofs.Common.{◌≡◌, ℕ, suc, ◌+◌, ◌-◌, ◌*◌, ◌<◌, ◌≤◌, inl, inr, arith}
use Rattle.page_store.proofs.Imports.{cases_lt, whole_room, format_of, end_with, ImagesFit, Log}

-- what doesn't fit is longer than the log
pub misfit : (log : Log) (n : ℕ) → (ImagesFit log n → ⊥) → (format_of log).log_bytes < end_with log n
misfit log n h = elim (cases_lt (format_of log).log_bytes (end_with log n)) [
  | inl long ↦ long
  | inr fits ↦ absurd (h fits)
]

-- a force costs at most one image of room
pub promise_left : (log new : Log) (bytes room left : ℕ) → (0 < room → end_with log room ≤ bytes)
    → end_with new (left + 1) ≤ end_with log (suc (left + 1)) → bytes < end_with new (left + 1) → room ≤ suc left
promise_left log new bytes room left fits cost no_more = elim (cases_lt (suc left) room) [
  | inl above ↦ let h = fits (omega arith) in absurd (omega arith)
  | inr below ↦ below
]

-- `images` images cost no more than their room
pub room_left : (log new : Log) (images room left : ℕ) → (0 < room → end_with log room ≤ (format_of new).log_bytes)
    → ((n : ℕ) → end_with new n ≤ end_with log (images + n)) → ((n : ℕ) → left < n → ImagesFit new n → ⊥) → room ≤ images + left
room_left log new images room left fits cost no_more = elim (cases_lt (images + left) room) [
  | inl above ↦
      let n = room - images in
      let h = fits (omega arith) in
      let long = misfit new n (no_more n (omega arith)) in
      absurd (omega (arith, cost n))
  | inr below ↦ below
]

-- a log in which nothing stands or waits has its whole room
pub whole_left : (log : Log) (left : ℕ) → ((n : ℕ) → end_with log n ≡ 6 + 4096 * n) → ((n : ℕ) → 0 < n → n ≤ left → ImagesFit log n) → ((n : ℕ) → left < n → ImagesFit log n → ⊥)
    → 6 ≤ (format_of log).log_bytes → left ≡ whole_room (format_of log)
whole_left log left empty fit no_more long =
    let past = misfit log (suc left) (no_more (suc left) (omega arith)) in
    elim (cases_lt 0 left) [
      | inl some ↦ let fits = fit left some (omega arith) in omega (arith, empty left, empty (suc left))
      | inr none ↦ omega (arith, empty (suc left))
    ]
