-- The calls of a device, and what they say of it.
use Rattle.std.specs.Prelude.{ℕ, suc, ◌+◌, ◌==◌, ◌&&◌, Bool, true, false, if◌then◌else◌, List, [], ◌∷◌, length, slice_range}
use Rattle.device.specs.Disk.{Trace, first, next, wrote, synced}

-- A call with its answer: which call (0 a read, 1 a write, 2 a sync, 3 one that was not made, since an
-- earlier write or sync had failed), where, how many bytes went, whether it succeeded, and its bytes.
abbrev pub Event : Type 0
Event = ℕ × ℕ × ℕ × Bool × List ℕ

-- The device after the call. A write has its effect, also where it failed: a crash may leave any bytes in its
-- range, and no read that follows is made. A sync has its effect where it succeeded.
abbrev pub behind_call : Event → Trace → Trace
behind_call e t =
    if e.0 == 1 then next (wrote e.1 e.4 t.now) t
    else (if e.0 == 2 && e.3 then next (synced t.now) t else t)

-- ... after all of them
abbrev pub after_calls : List ℕ → List Event → Trace
after_calls start [] = first start
after_calls start (e ∷ events) = behind_call e (after_calls start events)

-- how many of them failed
abbrev pub failed_in : List Event → ℕ
failed_in [] = 0
failed_in (e ∷ events) = if e.3 then failed_in events else suc (failed_in events)

-- the two lists are one
abbrev pub same_bytes : List ℕ → List ℕ → Bool
same_bytes [] [] = true
same_bytes [] (y ∷ ys) = false
same_bytes (x ∷ xs) [] = false
same_bytes (x ∷ xs) (y ∷ ys) = x == y && same_bytes xs ys

-- a read that succeeded gave the bytes that were there
abbrev pub is_right : List ℕ → Event → List Event → Bool
is_right start e events =
    if e.0 == 0 && e.3
    then same_bytes e.4 (slice_range (after_calls start events).now.seen e.1 (e.1 + length e.4))
    else true

-- each of them did
abbrev pub are_right : List ℕ → List Event → Bool
are_right start [] = true
are_right start (e ∷ events) = are_right start events && is_right start e events
