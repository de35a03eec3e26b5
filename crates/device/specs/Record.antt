-- What a list of writes and syncs says of a device.
use Rattle.std.specs.Prelude.{ℕ, suc, ◌+◌, ◌/◌, ◌-◌, ◌==◌, Bool, true, ◌&&◌, nat_le, if◌then◌else◌, List, [], ◌∷◌, ◌++◌, length, take, drop, replicate}
use Rattle.device.specs.Disk.{Trace, next, wrote, synced, put}

-- a call that changed what a crash may leave: these bytes were written there, or all was synced
pub data DeviceCall : Type 0 where
  Write : ℕ → List ℕ → DeviceCall
  Sync : DeviceCall

-- a device after one such call
abbrev pub did : DeviceCall → Trace → Trace
did (Write at bytes) t = next (wrote at bytes t.now) t
did Sync t = next (synced t.now) t

-- and after all of them, the oldest first
abbrev pub done : Trace → List DeviceCall → Trace
done t [] = t
done t (call ∷ calls) = done (did call t) calls

-- the bytes after these calls
abbrev pub written_over : List ℕ → List DeviceCall → List ℕ
written_over bytes [] = bytes
written_over bytes (Write at piece ∷ calls) = written_over (put bytes at piece) calls
written_over bytes (Sync ∷ calls) = written_over bytes calls

-- the first half as written, each other byte A5
abbrev pub torn : List ℕ → List ℕ
torn bytes = take (length bytes / 2) bytes ++ replicate (length bytes - length bytes / 2) 165

-- the bytes after these calls, each write torn
abbrev pub torn_over : List ℕ → List DeviceCall → List ℕ
torn_over bytes [] = bytes
torn_over bytes (Write at piece ∷ calls) = torn_over (put bytes at (torn piece)) calls
torn_over bytes (Sync ∷ calls) = torn_over bytes calls

-- how many calls there are up to the last sync, and with it
abbrev pub synced_calls : List DeviceCall → ℕ
synced_calls [] = 0
synced_calls (Write at piece ∷ calls) = if synced_calls calls == 0 then 0 else suc (synced_calls calls)
synced_calls (Sync ∷ calls) = suc (synced_calls calls)

-- the bytes at the last sync, if these were there before the calls
abbrev pub synced_over : List ℕ → List DeviceCall → List ℕ
synced_over bytes calls = written_over bytes (take (synced_calls calls) calls)

-- those with each later write torn
abbrev pub torn_after_sync : List ℕ → List DeviceCall → List ℕ
torn_after_sync bytes calls = torn_over (synced_over bytes calls) (drop (synced_calls calls) calls)

-- the write lies inside so many bytes
abbrev pub is_inside : ℕ → DeviceCall → Bool
is_inside n (Write at piece) = nat_le (at + length piece) n
is_inside n Sync = true

-- each write does
abbrev pub are_inside : ℕ → List DeviceCall → Bool
are_inside n [] = true
are_inside n (call ∷ calls) = is_inside n call && are_inside n calls
