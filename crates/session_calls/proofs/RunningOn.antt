-- What a session runs on after events of its call.
use Rattle.std.proofs.Common.{◌≡◌, Bool, true, false, Option, Some, None, refl, ap, subst, sym, ◌∙◌}
use Rattle.session_calls.proofs.Imports.{CallKind, InsertKind, ScanKind, BulkKind, CleanupKind, call_kind, is_vacuum, RunsOn, RunsUntilLast, Answer, Ended, Op, Insert, Scan, Bulk, Cleanup}

-- what stays as it was runs on,
pub runs_on_same : (slot : Option Op) → RunsOn slot slot
runs_on_same None = tt
runs_on_same (Some op) = refl

-- and what runs on and on
pub runs_on_then : (first mid last : Option Op) → RunsOn first mid → RunsOn mid last → RunsOn first last
runs_on_then first mid None h k = tt
runs_on_then first None (Some c) h k = absurd k
runs_on_then None (Some b) (Some c) h k = absurd h
runs_on_then (Some a) (Some b) (Some c) h k = k ∙ h

-- a session that runs nothing runs nothing then
pub runs_over : (before slot : Option Op) → slot ≡ None → RunsOn before slot
runs_over before slot over = subst (λ (o : Option Op). RunsOn before o) (sym over) tt

-- a call that is given up is over, and so is what is told of it
pub ends_with_last : (before slot : Option Op) (answer : Answer) → slot ≡ None → answer ≡ Ended → RunsUntilLast before slot answer
ends_with_last before slot answer over is = rw (over, is) (by before)
  where
    by : (o : Option Op) → RunsUntilLast o None Ended
    by None = refl
    by (Some op) = refl

-- whether a kind is that of a bulk delete or of a cleanup
abbrev kind_vacuums : CallKind → Bool
kind_vacuums InsertKind = false
kind_vacuums ScanKind = false
kind_vacuums (BulkKind set) = true
kind_vacuums CleanupKind = true

vacuum_kind : (op : Op) → is_vacuum op ≡ kind_vacuums (call_kind op)
vacuum_kind (Insert op) = refl
vacuum_kind (Scan op) = refl
vacuum_kind (Bulk set op) = refl
vacuum_kind (Cleanup op) = refl

-- what runs on is a bulk delete or a cleanup exactly if it was one
pub stays_vacuum : (before op : Op) → call_kind op ≡ call_kind before → is_vacuum op ≡ is_vacuum before
stays_vacuum before op same = vacuum_kind op ∙ ap kind_vacuums same ∙ sym (vacuum_kind before)
