-- When a worker may do an event, and whether the lock was opened.
use Rattle.std.specs.Prelude.{Bool, true, false, nat_lt, vec_len, vec_capacity}
use Rattle.std.specs.declared.sync.ledger.Ledger.{Ghosts as LedgerGhosts}
use Rattle.index_model.specs.declared.dead_rows.DeadRows.{Ghosts as SetGhosts}
use Rattle.page_action.specs.declared.page_store.PageStore.{Ghosts as StoreGhosts}
use Rattle.worker_seats.specs.declared.run.Run.{Ghosts as RunGhosts}
use Rattle.shared_world.specs.declared.jobs.Jobs.{Ghosts as JobGhosts}
use Rattle.shared_world.specs.declared.origin.Origin.{Ghosts as OriginGhosts}
use Rattle.shared_world.specs.declared.origin.OriginOn.{Ghosts as OriginOnGhosts}
use Rattle.session_seats.specs.declared.group.SessionGroup.{Ghosts as GroupGhosts}
use Rattle.sessions.specs.declared.slot.RunSlot.{RunSlot}
use Rattle.sessions.specs.declared.slot.RunSlot.TheVariants.{Waiting, Open, Closed}

-- the lock was opened, and there is room for one record more
abbrev pub may_record : {S T J : Type 0} {s : StoreGhosts S} {t : SetGhosts T} {j : JobGhosts J} {r : RunGhosts J} {l : LedgerGhosts J} {past : OriginOnGhosts J S} {o : OriginGhosts J} {group : GroupGhosts J} → RunSlot S T J s t j r l past o group → Bool
may_record Waiting = false
may_record (Open shared started) = nat_lt (vec_len shared.history) (vec_capacity shared.history)
may_record Closed = false

-- the lock was opened
abbrev pub is_open : {S T J : Type 0} {s : StoreGhosts S} {t : SetGhosts T} {j : JobGhosts J} {r : RunGhosts J} {l : LedgerGhosts J} {past : OriginOnGhosts J S} {o : OriginGhosts J} {group : GroupGhosts J} → RunSlot S T J s t j r l past o group → Bool
is_open Waiting = false
is_open (Open shared started) = true
is_open Closed = false
