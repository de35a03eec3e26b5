use Rattle.std.proofs.Common.{◌≡◌, ◌≤◌, ◌*◌, take}
use Rattle.sessions.proofs.Imports.{sum_by, room_of}
use Rattle.sessions.proofs.limits.all_room.Given as goal

abbrev pub invariant-loop-job : goal.invariant-loop-job
invariant-loop-job l = (l.room ≡ sum_by room_of (take l.job-index l.jobs)) × (l.room ≤ 4294967295 * l.job-index)
