-- What the closing of a log leaves.
use Rattle.std.proofs.Common.{◌≡◌, inl, inr, ⊎_elim, ℕ, ◌+◌, ◌<◌, ◌≤◌, List, [], ◌∷◌, length, take, drop, true, false, Result, Ok, Err, refl, sym, ◌∙◌, ap, subst, arith}
use Rattle.redo_log.proofs.Imports.{OnOk, DiskMoment, Trace, Writes, Syncs, next, wrote, AtEachMoment, Has, OnDisk, ChangesOnly, steps, goes_on, writes_goes, syncs_goes, goes_weaker, only_wider}
use Rattle.redo_log.proofs.Imports.{only_more, wrote_only, wrote_has, synced_only, synced_on, Page, images_of, spelled_groups, LogHolds, Waits, RestartsOrEmpty, is_ajar, is_written, Log}
use Rattle.redo_log.proofs.Leaving.{resetting}
use Rattle.redo_log.proofs.Keeping.{shut_gate}
use Rattle.redo_log.proofs.ImageLists.{same_refl, same_eq}

-- one byte is written at a place, and synced: at each moment only that byte changes
module _ (at : ℕ) (t : Trace) (inside : at + 1 ≤ length t.now.seen) where
  abbrev P : DiskMoment → Type 0
  P = ChangesOnly at 1 t.now

  one_only : (b : List ℕ) → length b ≡ 1 → P (wrote at b t.now)
  one_only b n = subst (λ (k : ℕ). ChangesOnly at k t.now (wrote at b t.now)) n (wrote_only at b t.now (omega arith))

  pub byte_written : {T E : Type 0} (r : Result T E) (u : Trace) → Writes at (0 ∷ []) r t u → AtEachMoment P t u
  byte_written r u w = writes_goes P at (0 ∷ []) r t u w (λ b n. one_only b n)

  module _ (u : Trace) (is : u ≡ next (wrote at (0 ∷ []) t.now) t) where
    u_only : P u.now
    u_only = subst P (sym (ap (λ (v : Trace). v.now) is)) (one_only (0 ∷ []) refl)

    pub byte_synced : {T E : Type 0} (r : Result T E) (v : Trace) → Syncs r u v → AtEachMoment P t v
    byte_synced r v w = goes_on P t u v (steps P t u _ is (one_only (0 ∷ []) refl)) (syncs_goes P r u v w (only_more at 1 _ _ _ u_only (synced_only at 1 u.now)))

    pub byte_on_disk : {T E : Type 0} (r : Result T E) (v : Trace) → Syncs r u v → OnOk r (OnDisk at (0 ∷ []) v.now)
    byte_on_disk (Ok a) v is' =
        subst (λ (x : Trace). OnDisk at (0 ∷ []) x.now) (sym is')
        (synced_on at (0 ∷ []) u.now (subst (λ (x : Trace). Has at (0 ∷ []) x.now.seen) (sym is) (wrote_has at (0 ∷ []) t.now inside)))
    byte_on_disk (Err e) v is' = tt

-- while the first gate is closed a crash leaves the actions that were there, or nothing
pub reset_goes : (log : Log) (old new : Trace) (acts : List (List Page)) (forced : ℕ) → LogHolds log old.now acts forced → is_ajar log ≡ false → 0 < log.at → AtEachMoment (ChangesOnly 4096 1 old.now) old new
    → AtEachMoment (RestartsOrEmpty log.format (take forced acts)) old new
reset_goes log old new acts forced k shut some gone =
    let s = shut_gate log old.now acts forced k shut in
    goes_weaker _ _ old new (λ n only image left. ⊎_elim
    (λ s'. inl (record { groups = k.groups; spells = s'; same = k.durable }))
    (λ s'. inr (record { groups = []; spells = s'; same = same_refl [] }))
    (resetting log.format 4096 log.format.log_bytes k.groups s.gate old.now n s.good s.closed s.on_disk
    (omega (arith, some, s.end)) (omega (arith, log.room, s.end)) only image left)) gone

pub in_range : (log : Log) (old new : Trace) → AtEachMoment (ChangesOnly 4096 1 old.now) old new → AtEachMoment (ChangesOnly 4096 log.format.log_bytes old.now) old new
in_range log old new gone = goes_weaker _ _ old new (λ n only. only_wider 4096 1 4096 log.format.log_bytes old.now n (omega arith) (omega (arith, log.least)) only) gone

-- with no group on the disk what is kept waits
no_groups : (gs : List (List Page)) → length (spelled_groups gs) ≡ 0 → gs ≡ []
no_groups [] e = refl
no_groups (g ∷ gs) e = absurd (omega arith)

pub empty_keeps : (log : Log) (m : DiskMoment) (acts : List (List Page)) (forced : ℕ) → LogHolds log m acts forced → is_ajar log ≡ false → log.at ≡ 0 → LogHolds log m (drop forced acts) 0
empty_keeps log m acts forced k shut start =
    let settled = shut_gate log m acts forced k shut in
    let nothing : k.groups ≡ [] = no_groups k.groups (omega (arith, settled.end, start)) in
    record {
      alive = k.alive;
      groups = k.groups;
      waiting = k.waiting;
      gate = inl (shut, settled);
      written = k.written;
      waits = k.waits;
      few = omega arith;
      durable = same_eq _ _ (ap images_of nothing);
      unforced = k.unforced;
    }

-- and so it does once the first gate is closed
pub reset_keeps : (old : Log) (before : DiskMoment) (acts : List (List Page)) (forced : ℕ) → (k : LogHolds old before acts forced)
    → (log : Log) (m : DiskMoment) → log.at ≡ 0 → log.stopped ≡ false → is_ajar log ≡ false → is_written log ≡ false → Waits log k.waiting → OnDisk 4096 (0 ∷ []) m → LogHolds log m (drop forced acts) 0
reset_keeps old before acts forced k log m start alive shut unwritten waits on = record {
  alive = alive;
  groups = [];
  waiting = k.waiting;
  gate = inl (shut, record { good = tt; end = start; gate = 0; closed = λ (e : 0 ≡ 1). absurd (omega arith); on_disk = on });
  written = λ w. (let both : true ≡ false = sym w ∙ unwritten in absurd cc);
  waits = waits;
  few = omega arith;
  durable = same_refl [];
  unforced = k.unforced;
}
