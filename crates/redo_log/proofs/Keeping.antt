-- What a log keeps stays so, whatever is written outside its range; and a crash leaves it.
use Rattle.std.proofs.Common.{◌≡◌, ◌⊎◌, inl, inr, ⊎_elim, ℕ, ◌+◌, ◌*◌, ◌<◌, ◌≤◌, Bool, true, false, List, [], ◌∷◌, ◌++◌, length, take, drop, refl, sym, ◌∙◌, ap, subst, arith, length-append}
use Rattle.device.specs.Places.{IsUntouched}
use Rattle.redo_log.proofs.Imports.{take-append-drop, DiskMoment, Has, OnDisk, ChangesOnly, untouched_on, elsewhere_untouched, Page, body, spelled_groups, IsGroup, SameImages, images_of, IsAjar, IsSettled, LogHolds, MayBeLetIn, Restarts, ForgetsForced}
use Rattle.redo_log.proofs.Imports.{RangeIsUntouched, AreOfBlocks, WaitsAlike, format_of, is_ajar, is_written, waiting_count, waiting_blocks, waiting_images, Log}
use Rattle.redo_log.proofs.ImageLists.{none, same_append, same_after, same_trans, same_eq, images_of-append}
use Rattle.redo_log.proofs.Leaving.{length_body, length_piece, lets_in, settled_leaves}

-- the groups on the disk, and after them what waits, have the last images of all actions
pub keeps_all : (log : Log) (m : DiskMoment) (acts : List (List Page)) (forced : ℕ) → (k : LogHolds log m acts forced) → SameImages (images_of k.groups ++ k.waiting) (images_of acts)
keeps_all log m acts forced k =
    same_trans _ (images_of (take forced acts) ++ k.waiting) _ (same_append (images_of k.groups) (images_of (take forced acts)) k.waiting k.durable)
    (same_trans _ (images_of (take forced acts) ++ images_of (drop forced acts)) _ (same_after (images_of (take forced acts)) k.waiting _ k.unforced)
    (same_eq _ _ (sym (images_of-append (take forced acts) (drop forced acts)) ∙ ap images_of (take-append-drop forced acts))))

-- no gate is ajar if nothing waits
pub none_ajar : (log : Log) → waiting_count log ≡ 0 → is_ajar log ≡ false
none_ajar log idle = by (is_ajar log) refl
  where
    by : (b : Bool) → is_ajar log ≡ b → b ≡ false
    by false at = refl
    by true at = absurd (omega (arith, idle, log.some_ajar at))

-- a gate that isn't ajar is closed
pub shut_gate : (log : Log) (m : DiskMoment) (acts : List (List Page)) (forced : ℕ) (k : LogHolds log m acts forced) → is_ajar log ≡ false
    → IsSettled log.format 4096 log.at k.groups m
shut_gate log m acts forced k shut = by k.gate
  where
    by : ((is_ajar log ≡ false) × IsSettled log.format 4096 log.at k.groups m) ⊎ ((is_ajar log ≡ true) × MayBeLetIn log m acts forced k.groups k.waiting)
        → IsSettled log.format 4096 log.at k.groups m
    by (inl settled) = settled.1
    by (inr may) = (let both : true ≡ false = sym may.0 ∙ shut in absurd cc)

-- one that is ajar may let a group in
pub ajar_gate : (log : Log) (m : DiskMoment) (acts : List (List Page)) (forced : ℕ) (k : LogHolds log m acts forced) → is_ajar log ≡ true
    → MayBeLetIn log m acts forced k.groups k.waiting
ajar_gate log m acts forced k ajar = by k.gate
  where
    by : ((is_ajar log ≡ false) × IsSettled log.format 4096 log.at k.groups m) ⊎ ((is_ajar log ≡ true) × MayBeLetIn log m acts forced k.groups k.waiting)
        → MayBeLetIn log m acts forced k.groups k.waiting
    by (inl settled) = (let both : true ≡ false = sym ajar ∙ settled.0 in absurd cc)
    by (inr may) = may.1

-- what waits is a group
pub waiting_group : (log : Log) (m : DiskMoment) (acts : List (List Page)) (forced : ℕ) (k : LogHolds log m acts forced) → 0 < waiting_count log → IsGroup log.format k.waiting
waiting_group log m acts forced k some = record { some = omega (arith, k.waits.counted); few = omega (arith, k.waits.counted, log.fits some, log.most); images = k.waits.images }

pub length_waiting : (log : Log) (m : DiskMoment) (acts : List (List Page)) (forced : ℕ) (k : LogHolds log m acts forced) → 0 < waiting_count log
    → length (body k.waiting ++ 0 ∷ []) ≡ 5 + 4096 * waiting_count log
length_waiting log m acts forced k some =
    omega (arith, length-append (body k.waiting) (0 ∷ []), length_body log.format k.waiting (waiting_group log m acts forced k some), k.waits.counted)

-- if none is forced and none waits, the log keeps nothing
pub keeps_none : (log : Log) (m : DiskMoment) (acts : List (List Page)) → LogHolds log m acts 0 → waiting_count log ≡ 0 → LogHolds log m [] 0
keeps_none log m acts k idle = record {
  alive = k.alive;
  groups = k.groups;
  waiting = k.waiting;
  gate = inl (none_ajar log idle, shut_gate log m acts 0 k (none_ajar log idle));
  written = k.written;
  waits = k.waits;
  few = omega arith;
  durable = k.durable;
  unforced = same_eq k.waiting [] (none k.waiting (k.waits.counted ∙ idle));
}

-- with nothing waiting, a log that was closed keeps nothing
pub forgets_all : (old : Log) (before : DiskMoment) (new : Log) (after : DiskMoment) → ForgetsForced old before new after → waiting_count new ≡ waiting_count old → waiting_count old ≡ 0
    → (acts : List (List Page)) (forced : ℕ) → LogHolds old before acts forced → LogHolds new after [] 0
forgets_all old before new after forgets same idle acts forced k = keeps_none new after (drop forced acts) (forgets acts forced k) (same ∙ idle)

-- if a group may be let in, a crash leaves the actions without it, or with it
pub ajar_restarts : (log : Log) (m n : DiskMoment) (acts : List (List Page)) (forced : ℕ) (k : LogHolds log m acts forced) (a : MayBeLetIn log m acts forced k.groups k.waiting)
    → OnDisk 4096 (spelled_groups k.groups) n → OnDisk (4096 + log.at + 1) (body a.group ++ 0 ∷ []) n → Restarts (format_of log) acts forced n
ajar_restarts log m n acts forced k a front after image left = ⊎_elim
    (λ s. record { part = forced; from = omega arith; to = k.few; holds = record { groups = k.groups; spells = s; same = k.durable } })
    (λ s. record { part = a.part; from = a.from; to = a.to; holds = record { groups = k.groups ++ a.group ∷ []; spells = s; same = a.same } })
    (lets_in log.format 4096 log.format.log_bytes log.at k.groups a.ajar.good a.ajar.end a.group a.ajar.one a.ajar.room n front after image left)

-- if its groups stand before a closed gate, a crash leaves those that are forced
pub settled_restarts : (log : Log) (m n : DiskMoment) (acts : List (List Page)) (forced : ℕ) (k : LogHolds log m acts forced)
    → IsSettled log.format 4096 log.at k.groups n → Restarts (format_of log) acts forced n
settled_restarts log m n acts forced k s image left = record {
  part = forced;
  from = omega arith;
  to = k.few;
  holds = record {
    groups = k.groups;
    spells = settled_leaves log.format 4096 log.format.log_bytes log.at k.groups n s log.room image left;
    same = k.durable;
  };
}

-- what a log keeps, a crash leaves
pub keeps_restarts : (log : Log) (m : DiskMoment) (acts : List (List Page)) (forced : ℕ) → LogHolds log m acts forced → Restarts (format_of log) acts forced m
keeps_restarts log m acts forced k = by k.gate
  where
    by : ((is_ajar log ≡ false) × IsSettled log.format 4096 log.at k.groups m) ⊎ ((is_ajar log ≡ true) × MayBeLetIn log m acts forced k.groups k.waiting)
        → Restarts (format_of log) acts forced m
    by (inl shut) = settled_restarts log m m acts forced k shut.1
    by (inr may) = ajar_restarts log m m acts forced k may.1 may.1.ajar.front may.1.ajar.after

-- what happens outside of a range leaves what is read there
untouched_has : (start size at : ℕ) (q : List ℕ) (a b : DiskMoment) → IsUntouched start size a b → start ≤ at → at + length q ≤ start + size → Has at q a.seen → Has at q b.seen
untouched_has start size at q a b f lo hi h = record {
  within = omega (arith, h.within, f.same_length);
  each = λ i lt. f.seen (at + i) (omega arith) (omega arith) ∙ h.each i lt;
}

module _ (log : Log) (old new : DiskMoment) (untouched : RangeIsUntouched (format_of log) old new) where
  settled_untouched : (groups : List (List Page)) → IsSettled log.format 4096 log.at groups old → IsSettled log.format 4096 log.at groups new
  settled_untouched groups s = record {
    good = s.good;
    end = s.end;
    gate = s.gate;
    closed = s.closed;
    on_disk = untouched_on 4096 log.format.log_bytes 4096 (spelled_groups groups ++ s.gate ∷ []) old new untouched (omega arith)
        (omega (arith, length-append (spelled_groups groups) (s.gate ∷ []), s.end, log.room)) s.on_disk;
  }

  ajar_untouched : (groups : List (List Page)) (group : List Page) → IsAjar log.format 4096 log.at groups group old → IsAjar log.format 4096 log.at groups group new
  ajar_untouched groups group a = record {
    good = a.good;
    one = a.one;
    room = a.room;
    end = a.end;
    front = untouched_on 4096 log.format.log_bytes 4096 (spelled_groups groups) old new untouched (omega arith) (omega (arith, a.end, log.room)) a.front;
    after = untouched_on 4096 log.format.log_bytes (4096 + log.at + 1) (body group ++ 0 ∷ []) old new untouched (omega arith)
        (omega (arith, length_piece log.format 4096 log.format.log_bytes log.at groups a.good a.end group a.one a.room, a.room)) a.after;
  }

  module _ (acts : List (List Page)) (forced : ℕ) (k : LogHolds log old acts forced) where
    may_untouched : MayBeLetIn log old acts forced k.groups k.waiting → MayBeLetIn log new acts forced k.groups k.waiting
    may_untouched a = record {
      group = a.group;
      ajar = ajar_untouched k.groups a.group a.ajar;
      part = a.part;
      from = a.from;
      to = a.to;
      same = a.same;
      whole = λ w. ((a.whole w).0, untouched_has 4096 log.format.log_bytes (4096 + log.at) (1 ∷ []) old new untouched (omega arith) (omega (arith, log.room)) (a.whole w).1);
    }

    written_untouched : is_written log ≡ true → Has (4096 + log.at + 1) (body k.waiting ++ 0 ∷ []) new.seen
    written_untouched w = untouched_has 4096 log.format.log_bytes (4096 + log.at + 1) (body k.waiting ++ 0 ∷ []) old new untouched (omega arith)
        (omega (arith, length_waiting log old acts forced k (log.some_written w), log.fits (log.some_written w))) (k.written w)

    -- what happens outside the log's range leaves what the log keeps
    pub keeps_on : LogHolds log new acts forced
    keeps_on = record {
      alive = k.alive;
      groups = k.groups;
      waiting = k.waiting;
      gate = ⊎_elim (λ shut. inl (shut.0, settled_untouched k.groups shut.1)) (λ may. inr (may.0, may_untouched may.1)) k.gate;
      written = written_untouched;
      waits = k.waits;
      few = k.few;
      durable = k.durable;
      unforced = k.unforced;
    }

-- how much is laid out for a force is nothing to what a log keeps
pub keeps_laid : (old new : Log) → WaitsAlike old new → (m : DiskMoment) (acts : List (List Page)) (forced : ℕ) → LogHolds old m acts forced → LogHolds new m acts forced
keeps_laid old new w m acts forced k = record {
  alive = w.stopped ∙ k.alive;
  groups = k.groups;
  waiting = k.waiting;
  gate = ⊎_elim
      (λ shut. inl (w.ajar ∙ shut.0, subst (λ l. IsSettled l 4096 new.at k.groups m) (sym w.same.format) (subst (λ a. IsSettled old.format 4096 a k.groups m) (sym w.end) shut.1)))
      (λ may. inr (w.ajar ∙ may.0, still_let_in may.1)) k.gate;
  written = λ is. subst (λ (n : ℕ). Has (4096 + n + 1) (body k.waiting ++ 0 ∷ []) m.seen) (sym w.end) (k.written (sym w.written ∙ is));
  waits = subst (λ l. AreOfBlocks l (waiting_blocks new) (waiting_images new) k.waiting) (sym w.same.format)
      (subst (λ (l : List ℕ). AreOfBlocks old.format l (waiting_images new) k.waiting) (sym w.blocks)
      (subst (λ (l : List Page). AreOfBlocks old.format (waiting_blocks old) l k.waiting) (sym w.images) k.waits));
  few = k.few;
  durable = k.durable;
  unforced = k.unforced;
}
  where
    still_let_in : MayBeLetIn old m acts forced k.groups k.waiting → MayBeLetIn new m acts forced k.groups k.waiting
    still_let_in a = record {
      group = a.group;
      ajar = subst (λ l. IsAjar l 4096 new.at k.groups a.group m) (sym w.same.format) (subst (λ n. IsAjar old.format 4096 n k.groups a.group m) (sym w.end) a.ajar);
      part = a.part;
      from = a.from;
      to = a.to;
      same = a.same;
      whole = λ is. (let all = a.whole (sym w.written ∙ is) in (all.0, subst (λ (n : ℕ). Has (4096 + n) (1 ∷ []) m.seen) (sym w.end) all.1));
    }

pub keeps_untouched : (log : Log) (old new : DiskMoment) (acts : List (List Page)) (forced : ℕ) → RangeIsUntouched (format_of log) old new → LogHolds log old acts forced → LogHolds log new acts forced
keeps_untouched log old new acts forced untouched k = keeps_on log old new untouched acts forced k

-- a change outside the log's range leaves what the log keeps
pub keeps_elsewhere : (log : Log) (at n : ℕ) (old new : DiskMoment) (acts : List (List Page)) (forced : ℕ) → ChangesOnly at n old new → (4096 + log.format.log_bytes ≤ at) ⊎ (at + n ≤ 4096)
    → LogHolds log old acts forced → LogHolds log new acts forced
keeps_elsewhere log at n old new acts forced only apart k =
    keeps_untouched log old new acts forced (elsewhere_untouched at n 4096 log.format.log_bytes old new only apart) k
