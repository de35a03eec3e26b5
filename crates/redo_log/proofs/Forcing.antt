-- From the parts of a force to the actions that a log keeps.
use Rattle.std.proofs.Common.{◌≡◌, inl, inr, ⊎_elim, ℕ, ◌+◌, ◌*◌, ◌<◌, ◌≤◌, List, [], ◌∷◌, ◌++◌, length, take, drop, Vec, Result, true, false, refl, sym, ◌∙◌, ap, subst, arith}
use Rattle.std.specs.declared.alloc.Global.{Global}
use Rattle.std.specs.Vec.{with_items}
use Rattle.std.proofs.lemmas.Result.{on_err_weaker, on_ok_weaker}
use Rattle.std.specs.Prelude.{OnOk, OnErr, suc}
use Rattle.redo_log.specs.Kept.{groups_end, end_with}
use Rattle.redo_log.proofs.Imports.{drop-length, with_items_is, append-nil, w32, to_le_bytes, DiskMoment, Trace, Writes, Syncs, next, wrote, synced, AtEachMoment, Has, OnDisk, ChangesOnly, steps, goes_on, goes_weaker, goes_now, writes_goes, syncs_goes}
use Rattle.redo_log.proofs.Imports.{kept, only_more, only_wider, same_only, synced_only, wrote_only, wrote_has, synced_on, Format, Page, SameImages, images_bytes, images_of, IsGroup, body, spelled_groups, LogHolds, IsAjar, IsSettled, MayBeLetIn, Restarts, RestartsThroughout, KeepsActions, ChangesItsRange, SameLog, Waits}
use Rattle.redo_log.proofs.Imports.{is_ajar, is_written, format_of, waiting_blocks, waiting_count, waiting_images, IsLaid, Log}
use Rattle.redo_log.proofs.Leaving.{lets_in, let_in, settled_after, settled_front, settled_synced, shut_out}
use Rattle.redo_log.proofs.ImageLists.{none, same_eq, same_trans, images_of-push}
use Rattle.redo_log.proofs.Laying.{none_kept}
use Rattle.redo_log.proofs.Keeping.{ajar_gate, ajar_restarts, keeps_all, none_ajar, settled_restarts, shut_gate, waiting_group}

pub whole_list : {A : Type 0} (xs : List A) → take (length xs) xs ≡ xs
whole_list [] = refl
whole_list (x ∷ xs) = ap (λ l. x ∷ l) (whole_list xs)

-- if all images that wait are laid out, the buffer has them
pub laid_all : (log : Log) (waiting : List Page) → IsLaid log → Waits log waiting → take (4096 * waiting_count log) (drop 4 log.buffer.items) ≡ images_bytes waiting
laid_all log waiting laid w =
    ap (λ (n : ℕ). take (4096 * n) (drop 4 log.buffer.items)) (sym laid)
    ∙ (log.laid_out
    ∙ (ap (λ (l : List Page). images_bytes (take log.laid l)) w.same
    ∙ (ap (λ (n : ℕ). images_bytes (take n waiting)) (laid ∙ sym w.counted) ∙ ap images_bytes (whole_list waiting))))

-- the group that was sealed in a buffer, as it is read from there
pub sealed_piece : (v : Vec ℕ Global) (given sealed read : List ℕ) (c : ℕ) (waiting : List Page) → given ≡ v.items → length sealed ≡ v.len → read ≡ (with_items v sealed).items
    → take (5 + 4096 * c) sealed ≡ to_le_bytes w32 c ++ take (4096 * c) (drop 4 given) ++ 0 ∷ [] → length waiting ≡ c → take (4096 * c) (drop 4 v.items) ≡ images_bytes waiting
    → take (5 + 4096 * c) read ≡ body waiting ++ 0 ∷ []
sealed_piece v given sealed read c waiting was long is laid counted buffered =
    ap (λ (l : List ℕ). take (5 + 4096 * c) l) (is ∙ with_items_is v sealed long)
    ∙ laid
    ∙ ap (λ (l : List ℕ). to_le_bytes w32 c ++ take (4096 * c) (drop 4 l) ++ 0 ∷ []) was
    ∙ ap (λ (l : List ℕ). to_le_bytes w32 c ++ l ++ 0 ∷ []) buffered
    ∙ ap (λ (n : ℕ). to_le_bytes w32 n ++ images_bytes waiting ++ 0 ∷ []) (sym counted)

-- the groups and what waits have the images of all actions
pub all_waiting : (log : Log) (m : DiskMoment) (acts : List (List Page)) (forced : ℕ) (k : LogHolds log m acts forced)
    → SameImages (images_of (k.groups ++ k.waiting ∷ [])) (images_of (take (length acts) acts))
all_waiting log m acts forced k =
    same_trans _ (images_of k.groups ++ k.waiting) _ (same_eq _ _ (images_of-push k.groups k.waiting))
    (same_trans (images_of k.groups ++ k.waiting) (images_of acts) _ (keeps_all log m acts forced k) (same_eq _ _ (ap images_of (sym (whole_list acts)))))

-- with no image waiting all actions are on the disk
pub all_forced : (log : Log) (m : DiskMoment) (acts : List (List Page)) (forced : ℕ) → LogHolds log m acts forced → waiting_count log ≡ 0 → LogHolds log m acts (length acts)
all_forced log m acts forced k idle =
    let no_more : k.waiting ≡ [] = none k.waiting (k.waits.counted ∙ idle) in
    record {
      alive = k.alive;
      groups = k.groups;
      waiting = k.waiting;
      gate = inl (none_ajar log idle, shut_gate log m acts forced k (none_ajar log idle));
      written = k.written;
      waits = k.waits;
      few = omega arith;
      durable = same_trans (images_of k.groups) (images_of k.groups ++ k.waiting) (images_of (take (length acts) acts))
          (same_eq _ _ (sym (ap (λ (l : List Page). images_of k.groups ++ l) no_more ∙ append-nil (images_of k.groups))))
          (same_trans (images_of k.groups ++ k.waiting) (images_of acts) (images_of (take (length acts) acts)) (keeps_all log m acts forced k) (same_eq _ _ (ap images_of (sym (whole_list acts)))));
      unforced = same_eq k.waiting _ (no_more ∙ sym (ap images_of (drop-length acts)));
    }

-- each part of a force over a log that keeps these actions; `gate` is the place of the gate after its groups
module _ (log : Log) (acts : List (List Page)) (forced : ℕ) where
  abbrev gate : ℕ
  gate = 4096 + log.at

  -- what is written after the gate
  module _ (t : Trace) (k : LogHolds log t.now acts forced) (shut : is_ajar log ≡ false) (b : List ℕ) where
    settled : IsSettled log.format 4096 log.at k.groups t.now
    settled = shut_gate log t.now acts forced k shut

    pub body_goes : {T E : Type 0} (r : Result T E) (u : Trace) → gate + 1 + length b ≤ length t.now.seen → Writes (gate + 1) b r t u
        → AtEachMoment (Restarts log.format acts forced) t u
    body_goes r u inside w = writes_goes _ (gate + 1) b r t u w (λ b' n. settled_restarts log t.now (wrote (gate + 1) b' t.now) acts forced k
        (settled_after log.format 4096 log.format.log_bytes log.at k.groups t.now settled log.room (length b') (wrote (gate + 1) b' t.now)
        (wrote_only (gate + 1) b' t.now (omega (arith, inside, n)))))

    pub body_keeps : (log' : Log) (u : Trace) → gate + 1 + length b ≤ length t.now.seen → b ≡ body k.waiting ++ 0 ∷ [] → u ≡ next (wrote (gate + 1) b t.now) t
        → log'.format ≡ log.format → log'.at ≡ log.at → log'.stopped ≡ false → log'.ajar ≡ false → Waits log' k.waiting → LogHolds log' u.now acts forced
    body_keeps log' u inside is u_is format at alive still waits =
        let there : u.now ≡ wrote (gate + 1) b t.now = ap (λ (v : Trace). v.now) u_is in
        let only : ChangesOnly (gate + 1) (length b) t.now u.now = subst (ChangesOnly (gate + 1) (length b) t.now) (sym there) (wrote_only (gate + 1) b t.now inside) in
        let stands : IsSettled log.format 4096 log.at k.groups u.now = settled_after log.format 4096 log.format.log_bytes log.at k.groups t.now settled log.room (length b) u.now only in
        let has : Has (gate + 1) b u.now.seen = subst (λ (m : DiskMoment). Has (gate + 1) b m.seen) (sym there) (wrote_has (gate + 1) b t.now inside) in
        record {
          alive = alive;
          groups = k.groups;
          waiting = k.waiting;
          gate = inl (still, subst (λ (l : Format). IsSettled l 4096 log'.at k.groups u.now) (sym format) (subst (λ (n : ℕ). IsSettled log.format 4096 n k.groups u.now) (sym at) stands));
          written = λ w. subst (λ (n : ℕ). Has (4096 + n + 1) (body k.waiting ++ 0 ∷ []) u.now.seen) (sym at) (subst (λ (l : List ℕ). Has (gate + 1) l u.now.seen) is has);
          waits = waits;
          few = k.few;
          durable = k.durable;
          unforced = k.unforced;
        }

  -- the group that was written is synced
  module _ (t u : Trace) (k : LogHolds log t.now acts forced) (shut : is_ajar log ≡ false) (written : is_written log ≡ true) where
    before : IsSettled log.format 4096 log.at k.groups t.now
    before = shut_gate log t.now acts forced k shut

    pub sync_goes : {T E : Type 0} (r : Result T E) → Syncs r t u → AtEachMoment (Restarts log.format acts forced) t u
    sync_goes r s = syncs_goes _ r t u s (settled_restarts log t.now (synced t.now) acts forced k
        (settled_synced log.format 4096 log.format.log_bytes log.at k.groups t.now before log.room))

    module _ (is : u ≡ next (synced t.now) t) where
      now_is : u.now ≡ synced t.now
      now_is = ap (λ (v : Trace). v.now) is

      synced_front : OnDisk 4096 (spelled_groups k.groups) u.now
      synced_front = subst (OnDisk 4096 (spelled_groups k.groups)) (sym now_is)
          (settled_front log.format 4096 log.format.log_bytes log.at k.groups (synced t.now)
          (settled_synced log.format 4096 log.format.log_bytes log.at k.groups t.now before log.room) log.room)

      synced_body : OnDisk (gate + 1) (body k.waiting ++ 0 ∷ []) u.now
      synced_body = subst (OnDisk (gate + 1) (body k.waiting ++ 0 ∷ [])) (sym now_is) (synced_on (gate + 1) (body k.waiting ++ 0 ∷ []) t.now (k.written written))

      some : 0 < waiting_count log
      some = log.some_written written

      group : IsGroup log.format k.waiting
      group = waiting_group log t.now acts forced k some

      enough : log.at + (6 + 4096 * length k.waiting) ≤ log.format.log_bytes
      enough = omega (arith, k.waits.counted, log.fits some)

      -- the images after the gate and before it are those of all actions
      all_there : SameImages (images_of (k.groups ++ k.waiting ∷ [])) (images_of (take (length acts) acts))
      all_there = all_waiting log t.now acts forced k

      inside : gate + 1 ≤ length u.now.seen
      inside = omega (arith, synced_body.has.within)

      -- the gate is opened
      module _ (g : List ℕ) (one : length g ≡ 1) where
        gate_only : ChangesOnly gate 1 u.now (wrote gate g u.now)
        gate_only = subst (λ (n : ℕ). ChangesOnly gate n u.now (wrote gate g u.now)) one (wrote_only gate g u.now (omega (arith, inside, one)))

        gate_ajar : IsAjar log.format 4096 log.at k.groups k.waiting (wrote gate g u.now)
        gate_ajar = record {
          good = before.good;
          one = group;
          room = enough;
          end = before.end;
          front = kept gate 1 4096 (spelled_groups k.groups) u.now (wrote gate g u.now) gate_only (inl (omega (arith, before.end))) synced_front;
          after = kept gate 1 (gate + 1) (body k.waiting ++ 0 ∷ []) u.now (wrote gate g u.now) gate_only (inr (omega arith)) synced_body;
        }

      pub open_goes : {T E : Type 0} (r : Result T E) (v : Trace) → Writes gate (1 ∷ []) r u v → AtEachMoment (Restarts log.format acts forced) t v
      open_goes r v w = goes_on _ t u v
          (steps _ t u (synced t.now) is (settled_restarts log t.now (synced t.now) acts forced k
          (settled_synced log.format 4096 log.format.log_bytes log.at k.groups t.now before log.room)))
          (writes_goes _ gate (1 ∷ []) r u v w (λ b n image left. ⊎_elim
          (λ s. record { part = forced; from = omega arith; to = k.few; holds = record { groups = k.groups; spells = s; same = k.durable } })
          (λ s. record { part = length acts; from = k.few; to = omega arith; holds = record { groups = k.groups ++ k.waiting ∷ []; spells = s; same = all_there } })
          (lets_in log.format 4096 log.format.log_bytes log.at k.groups before.good before.end k.waiting group enough (wrote gate b u.now)
          (gate_ajar b n).front (gate_ajar b n).after image left)))

      pub open_keeps : (log' : Log) (v : Trace) → v ≡ next (wrote gate (1 ∷ []) u.now) u
          → log'.format ≡ log.format → log'.at ≡ log.at → log'.stopped ≡ false → log'.ajar ≡ true → Waits log' k.waiting → LogHolds log' v.now acts forced
      open_keeps log' v v_is format at alive ajar waits =
          let there : v.now ≡ wrote gate (1 ∷ []) u.now = ap (λ (x : Trace). x.now) v_is in
          let stands : IsAjar log.format 4096 log.at k.groups k.waiting v.now = subst (IsAjar log.format 4096 log.at k.groups k.waiting) (sym there) (gate_ajar (1 ∷ []) refl) in
          let opened : Has gate (1 ∷ []) v.now.seen = subst (λ (m : DiskMoment). Has gate (1 ∷ []) m.seen) (sym there) (wrote_has gate (1 ∷ []) u.now inside) in
          record {
            alive = alive;
            groups = k.groups;
            waiting = k.waiting;
            gate = inr (
              ajar,
              record {
                group = k.waiting;
                ajar = subst (λ (l : Format). IsAjar l 4096 log'.at k.groups k.waiting v.now) (sym format) (subst (λ (n : ℕ). IsAjar log.format 4096 n k.groups k.waiting v.now) (sym at) stands);
                part = length acts;
                from = k.few;
                to = omega arith;
                same = all_there;
                whole = λ w. (refl, subst (λ (n : ℕ). Has (4096 + n) (1 ∷ []) v.now.seen) (sym at) opened);
              },
            );
            written = λ w. subst (λ (n : ℕ). Has (4096 + n + 1) (body k.waiting ++ 0 ∷ []) v.now.seen) (sym at) stands.after.has;
            waits = waits;
            few = k.few;
            durable = k.durable;
            unforced = k.unforced;
          }

  -- the gate that may be open is synced, or closed
  module _ (t : Trace) (k : LogHolds log t.now acts forced) (ajar : is_ajar log ≡ true) where
    may : MayBeLetIn log t.now acts forced k.groups k.waiting
    may = ajar_gate log t.now acts forced k ajar

    abbrev piece : List ℕ
    piece = body may.group ++ 0 ∷ []

    pub settle_goes : {T E : Type 0} (r : Result T E) (u : Trace) → Syncs r t u → AtEachMoment (Restarts log.format acts forced) t u
    settle_goes r u s = syncs_goes _ r t u s (ajar_restarts log t.now (synced t.now) acts forced k may
        (synced_on 4096 (spelled_groups k.groups) t.now may.ajar.front.has) (synced_on (gate + 1) piece t.now may.ajar.after.has))

    pub settle_keeps : (log' : Log) (u : Trace) → is_written log ≡ true → u ≡ next (synced t.now) t
        → log'.format ≡ log.format → log'.at ≡ log.at + (5 + 4096 * waiting_count log) → waiting_blocks log' ≡ [] → log'.stopped ≡ false → log'.ajar ≡ false → log'.written ≡ false
        → LogHolds log' u.now acts (length acts)
    settle_keeps log' u written u_is format at none_waits alive shut unwritten =
        let there : u.now ≡ synced t.now = ap (λ (v : Trace). v.now) u_is in
        let all = may.whole written in
        let long : length may.group ≡ waiting_count log = ap length all.0 ∙ k.waits.counted in
        let end : log.at + (5 + 4096 * length may.group) ≡ log'.at = omega (arith, at, long) in
        let is_let_in : IsSettled log.format 4096 (log.at + (5 + 4096 * length may.group)) (k.groups ++ may.group ∷ []) (synced t.now) =
        let_in log.format 4096 log.format.log_bytes log.at k.groups may.ajar.good may.ajar.end may.group may.ajar.one may.ajar.room (synced t.now)
        (synced_on 4096 (spelled_groups k.groups) t.now may.ajar.front.has) (synced_on gate (1 ∷ []) t.now all.1) (synced_on (gate + 1) piece t.now may.ajar.after.has) in
        record {
          alive = alive;
          groups = k.groups ++ may.group ∷ [];
          waiting = [];
          gate = inl (
            shut,
            subst (λ (l : Format). IsSettled l 4096 log'.at (k.groups ++ may.group ∷ []) u.now) (sym format)
                (subst (λ (n : ℕ). IsSettled log.format 4096 n (k.groups ++ may.group ∷ []) u.now) end
                (subst (IsSettled log.format 4096 (log.at + (5 + 4096 * length may.group)) (k.groups ++ may.group ∷ [])) (sym there) is_let_in)),
          );
          written = λ w. (let both : true ≡ false = sym w ∙ unwritten in absurd cc);
          waits = none_kept log'.format (waiting_blocks log') (waiting_images log') log'.named none_waits;
          few = omega arith;
          durable = subst (λ (g : List Page). SameImages (images_of (k.groups ++ g ∷ [])) (images_of (take (length acts) acts))) (sym all.0) (all_waiting log t.now acts forced k);
          unforced = same_eq [] _ (sym (ap images_of (drop-length acts)));
        }

    -- while only the gate changes
    still_front : (n : DiskMoment) → ChangesOnly gate 1 t.now n → OnDisk 4096 (spelled_groups k.groups) n
    still_front n only = kept gate 1 4096 (spelled_groups k.groups) t.now n only (inl (omega (arith, may.ajar.end))) may.ajar.front

    still_body : (n : DiskMoment) → ChangesOnly gate 1 t.now n → OnDisk (gate + 1) piece n
    still_body n only = kept gate 1 (gate + 1) piece t.now n only (inr (omega arith)) may.ajar.after

    pub shut_goes : (u : Trace) → AtEachMoment (ChangesOnly gate 1 t.now) t u → AtEachMoment (Restarts log.format acts forced) t u
    shut_goes u gone = goes_weaker _ _ t u (λ n only. ajar_restarts log t.now n acts forced k may (still_front n only) (still_body n only)) gone

    pub shut_keeps : (log' : Log) (u : Trace) → AtEachMoment (ChangesOnly gate 1 t.now) t u → OnDisk gate (0 ∷ []) u.now
        → log'.format ≡ log.format → log'.at ≡ log.at → log'.stopped ≡ false → log'.ajar ≡ false → log'.written ≡ false → Waits log' k.waiting → LogHolds log' u.now acts forced
    shut_keeps log' u gone closed format at alive shut unwritten waits =
        let only : ChangesOnly gate 1 t.now u.now = goes_now _ t u gone (same_only gate 1 t.now) in
        let stands : IsSettled log.format 4096 log.at k.groups u.now =
        shut_out log.format 4096 log.format.log_bytes log.at k.groups may.ajar.good may.ajar.end may.group may.ajar.one may.ajar.room u.now (still_front u.now only) closed in
        record {
          alive = alive;
          groups = k.groups;
          waiting = k.waiting;
          gate = inl (shut, subst (λ (l : Format). IsSettled l 4096 log'.at k.groups u.now) (sym format) (subst (λ (n : ℕ). IsSettled log.format 4096 n k.groups u.now) (sym at) stands));
          written = λ w. (let both : true ≡ false = sym w ∙ unwritten in absurd cc);
          waits = waits;
          few = k.few;
          durable = k.durable;
          unforced = k.unforced;
        }

-- what changes one part of the log's range changes that range alone
pub range_only : (log : Log) (at n : ℕ) (old new : Trace) → 4096 ≤ at → at + n ≤ 4096 + log.format.log_bytes → AtEachMoment (ChangesOnly at n old.now) old new
    → AtEachMoment (ChangesOnly 4096 log.format.log_bytes old.now) old new
range_only log at n old new low high gone = goes_weaker _ _ old new (λ m only. only_wider at n 4096 log.format.log_bytes old.now m low high only) gone

-- a sync changes no byte
pub sync_outside : (log : Log) (t u : Trace) {T E : Type 0} (r : Result T E) → Syncs r t u → AtEachMoment (ChangesOnly 4096 log.format.log_bytes t.now) t u
sync_outside log t u r s = syncs_goes _ r t u s (synced_only 4096 log.format.log_bytes t.now)

-- nor does the opening of a gate change more than the log's range
pub gate_outside : (log : Log) (t u : Trace) → 4096 + log.format.log_bytes ≤ length t.now.seen → u ≡ next (synced t.now) t
    → {T E : Type 0} (r : Result T E) (v : Trace) → Writes (4096 + log.at) (1 ∷ []) r u v → AtEachMoment (ChangesOnly 4096 log.format.log_bytes t.now) t v
gate_outside log t u inside is r v w =
    let there : u.now ≡ synced t.now = ap (λ (x : Trace). x.now) is in
    let first : ChangesOnly 4096 log.format.log_bytes t.now u.now = subst (ChangesOnly 4096 log.format.log_bytes t.now) (sym there) (synced_only 4096 log.format.log_bytes t.now) in
    goes_on _ t u v (steps _ t u (synced t.now) is (synced_only 4096 log.format.log_bytes t.now))
    (writes_goes _ (4096 + log.at) (1 ∷ []) r u v w (λ b n. only_more 4096 log.format.log_bytes t.now u.now (wrote (4096 + log.at) b u.now) first
    (only_wider (4096 + log.at) (length b) 4096 log.format.log_bytes u.now (wrote (4096 + log.at) b u.now) (omega arith) (omega (arith, n, log.room))
    (wrote_only (4096 + log.at) b u.now (omega (arith, n, log.room, inside, first.same_length))))))

-- nor does what is written after the gate
pub body_outside : (log : Log) (t : Trace) (b : List ℕ) → 4096 + log.format.log_bytes ≤ length t.now.seen → 0 < waiting_count log → length b ≡ 5 + 4096 * waiting_count log
    → {T E : Type 0} (r : Result T E) (u : Trace) → Writes (4096 + log.at + 1) b r t u → AtEachMoment (ChangesOnly 4096 log.format.log_bytes t.now) t u
body_outside log t b inside some long r u w =
    let fits = log.fits some in
    writes_goes _ (4096 + log.at + 1) b r t u w (λ b' n. only_wider (4096 + log.at + 1) (length b') 4096 log.format.log_bytes t.now (wrote (4096 + log.at + 1) b' t.now)
    (omega arith) (omega (arith, n, long, fits)) (wrote_only (4096 + log.at + 1) b' t.now (omega (arith, n, long, fits, inside))))

-- a part of a force after another
module _ (old mid : Log) (t u v : Trace) (same : SameLog old mid) where
  pub then_moments : RestartsThroughout old t u → KeepsActions old t.now mid u.now → RestartsThroughout mid u v → RestartsThroughout old t v
  then_moments first keeps second acts forced k = goes_on _ t u v (first acts forced k)
      (subst (λ (l : Format). AtEachMoment (Restarts l acts forced) u v) same.format (second acts forced (keeps acts forced k)))

  pub then_outside : ChangesItsRange (format_of old) t u → ChangesItsRange (format_of mid) u v → ChangesItsRange (format_of old) t v
  then_outside first second =
      let size = (format_of old).log_bytes in
      let before : ChangesOnly 4096 size t.now u.now = goes_now _ t u first (same_only 4096 size t.now) in
      goes_on _ t u v first (goes_weaker _ _ u v (λ m only. only_more 4096 size t.now u.now m before only)
      (subst (λ (l : Format). ChangesItsRange l u v) same.format second))

-- parts of a force that leave the end and what waits leave the place where the group that waits would end
module _ {T E : Type 0} (old mid new : Log) (r : Result T E) (end : groups_end mid ≡ groups_end old) (blocks : waiting_blocks mid ≡ waiting_blocks old) where
  end_stays : (n : ℕ) → end_with mid n ≡ end_with old n
  end_stays n = omega (arith, end, ap length blocks)

  pub ends_alike : OnErr r ((n : ℕ) → end_with new n ≡ end_with mid n) → OnErr r ((n : ℕ) → end_with new n ≡ end_with old n)
  ends_alike told = on_err_weaker r (λ f n. f n ∙ end_stays n) told

  pub ends_below : OnOk r ((n : ℕ) → end_with new n ≤ end_with mid (suc n)) → OnOk r ((n : ℕ) → end_with new n ≤ end_with old (suc n))
  ends_below told = on_ok_weaker r (λ f n. omega (arith, f n, end_stays (suc n))) told
