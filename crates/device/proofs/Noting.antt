-- One call more is recorded, and what the record says of crash images.
use Rattle.std.proofs.Common.{◌≡◌, ◌⊎◌, inl, inr, ℕ, zero, suc, ◌+◌, ◌^◌, ◌<◌, ◌≤◌, Bool, true, false, ◌&&◌, ◌||◌, IsTrue, List, [], ◌∷◌, ◌++◌, length, get_or, take, drop, refl, sym, ◌∙◌, ap, subst, arith, rules}
use Rattle.std.proofs.lemmas.Bool.{false≢true, cases_lt}
use Rattle.std.proofs.lemmas.List.{places}
use Rattle.std.proofs.lemmas.Grind.{common_steps}
use Rattle.std.proofs.lemmas.Bool.Decides.{nat_tests}
use Rattle.std.specs.Prelude.{nat_le, if◌then◌else◌, ◌==◌}
use Rattle.device.specs.Disk.{DiskMoment, Trace, next, first, wrote, synced, put, is_in, MayCrashTo}
use Rattle.device.specs.Record.{DeviceCall, Write, Sync, did, done, is_inside, are_inside, written_over, torn, torn_over, synced_calls, synced_over, torn_after_sync}
use Rattle.device.specs.Memory.{trace_of, left_by}
use Rattle.device.specs.declared.memory.MemDevice.{MemDevice}
use Rattle.device.specs.declared.memory.CrashImage.{CrashImage}
use Rattle.device.specs.declared.memory.CrashImage.TheVariants.{Drop, Keep, Tear}
use Rattle.device.proofs.Standing.{seen_stays, length-put, put_outside}

done-push : (t : Trace) (calls : List DeviceCall) (call : DeviceCall) → done t (calls ++ call ∷ []) ≡ did call (done t calls)
done-push t [] call = refl
done-push t (c ∷ calls) call = done-push (did c t) calls call

inside-push : (n : ℕ) (calls : List DeviceCall) (call : DeviceCall) → are_inside n calls ≡ true → is_inside n call ≡ true → are_inside n (calls ++ call ∷ []) ≡ true
inside-push n [] call all one = ap (λ (b : Bool). b && true) one
inside-push n (c ∷ calls) call all one = go (is_inside n c) all (λ h. inside-push n calls call h one)
  where
    go : (b : Bool) → (b && are_inside n calls) ≡ true → (are_inside n calls ≡ true → are_inside n (calls ++ call ∷ []) ≡ true) → (b && are_inside n (calls ++ call ∷ [])) ≡ true
    go true h f = f h
    go false h f = cc

pub write_trace : (t : Trace) (calls : List DeviceCall) (at : ℕ) (piece : List ℕ) → done t (calls ++ Write at piece ∷ []) ≡ next (wrote at piece (done t calls).now) (done t calls)
write_trace t calls at piece = done-push t calls (Write at piece)

pub sync_trace : (t : Trace) (calls : List DeviceCall) → done t (calls ++ Sync ∷ []) ≡ next (synced (done t calls).now) (done t calls)
sync_trace t calls = done-push t calls Sync

some_more : (n : ℕ) → (if suc n == 0 then 0 else suc (suc n)) ≡ suc (suc n)
some_more n = grind (arith, nat_tests)

-- a write moves the last sync not, and a sync is the last one
write_syncs_none : (calls : List DeviceCall) (at : ℕ) (piece : List ℕ) → synced_calls (calls ++ Write at piece ∷ []) ≡ synced_calls calls
write_syncs_none [] at piece = refl
write_syncs_none (Write a p ∷ calls) at piece = ap (λ (n : ℕ). if n == 0 then 0 else suc n) (write_syncs_none calls at piece)
write_syncs_none (Sync ∷ calls) at piece = ap suc (write_syncs_none calls at piece)

sync_is_last : (calls : List DeviceCall) → synced_calls (calls ++ Sync ∷ []) ≡ suc (length calls)
sync_is_last [] = refl
sync_is_last (Write a p ∷ calls) = ap (λ (n : ℕ). if n == 0 then 0 else suc n) (sync_is_last calls) ∙ some_more (length calls)
sync_is_last (Sync ∷ calls) = ap suc (sync_is_last calls)

synced_within : (calls : List DeviceCall) → synced_calls calls ≤ length calls
synced_within [] = omega arith
synced_within (Write a p ∷ calls) = by (synced_calls calls) (synced_within calls)
  where
    by : (n : ℕ) → n ≤ length calls → (if n == 0 then 0 else suc n) ≤ suc (length calls)
    by zero h = omega arith
    by (suc n) h = omega (arith, h, some_more n)
synced_within (Sync ∷ calls) = (let h = synced_within calls in omega (arith, h))

take_push : (k : ℕ) (calls : List DeviceCall) (call : DeviceCall) → k ≤ length calls → take k (calls ++ call ∷ []) ≡ take k calls
take_push zero calls call le = refl
take_push (suc k) [] call le = absurd (omega (arith, le))
take_push (suc k) (c ∷ calls) call le = ap (λ (l : List DeviceCall). c ∷ l) (take_push k calls call (omega (arith, le)))

drop_push : (k : ℕ) (calls : List DeviceCall) (call : DeviceCall) → k ≤ length calls → drop k (calls ++ call ∷ []) ≡ drop k calls ++ call ∷ []
drop_push zero calls call le = refl
drop_push (suc k) [] call le = absurd (omega (arith, le))
drop_push (suc k) (c ∷ calls) call le = drop_push k calls call (omega (arith, le))

take_whole : (calls : List DeviceCall) (call : DeviceCall) → take (suc (length calls)) (calls ++ call ∷ []) ≡ calls ++ call ∷ []
take_whole [] call = refl
take_whole (c ∷ calls) call = ap (λ (l : List DeviceCall). c ∷ l) (take_whole calls call)

drop_whole : (calls : List DeviceCall) (call : DeviceCall) → drop (suc (length calls)) (calls ++ call ∷ []) ≡ []
drop_whole [] call = refl
drop_whole (c ∷ calls) call = drop_whole calls call

written_sync : (bytes : List ℕ) (calls : List DeviceCall) → written_over bytes (calls ++ Sync ∷ []) ≡ written_over bytes calls
written_sync bytes [] = refl
written_sync bytes (Write at piece ∷ calls) = written_sync (put bytes at piece) calls
written_sync bytes (Sync ∷ calls) = written_sync bytes calls

written_parts : (k : ℕ) (bytes : List ℕ) (calls : List DeviceCall) → written_over bytes calls ≡ written_over (written_over bytes (take k calls)) (drop k calls)
written_parts zero bytes calls = refl
written_parts (suc k) bytes [] = refl
written_parts (suc k) bytes (Write at piece ∷ calls) = written_parts k (put bytes at piece) calls
written_parts (suc k) bytes (Sync ∷ calls) = written_parts k bytes calls

-- what a device in memory keeps: its bytes are those of the calls, which lie inside of as many; those at the
-- last sync, and the writes since
abbrev pub AreDone : List ℕ → List DeviceCall → List ℕ → List ℕ → List DeviceCall → Type 0
AreDone start calls firm bytes since = record {
  replayed : bytes ≡ (done (first start) calls).now.seen;
  inside : IsTrue (are_inside (length start) calls);
  sized : length bytes ≡ length start;
  small : length (done (first start) calls).now.seen < 2 ^ 63;
  firm_is : firm ≡ synced_over start calls;
  since_is : since ≡ drop (synced_calls calls) calls;
}

-- also when a write was noted and done
pub written_done : (start : List ℕ) (calls : List DeviceCall) (firm bytes written piece : List ℕ) (at : ℕ) (since now : List DeviceCall)
    → now ≡ since ++ Write at piece ∷ [] → at + length piece ≤ length bytes
    → written ≡ put bytes at piece → AreDone start calls firm bytes since → AreDone start (calls ++ Write at piece ∷ []) firm written now
written_done start calls firm bytes written piece at since now noted fits there are =
    let replayed : written ≡ (done (first start) (calls ++ Write at piece ∷ [])).now.seen =
    there ∙ (ap (λ (l : List ℕ). put l at piece) are.replayed ∙ sym (ap (λ (x : Trace). x.now.seen) (write_trace (first start) calls at piece))) in
    let sized = ap length there ∙ length-put bytes at piece fits ∙ are.sized in
    let le : at + length piece ≤ length start = omega (arith, fits, are.sized) in
    let one : is_inside (length start) (Write at piece) ≡ true = grind (arith, nat_tests) in
    record {
      replayed = replayed;
      inside = inside-push (length start) calls (Write at piece) are.inside one;
      sized = sized;
      small = omega (arith, ap length replayed, sized, ap length are.replayed, are.sized, are.small);
      firm_is = are.firm_is ∙ ap (λ (l : List DeviceCall). written_over start l) (sym (take_push (synced_calls calls) calls (Write at piece) (synced_within calls)))
          ∙ ap (λ (n : ℕ). written_over start (take n (calls ++ Write at piece ∷ []))) (sym (write_syncs_none calls at piece));
      since_is = noted ∙ ap (λ (l : List DeviceCall). l ++ Write at piece ∷ []) are.since_is ∙ sym (drop_push (synced_calls calls) calls (Write at piece) (synced_within calls))
          ∙ ap (λ (n : ℕ). drop n (calls ++ Write at piece ∷ [])) (sym (write_syncs_none calls at piece));
    }

-- ... and when all was synced
pub synced_done : (start : List ℕ) (calls : List DeviceCall) (firm bytes made : List ℕ) (since now : List DeviceCall) → made ≡ written_over firm since → now ≡ [] → AreDone start calls firm bytes since
    → AreDone start (calls ++ Sync ∷ []) made bytes now
synced_done start calls firm bytes made since now is none are =
    let same : (done (first start) calls).now.seen ≡ (done (first start) (calls ++ Sync ∷ [])).now.seen = sym (ap (λ (t : Trace). t.now.seen) (sync_trace (first start) calls)) in
    record {
      replayed = are.replayed ∙ same;
      inside = inside-push (length start) calls Sync are.inside refl;
      sized = are.sized;
      small = subst (λ (l : List ℕ). length l < 2 ^ 63) same are.small;
      firm_is = is ∙ ap (λ (l : List ℕ). written_over l since) are.firm_is
          ∙ ap (λ (l : List DeviceCall). written_over (synced_over start calls) l) are.since_is ∙ sym (written_parts (synced_calls calls) start calls) ∙ sym (written_sync start calls)
          ∙ ap (λ (l : List DeviceCall). written_over start l) (sym (take_whole calls Sync)) ∙ ap (λ (n : ℕ). written_over start (take n (calls ++ Sync ∷ []))) (sym (sync_is_last calls));
      since_is = none ∙ sym (drop_whole calls Sync) ∙ ap (λ (n : ℕ). drop n (calls ++ Sync ∷ [])) (sym (sync_is_last calls));
    }

-- so many bytes, also after the writes
and_true : (a b : Bool) → (a && b) ≡ true → (a ≡ true) × (b ≡ true)
and_true true b h = (refl, h)
and_true false b h = (h, absurd (false≢true h))

inside_is : (n at k : ℕ) → nat_le (at + k) n ≡ true → at + k ≤ n
inside_is n at k h = grind (arith, nat_tests)

pub length-written_over : (bytes : List ℕ) (calls : List DeviceCall) → IsTrue (are_inside (length bytes) calls) → length (written_over bytes calls) ≡ length bytes
length-written_over bytes [] inside = refl
length-written_over bytes (Sync ∷ calls) inside = length-written_over bytes calls inside
length-written_over bytes (Write at v ∷ calls) inside =
    let h = and_true (nat_le (at + length v) (length bytes)) (are_inside (length bytes) calls) inside in
    let same : length (put bytes at v) ≡ length bytes = length-put bytes at v (inside_is _ at (length v) h.0) in
    length-written_over (put bytes at v) calls (ap (λ (n : ℕ). are_inside n calls) same ∙ h.1) ∙ same

pub inside-take : (n k : ℕ) (calls : List DeviceCall) → IsTrue (are_inside n calls) → IsTrue (are_inside n (take k calls))
inside-take n zero calls inside = refl
inside-take n (suc k) [] inside = refl
inside-take n (suc k) (c ∷ calls) inside =
    let h = and_true (is_inside n c) (are_inside n calls) inside in
    ap (λ (b : Bool). b && are_inside n (take k calls)) h.0 ∙ inside-take n k calls h.1

pub inside-drop : (n k : ℕ) (calls : List DeviceCall) → IsTrue (are_inside n calls) → IsTrue (are_inside n (drop k calls))
inside-drop n zero calls inside = inside
inside-drop n (suc k) [] inside = refl
inside-drop n (suc k) (c ∷ calls) inside = inside-drop n k calls (and_true (is_inside n c) (are_inside n calls) inside).1

-- the bytes of a moment are those of the writes up to it
pub seen-done : (t : Trace) (calls : List DeviceCall) → (done t calls).now.seen ≡ written_over t.now.seen calls
seen-done t [] = refl
seen-done t (Write at v ∷ calls) = seen-done (did (Write at v) t) calls
seen-done t (Sync ∷ calls) = seen-done (did Sync t) calls

done-take-drop : (t : Trace) (k : ℕ) (calls : List DeviceCall) → done t calls ≡ done (done t (take k calls)) (drop k calls)
done-take-drop t zero calls = refl
done-take-drop t (suc k) [] = refl
done-take-drop t (suc k) (c ∷ calls) = done-take-drop (did c t) k calls

-- after the last sync there is none
none_behind : (calls : List DeviceCall) → synced_calls (drop (synced_calls calls) calls) ≡ 0
none_behind [] = refl
none_behind (Sync ∷ calls) = none_behind calls
none_behind (Write at v ∷ calls) = go (synced_calls calls) refl (none_behind calls)
  where
    go : (n : ℕ) → synced_calls calls ≡ n → synced_calls (drop (synced_calls calls) calls) ≡ 0
        → synced_calls (drop (if n == 0 then 0 else suc n) (Write at v ∷ calls)) ≡ 0
    go zero none rest = ap (λ (n : ℕ). if n == 0 then 0 else suc n) none
    go (suc n) some rest = rw (some_more n) (subst (λ (k : ℕ). synced_calls (drop k calls) ≡ 0) some rest)

or_false : (a b : Bool) → (a || b) ≡ false → (a ≡ false) × (b ≡ false)
or_false true b h = (h, absurd (false≢true (sym h)))
or_false false b h = (refl, h)

outside : (at n i : ℕ) → is_in at n i ≡ false → (i < at) ⊎ (at + n ≤ i)
outside at n i h = elim (cases_lt i at) [
  | inl below ↦ inl below
  | inr above ↦ elim (cases_lt i (at + n)) [
    | inl inside ↦ absurd (false≢true (sym h ∙ in_is at n i above inside))
    | inr beyond ↦ inr beyond
  ]
]
  where
    in_is : (at n i : ℕ) → at ≤ i → i < at + n → is_in at n i ≡ true
    in_is at n i a b = grind (arith, nat_tests)

-- what may be left before a write may be left after it, also with any bytes in its range
module _ (at : ℕ) (piece image : List ℕ) (m : DiskMoment) (fits : at + length piece ≤ length m.seen) (left : MayCrashTo m image) where
  left_alone : MayCrashTo (wrote at piece m) image
  left_alone = record {
    same_length = left.same_length ∙ sym (length-put m.seen at piece fits);
    same = λ i firm.
        let h = or_false (m.loose i) (is_in at (length piece) i) firm in
        left.same i h.0 ∙ sym (put_outside m.seen at piece i fits (outside at (length piece) i h.1));
  }

  left_torn : (q : List ℕ) → length q ≡ length piece → MayCrashTo (wrote at piece m) (put image at q)
  left_torn q same = record {
    same_length = length-put image at q (omega (arith, fits, same, left.same_length)) ∙ (left.same_length ∙ sym (length-put m.seen at piece fits));
    same = λ i firm.
        let h = or_false (m.loose i) (is_in at (length piece) i) firm in
        let out : (i < at) ⊎ (at + length q ≤ i) = subst (λ (n : ℕ). (i < at) ⊎ (at + n ≤ i)) (sym same) (outside at (length piece) i h.1) in
        put_outside image at q i (omega (arith, fits, same, left.same_length)) out ∙ (left.same i h.0 ∙ sym (put_outside m.seen at piece i fits (outside at (length piece) i h.1)));
  }

length-torn : (p : List ℕ) → length (torn p) ≡ length p
length-torn p = search (rules, places, common_steps)

no_sync : (n : ℕ) → (if n == 0 then 0 else suc n) ≡ 0 → n ≡ 0
no_sync zero h = refl
no_sync (suc n) h = absurd (omega (arith, h, some_more n))

-- with no sync since, a crash may leave what it might have left, and that with each write torn
left_behind : (t : Trace) (image : List ℕ) (calls : List DeviceCall) → synced_calls calls ≡ 0 → IsTrue (are_inside (length t.now.seen) calls) → MayCrashTo t.now image → MayCrashTo (done t calls).now image
left_behind t image [] none inside left = left
left_behind t image (Sync ∷ calls) none inside left = absurd (omega arith)
left_behind t image (Write at v ∷ calls) none inside left =
    let h = and_true (nat_le (at + length v) (length t.now.seen)) (are_inside (length t.now.seen) calls) inside in
    let fits = inside_is _ at (length v) h.0 in
    left_behind (did (Write at v) t) image calls (no_sync (synced_calls calls) none)
    (ap (λ (n : ℕ). are_inside n calls) (length-put t.now.seen at v fits) ∙ h.1)
    (left_alone at v image t.now fits left)

left_after_torn : (t : Trace) (image : List ℕ) (calls : List DeviceCall) → synced_calls calls ≡ 0 → IsTrue (are_inside (length t.now.seen) calls)
    → MayCrashTo t.now image → MayCrashTo (done t calls).now (torn_over image calls)
left_after_torn t image [] none inside left = left
left_after_torn t image (Sync ∷ calls) none inside left = absurd (omega arith)
left_after_torn t image (Write at v ∷ calls) none inside left =
    let h = and_true (nat_le (at + length v) (length t.now.seen)) (are_inside (length t.now.seen) calls) inside in
    let fits = inside_is _ at (length v) h.0 in
    left_after_torn (did (Write at v) t) (put image at (torn v)) calls (no_sync (synced_calls calls) none)
    (ap (λ (n : ℕ). are_inside n calls) (length-put t.now.seen at v fits) ∙ h.1)
    (left_torn at v image t.now fits left (torn v) (length-torn v))

module _ (start : List ℕ) (calls : List DeviceCall) (inside : IsTrue (are_inside (length start) calls)) where
  abbrev at_sync : Trace
  at_sync = done (first start) (take (synced_calls calls) calls)

  bytes_at_sync : at_sync.now.seen ≡ synced_over start calls
  bytes_at_sync = seen-done (first start) (take (synced_calls calls) calls)

  after_inside : IsTrue (are_inside (length at_sync.now.seen) (drop (synced_calls calls) calls))
  after_inside =
      ap (λ (n : ℕ). are_inside n (drop (synced_calls calls) calls))
      (ap length bytes_at_sync ∙ length-written_over start (take (synced_calls calls) calls) (inside-take (length start) (synced_calls calls) calls inside))
      ∙ inside-drop (length start) (synced_calls calls) calls inside

  -- the writes since the last sync lie inside of the bytes at it
  pub since_inside : (firm : List ℕ) (since : List DeviceCall) → firm ≡ synced_over start calls → since ≡ drop (synced_calls calls) calls → IsTrue (are_inside (length firm) since)
  since_inside firm since is from =
      subst (λ (l : List ℕ). IsTrue (are_inside (length l) since)) (bytes_at_sync ∙ sym is)
      (subst (λ (l : List DeviceCall). IsTrue (are_inside (length at_sync.now.seen) l)) (sym from) after_inside)

  stays_at_sync : MayCrashTo at_sync.now (synced_over start calls)
  stays_at_sync = record { same_length = ap length (sym bytes_at_sync); same = λ i firm. ap (λ (l : List ℕ). get_or l i 0) (sym bytes_at_sync) }

  pub drop_left : MayCrashTo (done (first start) calls).now (synced_over start calls)
  drop_left =
      subst (λ (t : Trace). MayCrashTo t.now (synced_over start calls)) (sym (done-take-drop (first start) (synced_calls calls) calls))
      (left_behind at_sync (synced_over start calls) (drop (synced_calls calls) calls) (none_behind calls) after_inside stays_at_sync)

  pub tear_left : MayCrashTo (done (first start) calls).now (torn_after_sync start calls)
  tear_left =
      subst (λ (t : Trace). MayCrashTo t.now (torn_after_sync start calls)) (sym (done-take-drop (first start) (synced_calls calls) calls))
      (left_after_torn at_sync (synced_over start calls) (drop (synced_calls calls) calls) (none_behind calls) after_inside stays_at_sync)

pub left_by_a_crash : (m : MemDevice) (image : CrashImage) → MayCrashTo (trace_of m).now (left_by image m)
left_by_a_crash m Drop = drop_left m.past.value.start m.past.value.calls m.inside
left_by_a_crash m Keep = seen_stays (trace_of m).now
left_by_a_crash m Tear = tear_left m.past.value.start m.past.value.calls m.inside
