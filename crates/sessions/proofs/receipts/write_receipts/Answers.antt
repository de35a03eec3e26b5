use Rattle.std.proofs.Common.{◌≡◌, ◌<◌, ◌≤◌, ◌+◌, ◌==◌, ℕ, List, Option, Some, length, take, set, slice_get, vec_len, refl, ap, ◌∙◌, arith}
use Rattle.std.specs.List.{sum}
use Rattle.sessions.proofs.Imports.{length-take-le, count_by-le-length, slice_get_read, records_of, Record, get_within}
use Rattle.sessions.proofs.Receipting.{get_zero, sum_zero, sum_one_more, written_next, counted_next}
use Rattle.sessions.proofs.receipts.write_receipts.Goals as goal

none_before : (p : ℕ) → p < 0 → ⊥
none_before p l = omega (arith, l)

pub loop-place-init : goal.loop-place-init
loop-place-init c = (
  refl,
  refl,
  (λ p r l. absurd (none_before p l)),
  (λ worker l. ap (λ xs. slice_get xs worker) c.requires.zero ∙ get_zero (vec_len c.args.calls.now) worker l),
  ap sum c.requires.zero ∙ sum_zero (vec_len c.args.calls.now),
)

pub index_mut-requires : goal.index_mut-requires
index_mut-requires c =
    let h = c.args.history.now in
    let at = slice_get_read h (length h) c.loop-place.place c.index-history-place.result refl c.loop-place-test.true c.index-history-place.is in
    omega (arith, c.requires.jobs _ _ at, c.loop-place.invariant.0)

pub index_mut-requires-in-loop-place : goal.index_mut-requires-in-loop-place
index_mut-requires-in-loop-place c =
    let h = c.args.history.now in
    let at = slice_get_read h (length h) c.loop-place.place c.index-history-place.result refl c.loop-place-test.true c.index-history-place.is in
    omega (arith, c.requires.workers _ _ at, c.loop-place.invariant.1)

few : (worker : ℕ) (records : List Record) (n : ℕ) → n ≤ length records → records_of worker (take n records) ≤ n
few worker records n l = (let c = count_by-le-length (λ (r : Record). r.worker == worker) (take n records) in let t = length-take-le n records l in omega (arith, c, t))

same : (o : Option ℕ) (m n : ℕ) → o ≡ Some m → o ≡ Some n → m ≡ n
same o m n e f = cc

pub overflow_add-index_mut : goal.overflow_add-index_mut
overflow_add-index_mut c =
    let h = c.args.history.now in
    let calls = c.loop-place.calls in
    let r = c.index-history-place.result in
    let at = slice_get_read h (length h) c.loop-place.place r refl c.loop-place-test.true c.index-history-place.is in
    let inside = c.requires.workers _ _ at in
    let n = c.index_mut-in-loop-place.result.now in
    let had = slice_get_read calls.items calls.len r.worker n calls.ok.0 (omega (arith, inside, c.loop-place.invariant.1)) c.index_mut-in-loop-place.ensures.value in
    let is = same (slice_get calls.items r.worker) n _ had (c.loop-place.invariant.3 r.worker inside) in
    let less = few r.worker h c.loop-place.place (omega (arith, c.loop-place-test.true)) in
    omega (arith, is, less, c.loop-place-test.true)

pub loop-place-preserved : goal.loop-place-preserved
loop-place-preserved c =
    let i = c.loop-place.invariant in
    let h = c.args.history.now in
    let receipts = c.loop-place.receipts in
    let calls = c.loop-place.calls in
    let place = c.loop-place.place in
    let r = c.index-history-place.result in
    let at = slice_get_read h (length h) place r refl c.loop-place-test.true c.index-history-place.is in
    let job = c.requires.jobs _ _ at in
    let inside = c.requires.workers _ _ at in
    let n = c.index_mut-in-loop-place.result.now in
    let had = slice_get_read calls.items calls.len r.worker n calls.ok.0 (omega (arith, inside, i.1)) c.index_mut-in-loop-place.ensures.value in (
      i.0,
      i.1,
      (λ p t l here. ap (λ x. slice_get (set receipts.items r.job x) t.job) c.receipt.ensures
          ∙ written_next h place r at receipts.items (omega (arith, job, i.0, receipts.ok.0)) c.requires.once i.2 p t l here),
      (λ worker l. counted_next h place r at calls.items _ n had i.3 worker l),
      sum_one_more calls.items r.worker n had ∙ ap (λ k. k + 1) i.4,
    )

pub returns-clause-written : goal.returns-clause-written
returns-clause-written c place r at =
    let i = c.loop-place.invariant in
    i.2 place r (let inside = get_within c.args.history.now place r at in omega (arith, inside, c.loop-place-test.false)) at
