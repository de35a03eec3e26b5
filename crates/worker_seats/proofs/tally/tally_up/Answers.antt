use Rattle.std.proofs.Common.{◌≡◌, ◌⊎◌, ◌+◌, ◌<◌, ◌++◌, ◌∷◌, [], ℕ, List, length, Option, Some, None, slice_get, IfSome, sym, ap, ◌∙◌, subst, ⊎_elim, arith, length-append, append_assoc, append-nil}
use Rattle.std.proofs.lemmas.List.{nil_from_length}
use Rattle.worker_seats.specs.declared.seating.SeatView.{SeatView}
use Rattle.worker_seats.specs.Seats.{notes_by, known_by}
use Rattle.worker_seats.proofs.Rows.{some_middle, some_snoc}
use Rattle.crossbeam_queue.specs.Passes.{view}
use Rattle.worker_seats.specs.Queue.{jobs_in, sum_below, sum_over, weigh}
use Rattle.worker_seats.proofs.Counting.{sum_more, sum_over_snoc, noted_all, noted_once, last_or}
use Rattle.worker_seats.proofs.tally.tally_up.Goals as goal

-- the notes of a worker, told by two views that are the same
same_notes : (a b : SeatView) (w n : ℕ) → a ≡ b → w ≡ n → notes_by w a.log ≡ notes_by n b.log
same_notes a b w n view worker = ap (λ (v : SeatView). notes_by w v.log) view ∙ ap (λ m. notes_by m b.log) worker

-- what a session runs, told by two views that are the same
same_running : (a b : SeatView) (w n : ℕ) (o : Option ℕ) → a ≡ b → w ≡ n → slice_get a.running w ≡ Some o → o ≡ None → slice_get b.running n ≡ Some None
same_running a b w n o view worker runs none = ap (λ m. slice_get b.running m) (sym worker) ∙ ap (λ (v : SeatView). slice_get v.running w) (sym view) ∙ runs ∙ ap Some none

last_of : (k n m : ℕ) → m ≡ n + 1 → k < m → (k ≡ n) ⊎ (k < n)
last_of k n m e l = last_or k n (omega (arith, e, l))

pub loop-seat-preserved : goal.loop-seat-preserved
loop-seat-preserved g c =
    let i = c.loop-seat.invariant in
    let yielded = c.loop-seat.yielded in
    let s = c.in-Some.seat in
    let after = c.next.new.self.rest.items in
    let rest = c.in-Some.ensures.steps.0 in
    let fewer = c.in-Some.ensures.steps.1 in
    let ranked : (k : ℕ) → IfSome (slice_get (yielded ++ s ∷ after) k) (λ s. s.worker ≡ k) = λ k. subst (λ l. IfSome (slice_get (yielded ++ l) k) (λ s. s.worker ≡ k)) rest (i.1 k) in
    let rests : (k : ℕ) → IfSome (slice_get (yielded ++ s ∷ after) k) (λ s. (known_by s.pass).job ≡ None) = λ k.
    subst (λ l. IfSome (slice_get (yielded ++ l) k) (λ s. (known_by s.pass).job ≡ None)) rest (i.2 k) in
    let here : s.worker ≡ length yielded = some_middle (λ n s. s.worker ≡ n) yielded s after ranked in
    let none : (known_by s.pass).job ≡ None = some_middle (λ n s. (known_by s.pass).job ≡ None) yielded s after rests in
    let more : length (yielded ++ s ∷ []) ≡ length yielded + 1 = length-append yielded (s ∷ []) in
    let log = (known_by c.args.desk.now.registry).log in
    let f : ℕ → ℕ = λ w. length (notes_by w log) in
    let share = c.check-seat.result.share in
    let notes : (known_by s.pass).notes ≡ notes_by (length yielded) log = c.check-seat.ensures.notes
    ∙ same_notes (known_by c.loop-seat.desk.registry) (known_by c.args.desk.now.registry) s.worker (length yielded) i.0 here in
    let has : share.amount ≡ f (length yielded) = c.check-seat.result.counted ∙ ap (λ (v : SeatView). length v.notes) c.check-seat.ensures.view ∙ ap length notes in
    let one = c.check-seat.result.part in (
      c.check-seat.ensures.registry ∙ i.0,
      (λ k. subst (λ l. IfSome (slice_get l k) (λ s. s.worker ≡ k)) (sym (append_assoc yielded (s ∷ []) after)) (ranked k)),
      (λ k. subst (λ l. IfSome (slice_get l k) (λ s. (known_by s.pass).job ≡ None)) (sym (append_assoc yielded (s ∷ []) after)) (rests k)),
      omega (arith, c.merge.ensures.parts, one, i.3, fewer),
      omega (arith, more, i.4, fewer),
      (let o = sum_more (length yielded) (length (yielded ++ s ∷ [])) f more in c.merge.ensures.amount ∙ (λ j. i.5 j + has j) ∙ sym o),
      (λ k l. ⊎_elim
          (λ (e : k ≡ length yielded). same_running (known_by c.loop-seat.desk.registry) (known_by c.args.desk.now.registry) s.worker k (known_by s.pass).job i.0 (here ∙ sym e) c.check-seat.ensures.job none)
          (λ (m : k < length yielded). i.6 k m)
          (last_of k (length yielded) (length (yielded ++ s ∷ [])) more l)),
      (λ h.
          let own : weigh h (jobs_in (known_by s.pass).notes) ≡ weigh h (jobs_in (notes_by (length yielded) log)) = ap (λ (l : List (ℕ × ℕ)). weigh h (jobs_in l)) notes in
          omega (
            arith,
            own,
            i.7 h,
            sum_over_snoc (λ s. weigh h (jobs_in (known_by s.pass).notes)) yielded s,
            sum_more (length yielded) (length (yielded ++ s ∷ [])) (λ w. weigh h (jobs_in (notes_by w log))) more,
          )),
      append_assoc yielded (s ∷ []) after ∙ ap (λ l. yielded ++ l) (sym rest) ∙ i.8,
      (λ k. some_snoc (λ n s. (known_by s.pass).notes ≡ notes_by n log) yielded s i.9 notes k),
    )

pub returns-clause-notes : goal.returns-clause-notes
returns-clause-notes g c k =
    let i = c.loop-seat.invariant in
    let yielded = c.loop-seat.yielded in
    let log = (known_by c.args.desk.now.registry).log in
    let rest = c.loop-seat.seat-iterator.rest in
    let none : rest.items ≡ [] = nil_from_length rest.items (sym rest.ok.0 ∙ c.in-None.ensures.steps.0) in
    let all : yielded ≡ c.args.seats.items = sym (append-nil yielded) ∙ ap (λ l. yielded ++ l) (sym none) ∙ i.8 in
    subst (λ l. IfSome (slice_get l k) (λ s. (known_by s.pass).notes ≡ notes_by k log)) all (i.9 k)

pub returns-clause-all : goal.returns-clause-all
returns-clause-all g c =
    let i = c.loop-seat.invariant in
    let yielded = c.loop-seat.yielded in
    let log = (known_by c.args.desk.now.registry).log in
    let rest = c.loop-seat.seat-iterator.rest in
    let ended : rest.len ≡ 0 = c.in-None.ensures.steps.0 in
    let none : rest.items ≡ [] = nil_from_length rest.items (sym rest.ok.0 ∙ ended) in
    let all : yielded ≡ c.args.seats.items = sym (append-nil yielded) ∙ ap (λ l. yielded ++ l) (sym none) ∙ i.8 in
    let popped = (view c.args.pass.now).popped in
    let own : (h : ℕ → ℕ) → weigh h popped ≡ sum_below (length yielded) (λ w. weigh h (jobs_in (notes_by w log))) =
    λ h. c.requires.popped h ∙ ap (λ l. sum_over (λ s. weigh h (jobs_in (known_by s.pass).notes)) l) (sym all) ∙ i.7 h in
    let whole : c.loop-seat.all.amount ≡ length log = c.audit.ensures.whole (omega (arith, i.3, ended)) ∙ c.requires.counted in
    noted_all (view c.args.pass.now).pushed (length yielded) popped log (c.requires.empty c.requires.whole) own (sym i.5 ∙ whole)

pub returns-clause-once : goal.returns-clause-once
returns-clause-once g c =
    let i = c.loop-seat.invariant in
    let yielded = c.loop-seat.yielded in
    let log = (known_by c.args.desk.now.registry).log in
    let rest = c.loop-seat.seat-iterator.rest in
    let ended : rest.len ≡ 0 = c.in-None.ensures.steps.0 in
    let none : rest.items ≡ [] = nil_from_length rest.items (sym rest.ok.0 ∙ ended) in
    let all : yielded ≡ c.args.seats.items = sym (append-nil yielded) ∙ ap (λ l. yielded ++ l) (sym none) ∙ i.8 in
    let popped = (view c.args.pass.now).popped in
    let own : (h : ℕ → ℕ) → weigh h popped ≡ sum_below (length yielded) (λ w. weigh h (jobs_in (notes_by w log))) =
    λ h. c.requires.popped h ∙ ap (λ l. sum_over (λ s. weigh h (jobs_in (known_by s.pass).notes)) l) (sym all) ∙ i.7 h in
    let whole : c.loop-seat.all.amount ≡ length log = c.audit.ensures.whole (omega (arith, i.3, ended)) ∙ c.requires.counted in
    noted_once (view c.args.pass.now).pushed (length yielded) popped log (c.requires.empty c.requires.whole) own (sym i.5 ∙ whole)
