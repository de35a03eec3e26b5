use Rattle.std.proofs.Common.{◌≡◌, ◌∙◌, ◌<◌, ℕ, List, [], length, Some, None, IfSome, slice_get, vec_len, sym, ap, subst, arith}
use Rattle.shared_world.proofs.Imports.{∥∥₁_map, known_by, notes_by, SeatView, below, jobs_in, sum_below, weigh, noted_within, inside, note_of, notes_of, jobs_of, CompletedCall, view_of, HasActed, KeepsAll}
use Rattle.shared_world.proofs.Acting.{acts_all_done}
use Rattle.shared_world.proofs.Ending.{jobs_noted, get_note, none_waits, no_call_waits, all_idle, keeps_nothing_pending, books_nothing_pending}
use Rattle.shared_world.proofs.opening.ended.Goals as goal

pub returns-clause-done : goal.returns-clause-done
returns-clause-done g c =
    let shared = c.args.shared in
    let live = shared.live in
    let tally = c.tally_up.ensures in
    let view = shared.knows in
    let records = shared.history.items in
    let pending = shared.pending.items in
    let calls = (view_of live.desk.registry).pending in
    let now = inside g.T.DeadRows live.world in
    let long : length pending ≡ g.J.Jobs.workers = sym shared.pending.ok.0 ∙ shared.workers in
    let idle : (k : ℕ) → k < g.J.Jobs.workers → slice_get (jobs_of pending) k ≡ Some None =
    λ k l. ap (λ (v : SeatView). slice_get v.running k) (sym view) ∙ tally.idle k (omega (arith, l, c.requires.workers)) in
    let n = vec_len c.args.seats in
    let log : (known_by shared.desk.registry).log ≡ notes_of records = ap (λ (v : SeatView). v.log) view in
    let sum : sum_below n (λ w. length (notes_by w (notes_of records))) ≡ length (notes_of records) =
    subst (λ (l : List (ℕ × ℕ)). sum_below n (λ w. length (notes_by w l)) ≡ length l) log tally.sum in
    let none = no_call_waits g.J.Origin.handed.sets calls pending shared.runs (none_waits pending (λ k l. idle k (omega (arith, l, long)))) in
    record {
      stays = shared.stays;
      kept = ∥∥₁_map live.kept (λ all. subst (λ (l : List CompletedCall). KeepsAll g.S.PageStore g.J.Origin.handed g.J.Origin.stood g.J.Origin.kept_then now live.start [] l) shared.told
          (keeps_nothing_pending g.S.PageStore g.J.Origin.handed g.J.Origin.stood g.J.Origin.kept_then now live.start calls (view_of live.desk.registry).log none all));
      acted = ∥∥₁_map live.acted (λ a. subst (λ (l : List CompletedCall). HasActed g.S.PageStore g.J.Origin.handed now [] l) shared.told
          (acts_all_done g.S.PageStore g.J.Origin.handed now calls (view_of live.desk.registry).log none a));
      booked = books_nothing_pending g.J.Jobs.jobs pending records shared.booked;
      comes = live.comes;
      steps = live.steps;
      idle = all_idle live.world.calls.slots.items calls live.matches none;
      all = λ h. ap (λ n. weigh h (below n)) (sym c.requires.pushed) ∙ tally.all h ∙ ap (λ (v : SeatView). weigh h (jobs_in v.log)) view ∙ ap (weigh h) (jobs_noted records);
      within = λ place r at. (let l = noted_within n (notes_of records) sum place (note_of r) (get_note records place r at) in omega (arith, l, c.requires.workers));
    }

pub returns-clause-notes : goal.returns-clause-notes
returns-clause-notes g c k =
    let log : (known_by c.args.shared.desk.registry).log ≡ notes_of c.args.shared.history.items = ap (λ (v : SeatView). v.log) c.args.shared.knows in
    subst (λ (l : List (ℕ × ℕ)). IfSome (slice_get c.args.seats.items k) (λ s. (known_by s.pass).notes ≡ notes_by k l)) log (c.tally_up.ensures.notes k)
