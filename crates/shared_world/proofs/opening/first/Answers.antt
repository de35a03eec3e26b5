use Rattle.std.proofs.Common.{◌≡◌, ◌∙◌, Option, length, slice_get, sym, ap, subst, arith}
use Rattle.shared_world.proofs.Imports.{registry_of, view_of, Pending, SessionView, AreBooked, IsSeatAt, completed_calls, notes_of, jobs_of}
use Rattle.shared_world.proofs.Ending.{none_at, none_are, none_long, idle_none, idle_calls, books_none}
use Rattle.shared_world.proofs.opening.first.Goals as goal

pub new-live-requires-clause-first : goal.new-live-requires-clause-first
new-live-requires-clause-first g c = ap (λ (v : SessionView). v.log) c.open_seats.ensures.registry

pub new-live-requires-clause-none : goal.new-live-requires-clause-none
new-live-requires-clause-none g c session p at = idle_none c.len-workers.result session p (ap (λ (v : SessionView). slice_get v.pending session) (sym c.open_seats.ensures.registry) ∙ at)

pub new-live-requires-clause-seats : goal.new-live-requires-clause-seats
new-live-requires-clause-seats g c = omega (arith, c.requires.enough_sessions, c.len-workers.ensures, ap (λ (v : SessionView). length v.pending) c.open_seats.ensures.registry, none_long c.len-workers.result)

pub invariant_of-result : goal.invariant_of-result
invariant_of-result g c =
    let empty = c.requires.history in
    let pending = c.args.pending.items in
    let view = ap (λ d. view_of d.registry) c.new-live.ensures.desk ∙ c.open_seats.ensures.registry in
    let long : c.len-workers.result ≡ length pending = c.len-workers.ensures ∙ c.args.pending.ok.0 in
    record {
      stays = c.requires.stays;
      told = ap (λ (v : SessionView). v.log) view ∙ ap (completed_calls g.J.Origin.handed.sets) (sym empty);
      runs = ap (λ (v : SessionView). v.pending) view ∙ ap idle_calls long ∙ sym (none_are g.J.Origin.handed.sets pending c.requires.pending);
      booked = subst (AreBooked g.J.Jobs.jobs pending) (sym empty) (books_none g.J.Jobs.jobs pending c.requires.pending);
      seated = λ s l. subst (λ (o : Option (Option Pending)). IsSeatAt g.J.Origin.handed.sets s o (slice_get c.open_seats.new.seats.items s)) (sym (none_at pending c.requires.pending s (omega (arith, l, c.requires.workers, c.args.pending.ok.0))))
          (c.open_seats.ensures.seats g.J.Origin.handed.sets s (omega (arith, l, c.requires.workers, c.len-workers.ensures)));
      workers = c.requires.workers;
      enough = c.requires.enough;
      counted = c.requires.book ∙ sym (c.args.history.ok.0 ∙ ap length empty);
      knows = c.requires.registry ∙ ap (λ h. registry_of (notes_of h) (jobs_of pending)) (sym empty);
    }
