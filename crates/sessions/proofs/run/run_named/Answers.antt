use Rattle.std.proofs.Common.{◌≡◌, ◌∙◌, ℕ, List, Some, length, slice_get, vec_len, sym, ap, subst, arith, rules}
use Rattle.sessions.proofs.Imports.{World, Job, Record, HasRun, records_of, Handed}
use Rattle.sessions.proofs.Finishing.{finished, job_below, job_once}
use Rattle.sessions.proofs.run.run_named.Goals as goal

pub finish-requires-clause-jobs : goal.finish-requires-clause-jobs
finish-requires-clause-jobs g c place r at =
    let j = g.J.Jobs in
    let o = g.J.Origin in
    let past = g.J.OriginOn in
    let ran = c.in-Ok-run_all in
    let h : HasRun g.S.PageStore g.T.DeadRows o.stood o.kept_then past.followed o.handed j.jobs j.workers ran.world ran.start ran.history.items = search rules in
    let long : vec_len c.in-Some-make_tables.receipts ≡ length c.args.jobs.now = search rules in
    let same : length j.jobs ≡ length c.args.jobs.now = ap length c.requires.jobs in
    let below = job_below g.S.PageStore g.T.DeadRows o.stood o.kept_then past.followed o.handed j.jobs j.workers ran.world ran.start ran.history.items h place r at in
    omega (arith, below, same, long)

pub finish-requires-clause-workers : goal.finish-requires-clause-workers
finish-requires-clause-workers g c place r at =
    let j = g.J.Jobs in
    let o = g.J.Origin in
    let past = g.J.OriginOn in
    let ran = c.in-Ok-run_all in
    let h : HasRun g.S.PageStore g.T.DeadRows o.stood o.kept_then past.followed o.handed j.jobs j.workers ran.world ran.start ran.history.items = search rules in
    let count : vec_len c.in-Some-make_tables.calls ≡ c.args.workers = search rules in
    omega (arith, h.within place r at, c.requires.workers, count)

pub finish-requires-clause-once : goal.finish-requires-clause-once
finish-requires-clause-once g c =
    let j = g.J.Jobs in
    let o = g.J.Origin in
    let past = g.J.OriginOn in
    let ran = c.in-Ok-run_all in
    let h : HasRun g.S.PageStore g.T.DeadRows o.stood o.kept_then past.followed o.handed j.jobs j.workers ran.world ran.start ran.history.items = search rules in
    job_once g.S.PageStore g.T.DeadRows o.stood o.kept_then past.followed o.handed j.jobs j.workers ran.world ran.start ran.history.items h

pub returns-in-Ok-run_all-clause-done : goal.returns-in-Ok-run_all-clause-done
returns-in-Ok-run_all-clause-done g c =
    let j = g.J.Jobs in
    let o = g.J.Origin in
    let past = g.J.OriginOn in
    let ran = c.in-Ok-run_all in
    let done = c.finish.result in
    let e = c.finish.ensures in
    let h : HasRun g.S.PageStore g.T.DeadRows o.stood o.kept_then past.followed o.handed j.jobs j.workers ran.world ran.start ran.history.items = search rules in
    let long : vec_len c.in-Some-make_tables.receipts ≡ length c.args.jobs.now = search rules in
    let count : vec_len c.in-Some-make_tables.calls ≡ c.args.workers = search rules in
    let records : done.history.items ≡ ran.history.items = ap (λ v. v.items) e.history in
    let now = subst (λ (x : Handed × List Job × ℕ × World g.row.S.Denot g.row.T.Denot × ℕ × List Record). HasRun g.S.PageStore g.T.DeadRows o.stood o.kept_then past.followed x.0 x.1 x.2 x.3 x.4 x.5)
    (λ i. (c.requires.handed i, c.requires.jobs i, c.requires.workers i, sym e.world i, sym e.start i, sym records i)) h in
    finished g.S.PageStore g.T.DeadRows o.stood o.kept_then past.followed c.args.jobs.now c.args.workers c.args.world done now
    (λ contents history calls fit. (c.requires.stood contents history calls).1 fit)
    (λ contents history calls kept. (c.requires.kept_then contents history calls).1 kept)
    (λ first was. (c.requires.followed first).1 was)
    (sym done.receipts.ok.0 ∙ e.length ∙ long)
    (sym done.calls.ok.0 ∙ e.workers ∙ count)
    (λ place r at. e.written place r (ap (λ (l : List Record). slice_get l place) (sym records) ∙ at))
    (λ worker l. e.counted worker (omega (arith, l, count)) ∙ ap (λ (l : List Record). Some (records_of worker l)) (sym records))
    (e.sum ∙ ap (λ (l : List Record). length l) (sym records))
