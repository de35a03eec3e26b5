use Rattle.access_method.proofs.Refusals.{swept_cause, finishes, frames_stay}
use Rattle.std.proofs.Common.{◌∷◌, Bool, List, refl, sym, subst, ◌≡◌, false, length, rules}
use Rattle.whole_calls.specs.Made.{IsMadeOf, ComesTo}
use Rattle.access_method.proofs.Imports.{causes_of_vacuum, causes_of_called, causes_of_gone, ToBulk, HasCause, [], IfOk, IfErr, Action, Call, Row, Entry, snapshot_of, Fits, here_with, ForEachHistory}
use Rattle.access_method.proofs.Imports.{CallIsRun, VacuumMeans, vacuum_outcome, StatsCountEntries, StatsCountPages, slots_within, slots_with, IndexFits}
use Rattle.access_method.proofs.BulkDeletions.{bulk_deleted_or_less, fits_as, finds_own, runs_before, safe_within, within_sets}
use Rattle.access_method.specs.Rows.{is_row_in}
use Rattle.access_method.proofs.index.Index.ambulkdelete.Given.{Over}
use Rattle.access_method.proofs.index.Index.ambulkdelete.Goals.{After-bulk_delete}
use Rattle.access_method.proofs.index.Index.ambulkdelete.Goals as goal

-- the run over the one set
goes : (g : Over) (c : After-bulk_delete g)
    → CallIsRun g.S.PageStore 63 (VacuumMeans 63 (ToBulk 1) c.bulk_delete.result) (vacuum_outcome c.bulk_delete.result)
    (slots_with (g.T.DeadRows.is_in c.args.dead.now) c.args.self.now) (here_with c.bulk_delete.new.store c.bulk_delete.new.calls.slots.items (is_row_in c.args.self.now.rows ∷ g.T.DeadRows.is_in c.args.dead.now ∷ []))
goes g c = subst (λ (l : List (Row → Bool)).
    CallIsRun g.S.PageStore 63 (VacuumMeans 63 (ToBulk 1) c.bulk_delete.result) (vacuum_outcome c.bulk_delete.result)
    (here_with c.args.self.now.store c.args.self.now.calls.slots.items l) (here_with c.bulk_delete.new.store c.bulk_delete.new.calls.slots.items l))
    refl c.bulk_delete.ensures.goes

counted : (g : Over) (c : After-bulk_delete g)
    → ForEachHistory g.S.PageStore (slots_with (g.T.DeadRows.is_in c.args.dead.now) c.args.self.now)
    (here_with c.bulk_delete.new.store c.bulk_delete.new.calls.slots.items (is_row_in c.args.self.now.rows ∷ g.T.DeadRows.is_in c.args.dead.now ∷ [])) (λ start history calls.
    StatsCountEntries (g.S.PageStore.state c.bulk_delete.new.store) c.bulk_delete.result)
counted g c = subst (λ (l : List (Row → Bool)).
    ForEachHistory g.S.PageStore (here_with c.args.self.now.store c.args.self.now.calls.slots.items l) (here_with c.bulk_delete.new.store c.bulk_delete.new.calls.slots.items l) (λ start history calls.
    StatsCountEntries (g.S.PageStore.state c.bulk_delete.new.store) c.bulk_delete.result))
    refl c.bulk_delete.ensures.entries

pages_told : (g : Over) (c : After-bulk_delete g)
    → ForEachHistory g.S.PageStore (slots_with (g.T.DeadRows.is_in c.args.dead.now) c.args.self.now)
    (here_with c.bulk_delete.new.store c.bulk_delete.new.calls.slots.items (is_row_in c.args.self.now.rows ∷ g.T.DeadRows.is_in c.args.dead.now ∷ [])) (λ start history calls.
    IfOk c.bulk_delete.result (λ stats. StatsCountPages (g.S.PageStore.state c.bulk_delete.new.store) stats × (stats.pages_newly_deleted ≡ 0)))
pages_told g c = subst
    (λ (l : List (Row → Bool)).
    ForEachHistory g.S.PageStore (here_with c.args.self.now.store c.args.self.now.calls.slots.items l)
    (here_with c.bulk_delete.new.store c.bulk_delete.new.calls.slots.items l) (λ start history calls.
    IfOk c.bulk_delete.result (λ stats. StatsCountPages (g.S.PageStore.state c.bulk_delete.new.store) stats × (stats.pages_newly_deleted ≡ 0))))
    refl c.bulk_delete.ensures.stats

pub returns-clause-made : goal.returns-clause-made
returns-clause-made g c =
    subst (λ (l : List (Row → Bool)).
    IsMadeOf g.S.PageStore 63 5 (ComesTo (vacuum_outcome c.bulk_delete.result))
    (here_with c.args.self.now.store c.args.self.now.calls.slots.items l) (here_with c.bulk_delete.new.store c.bulk_delete.new.calls.slots.items l))
    refl c.bulk_delete.ensures.made

-- what fitted fits with the set
fits_then : (g : Over) (c : After-bulk_delete g) (start : Entry → Bool) (history : List Action) (calls : List Call) → IndexFits g.S.PageStore c.args.self.now start history calls
    → Fits g.S.PageStore start (snapshot_of (slots_with (g.T.DeadRows.is_in c.args.dead.now) c.args.self.now) history calls)
fits_then g c start history calls fits =
    let now = snapshot_of (slots_within c.args.self.now) history calls in
    let own = is_row_in c.args.self.now.rows in
    let dead = g.T.DeadRows.is_in c.args.dead.now in
    fits_as g.S.PageStore start now (own ∷ dead ∷ []) (λ session set op at within. finds_own own dead set within) fits

pub returns-clause-deletions : goal.returns-clause-deletions
returns-clause-deletions g c honest start history calls fits =
    let after = (goal.at.returns-clause-deletions g c).After-bulk_delete in
    let own = is_row_in c.args.self.now.rows in
    let dead = g.T.DeadRows.is_in c.args.dead.now in
    let now = snapshot_of (slots_within c.args.self.now) history calls in
    let r = goes g after honest start history calls (fits_then g after start history calls fits) in
    let then_here = snapshot_of (here_with c.bulk_delete.new.store c.bulk_delete.new.calls.slots.items (own ∷ dead ∷ [])) r.then_history r.then_calls in
    record {
      deletions = r;
      fits = fits_as g.S.PageStore start then_here (own ∷ []) (λ session set op at within. sym (finds_own own dead set (within_sets g.S.PageStore start now fits session set op
          (runs_before c.args.self.now.calls.slots.items c.bulk_delete.new.calls.slots.items c.bulk_delete.ensures.others.others (c.bulk_delete.ensures.over c.args.self.now.agree.inserts) session set op at))))
          r.ran.fits;
      safe = λ keeps. safe_within g.S.PageStore start now then_here (own ∷ dead ∷ []) (own ∷ []) r.ran.crash keeps;
    }

pub returns-clause-deletes : goal.returns-clause-deletes
returns-clause-deletes g c honest start history calls fits =
    let after = (goal.at.returns-clause-deletes g c).After-bulk_delete in
    let own = is_row_in c.args.self.now.rows in
    let dead = g.T.DeadRows.is_in c.args.dead.now in
    let then_fits = fits_then g after start history calls fits in
    let r = goes g after honest start history calls then_fits in
    bulk_deleted_or_less g.S.PageStore own dead (slots_with dead c.args.self.now)
    (here_with c.bulk_delete.new.store c.bulk_delete.new.calls.slots.items (own ∷ dead ∷ [])) refl start history calls then_fits c.bulk_delete.result r
    (counted g after honest start history calls then_fits)
    (pages_told g after honest start history calls then_fits)

-- why it is refused
caused : (g : Over) (c : After-bulk_delete g) → length c.args.self.now.calls.slots.items ≡ 64
    → ForEachHistory g.S.PageStore (slots_within c.args.self.now) (here_with c.bulk_delete.new.store c.bulk_delete.new.calls.slots.items (is_row_in c.args.self.now.rows ∷ []))
    (λ start history calls. IfErr c.bulk_delete.result (HasCause (causes_of_vacuum g.S.PageStore 63 c.args.self.now c.bulk_delete.new.store)))
caused g c slots honest start history calls fits =
    let own = is_row_in c.args.self.now.rows in
    let dead = g.T.DeadRows.is_in c.args.dead.now in
    let why = subst (λ (l : List (Row → Bool)).
    ForEachHistory g.S.PageStore (here_with c.args.self.now.store c.args.self.now.calls.slots.items l)
    (here_with c.bulk_delete.new.store c.bulk_delete.new.calls.slots.items l) (λ start history calls.
    IfErr c.bulk_delete.result
    (HasCause (causes_of_called g.S.PageStore 63 (ToBulk 1) (here_with c.args.self.now.store c.args.self.now.calls.slots.items l)
    (causes_of_gone g.S.PageStore 63 5 false (here_with c.args.self.now.store c.args.self.now.calls.slots.items l) c.bulk_delete.new.store)))))
    refl c.bulk_delete.ensures.cause in
    swept_cause g.S.PageStore dead c.args.self.now c.bulk_delete.new.store c.args.self.now.agree.inserts slots c.bulk_delete.result
    (why honest start history calls (fits_then g c start history calls fits))

pub returns-clause-cause : goal.returns-clause-cause
returns-clause-cause g c honest start history calls fits = caused g ((goal.at.returns-clause-cause g c).After-bulk_delete) (search rules) honest start history calls fits

pub returns-clause-finishes : goal.returns-clause-finishes
returns-clause-finishes g c honest start history calls fits un =
    let after = (goal.at.returns-clause-finishes g c).After-bulk_delete in
    let own = is_row_in c.args.self.now.rows in
    let dead = g.T.DeadRows.is_in c.args.dead.now in
    let same = frames_stay g.S.PageStore 63 _ _ (slots_with dead c.args.self.now)
    (here_with c.bulk_delete.new.store c.bulk_delete.new.calls.slots.items (own ∷ dead ∷ [])) start history calls
    (goes g after honest start history calls (fits_then g after start history calls fits)) in
    finishes g.S.PageStore c.args.self.now c.bulk_delete.new.store c.bulk_delete.result c.args.self.now.agree.inserts un same
    (caused g ((goal.at.returns-clause-finishes g c).After-bulk_delete) (search rules) honest start history calls fits)

pub returns-clause-fits : goal.returns-clause-fits
returns-clause-fits g c honest start history calls fits =
    let after = (goal.at.returns-clause-fits g c).After-bulk_delete in
    let own = is_row_in c.args.self.now.rows in
    let dead = g.T.DeadRows.is_in c.args.dead.now in
    let now = snapshot_of (slots_within c.args.self.now) history calls in
    let r = goes g after honest start history calls (fits_then g after start history calls fits) in
    let then_here = snapshot_of (here_with c.bulk_delete.new.store c.bulk_delete.new.calls.slots.items (own ∷ dead ∷ [])) r.then_history r.then_calls in (
      r.then_history,
      r.then_calls,
      fits_as g.S.PageStore start then_here (own ∷ []) (λ session set op at within. sym (finds_own own dead set (within_sets g.S.PageStore start now fits session set op
          (runs_before c.args.self.now.calls.slots.items c.bulk_delete.new.calls.slots.items c.bulk_delete.ensures.others.others (c.bulk_delete.ensures.over c.args.self.now.agree.inserts) session set op at))))
          r.ran.fits,
    )
