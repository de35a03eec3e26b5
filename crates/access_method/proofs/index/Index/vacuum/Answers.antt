use Rattle.std.proofs.Common.{◌∷◌, [], map, ◌≡◌, ◌≢◌, ℕ, None, refl, sym, subst, ◌∙◌, rules, true≢false}
use Rattle.access_method.proofs.Imports.{Call, Action, Entry, Bool, List, snapshot_of, slots_within, here_with, slot_of, runs_has_call}
use Rattle.access_method.proofs.Partwise.{busy_of, cause_at, counts_on, lasts_at, part_caused, part_counts, part_effects, part_loses, part_made, part_may, part_runs, part_stays, runs_some}
use Rattle.access_method.specs.Parts.{part_answer}
use Rattle.access_method.specs.Rows.{is_row_in}
use Rattle.schedule.specs.TheoremMoments.{IsRunningCall}
use Rattle.access_method.proofs.index.Index.vacuum.Given.{Over}
use Rattle.access_method.proofs.index.Index.vacuum.Goals as goal

pub returns-then-not-is_running-clause-cause : goal.returns-then-not-is_running-clause-cause
returns-then-not-is_running-clause-cause g c session seat honest start history calls fits number call is =
    let self = c.args.self.now in
    let same : session ≡ c.in-Some.at = self.agree.one c.in-Some.at session c.in-Some.ensures.seat seat in
    let here : IsRunningCall calls c.in-Some.at number call = subst (λ (n : ℕ). IsRunningCall calls n number call) same is in
    absurd (true≢false (sym (runs_has_call g.S.PageStore start (snapshot_of (slots_within self) history calls) fits c.in-Some.at number call here)
    ∙ sym c.is_running.ensures.value ∙ c.if-not-is_running.true))

pub returns-clause-runs : goal.returns-clause-runs
returns-clause-runs g c session seat busy =
    let self = c.args.self.now in
    let same : session ≡ c.in-Some.at = self.agree.one c.in-Some.at session c.in-Some.ensures.seat seat in
    let vacuums = self.agree.sits c.in-Some.at c.in-Some.ensures.seat (λ over. busy (subst (λ (n : ℕ). slot_of self.calls.slots.items n ≡ None) (sym same) over)) in
    (part_runs session c.in-Some.at same c.told.result (c.told.ensures (part_may (is_row_in self.rows ∷ []) (slot_of self.calls.slots.items c.in-Some.at) vacuums c.take_steps.result c.take_steps.ensures.kind)) c.take_steps.ensures.goes)

pub returns-clause-made : goal.returns-clause-made
returns-clause-made g c session seat busy =
    let self = c.args.self.now in
    let same : session ≡ c.in-Some.at = self.agree.one c.in-Some.at session c.in-Some.ensures.seat seat in
    let vacuums = self.agree.sits c.in-Some.at c.in-Some.ensures.seat (λ over. busy (subst (λ (n : ℕ). slot_of self.calls.slots.items n ≡ None) (sym same) over)) in
    (part_made c.args.steps session c.in-Some.at same c.told.result (c.told.ensures (part_may (is_row_in self.rows ∷ []) (slot_of self.calls.slots.items c.in-Some.at) vacuums c.take_steps.result c.take_steps.ensures.kind)) c.take_steps.ensures.made)

pub returns-clause-keeps : goal.returns-clause-keeps
returns-clause-keeps g c session seat honest start history calls fits number call is =
    let self = c.args.self.now in
    let same : session ≡ c.in-Some.at = self.agree.one c.in-Some.at session c.in-Some.ensures.seat seat in
    let here : IsRunningCall calls c.in-Some.at number call = subst (λ (n : ℕ). IsRunningCall calls n number call) same is in
    let r = c.take_steps.ensures.goes honest start history calls fits in
    let x = snapshot_of (slots_within self) history calls in
    let y = snapshot_of (here_with c.take_steps.new.store c.take_steps.new.calls.slots.items (is_row_in self.rows ∷ [])) r.then_history r.then_calls in
    let effects = part_effects c.in-Some.at c.take_steps.result x y r.tells.told number call here in
    (λ dead ask. part_loses g.S.PageStore start x y fits r.ran.fits number call effects dead ask, λ ask e. part_stays g.S.PageStore start x y fits r.ran.fits number call effects ask e)

pub returns-clause-counts : goal.returns-clause-counts
returns-clause-counts g c session seat honest start history calls fits number call is stats finished =
    let self = c.args.self.now in
    let same : session ≡ c.in-Some.at = self.agree.one c.in-Some.at session c.in-Some.ensures.seat seat in
    let here : IsRunningCall calls c.in-Some.at number call = subst (λ (n : ℕ). IsRunningCall calls n number call) same is in
    let x = snapshot_of (slots_within self) history calls in
    let vacuums = self.agree.sits c.in-Some.at c.in-Some.ensures.seat (busy_of g.S.PageStore start x fits c.in-Some.at number call here) in
    let r = c.take_steps.ensures.goes honest start history calls fits in
    part_counts g.S.PageStore g.met.S.PageStore.laws c.in-Some.at start self (here_with c.take_steps.new.store c.take_steps.new.calls.slots.items (is_row_in self.rows ∷ [])) history r.then_history
    calls r.then_calls fits c.take_steps.result r.tells c.told.result
    (c.told.ensures (part_may (is_row_in self.rows ∷ []) (slot_of self.calls.slots.items c.in-Some.at) vacuums c.take_steps.result c.take_steps.ensures.kind)) number call here stats finished

pub returns-clause-idle : goal.returns-clause-idle
returns-clause-idle g c none = c.take_steps.ensures.idle none

pub returns-clause-lasts : goal.returns-clause-lasts
returns-clause-lasts g c session seat last runs =
    let self = c.args.self.now in
    let same : session ≡ c.in-Some.at = self.agree.one c.in-Some.at session c.in-Some.ensures.seat seat in
    let vacuums = self.agree.sits c.in-Some.at c.in-Some.ensures.seat (λ over. runs (subst (λ (n : ℕ). slot_of self.calls.slots.items n ≡ None) (sym same) over)) in
    lasts_at session c.in-Some.at same (slot_of self.calls.slots.items) (slot_of c.take_steps.new.calls.slots.items) c.told.result c.take_steps.result
    (c.told.ensures (part_may (is_row_in self.rows ∷ []) (slot_of self.calls.slots.items c.in-Some.at) vacuums c.take_steps.result c.take_steps.ensures.kind))
    c.take_steps.ensures.lasts last runs

pub returns-clause-entries : goal.returns-clause-entries
returns-clause-entries g c session seat what honest start history calls fits =
    let self = c.args.self.now in
    let same : session ≡ c.in-Some.at = self.agree.one c.in-Some.at session c.in-Some.ensures.seat seat in
    let busy = runs_some self.calls.slots.items c.in-Some.at (sym c.is_running.ensures.value ∙ c.if-not-is_running.false) in
    let vacuums = self.agree.sits c.in-Some.at c.in-Some.ensures.seat busy in
    let r = c.take_steps.ensures.goes honest start history calls fits in
    counts_on what (is_row_in self.rows ∷ []) (g.S.PageStore.state self.store) (g.S.PageStore.state c.take_steps.new.store) session c.in-Some.at same
    (slot_of self.calls.slots.items) (slot_of c.take_steps.new.calls.slots.items) c.told.result c.take_steps.result
    (c.told.ensures (part_may (is_row_in self.rows ∷ []) (slot_of self.calls.slots.items c.in-Some.at) vacuums c.take_steps.result c.take_steps.ensures.kind)) (r.tells.counts what)

pub returns-clause-cause : goal.returns-clause-cause
returns-clause-cause g c session seat honest start history calls fits number call is =
    let self = c.args.self.now in
    let same : session ≡ c.in-Some.at = self.agree.one c.in-Some.at session c.in-Some.ensures.seat seat in
    let here : IsRunningCall calls c.in-Some.at number call = subst (λ (n : ℕ). IsRunningCall calls n number call) same is in
    let x = snapshot_of (slots_within self) history calls in
    let vacuums = self.agree.sits c.in-Some.at c.in-Some.ensures.seat (busy_of g.S.PageStore start x fits c.in-Some.at number call here) in
    let r = c.take_steps.ensures.goes honest start history calls fits in
    cause_at g.S.PageStore session c.in-Some.at same c.told.result self c.take_steps.new.store calls
    (part_caused g.S.PageStore g.met.S.PageStore.laws c.in-Some.at start self (here_with c.take_steps.new.store c.take_steps.new.calls.slots.items (is_row_in self.rows ∷ [])) history r.then_history
    calls r.then_calls fits c.take_steps.result r.tells vacuums c.told.result
    (c.told.ensures (part_may (is_row_in self.rows ∷ []) (slot_of self.calls.slots.items c.in-Some.at) vacuums c.take_steps.result c.take_steps.ensures.kind))) number call is

pub returns-in_default-clause-fits : goal.returns-in_default-clause-fits
returns-in_default-clause-fits g c honest start history calls fits = (history, calls, fits)

pub returns-then-not-is_running-clause-fits : goal.returns-then-not-is_running-clause-fits
returns-then-not-is_running-clause-fits g c honest start history calls fits = (history, calls, fits)

pub returns-clause-fits : goal.returns-clause-fits
returns-clause-fits g c honest start history calls fits = (let r = c.take_steps.ensures.goes honest start history calls fits in (r.then_history, r.then_calls, r.ran.fits))
