use Rattle.std.specs.Prelude.{map}
use Rattle.std.proofs.Common.{◌≡◌, ◌<◌, ℕ, Bool, true, Option, refl, sym, ap, subst, ◌∙◌}
use Rattle.session_calls.proofs.Going.{event_of_last, event_of_more, low_of}
use Rattle.session_calls.proofs.Imports.{session_of, is_bulk_delete, SlotFits, let_go, Op, if◌then◌else◌, Some, None, State, Backing, DueCountsDown, LeavesOwnIncomplete, StandsByAnswer}
use Rattle.session_calls.proofs.Imports.{KeepsBeforePins, CountsEntries, CountsPages, SparesLeaves}
use Rattle.session_calls.proofs.Counting.{incomplete_on, counts_over}
use Rattle.session_calls.proofs.Deleting.{tells_over, deletes_over, spares_over}
use Rattle.session_calls.proofs.Effects.{go_pages}
use Rattle.session_calls.proofs.Freeing.{frees_over, tells_no_more}
use Rattle.session_calls.proofs.Scanning.{stands_over}
use Rattle.session_calls.proofs.Slots.{shown}
use Rattle.session_calls.proofs.moves.step.Given.{Over}
use Rattle.session_calls.proofs.moves.step.Goals.{After-step-answer}
use Rattle.session_calls.proofs.moves.step.Goals as goal

-- the slot counts, and has this call
runs : (g : Over) (c : After-step-answer g) → c.args.slot.now ≡ Some c.in-Some.op
runs g c = shown c.slot.inside.is_running c.slot.inside.op c.args.slot.now c.slot.view_is c.if-not-slot.false ∙ c.in-Some.is

pub returns-then-is_last-clause-goes : goal.returns-then-is_last-clause-goes
returns-then-is_last-clause-goes g c honest start history number call fits =
    let is = runs g (goal.at.returns-then-is_last-clause-goes g c).After-step-answer in
    let old = g.S.PageStore.state c.args.store.now in
    let sets = map g.T.DeadRows.is_in c.args.sets.now in
    let mid = g.S.PageStore.state c.step-answer.new.store in
    let mine = subst (λ (slot : Option Op). SlotFits old sets start history number call slot) is fits in
    let low : call.session < 64 = subst (λ (t : ℕ). t < 64) mine.runs.session (low_of old c.in-Some.op mine.runs.fits) in
    let goes = rw (sym c.let_go.ensures.backing) at (c.step-answer.ensures.goes (rw (sym c.let_go.ensures.backing) honest) start history number call mine) in
    rw is (event_of_last _ old mid (g.S.PageStore.state c.let_go.new.store) start history number call c.in-Some.op c.step-answer.new.self c.step-answer.result mine.runs.ask mine.world low goes
    (sym c.is_last.ensures ∙ c.if-is_last.true)
    (c.let_go.ensures.state ∙ ap (λ (v : Bool). let_go v (session_of c.step-answer.new.self) mid) c.step-answer.ensures.all.same_bulk
    ∙ ap (λ (t : ℕ). let_go (is_bulk_delete c.in-Some.op) t mid) (c.step-answer.ensures.all.session ∙ mine.runs.session)) mine.running)

pub returns-else-is_last-clause-goes : goal.returns-else-is_last-clause-goes
returns-else-is_last-clause-goes g c honest start history number call fits =
    let is = runs g (goal.at.returns-else-is_last-clause-goes g c).After-step-answer in
    let old = g.S.PageStore.state c.args.store.now in
    let sets = map g.T.DeadRows.is_in c.args.sets.now in
    let mine = subst (λ (slot : Option Op). SlotFits old sets start history number call slot) is fits in
    let low : call.session < 64 = subst (λ (t : ℕ). t < 64) mine.runs.session (low_of old c.in-Some.op mine.runs.fits) in
    rw (is, c.if-not-slot.false)
    (event_of_more _ old (g.S.PageStore.state c.step-answer.new.store) (g.S.PageStore.state c.step-answer.new.store) start history number call
    c.in-Some.op c.step-answer.new.self c.step-answer.result mine.runs.ask mine.world low
    (c.step-answer.ensures.goes honest start history number call mine) (sym c.is_last.ensures ∙ c.if-is_last.false) refl mine.running)

-- what is followed of a call that ends with this step
pub returns-then-is_last-clause-follows : goal.returns-then-is_last-clause-follows
returns-then-is_last-clause-follows g c honest =
    let is = runs g (goal.at.returns-then-is_last-clause-follows g c).After-step-answer in
    let old = g.S.PageStore.state c.args.store.now in
    let sets = map g.T.DeadRows.is_in c.args.sets.now in
    let mid = g.S.PageStore.state c.step-answer.new.store in
    let new = g.S.PageStore.state c.let_go.new.store in
    let after = c.step-answer.new.self in
    let model : (g.S.PageStore.backing c.step-answer.new.store).honest ≡ true = ap (λ (b : Backing). b.honest) (sym c.let_go.ensures.backing) ∙ honest in
    let last = sym c.is_last.ensures ∙ c.if-is_last.true in
    let pages = ap (λ (st : State). st.pages) c.let_go.ensures.state ∙ go_pages (is_bulk_delete after) (session_of after) mid in
    rw is (record {
      fitted = λ fitted. record {
        due = λ left due. counts_over old mid new (Some c.in-Some.op) left c.step-answer.result
            (subst (λ (b : Bool). DueCountsDown old mid (Some c.in-Some.op) (if b then None else Some after) left c.step-answer.result) last
            (c.step-answer.ensures.due model fitted.fits.world.order fitted.fits.runs.fits left due));
        incomplete = λ own. incomplete_on mid new (Some c.in-Some.op) None c.step-answer.result pages
            (subst (λ (b : Bool). LeavesOwnIncomplete mid (Some c.in-Some.op) (if b then None else Some after) c.step-answer.result) last
            (c.step-answer.ensures.incomplete model fitted.fits.world.order fitted.fits.world.starts fitted.fits.runs.fits own));
        stands = stands_over new (Some c.in-Some.op) c.step-answer.result last;
        frees = frees_over (is_bulk_delete after) (session_of after) old mid new after c.let_go.ensures.state c.in-Some.op c.step-answer.result c.step-answer.ensures.all.session
            c.step-answer.ensures.all.stats (c.step-answer.ensures.goes model fitted.start fitted.history fitted.number fitted.call fitted.fits);
      };
      each = record {
        waits = subst (λ (b : Bool). KeepsBeforePins old (Some c.in-Some.op) (if b then None else Some after) c.step-answer.result) last (c.step-answer.ensures.pins model);
        entries = subst (λ (st : State). CountsEntries sets old st (Some c.in-Some.op) None c.step-answer.result) (sym c.let_go.ensures.state)
            (tells_over sets (is_bulk_delete after) (session_of after) old mid (Some c.in-Some.op) _ c.step-answer.result (c.step-answer.ensures.entries model));
        deletes = subst (λ (st : State). CountsPages old st (Some c.in-Some.op) None c.step-answer.result) (sym c.let_go.ensures.state)
            (deletes_over (is_bulk_delete after) (session_of after) old mid (Some c.in-Some.op) _ c.step-answer.result (c.step-answer.ensures.deletes model));
        spares = subst (λ (st : State). SparesLeaves old st (Some c.in-Some.op) None c.step-answer.result) (sym c.let_go.ensures.state)
            (spares_over (is_bulk_delete after) (session_of after) old mid (Some c.in-Some.op) _ c.step-answer.result (c.step-answer.ensures.spares model));
      };
    })

-- ... that goes on
pub returns-else-is_last-clause-follows : goal.returns-else-is_last-clause-follows
returns-else-is_last-clause-follows g c honest =
    let is = runs g (goal.at.returns-else-is_last-clause-follows g c).After-step-answer in
    let old = g.S.PageStore.state c.args.store.now in
    let new = g.S.PageStore.state c.step-answer.new.store in
    let after = c.step-answer.new.self in
    let sets = map g.T.DeadRows.is_in c.args.sets.now in
    let on = sym c.is_last.ensures ∙ c.if-is_last.false in
    rw (is, c.if-not-slot.false) (record {
      fitted = λ fitted. record {
        due = λ left due. subst (λ (b : Bool). DueCountsDown old new (Some c.in-Some.op) (if b then None else Some after) left c.step-answer.result) on
            (c.step-answer.ensures.due honest fitted.fits.world.order fitted.fits.runs.fits left due);
        incomplete = λ own. subst (λ (b : Bool). LeavesOwnIncomplete new (Some c.in-Some.op) (if b then None else Some after) c.step-answer.result) on
            (c.step-answer.ensures.incomplete honest fitted.fits.world.order fitted.fits.world.starts fitted.fits.runs.fits own);
        stands = subst (λ (b : Bool). StandsByAnswer new (Some c.in-Some.op) (if b then None else Some after) c.step-answer.result) on
            (c.step-answer.ensures.stands honest fitted.fits.world.order fitted.fits.runs.fits);
        frees = tells_no_more new (Some c.in-Some.op) c.step-answer.result on;
      };
      each = record {
        waits = subst (λ (b : Bool). KeepsBeforePins old (Some c.in-Some.op) (if b then None else Some after) c.step-answer.result) on (c.step-answer.ensures.pins honest);
        entries = subst (λ (b : Bool). CountsEntries sets old new (Some c.in-Some.op) (if b then None else Some after) c.step-answer.result) on (c.step-answer.ensures.entries honest);
        deletes = subst (λ (b : Bool). CountsPages old new (Some c.in-Some.op) (if b then None else Some after) c.step-answer.result) on (c.step-answer.ensures.deletes honest);
        spares = subst (λ (b : Bool). SparesLeaves old new (Some c.in-Some.op) (if b then None else Some after) c.step-answer.result) on (c.step-answer.ensures.spares honest);
      };
    })
