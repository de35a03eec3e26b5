use Rattle.std.proofs.Common.{List, Option, slice_get, refl, ap, ◌∙◌, sym, rules}
use Rattle.shared_world.specs.declared.record.Pending.{Pending}
use Rattle.sessions.proofs.Imports.{known_by}
use Rattle.sessions.proofs.Hiring.{none_snoc, told_of_records}
use Rattle.sessions.proofs.run_threads.run_threads.Goals as goal

pub first-shared-requires-clause-pending : goal.first-shared-requires-clause-pending
first-shared-requires-clause-pending g c session p e =
    none_snoc c.start_all-started.new.pending.items (c.if-not-started.ensures.none refl) session p (ap (λ (xs : List (Option Pending)). slice_get xs session) (sym c.push_reserved.ensures.items) ∙ e)

pub returns-clause-told : goal.returns-clause-told
returns-clause-told g c =
    let out = c.work_out-seats in
    let seats = out.result.0 in
    let hands = out.result.2 in
    record {
      each_has = sym hands.ok.0 ∙ out.ensures.held ∙ search rules;
      told_are = told_of_records g.H.Telling.told (λ s. (known_by s.pass).notes) seats.items hands.items c.ended-world.result.2.items
          (sym hands.ok.0 ∙ out.ensures.held ∙ sym (sym seats.ok.0 ∙ out.ensures.len)) out.ensures.told c.ended-world.ensures.notes;
    }
