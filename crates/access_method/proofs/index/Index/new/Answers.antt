use Rattle.std.proofs.Common.{Option, List, [], ◌∷◌, length, refl, sym, ap, ◌∙◌, true≢false}
use Rattle.access_method.specs.Rows.{is_row_in}
use Rattle.access_method.proofs.Imports.{slot_vacuums, Op, empty_at, unused_fits, unused_keeps}
use Rattle.access_method.proofs.Seats.{closed_at, none_seated}
use Rattle.access_method.proofs.index.Index.new.Goals as goal

pub invariant_of-result : goal.invariant_of-result
invariant_of-result g c =
    let slots = c.in-Ok.calls.slots.items in
    record {
      sessions = ap (λ (l : List (Option Op)). length l) c.in-Ok.ensures.slots;
      agree = record {
        inserts = empty_at 64 63 slots c.in-Ok.ensures.slots;
        free = λ session h. empty_at 64 session slots c.in-Ok.ensures.slots;
        vacuums = λ session h. absurd (true≢false (sym h ∙ ap slot_vacuums (empty_at 64 session slots c.in-Ok.ensures.slots)));
        sits = λ session h busy. absurd (busy (empty_at 64 session slots c.in-Ok.ensures.slots));
        one = λ session other h k. absurd (none_seated 63 session _ refl h);
      };
    }

pub returns-in-Ok-clause-fits : goal.returns-in-Ok-clause-fits
returns-in-Ok-clause-fits g c unused = unused_fits g.S.PageStore c.args.store c.in-Ok.calls.slots.items _ 64 c.in-Ok.ensures.slots unused

pub returns-in-Ok-clause-closed : goal.returns-in-Ok-clause-closed
returns-in-Ok-clause-closed g c token = closed_at 63 token.session token.number _ refl

pub returns-in-Ok-clause-keeps : goal.returns-in-Ok-clause-keeps
returns-in-Ok-clause-keeps g c unused own =
    unused_keeps g.S.PageStore g.met.S.PageStore.laws c.args.store c.in-Ok.calls.slots.items _ unused own
