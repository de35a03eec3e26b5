use Rattle.std.proofs.Common.{Bool, ap, ◌∙◌}
use Rattle.session_calls.specs.Sessions.{after_request}
use Rattle.session_calls.proofs.Beginning.{begins, has_steps}
use Rattle.session_calls.proofs.begins.begin.Goals as goal

pub returns-clause-begins : goal.returns-clause-begins
returns-clause-begins g c begun sets start history number matches idle =
    begins (g.S.PageStore.state c.args.store.now) sets start history number c.args.session c.in_default.ensures.low matches idle (g.S.PageStore.state c.start.new.store) c.args.request c.fill.new.slot
    (c.in_default.ensures.done ∙ ap (λ (v : Bool). after_request v c.args.session (g.S.PageStore.state c.args.store.now)) c.asks_bulk_delete.ensures) c.fill.ensures

pub returns-clause-counts : goal.returns-clause-counts
returns-clause-counts g c begun =
    has_steps (g.S.PageStore.state c.args.store.now) (g.S.PageStore.state c.start.new.store) c.args.session c.args.request c.fill.new.slot
    (c.in_default.ensures.done ∙ ap (λ (v : Bool). after_request v c.args.session (g.S.PageStore.state c.args.store.now)) c.asks_bulk_delete.ensures) c.fill.ensures
    c.start.ensures.format c.start.ensures.few
