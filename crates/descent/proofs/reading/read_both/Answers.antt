use Rattle.std.proofs.Common.{Some, slice_get, sym, ap, subst, ◌∙◌}
use Rattle.descent.proofs.Imports.{HasCause, causes_of_read, State, Backing, IsLater, Page}
use Rattle.descent.proofs.Working.{read_cause, rooms_kept}
use Rattle.descent.proofs.reading.read_both.Goals as goal

pub returns-in-Ok-clause-pages : goal.returns-in-Ok-clause-pages
returns-in-Ok-clause-pages g c honest =
    let later : IsLater (g.S.PageStore.backing c.fetch.new.self) (g.S.PageStore.backing c.fetch-2.new.self) =
    g.met.S.PageStore.laws.follows_later _ _ (c.fetch-2.ensures.steps _ (g.met.S.PageStore.laws.follows_same _)) in
    let first_state = c.fetch.ensures.state ∙ c.check_latch-2.ensures.state ∙ c.check_latch.ensures.state in (
      ap (λ (s : State). slice_get s.pages c.args.first) (sym first_state) ∙ c.view.ensures.page (later.honest honest) ∙ ap (λ (p : Page). Some p) (sym c.copy_to.ensures),
      ap (λ (s : State). slice_get s.pages c.args.second) (sym (c.fetch-2.ensures.state ∙ first_state)) ∙ c.view-in-Ok.ensures.page honest ∙ ap (λ (p : Page). Some p) (sym c.copy_to-in-Ok.ensures),
    )

pub returns-in-Ok-clause-room : goal.returns-in-Ok-clause-room
returns-in-Ok-clause-room g c =
    rooms_kept (g.S.PageStore.state c.args.store.now) (g.S.PageStore.state c.check_latch-2.new.store) (g.S.PageStore.state c.fetch.new.self)
    (g.S.PageStore.backing c.args.store.now) (g.S.PageStore.backing c.check_latch-2.new.store) (g.S.PageStore.backing c.fetch.new.self) (g.S.PageStore.backing c.fetch-2.new.self)
    (c.check_latch-2.ensures.state ∙ c.check_latch.ensures.state) c.fetch.ensures.state (c.check_latch-2.ensures.backing ∙ c.check_latch.ensures.backing)
    (g.met.S.PageStore.laws.follows_later _ _ (c.fetch.ensures.steps _ (g.met.S.PageStore.laws.follows_same _))) (g.met.S.PageStore.laws.durable_few c.fetch.new.self)
    c.fetch.ensures.room c.fetch-2.ensures.room

pub returns-in-Err-clause-room : goal.returns-in-Err-clause-room
returns-in-Err-clause-room g c =
    rooms_kept (g.S.PageStore.state c.args.store.now) (g.S.PageStore.state c.check_latch-2.new.store) (g.S.PageStore.state c.fetch.new.self)
    (g.S.PageStore.backing c.args.store.now) (g.S.PageStore.backing c.check_latch-2.new.store) (g.S.PageStore.backing c.fetch.new.self) (g.S.PageStore.backing c.fetch-2.new.self)
    (c.check_latch-2.ensures.state ∙ c.check_latch.ensures.state) c.fetch.ensures.state (c.check_latch-2.ensures.backing ∙ c.check_latch.ensures.backing)
    (g.met.S.PageStore.laws.follows_later _ _ (c.fetch.ensures.steps _ (g.met.S.PageStore.laws.follows_same _))) (g.met.S.PageStore.laws.durable_few c.fetch.new.self)
    c.fetch.ensures.room c.fetch-2.ensures.room

pub returns-in-Err-clause-cause : goal.returns-in-Err-clause-cause
returns-in-Err-clause-cause g c honest room one two images frames takes splits some =
    let st : State = g.S.PageStore.state c.args.store.now in
    let first : Backing = g.S.PageStore.backing c.args.store.now in
    let second : Backing = g.S.PageStore.backing c.fetch.new.self in
    let third : Backing = g.S.PageStore.backing c.fetch-2.new.self in
    let later : IsLater (g.S.PageStore.backing c.check_latch-2.new.store) second = g.met.S.PageStore.laws.follows_later _ _ (c.fetch.ensures.steps _ (g.met.S.PageStore.laws.follows_same _)) in
    let before = c.fetch.ensures.state ∙ c.check_latch-2.ensures.state ∙ c.check_latch.ensures.state in
    let was = c.check_latch-2.ensures.backing ∙ c.check_latch.ensures.backing in
    let earlier : IsLater first second = subst (λ (b : Backing). IsLater b second) was later in
    read_cause st first second third c.args.session images frames takes splits c.args.second c.in-Err.fault earlier.failures
    (λ h. ap (λ (b : Backing). b.stopped) (sym was) ∙ c.in_ok-fetch.ensures.alive h) honest two some
    (subst (λ (s : State). HasCause (causes_of_read s second third c.args.second) c.in-Err.fault) before c.in-Err.ensures.cause)
