use Rattle.std.proofs.Common.{Option, Some, Ok, sym, ap, subst, ◌∙◌}
use Rattle.split_finish.proofs.Imports.{TurnedOrReady, FinishStep}
use Rattle.split_finish.proofs.InPlace.{first_is, second_is}
use Rattle.split_finish.proofs.Stepping.{turns_after}
use Rattle.split_finish.proofs.finish.FinishOp.link_to.Goals as goal

pub returns-in-Ok-Some-clause-all : goal.returns-in-Ok-Some-clause-all
returns-in-Ok-Some-clause-all g c =
    let st = g.S.PageStore.state c.args.store.now in
    let are = c.requires.read in
    let first = first_is c.args.pages.now are.parent are.page are.rest c.index-pages-0.result are.pages_are in
    let second = second_is c.args.pages.now are.parent are.page are.rest c.index-pages-1.result are.pages_are in
    turns_after g.S.PageStore c.args.self.now c.turn_at_parent.new.self c.args.store.now (Ok c.in-Ok-Some.step) c.turn_at_parent.ensures.session tt
    (λ honest. subst (λ (o : Option FinishStep). TurnedOrReady st c.args.self.now c.turn_at_parent.new.self (Ok o)) c.in-Ok-Some.field-0-is
    (c.in-Ok-Some.ensures.turn st (are.read.found honest ∙ ap Some (sym second)) (are.read_parent.found honest ∙ ap Some (sym first))))
