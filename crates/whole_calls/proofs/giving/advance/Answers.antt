use Rattle.std.proofs.Common.{rules, ◌≡◌, None, refl, ap}
use Rattle.whole_calls.proofs.Imports.{Next, Gave, MovesCall, Takes, is_last, slot_of}
use Rattle.whole_calls.proofs.Composing.{joined_second}
use Rattle.whole_calls.proofs.Made.{made_among, made_last, made_once}
use Rattle.whole_calls.proofs.OneSteps.{runs_unless}
use Rattle.whole_calls.proofs.Lasting.{scan_steps, scan_nexts, waits_after, waits_none}
use Rattle.whole_calls.proofs.giving.advance.Goals as goal

pub returns-clause-goes : goal.returns-clause-goes
returns-clause-goes g c = scan_nexts g.met.S.PageStore.laws c.next-answer.ensures.steps c.next-answer.ensures.makes

pub returns-2-clause-goes : goal.returns-2-clause-goes
returns-2-clause-goes g c = scan_nexts g.met.S.PageStore.laws c.next-answer.ensures.steps c.next-answer.ensures.makes

pub returns-in-Gave-None-clause-goes : goal.returns-in-Gave-None-clause-goes
returns-in-Gave-None-clause-goes g c =
    let laws = g.met.S.PageStore.laws in
    let none : c.next-answer.result ≡ Gave None = search rules in
    joined_second laws _ c.next-answer.ensures.steps c.step.ensures.steps
    (scan_nexts laws {least_room = c.args.least_room} c.next-answer.ensures.steps c.next-answer.ensures.makes) c.step.ensures.goes
    (λ start h hc k kc l lc fx fy fz one two.
    waits_after (waits_none none one) (scan_steps (record { steps = c.step.ensures.steps; others = c.step.ensures.others.others }) two))

pub returns-clause-made : goal.returns-clause-made
returns-clause-made g c = made_once (Next c.args.session) (MovesCall c.args.session Takes) refl refl tt c.next-answer.ensures.makes

pub returns-2-clause-made : goal.returns-2-clause-made
returns-2-clause-made g c = made_once (Next c.args.session) (MovesCall c.args.session Takes) refl refl tt c.next-answer.ensures.makes

pub returns-in-Gave-None-clause-made : goal.returns-in-Gave-None-clause-made
returns-in-Gave-None-clause-made g c =
    made_last (made_once (Next c.args.session) (MovesCall c.args.session Takes) refl refl tt c.next-answer.ensures.makes) (made_among c.step.ensures.made)

pub returns-clause-lasts : goal.returns-clause-lasts
returns-clause-lasts g c =
    runs_unless (slot_of c.args.calls.now.slots.items c.args.session) (slot_of c.next-answer.new.calls.slots.items c.args.session) c.next-answer.result c.next-answer.ensures.makes.always.until_last

pub returns-2-clause-lasts : goal.returns-2-clause-lasts
returns-2-clause-lasts g c =
    runs_unless (slot_of c.args.calls.now.slots.items c.args.session) (slot_of c.next-answer.new.calls.slots.items c.args.session) c.next-answer.result c.next-answer.ensures.makes.always.until_last

pub returns-in-Gave-None-clause-lasts : goal.returns-in-Gave-None-clause-lasts
returns-in-Gave-None-clause-lasts g c last runs =
    let none : c.next-answer.result ≡ Gave None = search rules in
    c.step.ensures.lasts last
    (runs_unless (slot_of c.args.calls.now.slots.items c.args.session) (slot_of c.next-answer.new.calls.slots.items c.args.session) c.next-answer.result
    c.next-answer.ensures.makes.always.until_last (ap is_last none) runs)
