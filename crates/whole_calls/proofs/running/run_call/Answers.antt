use Rattle.std.proofs.Common.{map, Option, Some, refl, sym, subst, inl, inr}
use Rattle.whole_calls.proofs.Imports.{AreLimits, Format, Ask, asked_by, Op, snapshot_of, MayAnswer, MayComeTo}
use Rattle.whole_calls.proofs.Blocks.{leaves_all}
use Rattle.whole_calls.proofs.Composing.{joined_first, joined_second, goes_told}
use Rattle.whole_calls.proofs.Whole.{RunsOut, has_run}
use Rattle.whole_calls.proofs.Made.{made_then, made_first, made_told, answered_right}
use Rattle.whole_calls.proofs.Tellings.{asked_before, refused_may}
use Rattle.whole_calls.proofs.running.run_call.Goals as goal

pub returns-clause-goes : goal.returns-clause-goes
returns-clause-goes g c =
    let laws = g.met.S.PageStore.laws in
    let end = c.give_up.ensures in
    let are = subst (λ (l : Format). AreLimits l) (sym c.begin.ensures.format) c.limits-limits.ensures.allowed in
    joined_second laws _ c.begin.ensures.steps (λ f h. end.steps f (c.finish-answer.ensures.steps f h)) (rw c.in-Ok.is at c.begin.ensures.goes)
    (joined_first laws (RunsOut g.S.PageStore c.args.session c.args.least_room c.finish-answer.result c.added-added.result)
    c.finish-answer.ensures.steps end.steps c.finish-answer.ensures.goes end.goes (λ start h hc k kc l lc fx fy fz one two. record {
      here = snapshot_of _ k kc;
      fits = fy;
      finish = one;
      add = c.added-added.ensures;
      end = two;
      leaves = leaves_all fy end.backing end.state;
      state = end.state;
    }))
    (λ start h hc k kc l lc fx fy fz one two. inr (has_run laws one fy (record { steps = c.begin.ensures.steps; others = c.begin.ensures.others.others }) two are))

pub returns-in-Err-clause-goes : goal.returns-in-Err-clause-goes
returns-in-Err-clause-goes g c =
    goes_told _ (rw c.in-Err.is at c.begin.ensures.goes)
    (λ start h hc k kc answers fits came begun. (came, inl (record { fault = c.in-Err.fault; refused = refl; none = refl; told = begun.told; cause = c.in-Err.ensures.cause })))

pub returns-clause-made : goal.returns-clause-made
returns-clause-made g c =
    let least = c.args.least_room in
    let answer = c.finish-answer.result in
    made_then (c.begin.ensures.made least) (made_first (Some answer) c.finish-answer.ensures.made (c.give_up.ensures.made least)) (λ xs ys one two. answered_right xs ys answer two)

pub returns-in-Err-clause-made : goal.returns-in-Err-clause-made
returns-in-Err-clause-made g c = made_told (rw c.in-Err.is at (c.begin.ensures.made c.args.least_room)) (λ xs came. inl came)

pub returns-clause-kind : goal.returns-clause-kind
returns-clause-kind g c =
    let sets = map g.T.DeadRows.is_in c.args.sets.now in
    let answer = c.finish-answer.result in
    subst (λ (a : Ask). MayAnswer a answer) (asked_before sets c.args.session c.args.request) (subst (λ (o : Option Op). MayComeTo sets o answer) c.in-Ok.ensures.begins c.finish-answer.ensures.kind)

pub returns-in-Err-clause-kind : goal.returns-in-Err-clause-kind
returns-in-Err-clause-kind g c = refused_may (asked_by (map g.T.DeadRows.is_in c.args.sets.now) c.args.request) c.in-Err.fault
