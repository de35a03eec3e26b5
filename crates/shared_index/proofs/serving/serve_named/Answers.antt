use Rattle.std.proofs.Common.{Some, subst, sym}
use Rattle.shared_index.specs.Told.{HaveLearnt, all_told}
use Rattle.world.specs.Worlds.{WorldFits, WorldKeeps}
use Rattle.shared_world.specs.Handed.{handed_of}
use Rattle.shared_index.proofs.Closing.{served_as}
use Rattle.shared_index.proofs.serving.serve_named.Goals as goal

pub returns-clause-served : goal.returns-clause-served
returns-clause-served g c =
    let store = g.S.PageStore in
    let rows = g.T.DeadRows in
    let origin = g.J.Origin in
    let done = c.closed.result in
    let ran = c.run_all-live in
    let mine = all_told ran.result.1.items in
    served_as store rows origin.stood origin.kept_then (WorldFits store rows c.args.world) (WorldKeeps store rows c.args.world) g.J.OriginOn.followed (λ first. store.follows first c.args.world.store)
    origin.handed (handed_of store rows (Some 0) c.args.world) mine (HaveLearnt g.C.Client.learnt done.outs.items) done.world done.start done.idle (λ contents history calls fit. (c.requires.stood contents history calls).1 fit)
    (λ contents history calls kept. (c.requires.kept_then contents history calls).1 kept) (λ first was. (c.requires.followed first).1 was) c.requires.handed
    (subst (λ outs. HaveLearnt g.C.Client.learnt outs.items mine) (sym c.closed.ensures.outs) ran.ensures.learnt) c.closed.ensures.done
