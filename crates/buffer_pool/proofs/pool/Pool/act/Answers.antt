use Rattle.std.proofs.Common.{◌∙◌, sym, arith}
use Rattle.std.proofs.lemmas.List.{get_or_read}
use Rattle.buffer_pool.specs.Pools.{changed_of}
use Rattle.buffer_pool.proofs.Noting.{changed_held, changed_some, frame_within, held_act}
use Rattle.buffer_pool.proofs.pool.Pool.act.Goals as goal

pub frame-requires : goal.frame-requires
unfolding changed_of
frame-requires c = record { held = changed_held c.args.self.now c.args.block c.requires.changed }

pub index-requires : goal.index-requires
index-requires c = omega (arith, c.args.self.now.many_acts, frame_within c.args.self.now c.args.block c.frame.result c.frame.ensures)

pub returns-clause-act : goal.returns-clause-act
returns-clause-act c =
    let pool = c.args.self.now in
    let less = frame_within pool c.args.block c.frame.result c.frame.ensures in
    get_or_read pool.acts.items c.frame.result c.index.result.now (omega (arith, less, pool.many_acts)) c.index.ensures 0
    ∙ sym (held_act pool c.args.block c.frame.result c.frame.ensures)

pub returns-clause-changed : goal.returns-clause-changed
unfolding changed_of
returns-clause-changed c =
    let pool = c.args.self.now in
    let less = frame_within pool c.args.block c.frame.result c.frame.ensures in
    let is = get_or_read pool.acts.items c.frame.result c.index.result.now (omega (arith, less, pool.many_acts)) c.index.ensures 0 in
    omega (arith, is, held_act pool c.args.block c.frame.result c.frame.ensures, changed_some pool c.args.block c.requires.changed)
