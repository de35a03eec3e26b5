use Rattle.buffer_pool.proofs.Sound.{found_free, found_none}
use Rattle.buffer_pool.proofs.pool.Pool.clean_frame.Goals as goal

pub returns-clause-found : goal.returns-clause-found
returns-clause-found c =
    let found = c.clean_from.ensures in
    found_free c.args.self.now c.args.pinned.now c.deref.result.now c.deref-2.result.now c.clean_from.result c.deref.ensures.value c.deref-2.ensures.value
    found.within found.clean found.unpinned

pub returns-clause-none : goal.returns-clause-none
returns-clause-none c =
    found_none c.args.self.now c.args.pinned.now c.deref.result.now c.deref-2.result.now c.clean_from.result c.deref.ensures.value c.deref-2.ensures.value
    c.clean_from.ensures.none
