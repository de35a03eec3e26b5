use Rattle.std.proofs.Common.{refl, Some}
use Rattle.buffer_pool.proofs.Putting.{same_changes}
use Rattle.buffer_pool.proofs.Noting.{same_pages}
use Rattle.buffer_pool.proofs.Sound.{found_free}
use Rattle.buffer_pool.proofs.pool.Pool.unused_frame.Goals as goal

pub returns-in-Some-clause-found : goal.returns-in-Some-clause-found
returns-in-Some-clause-found c =
    let found = c.in-Some.ensures in
    found_free _ c.args.pinned.now c.deref.result.now c.deref-2.result.now (Some c.in-Some.at) c.deref.ensures.value c.deref-2.ensures.value
    found.within found.clean found.unpinned

pub returns-in-Some-clause-pages : goal.returns-in-Some-clause-pages
returns-in-Some-clause-pages c = same_pages c.args.self.now _ refl refl refl

pub returns-in-Some-clause-changes : goal.returns-in-Some-clause-changes
returns-in-Some-clause-changes c = same_changes c.args.self.now _ refl (λ b. refl)

pub returns-in-None-clause-found : goal.returns-in-None-clause-found
returns-in-None-clause-found c =
    let found = c.unused_between-in-None.ensures in
    found_free _ c.args.pinned.now c.deref-in-None.result.now c.deref-in-None-2.result.now c.unused_between-in-None.result c.deref-in-None.ensures.value c.deref-in-None-2.ensures.value
    found.within found.clean found.unpinned

pub returns-in-None-clause-pages : goal.returns-in-None-clause-pages
returns-in-None-clause-pages c = same_pages c.args.self.now _ refl refl refl

pub returns-in-None-clause-changes : goal.returns-in-None-clause-changes
returns-in-None-clause-changes c = same_changes c.args.self.now _ refl (λ b. refl)
