use Rattle.std.proofs.Common.{◌∙◌, refl, sym, arith}
use Rattle.buffer_pool.specs.Pools.{most_of, pool_count}
use Rattle.buffer_pool.proofs.Putting.{same_changes}
use Rattle.buffer_pool.proofs.Noting.{same_pages, pages_both, changes_both}
use Rattle.buffer_pool.proofs.Sound.{unused_free, free_stays, oldest_at, oldest_is, none_free}
use Rattle.buffer_pool.proofs.pool.Pool.choose.Goals as goal

pub returns-then-held-self-clause-choice : goal.returns-then-held-self-clause-choice
unfolding pool_count
returns-then-held-self-clause-choice c = record {
  free = unused_free c.args.self.now c.args.pinned.now c.len-held.result (omega arith) c.if-held-self.true;
  unused = λ some. omega arith;
}

pub overflow_add-self : goal.overflow_add-self
unfolding most_of
overflow_add-self c = omega (arith, c.in-Some.ensures.found.taken.within)

pub returns-in-Some-clause-choice : goal.returns-in-Some-clause-choice
unfolding most_of pool_count
returns-in-Some-clause-choice c = record {
  free = free_stays c.free_frame.new.self _ c.args.pinned.now c.in-Some.at
      (same_pages c.free_frame.new.self _ refl refl refl) (same_changes c.free_frame.new.self _ refl (λ b. refl)) c.in-Some.ensures.found;
  unused = λ some. absurd (omega (arith, some, c.if-held-self.false, c.free_frame.ensures.pages.most, c.free_frame.ensures.pages.count));
}

pub returns-in-Some-clause-pages : goal.returns-in-Some-clause-pages
returns-in-Some-clause-pages c = pages_both c.args.self.now c.free_frame.new.self _ c.free_frame.ensures.pages (same_pages c.free_frame.new.self _ refl refl refl)

pub returns-in-Some-clause-changes : goal.returns-in-Some-clause-changes
returns-in-Some-clause-changes c = changes_both c.args.self.now c.free_frame.new.self _ c.free_frame.ensures.changes (same_changes c.free_frame.new.self _ refl (λ b. refl))

pub act-requires : goal.act-requires
act-requires c = record {
  changed = oldest_at c.free_frame.new.self c.args.pinned.now c.as_slice.result.now c.in-Some-unpinned_place.place c.block_at-block.result
      c.as_slice.ensures (sym c.unpinned_place.ensures ∙ c.in-Some-unpinned_place.is) c.block_at-block.ensures;
}

pub returns-in-Some-unpinned_place-clause-choice : goal.returns-in-Some-unpinned_place-clause-choice
unfolding most_of pool_count
returns-in-Some-unpinned_place-clause-choice c =
    oldest_is c.free_frame.new.self c.args.pinned.now c.as_slice.result.now c.in-Some-unpinned_place.place c.block_at-block.result c.act.result
    c.as_slice.ensures (sym c.unpinned_place.ensures ∙ c.in-Some-unpinned_place.is) c.block_at-block.ensures c.act.ensures.act
    (omega (arith, c.free_frame.ensures.pages.most, c.free_frame.ensures.pages.count)) c.in_default.ensures.none

pub returns-in-None-clause-choice : goal.returns-in-None-clause-choice
unfolding most_of pool_count
returns-in-None-clause-choice c =
    none_free c.free_frame.new.self c.args.pinned.now c.as_slice.result.now c.as_slice.ensures (sym c.unpinned_place.ensures ∙ c.in-None.is)
    (omega (arith, c.free_frame.ensures.pages.most, c.free_frame.ensures.pages.count)) c.in_default.ensures.none
