use Rattle.std.proofs.Common.{◌≡◌, get_or, ap, sym, ◌∙◌}
use Rattle.std.proofs.lemmas.Option.{get_or_from_slice_get}
use Rattle.buffer_pool.specs.Pools.{act_of, changed_of}
use Rattle.page_store.proofs.Pooling.{can_be_taken}
use Rattle.page_store.proofs.logged_pages.LoggedPages.write_over.Goals as goal

pub returns-clause-free : goal.returns-clause-free
returns-clause-free g c =
    let old = c.args.self.now.pool in
    let new = c.write_changed.new.self.pool in
    let index : get_or (changed_of old) c.args.place 0 ≡ c.args.block = get_or_from_slice_get (changed_of old) c.args.place c.args.block 0 c.requires.at in
    can_be_taken new c.law-2.ensures c.args.block c.in-Some.at (sym c.in-Some.ensures.frame) (ap (act_of new) (sym index) ∙ c.in_ok-write_changed.ensures.written.written)
