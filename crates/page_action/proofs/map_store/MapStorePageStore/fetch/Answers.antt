use Rattle.std.proofs.Common.{inl, inr, ap, sym, ◌∙◌, arith}
use Rattle.page_action.proofs.Imports.{slice_get_cases, is_block_among, blocks_of}
use Rattle.page_action.proofs.StoredPages.{stored_page}
use Rattle.page_action.proofs.Framing.{among_own}
use Rattle.page_action.proofs.map_store.MapStorePageStore.fetch.Goals as goal

pub returns-clause-in_memory : goal.returns-clause-in_memory
returns-clause-in_memory c =
    let store = c.args.self.now in
    elim (slice_get_cases store.pages.items c.args.block).1 [
      | inl there ↦
          ap (is_block_among (blocks_of store.pages.items)) (sym (stored_page store.format c.args.block store.pages.items there.0 store.stored there.2).block_is)
          ∙ among_own store.pages.items c.args.block there.0 there.2
      | inr past ↦ absurd (omega (arith, past.0))
    ]
