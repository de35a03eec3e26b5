use Rattle.std.proofs.Common.{ℕ, subst}
use Rattle.page_codec.specs.Spelling.{page_bytes}
use Rattle.page_store.proofs.Imports.{Writes, place}
use Rattle.page_store.proofs.Places.{block_goes, block_has}
use Rattle.page_store.proofs.writing.write_page.Given.{Over}
use Rattle.page_store.proofs.writing.write_page.Goals.{After-put_page}
use Rattle.page_store.proofs.writing.write_page.Goals as goal

-- the bytes of the page are written at the block's place
written : (g : Over) (c : After-put_page g)
    → Writes (place c.args.format c.args.block) (page_bytes c.args.page.now) c.put_page.result (g.D.Device.trace c.args.device.now) (g.D.Device.trace c.put_page.new.device)
written g c =
    subst (λ (at : ℕ). Writes at (page_bytes c.args.page.now) c.put_page.result (g.D.Device.trace c.args.device.now)
    (g.D.Device.trace c.put_page.new.device)) c.page_place.ensures c.put_page.ensures.trace

pub returns-clause-moments : goal.returns-clause-moments
returns-clause-moments g c =
    block_goes c.args.format c.args.block c.requires.block _ _ _ c.put_page.result c.put_page.ensures.whole c.requires.inside (written g (goal.at.returns-clause-moments g c).After-put_page)

pub returns-clause-written : goal.returns-clause-written
returns-clause-written g c =
    block_has c.args.format c.args.block _ _ _ c.put_page.result c.requires.block c.put_page.ensures.whole c.requires.inside (written g (goal.at.returns-clause-written g c).After-put_page)
