use Rattle.std.proofs.Common.{ℕ, ◌+◌, sym, ◌∙◌, ap}
use Rattle.page_codec.specs.Spelling.{page_bytes}
use Rattle.page_store.proofs.Imports.{◌≡◌, Bool, false, IsTrue, slice_range, length-page, one_page, place}
use Rattle.page_store.proofs.Places.{range_has}
use Rattle.page_store.proofs.writing.read_page.Goals as goal

never : (b : Bool) → b ≡ false → IsTrue b → ⊥
never b is holds = absurd cc

pub returns-then-decode_stored-clause-read : goal.returns-then-decode_stored-clause-read
returns-then-decode_stored-clause-read g c honest page stored has =
    let long = length-page page stored.storable.admitted in
    let there = ap (λ (at : ℕ). slice_range (g.D.Device.trace c.args.device.now).now.seen at (at + 4096)) c.page_place.ensures
    ∙ range_has (place c.args.format c.args.block) (page_bytes page) (g.D.Device.trace c.args.device.now).now.seen has long in
    let is = c.if-decode_stored.true in
    one_page c.decode_stored.new.page page (c.decode_stored.ensures.stored is).storable.admitted stored.storable.admitted
    (sym (c.decode_stored.ensures.found is) ∙ (c.in_ok-read_at.ensures.read honest ∙ there))

pub returns-else-decode_stored-clause-read : goal.returns-else-decode_stored-clause-read
returns-else-decode_stored-clause-read g c honest page stored has =
    let long = length-page page stored.storable.admitted in
    let there = ap (λ (at : ℕ). slice_range (g.D.Device.trace c.args.device.now).now.seen at (at + 4096)) c.page_place.ensures
    ∙ range_has (place c.args.format c.args.block) (page_bytes page) (g.D.Device.trace c.args.device.now).now.seen has long in
    let yes = c.decode_stored.ensures.only page stored (c.in_ok-read_at.ensures.read honest ∙ there) in
    absurd (never c.decode_stored.result c.if-decode_stored.false yes)
