use Rattle.std.proofs.Common.{◌≡◌, ◌⊎◌, ◌<◌, ◌≤◌, ◌∙◌, ℕ, Bool, IsTrue, List, Some, Option, length, inl, inr, sym, ap, subst, arith, length-append, [], ◌∷◌}
use Rattle.recovery.proofs.Imports.{Fault, IndexFull, PageDamaged, Format, IsStored, Page, format_of_room, pages_of_room, block_bytes, AreBlocks, AreBytesOf, HasReadPages, IsDamagedBlock, Found}
use Rattle.recovery.proofs.Blocks.{read_more, damaged_here}
use Rattle.recovery.proofs.Batches.{block_among, damaged_bytes, refused_with}
use Rattle.recovery.proofs.reading.add_blocks.Goals.{In-Some}
use Rattle.recovery.proofs.reading.add_blocks.Goals as goal

-- the page was not taken: it isn't one that may be stored there
not_taken : (format : Format) (honest : Bool) (file : List ℕ) (found : Found) (page : Page) (block : ℕ) (e : Fault)
    → HasReadPages format honest file found → length (pages_of_room found.room) ≡ block → block < format.pages
    → (IsTrue honest → AreBytesOf (Some page) (block_bytes format block file))
    → ((e ≡ IndexFull) × ((format_of_room found.room).pages ≤ length (pages_of_room found.room)))
    ⊎ ((e ≡ PageDamaged (length (pages_of_room found.room))) × (IsStored (format_of_room found.room) (length (pages_of_room found.room)) page → ⊥))
    → IsDamagedBlock format honest file e
not_taken format honest file found page block e read count within here (inl full) =
    absurd (omega (arith, full.1, ap (λ (l : Format). l.pages) read.format_is, count, within))
not_taken format honest file found page block e read count within here (inr wrong) =
    let used = length (pages_of_room found.room) in (
      used,
      wrong.0,
      λ is. damaged_here format honest file found page read is (omega (arith, count, within))
          (subst (λ (b : ℕ). AreBytesOf (Some page) (block_bytes format b file)) (sym count) (here is))
          (subst (λ (l : Format). IsStored l used page → ⊥) read.format_is wrong.1),
    )

-- the bytes of the block are those of the page that was read
page_read : (c : In-Some) (file : List ℕ) → AreBlocks (format_of_room c.args.found.now.room) c.args.from c.args.end c.args.bytes.now file
    → AreBytesOf (Some c.in-Some.page) (block_bytes (format_of_room c.args.found.now.room) c.loop-block.block file)
page_read c file are =
    let format = format_of_room c.args.found.now.room in
    subst (λ found. AreBytesOf found (block_bytes format c.loop-block.block file)) c.in-Some.is
    (subst (AreBytesOf c.in_ok-page.field-0) (c.piece.ensures.value ∙ block_among format c.args.from c.args.end c.loop-block.block c.args.bytes.now file are (omega (arith, c.loop-block.auto.block)) c.loop-block-test.true) c.in_ok-page.ensures.found)

pub loop-block-preserved : goal.loop-block-preserved
loop-block-preserved c =
    let so_far = c.loop-block.invariant in
    let format = format_of_room c.args.found.now.room in
    let stored = subst (λ (l : Format). IsStored l (length (pages_of_room c.loop-block.found.room)) c.in-Some.page) so_far.format c.in_ok-add.ensures.stored in
    record {
      read = λ honest file read are. read_more format honest honest file c.loop-block.found _
          c.in-Some.page (λ h. h) (so_far.read honest file read are) c.add.ensures.format
          c.in_ok-add.ensures.done c.in_ok-add.ensures.counts stored c.max-found.ensures
          (λ h. ap (λ (b : ℕ). block_bytes format b file) so_far.count ∙ (page_read (goal.at.loop-block-preserved c).In-Some file (are h)).1);
      count = omega (arith, ap length c.in_ok-add.ensures.done, length-append (pages_of_room c.loop-block.found.room) (c.in-Some.page ∷ []), so_far.count);
      format = c.add.ensures.format ∙ so_far.format;
      frames = c.add.ensures.frames ∙ so_far.frames;
    }

pub returns-in_err-page-clause-cause : goal.returns-in_err-page-clause-cause
returns-in_err-page-clause-cause c = λ honest file read are.
    let format = format_of_room c.args.found.now.room in
    let block = c.loop-block.block in
    refused_with c.from_residual.result c.in_err-page.field-0.0 (IsDamagedBlock format honest file) c.from_residual.ensures.1 (
      block,
      c.in_err-page.ensures.fault,
      λ is. damaged_bytes format honest file c.piece.result.now c.loop-block.found block (c.loop-block.invariant.read honest file read are) is c.loop-block.invariant.count
          (omega (arith, c.loop-block-test.true, c.requires.within))
          (c.piece.ensures.value ∙ block_among format c.args.from c.args.end block c.args.bytes.now file (are is) (omega (arith, c.loop-block.auto.block)) c.loop-block-test.true)
          c.in_err-page.ensures.no_page c.in_err-page.ensures.in_use,
    )

pub returns-in_default-clause-unused : goal.returns-in_default-clause-unused
returns-in_default-clause-unused c = λ file are lt.
    let format = format_of_room c.args.found.now.room in
    sym (c.piece.ensures.value ∙ block_among format c.args.from c.args.end c.loop-block.block c.args.bytes.now file are (omega (arith, c.loop-block.auto.block)) c.loop-block-test.true)
    ∙ subst (λ (o : Option Page). AreBytesOf o c.piece.result.now) c.in_default.is c.in_ok-page.ensures.found

pub returns-in_err-add-clause-cause : goal.returns-in_err-add-clause-cause
returns-in_err-add-clause-cause c = λ honest file read are.
    let format = format_of_room c.args.found.now.room in
    refused_with c.from_residual-in_err-add.result c.in_err-add.field-0.0 (IsDamagedBlock format honest file) c.from_residual-in_err-add.ensures.1
    (not_taken format honest file c.loop-block.found c.in-Some.page c.loop-block.block _ (c.loop-block.invariant.read honest file read are) c.loop-block.invariant.count
    (omega (arith, c.loop-block-test.true, c.requires.within)) (λ is. page_read (goal.at.returns-in_err-add-clause-cause c).In-Some file (are is)) c.in_err-add.ensures.cause)
