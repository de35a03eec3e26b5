use Rattle.std.proofs.Common.{◌+◌, ◌*◌, ◌≤◌, ◌<◌, List, ℕ, length, inr, refl, sym, ap, subst, ◌∙◌, arith}
use Rattle.redo_log.proofs.Imports.{OnTrue_at, OnFalse_at, AreInside, image_blocks, with_blocks, waiting_blocks}
use Rattle.redo_log.proofs.BlockLists.{images_inside, length-with_blocks, new_count-most}
use Rattle.redo_log.proofs.Appending.{keeps_more, fits_with, fits_listed}
use Rattle.redo_log.proofs.Laying.{blocks_of-with_images, kept_more}
use Rattle.redo_log.proofs.log.Log.append.Goals as goal

pub returns-then-not-fits-clause-cause : goal.returns-then-not-fits-clause-cause
returns-then-not-fits-clause-cause c =
    inr (refl, λ fit. OnFalse_at c.if-not-fits.true c.fits.ensures.full (omega (arith, fit, new_count-most (waiting_blocks c.args.self.now) c.args.images.now)))

pub take_all-requires-clause-inside : goal.take_all-requires-clause-inside
take_all-requires-clause-inside c =
    let s = c.args.self.now in
    subst (λ (n : ℕ). AreInside n c.args.images.now) (sym s.tabled) (images_inside s.format c.args.images.now c.requires.images)

pub take_all-requires-clause-room : goal.take_all-requires-clause-room
take_all-requires-clause-room c =
    let s = c.args.self.now in
    fits_listed s.at _ s.format.log_bytes _ s.listed (fits_with s c.args.images.now (OnTrue_at c.if-not-fits.false c.fits.ensures.fit))

pub invariant_of-self-clause-named : goal.invariant_of-self-clause-named
invariant_of-self-clause-named c =
    let s = c.args.self.now in
    let images = c.args.images.now in
    ap image_blocks c.reckon-self.ensures ∙ (blocks_of-with_images s.images.value images ∙ (ap (λ (l : List ℕ). with_blocks l images) s.named ∙ sym c.take_all.ensures.blocks))

pub invariant_of-self-clause-fits : goal.invariant_of-self-clause-fits
invariant_of-self-clause-fits c =
    let s = c.args.self.now in
    subst (λ (l : List ℕ). 0 < length l → s.at + (6 + 4096 * length l) ≤ s.format.log_bytes) (sym c.take_all.ensures.blocks)
    (fits_with s c.args.images.now (OnTrue_at c.if-not-fits.false c.fits.ensures.fit))

pub invariant_of-self-clause-some_ajar : goal.invariant_of-self-clause-some_ajar
invariant_of-self-clause-some_ajar c = λ ajar.
    let s = c.args.self.now in
    omega (arith, ap length c.take_all.ensures.blocks, length-with_blocks (waiting_blocks s) c.args.images.now, s.some_ajar ajar)

pub returns-clause-keeps : goal.returns-clause-keeps
returns-clause-keeps c =
    let s = c.args.self.now in
    let images = c.args.images.now in
    keeps_more s _ images refl refl refl refl refl (λ kept k. kept_more s.format _ _ _ _ images kept c.take_all.ensures.blocks c.reckon-self.ensures c.requires.images k)

pub returns-clause-room : goal.returns-clause-room
returns-clause-room c = λ n.
    let s = waiting_blocks c.args.self.now in
    omega (arith, ap length c.take_all.ensures.blocks, length-with_blocks s c.args.images.now, new_count-most s c.args.images.now)

pub returns-clause-waiting : goal.returns-clause-waiting
returns-clause-waiting c = ap length c.take_all.ensures.blocks ∙ length-with_blocks (waiting_blocks c.args.self.now) c.args.images.now
