use Rattle.std.proofs.Common.{◌≡◌, ◌+◌, ℕ, suc, refl, sym, subst, ap, length, arith}
use Rattle.redo_log.proofs.Imports.{AreLaid}
use Rattle.redo_log.proofs.Keeping.{keeps_laid}
use Rattle.redo_log.proofs.Laying.{laid_next, length-blocks_of}
use Rattle.redo_log.proofs.log.Log.lay.Goals as goal

pub lay_image-requires-clause-reserved : goal.lay_image-requires-clause-reserved
lay_image-requires-clause-reserved c =
    let s = c.args.self.now in
    omega (arith, s.reserved, s.fits (omega arith))

pub invariant_of-self-clause-laid_out : goal.invariant_of-self-clause-laid_out
invariant_of-self-clause-laid_out c =
    let s = c.args.self.now in
    let buffer = c.lay_image.new.buffer.items in
    let more : s.laid + 1 ≡ suc s.laid = omega arith in
    subst (λ (n : ℕ). AreLaid n s.images.value buffer) (sym more)
    (laid_next s.laid s.buffer.items buffer _ s.images.value c.lay_image.ensures.laid (omega (arith, length-blocks_of s.images.value, ap length s.named)) c.requires.same s.laid_out)

pub returns-clause-keeps : goal.returns-clause-keeps
returns-clause-keeps c = λ m acts forced k.
    keeps_laid c.args.self.now _ (record { same = record { format = refl; actions = refl }; stopped = refl; written = refl; ajar = refl; end = refl; blocks = refl; images = refl }) m acts forced k
