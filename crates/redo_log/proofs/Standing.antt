-- Where the images stand that wait: one of each block, so that each is the last one of its block.
use Rattle.std.proofs.Common.{◌≡◌, ℕ, zero, suc, Bool, cond, List, [], ◌∷◌, length, get_or, Option, Some, None, refl, sym, ◌∙◌, ap, subst}
use Rattle.std.specs.Prelude.{slice_get}
use Rattle.redo_log.proofs.Imports.{eq-eqb, Page, if_of, later_of, last_image, image_blocks, with_images, waiting_blocks, waiting_count, waiting_images, Log}
use Rattle.redo_log.proofs.ImageLists.{none, last_image-append}
use Rattle.redo_log.proofs.BlockLists.{EachStandsOnce, distinct}
use Rattle.redo_log.proofs.Laying.{length-blocks_of, last_image-none, with_images-same}

-- one image of each block waits
pub waits_once : (log : Log) → EachStandsOnce (image_blocks (waiting_images log))
waits_once log = subst EachStandsOnce (sym log.named) (distinct log.waiting.places.items (waiting_blocks log) log.waiting.placed)

-- there are as many as blocks
pub waits_many : (log : Log) → length (waiting_images log) ≡ waiting_count log
waits_many log = sym (length-blocks_of (waiting_images log)) ∙ ap length log.named

pub waits_none : (log : Log) → waiting_count log ≡ 0 → waiting_images log ≡ []
waits_none log idle = none (waiting_images log) (waits_many log ∙ idle)

-- and the last image of a block, once a list of them has taken others in
pub last_with : (log : Log) (pages : List Page) (block : ℕ) → last_image (with_images (waiting_images log) pages) block ≡ later_of (last_image (waiting_images log) block) (last_image pages block)
last_with log pages block = (with_images-same (waiting_images log) pages (waits_once log)).each block ∙ last_image-append (waiting_images log) pages block

block_in : (images : List Page) (k : ℕ) (page : Page) → slice_get images k ≡ Some page → get_or (image_blocks images) k 0 ≡ page.block
block_in [] k page at = (let both : None ≡ Some page = at in absurd cc)
block_in (p ∷ ps) zero page at = (let both : Some p ≡ Some page = at in let same : p ≡ page = cc in ap (λ (q : Page). q.block) same)
block_in (p ∷ ps) (suc k) page at = block_in ps k page at

-- the image at a place is of the block at that place
pub block_at : (log : Log) (k : ℕ) (page : Page) → slice_get (waiting_images log) k ≡ Some page → get_or (waiting_blocks log) k 0 ≡ page.block
block_at log k page at = ap (λ (l : List ℕ). get_or l k 0) (sym log.named) ∙ block_in (waiting_images log) k page at

-- and the last one of it
pub last_at : (images : List Page) (k : ℕ) (page : Page) → EachStandsOnce (image_blocks images) → slice_get images k ≡ Some page → last_image images page.block ≡ Some page
last_at [] k page once at = (let both : None ≡ Some page = at in absurd cc)
last_at (p ∷ ps) zero page once at =
    let both : Some p ≡ Some page = at in
    let same : p ≡ page = cc in
    subst (λ (q : Page). last_image (p ∷ ps) q.block ≡ Some q) same
    (ap (λ (o : Option Page). later_of (if_of p.block p) o) (last_image-none ps p.block once.0) ∙ ap (λ (t : Bool). cond t (Some p) None) (eq-eqb p.block p.block refl))
last_at (p ∷ ps) (suc k) page once at = ap (λ (o : Option Page). later_of (if_of page.block p) o) (last_at ps k page once.1 at)
