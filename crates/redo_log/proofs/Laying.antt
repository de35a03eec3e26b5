-- A list with one image for each block takes further ones; and their bytes are laid one after the other.
use Rattle.std.proofs.Common.{◌≡◌, ◌⊎◌, inl, inr, ℕ, zero, suc, ◌-◌, ◌+◌, ◌*◌, ◌<◌, ◌≤◌, ◌==◌, Bool, true, false, cond, List, [], ◌∷◌, ◌++◌, length, take, drop, Option, Some, None, refl, sym, ◌∙◌, ap, subst, arith, ⊎_elim, length-append, length-drop, append_assoc, length-take-le}
use Rattle.std.proofs.lemmas.Slice.{take-put_mid}
use borrow.Rule.Slice.PartMut.{put_mid}
use Rattle.page_codec.specs.Spelling.{page_bytes}
use Rattle.redo_log.proofs.Imports.{cases_Bool, or_parts, eqb-true, append-nil}
use Rattle.redo_log.proofs.Imports.{drop-take, take-take, Format, Page, if_of, later_of, last_image, SameImages, images_bytes, IsImage, AreImages}
use Rattle.redo_log.proofs.Imports.{image_blocks, is_among_blocks, with_block, with_blocks, with_image, with_images, AreOfBlocks, AreLaid, ReachesPast}
use Rattle.std.specs.Prelude.{slice_get}
use Rattle.redo_log.proofs.ImageLists.{none, last_image-append, same_eq, same_trans, same_append, same_after, after_head}
use Rattle.redo_log.proofs.BlockLists.{EachStandsOnce, distinct-with_block}

-- an image has one block
pub length-blocks_of : (ps : List Page) → length (image_blocks ps) ≡ length ps
length-blocks_of [] = refl
length-blocks_of (p ∷ ps) = ap suc (length-blocks_of ps)

-- if the first image is of the block of this one, it is replaced
with_image-here : (q : Page) (qs : List Page) (p : Page) → (q.block == p.block) ≡ true → with_image (q ∷ qs) p ≡ p ∷ qs
with_image-here q qs p here = ap (λ (t : Bool). cond t (p ∷ qs) (q ∷ with_image qs p)) here

-- and otherwise a later one is
with_image-there : (q : Page) (qs : List Page) (p : Page) → (q.block == p.block) ≡ false → with_image (q ∷ qs) p ≡ q ∷ with_image qs p
with_image-there q qs p there = ap (λ (t : Bool). cond t (p ∷ qs) (q ∷ with_image qs p)) there

-- a block that isn't among those of the images has none of them
pub last_image-none : (ps : List Page) (block : ℕ) → is_among_blocks (image_blocks ps) block ≡ false → last_image ps block ≡ None
last_image-none [] block new = refl
last_image-none (p ∷ ps) block new =
    let parts = or_parts (p.block == block) (is_among_blocks (image_blocks ps) block) new in
    ap (λ (o : Option Page). later_of (if_of block p) o) (last_image-none ps block parts.1) ∙ ap (λ (t : Bool). cond t (Some p) None) parts.0

-- the image in the place of its block's counts as one after them all
pub with_image-same : (ps : List Page) (p : Page) → EachStandsOnce (image_blocks ps) → SameImages (with_image ps p) (ps ++ p ∷ [])
with_image-same [] p distinct = same_eq (p ∷ []) (p ∷ []) refl
with_image-same (q ∷ qs) p distinct = ⊎_elim
    (λ here. same_trans (with_image (q ∷ qs) p) (p ∷ qs) (q ∷ qs ++ p ∷ []) (same_eq _ _ (with_image-here q qs p here)) (record { each = λ block. moved block here (cases_Bool (p.block == block)) }))
    (λ there. same_trans (with_image (q ∷ qs) p) (q ∷ with_image qs p) (q ∷ qs ++ p ∷ []) (same_eq _ _ (with_image-there q qs p there))
    (same_after (q ∷ []) (with_image qs p) (qs ++ p ∷ []) (with_image-same qs p distinct.1)))
    (cases_Bool (q.block == p.block))
  where
    moved : (block : ℕ) → (q.block == p.block) ≡ true → ((p.block == block) ≡ true) ⊎ ((p.block == block) ≡ false) → last_image (p ∷ qs) block ≡ last_image (q ∷ qs ++ p ∷ []) block
    moved block here (inl mine) =
        let is : block ≡ q.block = sym (eqb-true p.block block mine) ∙ sym (eqb-true q.block p.block here) in
        let gone : last_image qs block ≡ None = last_image-none qs block (ap (is_among_blocks (image_blocks qs)) is ∙ distinct.0) in
        rw (last_image-append qs (p ∷ []) block, mine, gone) refl
    moved block here (inr other) =
        let e : q.block ≡ p.block = eqb-true q.block p.block here in
        let neither : (q.block == block) ≡ false = ap (λ (b : ℕ). b == block) e ∙ other in
        rw (last_image-append qs (p ∷ []) block, other, neither) refl

-- the blocks are those that were, and the block of the image
blocks_of-with_image : (ps : List Page) (p : Page) → image_blocks (with_image ps p) ≡ with_block (image_blocks ps) p.block
blocks_of-with_image [] p = refl
blocks_of-with_image (q ∷ qs) p = ⊎_elim
    (λ here. rw here (ap (λ (b : ℕ). b ∷ image_blocks qs) (sym (eqb-true q.block p.block here))))
    (λ there. rw there (ap (λ (l : List ℕ). q.block ∷ l) (blocks_of-with_image qs p)
    ∙ cons_either (is_among_blocks (image_blocks qs) p.block) q.block (image_blocks qs) (image_blocks qs ++ p.block ∷ [])))
    (cases_Bool (q.block == p.block))
  where
    cons_either : (t : Bool) (b : ℕ) (xs ys : List ℕ) → b ∷ cond t xs ys ≡ cond t (b ∷ xs) (b ∷ ys)
    cons_either true b xs ys = refl
    cons_either false b xs ys = refl

-- images stay images
images-with_image : (format : Format) (ps : List Page) (p : Page) → AreImages format ps → IsImage format p → AreImages format (with_image ps p)
images-with_image format [] p are is = (is, tt)
images-with_image format (q ∷ qs) p are is = ⊎_elim
    (λ here. subst (AreImages format) (sym (with_image-here q qs p here)) (is, are.1))
    (λ there. subst (AreImages format) (sym (with_image-there q qs p there)) (are.0, images-with_image format qs p are.1 is))
    (cases_Bool (q.block == p.block))

-- the same of several
pub blocks_of-with_images : (ps more : List Page) → image_blocks (with_images ps more) ≡ with_blocks (image_blocks ps) more
blocks_of-with_images ps [] = refl
blocks_of-with_images ps (p ∷ more) = blocks_of-with_images (with_image ps p) more ∙ ap (λ (l : List ℕ). with_blocks l more) (blocks_of-with_image ps p)

images-with_images : (format : Format) (ps more : List Page) → AreImages format ps → AreImages format more → AreImages format (with_images ps more)
images-with_images format ps [] are more = are
images-with_images format ps (p ∷ qs) are more = images-with_images format (with_image ps p) qs (images-with_image format ps p are more.0) more.1

-- a list that takes images more has one of each block that waits then
pub kept_more : (format : Format) (order order' : List ℕ) (list list' images kept : List Page) → order' ≡ with_blocks order images → list' ≡ with_images list images → AreImages format images
    → AreOfBlocks format order list kept → AreOfBlocks format order' list' (with_images kept images)
kept_more format order order' list list' images kept blocks is are k =
    let order_is : image_blocks (with_images kept images) ≡ order' = blocks_of-with_images kept images ∙ (ap (λ (l : List ℕ). with_blocks l images) k.blocks ∙ sym blocks) in
    record {
      counted = sym (length-blocks_of (with_images kept images)) ∙ ap length order_is;
      images = images-with_images format kept images k.images are;
      blocks = order_is;
      same = is ∙ ap (λ (l : List Page). with_images l images) k.same;
    }

-- no image is kept if no block waits
pub none_kept : (format : Format) (order : List ℕ) (list : List Page) → image_blocks list ≡ order → order ≡ [] → AreOfBlocks format order list []
none_kept format order list named empty = record {
  counted = ap length (sym empty);
  images = tt;
  blocks = sym empty;
  same = none list (sym (length-blocks_of list) ∙ ap length (named ∙ empty));
}

-- the images in the places of their blocks' count as those after them all
pub with_images-same : (laid ps : List Page) → EachStandsOnce (image_blocks laid) → SameImages (with_images laid ps) (laid ++ ps)
with_images-same laid [] distinct = same_eq laid (laid ++ []) (sym (append-nil laid))
with_images-same laid (p ∷ ps) distinct =
    same_trans (with_images (with_image laid p) ps) (with_image laid p ++ ps) (laid ++ p ∷ ps)
    (with_images-same (with_image laid p) ps (subst EachStandsOnce (sym (blocks_of-with_image laid p)) (distinct-with_block (image_blocks laid) p.block distinct)))
    (same_trans (with_image laid p ++ ps) ((laid ++ p ∷ []) ++ ps) (laid ++ p ∷ ps)
    (same_append (with_image laid p) (laid ++ p ∷ []) ps (with_image-same laid p distinct))
    (same_eq _ _ (append_assoc laid (p ∷ []) ps)))

-- what was laid lies so still if bytes came behind those that were
laid_longer : (count : ℕ) (old longer : List ℕ) → take (length old) longer ≡ old → ReachesPast count old → take (4096 * count) (drop 4 longer) ≡ take (4096 * count) (drop 4 old)
laid_longer zero old longer kept reaches = refl
laid_longer (suc n) old longer kept reaches =
    let m = 4096 * suc n in
    sym (drop-take 4 m longer)
    ∙ (ap (drop 4) (sym (take-take (4 + m) (length old) longer (omega (arith, reaches (omega arith)))) ∙ ap (take (4 + m)) kept)
    ∙ drop-take 4 m old)

-- bytes are laid behind those
pub laid_behind : (count : ℕ) (old longer piece new : List ℕ) → take (length old) longer ≡ old → ReachesPast count old → 4 + 4096 * count + 4097 ≤ length longer → length piece ≡ 4096
    → new ≡ put_mid (4 + 4096 * count) 4096 longer piece → take (4096 * suc count) (drop 4 new) ≡ take (4096 * count) (drop 4 old) ++ piece
laid_behind count old longer piece new kept reaches fits long put =
    let at = 4096 * count in
    let more : 4096 * suc count ≡ at + 4096 = omega arith in
    ap (λ (n : ℕ). take n (drop 4 new)) more
    ∙ (ap (λ (l : List ℕ). take (at + 4096) (drop 4 l)) put
    ∙ (after_head 4 at 4096 longer (put_mid (4 + at) 4096 longer piece) piece (omega arith)
    (take-put_mid (4 + at) 4096 longer piece (4 + at + 4096) (omega (arith, long)) (omega arith))
    ∙ ap (λ (l : List ℕ). l ++ piece) (laid_longer count old longer kept reaches)))

-- the bytes of the first images, and of the next one
bytes_next : (images : List Page) (count : ℕ) (piece : List ℕ) → count < length images → ((page : Page) → slice_get images count ≡ Some page → piece ≡ page_bytes page)
    → images_bytes (take count images) ++ piece ≡ images_bytes (take (suc count) images)
bytes_next [] count piece lt same = absurd (omega arith)
bytes_next (p ∷ ps) zero piece lt same = same p refl ∙ sym (append-nil (page_bytes p))
bytes_next (p ∷ ps) (suc k) piece lt same =
    append_assoc (page_bytes p) (images_bytes (take k ps)) piece ∙ ap (λ (l : List ℕ). page_bytes p ++ l) (bytes_next ps k piece (omega arith) same)

-- so one image more is laid
pub laid_next : (count : ℕ) (old new piece : List ℕ) (images : List Page) → take (4096 * suc count) (drop 4 new) ≡ take (4096 * count) (drop 4 old) ++ piece
    → count < length images → ((page : Page) → slice_get images count ≡ Some page → piece ≡ page_bytes page) → AreLaid count images old → AreLaid (suc count) images new
laid_next count old new piece images written lt same laid = written ∙ (ap (λ (l : List ℕ). l ++ piece) laid ∙ bytes_next images count piece lt same)

-- bytes that are written over others leave the length
pub length-put : (a k : ℕ) (xs ys : List ℕ) → length ys ≡ k → a + k ≤ length xs → length (put_mid a k xs ys) ≡ length xs
length-put a k xs ys long fits = omega (
  arith,
  length-append (take a xs) (ys ++ drop k (drop a xs)),
  length-append ys (drop k (drop a xs)),
  length-take-le a xs (omega (arith, fits)),
  length-drop k (drop a xs),
  length-drop a xs,
)
