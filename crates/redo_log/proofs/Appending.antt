-- One action more waits.
use Rattle.std.proofs.Common.{◌≡◌, inl, inr, ⊎_elim, true, false, ℕ, zero, suc, ◌+◌, ◌*◌, ◌/◌, ◌<◌, ◌≤◌, List, [], ◌∷◌, ◌++◌, length, drop, sym, ◌∙◌, ap, subst, arith, length-append}
use Rattle.redo_log.proofs.Imports.{take-append-le, drop-append-le, DiskMoment, Page, SameImages, images_of, with_blocks, new_count, with_images, AreOfBlocks, LogHolds, IsAjar, IsSettled, MayBeLetIn, ImagesFit}
use Rattle.redo_log.proofs.Imports.{waiting_blocks, waiting_count, waiting_images, Log}
use Rattle.redo_log.proofs.ImageLists.{same_append, same_trans, same_eq, images_of-push}
use Rattle.redo_log.proofs.BlockLists.{EachStandsOnce, distinct, length-with_blocks}
use Rattle.redo_log.proofs.Laying.{with_images-same}

-- what waits has the images of the action too, each in the place of its block's
pub keeps_more : (old new : Log) (images : List Page) → new.format ≡ old.format → new.at ≡ old.at → new.stopped ≡ old.stopped → new.ajar ≡ old.ajar → new.written ≡ false
    → ((laid : List Page) → AreOfBlocks old.format (waiting_blocks old) (waiting_images old) laid → AreOfBlocks old.format (waiting_blocks new) (waiting_images new) (with_images laid images))
    → (m : DiskMoment) (acts : List (List Page)) (forced : ℕ) → LogHolds old m acts forced → LogHolds new m (acts ++ images ∷ []) forced
keeps_more old new images format at stopped ajar changed laid m acts forced k =
    record {
      alive = stopped ∙ k.alive;
      groups = k.groups;
      waiting = with_images k.waiting images;
      gate = ⊎_elim
          (λ shut. inl (ajar ∙ shut.0, subst (λ l. IsSettled l 4096 new.at k.groups m) (sym format) (subst (λ a. IsSettled old.format 4096 a k.groups m) (sym at) shut.1)))
          (λ may. inr (ajar ∙ may.0, still_let_in may.1)) k.gate;
      written = λ w. (let both : true ≡ false = sym w ∙ changed in absurd cc);
      waits = subst (λ l. AreOfBlocks l (waiting_blocks new) (waiting_images new) (with_images k.waiting images)) (sym format) (laid k.waiting k.waits);
      few = omega (arith, length-append acts (images ∷ []), k.few);
      durable = subst (λ (l : List (List Page)). SameImages (images_of k.groups) (images_of l)) (sym (take-append-le forced acts (images ∷ []) k.few)) k.durable;
      unforced = same_trans (with_images k.waiting images) (k.waiting ++ images) (images_of (drop forced (acts ++ images ∷ [])))
          (with_images-same k.waiting images (subst EachStandsOnce (sym k.waits.blocks) (distinct old.waiting.places.items (waiting_blocks old) old.waiting.placed)))
          (same_trans (k.waiting ++ images) (images_of (drop forced acts) ++ images) (images_of (drop forced (acts ++ images ∷ [])))
          (same_append k.waiting (images_of (drop forced acts)) images k.unforced)
          (same_eq _ _ (sym (ap images_of (drop-append-le forced acts (images ∷ []) k.few) ∙ images_of-push (drop forced acts) images))));
    }
  where
    still_let_in : MayBeLetIn old m acts forced k.groups k.waiting → MayBeLetIn new m (acts ++ images ∷ []) forced k.groups (with_images k.waiting images)
    still_let_in a = record {
      group = a.group;
      ajar = subst (λ l. IsAjar l 4096 new.at k.groups a.group m) (sym format) (subst (λ n. IsAjar old.format 4096 n k.groups a.group m) (sym at) a.ajar);
      part = a.part;
      from = a.from;
      to = omega (arith, length-append acts (images ∷ []), a.to);
      same = subst (λ (l : List (List Page)). SameImages (images_of (k.groups ++ a.group ∷ [])) (images_of l)) (sym (take-append-le a.part acts (images ∷ []) a.to)) a.same;
      whole = λ w. (let both : true ≡ false = sym w ∙ changed in absurd cc);
    }

-- what waits fits, and so do those that are new: then they fit together
fits_more : (at old new size : ℕ) → (0 < old → at + (6 + 4096 * old) ≤ size) → (0 < new → at + (6 + 4096 * (old + new)) ≤ size) → 0 < old + new → at + (6 + 4096 * (old + new)) ≤ size
fits_more at old zero size waits more some = omega (arith, waits (omega arith))
fits_more at old (suc new) size waits more some = more (omega arith)

-- if the new ones of these images fit, the group that waits then does
pub fits_with : (log : Log) (images : List Page) → (0 < new_count (waiting_blocks log) images → ImagesFit log (new_count (waiting_blocks log) images))
    → 0 < length (with_blocks (waiting_blocks log) images) → log.at + (6 + 4096 * length (with_blocks (waiting_blocks log) images)) ≤ log.format.log_bytes
fits_with log images fit some =
    let long = length-with_blocks (waiting_blocks log) images in
    omega (arith, long, fits_more log.at (waiting_count log) (new_count (waiting_blocks log) images) log.format.log_bytes log.fits fit (omega arith))

-- what waits fits into the list of the blocks
pub fits_listed : (at count size room : ℕ) → size / 4096 ≤ room → (0 < count → at + (6 + 4096 * count) ≤ size) → count ≤ room
fits_listed at zero size room listed fits = omega arith
fits_listed at (suc count) size room listed fits = omega (arith, fits (omega arith))
