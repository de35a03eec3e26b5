-- A device with an empty index on it leaves that index, whatever crashes.
use Rattle.std.proofs.Common.{◌≡◌, inr, ℕ, zero, suc, ◌+◌, ◌-◌, ◌≤◌, Some, List, [], ◌∷◌, length, replicate, slice_get, refl, sym, ap, subst, arith}
use Rattle.page_action.proofs.Writable.{admits_two}
use Rattle.page_codec.specs.Edits.{entries_of, HasEntries}
use Rattle.page_codec.specs.Spelling.{count_of, page_bytes}
use Rattle.page_codec.specs.declared.page.Items.{Items}
use Rattle.page_codec.specs.declared.page.Items.TheVariants.{Meta, Entries, Downlinks}
use Rattle.page_codec.specs.Places.{superblock, place}
use Rattle.redo_log.proofs.Leaving.{shut_stands}
use Rattle.recovery.proofs.Imports.{length-replicate, DiskMoment, MayCrashTo, Has, on_image, AreLimits, Admits, Format, Two, IsStored, Page, StandsAtHome, RestartsTo, IsFirstMeta, IsFirstLeaf}
use Rattle.recovery.proofs.Imports.{HasBody, IsEmptyIndex, CrashesToEmpty}

-- each index may have them
may_have : (format : Format) (page : Page) → page.layout ≡ Two → Admits format.layout page.layout
may_have format page is = subst (Admits format.layout) (sym is) (admits_two format.layout)

no_entries : (items : Items) → HasEntries items → entries_of items ≡ [] → count_of items ≡ 0
no_entries Meta h e = refl
no_entries (Entries v) h e = ap length e
no_entries (Downlinks v) h e = absurd h

meta_stored : (format : Format) (meta : Page) → IsFirstMeta meta → IsStored format 0 meta
meta_stored format meta is =
    record {
      storable = record {
        admitted = is.page;
        few = subst (λ (items : Items). count_of items ≤ format.items) (sym is.kind) (omega arith);
        layout = may_have format meta is.layout;
      };
      block_is = is.block;
    }

leaf_stored : (format : Format) (leaf : Page) → IsFirstLeaf leaf → IsStored format 1 leaf
leaf_stored format leaf is =
    record { storable = record { admitted = is.page; few = omega (arith, no_entries leaf.items is.kind is.empty); layout = may_have format leaf is.layout }; block_is = is.block }

module _ (format : Format) (allowed : AreLimits format) (m : DiskMoment) (fresh : IsEmptyIndex format m) (image : List ℕ) (left : MayCrashTo m image) where
  abbrev body : HasBody format m
  body = fresh.body

  -- after the superblock no crash changes anything
  stays : (at : ℕ) (bytes : List ℕ) → 4096 ≤ at → Has at bytes m.seen → Has at bytes image
  stays at bytes room_after has = on_image at bytes m image (record { has = has; firm = λ i lt. body.firm (at + i) (omega arith) }) left

  pages_long : place format format.pages ≤ length m.seen
  pages_long = (let last = (body.pages.unused (format.pages - 1) (omega (arith, allowed.pages_from)) (omega (arith, allowed.pages_from))).within in
      omega (arith, last, length-replicate {A = ℕ} 4096 0, allowed.pages_from))

  used : (block : ℕ) (page : Page) → slice_get (body.pages.meta ∷ body.pages.leaf ∷ []) block ≡ Some page → StandsAtHome format [] block (page_bytes page) image
  used zero page found = (let is : body.pages.meta ≡ page = cc in
      record { unnamed = refl; has = subst (λ (p : Page). Has (place format 0) (page_bytes p) image) is (stays (place format 0) (page_bytes body.pages.meta) (omega arith) body.pages.has_meta) })
  used (suc zero) page found = (let is : body.pages.leaf ≡ page = cc in
      record { unnamed = refl; has = subst (λ (p : Page). Has (place format 1) (page_bytes p) image) is (stays (place format 1) (page_bytes body.pages.leaf) (omega arith) body.pages.has_leaf) })
  used (suc (suc block)) page found = absurd cc

  restarts : RestartsTo format image (body.pages.meta ∷ body.pages.leaf ∷ [])
  restarts = record {
    superblock_is = on_image 0 (superblock format) m image fresh.superblock left;
    groups = [];
    spells = shut_stands format 4096 format.log_bytes [] 0 image tt (λ (e : 0 ≡ 1). absurd (omega arith)) (omega (arith, allowed.log_from)) (on_image 4096 (0 ∷ []) m image body.gate left);
    long = omega (arith, pages_long, left.same_length);
    few = omega (arith, allowed.pages_from);
    stored = (meta_stored format body.pages.meta body.pages.is_meta, (leaf_stored format body.pages.leaf body.pages.is_leaf, tt));
    used = λ block page found. inr (used block page found);
    unused = λ block past small. record { unnamed = refl; has = stays (place format block) (replicate 4096 0) (omega arith) (body.pages.unused block past small) };
  }

pub fresh_leaves : (format : Format) → AreLimits format → (m : DiskMoment) → IsEmptyIndex format m → CrashesToEmpty format m
fresh_leaves format allowed m fresh = record {
  meta = fresh.body.pages.meta;
  is_meta = fresh.body.pages.is_meta;
  leaf = fresh.body.pages.leaf;
  is_leaf = fresh.body.pages.is_leaf;
  leaves = λ image left. record { allowed = allowed; some = omega arith; restarts = restarts format allowed m fresh image left };
}
