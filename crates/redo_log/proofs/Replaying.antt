-- From what was read to a log that keeps it.
use Rattle.std.proofs.Common.{◌≡◌, ◌≢◌, inl, refl, true, ℕ, ◌+◌, ◌-◌, ◌≤◌, List, [], ◌∷◌, ◌++◌, length, take, drop, get_or, Bool, IsTrue, false, sym, ◌∙◌, ap, subst, arith, append_assoc, length-append, length-drop, length-take-le}
use Rattle.redo_log.proofs.Imports.{drop-length, get_or-drop, get_or-take, get_or_append_left, slice_range, DiskMoment, Has, Format, Page, images_of, IsImage, AreImages, AreGroups, spelled_groups}
use Rattle.redo_log.proofs.Imports.{SpellsGroups, log_range, IsSettled, waiting_blocks, waiting_images, AreAllImages, AreAllNoted, Replays, IsReplay, bytes_at, Log}
use Rattle.redo_log.specs.declared.log.Replayed.{Replayed}
use Rattle.redo_log.proofs.ImageLists.{same_eq, all-append}
use Rattle.redo_log.proofs.Laying.{none_kept}
use Rattle.redo_log.proofs.Noting.{none_stands}
use Rattle.redo_log.proofs.Forcing.{whole_list}

-- what was read is the log's range
pub range_read : (seen read bytes : List ℕ) (n size : ℕ) → bytes ≡ read → read ≡ slice_range seen 4096 (4096 + n) → n ≡ size → bytes ≡ take size (drop 4096 seen)
range_read seen read bytes n size same is e =
    let k : 4096 + n - 4096 ≡ size = omega (arith, e) in
    same ∙ (is ∙ ap (λ (j : ℕ). take j (drop 4096 seen)) k)

-- a range that begins so stands there
has_range : (start size : ℕ) (file q rest : List ℕ) → take size (drop start file) ≡ q ++ rest → start + size ≤ length file → Has start q file
has_range start size file q rest is fits =
    let long : length (take size (drop start file)) ≡ size = length-take-le size (drop start file) (omega (arith, length-drop start file, fits)) in
    let shorter : length q ≤ size = omega (arith, long, ap length is, length-append q rest) in
    record {
      within = omega (arith, fits, shorter);
      each = λ i lt.
          sym (get_or-drop start file i 0)
          ∙ (sym (get_or-take size (drop start file) i 0 (omega (arith, lt, shorter)))
          ∙ (ap (λ (l : List ℕ). get_or l i 0) is ∙ get_or_append_left q rest 0 i lt));
    }

pub replayed : (format : Format) (m : DiskMoment) (log : Log) (bytes : List ℕ) (images : List Page) (at : ℕ) → bytes ≡ log_range format m.seen
    → 4096 + format.log_bytes ≤ length m.seen → AreAllImages format bytes images at
    → log.format ≡ format → log.at ≡ at → waiting_blocks log ≡ [] → log.stopped ≡ false → log.ajar ≡ false → log.written ≡ false → Replays format m log images
replayed format m log bytes images at are fits r format_is at_is idle alive shut unwritten =
    let s = r.spells in
    let there : take format.log_bytes (drop 4096 m.seen) ≡ (spelled_groups r.groups ++ s.gate ∷ []) ++ s.rest = sym are ∙ (s.is ∙ sym (append_assoc (spelled_groups r.groups) (s.gate ∷ []) s.rest)) in
    let has = has_range 4096 format.log_bytes m.seen (spelled_groups r.groups ++ s.gate ∷ []) s.rest there fits in
    let long : length (spelled_groups r.groups ++ s.gate ∷ []) ≤ format.log_bytes = omega (
      arith,
      length-append (spelled_groups r.groups) (s.gate ∷ []),
      r.end_is,
      r.within,
      ap length are,
      length-take-le format.log_bytes (drop 4096 m.seen) (omega (arith, length-drop 4096 m.seen, fits)),
    ) in
    record {
      groups = r.groups;
      spells = subst (λ (l : List ℕ). SpellsGroups format l r.groups) are s;
      images_are = r.images_are;
      only = λ others is. r.only others (subst (λ (l : List ℕ). SpellsGroups format l others) (sym are) is);
      keeps = λ firm. record {
        alive = alive;
        groups = r.groups;
        waiting = [];
        gate = inl (
          shut,
          subst (λ (l : Format). IsSettled l 4096 log.at r.groups m) (sym format_is) (record {
            good = s.good;
            end = at_is ∙ r.end_is;
            gate = s.gate;
            closed = s.closed;
            on_disk = record { has = has; firm = λ i lt. firm.firm i (omega (arith, lt, long)) };
          }),
        );
        written = λ w. (let both : true ≡ false = sym w ∙ unwritten in absurd cc);
        waits = none_kept log.format (waiting_blocks log) (waiting_images log) log.named idle;
        few = omega arith;
        durable = same_eq _ _ (ap images_of (sym (whole_list r.groups)));
        unforced = same_eq [] _ (sym (ap images_of (drop-length r.groups)));
      };
    }

-- the images of groups are images
pub images_good : (format : Format) (groups : List (List Page)) → AreGroups format groups → AreImages format (images_of groups)
images_good format [] good = tt
images_good format (group ∷ groups) good = all-append (IsImage format) group (images_of groups) good.0.images (images_good format groups good.1)

-- what was noted of the bytes that were read is what a replay finds
pub replay_found : (format : Format) (honest : Bool) (m : DiskMoment) (found : Replayed) (log lasts : List ℕ) (end : ℕ)
    → AreAllNoted format log lasts end → log ≡ found.log.buffer.items → lasts ≡ found.lasts.items → (IsTrue honest → log ≡ log_range format m.seen) → 4096 + format.log_bytes ≤ length m.seen
    → found.log.format ≡ format → found.log.at ≡ end → waiting_blocks found.log ≡ [] → found.log.stopped ≡ false → found.log.ajar ≡ false → found.log.written ≡ false → IsReplay format honest m found
replay_found format honest m found log lasts end n log_is lasts_are read fits format_is at_is idle alive shut unwritten = record {
  images = n.images;
  good = subst (AreImages format) (sym n.all.images_are) (images_good format n.all.groups n.all.spells.good);
  lasts = record {
    each = λ block.
        ap (λ (l : List ℕ). bytes_at l (get_or found.lasts.items block 0)) (sym log_is)
        ∙ (ap (λ (l : List ℕ). bytes_at log (get_or l block 0)) (sym lasts_are) ∙ n.noted.each block);
  };
  replays = λ h. replayed format m found.log log n.images end (read h) fits n.all format_is at_is idle alive shut unwritten;
}

-- if the first gate isn't open, nothing is found
pub nothing_found : (format : Format) (honest : Bool) (m : DiskMoment) (found : Replayed) → 4096 + format.log_bytes ≤ length m.seen → 65536 ≤ format.log_bytes → (IsTrue honest → get_or m.seen 4096 0 ≢ 1)
    → found.lasts.items ≡ [] → found.log.format ≡ format → found.log.at ≡ 0 → waiting_blocks found.log ≡ [] → found.log.stopped ≡ false → found.log.ajar ≡ false → found.log.written ≡ false → IsReplay format honest m found
nothing_found format honest m found fits least closed none format_is at_is idle alive shut unwritten = record {
  images = [];
  good = tt;
  lasts = record { each = λ block. ap (λ (l : List ℕ). bytes_at found.log.buffer.items (get_or l block 0)) none };
  replays = λ h.
      let range = log_range format m.seen in
      let first : get_or range 0 0 ≡ get_or m.seen 4096 0 = get_or-take format.log_bytes (drop 4096 m.seen) 0 0 (omega (arith, least)) ∙ get_or-drop 4096 m.seen 0 0 in
      let long : 4096 ≤ length range = omega (arith, length-take-le format.log_bytes (drop 4096 m.seen) (omega (arith, length-drop 4096 m.seen, fits)), least) in
      let none = none_stands format range long (λ is_open. closed h (sym first ∙ is_open)) in
      replayed format m found.log range [] 0 refl fits none format_is at_is idle alive shut unwritten;
}
