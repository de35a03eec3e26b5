-- Of each block the last image is noted.
use Rattle.std.proofs.Common.{◌≡◌, ◌≢◌, inl, inr, ℕ, zero, suc, ◌+◌, ◌-◌, ◌*◌, ◌<◌, ◌≤◌, Some, List, [], ◌∷◌, ◌++◌, length, take, drop, replicate, get_or, set, slice_range, refl, sym, ◌∙◌, ap, subst, arith, append_assoc, length-drop, length-set, length-take-le}
use Rattle.std.specs.Option.{option_map}
use Rattle.page_codec.specs.Spelling.{page_bytes}
use Rattle.redo_log.proofs.Imports.{cases_eq, eq-eqb, ne_eqb, drop-drop, drop-take, take-take, get_or-drop, get_or-set_same, get_or-set_other, length-replicate, Format, Page, last_image}
use Rattle.redo_log.proofs.Imports.{images_bytes, IsImage, AreImages, IsGroup, body, SpellsGroups, bytes_at, AreNoted, NotesGroup, AreAllNoted, AreAllImages}
use Rattle.redo_log.proofs.ImageLists.{last_image-append}
use Rattle.redo_log.proofs.Parsing.{ImagesSoFar, image_read, no_image, GroupsSoFar, groups_start, group_read, no_group, groups_end}

-- 0 is noted of each block at first
zeros : (n i : ℕ) → get_or {A = ℕ} (replicate n 0) i 0 ≡ 0
zeros zero i = refl
zeros (suc n) zero = refl
zeros (suc n) (suc i) = zeros n i

pub note_start : (format : Format) (log lasts : List ℕ) → lasts ≡ replicate format.pages 0 → 4096 ≤ length log → AreNoted format log [] lasts
note_start format log lasts is long =
    let zero_at : (block : ℕ) → get_or lasts block 0 ≡ 0 = λ block. ap (λ (l : List ℕ). get_or l block 0) is ∙ zeros format.pages block in
    record {
      many = ap length is ∙ length-replicate {A = ℕ} format.pages 0;
      inside = λ block. omega (arith, zero_at block, long);
      each = λ block. ap (bytes_at log) (zero_at block);
    }

-- the last one of a block among these and one more
more_same : (images : List Page) (p : Page) (block : ℕ) → p.block ≡ block → last_image (images ++ p ∷ []) block ≡ Some p
more_same images p block same = last_image-append images (p ∷ []) block ∙ rw (eq-eqb p.block block same) refl

more_other : (images : List Page) (p : Page) (block : ℕ) → p.block ≢ block → last_image (images ++ p ∷ []) block ≡ last_image images block
more_other images p block other = last_image-append images (p ∷ []) block ∙ rw (ne_eqb p.block block other) refl

-- the bytes at a place that isn't 0
bytes_there : (log bytes : List ℕ) (place : ℕ) → 0 < place → slice_range log place (place + 4096) ≡ bytes → bytes_at log place ≡ Some bytes
bytes_there log bytes place some is = rw (ne_eqb place 0 (λ (e : place ≡ 0). absurd (omega (arith, e, some)))) (ap Some is)

pub note_more : (format : Format) (log : List ℕ) (images : List Page) (lasts : List ℕ) (p : Page) (place : ℕ) → AreNoted format log images lasts
    → p.block < format.pages → 0 < place → place + 4096 ≤ length log → slice_range log place (place + 4096) ≡ page_bytes p
    → AreNoted format log (images ++ p ∷ []) (set lasts p.block place)
note_more format log images lasts p place noted few some inside is =
    let here : (block : ℕ) → p.block ≡ block → get_or (set lasts p.block place) block 0 ≡ place =
    λ block same. subst (λ (b : ℕ). get_or (set lasts p.block place) b 0 ≡ place) same (get_or-set_same lasts p.block place 0 (omega (arith, few, noted.many))) in
    let there : (block : ℕ) → p.block ≢ block → get_or (set lasts p.block place) block 0 ≡ get_or lasts block 0 =
    λ block other. get_or-set_other lasts p.block block place 0 (λ e. other (sym e)) in
    record {
      many = length-set lasts p.block place ∙ noted.many;
      inside = λ block. elim (cases_eq p.block block) [
        | inl same ↦ omega (arith, here block same, inside)
        | inr other ↦ omega (arith, there block other, noted.inside block)
      ];
      each = λ block. elim (cases_eq p.block block) [
        | inl same ↦ ap (bytes_at log) (here block same) ∙ (bytes_there log (page_bytes p) place some is ∙ sym (ap (option_map page_bytes) (more_same images p block same)))
        | inr other ↦ ap (bytes_at log) (there block other) ∙ (noted.each block ∙ sym (ap (option_map page_bytes) (more_other images p block other)))
      ];
    }

-- the first `k` images of those that stand there were read and noted
pub record NotedSoFar (format : Format) (log : List ℕ) (at count k : ℕ) (old now : List ℕ) : Type 0 where
  pub images : List Page
  pub read : ImagesSoFar format (take (4096 * count) (drop at log)) (drop (4096 * k) (take (4096 * count) (drop at log))) images
  pub noted : (before : List Page) → AreNoted format log before old → AreNoted format log (before ++ images) now
  pub many : length now ≡ length old

-- the image that stands after those
module _ (format : Format) (log : List ℕ) (at count k : ℕ) (old now : List ℕ) (s : NotedSoFar format log at count k old now) (more : k < count) (inside : at + 4096 * count ≤ length log) where
  abbrev rest : List ℕ
  rest = drop (4096 * k) (take (4096 * count) (drop at log))

  some : 0 < length rest
  some = omega (arith, more, inside, length-drop (4096 * k) (take (4096 * count) (drop at log)), length-take-le (4096 * count) (drop at log) (omega (arith, inside, length-drop at log)))

  next : take 4096 rest ≡ slice_range log (at + 4096 * k) (at + 4096 * k + 4096)
  next =
      let few : 4096 * count ≡ 4096 * k + (4096 * count - 4096 * k) = omega (arith, more) in
      let after : rest ≡ take (4096 * count - 4096 * k) (drop (4096 * k) (drop at log)) = ap (λ (n : ℕ). drop (4096 * k) (take n (drop at log))) few
      ∙ drop-take (4096 * k) (4096 * count - 4096 * k) (drop at log) in
      let size : 4096 ≡ at + 4096 * k + 4096 - (at + 4096 * k) = omega arith in
      ap (take 4096) after
      ∙ (take-take 4096 (4096 * count - 4096 * k) (drop (4096 * k) (drop at log)) (omega (arith, more))
      ∙ (ap (take 4096) (drop-drop (4096 * k) at log)
      ∙ ap (λ (n : ℕ). take n (drop (at + 4096 * k) log)) size))

  pub none_there : ((p : Page) → IsImage format p → slice_range log (at + 4096 * k) (at + 4096 * k + 4096) ≡ page_bytes p → ⊥) → (others : List Page)
      → AreImages format others → take (4096 * count) (drop at log) ≡ images_bytes others → ⊥
  none_there refused = no_image format _ rest s.images s.read some (λ p good e. refused p good (sym next ∙ e))

  pub noted_more : (p : Page) → IsImage format p → slice_range log (at + 4096 * k) (at + 4096 * k + 4096) ≡ page_bytes p → 0 < at
      → NotedSoFar format log at count (k + 1) old (set now p.block (at + 4096 * k))
  noted_more p good is after =
      let e : drop 4096 rest ≡ drop (4096 * (k + 1)) (take (4096 * count) (drop at log)) =
      drop-drop 4096 (4096 * k) (take (4096 * count) (drop at log)) ∙ ap (λ (n : ℕ). drop n (take (4096 * count) (drop at log))) (let f : 4096 * k + 4096 ≡ 4096 * (k + 1) = omega arith in f) in
      record {
        images = s.images ++ p ∷ [];
        read = subst (λ (l : List ℕ). ImagesSoFar format (take (4096 * count) (drop at log)) l (s.images ++ p ∷ [])) e (image_read format _ rest s.images s.read some p good (next ∙ is));
        noted = λ before noted.
            subst (λ (l : List Page). AreNoted format log l (set now p.block (at + 4096 * k))) (append_assoc before s.images (p ∷ []))
            (note_more format log (before ++ s.images) now p (at + 4096 * k) (s.noted before noted) good.within.block (omega (arith, after)) (omega (arith, more, inside)) is);
        many = length-set now p.block (at + 4096 * k) ∙ s.many;
      }

-- the groups in front of this place were read, and their images noted
pub record GroupsNoted (format : Format) (log : List ℕ) (at : ℕ) (lasts : List ℕ) : Type 0 where
  pub images : List Page
  pub read : GroupsSoFar format log (drop at log) images
  pub noted : AreNoted format log images lasts

pub gate_inside : (format : Format) (log : List ℕ) (at : ℕ) (lasts : List ℕ) → GroupsNoted format log at lasts → at < length log
gate_inside format log at lasts s = omega (arith, s.read.some, length-drop at log)

pub groups_noted_start : (format : Format) (log lasts : List ℕ) → lasts ≡ replicate format.pages 0 → 4096 ≤ length log → GroupsNoted format log 0 lasts
groups_noted_start format log lasts fresh long = record {
  images = [];
  read = groups_start format log [] refl (omega (arith, long));
  noted = note_start format log lasts fresh long;
}

-- the gate that stands there
gate_at : (log : List ℕ) (at : ℕ) → get_or (drop at log) 0 0 ≡ get_or log at 0
gate_at log at = get_or-drop at log 0 0 ∙ ap (λ (n : ℕ). get_or log n 0) (let f : at + 0 ≡ at = omega arith in f)

module _ (format : Format) (log : List ℕ) (at : ℕ) (lasts : List ℕ) (s : GroupsNoted format log at lasts) where
  pub groups_noted_more : (count : ℕ) (new : List ℕ) → get_or log at 0 ≡ 1 → NotesGroup format log (at + 1) count lasts new → GroupsNoted format log (at + (5 + 4096 * count)) new
  groups_noted_more count new is_open a =
      let one : drop (at + 1) log ≡ drop 1 (drop at log) = sym (drop-drop 1 at log) in
      let here = subst (λ (l : List ℕ). l ≡ body a.group ++ drop (4 + 4096 * count) l) one a.is in
      record {
        images = s.images ++ a.group;
        read = subst (λ (l : List ℕ). GroupsSoFar format log l (s.images ++ a.group)) (drop-drop (5 + 4096 * count) at log)
            (group_read format log (drop at log) s.images s.read (gate_at log at ∙ is_open) a.group count a.good here (subst (λ (l : List ℕ). 0 < length (drop (4 + 4096 * count) l)) one a.more));
        noted = a.noted s.images s.noted;
      }

  pub no_group_there : get_or log at 0 ≡ 1
      → ((group : List Page) (after : List ℕ) → IsGroup format group → 0 < length after → drop (at + 1) log ≡ body group ++ after → ⊥)
      → (others : List (List Page)) → SpellsGroups format log others → ⊥
  no_group_there is_open refused =
      no_group format log (drop at log) s.images s.read (gate_at log at ∙ is_open) (λ group after good more e. refused group after good more (sym (drop-drop 1 at log) ∙ e))

  pub all_noted : get_or log at 0 ≢ 1 → AreAllNoted format log lasts at
  all_noted shut = record {
    images = s.images;
    all = subst (AreAllImages format log s.images) (let e : length log - length (drop at log) ≡ at = omega (arith, length-drop at log, gate_inside format log at lasts s) in e)
        (groups_end format log (drop at log) s.images s.read (λ e. shut (sym (gate_at log at) ∙ e)));
    noted = s.noted;
  }

-- bytes whose first gate isn't open stand for no image
pub none_stands : (format : Format) (log : List ℕ) → 4096 ≤ length log → get_or log 0 0 ≢ 1 → AreAllImages format log [] 0
unfolding all_noted groups_noted_start
none_stands format log long shut =
    let start = groups_noted_start format log (replicate format.pages 0) refl long in
    (all_noted format log 0 (replicate format.pages 0) start shut).all
