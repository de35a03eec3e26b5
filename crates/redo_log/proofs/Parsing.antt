-- What has been read so far, and that it is the only reading.
use Rattle.std.proofs.Common.{◌≡◌, ◌≢◌, ℕ, zero, suc, ◌+◌, ◌-◌, ◌*◌, ◌^◌, ◌<◌, List, [], ◌∷◌, ◌++◌, length, take, drop, get_or, Fits, w8, refl, sym, ◌∙◌, ap, subst, arith, append_assoc, length-append, length-drop, length-take-le, take-append-drop}
use Rattle.std.proofs.lemmas.Nat.{from_le_bytes-to_le_bytes_4, le_bytes_4}
use Rattle.page_codec.specs.Spelling.{page_bytes}
use Rattle.redo_log.proofs.Imports.{take_at, drop_at, append-nil, drop-drop, w32, to_le_bytes, from_le_bytes, Format, Page, length-page, one_page, images_bytes, images_of, IsImage, AreImages}
use Rattle.redo_log.proofs.Imports.{IsGroup, AreGroups, body, spelled_groups, SpellsGroups, NotesImages, NotesGroup, AreAllImages}
use Rattle.redo_log.proofs.ImageLists.{images_bytes-append, length-images_bytes, all-append, images_of-push}
use Rattle.redo_log.proofs.Leaving.{spelled-push}

-- these images were read up to here, and whatever images the bytes are, the rest is images
pub record ImagesSoFar (format : Format) (bytes rest : List ℕ) (images : List Page) : Type 0 where
  pub good : AreImages format images
  pub is : bytes ≡ images_bytes images ++ rest
  pub only : (others : List Page) → AreImages format others → bytes ≡ images_bytes others → (t : List Page) × AreImages format t × (rest ≡ images_bytes t)

pub images_start : (format : Format) (bytes : List ℕ) → ImagesSoFar format bytes bytes []
images_start format bytes = record {
  good = tt;
  is = refl;
  only = λ others good e. (others, good, e);
}

-- bytes that are images, not none, begin with an image
first_image : (format : Format) (rest : List ℕ) (t : List Page) → AreImages format t → rest ≡ images_bytes t → 0 < length rest
    → (p : Page) × (q : List Page) × IsImage format p × AreImages format q × (take 4096 rest ≡ page_bytes p) × (drop 4096 rest ≡ images_bytes q)
first_image format rest [] good e some = absurd (omega (arith, ap length e))
first_image format rest (p ∷ q) good e some = (
  p,
  q,
  good.0,
  good.1,
  ap (take 4096) e ∙ take_at (page_bytes p) (images_bytes q) 4096 (length-page p good.0.page),
  ap (drop 4096) e ∙ drop_at (page_bytes p) (images_bytes q) 4096 (length-page p good.0.page),
)

module _ (format : Format) (bytes rest : List ℕ) (images : List Page) (s : ImagesSoFar format bytes rest images) (some : 0 < length rest) where
  pub image_read : (p : Page) → IsImage format p → take 4096 rest ≡ page_bytes p → ImagesSoFar format bytes (drop 4096 rest) (images ++ p ∷ [])
  image_read p is e = record {
    good = all-append (IsImage format) images (p ∷ []) s.good (is, tt);
    is = s.is
        ∙ (ap (λ (l : List ℕ). images_bytes images ++ l) (sym (take-append-drop 4096 rest))
        ∙ (sym (append_assoc (images_bytes images) (take 4096 rest) (drop 4096 rest))
        ∙ ap (λ (l : List ℕ). l ++ drop 4096 rest) (ap (λ (l : List ℕ). images_bytes images ++ l) (e ∙ sym (append-nil (page_bytes p))) ∙ sym (images_bytes-append images (p ∷ [])))));
    only = λ others good is'.
        let t = s.only others good is' in
        let f = first_image format rest t.0 t.1 t.2 some in
        (f.1, f.3, f.5);
  }

  pub no_image : ((p : Page) → IsImage format p → take 4096 rest ≡ page_bytes p → ⊥) → (others : List Page) → AreImages format others → bytes ≡ images_bytes others → ⊥
  no_image refused others good is =
      let t = s.only others good is in
      let f = first_image format rest t.0 t.1 t.2 some in
      refused f.0 f.2 f.4

pub images_end : (format : Format) (bytes rest : List ℕ) (images : List Page) → ImagesSoFar format bytes rest images → rest ≡ [] → bytes ≡ images_bytes images
images_end format bytes rest images s e = s.is ∙ (ap (λ (l : List ℕ). images_bytes images ++ l) e ∙ append-nil (images_bytes images))

-- the number in front, and the images after it
parts : (head images rest after : List ℕ) → length head ≡ 4 → after ≡ head ++ images ++ rest → (take 4 after ≡ head) × (drop 4 after ≡ images ++ rest)
parts head images rest after four is = (
  ap (take 4) (is ∙ append_assoc head images rest) ∙ take_at head (images ++ rest) 4 four,
  ap (drop 4) (is ∙ append_assoc head images rest) ∙ drop_at head (images ++ rest) 4 four,
)

-- bytes that begin with a group, of which the number was read
module _ (format : Format) (after rest : List ℕ) (group : List Page) (count : ℕ) (good : IsGroup format group) (is : after ≡ body group ++ rest)
    (number : count ≡ from_le_bytes w32 (take 4 after)) where
  two : (take 4 after ≡ to_le_bytes w32 (length group)) × (drop 4 after ≡ images_bytes group ++ rest)
  two = parts (to_le_bytes w32 (length group)) (images_bytes group) rest after refl is

  pub group_count : count ≡ length group
  group_count = number ∙ (ap (from_le_bytes w32) two.0 ∙ from_le_bytes-to_le_bytes_4 (length group) good.few)

  pub group_fits : 0 < length rest → (0 < count) × (4096 * count < length (drop 4 after))
  group_fits more = (
    omega (arith, good.some, group_count),
    omega (arith, group_count, more, ap length two.1, length-append (images_bytes group) rest, length-images_bytes format group good.images),
  )

  pub group_images : take (4096 * count) (drop 4 after) ≡ images_bytes group
  group_images = ap (take (4096 * count)) two.1 ∙ take_at (images_bytes group) rest (4096 * count) (omega (arith, length-images_bytes format group good.images, group_count))

  pub group_rest : drop (4 + 4096 * count) after ≡ rest
  group_rest = sym (drop-drop (4096 * count) 4 after)
      ∙ (ap (drop (4096 * count)) two.1 ∙ drop_at (images_bytes group) rest (4096 * count) (omega (arith, length-images_bytes format group good.images, group_count)))

-- a group was read
pub group_noted : (format : Format) (log bodies number : List ℕ) (at count : ℕ) (old new : List ℕ) → number ≡ take 4 (drop at log)
    → bodies ≡ drop 4 (drop at log) → length number ≡ 4 → ((i : ℕ) → get_or number i 0 < 256) → count ≡ from_le_bytes w32 number
    → 0 < count → count < 2 ^ 32 → 4096 * count < length bodies → NotesImages format log (at + 4) count old new → NotesGroup format log at count old new
group_noted format log bodies number at count old new head tail four fit read some few long a =
    let after = drop at log in
    let images_are : take (4096 * count) bodies ≡ images_bytes a.images = ap (take (4096 * count)) (tail ∙ drop-drop 4 at log) ∙ a.is in
    let counted : count ≡ length a.images = omega (arith, ap length images_are, length-take-le (4096 * count) bodies (omega (arith, long)), length-images_bytes format a.images a.good) in
    let rest_is : drop (4 + 4096 * count) after ≡ drop (4096 * count) bodies = sym (drop-drop (4096 * count) 4 after) ∙ ap (drop (4096 * count)) (sym tail) in
    record {
      group = a.images;
      good = record { some = omega (arith, some, counted); few = omega (arith, few, counted); images = a.good };
      counted = counted;
      is = sym (take-append-drop 4 after)
          ∙ (ap (λ (l : List ℕ). take 4 after ++ l) (sym tail ∙ sym (take-append-drop (4096 * count) bodies))
          ∙ (sym (append_assoc (take 4 after) (take (4096 * count) bodies) (drop (4096 * count) bodies))
          ∙ (ap (λ (l : List ℕ). take 4 after ++ l ++ drop (4096 * count) bodies) images_are
          ∙ (ap (λ (l : List ℕ). l ++ images_bytes a.images ++ drop (4096 * count) bodies) (sym head ∙ (sym (le_bytes_4 number count four fit read) ∙ ap (to_le_bytes w32) counted))
          ∙ ap (λ (l : List ℕ). body a.images ++ l) (sym rest_is)))));
      more = omega (arith, ap length rest_is, length-drop (4096 * count) bodies, long);
      noted = a.noted;
    }

-- the first bytes are bytes
pub take_small : (n : ℕ) (xs : List ℕ) → ((i : ℕ) → Fits w8 (get_or xs i 0)) → (i : ℕ) → get_or (take n xs) i 0 < 256
take_small zero xs all i = omega arith
take_small (suc n) [] all i = omega arith
take_small (suc n) (x ∷ xs) all zero = (all 0).fits
take_small (suc n) (x ∷ xs) all (suc i) = take_small n xs (λ k. all (suc k)) i

-- groups were read up to here, and whatever groups the bytes are, they go on in the rest
pub record GroupsSoFar (format : Format) (bytes rest : List ℕ) (now : List Page) : Type 0 where
  pub groups : List (List Page)
  pub good : AreGroups format groups
  pub is : bytes ≡ spelled_groups groups ++ rest
  pub images_are : now ≡ images_of groups
  pub some : 0 < length rest
  pub only : (others : List (List Page)) → SpellsGroups format bytes others → (t : List (List Page)) × (others ≡ groups ++ t) × SpellsGroups format rest t

pub groups_start : (format : Format) (bytes : List ℕ) (now : List Page) → now ≡ [] → 0 < length bytes → GroupsSoFar format bytes bytes now
groups_start format bytes now none some = record {
  groups = [];
  good = tt;
  is = refl;
  images_are = none;
  some = some;
  only = λ others s. (others, refl, s);
}

-- two groups at one place are one
same_group : (format : Format) (after r q : List ℕ) (g h : List Page) → IsGroup format g → IsGroup format h → after ≡ body g ++ r → after ≡ body h ++ q → (g ≡ h) × (r ≡ q)
same_group format after r q g h good good' is is' =
    let n = from_le_bytes w32 (take 4 after) in
    let count : length g ≡ length h = sym (group_count format after r g n good is refl) ∙ group_count format after q h n good' is' refl in
    let images = sym (group_images format after r g n good is refl) ∙ group_images format after q h n good' is' refl in (
      same_images g h good.images good'.images images,
      sym (group_rest format after r g n good is refl) ∙ group_rest format after q h n good' is' refl,
    )
  where
    same_images : (g h : List Page) → AreImages format g → AreImages format h → images_bytes g ≡ images_bytes h → g ≡ h
    same_images [] [] a b e = refl
    same_images [] (p ∷ h) a b e = absurd (omega (arith, ap length e, length-append (page_bytes p) (images_bytes h), length-page p b.0.page))
    same_images (p ∷ g) [] a b e = absurd (omega (arith, ap length e, length-append (page_bytes p) (images_bytes g), length-page p a.0.page))
    same_images (p ∷ g) (q ∷ h) a b e =
        let lp = length-page p a.0.page in
        let lq = length-page q b.0.page in
        let one = one_page p q a.0.page b.0.page (sym (take_at (page_bytes p) (images_bytes g) 4096 lp) ∙ (ap (take 4096) e ∙ take_at (page_bytes q) (images_bytes h) 4096 lq)) in
        let rest = same_images g h a.1 b.1 (sym (drop_at (page_bytes p) (images_bytes g) 4096 lp) ∙ (ap (drop 4096) e ∙ drop_at (page_bytes q) (images_bytes h) 4096 lq)) in
        ap (λ (x : Page). x ∷ g) one ∙ ap (λ (l : List Page). q ∷ l) rest

-- groups at an open gate begin with one
record NextGroup (format : Format) (rest : List ℕ) (t : List (List Page)) : Type 0 where
  pub group : List Page
  pub others : List (List Page)
  pub after : List ℕ
  pub are : t ≡ group ∷ others
  pub good : IsGroup format group
  pub is : drop 1 rest ≡ body group ++ after
  pub spells : SpellsGroups format after others
  pub more : 0 < length after

open_gate : (r : List ℕ) → 0 < length r → get_or r 0 0 ≡ 1 → r ≡ 1 ∷ drop 1 r
open_gate [] some e = absurd (omega arith)
open_gate (x ∷ xs) some e = ap (λ (y : ℕ). y ∷ xs) e

next_group : (format : Format) (rest : List ℕ) (t : List (List Page)) → get_or rest 0 0 ≡ 1 → SpellsGroups format rest t → NextGroup format rest t
next_group format rest [] is_open s = absurd (s.closed (sym (ap (λ (l : List ℕ). get_or l 0 0) s.is) ∙ is_open))
next_group format rest (g ∷ q) is_open s = record {
  group = g;
  others = q;
  after = spelled_groups q ++ s.gate ∷ s.rest;
  are = refl;
  good = s.good.0;
  is = ap (drop 1) s.is ∙ append_assoc (body g) (spelled_groups q) (s.gate ∷ s.rest);
  spells = record { good = s.good.1; gate = s.gate; closed = s.closed; rest = s.rest; is = refl };
  more = omega (arith, length-append (spelled_groups q) (s.gate ∷ s.rest));
}

module _ (format : Format) (bytes rest : List ℕ) (now : List Page) (s : GroupsSoFar format bytes rest now) (is_open : get_or rest 0 0 ≡ 1) where
  pub group_read : (group : List Page) (count : ℕ) → IsGroup format group → drop 1 rest ≡ body group ++ drop (4 + 4096 * count) (drop 1 rest)
      → 0 < length (drop (4 + 4096 * count) (drop 1 rest)) → GroupsSoFar format bytes (drop (5 + 4096 * count) rest) (now ++ group)
  group_read group count good here more =
      let left = drop (4 + 4096 * count) (drop 1 rest) in
      let e : left ≡ drop (5 + 4096 * count) rest = drop-drop (4 + 4096 * count) 1 rest ∙ ap (λ (n : ℕ). drop n rest) (let f : 1 + (4 + 4096 * count) ≡ 5 + 4096 * count = omega arith in f) in
      subst (λ (l : List ℕ). GroupsSoFar format bytes l (now ++ group)) e (record {
        groups = s.groups ++ group ∷ [];
        good = all-append (IsGroup format) s.groups (group ∷ []) s.good (good, tt);
        is = s.is
            ∙ (ap (λ (l : List ℕ). spelled_groups s.groups ++ l) (open_gate rest s.some is_open ∙ ap (λ (l : List ℕ). 1 ∷ l) here)
            ∙ sym (spelled-push s.groups group left));
        images_are = ap (λ (l : List Page). l ++ group) s.images_are ∙ sym (images_of-push s.groups group);
        some = more;
        only = λ others is.
            let t = s.only others is in
            let n = next_group format rest t.0 is_open t.2 in
            let same = same_group format (drop 1 rest) n.after left n.group group n.good good n.is here in (
              n.others,
              t.1 ∙ (ap (λ (l : List (List Page)). s.groups ++ l) (n.are ∙ ap (λ (g : List Page). g ∷ n.others) same.0) ∙ sym (append_assoc s.groups (group ∷ []) n.others)),
              subst (λ (l : List ℕ). SpellsGroups format l n.others) same.1 n.spells,
            );
      })

  pub no_group : ((group : List Page) (after : List ℕ) → IsGroup format group → 0 < length after → drop 1 rest ≡ body group ++ after → ⊥)
      → (others : List (List Page)) → SpellsGroups format bytes others → ⊥
  no_group refused others is =
      let t = s.only others is in
      let n = next_group format rest t.0 is_open t.2 in
      refused n.group n.after n.good n.more n.is

-- at a gate that isn't open all is read
pub groups_end : (format : Format) (bytes rest : List ℕ) (now : List Page) → GroupsSoFar format bytes rest now → get_or rest 0 0 ≢ 1 → AreAllImages format bytes now (length bytes - length rest)
groups_end format bytes rest now s shut = record {
  groups = s.groups;
  spells = record { good = s.good; gate = get_or rest 0 0; closed = shut; rest = drop 1 rest; is = s.is ∙ ap (λ (l : List ℕ). spelled_groups s.groups ++ l) (gate_and_rest rest s.some) };
  images_are = s.images_are;
  end_is = omega (arith, ap length s.is, length-append (spelled_groups s.groups) rest);
  within = omega (arith, s.some, ap length s.is, length-append (spelled_groups s.groups) rest);
  only = λ others is.
      let t = s.only others is in
      t.1 ∙ (ap (λ (l : List (List Page)). s.groups ++ l) (none_left t.0 t.2) ∙ append-nil s.groups);
}
  where
    gate_and_rest : (r : List ℕ) → 0 < length r → r ≡ get_or r 0 0 ∷ drop 1 r
    gate_and_rest [] some = absurd (omega arith)
    gate_and_rest (x ∷ xs) some = refl

    none_left : (t : List (List Page)) → SpellsGroups format rest t → t ≡ []
    none_left [] is = refl
    none_left (g ∷ t) is = absurd (shut (ap (λ (l : List ℕ). get_or l 0 0) is.is))
