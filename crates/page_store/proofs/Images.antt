-- Acts change the pages as their images say: of each block in use the last image, or else the page that was
-- there.
use Rattle.std.proofs.Common.{◌≡◌, ◌≢◌, ◌⊎◌, true, ℕ, zero, suc, ◌+◌, ◌<◌, ◌≤◌, Option, Some, None, List, [], ◌∷◌, ◌++◌, length, max, take, drop, slice_get, slice_set, length-set, length-append, refl, sym, ap, subst, inl, inr, ◌∙◌, arith}
use Rattle.page_store.proofs.Imports.{is_some, lt-ltb, le-ltb, cases_lt, cases_eq, eq-eqb, ne_eqb, Format, Page, AreStored, AreActable, with_page, with_pages, stored-with_page, with_page-longer}
use Rattle.page_store.proofs.Imports.{with_page-few, if_of, later_of, last_image, images_of, last_image-append, after_acts, AreActs}

-- a list with one element set, or one more
set_same : {A : Type 0} (xs : List A) (at : ℕ) (x : A) → at < length xs → slice_get (slice_set xs at x) at ≡ Some x
set_same [] at x lt = absurd (omega arith)
set_same (y ∷ ys) zero x lt = refl
set_same (y ∷ ys) (suc at) x lt = set_same ys at x (omega arith)

set_other : {A : Type 0} (xs : List A) (at b : ℕ) (x : A) → at ≢ b → slice_get (slice_set xs at x) b ≡ slice_get xs b
set_other [] at b x ne = refl
set_other (y ∷ ys) zero zero x ne = absurd (ne refl)
set_other (y ∷ ys) zero (suc b) x ne = refl
set_other (y ∷ ys) (suc at) zero x ne = refl
set_other (y ∷ ys) (suc at) (suc b) x ne = set_other ys at b x (λ e. ne (ap suc e))

pub more_same : {A : Type 0} (xs : List A) (x : A) → slice_get (xs ++ x ∷ []) (length xs) ≡ Some x
more_same [] x = refl
more_same (y ∷ ys) x = more_same ys x

pub more_other : {A : Type 0} (xs : List A) (b : ℕ) (x : A) → length xs ≢ b → slice_get (xs ++ x ∷ []) b ≡ slice_get xs b
more_other [] zero x ne = absurd (ne refl)
more_other [] (suc b) x ne = refl
more_other (y ∷ ys) zero x ne = refl
more_other (y ∷ ys) (suc b) x ne = more_other ys b x (λ e. ne (ap suc e))

later_none : (o : Option Page) → later_of o None ≡ o
later_none o = refl

later_assoc : (a b c : Option Page) → later_of (later_of a b) c ≡ later_of a (later_of b c)
later_assoc a b None = refl
later_assoc a b (Some c) = refl

pub later_is_none : (a b : Option Page) → later_of a b ≡ None → (a ≡ None) × (b ≡ None)
later_is_none a None e = (e, refl)
later_is_none a (Some b) e = absurd cc

-- the page is there, with the others as they were
is_there : (pages : List Page) (page : Page) (b : ℕ) → page.block ≡ b → page.block ≤ length pages → slice_get (with_page pages page) b ≡ Some page
is_there pages page b same place = subst (λ (k : ℕ). slice_get (with_page pages page) k ≡ Some page) same (elim (cases_lt page.block (length pages)) [
  | inl lt ↦ rw (lt-ltb page.block (length pages) lt) (set_same pages page.block page lt)
  | inr ge ↦
      let end : length pages ≡ page.block = omega arith in
      rw (le-ltb page.block (length pages) ge) (subst (λ (k : ℕ). slice_get (pages ++ page ∷ []) k ≡ Some page) end (more_same pages page))
])

is_other : (pages : List Page) (page : Page) (b : ℕ) → page.block ≢ b → page.block ≤ length pages → slice_get (with_page pages page) b ≡ slice_get pages b
is_other pages page b ne place = elim (cases_lt page.block (length pages)) [
  | inl lt ↦ rw (lt-ltb page.block (length pages) lt) (set_other pages page.block b page ne)
  | inr ge ↦
      let end : length pages ≡ page.block = omega arith in
      rw (le-ltb page.block (length pages) ge) (more_other pages b page (λ e. ne (sym end ∙ e)))
]

pub if_same : (b : ℕ) (page : Page) → page.block ≡ b → if_of b page ≡ Some page
if_same b page same = rw (eq-eqb page.block b same) refl

pub if_other : (b : ℕ) (page : Page) → page.block ≢ b → if_of b page ≡ None
if_other b page ne = rw (ne_eqb page.block b ne) refl

get-with_page : (pages : List Page) (page : Page) (b : ℕ) → page.block ≤ length pages → slice_get (with_page pages page) b ≡ later_of (slice_get pages b) (if_of b page)
get-with_page pages page b place = elim (cases_eq page.block b) [
  | inl same ↦ rw (if_same b page same) (is_there pages page b same place)
  | inr ne ↦ rw (if_other b page ne) (is_other pages page b ne place)
]

pub get-with_pages : (format : Format) (used : ℕ) (pages changed : List Page) (b : ℕ) → AreActable format used changed → used ≤ length pages
    → slice_get (with_pages pages changed) b ≡ later_of (slice_get pages b) (last_image changed b)
get-with_pages format used pages [] b h few = refl
get-with_pages format used pages (page ∷ changed) b h few =
    let place : page.block ≤ length pages = omega (arith, h.1.0) in
    get-with_pages format used (with_page pages page) changed b h.3 (omega (arith, with_page-longer format pages page h.0.storable place))
    ∙ (ap (λ (o : Option Page). later_of o (last_image changed b)) (get-with_page pages page b place)
    ∙ later_assoc (slice_get pages b) (if_of b page) (last_image changed b))

pub length-with_page : (pages : List Page) (page : Page) → page.block ≤ length pages → length (with_page pages page) ≡ max (length pages) (suc page.block)
length-with_page pages page place = elim (cases_lt page.block (length pages)) [
  | inl lt ↦ rw (lt-ltb page.block (length pages) lt) (omega (arith, length-set pages page.block page))
  | inr ge ↦ rw (le-ltb page.block (length pages) ge) (omega (arith, length-append pages (page ∷ [])))
]

-- of each block the last image of the acts, or else the page that was there
pub get-after_acts : (format : Format) (pages : List Page) (acts : List (List Page)) (b : ℕ) → AreActs format pages acts
    → slice_get (after_acts pages acts) b ≡ later_of (slice_get pages b) (last_image (images_of acts) b)
get-after_acts format pages [] b h = refl
get-after_acts format pages (changed ∷ acts) b h =
    get-after_acts format (with_pages pages changed) acts b h.1
    ∙ (ap (λ (o : Option Page). later_of o (last_image (images_of acts) b)) (get-with_pages format (length pages) pages changed b h.0 (omega arith))
    ∙ (later_assoc (slice_get pages b) (last_image changed b) (last_image (images_of acts) b)
    ∙ ap (λ (o : Option Page). later_of (slice_get pages b) o) (sym (last_image-append changed (images_of acts) b))))

-- and they are stored, and not too many
pub stored-with_pages : (format : Format) (used : ℕ) (pages changed : List Page) → AreActable format used changed → used ≤ length pages → AreStored format 0 pages → length pages ≤ format.pages
    → AreStored format 0 (with_pages pages changed) × (length (with_pages pages changed) ≤ format.pages)
stored-with_pages format used pages [] h more stored few = (stored, few)
stored-with_pages format used pages (page ∷ changed) h more stored few =
    let place : page.block ≤ length pages = omega (arith, h.1.0) in
    stored-with_pages format used (with_page pages page) changed h.3 (omega (arith, with_page-longer format pages page h.0.storable place))
    (stored-with_page format pages page h.0.storable place stored) (with_page-few format pages page h.0.storable place h.1.1 few)

pub stored-after_acts : (format : Format) (pages : List Page) (acts : List (List Page)) → AreActs format pages acts → AreStored format 0 pages → length pages ≤ format.pages
    → AreStored format 0 (after_acts pages acts) × (length (after_acts pages acts) ≤ format.pages)
stored-after_acts format pages [] h stored few = (stored, few)
stored-after_acts format pages (changed ∷ acts) h stored few =
    let s = stored-with_pages format (length pages) pages changed h.0 (omega arith) stored few in
    stored-after_acts format (with_pages pages changed) acts h.1 s.0 s.1

-- parts of acts
pub after_acts-append : (pages : List Page) (xs ys : List (List Page)) → after_acts pages (xs ++ ys) ≡ after_acts (after_acts pages xs) ys
after_acts-append pages [] ys = refl
after_acts-append pages (x ∷ xs) ys = after_acts-append (with_pages pages x) xs ys

pub acts-append : (format : Format) (pages : List Page) (xs ys : List (List Page)) → AreActs format pages xs → AreActs format (after_acts pages xs) ys → AreActs format pages (xs ++ ys)
acts-append format pages [] ys a b = b
acts-append format pages (x ∷ xs) ys a b = (a.0, acts-append format (with_pages pages x) xs ys a.1 b)

pub acts-take : (format : Format) (pages : List Page) (acts : List (List Page)) (n : ℕ) → AreActs format pages acts → AreActs format pages (take n acts)
acts-take format pages acts zero h = tt
acts-take format pages [] (suc n) h = tt
acts-take format pages (x ∷ acts) (suc n) h = (h.0, acts-take format (with_pages pages x) acts n h.1)

pub acts-drop : (format : Format) (pages : List Page) (acts : List (List Page)) (n : ℕ) → AreActs format pages acts → AreActs format (after_acts pages (take n acts)) (drop n acts)
acts-drop format pages acts zero h = h
acts-drop format pages [] (suc n) h = tt
acts-drop format pages (x ∷ acts) (suc n) h = acts-drop format (with_pages pages x) acts n h.1

pub after_both : (pages : List Page) (acts : List (List Page)) (n k : ℕ) → after_acts pages (take (n + k) acts) ≡ after_acts (after_acts pages (take n acts)) (take k (drop n acts))
after_both pages acts zero k = let e : zero + k ≡ k = omega arith in ap (λ (m : ℕ). after_acts pages (take m acts)) e
after_both pages [] (suc n) k = refl_nil pages (suc n + k) k
  where
    refl_nil : (pages : List Page) (a b : ℕ) → after_acts pages (take a []) ≡ after_acts pages (take b [])
    refl_nil pages zero zero = refl
    refl_nil pages zero (suc b) = refl
    refl_nil pages (suc a) zero = refl
    refl_nil pages (suc a) (suc b) = refl
after_both pages (x ∷ acts) (suc n) k =
    let e : suc n + k ≡ suc (n + k) = omega arith in
    ap (λ (m : ℕ). after_acts pages (take m (x ∷ acts))) e ∙ after_both (with_pages pages x) acts n k

-- a block without an image among more has none among fewer
pub none_among_fewer : (acts : List (List Page)) (n m b : ℕ) → n ≤ m → last_image (images_of (take m acts)) b ≡ None → last_image (images_of (take n acts)) b ≡ None
none_among_fewer acts zero m b le e = refl
none_among_fewer [] (suc n) m b le e = refl
none_among_fewer (x ∷ acts) (suc n) zero b le e = absurd (omega arith)
none_among_fewer (x ∷ acts) (suc n) (suc m) b le e =
    let both = later_is_none (last_image x b) (last_image (images_of (take m acts)) b) (sym (last_image-append x (images_of (take m acts)) b) ∙ e) in
    let rest = none_among_fewer acts n m b (omega arith) both.1 in
    last_image-append x (images_of (take n acts)) b ∙ (ap (λ (o : Option Page). later_of o (last_image (images_of (take n acts)) b)) both.0 ∙ rest_of (last_image (images_of (take n acts)) b) rest)
  where
    rest_of : (o : Option Page) → o ≡ None → later_of None o ≡ None
    rest_of None h = refl
    rest_of (Some p) h = absurd cc

-- a block without an image after the first acts has none after more of them
pub none_among_later : (acts : List (List Page)) (n m b : ℕ) → n ≤ m → last_image (images_of (drop n acts)) b ≡ None → last_image (images_of (drop m acts)) b ≡ None
none_among_later acts zero zero b le e = e
none_among_later acts (suc n) zero b le e = absurd (omega arith)
none_among_later [] zero (suc m) b le e = refl
none_among_later [] (suc n) (suc m) b le e = refl
none_among_later (x ∷ acts) zero (suc m) b le e =
    let both = later_is_none (last_image x b) (last_image (images_of acts) b) (sym (last_image-append x (images_of acts) b) ∙ e) in
    none_among_later acts zero m b (omega arith) both.1
none_among_later (x ∷ acts) (suc n) (suc m) b le e = none_among_later acts n m b (omega arith) e

-- with a later image there is one
pub later_is_some : (a b : Option Page) → is_some b ≡ true → is_some (later_of a b) ≡ true
later_is_some a (Some b) h = refl
later_is_some a None h = absurd cc

-- there is an image, or none
pub image_cases : (o : Option Page) → (o ≡ None) ⊎ (is_some o ≡ true)
image_cases None = inl refl
image_cases (Some p) = inr refl

-- nothing is left after all acts
pub all_dropped : {A : Type 0} (xs : List A) (n : ℕ) → length xs ≤ n → drop n xs ≡ []
all_dropped [] zero le = refl
all_dropped [] (suc n) le = refl
all_dropped (x ∷ xs) zero le = absurd (omega arith)
all_dropped (x ∷ xs) (suc n) le = all_dropped xs n (omega arith)

none_later : (o : Option Page) → o ≡ None → later_of None o ≡ None
none_later None h = refl
none_later (Some p) h = absurd cc

-- a block without an image in either part has none in the whole
pub none_in_parts : (acts : List (List Page)) (n b : ℕ) → last_image (images_of (take n acts)) b ≡ None → last_image (images_of (drop n acts)) b ≡ None → last_image (images_of acts) b ≡ None
none_in_parts acts zero b e f = f
none_in_parts [] (suc n) b e f = e
none_in_parts (x ∷ acts) (suc n) b e f =
    let both = later_is_none (last_image x b) (last_image (images_of (take n acts)) b) (sym (last_image-append x (images_of (take n acts)) b) ∙ e) in
    last_image-append x (images_of acts) b
    ∙ (ap (λ (o : Option Page). later_of o (last_image (images_of acts) b)) both.0 ∙ none_later (last_image (images_of acts) b) (none_in_parts acts n b both.1 f))

pub drop_both : {A : Type 0} (xs : List A) (n k : ℕ) → drop k (drop n xs) ≡ drop (n + k) xs
drop_both xs zero k = let e : zero + k ≡ k = omega arith in ap (λ (m : ℕ). drop m xs) (sym e)
drop_both [] (suc n) k = drop_none k ∙ sym (drop_none (suc n + k))
  where
    drop_none : {A : Type 0} (m : ℕ) → drop {A = A} m [] ≡ []
    drop_none zero = refl
    drop_none (suc m) = refl
drop_both (x ∷ xs) (suc n) k =
    let e : suc n + k ≡ suc (n + k) = omega arith in
    drop_both xs n k ∙ ap (λ (m : ℕ). drop m (x ∷ xs)) (sym e)
