-- What the pool holds of the pages, as the device and the pool change.
use Rattle.std.proofs.Common.{◌≡◌, ◌≢◌, ◌⊎◌, inl, inr, ℕ, suc, ◌<◌, ◌≤◌, Bool, true, Option, Some, None, List, [], length, take, slice_get, get_or, sym, ap, subst, ◌∙◌, arith}
use Rattle.buffer_pool.specs.Pools.{act_of, held_page, changed_of, pool_count, pool_blocks, HasSamePages, IsPut, IsWritten, AreWritten, IsPool}
use Rattle.page_codec.specs.Spelling.{page_bytes}
use Rattle.page_store.proofs.Opened.{none_of_length}
use Rattle.page_store.proofs.Places.{apart_long}
use Rattle.page_store.proofs.CloseFollows.{whole_to}
use Rattle.page_store.proofs.Images.{get-with_pages, stored-with_pages, image_cases}
use Rattle.page_store.proofs.Pooling.{bool_cases, option_cases, some_of, none_isn't, has_next, has_all, next_apart, changed_some, unchanged, changed_at}
use Rattle.page_store.proofs.Imports.{cases_eq, cases_lt, has_block, Pool, DiskMoment, Has, ChangesOnly, has_kept, Format, Page, length-page, IsStored, AreStored, stored_page, place, after_acts}
use Rattle.page_store.proofs.Imports.{pages_now, HoldsPages, AreSeen, History, slice_get_within, slice_get_cases, get_or_from_slice_get, AreActable, with_pages, last_image, later_of, AreActed}
use Rattle.page_store.proofs.Imports.{AreWrittenUpTo, IsClean}

module _ (format : Format) (pages : List Page) (acts : ℕ) (pool : Pool) (honest : Bool) (m n : DiskMoment) (holds : HoldsPages format pages acts pool honest m) where
  -- if what a read gives stays at the places of clean pages
  holds_seen : (honest' : Bool) → (honest' ≡ true → honest ≡ true)
      → (honest ≡ true → (block : ℕ) (page : Page) → slice_get pages block ≡ Some page → act_of pool block ≡ 0
      → Has (place format block) (page_bytes page) m.seen → Has (place format block) (page_bytes page) n.seen)
      → HoldsPages format pages acts pool honest' n
  holds_seen honest' was stays = record {
    few = holds.few;
    in_use = holds.in_use;
    stored = holds.stored;
    changed = holds.changed;
    held = λ h. holds.held (was h);
    seen = λ h block page found clean. stays (was h) block page found clean (holds.seen (was h) block page found clean);
  }

  -- the log's range is written
  pub holds_logged : (honest' : Bool) → honest' ≡ honest → ChangesOnly 4096 format.log_bytes m n → HoldsPages format pages acts pool honest' n
  holds_logged honest' same only = holds_seen honest' (λ h. sym same ∙ h)
      (λ h block page found clean has. has_kept 4096 format.log_bytes (place format block) (page_bytes page) m n only (inr (omega arith)) has)

  -- the place of a changed page is written
  pub holds_written : (honest' : Bool) (k : ℕ) → honest' ≡ honest → AreStored format 0 pages → 0 < act_of pool k → ChangesOnly (place format k) 4096 m n → HoldsPages format pages acts pool honest' n
  holds_written honest' k same stored some only = holds_seen honest' (λ h. sym same ∙ h)
      (λ h block page found clean has. has_kept (place format k) 4096 (place format block) (page_bytes page) m n only
      (apart_long format block k _ (length-page page (stored_page format block pages page stored found).storable.admitted) (other block clean)) has)
    where
      other : (block : ℕ) → act_of pool block ≡ 0 → block ≢ k
      other block clean e = let there : act_of pool k ≡ 0 = sym (ap (act_of pool) e) ∙ clean in omega arith

  -- a read gives what it gave
  pub holds_alike : (honest' : Bool) → (honest' ≡ true → honest ≡ true) → n.seen ≡ m.seen → HoldsPages format pages acts pool honest' n
  holds_alike honest' was same = holds_seen honest' was
      (λ h block page found clean has. subst (λ (file : List ℕ). Has (place format block) (page_bytes page) file) (sym same) has)

-- pages that stand at their places are noted as written
pub holds_noted : (format : Format) (pages : List Page) (acts : ℕ) (old new : Pool) (honest : Bool) (m : DiskMoment) → HoldsPages format pages acts old honest m → HasSamePages old new
    → ((block : ℕ) → (act_of new block ≡ act_of old block)
    ⊎ ((act_of new block ≡ 0) × ((page : Page) → slice_get pages block ≡ Some page → Has (place format block) (page_bytes page) m.seen)))
    → HoldsPages format pages acts new honest m
holds_noted format pages acts old new honest m holds same noted = record {
  few = λ block. elim (noted block) [
    | inl is ↦ subst (λ (n : ℕ). n ≤ acts) (sym is) (holds.few block)
    | inr clean ↦ omega (arith, clean.0)
  ];
  in_use = λ block some. holds.in_use block (subst (λ (n : ℕ). 0 < n) (was block some) some);
  stored = λ block page used found. holds.stored block page used (sym (same.held block) ∙ found);
  changed = λ block held page some found there. holds.changed block held page (subst (λ (n : ℕ). 0 < n) (was block some) some) (sym (same.held block) ∙ found) there;
  held = λ h block held page found there. holds.held h block held page (sym (same.held block) ∙ found) there;
  seen = λ h block page found clean. elim (noted block) [
    | inl is ↦ holds.seen h block page found (sym is ∙ clean)
    | inr seen ↦ seen.1 page found
  ];
}
  where
    was : (block : ℕ) → 0 < act_of new block → act_of new block ≡ act_of old block
    was block some = elim (noted block) [
      | inl is ↦ is
      | inr clean ↦ absurd (omega (arith, clean.0))
    ]

-- a page is brought into a frame that can be taken: the one in use, or one of a block that isn't
pub holds_put : (format : Format) (pages : List Page) (acts : ℕ) (old new : Pool) (honest honest' : Bool) (m : DiskMoment) (at : ℕ) (page : Page)
    → HoldsPages format pages acts old honest m → IsPut old new at page
    → (honest' ≡ true → honest ≡ true) → (page.block < length pages → IsStored format page.block page)
    → (honest' ≡ true → (there : Page) → slice_get pages page.block ≡ Some there → page ≡ there) → act_of old page.block ≡ 0 → HoldsPages format pages acts new honest' m
holds_put format pages acts old new honest honest' m at page holds put was stored right clean = record {
  few = λ block. subst (λ (n : ℕ). n ≤ acts) (sym (put.changes.acts block)) (holds.few block);
  in_use = λ block some. holds.in_use block (subst (λ (n : ℕ). 0 < n) (put.changes.acts block) some);
  stored = λ block other used found. elim (cases_eq block page.block) [
    | inl same ↦
        let is : Some other ≡ Some page = sym found ∙ (ap (held_page new) same ∙ put.held) in
        let e : other ≡ page = cc in
        subst (λ (p : Page). IsStored format block p) (sym e) (subst (λ (b : ℕ). IsStored format b page) (sym same) (stored (subst (λ (b : ℕ). b < length pages) same used)))
    | inr ne ↦ holds.stored block other used (put.was block other ne found)
  ];
  changed = λ block held there some found in_place.
      let before = subst (λ (n : ℕ). 0 < n) (put.changes.acts block) some in
      holds.changed block held there before (sym (put.kept block before) ∙ found) in_place;
  held = λ h block held there found in_place. elim (cases_eq block page.block) [
    | inl same ↦
        let is : Some held ≡ Some page = sym found ∙ (ap (held_page new) same ∙ put.held) in
        let e : held ≡ page = cc in
        ap page_bytes (e ∙ right h there (subst (λ (b : ℕ). slice_get pages b ≡ Some there) same in_place))
    | inr ne ↦ holds.held (was h) block held there (put.was block held ne found) in_place
  ];
  seen = λ h block there found is. holds.seen (was h) block there found (sym (put.changes.acts block) ∙ is);
}

-- a pool that holds nothing has no page of any block
none_held : (pool : Pool) → IsPool pool → pool_count pool ≡ 0 → (block : ℕ) → held_page pool block ≡ None
none_held pool is none block = elim (option_cases (held_page pool block)) [
  | inl absent ↦ absent
  | inr some ↦
      let there = some_of (held_page pool block) some in
      let among : has_block [] block ≡ true = subst (λ (bs : List ℕ). has_block bs block ≡ true) (none_of_length (pool_blocks pool) (is.count ∙ none)) (is.among block there.0 there.1) in
      absurd cc
]

pub none_changed : (pool : Pool) → IsPool pool → pool_count pool ≡ 0 → (block : ℕ) → act_of pool block ≡ 0
none_changed pool is none block = elim (cases_lt 0 (act_of pool block)) [
  | inl some ↦ absurd (none_isn't (held_page pool block) (none_held pool is none block) (is.kept block some))
  | inr none ↦ omega arith
]

-- pages that were just read, of which the pool holds none
pub holds_opened : (format : Format) (pages : List Page) (pool : Pool) (honest : Bool) (m : DiskMoment) → IsPool pool → pool_count pool ≡ 0
    → (honest ≡ true → AreSeen format pages m) → HoldsPages format pages 0 pool honest m
holds_opened format pages pool honest m is none seen = record {
  few = λ block. omega (arith, none_changed pool is none block);
  in_use = λ block some. absurd (omega (arith, none_changed pool is none block));
  stored = λ block page used found. (let both : Some page ≡ None = sym found ∙ none_held pool is none block in absurd cc);
  changed = λ block held page some found there. absurd (omega (arith, none_changed pool is none block));
  held = λ h block held page found there. (let both : Some held ≡ None = sym found ∙ none_held pool is none block in absurd cc);
  seen = λ h block page found clean. seen h block page found;
}

-- without acts the pages are those of the beginning
pub pages_opened : (h : History) → length h.acts ≡ 0 → pages_now h ≡ h.start
pages_opened h none = ap (λ (as' : List (List Page)). after_acts h.start as') (none_of_length h.acts none)

-- the same pages and changes in another order of frames
pub holds_same : (format : Format) (pages : List Page) (acts : ℕ) (old new : Pool) (honest : Bool) (m : DiskMoment)
    → HoldsPages format pages acts old honest m → HasSamePages old new → ((block : ℕ) → act_of new block ≡ act_of old block) → HoldsPages format pages acts new honest m
holds_same format pages acts old new honest m holds same acts_same = holds_noted format pages acts old new honest m holds same (λ block. inl (acts_same block))

module _ (format : Format) (pages : List Page) (acts : ℕ) (pool : Pool) (honest : Bool) (m : DiskMoment) (holds : HoldsPages format pages acts pool honest m) (is : IsPool pool) where
  -- a changed page that stands at its place as it is held, stands there as it is
  at_home : (b : ℕ) → 0 < act_of pool b → ((held : Page) → held_page pool b ≡ Some held → Has (place format b) (page_bytes held) m.seen)
      → (page : Page) → slice_get pages b ≡ Some page → Has (place format b) (page_bytes page) m.seen
  at_home b some has page found =
      let there = some_of (held_page pool b) (is.kept b some) in
      subst (λ (bytes : List ℕ). Has (place format b) bytes m.seen) (holds.changed b there.0 page some there.1 found) (has there.0 there.1)

  -- one page of the order is noted as written
  pub written_noted : (new : Pool) (k block : ℕ) → slice_get (changed_of pool) k ≡ Some block
      → ((held : Page) → held_page pool block ≡ Some held → Has (place format block) (page_bytes held) m.seen) → IsWritten pool new k
      → (b : ℕ) → (act_of new b ≡ act_of pool b) ⊎ ((act_of new b ≡ 0) × ((page : Page) → slice_get pages b ≡ Some page → Has (place format b) (page_bytes page) m.seen))
  written_noted new k block at has written b =
      let index : get_or (changed_of pool) k 0 ≡ block = get_or_from_slice_get (changed_of pool) k block 0 at in
      elim (cases_eq b block) [
        | inl same ↦
            let here : b ≡ get_or (changed_of pool) k 0 = same ∙ sym index in
            inr (
              ap (act_of new) here ∙ written.written,
              at_home b (subst (λ (x : ℕ). 0 < act_of pool x) (sym same) (changed_at pool is k block at))
                  (λ held found. subst (λ (x : ℕ). Has (place format x) (page_bytes held) m.seen) (sym same) (has held (ap (held_page pool) (sym same) ∙ found))),
            )
        | inr ne ↦ inl (written.others b (λ e. ne (e ∙ index)))
      ]

  -- the first `count` are noted as written
  pub first_noted : (new : Pool) (count : ℕ) → AreWrittenUpTo format pool count m → AreWritten pool new count
      → (b : ℕ) → (act_of new b ≡ act_of pool b) ⊎ ((act_of new b ≡ 0) × ((page : Page) → slice_get pages b ≡ Some page → Has (place format b) (page_bytes page) m.seen))
  first_noted new count home written b = elim (bool_cases (has_block (take count (changed_of pool)) b)) [
    | inl among ↦ inr (written.written b among, at_home b (changed_some pool is b (has_all (changed_of pool) count b among)) (λ held found. home b held among found))
    | inr other ↦ inl (written.others b other)
  ]

  -- if all are, no page is changed
  pub all_clean : (new : Pool) (count : ℕ) → AreWritten pool new count → count ≡ length (changed_of pool) → IsClean new
  all_clean new count written all b = elim (bool_cases (has_block (take count (changed_of pool)) b)) [
    | inl among ↦ written.written b among
    | inr other ↦
        let whole : take count (changed_of pool) ≡ changed_of pool = whole_to (changed_of pool) count all in
        written.others b other ∙ unchanged pool is b (sym (ap (λ (xs : List ℕ). has_block xs b) whole) ∙ other)
  ]

  -- a changed page has 4,096 bytes
  long_changed : (b : ℕ) (held : Page) → has_block (changed_of pool) b ≡ true → held_page pool b ≡ Some held → length (page_bytes held) ≡ 4096
  long_changed b held among found = length-page held (holds.stored b held (holds.in_use b (changed_some pool is b among)) found).storable.admitted

  -- those before the next stay written, if its place changes
  pub up_to_same : (n : DiskMoment) (k block : ℕ) → slice_get (changed_of pool) k ≡ Some block → AreWrittenUpTo format pool k m
      → ChangesOnly (place format block) 4096 m n → AreWrittenUpTo format pool k n
  up_to_same n k block at home only b held among found =
      has_kept (place format block) 4096 (place format b) (page_bytes held) m n only
      (apart_long format b block _ (long_changed b held (has_all (changed_of pool) k b among) found)
      (λ e. next_apart (changed_of pool) k block is.once at (subst (λ (x : ℕ). has_block (take k (changed_of pool)) x ≡ true) e among))) (home b held among found)

  -- the next of the order is written too
  pub up_to_next : (n : DiskMoment) (k block : ℕ) → slice_get (changed_of pool) k ≡ Some block → AreWrittenUpTo format pool k m
      → ((held : Page) → held_page pool block ≡ Some held → Has (place format block) (page_bytes held) n.seen)
      → ChangesOnly (place format block) 4096 m n → AreWrittenUpTo format pool (suc k) n
  up_to_next n k block at home has only b held among found = elim (cases_eq b block) [
    | inl same ↦ subst (λ (x : ℕ). Has (place format x) (page_bytes held) n.seen) (sym same) (has held (ap (held_page pool) (sym same) ∙ found))
    | inr ne ↦ elim (has_next (changed_of pool) k b among) [
      | inl before ↦ has_kept (place format block) 4096 (place format b) (page_bytes held) m n only
          (apart_long format b block _ (long_changed b held (has_all (changed_of pool) k b before) found) ne) (home b held before found)
      | inr here ↦ (let both : Some b ≡ Some block = sym here ∙ at in let e : b ≡ block = cc in absurd (ne e))
    ]
  ]

-- an act changed pages that have frames
module _ (format : Format) (pages : List Page) (acts : ℕ) (old new : Pool) (honest : Bool) (m : DiskMoment) (changed : List Page) (holds : HoldsPages format pages acts old honest m)
    (stored : AreStored format 0 pages) (few : length pages ≤ format.pages) (actable : AreActable format (length pages) changed) (acted : AreActed old new changed (suc acts)) where
  abbrev after : List Page
  after = with_pages pages changed

  got : (b : ℕ) → slice_get after b ≡ later_of (slice_get pages b) (last_image changed b)
  got b = get-with_pages format (length pages) pages changed b actable (omega arith)

  -- a block that the act doesn't name has its page as it was
  as_before : (b : ℕ) → last_image changed b ≡ None → slice_get after b ≡ slice_get pages b
  as_before b none = got b ∙ ap (λ (o : Option Page). later_of (slice_get pages b) o) none

  -- one that it names has the page that it names
  as_named : (b : ℕ) (page : Page) → last_image changed b ≡ Some page → slice_get after b ≡ Some page
  as_named b page named = got b ∙ ap (λ (o : Option Page). later_of (slice_get pages b) o) named

  used_before : (b : ℕ) → last_image changed b ≡ None → b < length after → b < length pages
  used_before b none used = elim (slice_get_cases after b).1 [
    | inl there ↦ slice_get_within pages b there.0 (sym (as_before b none) ∙ there.2)
    | inr past ↦ absurd (omega (arith, past.0))
  ]

  pub holds_acted : HoldsPages format after (suc acts) new honest m
  holds_acted = record {
    few = λ b. elim (image_cases (last_image changed b)) [
      | inl none ↦ omega (arith, acted.before b none, holds.few b)
      | inr named ↦ omega (arith, acted.acted b named)
    ];
    in_use = λ b some. elim (image_cases (last_image changed b)) [
      | inl none ↦
          let was : 0 < act_of old b = subst (λ (n : ℕ). 0 < n) (acted.before b none) some in
          within_more b none (holds.in_use b was)
      | inr named ↦ (let there = some_of (last_image changed b) named in slice_get_within after b there.0 (as_named b there.0 there.1))
    ];
    stored = λ b held used found. elim (image_cases (last_image changed b)) [
      | inl none ↦ holds.stored b held (used_before b none used) (sym (acted.others b none) ∙ found)
      | inr named ↦ (let there = some_of (last_image changed b) named in
          let both : Some held ≡ Some there.0 = sym found ∙ acted.held b there.0 there.1 in
          let e : held ≡ there.0 = cc in
          subst (λ (p : Page). IsStored format b p) (sym e)
          (stored_page format b after there.0 (stored-with_pages format (length pages) pages changed actable (omega arith) stored few).0 (as_named b there.0 there.1)))
    ];
    changed = λ b held page some found there. alike b held page found there
        (λ none. holds.changed b held page (subst (λ (n : ℕ). 0 < n) (acted.before b none) some) (sym (acted.others b none) ∙ found) (sym (as_before b none) ∙ there));
    held = λ h b held page found there. alike b held page found there
        (λ none. holds.held h b held page (sym (acted.others b none) ∙ found) (sym (as_before b none) ∙ there));
    seen = λ h b page found clean. elim (image_cases (last_image changed b)) [
      | inl none ↦ holds.seen h b page (sym (as_before b none) ∙ found) (sym (acted.before b none) ∙ clean)
      | inr named ↦ absurd (omega (arith, acted.acted b named, clean))
    ];
  }
    where
      within_more : (b : ℕ) → last_image changed b ≡ None → b < length pages → b < length after
      within_more b none below = elim (slice_get_cases pages b).1 [
        | inl there ↦ slice_get_within after b there.0 (as_before b none ∙ there.2)
        | inr past ↦ absurd (omega (arith, past.0))
      ]

      alike : (b : ℕ) (held page : Page) → held_page new b ≡ Some held → slice_get after b ≡ Some page
          → (last_image changed b ≡ None → page_bytes held ≡ page_bytes page) → page_bytes held ≡ page_bytes page
      alike b held page found there before = elim (image_cases (last_image changed b)) [
        | inl none ↦ before none
        | inr named ↦ (let image = some_of (last_image changed b) named in
            let one : Some held ≡ Some image.0 = sym found ∙ acted.held b image.0 image.1 in
            let two : Some page ≡ Some image.0 = sym there ∙ as_named b image.0 image.1 in
            let e : held ≡ image.0 = cc in
            let f : page ≡ image.0 = cc in
            ap page_bytes (e ∙ sym f))
      ]
