-- Pages are read, one block after the other.
use Rattle.std.proofs.Common.{◌≡◌, ◌≢◌, inl, inr, ℕ, zero, suc, ◌+◌, ◌-◌, ◌<◌, ◌≤◌, max, Bool, IsTrue, Option, Some, None, List, [], ◌∷◌, ◌++◌, length, take, drop, replicate, get_or, slice_get, slice_index, Result, Ok, Err, refl, sym, ◌∙◌, ap, subst, arith, length-append}
use Rattle.page_codec.specs.Spelling.{page_bytes, used_bytes, head_bytes}
use Rattle.page_store.proofs.Images.{more_same, more_other}
use Rattle.recovery.proofs.Imports.{cases_eq, take_at, length-replicate, get_or-take, get_or-drop, slice_get_within, MatchResult, IsErrAnd, DiskMoment, Has, has_drop, Fault, Format, IsStored}
use Rattle.recovery.proofs.Imports.{AreStored, stored-add, stored_page, one_page, length-page, Page, format_of_room, pages_of_room, counts_of_room, place, AreHome, AreSeen, past_of_none}
use Rattle.recovery.proofs.Imports.{block_bytes, AreBytesOf, StandFirst, IsEnd, IsDamagedAt, AreInUse, greatest_cycle, HasReadPages, Found}

cycle-more : (pages : List Page) (page : Page) → greatest_cycle (pages ++ page ∷ []) ≡ max (greatest_cycle pages) page.cycle
cycle-more [] page = omega arith
cycle-more (p ∷ pages) page = omega (arith, cycle-more pages page)

zeros-more : (n : ℕ) → replicate {A = ℕ} n 0 ++ 0 ∷ [] ≡ replicate {A = ℕ} (suc n) 0
zeros-more zero = refl
zeros-more (suc n) = ap (λ (l : List ℕ). 0 ∷ l) (zeros-more n)

stand-more : (format : Format) (pages : List Page) (page : Page) (file : List ℕ) → StandFirst format pages file
    → block_bytes format (length pages) file ≡ page_bytes page → StandFirst format (pages ++ page ∷ []) file
stand-more format pages page file stand here block p found = elim (cases_eq (length pages) block) [
  | inl same ↦
      let got = sym (more_same pages page) ∙ (ap (λ (b : ℕ). slice_get (pages ++ page ∷ []) b) same ∙ found) in
      let is : page ≡ p = cc in
      ap (λ (b : ℕ). block_bytes format b file) (sym same) ∙ (here ∙ ap page_bytes is)
  | inr other ↦ stand block p (sym (more_other pages block page other) ∙ found)
]

-- one page more is read
pub read_more : (format : Format) (before after : Bool) (file : List ℕ) (old new : Found) (page : Page) → (IsTrue after → IsTrue before)
    → HasReadPages format before file old → format_of_room new.room ≡ format_of_room old.room
    → pages_of_room new.room ≡ pages_of_room old.room ++ page ∷ [] → counts_of_room new.room ≡ counts_of_room old.room ++ 0 ∷ []
    → IsStored format (length (pages_of_room old.room)) page → new.last_cycle ≡ max old.last_cycle page.cycle
    → (IsTrue after → block_bytes format (length (pages_of_room old.room)) file ≡ page_bytes page) → HasReadPages format after file new
read_more format before after file old new page earlier read same pages counts stored last_cycle here =
    let count : length (pages_of_room new.room) ≡ suc (length (pages_of_room old.room)) = omega (arith, ap length pages, length-append (pages_of_room old.room) (page ∷ [])) in
    record {
      format_is = same ∙ read.format_is;
      stored = subst (AreStored format 0) (sym pages)
          (stored-add format 0 (pages_of_room old.room) page read.stored
          (let e : 0 + length (pages_of_room old.room) ≡ length (pages_of_room old.room) = omega arith in subst (λ (b : ℕ). IsStored format b page) (sym e) stored));
      counts = counts ∙ (ap (λ (l : List ℕ). l ++ 0 ∷ []) read.counts ∙ (zeros-more (length (pages_of_room old.room)) ∙ ap (λ (n : ℕ). replicate {A = ℕ} n 0) (sym count)));
      last_cycle = last_cycle ∙ (ap (λ (n : ℕ). max n page.cycle) read.last_cycle ∙ (sym (cycle-more (pages_of_room old.room) page) ∙ ap greatest_cycle (sym pages)));
      stand = λ honest. subst (λ (ps : List Page). StandFirst format ps file) (sym pages) (stand-more format (pages_of_room old.room) page file (read.stand (earlier honest)) (here honest));
    }

-- the bytes of a page are not zeros
pub page_is_not_zeros : (page : Page) → page_bytes page ≢ replicate 4096 0
unfolding page_bytes used_bytes head_bytes
page_is_not_zeros page is = (let first : 66 ≡ 0 = ap (λ (l : List ℕ). slice_index l 0) is in absurd (omega (arith, first)))

-- the block whose page was not taken is damaged
pub damaged_here : (format : Format) (honest : Bool) (file : List ℕ) (found : Found) (page : Page) → HasReadPages format honest file found
    → IsTrue honest → length (pages_of_room found.room) < format.pages
    → AreBytesOf (Some page) (block_bytes format (length (pages_of_room found.room)) file)
    → (IsStored format (length (pages_of_room found.room)) page → ⊥) → IsDamagedAt format (length (pages_of_room found.room)) file
damaged_here format honest file found page read is within here wrong = record {
  before = pages_of_room found.room;
  stored = read.stored;
  stand = read.stand is;
  count = refl;
  within = within;
  no_page = λ other stored same. wrong (subst (IsStored format (length (pages_of_room found.room))) (one_page other page stored.storable.admitted here.0 (sym same ∙ here.1)) stored);
  in_use = λ zeros. absurd (page_is_not_zeros page (sym here.1 ∙ zeros));
}

-- what holds of a fault holds of a result that is refused with it
pub refused : {T : Type 0} (r : Result T Fault) (e : Fault) (A : T → Type 0) (P : Fault → Type 0) → IsErrAnd r (λ x. x ≡ e) → P e → MatchResult r A P
refused (Ok x) e A P is p = absurd is
refused (Err y) e A P is p = subst P (sym is) p

-- block 0 is damaged if it is unused
pub none_in_use : (format : Format) (file : List ℕ) → 0 < format.pages → IsEnd format 0 file → IsDamagedAt format 0 file
none_in_use format file some (inl full) = absurd (omega (arith, full))
none_in_use format file some (inr zeros) = record {
  before = [];
  stored = tt;
  stand = λ block page found. absurd cc;
  count = refl;
  within = some;
  no_page = λ page stored same. page_is_not_zeros page (sym same ∙ zeros);
  in_use = λ same. refl;
}

-- bytes that stand at the place of a block
pub block_has : (format : Format) (block : ℕ) (bytes file : List ℕ) → Has (place format block) bytes file → length bytes ≡ 4096 → block_bytes format block file ≡ bytes
block_has format block bytes file has long =
    let at = place format block in
    let size : at + 4096 - at ≡ 4096 = omega arith in
    ap (λ (n : ℕ). take n (drop at file)) size ∙ (ap (take 4096) (has_drop at bytes file has) ∙ take_at bytes (drop (at + length bytes) file) 4096 long)

-- what stands at the place of a block is what a read gives there
pub has_block : (format : Format) (block : ℕ) (bytes file : List ℕ) → block_bytes format block file ≡ bytes → length bytes ≡ 4096
    → place format block + 4096 ≤ length file → Has (place format block) bytes file
has_block format block bytes file is long inside =
    let at = place format block in
    let size : at + 4096 - at ≡ 4096 = omega arith in
    let there : take 4096 (drop at file) ≡ bytes = sym (ap (λ (n : ℕ). take n (drop at file)) size) ∙ is in
    record {
      within = omega (arith, long, inside);
      each = λ i lt. sym (get_or-drop at file i 0) ∙ (sym (get_or-take 4096 (drop at file) i 0 (omega (arith, long))) ∙ ap (λ (l : List ℕ). get_or l i 0) there);
    }

-- pages that were read stand on the device
pub seen_of : (format : Format) (pages : List Page) (m : DiskMoment) → AreStored format 0 pages → length pages ≤ format.pages
    → place format format.pages ≤ length m.seen → StandFirst format pages m.seen → AreSeen format pages m
seen_of format pages m stored few inside stand block page found =
    has_block format block (page_bytes page) m.seen (stand block page found) (length-page page (stored_page format block pages page stored found).storable.admitted)
    (omega (arith, slice_get_within pages block page found, few, inside))

-- pages that stand at home are those of all blocks in use
pub home_in_use : (format : Format) (pages : List Page) (m : DiskMoment) → AreStored format 0 pages → length pages ≤ format.pages → AreHome format [] pages m → AreInUse format pages m.seen
home_in_use format pages m stored few home = record {
  stored = stored;
  few = few;
  stand = λ block page found.
      block_has format block (page_bytes page) m.seen (home.used block page found refl).has (length-page page (stored_page format block pages page stored found).storable.admitted);
  end = elim (cases_eq (length pages) format.pages) [
    | inl full ↦ inl full
    | inr less ↦ inr (block_has format (length pages) (replicate 4096 0) m.seen (home.unused (length pages) (omega arith) (omega (arith, few)) refl).has (length-replicate {A = ℕ} 4096 0))
  ];
}

same_gets : (ps qs : List Page) → ((i : ℕ) → slice_get ps i ≡ slice_get qs i) → ps ≡ qs
same_gets [] [] h = refl
same_gets [] (q ∷ qs) h = (let e : None ≡ Some q = h 0 in absurd cc)
same_gets (p ∷ ps) [] h = (let e : Some p ≡ None = h 0 in absurd cc)
same_gets (p ∷ ps) (q ∷ qs) h =
    let e : Some p ≡ Some q = h 0 in
    let first : p ≡ q = cc in
    ap (λ (x : Page). x ∷ ps) first ∙ ap (λ (l : List Page). q ∷ l) (same_gets ps qs (λ i. h (suc i)))

-- if zeros stand there is no page
no_page_there : (format : Format) (pages : List Page) (file : List ℕ) (block : ℕ) → StandFirst format pages file → block < length pages → block_bytes format block file ≢ replicate 4096 0
no_page_there format pages file block stand lt zeros = there (slice_get pages block) refl
  where
    there : (o : Option Page) → slice_get pages block ≡ o → ⊥
    there None none = (let past = past_of_none pages block none in absurd (omega (arith, past, lt)))
    there (Some page) found = page_is_not_zeros page (sym (stand block page found) ∙ zeros)

not_more : (format : Format) (ps qs : List Page) (file : List ℕ) → AreInUse format ps file → AreInUse format qs file → length ps < length qs → ⊥
not_more format ps qs file a b less = elim a.end [
  | inl full ↦ absurd (omega (arith, full, less, b.few))
  | inr zeros ↦ no_page_there format qs file (length ps) b.stand less zeros
]

-- a device has the pages of its blocks in use once
pub one_reading : (format : Format) (ps qs : List Page) (file : List ℕ) → AreInUse format ps file → AreInUse format qs file → ps ≡ qs
one_reading format ps qs file a b = same_gets ps qs (λ i. at i (slice_get ps i) (slice_get qs i) refl refl)
  where
    at : (i : ℕ) (o p : Option Page) → slice_get ps i ≡ o → slice_get qs i ≡ p → o ≡ p
    at i None None e f = refl
    at i None (Some q) e f = absurd (not_more format ps qs file a b (omega (arith, past_of_none ps i e, slice_get_within qs i q f)))
    at i (Some p) None e f = absurd (not_more format qs ps file b a (omega (arith, past_of_none qs i f, slice_get_within ps i p e)))
    at i (Some p) (Some q) e f =
        ap Some (one_page p q (stored_page format i ps p a.stored e).storable.admitted (stored_page format i qs q b.stored f).storable.admitted (sym (a.stand i p e) ∙ b.stand i q f))

-- if pages are in use, one or more, no block is damaged
pub not_damaged : (format : Format) (pages : List Page) (file : List ℕ) (block : ℕ) → AreInUse format pages file → 0 < length pages → IsDamagedAt format block file → ⊥
not_damaged format pages file block a some d = there (slice_get pages block) refl
  where
    there : (o : Option Page) → slice_get pages block ≡ o → ⊥
    there (Some page) found = d.no_page page (stored_page format block pages page a.stored found) (a.stand block page found)
    there None none =
        let past = past_of_none pages block none in
        elim a.end [
          | inl full ↦ absurd (omega (arith, full, past, d.within))
          | inr zeros ↦ elim (cases_eq (length pages) block) [
            | inl same ↦ (let first = d.in_use (ap (λ (b : ℕ). block_bytes format b file) (sym same) ∙ zeros) in absurd (omega (arith, same, first, some)))
            | inr other ↦ no_page_there format d.before file (length pages) d.stand (omega (arith, past, other, d.count)) zeros
          ]
        ]
