-- What a read page is, if the device kept its model.
use Rattle.std.proofs.Common.{◌≡◌, inl, inr, ℕ, ◌<◌, ◌≤◌, Bool, true, Some, List, length, slice_get, Result, Ok, Err, sym, ap, ◌∙◌, arith}
use Rattle.buffer_pool.specs.Pools.{act_of, held_page}
use Rattle.page_codec.specs.Spelling.{page_bytes}
use Rattle.page_store.proofs.Imports.{OnOk, OnErr, slice_get_cases, DiskMoment, Has, Fault, Io, Format, Pool, Page, one_page, IsStored, AreStored, stored_page, place, HoldsPages, GivesPage}
use Rattle.page_store.proofs.Imports.{ReadingFails}

-- a block in use has its page
pub page_in_use : (pages : List Page) (block : ℕ) → block < length pages → (page : Page) × (slice_get pages block ≡ Some page)
page_in_use pages block used = elim (slice_get_cases pages block).1 [
  | inl there ↦ (there.0, there.2)
  | inr past ↦ absurd (omega (arith, past.0))
]

pub reading_rises : {T : Type 0} (block : ℕ) (r : Result T Fault) (old new : ℕ) → ReadingFails block r old new → old ≤ new
reading_rises block (Ok x) old new same = omega arith
reading_rises block (Err e) old new (inl io) = omega (arith, io.1)
reading_rises block (Err e) old new (inr damaged) = omega (arith, damaged.1)

module _ (format : Format) (pages : List Page) (acts : ℕ) (pool : Pool) (honest : Bool) (m : DiskMoment) (holds : HoldsPages format pages acts pool honest m) (stored : AreStored format 0 pages) where
  -- a read of a page that isn't held gives it, or the device failed
  pub read_gives : {T : Type 0} (block : ℕ) (page given : Page) (r : Result T Fault) → slice_get pages block ≡ Some page → act_of pool block ≡ 0 → honest ≡ true
      → ((there : Page) → IsStored format block there → Has (place format block) (page_bytes there) m.seen → GivesPage there given r) → GivesPage page given r
  read_gives block page given r found clean h gives = gives page (stored_page format block pages page stored found) (holds.seen h block page found clean)

  -- a held page is the one in use
  pub held_is : (block : ℕ) (held : Page) → block < length pages → held_page pool block ≡ Some held → honest ≡ true → slice_get pages block ≡ Some held
  held_is block held used found h =
      let there = page_in_use pages block used in
      there.1 ∙ ap Some (one_page there.0 held (stored_page format block pages there.0 stored there.1).storable.admitted
      (holds.stored block held used found).storable.admitted (sym (holds.held h block held there.0 found there.1)))

pub given_right : {T : Type 0} (pages : List Page) (block : ℕ) (page given : Page) (honest : Bool) (r : Result T Fault) → slice_get pages block ≡ Some page → (honest ≡ true → GivesPage page given r)
    → OnOk r (honest ≡ true → slice_get pages block ≡ Some given)
given_right pages block page given honest (Ok x) found gives = λ h. found ∙ ap Some (sym (gives h))
given_right pages block page given honest (Err e) found gives = tt

pub given_fails : {T : Type 0} (page given : Page) (r : Result T Fault) → GivesPage page given r → OnErr r (r ≡ Err Io)
given_fails page given (Ok x) gives = tt
given_fails page given (Err e) gives = ap Err gives
