-- The deletion numbers that wait: they stay those of the deleted pages, and tell which of these may be
-- reused.
use Rattle.std.proofs.Common.{◌≡◌, ◌≢◌, ◌≤◌, ◌<◌, ℕ, zero, suc, Bool, true, false, ◌&&◌, nat_le, if◌then◌else◌, min, Option, Some, None, List, [], ◌∷◌, ◌++◌, length, slice_get, slice_set, slice_index, unwrap_or, replicate, refl, sym, ap, subst, ◌∙◌, inl, inr, arith, length-set}
use Rattle.std.proofs.lemmas.List.{get_or-set_same, get_or-set_other}
use Rattle.page_codec.specs.declared.page.PageState.{PageState}
use Rattle.page_codec.specs.declared.page.PageState.TheVariants.{Live, HalfDead, Deleted}
use Rattle.page_action.proofs.Imports.{cases_lt, cases_eq, lt-ltb, le-ltb, le-leb, lt-leb, unwrap_or-slice_get, get_or_from_slice_get, number_at, lesser, is_at_most, IsLowest, AreBeyond, Format}
use Rattle.page_action.proofs.Imports.{Page, TableOfCalls, state_with, is_deleted, is_deleted_page, is_deleted_state, others_began_after, is_reusable, IsFresh, IsFull, State, with_page}
use Rattle.page_action.proofs.Imports.{with_pages, with_count, with_counts, number_to_count, AreActable, waiting_number, with_waiting, with_all_waiting, waiting_at, AreWaiting, least_start}
use Rattle.page_action.proofs.StoredPages.{length-with_count, with_page-longer}

more_same : {A : Type 0} (xs : List A) (x : A) → slice_get (xs ++ x ∷ []) (length xs) ≡ Some x
more_same [] x = refl
more_same (y ∷ ys) x = more_same ys x

more_other : {A : Type 0} (xs : List A) (b : ℕ) (x : A) → b ≢ length xs → slice_get (xs ++ x ∷ []) b ≡ slice_get xs b
more_other [] zero x ne = absurd (ne refl)
more_other [] (suc b) x ne = refl
more_other (y ∷ ys) zero x ne = refl
more_other (y ∷ ys) (suc b) x ne = more_other ys b x (λ e. ne (ap suc e))

set_same : {A : Type 0} (xs : List A) (b : ℕ) (x : A) → b < length xs → slice_get (slice_set xs b x) b ≡ Some x
set_same [] b x lt = absurd (omega arith)
set_same (y ∷ ys) zero x lt = refl
set_same (y ∷ ys) (suc b) x lt = set_same ys b x (omega arith)

set_other : {A : Type 0} (xs : List A) (at b : ℕ) (x : A) → b ≢ at → slice_get (slice_set xs at x) b ≡ slice_get xs b
set_other [] at b x ne = refl
set_other (y ∷ ys) zero zero x ne = absurd (ne refl)
set_other (y ∷ ys) zero (suc b) x ne = refl
set_other (y ∷ ys) (suc at) zero x ne = refl
set_other (y ∷ ys) (suc at) (suc b) x ne = set_other ys at b x (λ e. ne (ap suc e))

same_read : (xs ys : List ℕ) (b : ℕ) → slice_get xs b ≡ slice_get ys b → slice_index xs b ≡ slice_index ys b
same_read xs ys b same = sym (unwrap_or-slice_get xs b 0) ∙ ap (λ (o : Option ℕ). unwrap_or o 0) same ∙ unwrap_or-slice_get ys b 0

-- at a block's place stands this, and at each other what stood there
record Puts {A : Type 0} (old new : List A) (block : ℕ) (x : A) : Type 0 where
  here : slice_get new block ≡ Some x
  others : (b : ℕ) → b ≢ block → slice_get new b ≡ slice_get old b

added : {A : Type 0} (xs : List A) (block : ℕ) (x : A) → length xs ≡ block → Puts xs (xs ++ x ∷ []) block x
added {A} xs block x end = record {
  here = ap (slice_get (xs ++ x ∷ [])) (sym end) ∙ more_same xs x;
  others = λ b ne. more_other xs b x (λ e. ne (e ∙ end));
}

changed : {A : Type 0} (xs : List A) (block : ℕ) (x : A) → block < length xs → Puts xs (slice_set xs block x) block x
changed xs block x lt = record { here = set_same xs block x lt; others = λ b ne. set_other xs block b x ne }

puts_page : (pages : List Page) (page : Page) → page.block ≤ length pages → Puts pages (with_page pages page) page.block page
puts_page pages page place = elim (cases_lt page.block (length pages)) [
  | inl lt ↦ rw (lt-ltb page.block (length pages) lt) (changed pages page.block page lt)
  | inr ge ↦ rw (le-ltb page.block (length pages) ge) (added pages page.block page (omega arith))
]

puts_count : (counted : List ℕ) (page : Page) → page.block ≤ length counted
    → Puts counted (with_count counted page) page.block (number_to_count page.state page.deletion)
puts_count counted page place = elim (cases_lt page.block (length counted)) [
  | inl lt ↦ rw (lt-ltb page.block (length counted) lt) (changed counted page.block (number_to_count page.state page.deletion) lt)
  | inr ge ↦ rw (le-ltb page.block (length counted) ge) (added counted page.block (number_to_count page.state page.deletion) (omega arith))
]

-- the number that waits once a page is written is that which counts, if it is deleted
count_waits : (state : PageState) (number : ℕ) → waiting_number state number ≡ (if is_deleted_state state then Some (number_to_count state number) else None)
count_waits Live number = refl
count_waits HalfDead number = refl
count_waits Deleted number = refl

pub no_count_waits : (state : PageState) → waiting_number state 0 ≡ (if is_deleted_state state then Some 0 else None)
no_count_waits Live = refl
no_count_waits HalfDead = refl
no_count_waits Deleted = refl

put_waits : (waiting : List (Option ℕ)) (pages pages' : List Page) (counted counted' : List ℕ) (block number : ℕ) (page : Page) (value : Option ℕ)
    → AreWaiting waiting pages counted → block < length waiting → Puts pages pages' block page → Puts counted counted' block number
    → value ≡ (if is_deleted_state page.state then Some number else None) → AreWaiting (slice_set waiting block value) pages' counted'
put_waits waiting pages pages' counted counted' block number page value waits room at_pages at_counts is = record {
  each = λ b. elim (cases_eq b block) [
    | inl same ↦ subst (λ (n : ℕ). number_at (slice_set waiting block value) n ≡ waiting_at pages' counted' n) (sym same) here
    | inr ne ↦ get_or-set_other waiting block b value None ne ∙ (waits.each b ∙ other b ne)
  ];
}
  where
    here : number_at (slice_set waiting block value) block ≡ waiting_at pages' counted' block
    here =
        get_or-set_same waiting block value None room ∙ is
        ∙ ap (λ (n : ℕ). if is_deleted_state page.state then Some n else None) (sym (get_or_from_slice_get counted' block number 0 at_counts.here))
        ∙ ap (λ (o : Option Page). if is_deleted_page o then Some (slice_index counted' block) else None) (sym at_pages.here)

    other : (b : ℕ) → b ≢ block → waiting_at pages counted b ≡ waiting_at pages' counted' b
    other b ne =
        ap (λ (n : ℕ). if is_deleted pages b then Some n else None) (same_read counted counted' b (sym (at_counts.others b ne)))
        ∙ ap (λ (o : Option Page). if is_deleted_page o then Some (slice_index counted' b) else None) (sym (at_pages.others b ne))

-- ... after a page more is in use
pub add_waits : (waiting : List (Option ℕ)) (pages : List Page) (counted : List ℕ) (page : Page) → AreWaiting waiting pages counted
    → length counted ≡ length pages → length counted < length waiting
    → AreWaiting (slice_set waiting (length counted) (waiting_number page.state 0)) (pages ++ page ∷ []) (counted ++ 0 ∷ [])
add_waits waiting pages counted page waits same room =
    put_waits waiting pages (pages ++ page ∷ []) counted (counted ++ 0 ∷ []) (length counted) 0 page (waiting_number page.state 0) waits room
    (added pages (length counted) page (sym same)) (added counted (length counted) 0 refl) (no_count_waits page.state)

-- ... after pages are written
pub write_waits : (format : Format) (used : ℕ) (waiting : List (Option ℕ)) (pages : List Page) (counted : List ℕ) (changed : List Page)
    → AreActable format used changed → used ≤ length pages → format.pages ≤ length waiting → length counted ≡ length pages
    → AreWaiting waiting pages counted → AreWaiting (with_all_waiting waiting changed) (with_pages pages changed) (with_counts counted changed)
write_waits format used waiting pages counted [] may most room same waits = waits
write_waits format used waiting pages counted (page ∷ changed) may most room same waits =
    let place : page.block ≤ length pages = omega (arith, may.1.0) in
    let at = put_waits waiting pages (with_page pages page) counted (with_count counted page) page.block (number_to_count page.state page.deletion) page (waiting_number page.state page.deletion)
    waits (omega (arith, may.1.1)) (puts_page pages page place) (puts_count counted page (omega arith)) (count_waits page.state page.deletion) in
    write_waits format used (with_waiting waiting page) (with_page pages page) (with_count counted page) changed may.3 (omega (arith, with_page-longer format pages page may.0.storable place))
    (omega (arith, length-set waiting page.block (waiting_number page.state page.deletion))) (length-with_count counted pages page same) at

-- if nothing is in use, nothing waits
pub none_wait : (n : ℕ) → AreWaiting (replicate n None) [] []
none_wait n = record { each = none n }
  where
    none : (n b : ℕ) → number_at (replicate n None) b ≡ waiting_at [] [] b
    none zero b = refl
    none (suc n) zero = refl
    none (suc n) (suc b) = none n b

pub length-with_all_waiting : (waiting : List (Option ℕ)) (changed : List Page) → length (with_all_waiting waiting changed) ≡ length waiting
length-with_all_waiting waiting [] = refl
length-with_all_waiting waiting (page ∷ changed) =
    length-with_all_waiting (with_waiting waiting page) changed ∙ length-set waiting page.block (waiting_number page.state page.deletion)

and_true : (b : Bool) → b ≡ (b && true)
and_true true = refl
and_true false = refl

-- a number is at most the lesser of two, if it is at most both
both_at_most : (a b : Option ℕ) (n : ℕ) → is_at_most (lesser a b) (Some n) ≡ (is_at_most a (Some n) && is_at_most b (Some n))
both_at_most None b n = refl
both_at_most (Some a) None n = and_true (nat_le n a)
both_at_most (Some a) (Some b) n = elim (cases_lt a n) [
  | inl over ↦ lt-leb n (min a b) (omega arith) ∙ ap (λ (t : Bool). t && nat_le n b) (sym (lt-leb n a over))
  | inr first ↦ elim (cases_lt b n) [
    | inl over ↦ lt-leb n (min a b) (omega arith) ∙ sym (ap (λ (t : Bool). t && nat_le n b) (le-leb n a first) ∙ lt-leb n b over)
    | inr second ↦ le-leb n (min a b) (omega arith) ∙ sym (ap (λ (t : Bool). t && nat_le n b) (le-leb n a first) ∙ le-leb n b second)
  ]
]

pub least_decides : (number from : ℕ) (running : List (Option ℕ)) → is_at_most (least_start running) (Some number) ≡ others_began_after number from None running
least_decides number from [] = refl
least_decides number from (None ∷ running) = least_decides number (suc from) running
least_decides number from (Some call ∷ running) =
    both_at_most (Some call) (least_start running) number ∙ ap (λ (rest : Bool). is_at_most (Some call) (Some number) && rest) (least_decides number (suc from) running)

deleted_in_use : (pages : List Page) (block : ℕ) → is_deleted pages block ≡ true → block < length pages
deleted_in_use [] block h = absurd cc
deleted_in_use (page ∷ pages) zero h = omega arith
deleted_in_use (page ∷ pages) (suc block) h = omega (arith, deleted_in_use pages block h)

and_left : (a b : Bool) → (a && b) ≡ true → a ≡ true
and_left true b h = refl
and_left false b h = h

-- which of these calls' pages may be reused is told by the numbers that wait
module _ (format : Format) (frames acts : ℕ) (pages : List Page) (calls : TableOfCalls) (waits : AreWaiting calls.waiting pages calls.counted) where
  abbrev st : State
  st = state_with format frames pages acts calls

  abbrev may_pass : ℕ → Bool
  may_pass block = is_at_most (least_start calls.running) (number_at calls.waiting block)

  decides : (block : ℕ) → may_pass block ≡ is_reusable st block
  decides block = ap (is_at_most (least_start calls.running)) (waits.each block) ∙ split (is_deleted pages block)
    where
      split : (d : Bool) →
          is_at_most (least_start calls.running) (if d then Some (slice_index calls.counted block) else None) ≡ (d && others_began_after (slice_index calls.counted block) 0 None calls.running)
      split true = least_decides (slice_index calls.counted block) 0 calls.running
      split false = refl

  pub lowest_is_fresh : (block : ℕ) → length pages ≤ format.pages → IsLowest (least_start calls.running) calls.waiting block → IsFresh st block
  lowest_is_fresh block few h =
      let reusable : is_reusable st block ≡ true = sym (decides block) ∙ h.at_most in
      let used = deleted_in_use pages block (and_left (is_deleted pages block) _ reusable) in
      record {
        lowest = λ b lt. sym (decides b) ∙ h.lowest b lt;
        within = omega arith;
        reusable = λ lt. reusable;
        inside = omega arith;
      }

  pub next_is_fresh : length pages < format.pages → AreBeyond (least_start calls.running) calls.waiting → IsFresh st (length pages)
  next_is_fresh few h = record {
    lowest = λ b lt. sym (decides b) ∙ h b;
    within = omega arith;
    reusable = λ lt. absurd (omega (arith, lt));
    inside = few;
  }

  pub none_is_full : format.pages ≤ length pages → AreBeyond (least_start calls.running) calls.waiting → IsFull st
  none_is_full all h = record { used = all; none = λ b lt. sym (decides b) ∙ h b }
