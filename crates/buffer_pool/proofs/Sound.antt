-- What is true of every pool.
use Rattle.std.proofs.Common.{◌≡◌, ℕ, zero, suc, ◌<◌, ◌≤◌, Bool, true, false, not, cond, eqb, ltb, Option, Some, None, List, [], ◌∷◌, length, get_or, slice_get, refl, sym, ap, inl, inr, ◌∙◌, arith}
use Rattle.std.specs.List.{All, position, position_or_len}
use Rattle.buffer_pool.specs.Orders.{waiting_in}
use Rattle.buffer_pool.specs.Pools.{most_of, reach_of, pool_count, pool_blocks, page_at, frame_of, held_page, act_of, changed_of, HasSameChanges, HasSamePages, IsPool}
use Rattle.buffer_pool.proofs.Imports.{IsSome, IfSome, IfNone, is_some, cases_lt, cases_Bool, lt-ltb, ltb-false, not-false, not-true, false_from_ne_true, length-map, get_or_default}
use Rattle.buffer_pool.proofs.Imports.{All-from_get_or, Any-from_list_any, position-Some, fails_before_first, eqb-true, slice_get_within, get_or_from_slice_get, Page, Pool, blocks_in, has_block}
use Rattle.buffer_pool.proofs.Imports.{BlocksAreApart, AreCleanPinned, IsFreeFrame, IsOldest, AreAllPinned}
use Rattle.buffer_pool.proofs.Placing.{placed_within}
use Rattle.buffer_pool.proofs.Changing.{frame_cases, has_block-at, all_changed}
use Rattle.buffer_pool.proofs.Putting.{no_act, held_at, held_none, frame_from, place_from, place_of_page}
use Rattle.buffer_pool.proofs.Apart.{pinned_more}
use Rattle.buffer_pool.proofs.Noting.{frame_within, block_there, held_act}

some_within : {A : Type 0} (xs : List A) (k : ℕ) → k < length xs → IsSome (slice_get xs k)
some_within [] k less = absurd (omega (arith, less))
some_within (x ∷ xs) zero less = refl
some_within (x ∷ xs) (suc k) less = some_within xs k (omega (arith, less))

many_blocks : (pool : Pool) → length (blocks_in pool.pages.items) ≡ length pool.pages.items
many_blocks pool = length-map pool.pages.items (λ (p : Page). p.block)

-- the frame of a page's block
pub own_frame : (pool : Pool) (at : ℕ) (page : Page) → page_at pool at ≡ Some page → frame_of pool page.block ≡ Some at
unfolding page_at
own_frame pool at page is =
    frame_from pool page.block at (place_of_page pool at page (slice_get_within pool.pages.items at page is) (sym (get_or_from_slice_get pool.pages.items at page page is)))

-- a block that is held has a frame, with its page
pub frame_of_held : (pool : Pool) (block : ℕ) (page : Page) → held_page pool block ≡ Some page → (at : ℕ) × (frame_of pool block ≡ Some at) × (page_at pool at ≡ Some page)
frame_of_held pool block page is =
    elim (frame_cases (frame_of pool block)) [
      | inl e ↦ let both : None ≡ Some page = sym (held_none pool block e) ∙ is in absurd cc
      | inr p ↦ (p.0, p.1, sym (held_at pool block p.0 p.1) ∙ is)
    ]

held_same : (pool : Pool) (block : ℕ) (page : Page) → held_page pool block ≡ Some page → page.block ≡ block
held_same pool block page is =
    let h = frame_of_held pool block page is in
    sym (block_there pool page.block h.0 (own_frame pool h.0 page h.2)) ∙ block_there pool block h.0 h.1

held_within : (pool : Pool) (block : ℕ) (page : Page) → held_page pool block ≡ Some page → block < reach_of pool
unfolding reach_of
held_within pool block page is =
    let h = frame_of_held pool block page is in
    placed_within pool.places.items block h.0 (place_from pool block h.0 h.1)

held_among : (pool : Pool) (block : ℕ) (page : Page) → held_page pool block ≡ Some page → has_block (pool_blocks pool) block ≡ true
unfolding pool_blocks
held_among pool block page is =
    let h = frame_of_held pool block page is in
    let blocks = blocks_in pool.pages.items in
    let less : h.0 < length blocks = omega (arith, frame_within pool block h.0 h.1, many_blocks pool) in
    ap (has_block blocks) (sym (block_there pool block h.0 h.1)) ∙ has_block-at blocks h.0 0 less

changed_kept : (pool : Pool) (block : ℕ) → 0 < act_of pool block → IsSome (held_page pool block)
unfolding page_at
changed_kept pool block some =
    elim (frame_cases (frame_of pool block)) [
      | inl e ↦ absurd (omega (arith, some, no_act pool block e))
      | inr p ↦ ap {B = Bool} (λ (o : Option Page). is_some o) (held_at pool block p.0 p.1) ∙ some_within pool.pages.items p.0 (frame_within pool block p.0 p.1)
    ]

-- no two frames hold one block
blocks_apart : (pool : Pool) → BlocksAreApart (blocks_in pool.pages.items)
blocks_apart pool = λ i j d less within same.
    let blocks = blocks_in pool.pages.items in
    let zero_i = get_or_default blocks i d 0 (omega (arith, less, within)) in
    let zero_j = get_or_default blocks j d 0 within in
    omega (arith, less, pool.placed.told i (omega (arith, less, within)), pool.placed.told j within, ap (λ (b : ℕ). get_or pool.places.items b 0) (sym zero_i ∙ (same ∙ zero_j)))

-- the block of a frame in use has that frame
frame_of_block : (pool : Pool) (at : ℕ) → at < length pool.pages.items → frame_of pool (get_or (blocks_in pool.pages.items) at 0) ≡ Some at
frame_of_block pool at less = frame_from pool (get_or (blocks_in pool.pages.items) at 0) at (pool.placed.told at (omega (arith, less, many_blocks pool)))

-- what is in a frame has one
among_framed : (pool : Pool) (block : ℕ) → has_block (blocks_in pool.pages.items) block ≡ true → (at : ℕ) × (frame_of pool block ≡ Some at)
among_framed pool block among =
    let there = Any-from_list_any (λ b. eqb b block) (blocks_in pool.pages.items) among in
    let is : get_or (blocks_in pool.pages.items) there.0 0 ≡ block =
    get_or_default (blocks_in pool.pages.items) there.0 0 there.1 there.2 ∙ (there.3 ∙ eqb-true there.1 block there.4) in
    (there.0, ap (frame_of pool) (sym is) ∙ frame_of_block pool there.0 (omega (arith, there.2, many_blocks pool)))

framed_there : (pool : Pool) (block : ℕ) → has_block (pool_blocks pool) block ≡ is_some (frame_of pool block)
unfolding pool_blocks
framed_there pool block =
    let blocks = blocks_in pool.pages.items in
    elim (frame_cases (frame_of pool block)) [
      | inl e ↦
          false_from_ne_true (has_block blocks block) (λ among.
          let there = among_framed pool block among in
          let both : None ≡ Some there.0 = sym e ∙ there.1 in absurd cc)
          ∙ sym (ap {B = Bool} (λ (o : Option ℕ). is_some o) e)
      | inr p ↦
          ap (has_block blocks) (sym (block_there pool block p.0 p.1))
          ∙ has_block-at blocks p.0 0 (omega (arith, many_blocks pool, frame_within pool block p.0 p.1))
          ∙ sym (ap {B = Bool} (λ (o : Option ℕ). is_some o) p.1)
    ]

pub pool_is : (pool : Pool) → IsPool pool
unfolding most_of pool_count pool_blocks act_of changed_of
pool_is pool = record {
  few = pool.few;
  count = many_blocks pool;
  apart = blocks_apart pool;
  own = own_frame pool;
  in_use = frame_within pool;
  held = held_at pool;
  absent = held_none pool;
  same = held_same pool;
  within = held_within pool;
  among = held_among pool;
  frames = frame_of_block pool;
  there = framed_there pool;
  changed = pool.ordered.told;
  kept = changed_kept pool;
  once = pool.ordered.apart;
}

-- what is true of the block of each frame in use
pub all_blocks : (pool : Pool) (P : ℕ → Type 0) → ((at : ℕ) → at < length pool.pages.items → P (get_or (blocks_in pool.pages.items) at 0)) → All P (pool_blocks pool)
unfolding pool_blocks
all_blocks pool P each = All-from_get_or P (blocks_in pool.pages.items) 0 (λ at less. each at (omega (arith, less, many_blocks pool)))

-- the next unused frame is free
pub unused_free : (pool : Pool) (pinned : List ℕ) (at : ℕ) → at ≡ length pool.pages.items → at < pool.most → IsFreeFrame pool pinned at
unfolding most_of pool_count
unused_free pool pinned at is less = record {
  taken = record {
    next = omega (arith, is);
    within = less;
    clean = λ block some there. absurd (omega (arith, is, frame_within pool block at there));
  };
  unpinned = λ block pin there. absurd (omega (arith, is, frame_within pool block at there));
}

-- a frame with a clean page that isn't pinned is free
pub clean_free : (pool : Pool) (pinned : List ℕ) (at : ℕ) → at < length pool.pages.items → get_or pool.acts.items at 0 ≡ 0
    → has_block pinned (get_or (blocks_in pool.pages.items) at 0) ≡ false → IsFreeFrame pool pinned at
unfolding most_of pool_count
clean_free pool pinned at less clean off = record {
  taken = record {
    next = omega (arith, less);
    within = omega (arith, less, pool.few);
    clean = λ block some there. absurd (omega (arith, some, clean, held_act pool block at there));
  };
  unpinned = λ block pin there.
      let both : false ≡ true = sym off ∙ (ap (has_block pinned) (block_there pool block at there) ∙ pin) in absurd cc;
}

-- if as many pages are changed as are held, no block's page is clean
pub none_clean : (pool : Pool) (pinned : List ℕ) → length (waiting_in pool.changed) ≡ length pool.pages.items → AreCleanPinned pool pinned
none_clean pool pinned full =
    all_blocks pool (λ b. act_of pool b ≡ 0 → has_block pinned b ≡ true) (λ at less clean.
    absurd (omega (
      arith,
      clean,
      held_act pool _ at (frame_of_block pool at less),
      all_changed (waiting_in pool.changed) (blocks_in pool.pages.items) pool.acts.items at pool.ordered (omega (arith, full, pool.many_acts)) (omega (arith, less, pool.many_acts)),
    )))

-- if each clean frame is pinned, each clean page is
pub clean_pinned : (pool : Pool) (pinned : List ℕ)
    → ((at : ℕ) → at < length pool.pages.items → get_or pool.acts.items at 0 ≡ 0 → has_block pinned (get_or (blocks_in pool.pages.items) at 0) ≡ true)
    → AreCleanPinned pool pinned
clean_pinned pool pinned each =
    all_blocks pool (λ b. act_of pool b ≡ 0 → has_block pinned b ≡ true)
    (λ at less clean. each at less (sym (held_act pool _ at (frame_of_block pool at less)) ∙ clean))

-- if no block of a list passes, none of those in it does
pub none_passes : (p : ℕ → Bool) (blocks : List ℕ) (block : ℕ) → position p blocks ≡ None → has_block blocks block ≡ true → p block ≡ false
none_passes p blocks block none is =
    let there = Any-from_list_any (λ b. eqb b block) blocks is in
    let first = position_or_len p blocks in
    let same : get_or blocks there.0 there.1 ≡ block = there.3 ∙ eqb-true there.1 block there.4 in
    elim (cases_Bool (ltb first (length blocks))) [
      | inl lt ↦ let both : Some first ≡ None = sym (ap (λ (t : Bool). cond t (Some first) None) lt) ∙ none in absurd cc
      | inr ge ↦ ap p (sym same) ∙ fails_before_first p blocks there.0 there.1 (omega (arith, there.2, ltb-false first (length blocks) ge))
    ]

-- if each clean page is pinned, and each changed one, each is
pub all_pinned : (pool : Pool) (pinned : List ℕ) → AreCleanPinned pool pinned
    → position (λ b. not (has_block pinned b)) (waiting_in pool.changed) ≡ None → All (λ b. has_block pinned b ≡ true) (pool_blocks pool)
unfolding pool_blocks act_of
all_pinned pool pinned clean none = λ k d less.
    let blocks = blocks_in pool.pages.items in
    let block = get_or blocks k d in
    elim (cases_lt 0 (act_of pool block)) [
      | inl lt ↦
          not-false (has_block pinned block) (none_passes (λ b. not (has_block pinned b)) (waiting_in pool.changed) block none
          (pool.ordered.told block ∙ lt-ltb 0 (act_of pool block) lt))
      | inr ge ↦ clean k d less (omega (arith, ge))
    ]

-- a frame stays free if only the hand moves
pub free_stays : (old new : Pool) (pinned : List ℕ) (at : ℕ) → HasSamePages old new → HasSameChanges old new → IsFreeFrame old pinned at → IsFreeFrame new pinned at
free_stays old new pinned at pages changes h = record {
  taken = record {
    next = omega (arith, h.taken.next, pages.count);
    within = omega (arith, h.taken.within, pages.most);
    clean = λ block some there. h.taken.clean block (omega (arith, some, changes.acts block)) (sym (pages.places block) ∙ there);
  };
  unpinned = λ block pin there. h.unpinned block pin (sym (pages.places block) ∙ there);
}

-- what was found in the frames is free
pub found_free : (pool : Pool) (pinned acts : List ℕ) (pages : List Page) (found : Option ℕ) → acts ≡ pool.acts.items → pages ≡ pool.pages.items
    → IfSome found (λ at. at < length acts) → IfSome found (λ at. get_or acts at 0 ≡ 0)
    → IfSome found (λ at. has_block pinned (get_or (blocks_in pages) at 0) ≡ false) → IfSome found (IsFreeFrame pool pinned)
found_free pool pinned acts pages None same_acts same within clean off = tt
found_free pool pinned acts pages (Some at) same_acts same within clean off =
    clean_free pool pinned at (omega (arith, within, pool.many_acts, ap (λ (xs : List ℕ). length xs) same_acts))
    (ap (λ (xs : List ℕ). get_or xs at 0) (sym same_acts) ∙ clean)
    (ap (λ (ps : List Page). has_block pinned (get_or (blocks_in ps) at 0)) (sym same) ∙ off)

-- if nothing was found, each clean page is pinned
pub found_none : (pool : Pool) (pinned acts : List ℕ) (pages : List Page) (found : Option ℕ) → acts ≡ pool.acts.items → pages ≡ pool.pages.items
    → IfNone found ((at : ℕ) → at < length acts → get_or acts at 0 ≡ 0 → has_block pinned (get_or (blocks_in pages) at 0) ≡ true)
    → IfNone found (AreCleanPinned pool pinned)
found_none pool pinned acts pages (Some at) same_acts same none = tt
found_none pool pinned acts pages None same_acts same none =
    clean_pinned pool pinned (λ at less clean.
    ap (λ (ps : List Page). has_block pinned (get_or (blocks_in ps) at 0)) (sym same)
    ∙ none at (omega (arith, less, pool.many_acts, ap (λ (xs : List ℕ). length xs) same_acts)) (ap (λ (xs : List ℕ). get_or xs at 0) same_acts ∙ clean))

full_is : (pool : Pool) → pool.most ≤ length pool.pages.items → pool_count pool ≡ most_of pool
unfolding pool_count most_of
full_is pool many = omega (arith, many, pool.few)

-- the first of the changed blocks that isn't pinned
pub oldest_at : (pool : Pool) (pinned changed : List ℕ) (place block : ℕ) → changed ≡ (waiting_in pool.changed)
    → position (λ b. not (has_block pinned b)) changed ≡ Some place → slice_get (waiting_in pool.changed) place ≡ Some block → has_block (changed_of pool) block ≡ true
unfolding changed_of
oldest_at pool pinned changed place block same first is =
    let pass = position-Some (λ b. not (has_block pinned b)) changed place 0 first in
    let less : place < length (waiting_in pool.changed) = omega (arith, pass.0, ap (λ (xs : List ℕ). length xs) same) in
    ap (has_block (waiting_in pool.changed)) (sym (get_or_from_slice_get (waiting_in pool.changed) place block 0 is)) ∙ has_block-at (waiting_in pool.changed) place 0 less

pub oldest_is : (pool : Pool) (pinned changed : List ℕ) (place block act : ℕ) → changed ≡ (waiting_in pool.changed)
    → position (λ b. not (has_block pinned b)) changed ≡ Some place → slice_get (waiting_in pool.changed) place ≡ Some block → act ≡ act_of pool block
    → pool.most ≤ length pool.pages.items → AreCleanPinned pool pinned → IsOldest pool pinned place block act
unfolding changed_of
oldest_is pool pinned changed place block act same first is act_is many clean =
    let pass = position-Some (λ b. not (has_block pinned b)) changed place 0 first in
    let there : block ≡ get_or changed place 0 = sym (get_or_from_slice_get (waiting_in pool.changed) place block 0 is) ∙ ap (λ (xs : List ℕ). get_or xs place 0) (sym same) in
    record {
      full = full_is pool many;
      clean = clean;
      first = ap (λ (xs : List ℕ). position (λ b. not (has_block pinned b)) xs) (sym same) ∙ first;
      at = is;
      unpinned = not-true (has_block pinned block) (ap (λ (b : ℕ). not (has_block pinned b)) there ∙ pass.1);
      changed = act_is;
    }

pub none_free : (pool : Pool) (pinned changed : List ℕ) → changed ≡ (waiting_in pool.changed) → position (λ b. not (has_block pinned b)) changed ≡ None
    → pool.most ≤ length pool.pages.items → AreCleanPinned pool pinned → AreAllPinned pool pinned
unfolding most_of pool_blocks
none_free pool pinned changed same none many clean =
    let every = all_pinned pool pinned clean (ap (λ (xs : List ℕ). position (λ b. not (has_block pinned b)) xs) (sym same) ∙ none) in
    record {
      full = full_is pool many;
      every = every;
      more = λ block absent. omega (arith, pool.few, full_is pool many, pinned_more pool pinned block absent (blocks_apart pool) every);
    }

-- what a look finds is a frame in use, with the held page
pub found_within : (pool : Pool) (block : ℕ) (found : Option ℕ) → found ≡ frame_of pool block → IfSome found (λ at. at < pool_count pool)
unfolding pool_count
found_within pool block None is = tt
found_within pool block (Some at) is = frame_within pool block at (sym is)

pub found_page : (pool : Pool) (block : ℕ) (found : Option ℕ) → found ≡ frame_of pool block → IfSome found (λ at. page_at pool at ≡ held_page pool block)
found_page pool block None is = tt
found_page pool block (Some at) is = sym (held_at pool block at (sym is))

pub found_nothing : (pool : Pool) (block : ℕ) (found : Option ℕ) → found ≡ frame_of pool block → IfNone found (held_page pool block ≡ None)
found_nothing pool block None is = held_none pool block (sym is)
found_nothing pool block (Some at) is = tt
