-- What a pool holds after a page came into a frame.
use Rattle.std.proofs.Common.{◌≡◌, ◌≢◌, ℕ, suc, max, ◌<◌, cond, ltb, Some, None, List, [], ◌∷◌, ◌++◌, length, get_or, set, slice_get, refl, sym, ap, subst, inl, inr, ◌∙◌, arith, length-set, get_or-set_other, get_or-set_same}
use Rattle.buffer_pool.specs.Orders.{waiting_in}
use Rattle.buffer_pool.proofs.Imports.{cases_eq, cases_lt, get_or_push, get_or_append_left, length_push, length-map, map-set, map_push, sum_by_push, count_by, Page, Pool, blocks_in, act_in}
use Rattle.buffer_pool.proofs.Imports.{ArePlaces, AreChanged}
use Rattle.buffer_pool.specs.Pools.{most_of, reach_of, pool_count, pool_blocks, page_at, frame_of, held_page, act_of, changed_of, HasSameChanges, CanBeTaken, IsPut}
use Rattle.buffer_pool.proofs.Placing.{as_frame, act_by, act_is, frame_is, place_cases, place_of_frame, place_of_none, placed_push, placed_set, placed_within}
use Rattle.buffer_pool.proofs.Changing.{frame_cases, act_at, act_none}
use Rattle.buffer_pool.proofs.Lists.{block_of_page, slice_get-set_same, slice_get-set_other, slice_get-push_same, slice_get-push_other}

-- the page of a block that a frame holds is the frame's
pub held_at : (pool : Pool) (block at : ℕ) → frame_of pool block ≡ Some at → held_page pool block ≡ page_at pool at
unfolding held_page frame_of page_at
held_at pool block at is = cc

pub held_none : (pool : Pool) (block : ℕ) → frame_of pool block ≡ None → held_page pool block ≡ None
unfolding held_page frame_of
held_none pool block is = cc

-- the frame of a block by its place
pub frame_from : (pool : Pool) (block at : ℕ) → get_or pool.places.items block 0 ≡ suc at → frame_of pool block ≡ Some at
unfolding frame_of
frame_from pool block at is = frame_is pool.places.items (blocks_in pool.pages.items) pool.placed block ∙ ap as_frame is

pub no_frame_from : (pool : Pool) (block : ℕ) → get_or pool.places.items block 0 ≡ 0 → frame_of pool block ≡ None
unfolding frame_of
no_frame_from pool block is = frame_is pool.places.items (blocks_in pool.pages.items) pool.placed block ∙ ap as_frame is

-- the place of a block by its frame
pub place_from : (pool : Pool) (block at : ℕ) → frame_of pool block ≡ Some at → get_or pool.places.items block 0 ≡ suc at
unfolding frame_of
place_from pool block at is = place_of_frame pool.places.items (blocks_in pool.pages.items) pool.placed block at is

pub no_place_from : (pool : Pool) (block : ℕ) → frame_of pool block ≡ None → get_or pool.places.items block 0 ≡ 0
unfolding frame_of
no_place_from pool block is = place_of_none pool.places.items (blocks_in pool.pages.items) pool.placed block is

-- equal places stand for the same frame
pub same_frame : (old new : Pool) (block : ℕ) → get_or new.places.items block 0 ≡ get_or old.places.items block 0 → frame_of new block ≡ frame_of old block
same_frame old new block same =
    elim (place_cases (get_or old.places.items block 0)) [
      | inl e ↦ no_frame_from new block (same ∙ e) ∙ sym (no_frame_from old block e)
      | inr p ↦ frame_from new block p.0 (same ∙ p.1) ∙ sym (frame_from old block p.0 p.1)
    ]

-- the page of a block stays if its frame and the page in it stay
pub same_page : (old new : Pool) (block : ℕ) → frame_of new block ≡ frame_of old block
    → ((at : ℕ) → frame_of old block ≡ Some at → page_at new at ≡ page_at old at) → held_page new block ≡ held_page old block
same_page old new block same pages =
    elim (frame_cases (frame_of old block)) [
      | inl e ↦ held_none new block (same ∙ e) ∙ sym (held_none old block e)
      | inr p ↦ held_at new block p.0 (same ∙ p.1) ∙ (pages p.0 p.1 ∙ sym (held_at old block p.0 p.1))
    ]

pub no_act : (pool : Pool) (block : ℕ) → frame_of pool block ≡ None → act_of pool block ≡ 0
unfolding frame_of act_of
no_act pool block is = act_none (blocks_in pool.pages.items) pool.acts.items block is

-- what is held after a page came into a frame, was held before
was_held : (old new : Pool) (at block : ℕ) (other : Page)
    → (frame_of old block ≢ Some at → held_page new block ≡ held_page old block) → (frame_of old block ≡ Some at → held_page new block ≡ None)
    → held_page new block ≡ Some other → held_page old block ≡ Some other
was_held old new at block other same gone is =
    elim (cases_eq (get_or old.places.items block 0) (suc at)) [
      | inl there ↦ let both : None ≡ Some other = sym (gone (frame_from old block at there)) ∙ is in absurd cc
      | inr not ↦ sym (same (λ there. not (place_from old block at there))) ∙ is
    ]

-- a page came into a frame, by the places
pub put_from : (old new : Pool) (at : ℕ) (page : Page)
    → new.most ≡ old.most → length new.places.items ≡ length old.places.items → length new.pages.items ≡ max (length old.pages.items) (suc at)
    → slice_get new.pages.items at ≡ Some page
    → ((k : ℕ) → k ≢ at → slice_get new.pages.items k ≡ slice_get old.pages.items k)
    → get_or new.places.items page.block 0 ≡ suc at
    → ((block : ℕ) → get_or old.places.items block 0 ≡ suc at → get_or new.places.items block 0 ≡ 0)
    → ((block : ℕ) → block ≢ page.block → get_or old.places.items block 0 ≢ suc at → get_or new.places.items block 0 ≡ get_or old.places.items block 0)
    → frame_of old page.block ≡ None → ((block : ℕ) → 0 < act_of old block → frame_of old block ≢ Some at)
    → (at < length old.pages.items → blocks_in new.pages.items ≡ set (blocks_in old.pages.items) at page.block)
    → (at ≡ length old.pages.items → blocks_in new.pages.items ≡ blocks_in old.pages.items ++ page.block ∷ [])
    → HasSameChanges old new → IsPut old new at page
unfolding most_of reach_of pool_count pool_blocks page_at
put_from old new at page most reach count there pages came left stayed absent taken over added changes =
    let elsewhere = λ (block : ℕ) (other : block ≢ page.block) (not : frame_of old block ≢ Some at).
    same_frame old new block (stayed block other (λ is. not (frame_from old block at is))) in
    let others = λ (block : ℕ) (other : block ≢ page.block) (not : frame_of old block ≢ Some at).
    same_page old new block (elsewhere block other not) (λ k is. pages k (λ same. not (is ∙ ap (λ (n : ℕ). Some n) same))) in
    let gone = λ (block : ℕ) (is : frame_of old block ≡ Some at). held_none new block (no_frame_from new block (left block (place_from old block at is))) in
    record {
      most = most;
      reach = reach;
      count = count;
      over = over;
      added = added;
      frame = frame_from new page.block at came;
      there = there;
      held = held_at new page.block at (frame_from new page.block at came) ∙ there;
      gone = gone;
      frames = pages;
      places = elsewhere;
      others = others;
      was = λ block other not. was_held old new at block other (others block not) (gone block);
      kept = λ block some. others block (λ e. omega (arith, some, ap (act_of old) e, no_act old page.block absent)) (taken block some);
      changes = changes;
    }

pub act_from : (pool : Pool) (block at : ℕ) → frame_of pool block ≡ Some at → act_of pool block ≡ get_or pool.acts.items at 0
unfolding act_of frame_of
act_from pool block at is = act_at (blocks_in pool.pages.items) pool.acts.items block at is

-- a frame in use that can be taken has a page that no act changed
pub taken_clean : (pool : Pool) (at : ℕ) → CanBeTaken pool at → at < length pool.pages.items → get_or pool.acts.items at 0 ≡ 0
taken_clean pool at h less =
    let block = get_or (blocks_in pool.pages.items) at 0 in
    let is = frame_from pool block at (pool.placed.told at (omega (arith, less, length-map pool.pages.items (λ (p : Page). p.block)))) in
    elim (cases_lt 0 (act_of pool block)) [
      | inl lt ↦ absurd (h.clean block lt is)
      | inr ge ↦ omega (arith, ge, act_from pool block at is)
    ]

-- what is changed stays so if each block's act does
pub changed_stays : (changed blocks acts blocks' acts' : List ℕ) → AreChanged changed blocks acts → ((block : ℕ) → act_in blocks' acts' block ≡ act_in blocks acts block)
    → count_by (ltb 0) acts' ≡ count_by (ltb 0) acts → AreChanged changed blocks' acts'
changed_stays changed blocks acts blocks' acts' h same count = record {
  told = λ block. h.told block ∙ sym (ap (ltb 0) (same block));
  apart = h.apart;
  counted = h.counted ∙ sym count;
}

module _ (places blocks : List ℕ) (at new next : ℕ) (h : ArePlaces places blocks) (less : at < length blocks) (absent : get_or places new 0 ≡ 0)
    (within : new < length places) (next_is : next ≡ suc at) where
  -- the places after the frame of one block is given to another
  abbrev given : List ℕ
  given = set (set places (get_or blocks at 0) 0) new next

  pub given_placed : ArePlaces given (set blocks at new)
  given_placed = subst (λ (n : ℕ). ArePlaces (set (set places (get_or blocks at 0) 0) new n) (set blocks at new)) (sym next_is) (placed_set places blocks at new h less absent within)

  pub given_came : get_or given new 0 ≡ suc at
  given_came = get_or-set_same (set places (get_or blocks at 0) 0) new next 0 (omega (arith, within, length-set places (get_or blocks at 0) 0)) ∙ next_is

  pub given_left : (block : ℕ) → get_or places block 0 ≡ suc at → get_or given block 0 ≡ 0
  given_left block is =
      let old = get_or blocks at 0 in
      let was : old ≡ block = h.same block at is in
      let other : old ≢ new = λ e. omega (arith, is, absent, ap (λ (b : ℕ). get_or places b 0) (sym was ∙ e)) in
      ap (λ (b : ℕ). get_or given b 0) (sym was)
      ∙ (get_or-set_other (set places old 0) new old next 0 other ∙ get_or-set_same places old 0 0 (omega (arith, was, placed_within places block at is)))

  pub given_stays : (block : ℕ) → block ≢ new → get_or places block 0 ≢ suc at → get_or given block 0 ≡ get_or places block 0
  given_stays block other not =
      let old = get_or blocks at 0 in
      let not_old : block ≢ old = λ e. not (ap (λ (b : ℕ). get_or places b 0) e ∙ h.told at less) in
      get_or-set_other (set places old 0) new block next 0 other ∙ get_or-set_other places old block 0 0 not_old

  pub given_acts : (acts : List ℕ) → get_or acts at 0 ≡ 0 → (block : ℕ) → act_in (set blocks at new) acts block ≡ act_in blocks acts block
  given_acts acts clean block =
      let new_act = act_is given (set blocks at new) acts given_placed block in
      let old_act = act_is places blocks acts h block in
      elim (cases_eq block new) [
        | inl e ↦
            new_act ∙ (ap (act_by acts) (ap (λ (b : ℕ). get_or given b 0) e ∙ given_came) ∙ (clean
            ∙ sym (old_act ∙ ap (act_by acts) (ap (λ (b : ℕ). get_or places b 0) e ∙ absent))))
        | inr other ↦ elim (cases_eq (get_or places block 0) (suc at)) [
          | inl is ↦ new_act ∙ (ap (act_by acts) (given_left block is) ∙ sym (old_act ∙ (ap (act_by acts) is ∙ clean)))
          | inr not ↦ new_act ∙ (ap (act_by acts) (given_stays block other not) ∙ sym old_act)
        ]
      ]

module _ (places blocks : List ℕ) (new next : ℕ) (h : ArePlaces places blocks) (absent : get_or places new 0 ≡ 0)
    (within : new < length places) (next_is : next ≡ suc (length blocks)) where
  pub added_placed : ArePlaces (set places new next) (blocks ++ new ∷ [])
  added_placed = subst (λ (n : ℕ). ArePlaces (set places new n) (blocks ++ new ∷ [])) (sym next_is) (placed_push places blocks new h absent within)

  pub added_acts : (acts : List ℕ) → length acts ≡ length blocks → (block : ℕ) → act_in (blocks ++ new ∷ []) (acts ++ 0 ∷ []) block ≡ act_in blocks acts block
  added_acts acts many block =
      let new_act = act_is (set places new next) (blocks ++ new ∷ []) (acts ++ 0 ∷ []) added_placed block in
      let old_act = act_is places blocks acts h block in
      elim (cases_eq block new) [
        | inl e ↦
            new_act ∙ (ap (act_by (acts ++ 0 ∷ [])) (ap (λ (b : ℕ). get_or (set places new next) b 0) e ∙ (get_or-set_same places new next 0 within ∙ next_is))
            ∙ (get_or_push acts 0 0 (length blocks) many ∙ sym (old_act ∙ ap (act_by acts) (ap (λ (b : ℕ). get_or places b 0) e ∙ absent))))
        | inr other ↦
            let same = get_or-set_other places new block next 0 other in
            elim (place_cases (get_or places block 0)) [
              | inl e ↦ new_act ∙ (ap (act_by (acts ++ 0 ∷ [])) (same ∙ e) ∙ sym (old_act ∙ ap (act_by acts) e))
              | inr p ↦
                  new_act ∙ (ap (act_by (acts ++ 0 ∷ [])) (same ∙ p.1)
                  ∙ (get_or_append_left acts (0 ∷ []) 0 p.0 (omega (arith, many, h.within block p.0 p.1)) ∙ sym (old_act ∙ ap (act_by acts) p.1)))
            ]
      ]

  pub added_count : (acts : List ℕ) → count_by (ltb 0) (acts ++ 0 ∷ []) ≡ count_by (ltb 0) acts
  added_count acts = omega (arith, sum_by_push (λ x. cond (ltb 0 x) 1 0) acts 0)

-- the place of the block of a page that a frame holds
pub place_of_page : (pool : Pool) (at : ℕ) (page : Page) → at < length pool.pages.items → page ≡ get_or pool.pages.items at page → get_or pool.places.items page.block 0 ≡ suc at
place_of_page pool at page less is =
    let blocks = blocks_in pool.pages.items in
    ap (λ (b : ℕ). get_or pool.places.items b 0) (sym (block_of_page pool.pages.items at page less is))
    ∙ pool.placed.told at (omega (arith, less, length-map pool.pages.items (λ (p : Page). p.block)))

-- the acts of each block stay, and so does all that is told of them
pub same_changes : (old new : Pool) → (waiting_in new.changed) ≡ (waiting_in old.changed)
    → ((block : ℕ) → act_in (blocks_in new.pages.items) new.acts.items block ≡ act_in (blocks_in old.pages.items) old.acts.items block) → HasSameChanges old new
unfolding changed_of act_of
same_changes old new order acts = record { order = order; acts = acts }

module _ (pool : Pool) (at : ℕ) (was page : Page) (next : ℕ) (less : at < length pool.pages.items) (is : was ≡ get_or pool.pages.items at was)
    (next_is : next ≡ suc at) (taken : CanBeTaken pool at) (absent : frame_of pool page.block ≡ None) (within : page.block < length pool.places.items) where
  abbrev blocks : List ℕ
  blocks = blocks_in pool.pages.items

  in_blocks : at < length blocks
  in_blocks = omega (arith, less, length-map pool.pages.items (λ (p : Page). p.block))

  -- the places after the frame of a page is given to another
  abbrev replaced : List ℕ
  replaced = set (set pool.places.items was.block 0) page.block next

  replaced_is : replaced ≡ set (set pool.places.items (get_or blocks at 0) 0) page.block next
  replaced_is = ap (λ (b : ℕ). set (set pool.places.items b 0) page.block next) (sym (block_of_page pool.pages.items at was less is))

  blocks_is : blocks_in (set pool.pages.items at page) ≡ set blocks at page.block
  blocks_is = map-set (λ (p : Page). p.block) pool.pages.items at page

  pub replaced_placed : ArePlaces replaced (blocks_in (set pool.pages.items at page))
  replaced_placed =
      subst (λ (bs : List ℕ). ArePlaces replaced bs) (sym blocks_is)
      (subst (λ (ps : List ℕ). ArePlaces ps (set blocks at page.block)) (sym replaced_is)
      (given_placed pool.places.items blocks at page.block next pool.placed in_blocks (no_place_from pool page.block absent) within next_is))

  replaced_acts : (block : ℕ) → act_in (blocks_in (set pool.pages.items at page)) pool.acts.items block ≡ act_in blocks pool.acts.items block
  replaced_acts block =
      ap (λ (bs : List ℕ). act_in bs pool.acts.items block) blocks_is
      ∙ given_acts pool.places.items blocks at page.block next pool.placed in_blocks (no_place_from pool page.block absent) within next_is
      pool.acts.items (taken_clean pool at taken less) block

  pub replaced_changed : AreChanged (waiting_in pool.changed) (blocks_in (set pool.pages.items at page)) pool.acts.items
  replaced_changed = changed_stays (waiting_in pool.changed) blocks pool.acts.items (blocks_in (set pool.pages.items at page)) pool.acts.items pool.ordered replaced_acts refl

  pub replaced_put : (new : Pool) → new.most ≡ pool.most → new.pages.items ≡ set pool.pages.items at page → new.acts.items ≡ pool.acts.items
      → new.places.items ≡ replaced → (waiting_in new.changed) ≡ (waiting_in pool.changed) → IsPut pool new at page
  replaced_put new most pages acts places changed =
      let by = places ∙ replaced_is in
      let place = λ (block : ℕ). ap (λ (ps : List ℕ). get_or ps block 0) by in
      put_from pool new at page most
      (omega (arith, ap (λ (ps : List ℕ). length ps) places, length-set (set pool.places.items was.block 0) page.block next, length-set pool.places.items was.block 0))
      (omega (arith, less, ap (λ (ps : List Page). length ps) pages, length-set pool.pages.items at page))
      (ap (λ (ps : List Page). slice_get ps at) pages ∙ slice_get-set_same pool.pages.items at page less)
      (λ k other. ap (λ (ps : List Page). slice_get ps k) pages ∙ slice_get-set_other pool.pages.items at k page other)
      (place page.block ∙ given_came pool.places.items blocks at page.block next pool.placed in_blocks (no_place_from pool page.block absent) within next_is)
      (λ block there. place block ∙ given_left pool.places.items blocks at page.block next pool.placed in_blocks (no_place_from pool page.block absent) within next_is block there)
      (λ block other not. place block ∙ given_stays pool.places.items blocks at page.block next pool.placed in_blocks (no_place_from pool page.block absent) within next_is block other not)
      absent taken.clean
      (λ within. ap blocks_in pages ∙ blocks_is)
      (λ same. absurd (omega (arith, same, less)))
      (same_changes pool new changed (λ block. ap (λ (ps : List Page). act_in (blocks_in ps) new.acts.items block) pages
      ∙ (ap (λ (xs : List ℕ). act_in (blocks_in (set pool.pages.items at page)) xs block) acts ∙ replaced_acts block)))

module _ (pool : Pool) (page : Page) (next : ℕ) (next_is : next ≡ suc (length pool.pages.items))
    (absent : frame_of pool page.block ≡ None) (within : page.block < length pool.places.items) where
  abbrev held : List ℕ
  held = blocks_in pool.pages.items

  many_held : length held ≡ length pool.pages.items
  many_held = length-map pool.pages.items (λ (p : Page). p.block)

  next_held : next ≡ suc (length held)
  next_held = omega (arith, next_is, many_held)

  held_is : blocks_in (pool.pages.items ++ page ∷ []) ≡ held ++ page.block ∷ []
  held_is = map_push (λ (p : Page). p.block) pool.pages.items page

  pub pushed_placed : ArePlaces (set pool.places.items page.block next) (blocks_in (pool.pages.items ++ page ∷ []))
  pushed_placed =
      subst (λ (bs : List ℕ). ArePlaces (set pool.places.items page.block next) bs) (sym held_is)
      (added_placed pool.places.items held page.block next pool.placed (no_place_from pool page.block absent) within next_held)

  pushed_acts : (block : ℕ) → act_in (blocks_in (pool.pages.items ++ page ∷ [])) (pool.acts.items ++ 0 ∷ []) block ≡ act_in held pool.acts.items block
  pushed_acts block =
      ap (λ (bs : List ℕ). act_in bs (pool.acts.items ++ 0 ∷ []) block) held_is
      ∙ added_acts pool.places.items held page.block next pool.placed (no_place_from pool page.block absent) within next_held
      pool.acts.items (pool.many_acts ∙ sym many_held) block

  pub pushed_changed : AreChanged (waiting_in pool.changed) (blocks_in (pool.pages.items ++ page ∷ [])) (pool.acts.items ++ 0 ∷ [])
  pushed_changed =
      changed_stays (waiting_in pool.changed) held pool.acts.items (blocks_in (pool.pages.items ++ page ∷ [])) (pool.acts.items ++ 0 ∷ []) pool.ordered pushed_acts
      (added_count pool.places.items held page.block next pool.placed (no_place_from pool page.block absent) within next_held pool.acts.items)

  pub pushed_put : (new : Pool) → new.most ≡ pool.most → new.pages.items ≡ pool.pages.items ++ page ∷ [] → new.acts.items ≡ pool.acts.items ++ 0 ∷ []
      → new.places.items ≡ set pool.places.items page.block next → (waiting_in new.changed) ≡ (waiting_in pool.changed) → IsPut pool new (length pool.pages.items) page
  pushed_put new most pages acts places changed =
      let end = length pool.pages.items in
      let place = λ (block : ℕ). ap (λ (ps : List ℕ). get_or ps block 0) places in
      put_from pool new end page most
      (omega (arith, ap (λ (ps : List ℕ). length ps) places, length-set pool.places.items page.block next))
      (omega (arith, ap (λ (ps : List Page). length ps) pages, length_push pool.pages.items page))
      (ap (λ (ps : List Page). slice_get ps end) pages ∙ slice_get-push_same pool.pages.items page)
      (λ k other. ap (λ (ps : List Page). slice_get ps k) pages ∙ slice_get-push_other pool.pages.items k page other)
      (place page.block ∙ (get_or-set_same pool.places.items page.block next 0 within ∙ next_is))
      (λ block there. absurd (omega (arith, many_held, pool.placed.within block end there)))
      (λ block other not. place block ∙ get_or-set_other pool.places.items page.block block next 0 other)
      absent (λ block some there. omega (arith, many_held, pool.placed.within block end (place_from pool block end there)))
      (λ beyond. absurd (omega (arith, beyond)))
      (λ same. ap blocks_in pages ∙ held_is)
      (same_changes pool new changed (λ block. ap (λ (ps : List Page). act_in (blocks_in ps) new.acts.items block) pages
      ∙ (ap (λ (xs : List ℕ). act_in (blocks_in (pool.pages.items ++ page ∷ [])) xs block) acts ∙ pushed_acts block)))
