-- What a pool holds, and what is changed of it, after a page was changed or written.
use Rattle.std.proofs.Common.{◌≡◌, ℕ, ◌+◌, ◌<◌, ◌≤◌, Bool, true, false, ◌||◌, cond, ltb, eqb, Option, Some, None, List, [], ◌∷◌, ◌++◌, length, get_or, set, take, drop, slice_get, refl, sym, ap, subst, inl, inr, ◌∙◌, arith, length-set}
use Rattle.buffer_pool.specs.Orders.{waiting_in}
use Rattle.buffer_pool.proofs.Imports.{IsSome, is_some, option_and_then, remove, cases_lt, cases_Bool, ltb-true, ltb-false, le-ltb, eqb-true, cond-true, cond-false, false_from_ne_true, length-map}
use Rattle.buffer_pool.proofs.Imports.{map-set, set-get_or, take-append-drop, get_or-take, get_or-drop, get_or_default, length-take, length-drop, list_any-append, Any-from_list_any, Page, Pool}
use Rattle.buffer_pool.proofs.Imports.{blocks_in, has_block, BlocksAreApart, frame_in, act_in, AreChanged}
use Rattle.buffer_pool.specs.Pools.{most_of, reach_of, pool_count, pool_blocks, page_at, frame_of, held_page, act_of, changed_of, HasSamePages, HasSameChanges, IsChanged, IsWritten, AreWritten}
use Rattle.buffer_pool.proofs.Placing.{placed_within}
use Rattle.buffer_pool.proofs.Changing.{frame_cases, act_at, act_none, act_same, act_other, changed_first, changed_again, changed_act, has_block-at}
use Rattle.buffer_pool.proofs.Lists.{slice_get-set_same, slice_get-set_other}
use Rattle.buffer_pool.proofs.Putting.{held_at, place_from, same_frame, same_page}

pub frame_some : (o : Option ℕ) → IsSome o → (at : ℕ) × (o ≡ Some at)
frame_some None h = absurd cc
frame_some (Some at) h = (at, refl)

pub frame_within : (pool : Pool) (block at : ℕ) → frame_of pool block ≡ Some at → at < length pool.pages.items
frame_within pool block at is = omega (arith, pool.placed.within block at (place_from pool block at is), length-map pool.pages.items (λ (p : Page). p.block))

-- a block with a frame is below the reach
pub frame_below : (pool : Pool) (block at : ℕ) → frame_of pool block ≡ Some at → block < length pool.places.items
frame_below pool block at is = placed_within pool.places.items block at (place_from pool block at is)

pub block_there : (pool : Pool) (block at : ℕ) → frame_of pool block ≡ Some at → get_or (blocks_in pool.pages.items) at 0 ≡ block
block_there pool block at is = pool.placed.same block at (place_from pool block at is)

pub frame_plain : (pool : Pool) (block at : ℕ) → frame_of pool block ≡ Some at → frame_in (blocks_in pool.pages.items) block ≡ Some at
unfolding frame_of
frame_plain pool block at is = is

pub frame_back : (pool : Pool) (block at : ℕ) → frame_in (blocks_in pool.pages.items) block ≡ Some at → frame_of pool block ≡ Some at
unfolding frame_of
frame_back pool block at is = is

-- a changed block is held
pub changed_held : (pool : Pool) (block : ℕ) → has_block (waiting_in pool.changed) block ≡ true → IsSome (frame_of pool block)
unfolding frame_of
changed_held pool block is =
    let blocks = blocks_in pool.pages.items in
    elim (frame_cases (frame_in blocks block)) [
      | inl e ↦ absurd (omega (arith, changed_act (waiting_in pool.changed) blocks pool.acts.items block pool.ordered is, act_none blocks pool.acts.items block e))
      | inr p ↦ ap {B = Bool} (λ (o : Option ℕ). is_some o) p.1
    ]

-- and has a place
pub changed_placed : (pool : Pool) (block : ℕ) → has_block (waiting_in pool.changed) block ≡ true → (0 < get_or pool.places.items block 0) × (get_or pool.places.items block 0 ≤ length pool.acts.items)
changed_placed pool block is =
    let at = frame_some (frame_of pool block) (changed_held pool block is) in
    let place = place_from pool block at.0 at.1 in
    let within = frame_within pool block at.0 at.1 in
    (omega (arith, place), omega (arith, place, within, pool.many_acts))

pub held_act : (pool : Pool) (block at : ℕ) → frame_of pool block ≡ Some at → act_of pool block ≡ get_or pool.acts.items at 0
unfolding act_of frame_of
held_act pool block at is = act_at (blocks_in pool.pages.items) pool.acts.items block at is

pub changed_some : (pool : Pool) (block : ℕ) → has_block (waiting_in pool.changed) block ≡ true → 0 < act_of pool block
unfolding act_of
changed_some pool block is = changed_act (waiting_in pool.changed) (blocks_in pool.pages.items) pool.acts.items block pool.ordered is

-- a page of the same block leaves the blocks of the frames as they were
pub same_blocks : (pages : List Page) (at : ℕ) (page : Page) → get_or (blocks_in pages) at 0 ≡ page.block → blocks_in (set pages at page) ≡ blocks_in pages
same_blocks pages at page is =
    map-set (λ (p : Page). p.block) pages at page
    ∙ (ap (set (blocks_in pages) at) (sym is) ∙ set-get_or (blocks_in pages) at 0)

-- a held page is changed, for the first time or again
pub changed_either : (changed blocks acts : List ℕ) (block at act before : ℕ) → AreChanged changed blocks acts → frame_in blocks block ≡ Some at → at < length acts
    → before ≡ get_or acts at 0 → 0 < act → AreChanged (cond (ltb 0 before) changed (changed ++ block ∷ [])) blocks (set acts at act)
changed_either changed blocks acts block at act before h is less before_is some =
    elim (cases_Bool (ltb 0 before)) [
      | inl one ↦
          subst (λ (xs : List ℕ). AreChanged xs blocks (set acts at act)) (sym (cond-true (ltb 0 before) changed (changed ++ block ∷ []) one))
          (changed_again changed blocks acts block at act h is less (omega (arith, before_is, ltb-true 0 before one)) some)
      | inr off ↦
          subst (λ (xs : List ℕ). AreChanged xs blocks (set acts at act)) (sym (cond-false (ltb 0 before) changed (changed ++ block ∷ []) off))
          (changed_first changed blocks acts block at act h is less (omega (arith, before_is, ltb-false 0 before off)) some)
    ]

-- pages and places as they were hold the same
pub same_pages : (old new : Pool) → new.most ≡ old.most → new.pages.items ≡ old.pages.items → new.places.items ≡ old.places.items → HasSamePages old new
unfolding most_of reach_of pool_count pool_blocks page_at frame_of held_page
same_pages old new most pages places = record {
  most = most;
  reach = ap (λ (ps : List ℕ). length ps) places;
  count = ap (λ (ps : List Page). length ps) pages;
  blocks = ap blocks_in pages;
  frames = λ at. ap (λ (ps : List Page). slice_get ps at) pages;
  places = λ block. ap (λ (ps : List Page). frame_in (blocks_in ps) block) pages;
  held = λ block. ap (λ (ps : List Page). option_and_then (slice_get ps) (frame_in (blocks_in ps) block)) pages;
}

-- what is the same twice is the same
pub pages_both : (a b c : Pool) → HasSamePages a b → HasSamePages b c → HasSamePages a c
pages_both a b c f s = record {
  most = s.most ∙ f.most;
  reach = s.reach ∙ f.reach;
  count = s.count ∙ f.count;
  blocks = s.blocks ∙ f.blocks;
  frames = λ at. s.frames at ∙ f.frames at;
  places = λ block. s.places block ∙ f.places block;
  held = λ block. s.held block ∙ f.held block;
}

pub changes_both : (a b c : Pool) → HasSameChanges a b → HasSameChanges b c → HasSameChanges a c
changes_both a b c f s = record { order = s.order ∙ f.order; acts = λ block. s.acts block ∙ f.acts block }

-- a held page was changed by an act
pub changed_is : (old new : Pool) (page : Page) (act at before : ℕ) → frame_of old page.block ≡ Some at → before ≡ get_or old.acts.items at 0 → 0 < act
    → new.most ≡ old.most → new.pages.items ≡ set old.pages.items at page → new.acts.items ≡ set old.acts.items at act → new.places.items ≡ old.places.items
    → (waiting_in new.changed) ≡ cond (ltb 0 before) (waiting_in old.changed) ((waiting_in old.changed) ++ page.block ∷ []) → IsChanged old new page act
unfolding most_of reach_of pool_count page_at act_of changed_of
changed_is old new page act at before is before_is some most pages acts places changed =
    let blocks = blocks_in old.pages.items in
    let within = frame_within old page.block at is in
    let plain = frame_plain old page.block at is in
    let frames = λ (block : ℕ). same_frame old new block (ap (λ (ps : List ℕ). get_or ps block 0) places) in
    let there : slice_get new.pages.items at ≡ Some page = ap (λ (ps : List Page). slice_get ps at) pages ∙ slice_get-set_same old.pages.items at page within in
    let same : blocks_in new.pages.items ≡ blocks = ap blocks_in pages ∙ same_blocks old.pages.items at page (block_there old page.block at is) in
    let now = λ (block : ℕ). ap (λ (bs : List ℕ). act_in bs new.acts.items block) same ∙ ap (λ (xs : List ℕ). act_in blocks xs block) acts in
    let first : has_block (waiting_in old.changed) page.block ≡ ltb 0 before = old.ordered.told page.block ∙ ap (ltb 0) (act_at blocks old.acts.items page.block at plain ∙ sym before_is) in
    record {
      most = most;
      reach = ap (λ (ps : List ℕ). length ps) places;
      count = ap (λ (ps : List Page). length ps) pages ∙ length-set old.pages.items at page;
      places = frames;
      held = held_at new page.block at (frames page.block ∙ is) ∙ there;
      others = λ block other. same_page old new block (frames block)
          (λ k held. ap (λ (ps : List Page). slice_get ps k) pages ∙ slice_get-set_other old.pages.items at k page
          (λ e. other (sym (block_there old block k held) ∙ (ap (λ (n : ℕ). get_or blocks n 0) e ∙ block_there old page.block at is))));
      changed = now page.block ∙ act_same blocks old.acts.items page.block at act plain (omega (arith, within, old.many_acts));
      acts = λ block other. now block ∙ act_other blocks old.acts.items block at act
          (λ held. other (sym (block_there old block at (frame_back old block at held)) ∙ block_there old page.block at is));
      order = changed ∙ ap (λ (t : Bool). cond t (waiting_in old.changed) ((waiting_in old.changed) ++ page.block ∷ [])) (sym first);
    }

-- one changed page was written
pub written_is : (old new : Pool) (place at : ℕ) → place < length (waiting_in old.changed) → frame_of old (get_or (waiting_in old.changed) place 0) ≡ Some at
    → new.most ≡ old.most → new.pages.items ≡ old.pages.items → new.places.items ≡ old.places.items → new.acts.items ≡ set old.acts.items at 0
    → (waiting_in new.changed) ≡ remove (waiting_in old.changed) place → IsWritten old new place
unfolding act_of changed_of
written_is old new place at less is most pages places acts changed =
    let blocks = blocks_in old.pages.items in
    let block = get_or (waiting_in old.changed) place 0 in
    let now = λ (b : ℕ). ap (λ (ps : List Page). act_in (blocks_in ps) new.acts.items b) pages ∙ ap (λ (xs : List ℕ). act_in blocks xs b) acts in
    record {
      pages = same_pages old new most pages places;
      order = changed;
      written = now block ∙ act_same blocks old.acts.items block at 0 (frame_plain old block at is) (omega (arith, frame_within old block at is, old.many_acts));
      others = λ b other. now b ∙ act_other blocks old.acts.items b at 0
          (λ held. other (sym (block_there old b at (frame_back old b at held)) ∙ block_there old block at is));
    }

-- a block that stands once isn't both among the first `n` and after them
pub take_drop_apart : (blocks : List ℕ) (n block : ℕ) → BlocksAreApart blocks → has_block (take n blocks) block ≡ true → has_block (drop n blocks) block ≡ false
take_drop_apart blocks n block apart first =
    false_from_ne_true (has_block (drop n blocks) block) (λ second.
    let a = Any-from_list_any (λ b. eqb b block) (take n blocks) first in
    let b = Any-from_list_any (λ b. eqb b block) (drop n blocks) second in
    let short : a.0 < n = omega (arith, a.2, length-take n blocks) in
    let less : n + b.0 < length blocks = omega (arith, b.2, length-drop n blocks) in
    let one : get_or blocks a.0 block ≡ block =
    sym (get_or-take n blocks a.0 block short) ∙ (get_or_default (take n blocks) a.0 block a.1 a.2 ∙ (a.3 ∙ eqb-true a.1 block a.4)) in
    let two : get_or blocks (n + b.0) block ≡ block =
    sym (get_or-drop n blocks b.0 block) ∙ (get_or_default (drop n blocks) b.0 block b.1 b.2 ∙ (b.3 ∙ eqb-true b.1 block b.4)) in
    apart a.0 (n + b.0) block (omega (arith, short)) less (one ∙ sym two))

-- a block that isn't among the first `n` is among all exactly if it is after them
pub later_has : (blocks : List ℕ) (n block : ℕ) → has_block (take n blocks) block ≡ false → has_block (drop n blocks) block ≡ has_block blocks block
later_has blocks n block off =
    sym (ap (λ (xs : List ℕ). has_block xs block) (sym (take-append-drop n blocks))
    ∙ (list_any-append (λ b. eqb b block) (take n blocks) (drop n blocks) ∙ ap (λ (t : Bool). t || has_block (drop n blocks) block) off))

none_below : (n : ℕ) → ltb 0 n ≡ false → n ≡ 0
none_below n off = omega (arith, ltb-false 0 n off)

-- an act that is kept if it isn't 0, and is 0 only if it was, is kept
either_act : (new old : ℕ) → (0 < new → new ≡ old) → ltb 0 new ≡ ltb 0 old → new ≡ old
either_act new old kept same =
    elim (cases_lt 0 new) [
      | inl lt ↦ kept lt
      | inr ge ↦ omega (arith, ge, ltb-false 0 old (sym same ∙ le-ltb 0 new ge))
    ]

-- the first `count` changed pages were written
pub many_written : (old new : Pool) (count : ℕ) → new.most ≡ old.most → new.pages.items ≡ old.pages.items → new.places.items ≡ old.places.items
    → (waiting_in new.changed) ≡ drop count (waiting_in old.changed)
    → ((at : ℕ) → 0 < get_or new.acts.items at 0 → get_or new.acts.items at 0 ≡ get_or old.acts.items at 0) → AreWritten old new count
unfolding act_of changed_of
many_written old new count most pages places changed kept =
    let blocks = blocks_in old.pages.items in
    let now = λ (b : ℕ). ap (λ (ps : List Page). act_in (blocks_in ps) new.acts.items b) pages in
    let told = λ (b : ℕ). ap (λ (xs : List ℕ). has_block xs b) (sym changed) ∙ (new.ordered.told b ∙ ap (ltb 0) (now b)) in
    record {
      pages = same_pages old new most pages places;
      order = changed;
      written = λ b first. now b ∙ none_below (act_in blocks new.acts.items b) (sym (told b) ∙ take_drop_apart (waiting_in old.changed) count b old.ordered.apart first);
      others = λ b off. now b ∙ elim (frame_cases (frame_in blocks b)) [
        | inl e ↦ act_none blocks new.acts.items b e ∙ sym (act_none blocks old.acts.items b e)
        | inr p ↦
            act_at blocks new.acts.items b p.0 p.1
            ∙ (either_act (get_or new.acts.items p.0 0) (get_or old.acts.items p.0 0) (kept p.0)
            (ap (ltb 0) (sym (act_at blocks new.acts.items b p.0 p.1)) ∙ (sym (told b) ∙ (later_has (waiting_in old.changed) count b off
            ∙ (old.ordered.told b ∙ ap (ltb 0) (act_at blocks old.acts.items b p.0 p.1)))))
            ∙ sym (act_at blocks old.acts.items b p.0 p.1))
      ];
    }

-- each of the first `count` changed pages has a place
pub first_placed : (pool : Pool) (count : ℕ) (changed : List ℕ) (k d : ℕ) → changed ≡ (waiting_in pool.changed) → k < length (take count changed)
    → (0 < get_or pool.places.items (get_or (take count changed) k d) 0) × (get_or pool.places.items (get_or (take count changed) k d) 0 ≤ length pool.acts.items)
first_placed pool count changed k d is less =
    let same : get_or (take count changed) k d ≡ get_or changed k d = get_or-take count changed k d (omega (arith, less, length-take count changed)) in
    let among = has_block-at changed k d (omega (arith, less, length-take count changed)) in
    changed_placed pool (get_or (take count changed) k d)
    (ap (λ (xs : List ℕ). has_block xs (get_or (take count changed) k d)) (sym is) ∙ (ap (has_block changed) same ∙ among))
