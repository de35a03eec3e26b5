-- Why an event is refused, in the theorem's words: each cause that an operation tells is one of these.
use Rattle.std.proofs.Common.{◌≡◌, ◌≢◌, ℕ, zero, suc, ◌+◌, ◌<◌, ◌≤◌, ◌&&◌, ◌||◌, ◌==◌, not, Bool, true, false, Option, Some, None, List, [], ◌∷◌, ◌++◌, length, slice_get, slice_index, refl, sym, ap, subst, arith, inl, inr, ◌∙◌}
use Rattle.std.specs.Prelude.{nat_lt, nat_le, map, if◌then◌else◌}
use Rattle.latch_table.specs.declared.mode.Latch.{Latch}
use Rattle.latch_table.specs.declared.mode.Mode.{Mode}
use Rattle.latch_table.specs.declared.mode.Mode.TheVariants.{Shared, Exclusive, Cleanup as CleanupMode}
use Rattle.page_codec.specs.Edits.{entries_of}
use Rattle.page_codec.specs.declared.page.Items.{Items}
use Rattle.page_codec.specs.declared.page.Items.TheVariants.{Meta, Entries, Downlinks}
use Rattle.split_finish.specs.Finishes.{blocks_linked, finish_blocks, frames_of, is_to_link, is_to_grow}
use Rattle.vacuum.specs.Ops.{next_block}
use Rattle.page_delete.specs.Needs.{blocks_unlinked, blocks_unlinked_of, blocks_written}
use Rattle.page_delete.specs.Ops.{is_last_number, cleanup_counted_out as is_cleanup_full}
use Rattle.schedule.proofs.Lists.{get_within}
use Rattle.schedule.proofs.Imports.{list_any, true≢false, false≢true, and_parts, or_cases, or_parts, eqb-true, eq-eqb, ltb-true, leb-true, leb-false, cases_eq, Ask, AskInsert, AskScan}
use Rattle.schedule.proofs.Imports.{AskBulkDelete, AskCleanup, Circumstances, HasCause, Row, Fault, NoMemory, Io, Stopped, Blocked, Exists, KeyTooLong, BadRow, IndexFull, LogFull, NoFrame}
use Rattle.schedule.proofs.Imports.{VacuumRunning, NoSession, SessionBusy, BadSuper, BadVersion, LogDamaged, PageDamaged, BadLimits, TooTall, DeviceTooSmall, KeyExists, Holding, Table, excludes}
use Rattle.schedule.proofs.Imports.{latches_exclude, has_pin, pins_exclude, holding_excludes, others_exclude, is_held_by_another, pinned_blocks, nothing_wrong, count_apart, has_failed, is_at_end}
use Rattle.schedule.proofs.Imports.{is_deleted, is_deleted_state, is_deleted_page, began_after, others_began_after, is_reusable, State, Ghosts, Page, PageState, Live, HalfDead, Deleted, IsIn}
use Rattle.schedule.proofs.Imports.{node_from, nodes_of, links_of, any_is_reusable, is_out_of_blocks, fresh_block, count_new, lacks_room, frames_for, sibling, level_with, level_of, root_level}
use Rattle.schedule.proofs.Imports.{FinishAt, FinishStart, Down, Link, Root, Target, blocks_halved, blocks_beside, images_at, frames_at, takes_block_at, splits_root_at, InsertAt, Coming}
use Rattle.schedule.proofs.Imports.{Finishing, Start, At, Holds, is_full_count, is_counted_out, has_dead, block_if, CleanupAt, Look, CleanupStart, CleanupDown, Judge, Unlink, DeadSets, set_at}
use Rattle.schedule.proofs.Imports.{asked_of, session_of, causes_of_stepped, Op, Insert, Scan, Bulk, Cleanup, other_row_is, Moment, Steps, BlocksCall, IsHeldByAnother, HasNoBlock, MoveFails}

-- circumstances of which five may be so, as there are if no step is made
abbrev pub few_circumstances : Bool → Bool → Bool → Bool → Bool → Circumstances
few_circumstances d s v n b = record nothing_wrong { device_failed = d; is_stopped = s; vacuum_runs = v; no_such_session = n; session_has_a_call = b }

-- each that is so is a reason
pub record FewReasons (d s v n b : Bool) (Fails : Fault → Type 0) : Type 0 where
  pub device : d ≡ true → Fails Io
  pub stopped : s ≡ true → Fails Stopped
  pub vacuum : v ≡ true → Fails VacuumRunning
  pub session : n ≡ true → Fails NoSession
  pub busy : b ≡ true → Fails SessionBusy

pub one_of_few : (d s v n b : Bool) (Fails : Fault → Type 0) → FewReasons d s v n b Fails → (fault : Fault) → HasCause (few_circumstances d s v n b) fault → Fails fault
one_of_few d s v n b Fails r NoMemory h = absurd (false≢true h)
one_of_few d s v n b Fails r Io h = r.device h
one_of_few d s v n b Fails r Stopped h = r.stopped h
one_of_few d s v n b Fails r (Blocked k) h = absurd (false≢true h)
one_of_few d s v n b Fails r Exists h = absurd (false≢true h)
one_of_few d s v n b Fails r KeyTooLong h = absurd h
one_of_few d s v n b Fails r BadRow h = absurd h
one_of_few d s v n b Fails r IndexFull h = absurd (false≢true h)
one_of_few d s v n b Fails r LogFull h = absurd (false≢true h)
one_of_few d s v n b Fails r NoFrame h = absurd (false≢true h)
one_of_few d s v n b Fails r VacuumRunning h = r.vacuum h
one_of_few d s v n b Fails r NoSession h = r.session h
one_of_few d s v n b Fails r SessionBusy h = r.busy h
one_of_few d s v n b Fails r BadSuper h = absurd h
one_of_few d s v n b Fails r BadVersion h = absurd h
one_of_few d s v n b Fails r LogDamaged h = absurd h
one_of_few d s v n b Fails r (PageDamaged k) h = absurd (false≢true h)
one_of_few d s v n b Fails r BadLimits h = absurd h
one_of_few d s v n b Fails r TooTall h = absurd (false≢true h)
one_of_few d s v n b Fails r DeviceTooSmall h = absurd h
one_of_few d s v n b Fails r (KeyExists k) h = absurd (false≢true h)

-- a latch that stands in the way is one of the block
latch_in : (latches : List Latch) (block : ℕ) (asked : Mode) → latches_exclude latches block asked ≡ true → IsIn block (map (λ (latch : Latch). latch.block) latches)
latch_in [] block asked h = absurd (false≢true h)
latch_in (held ∷ latches) block asked h = elim (or_cases ((held.block == block) && excludes held.mode asked) (latches_exclude latches block asked) h) [
  | inl here ↦ inl (sym (eqb-true held.block block (and_parts (held.block == block) (excludes held.mode asked) here).0))
  | inr later ↦ inr (latch_in latches block asked later)
]

pin_in : (pins : List ℕ) (block : ℕ) → has_pin pins block ≡ true → IsIn block pins
pin_in [] block h = absurd (false≢true h)
pin_in (pinned ∷ pins) block h = elim (or_cases (pinned == block) (has_pin pins block) h) [ inl here ↦ inl (sym (eqb-true pinned block here)) | inr later ↦ inr (pin_in pins block later) ]

-- some other session's holding excludes the latch
other_excludes : (from : ℕ) (table : Table) (session block : ℕ) (asked : Mode) → others_exclude from table session block asked ≡ true
    → (i : ℕ) × (holding : Holding) × (slice_get table i ≡ Some holding) × (from + i ≢ session) × (holding_excludes holding block asked ≡ true)
other_excludes from [] session block asked h = absurd (false≢true h)
other_excludes from (holding ∷ table) session block asked h =
    elim (or_cases (not (from == session) && holding_excludes holding block asked) (others_exclude (suc from) table session block asked) h) [
      | inl here ↦ (
          let both = and_parts (not (from == session)) (holding_excludes holding block asked) here in
          (zero, holding, refl, (λ same. not_same (from == session) both.0 (eq-eqb from session (let e : from + 0 ≡ session = same in omega arith))), both.1))
      | inr later ↦ (
          let rest = other_excludes (suc from) table session block asked later in
          (suc rest.0, rest.1, rest.2, (λ same. rest.3 (let e : from + suc rest.0 ≡ session = same in omega arith)), rest.4))
    ]
  where
    not_same : (b : Bool) → not b ≡ true → b ≡ true → ⊥
    not_same true h k = false≢true h
    not_same false h k = false≢true k

-- ... so it stands in the way of a call
module _ (table : Table) (session block : ℕ) where
  no_pin : (holding : Holding) (asked : Mode) → (pins_exclude holding.pins block asked ≡ true → ⊥) → holding_excludes holding block asked ≡ true
      → IsIn block (map (λ (latch : Latch). latch.block) holding.latches)
  no_pin holding asked none h =
      elim (or_cases (latches_exclude holding.latches block asked) (pins_exclude holding.pins block asked) h) [ inl latch ↦ latch_in holding.latches block asked latch | inr pin ↦ absurd (none pin) ]

  held_by : (ask : Ask) (asked : Mode) → ((holding : Holding) → holding_excludes holding block asked ≡ true → BlocksCall ask holding block)
      → is_held_by_another table session block asked ≡ true → IsHeldByAnother table session ask block
  held_by ask asked stands h =
      let found = other_excludes 0 table session block asked h in
      record { other = found.0; apart = λ same. found.3 (let e : found.0 ≡ session = same in omega arith); holding = found.1; held = found.2; stands = stands found.1 found.4 }

  held_shared : (ask : Ask)
      → ((holding : Holding) → IsIn block (map (λ (latch : Latch). latch.block) holding.latches) → BlocksCall ask holding block)
      → is_held_by_another table session block Shared ≡ true → IsHeldByAnother table session ask block
  held_shared ask stands h = held_by ask Shared (λ holding excludes. stands holding (no_pin holding Shared false≢true excludes)) h

  held_exclusive : (ask : Ask)
      → ((holding : Holding) → IsIn block (map (λ (latch : Latch). latch.block) holding.latches) → BlocksCall ask holding block)
      → is_held_by_another table session block Exclusive ≡ true → IsHeldByAnother table session ask block
  held_exclusive ask stands h = held_by ask Exclusive (λ holding excludes. stands holding (no_pin holding Exclusive false≢true excludes)) h

  held_for_cleanup : (dead : _) → is_held_by_another table session block CleanupMode ≡ true → IsHeldByAnother table session (AskBulkDelete dead) block
  held_for_cleanup dead h = held_by (AskBulkDelete dead) CleanupMode
      (λ holding excludes.
      elim (or_cases (latches_exclude holding.latches block CleanupMode) (pins_exclude holding.pins block CleanupMode) excludes)
      [ inl latch ↦ inl (latch_in holding.latches block CleanupMode latch) | inr pin ↦ inr (pin_in holding.pins block pin) ]) h

-- a call that began before the page was deleted runs
kept_by : (number from : ℕ) (running : List (Option ℕ)) → others_began_after number from None running ≡ false → (session start : ℕ) × (slice_get running session ≡ Some (Some start)) × (start < number)
kept_by number from [] h = absurd (true≢false h)
kept_by number from (call ∷ running) h = by (began_after number call) refl (λ more. kept_by number (suc from) running more)
  where
    of : (c : Option ℕ) → began_after number c ≡ false → (session start : ℕ) × (slice_get (c ∷ running) session ≡ Some (Some start)) × (start < number)
    of None e = absurd (true≢false e)
    of (Some begun) e = (zero, begun, refl, leb-false number begun e)

    by : (b : Bool) → began_after number call ≡ b
        → (others_began_after number (suc from) None running ≡ false → (session start : ℕ) × (slice_get running session ≡ Some (Some start)) × (start < number))
        → (session start : ℕ) × (slice_get (call ∷ running) session ≡ Some (Some start)) × (start < number)
    by true is rest = (
        let found = rest (subst (λ (c : Bool). (c && others_began_after number (suc from) None running) ≡ false) is h) in
        (suc found.0, found.1, found.2, found.3))
    by false is rest = of call is

-- no block can be had
no_block : (st : State) → is_out_of_blocks st ≡ true → HasNoBlock st
no_block st h =
    let both = and_parts (nat_le st.format.pages (length st.pages)) (not (any_is_reusable st (length st.pages))) h in
    record {
      used = leb-true st.format.pages (length st.pages) both.0;
      kept = λ block gone. kept_at block gone (slice_get st.pages block) refl (no_reuse both.1);
    }
  where
    no_reuse : not (any_is_reusable st (length st.pages)) ≡ true → any_is_reusable st (length st.pages) ≡ false
    no_reuse k = of (any_is_reusable st (length st.pages)) k
      where
        of : (b : Bool) → not b ≡ true → b ≡ false
        of true k = absurd (false≢true k)
        of false k = refl

    none_below : (n : ℕ) → any_is_reusable st n ≡ false → (b : ℕ) → b < n → is_reusable st b ≡ false
    none_below zero h b lt = absurd (omega arith)
    none_below (suc n) h b lt = elim (cases_eq b n) [
      | inl e ↦ subst (λ (i : ℕ). is_reusable st i ≡ false) (sym e) (or_parts (is_reusable st n) (any_is_reusable st n) h).0
      | inr ne ↦ none_below n (or_parts (is_reusable st n) (any_is_reusable st n) h).1 b (omega arith)
    ]

    kept_at : (block : ℕ) → (nodes_of st.pages block).state ≡ Deleted → (o : Option Page) → slice_get st.pages block ≡ o → any_is_reusable st (length st.pages) ≡ false
        → (session start : ℕ) × (slice_get st.running session ≡ Some (Some start)) × (start < slice_index st.counted block)
    kept_at block gone None at none = absurd (let live : Live ≡ Deleted = sym (ap (λ (o : Option Page). (node_from o).state) at) ∙ gone in cc)
    kept_at block gone (Some page) at none =
        let state : page.state ≡ Deleted = sym (ap (λ (o : Option Page). (node_from o).state) at) ∙ gone in
        let deleted : is_deleted st.pages block ≡ true = ap is_deleted_page at ∙ ap is_deleted_state state in
        let within : block < length st.pages = get_within st.pages block page at in
        let not_free : is_reusable st block ≡ false = none_below (length st.pages) none block within in
        kept_by (slice_index st.counted block) 0 st.running
        (subst (λ (b : Bool). (b && others_began_after (slice_index st.counted block) 0 None st.running) ≡ false) deleted not_free)

-- pinned blocks that differ are no more than the pins
apart_few : (blocks : List ℕ) → count_apart blocks ≤ length blocks
apart_few [] = omega arith
apart_few (b ∷ blocks) = by (has_pin blocks b) refl (apart_few blocks)
  where
    by : (c : Bool) → has_pin blocks b ≡ c → count_apart blocks ≤ length blocks → count_apart (b ∷ blocks) ≤ length (b ∷ blocks)
    by true is few = rw is (omega arith)
    by false is few = rw is (omega arith)

-- the metapage has the level of the root
tall : (pages : List Page) → 31 ≤ root_level pages → 31 ≤ (nodes_of pages 0).level
tall pages h = of (slice_get pages 0) h
  where
    of : (o : Option Page) → 31 ≤ level_of o → 31 ≤ (node_from o).level
    of None h = absurd (omega arith)
    of (Some page) h = by page.items h
      where
        by : (items : Items) → 31 ≤ level_with items page.level → 31 ≤ page.level
        by Meta k = k
        by (Entries v) k = absurd (omega arith)
        by (Downlinks v) k = k

-- what a step writes and needs is no more than this
parted_few : (parent new target : ℕ) (right : Option ℕ) → length (parent ∷ new ∷ sibling right ++ target ∷ []) ≤ 4
parted_few parent new target None = omega arith
parted_few parent new target (Some right) = omega arith

linked_few : (st : State) (target : Target) (parent : ℕ) (page : Option Page) → length (blocks_linked st target parent page) ≤ 4
linked_few st target parent None = omega arith
linked_few st target parent (Some page) = by (nat_le st.format.items (length (links_of page.items)))
  where
    by : (b : Bool) → length (if b then parent ∷ fresh_block st ∷ sibling page.right ++ target.block ∷ [] else parent ∷ target.block ∷ []) ≤ 4
    by true = parted_few parent (fresh_block st) target.block page.right
    by false = omega arith

one_or_none : (c : Bool) (blocks : List ℕ) → length blocks ≤ 4 → length (if c then blocks else []) ≤ 4
one_or_none true blocks few = few
one_or_none false blocks few = omega arith

images_few : (st : State) (target : Target) (at : FinishAt) → length (finish_blocks st target at) ≤ 4
images_few st target FinishStart = omega arith
images_few st target (Down position) = omega arith
images_few st target (Link position) =
    one_or_none (is_to_link st target position) (blocks_linked st target position.block (slice_get st.pages position.block)) (linked_few st target position.block (slice_get st.pages position.block))
images_few st target Root = one_or_none (is_to_grow st target) (fresh_block st ∷ 0 ∷ target.block ∷ []) (omega arith)

pub frames_for_few : (most : ℕ) (images : List ℕ) → 1 ≤ most → length images ≤ most → frames_for images ≤ most
frames_for_few most [] some few = some
frames_for_few most (block ∷ images) some few = few

pub frames_few : (st : State) (target : Target) (at : FinishAt) → frames_of st target at ≤ 4
frames_few st target at = frames_for_few 4 (finish_blocks st target at) (omega arith) (images_few st target at)

between_few : (block : ℕ) (left right : Option ℕ) → length (sibling left ++ block ∷ sibling right) ≤ 3
between_few block None None = omega arith
between_few block None (Some right) = omega arith
between_few block (Some left) None = omega arith
between_few block (Some left) (Some right) = omega arith

unlinked_few : (state : PageState) (block : ℕ) (left right : Option ℕ) → length (blocks_unlinked state block left right) ≤ 3
unlinked_few Live block left right = omega arith
unlinked_few HalfDead block left right = between_few block left right
unlinked_few Deleted block left right = omega arith

unlinked_of_few : (block : ℕ) (page : Option Page) → length (blocks_unlinked_of block page) ≤ 3
unlinked_of_few block None = omega arith
unlinked_of_few block (Some page) = unlinked_few page.state block page.left page.right

pub written_few : (at : CleanupAt) (cursor : ℕ) (st : State) → length (blocks_written at cursor st) ≤ 3
written_few Look cursor st = omega arith
written_few (CleanupStart high) cursor st = omega arith
written_few (CleanupDown high position) cursor st = omega arith
written_few (Judge high parent) cursor st = omega arith
written_few Unlink cursor st = unlinked_of_few cursor (slice_get st.pages cursor)

halved_few : (st : State) (right : Option ℕ) → length (blocks_halved st right) ≤ 2
halved_few st None = omega arith
halved_few st (Some right) = omega arith

pub put_few : (st : State) (page : Option Page) → length (blocks_beside st page) ≤ 2
put_few st None = omega arith
put_few st (Some page) = by (nat_le st.format.items (length (entries_of page.items)))
  where
    by : (b : Bool) → length (if b then blocks_halved st page.right else []) ≤ 2
    by true = halved_few st page.right
    by false = omega arith

pub insert_images_few : (st : State) (at : InsertAt) → length (images_at st at) ≤ 4
insert_images_few st (Coming Start) = omega arith
insert_images_few st (Coming (At position)) = omega arith
insert_images_few st (Coming (Holds block)) = (let k = put_few st (slice_get st.pages block) in omega (arith, k))
insert_images_few st (Finishing op) = images_few st op.target op.at

insert_frames_few : (st : State) (at : InsertAt) → frames_at st at ≤ 4
insert_frames_few st (Coming Start) = omega arith
insert_frames_few st (Coming (At position)) = omega arith
insert_frames_few st (Coming (Holds block)) = (let k = put_few st (slice_get st.pages block) in omega (arith, k))
insert_frames_few st (Finishing op) = frames_few st op.target op.at

-- no more of these blocks are new than there are
few_new : (waiting blocks : List ℕ) → count_new waiting blocks ≤ length blocks
few_new waiting [] = omega arith
few_new waiting (block ∷ blocks) = by (list_any (λ b. b == block) waiting) (few_new waiting blocks)
  where
    by : (waits : Bool) → count_new waiting blocks ≤ length blocks → (if waits then count_new waiting blocks else suc (count_new waiting blocks)) ≤ suc (length blocks)
    by true le = omega (arith, le)
    by false le = omega (arith, le)

-- a bulk delete writes one block, or none
pub block_few : (writes : Bool) (block : ℕ) → length (block_if writes block) ≤ 1
block_few true block = omega arith
block_few false block = omega arith

module _ {S : Type 0} (g : Ghosts S) (old : Moment S) (new : S) where
  -- these circumstances, if each is so, are a reason for a step of a call that was asked this
  record AreReasons (at : Circumstances) (session : ℕ) (ask : Ask) (op : Op) : Type 0 where
    pub growth : at.growth_refused ≡ true → ⊥
    pub device : at.device_failed ≡ true → MoveFails g Steps session ask op old new Io
    pub stopped : at.is_stopped ≡ true → MoveFails g Steps session ask op old new Stopped
    pub held : (block : ℕ) → at.is_held_by_another block ≡ true → MoveFails g Steps session ask op old new (Blocked block)
    pub entry : at.entry_was_there ≡ true → MoveFails g Steps session ask op old new Exists
    pub key : (row : Row) → at.key_was_there row ≡ true → MoveFails g Steps session ask op old new (KeyExists row)
    pub block : at.no_block_is_free ≡ true → MoveFails g Steps session ask op old new IndexFull
    pub log : at.log_is_full ≡ true → MoveFails g Steps session ask op old new LogFull
    pub frames : at.frames_are_pinned ≡ true → MoveFails g Steps session ask op old new NoFrame
    pub vacuum : at.vacuum_runs ≡ true → ⊥
    pub session_is : at.no_such_session ≡ true → ⊥
    pub busy : at.session_has_a_call ≡ true → ⊥
    pub damaged : (block : ℕ) → at.page_is_damaged block ≡ true → ⊥
    pub root : at.root_is_at_31 ≡ true → MoveFails g Steps session ask op old new TooTall

  fails_by : (at : Circumstances) (session : ℕ) (ask : Ask) (op : Op) → AreReasons at session ask op → (fault : Fault) → HasCause at fault → MoveFails g Steps session ask op old new fault
  fails_by at session ask op r NoMemory h = absurd (r.growth h)
  fails_by at session ask op r Io h = r.device h
  fails_by at session ask op r Stopped h = r.stopped h
  fails_by at session ask op r (Blocked b) h = r.held b h
  fails_by at session ask op r Exists h = r.entry h
  fails_by at session ask op r KeyTooLong h = absurd h
  fails_by at session ask op r BadRow h = absurd h
  fails_by at session ask op r IndexFull h = r.block h
  fails_by at session ask op r LogFull h = r.log h
  fails_by at session ask op r NoFrame h = r.frames h
  fails_by at session ask op r VacuumRunning h = absurd (r.vacuum h)
  fails_by at session ask op r NoSession h = absurd (r.session_is h)
  fails_by at session ask op r SessionBusy h = absurd (r.busy h)
  fails_by at session ask op r BadSuper h = absurd h
  fails_by at session ask op r BadVersion h = absurd h
  fails_by at session ask op r LogDamaged h = absurd h
  fails_by at session ask op r (PageDamaged b) h = absurd (r.damaged b h)
  fails_by at session ask op r BadLimits h = absurd h
  fails_by at session ask op r TooTall h = r.root h
  fails_by at session ask op r DeviceTooSmall h = absurd h
  fails_by at session ask op r (KeyExists row) h = r.key row h

  st : State
  st = g.state old.store

  failed : has_failed (g.backing old.store) (g.backing new) ≡ true → (g.backing old.store).failures < (g.backing new).failures
  failed h = ltb-true (g.backing old.store).failures (g.backing new).failures h

  at_end : (count : ℕ) → is_at_end count ≡ true → count ≡ 18446744073709551615
  at_end count h = eqb-true count 18446744073709551615 h

  -- the frames of a step that looks at `frames` pages, 4 at most
  few_frames : (frames : ℕ) → frames ≤ 4 → nat_lt (g.state old.store).frames (frames + count_apart (pinned_blocks (g.state old.store).table)) ≡ true
      → (g.state old.store).frames < 4 + length (pinned_blocks (g.state old.store).table)
  few_frames frames le h =
      let lt : (g.state old.store).frames < frames + count_apart (pinned_blocks (g.state old.store).table) =
      ltb-true (g.state old.store).frames (frames + count_apart (pinned_blocks (g.state old.store).table)) h in
      let few : count_apart (pinned_blocks (g.state old.store).table) ≤ length (pinned_blocks (g.state old.store).table) = apart_few (pinned_blocks (g.state old.store).table) in
      omega arith

  few_images : (images : List ℕ) → length images ≤ 4 → lacks_room (g.backing old.store) (g.backing new) images ≡ true
      → ((g.backing old.store).promised ≤ 4) × ((g.backing new).room < 4)
  few_images images le h =
      let both = and_parts (nat_le (g.backing old.store).promised (length images)) (nat_lt (g.backing new).room (count_new (g.backing new).waiting images)) h in
      let few : (g.backing old.store).promised ≤ length images = leb-true (g.backing old.store).promised (length images) both.0 in
      let full : (g.backing new).room < count_new (g.backing new).waiting images = ltb-true (g.backing new).room (count_new (g.backing new).waiting images) both.1 in
      let new_few : count_new (g.backing new).waiting images ≤ length images = few_new (g.backing new).waiting images in
      (omega (arith, few, le), omega (arith, full, new_few, le))

  pub step_fails : (sets : DeadSets) (op : Op) (fault : Fault) → HasCause (causes_of_stepped sets op (g.state old.store) (g.backing old.store) (g.backing new)) fault
      → MoveFails g Steps (session_of op) (asked_of sets op) op old new fault
  step_fails sets (Insert op) fault h = fails_by (causes_of_stepped sets (Insert op) (g.state old.store) (g.backing old.store) (g.backing new)) op.session (AskInsert op.entry) (Insert op) (record {
    growth = false≢true;
    device = failed;
    stopped = λ k. elim (or_cases (g.backing old.store).stopped (is_at_end (g.state old.store).acts) k) [ inl a ↦ inl a | inr b ↦ inr (inl (at_end (g.state old.store).acts b)) ];
    held = λ b k. elim (or_cases (is_held_by_another (g.state old.store).table op.session b Shared) (is_held_by_another (g.state old.store).table op.session b Exclusive) k) [
      | inl a ↦ held_shared (g.state old.store).table op.session b (AskInsert op.entry) (λ holding i. i) a
      | inr e ↦ held_exclusive (g.state old.store).table op.session b (AskInsert op.entry) (λ holding i. i) e
    ];
    entry = λ k. k;
    key = λ row k. other_row_is (g.state old.store) op.entry row k;
    block = λ k. no_block (g.state old.store) (and_parts (takes_block_at (g.state old.store) op.at) (is_out_of_blocks (g.state old.store)) k).1;
    log = λ k. few_images (images_at (g.state old.store) op.at) (insert_images_few (g.state old.store) op.at) k;
    frames = λ k. few_frames (frames_at (g.state old.store) op.at) (insert_frames_few (g.state old.store) op.at) k;
    vacuum = false≢true;
    session_is = false≢true;
    busy = false≢true;
    damaged = λ b. false≢true;
    root = λ k. tall (g.state old.store).pages
        (leb-true 31 (root_level (g.state old.store).pages) (and_parts (splits_root_at (g.state old.store) op.at) (nat_le 31 (root_level (g.state old.store).pages)) k).1);
  }) fault h
  step_fails sets (Scan op) fault h = fails_by (causes_of_stepped sets (Scan op) (g.state old.store) (g.backing old.store) (g.backing new)) op.session (AskScan op.range) (Scan op) (record {
    growth = false≢true;
    device = failed;
    stopped = λ k. inl k;
    held = λ b k. held_shared (g.state old.store).table op.session b (AskScan op.range) (λ holding i. i) k;
    entry = λ k. absurd (false≢true k);
    key = λ row k. absurd (false≢true k);
    block = λ k. absurd (false≢true k);
    log = λ k. absurd (false≢true k);
    frames = λ k. few_frames 1 (omega arith) k;
    vacuum = false≢true;
    session_is = false≢true;
    busy = false≢true;
    damaged = λ b. false≢true;
    root = λ k. absurd (false≢true k);
  }) fault h
  step_fails sets (Bulk set op) fault h =
      fails_by (causes_of_stepped sets (Bulk set op) (g.state old.store) (g.backing old.store) (g.backing new)) op.session (asked_of sets (Bulk set op)) (Bulk set op) (record {
        growth = false≢true;
        device = failed;
        stopped = λ k. elim (or_cases (g.backing old.store).stopped (is_at_end (g.state old.store).acts || is_counted_out op) k) [
          | inl a ↦ inl a
          | inr b ↦ elim (or_cases (is_at_end (g.state old.store).acts) (is_counted_out op) b) [
            | inl end ↦ inr (inl (at_end (g.state old.store).acts end))
            | inr full ↦ inr (inr
                (elim (or_cases (is_full_count op.left) (is_full_count op.removed) full)
                [ inl left ↦ inl (ltb-true 18446744073709551565 op.left left) | inr removed ↦ inr (ltb-true 18446744073709551565 op.removed removed) ]))
          ]
        ];
        held = λ b k. held_for_cleanup (g.state old.store).table op.session b _ k;
        entry = λ k. absurd (false≢true k);
        key = λ row k. absurd (false≢true k);
        block = λ k. absurd (false≢true k);
        log = λ k. (let one = block_few (has_dead (set_at sets set) (g.state old.store) op) (next_block op.cursor op.backtrack) in
            few_images (block_if (has_dead (set_at sets set) (g.state old.store) op) (next_block op.cursor op.backtrack)) (omega (arith, one)) k);
        frames = λ k. few_frames 1 (omega arith) k;
        vacuum = false≢true;
        session_is = false≢true;
        busy = false≢true;
        damaged = λ b. false≢true;
        root = λ k. absurd (false≢true k);
      }) fault h
  step_fails sets (Cleanup op) fault h = fails_by (causes_of_stepped sets (Cleanup op) (g.state old.store) (g.backing old.store) (g.backing new)) op.session AskCleanup (Cleanup op) (record {
    growth = false≢true;
    device = failed;
    stopped = λ k. elim (or_cases (g.backing old.store).stopped (is_at_end (g.state old.store).acts || is_cleanup_full op) k) [
      | inl a ↦ inl a
      | inr b ↦ elim (or_cases (is_at_end (g.state old.store).acts) (is_cleanup_full op) b) [
        | inl end ↦ inr (inl (at_end (g.state old.store).acts end))
        | inr full ↦ inr (inr (elim (or_cases (is_full_count op.left) (is_last_number op.cursor || is_last_number op.deleted) full) [
          | inl left ↦ inl (ltb-true 18446744073709551565 op.left left)
          | inr number ↦ inr (elim (or_cases (is_last_number op.cursor) (is_last_number op.deleted) number)
              [ inl cursor ↦ inl (eqb-true op.cursor 4294967295 cursor) | inr deleted ↦ inr (eqb-true op.deleted 4294967295 deleted) ])
        ]))
      ]
    ];
    held = λ b k. elim (or_cases (is_held_by_another (g.state old.store).table op.session b Shared) (is_held_by_another (g.state old.store).table op.session b Exclusive) k) [
      | inl a ↦ held_shared (g.state old.store).table op.session b AskCleanup (λ holding i. i) a
      | inr e ↦ held_exclusive (g.state old.store).table op.session b AskCleanup (λ holding i. i) e
    ];
    entry = λ k. absurd (false≢true k);
    key = λ row k. absurd (false≢true k);
    block = λ k. absurd (false≢true k);
    log = λ k. (let few = written_few op.at op.cursor (g.state old.store) in few_images (blocks_written op.at op.cursor (g.state old.store)) (omega (arith, few)) k);
    frames = λ k. (let frames =
        frames_for_few 3 (blocks_written op.at op.cursor (g.state old.store)) (omega arith) (written_few op.at op.cursor (g.state old.store)) in
        few_frames (frames_for (blocks_written op.at op.cursor (g.state old.store))) (omega (arith, frames)) k);
    vacuum = false≢true;
    session_is = false≢true;
    busy = false≢true;
    damaged = λ b. false≢true;
    root = λ k. absurd (false≢true k);
  }) fault h
