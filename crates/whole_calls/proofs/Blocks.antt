-- Which blocks are free: as told of another moment, at which the same pages are in use and the same calls
-- run.
use Rattle.std.specs.Prelude.{slice_index}
use Rattle.std.proofs.Common.{◌≡◌, ◌⊎◌, ℕ, zero, suc, Bool, true, false, not, ◌&&◌, ◌||◌, nat_le, Option, Some, None, List, [], ◌∷◌, length, slice_get, slice_set, refl, sym, ap, subst, inl, inr, ◌∙◌, unwrap_or}
use Rattle.session_calls.proofs.Freeing.{go_running}
use Rattle.whole_calls.proofs.Imports.{is_deleted, others_began_after, is_reusable, any_is_reusable, is_out_of_blocks, InsertOp, is_bulk_delete, start_number, op_after_call, after_slot, let_go}
use Rattle.whole_calls.proofs.Imports.{Insert, running_of, Entry, Format, State, Ghosts, Page, session_of, Op, Moment, Fits, slot_of, SlotRuns, with_number, has_no_block}

-- one of the first `n` blocks may be used again
same_reusable : (a b : State) → a.pages ≡ b.pages → a.counted ≡ b.counted → a.running ≡ b.running → (n : ℕ) → any_is_reusable a n ≡ any_is_reusable b n
same_reusable a b pages counted running zero = refl
same_reusable a b pages counted running (suc n) =
    ap (λ (l : List Page). (is_deleted l n && others_began_after (slice_index a.counted n) 0 None a.running) || any_is_reusable a n) pages
    ∙ ap (λ (l : List ℕ). (is_deleted b.pages n && others_began_after (slice_index l n) 0 None a.running) || any_is_reusable a n) counted
    ∙ ap (λ (l : List (Option ℕ)). (is_deleted b.pages n && others_began_after (slice_index b.counted n) 0 None l) || any_is_reusable a n) running
    ∙ ap (λ (more : Bool). is_reusable b n || more) (same_reusable a b pages counted running n)

-- no block is unused, and none may be used again
pub same_out : (a b : State) → a.format ≡ b.format → a.pages ≡ b.pages → a.counted ≡ b.counted → a.running ≡ b.running → is_out_of_blocks a ≡ is_out_of_blocks b
same_out a b format pages counted running =
    ap (λ (l : Format). nat_le l.pages (length a.pages) && not (any_is_reusable a (length a.pages))) format
    ∙ ap (λ (l : List Page). nat_le b.format.pages (length l) && not (any_is_reusable a (length l))) pages
    ∙ ap (λ (some : Bool). nat_le b.format.pages (length b.pages) && not some) (same_reusable a b pages counted running (length b.pages))

-- numbers in their places

set_twice : (xs : List (Option ℕ)) (i : ℕ) (x y : Option ℕ) → slice_set (slice_set xs i x) i y ≡ slice_set xs i y
set_twice [] i x y = refl
set_twice (z ∷ zs) zero x y = refl
set_twice (z ∷ zs) (suc i) x y = ap (λ (l : List (Option ℕ)). z ∷ l) (set_twice zs i x y)

set_own : (xs : List (Option ℕ)) (i : ℕ) → slice_set xs i (unwrap_or (slice_get xs i) None) ≡ xs
set_own [] i = refl
set_own (z ∷ zs) zero = refl
set_own (z ∷ zs) (suc i) = ap (λ (l : List (Option ℕ)). z ∷ l) (set_own zs i)

-- the pages, their counts, the limits, the frames and the number of actions are as they were
pub record LeavesState (old new : State) : Type 0 where
  pub acts : new.acts ≡ old.acts
  pub frames : new.frames ≡ old.frames
  pub format : new.format ≡ old.format
  pub pages : new.pages ≡ old.pages
  pub counted : new.counted ≡ old.counted

-- at the end of what a session runs, if anything, they are
pub leaves_state : (slot : Option Op) (st new : State) → new ≡ after_slot slot st → LeavesState st new
leaves_state slot st new is = subst (λ (x : State). LeavesState st x) (sym is) (of slot)
  where
    let_go_leaves : (bulk : Bool) (session : ℕ) → LeavesState st (let_go bulk session st)
    let_go_leaves true session = record { acts = refl; frames = refl; format = refl; pages = refl; counted = refl }
    let_go_leaves false session = record { acts = refl; frames = refl; format = refl; pages = refl; counted = refl }

    of : (o : Option Op) → LeavesState st (after_slot o st)
    of None = record { acts = refl; frames = refl; format = refl; pages = refl; counted = refl }
    of (Some op) = let_go_leaves (is_bulk_delete op) (session_of op)

-- the start numbers of calls stay at a call's end, except for its own
given_up_numbers : {S : Type 0} (g : Ghosts S) (start : Entry → Bool) (session : ℕ) (now : Moment S) (new : State) → Fits g start now
    → new ≡ after_slot (slot_of now.slots session) (g.state now.store)
    → (number : Option ℕ) → slice_set new.running session number ≡ slice_set (g.state now.store).running session number
given_up_numbers {S} g start session now new fits is number = of (slice_get now.slots session) refl
  where
    ended : (o : Option (Option Op)) → slice_get now.slots session ≡ o → new ≡ after_slot (unwrap_or o None) (g.state now.store)
    ended o at = is ∙ ap (λ (x : Option (Option Op)). after_slot (unwrap_or x None) (g.state now.store)) at

    same : new ≡ (g.state now.store) → slice_set new.running session number ≡ slice_set (g.state now.store).running session number
    same e = ap (λ (x : State). slice_set x.running session number) e

    of : (o : Option (Option Op)) → slice_get now.slots session ≡ o → slice_set new.running session number ≡ slice_set (g.state now.store).running session number
    of None at = same (ended None at)
    of (Some None) at = same (ended (Some None) at)
    of (Some (Some op)) at =
        let runs : SlotRuns g start now session op = running_of fits session (Some op) at in
        ap (λ (x : State). slice_set x.running session number) (ended (Some (Some op)) at)
        ∙ ap (λ (l : List (Option ℕ)). slice_set l session number) (go_running (is_bulk_delete op) (session_of op) (g.state now.store))
        ∙ ap (λ (s : ℕ). slice_set (slice_set (g.state now.store).running s None) session number) (runs.runs.session ∙ runs.is.session_is)
        ∙ set_twice (g.state now.store).running session None number

-- the one store's pages and log are the other's, and so are the start numbers of its calls, except for the
-- session's
pub record LeavesAll {S : Type 0} (g : Ghosts S) (session : ℕ) (old new : S) : Type 0 where
  pub backing : g.backing new ≡ g.backing old
  pub state : LeavesState (g.state old) (g.state new)
  pub numbers : (number : Option ℕ) → slice_set (g.state new).running session number ≡ slice_set (g.state old).running session number

-- a call's end leaves all this as it was
pub leaves_all : {S : Type 0} {g : Ghosts S} {start : Entry → Bool} {session : ℕ} {now : Moment S} {new : S} → Fits g start now → g.backing new ≡ g.backing now.store
    → g.state new ≡ after_slot (slot_of now.slots session) (g.state now.store) → LeavesAll g session now.store new
leaves_all {g = g} {start} {session} {now} {new} fits backing is = record {
  backing = backing;
  state = leaves_state (slot_of now.slots session) (g.state now.store) (g.state new) is;
  numbers = given_up_numbers g start session now (g.state new) fits is;
}

-- an insert that ends, or goes on as it was, leaves each block as free as it was while it ran
pub blocks_after : (session : ℕ) (op : InsertOp) (st new : State) → op.session ≡ session → (new ≡ op_after_call (Insert op) st) ⊎ (new ≡ st)
    → has_no_block session (start_number st session) new ≡ is_out_of_blocks st
blocks_after session op st new is (inl ended) =
    ap (λ (x : State). has_no_block session (start_number st session) x) ended
    ∙ same_out (with_number session (start_number st session) (op_after_call (Insert op) st)) st refl refl refl
    (ap (λ (s : ℕ). slice_set (slice_set st.running s None) session (start_number st session)) is ∙ (set_twice st.running session None (start_number st session) ∙ set_own st.running session))
blocks_after session op st new is (inr same) =
    ap (λ (x : State). has_no_block session (start_number st session) x) same
    ∙ same_out (with_number session (start_number st session) st) st refl refl refl (set_own st.running session)

-- blocks are as free at one moment as at the other
pub blocks_same : (session : ℕ) (number : Option ℕ) (mid new : State) → new.format ≡ mid.format → new.pages ≡ mid.pages → new.counted ≡ mid.counted
    → slice_set new.running session number ≡ slice_set mid.running session number → has_no_block session number new ≡ has_no_block session number mid
blocks_same session number mid new format pages counted numbers = same_out (with_number session number new) (with_number session number mid) format pages counted numbers
