-- Why a page isn't read for a scan.
use Rattle.std.proofs.Common.{◌≡◌, ℕ, suc, ◌+◌, ◌<◌, ◌≤◌, Bool, true, false, not, ◌||◌, ◌==◌, nat_lt, nat_le, if◌then◌else◌, List, ◌∷◌, length, sym, subst, arith}
use Rattle.latch_table.specs.declared.mode.Mode.TheVariants.{Shared}
use Rattle.page_action.specs.Causes.{pinned_blocks, count_apart}
use Rattle.descent.specs.Causes.{causes_of_looked}
use Rattle.scan.proofs.Imports.{and_parts, eqb-true, ltb-true, lt-ltb, leb-true, HasCause, Fault, Blocked, NoFrame, PageDamaged, has_pin, is_held_by_another, State, Backing, causes_of_scanning}

one_more : (c : Bool) (n : ℕ) → (if c then n else suc n) ≤ 1 + n
one_more true n = omega arith
one_more false n = omega arith

frames_short : (frames block : ℕ) (pins : List ℕ) → nat_lt frames (count_apart (block ∷ pins)) ≡ true → nat_lt frames (1 + count_apart pins) ≡ true
frames_short frames block pins h =
    let few = one_more (has_pin pins block) (count_apart pins) in
    let short : frames < count_apart (block ∷ pins) = ltb-true frames (count_apart (block ∷ pins)) h in
    lt-ltb frames (1 + count_apart pins) (omega arith)

not_damaged : (block many : ℕ) (honest : Bool) → honest ≡ true → block < many → (not honest || nat_le many block) ≡ true → ⊥
not_damaged block many true is lt h = (let k : many ≤ block = leb-true many block h in omega arith)
not_damaged block many false is lt h = absurd cc

pub scanning_cause : (st : State) (old new : Backing) (session block : ℕ) (fault : Fault) → new.honest ≡ true → block < length st.pages → HasCause (causes_of_looked st old new session block) fault
    → HasCause (causes_of_scanning st old new session) fault
scanning_cause st old new session block (Blocked b) honest used h =
    let parts = and_parts (b == block) (is_held_by_another st.table session block Shared) h in
    subst (λ (c : ℕ). is_held_by_another st.table session c Shared ≡ true) (sym (eqb-true b block parts.0)) parts.1
scanning_cause st old new session block NoFrame honest used h = frames_short st.frames block (pinned_blocks st.table) h
scanning_cause st old new session block (PageDamaged b) honest used h =
    absurd (not_damaged block (length st.pages) new.honest honest used (and_parts (b == block) (not new.honest || nat_le (length st.pages) block) h).1)
scanning_cause st old new session block fault honest used h = h
