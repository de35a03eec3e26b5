-- Pages are read one after the other.
use Rattle.std.proofs.Common.{◌≡◌, ℕ, zero, suc, ◌+◌, ◌<◌, ◌≤◌, Bool, true, false, not, ◌&&◌, ◌||◌, ◌==◌, nat_lt, nat_le, List, [], ◌∷◌, ◌++◌, length, take, slice_get, Some, ◌≢◌, refl, sym, ap, subst, ◌∙◌, arith}
use Rattle.page_action.specs.Causes.{causes_of_read, count_apart, pinned_blocks}
use Rattle.amcheck.proofs.Imports.{ltb-true, lt-ltb, HasCause, Fault, NoMemory, Io, Stopped, NoFrame, PageDamaged, has_pin, KeepsRoom, State, Backing, IsLater, causes_of_checked, false≢true}

pub kept_on : (st : State) (first mid last : Backing) → KeepsRoom st first mid → KeepsRoom st mid last → IsLater first mid → mid.durable ≤ st.acts → KeepsRoom st first last
kept_on st first mid last a b later few = record {
  promised = b.promised ∙ a.promised;
  idle = λ e. (let d = later.durable in let same : mid.durable ≡ st.acts = omega (arith, e, d, few) in b.idle same ∙ a.idle e);
}

pub kept_same : (st : State) (b : Backing) → KeepsRoom st b b
kept_same st b = record { promised = refl; idle = λ e. refl }

one_more : (frames block : ℕ) (pins : List ℕ) → nat_lt frames (count_apart (block ∷ pins)) ≡ true → nat_lt frames (suc (count_apart pins)) ≡ true
one_more frames block pins h = go (has_pin pins block) refl
  where
    go : (w : Bool) → has_pin pins block ≡ w → nat_lt frames (suc (count_apart pins)) ≡ true
    go true e = (let k : frames < count_apart pins = ltb-true frames (count_apart pins) (rw e at h) in lt-ltb frames (suc (count_apart pins)) (omega arith))
    go false e = rw e at h

damaged : (same honest past : Bool) → past ≡ false → (same && (not honest || past)) ≡ true → not honest ≡ true
damaged true true past e h = absurd (let k : true ≡ false = sym h ∙ e in cc)
damaged true false past e h = refl
damaged false honest past e h = absurd (let k : false ≡ true = h in cc)

-- a page isn't read: that is a cause for the whole
pub cause_on : (st : State) (first mid last : Backing) (block : ℕ) (fault : Fault) → first.failures ≤ mid.failures
    → (mid.stopped ≡ true → first.stopped ≡ true) → nat_le (length st.pages) block ≡ false
    → HasCause (causes_of_read st mid last block) fault → HasCause (causes_of_checked st first last) fault
cause_on st first mid last block NoMemory le alive within h = refl
cause_on st first mid last block Io le alive within h = (let k : mid.failures < last.failures = ltb-true mid.failures last.failures h in lt-ltb first.failures last.failures (omega (arith, le, k)))
cause_on st first mid last block Stopped le alive within h = alive h
cause_on st first mid last block NoFrame le alive within h = one_more st.frames block (pinned_blocks st.table) h
cause_on st first mid last block (PageDamaged b) le alive within h = damaged (b == block) last.honest (nat_le (length st.pages) block) within h
cause_on st first mid last block fault le alive within h = h

pub take_get : {A : Type 0} (xs : List A) (i : ℕ) (x : A) → slice_get xs i ≡ Some x → take i xs ++ x ∷ [] ≡ take (i + 1) xs
take_get xs i x found = by xs i found ∙ ap (λ (n : ℕ). take n xs) (let e : suc i ≡ i + 1 = omega arith in e)
  where
    by : {A : Type 0} (xs : List A) (i : ℕ) {x : A} → slice_get xs i ≡ Some x → take i xs ++ x ∷ [] ≡ take (suc i) xs
    by [] i found = absurd cc
    by (y ∷ ys) zero {x} found = (let same : y ≡ x = cc in ap (λ z. z ∷ []) (sym same))
    by (y ∷ ys) (suc i) found = ap (λ l. y ∷ l) (by ys i found)

-- a read takes no memory
pub never_memory : (st : State) (old new : Backing) (block : ℕ) (fault : Fault) → HasCause (causes_of_read st old new block) fault → fault ≢ NoMemory
never_memory st old new block fault h same = false≢true (subst (HasCause (causes_of_read st old new block)) same h)
