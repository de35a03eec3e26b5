-- Why steps are refused, by the calls that they make.
use Rattle.std.proofs.Common.{◌≡◌, ◌⊎◌, ℕ, zero, suc, ◌+◌, ◌<◌, ◌≤◌, Bool, true, false, not, ◌||◌, ◌&&◌, ◌==◌, nat_lt, nat_le, if◌then◌else◌, List, [], ◌∷◌, ◌++◌, length, map, Result, Ok, Err, IfErr, refl, sym, ap, subst, inl, inr, ◌∙◌, arith}
use Rattle.std.proofs.lemmas.List.{length-append}
use Rattle.std.specs.List.{list_any}
use Rattle.index_model.specs.declared.fault.Fault.TheVariants.{NoMemory, Io, Stopped, Blocked, Exists, IndexFull, LogFull, NoFrame, PageDamaged, TooTall}
use Rattle.page_action.specs.Order.{with_changed}
use Rattle.page_action.specs.Room.{KeepsRoom, HasNoRoomFor}
use Rattle.descent.proofs.Imports.{cases_lt, ltb-true, lt-ltb, le-ltb, leb-true, le-leb, and_parts, HasCause, Fault, has_pin, is_held_by_another, Mode, Shared, Exclusive, Page, causes_of_read}
use Rattle.descent.proofs.Imports.{causes_of_acted, is_at_end, count_apart, pinned_blocks, IsFresh, IsFull, is_reusable, State, Backing, IsLater, causes_of_working, causes_of_acting, lacks_room}
use Rattle.descent.proofs.Imports.{count_new, frames_for, first_below, fresh_block, any_is_reusable, and_from, or_left, or_right}

or_before : (a b c : Bool) → (a ≡ true → c ≡ true) → (a || b) ≡ true → (c || b) ≡ true
or_before true b c f h = rw (f refl) refl
or_before false b true f h = refl
or_before false b false f h = h

counted_one : (c : Bool) (n m k : ℕ) → n ≤ m + k → (if c then n else suc n) ≤ suc m + k
counted_one true n m k le = omega (arith, le)
counted_one false n m k le = omega (arith, le)

-- what is counted apart of these blocks and others is no more than these and what is counted of the others
pub apart_few : (blocks pins : List ℕ) → count_apart (blocks ++ pins) ≤ length blocks + count_apart pins
apart_few [] pins = omega arith
apart_few (b ∷ blocks) pins = counted_one (has_pin (blocks ++ pins) b) (count_apart (blocks ++ pins)) (length blocks) (count_apart pins) (apart_few blocks pins)

-- if the frames fall short of these blocks, they fall short of `most`
pub frames_short : (frames : ℕ) (blocks pins : List ℕ) (most : ℕ) → length blocks ≤ most → nat_lt frames (count_apart (blocks ++ pins)) ≡ true → nat_lt frames (most + count_apart pins) ≡ true
frames_short frames blocks pins most le h =
    let few = apart_few blocks pins in
    let short : frames < count_apart (blocks ++ pins) = ltb-true frames (count_apart (blocks ++ pins)) h in
    lt-ltb frames (most + count_apart pins) (omega arith)

later_failed : (first second third : Backing) → first.failures ≤ second.failures → nat_lt second.failures third.failures ≡ true → nat_lt first.failures third.failures ≡ true
later_failed first second third le h =
    let k : second.failures < third.failures = ltb-true second.failures third.failures h in
    lt-ltb first.failures third.failures (omega arith)

in_use_read : (a n : ℕ) (honest : Bool) → honest ≡ true → a < n → (not honest || nat_le n a) ≡ true → ⊥
in_use_read a n true is lt h = (let k : n ≤ a = leb-true n a h in omega arith)
in_use_read a n false is lt h = absurd cc

-- why a page that is in use isn't read
pub read_cause : (st : State) (first second third : Backing) (session : ℕ) (images : List ℕ) (frames : ℕ) (takes splits : Bool) (block : ℕ) (fault : Fault)
    → first.failures ≤ second.failures → (second.stopped ≡ true → first.stopped ≡ true) → third.honest ≡ true → block < length st.pages → 1 ≤ frames
    → HasCause (causes_of_read st second third block) fault → HasCause (causes_of_working st first third session images frames takes splits) fault
read_cause st first second third session images frames takes splits block Io le alive honest used some h = later_failed first second third le h
read_cause st first second third session images frames takes splits block Stopped le alive honest used some h = or_left first.stopped (is_at_end st.acts) (alive h)
read_cause st first second third session images frames takes splits block NoFrame le alive honest used some h = frames_short st.frames (block ∷ []) (pinned_blocks st.table) frames some h
read_cause st first second third session images frames takes splits block (PageDamaged b) le alive honest used some h =
    absurd (in_use_read block (length st.pages) third.honest honest used
    (let p = and_parts (b == block) (not third.honest || nat_le (length st.pages) block) h in p.1))
read_cause st first second third session images frames takes splits block (Blocked b) le alive honest used some h = absurd cc
read_cause st first second third session images frames takes splits block NoMemory le alive honest used some h = h
read_cause st first second third session images frames takes splits block Exists le alive honest used some h = h
read_cause st first second third session images frames takes splits block IndexFull le alive honest used some h = absurd cc
read_cause st first second third session images frames takes splits block LogFull le alive honest used some h = absurd cc
read_cause st first second third session images frames takes splits block TooTall le alive honest used some h = absurd cc
read_cause st first second third session images frames takes splits block fault le alive honest used some h = h

-- a lack of room after some calls is one from before these
pub no_room_later : (first second third : Backing) (images : List ℕ) → second.promised ≡ first.promised → lacks_room second third images ≡ true → lacks_room first third images ≡ true
no_room_later first second third images promised h = subst (λ (n : ℕ). (nat_le n (length images) && nat_lt third.room (count_new third.waiting images)) ≡ true) promised h

-- if nothing is written, there is room
pub room_for_none : (old new : Backing) → lacks_room old new [] ≡ true → ⊥
room_for_none old new h = (let k : new.room < 0 = ltb-true new.room 0 (and_parts (nat_le old.promised 0) (nat_lt new.room 0) h).1 in omega arith)

any_more : (waiting : List ℕ) (b block : ℕ) → list_any (λ c. c == block) waiting ≡ true → list_any (λ c. c == block) (waiting ++ b ∷ []) ≡ true
any_more [] b block h = absurd cc
any_more (c ∷ waiting) b block h = by (c == block) (any_more waiting b block) h
  where
    by : (here : Bool) → (list_any (λ c. c == block) waiting ≡ true → list_any (λ c. c == block) (waiting ++ b ∷ []) ≡ true)
        → (here || list_any (λ c. c == block) waiting) ≡ true → (here || list_any (λ c. c == block) (waiting ++ b ∷ [])) ≡ true
    by true more h = refl
    by false more h = more h

-- with one block more that waits, no more of these are new
fewer_new : (waiting : List ℕ) (b : ℕ) (blocks : List ℕ) → count_new (waiting ++ b ∷ []) blocks ≤ count_new waiting blocks
fewer_new waiting b [] = omega arith
fewer_new waiting b (block ∷ blocks) =
    by (list_any (λ c. c == block) waiting) (list_any (λ c. c == block) (waiting ++ b ∷ [])) (any_more waiting b block) (fewer_new waiting b blocks)
  where
    by : (was is : Bool) → (was ≡ true → is ≡ true) → count_new (waiting ++ b ∷ []) blocks ≤ count_new waiting blocks
        → (if is then count_new (waiting ++ b ∷ []) blocks else suc (count_new (waiting ++ b ∷ []) blocks)) ≤ (if was then count_new waiting blocks else suc (count_new waiting blocks))
    by true true on le = le
    by true false on le = absurd (let k : false ≡ true = on refl in cc)
    by false true on le = omega (arith, le)
    by false false on le = omega (arith, le)

-- an act puts no more blocks after those that wait than are new
few_wait : (waiting : List ℕ) (changed : List Page) → length (with_changed waiting changed) ≤ length waiting + count_new waiting (map (λ (page : Page). page.block) changed)
few_wait waiting [] = omega arith
few_wait waiting (page ∷ changed) = by (list_any (λ b. b == page.block) waiting) (few_wait waiting changed) (few_wait (waiting ++ page.block ∷ []) changed)
  where
    blocks : List ℕ
    blocks = map (λ (page : Page). page.block) changed

    by : (is : Bool) → length (with_changed waiting changed) ≤ length waiting + count_new waiting blocks
        → length (with_changed (waiting ++ page.block ∷ []) changed) ≤ length (waiting ++ page.block ∷ []) + count_new (waiting ++ page.block ∷ []) blocks
        → length (with_changed (if is then waiting else waiting ++ page.block ∷ []) changed) ≤ length waiting + (if is then count_new waiting blocks else suc (count_new waiting blocks))
    by true le more = le
    by false le more = omega (arith, more, fewer_new waiting page.block blocks, length-append waiting (page.block ∷ []))

length_map : {A B : Type 0} (f : A → B) (xs : List A) → length (map f xs) ≡ length xs
length_map f [] = refl
length_map f (x ∷ xs) = ap suc (length_map f xs)

-- what a store says of an act that it refuses is why it isn't done
pub acting_cause : (st : State) (old new : Backing) (changed : List Page) (fault : Fault) → (fault ≡ LogFull → HasNoRoomFor new changed) → HasCause (causes_of_acted st old new changed) fault
    → HasCause (causes_of_acting st old new changed) fault
acting_cause st old new changed LogFull full h =
    let none : length new.waiting + new.room < length (with_changed new.waiting changed) = full refl in
    let few = few_wait new.waiting changed in
    let many : old.promised ≤ length changed = leb-true old.promised (length changed) h in
    and_from (nat_le old.promised (length (map (λ (page : Page). page.block) changed))) (nat_lt new.room (count_new new.waiting (map (λ (page : Page). page.block) changed)))
    (le-leb old.promised _ (omega (arith, many, length_map (λ (page : Page). page.block) changed))) (lt-ltb new.room _ (omega (arith, none, few)))
acting_cause st old new changed Io full h = h
acting_cause st old new changed Stopped full h = h
acting_cause st old new changed NoFrame full h = h
acting_cause st old new changed (PageDamaged b) full h = h
acting_cause st old new changed (Blocked b) full h = h
acting_cause st old new changed fault full h = h

-- ... whatever it answers
pub acting_told : (st : State) (old new : Backing) (changed : List Page) (result : Result ℕ Fault) → (result ≡ Err LogFull → HasNoRoomFor new changed)
    → IfErr result (HasCause (causes_of_acted st old new changed))
    → IfErr result (HasCause (causes_of_acting st old new changed))
acting_told st old new changed (Ok number) full h = h
acting_told st old new changed (Err fault) full h = acting_cause st old new changed fault (λ is. full (ap Err is)) h

-- why an act of these blocks isn't done
pub act_cause : (st : State) (first second third : Backing) (session : ℕ) (images : List ℕ) (frames : ℕ) (takes splits : Bool) (changed : List Page) (fault : Fault)
    → first.failures ≤ second.failures → (second.stopped ≡ true → first.stopped ≡ true) → second.promised ≡ first.promised → map (λ (page : Page). page.block) changed ≡ images
    → count_apart (map (λ (page : Page). page.block) changed ++ pinned_blocks st.table) ≤ frames + count_apart (pinned_blocks st.table)
    → HasCause (causes_of_acting st second third changed) fault → HasCause (causes_of_working st first third session images frames takes splits) fault
act_cause st first second third session images frames takes splits changed Io le alive promised are short h = later_failed first second third le h
act_cause st first second third session images frames takes splits changed Stopped le alive promised are short h = or_before second.stopped (is_at_end st.acts) first.stopped alive h
act_cause st first second third session images frames takes splits changed LogFull le alive promised are short h =
    subst (λ (blocks : List ℕ). lacks_room first third blocks ≡ true) are (no_room_later first second third (map (λ (page : Page). page.block) changed) promised h)
act_cause st first second third session images frames takes splits changed NoFrame le alive promised are short h =
    let k : st.frames < count_apart (map (λ (page : Page). page.block) changed ++ pinned_blocks st.table) = ltb-true st.frames _ h in
    lt-ltb st.frames (frames + count_apart (pinned_blocks st.table)) (omega arith)
act_cause st first second third session images frames takes splits changed (PageDamaged b) le alive promised are short h = h
act_cause st first second third session images frames takes splits changed (Blocked b) le alive promised are short h = absurd cc
act_cause st first second third session images frames takes splits changed NoMemory le alive promised are short h = h
act_cause st first second third session images frames takes splits changed Exists le alive promised are short h = h
act_cause st first second third session images frames takes splits changed IndexFull le alive promised are short h = absurd cc
act_cause st first second third session images frames takes splits changed TooTall le alive promised are short h = absurd cc
act_cause st first second third session images frames takes splits changed fault le alive promised are short h = h

-- it needs a frame
pub frames_some : (images : List ℕ) → 1 ≤ frames_for images
frames_some [] = omega arith
frames_some (block ∷ images) = omega arith

few_frames : (images : List ℕ) → length images ≤ frames_for images
few_frames [] = omega arith
few_frames (block ∷ images) = omega arith

-- ... if each of them may need a frame
pub act_cause_of : (st : State) (first second third : Backing) (session : ℕ) (images : List ℕ) (takes splits : Bool) (changed : List Page) (fault : Fault)
    → first.failures ≤ second.failures → (second.stopped ≡ true → first.stopped ≡ true) → second.promised ≡ first.promised → map (λ (page : Page). page.block) changed ≡ images
    → HasCause (causes_of_acting st second third changed) fault → HasCause (causes_of_working st first third session images (frames_for images) takes splits) fault
act_cause_of st first second third session images takes splits changed fault le alive promised are h =
    act_cause st first second third session images (frames_for images) takes splits changed fault le alive promised are
    (let a = apart_few (map (λ (page : Page). page.block) changed) (pinned_blocks st.table) in
    let l : length (map (λ (page : Page). page.block) changed) ≡ length images = ap length are in
    let f = few_frames images in omega (arith, a, l, f)) h

-- another session holds the page
pub held_cause : (st : State) (first third : Backing) (session : ℕ) (images : List ℕ) (frames : ℕ) (takes splits : Bool) (block : ℕ) (mode : Mode) → (mode ≡ Shared) ⊎ (mode ≡ Exclusive)
    → is_held_by_another st.table session block mode ≡ true → HasCause (causes_of_working st first third session images frames takes splits) (Blocked block)
held_cause st first third session images frames takes splits block mode (inl is) h =
    or_left (is_held_by_another st.table session block Shared) _ (subst (λ (m : Mode). is_held_by_another st.table session block m ≡ true) is h)
held_cause st first third session images frames takes splits block mode (inr is) h =
    or_right (is_held_by_another st.table session block Shared) _ (subst (λ (m : Mode). is_held_by_another st.table session block m ≡ true) is h)

none_below : (st : State) (n : ℕ) → ((b : ℕ) → b < n → is_reusable st b ≡ false) → any_is_reusable st n ≡ false
none_below st zero none = refl
none_below st (suc n) none = rw (none n (omega arith), none_below st n (λ b lt. none b (omega arith))) refl

-- no block is free
pub full_cause : (st : State) (first third : Backing) (session : ℕ) (images : List ℕ) (frames : ℕ) (splits : Bool) → IsFull st
    → HasCause (causes_of_working st first third session images frames true splits) IndexFull
full_cause st first third session images frames splits full = rw (le-leb st.format.pages (length st.pages) full.used, none_below st (length st.pages) full.none) refl

-- the first number that is so, if none below is
first_is : (is : ℕ → Bool) (n at : ℕ) → ((b : ℕ) → b < at → is b ≡ false) → at ≤ n → (at < n → is at ≡ true) → first_below is n ≡ at
first_is is zero at none le so = omega arith
first_is is (suc n) at none le so = elim (cases_lt n at) [
  | inl over ↦ past (first_is is n n (λ b lt. none b (omega arith)) (omega arith) (λ lt. absurd (omega arith))) (none n over) ∙ (let k : suc n ≡ at = omega arith in k)
  | inr up ↦ (let found = first_is is n at none up (λ lt. so (omega (arith, lt))) in elim (cases_lt at n) [
    | inl below ↦ (let k = lt-ltb at n below in rw (found, k) refl)
    | inr same ↦ (let k : at ≡ n = omega arith in at_end found k)
  ])
]
  where
    past : first_below is n ≡ n → is n ≡ false → first_below is (suc n) ≡ suc n
    past found isnt = (let l = le-ltb n n (omega arith) in rw (found, l, isnt) refl)

    at_end : first_below is n ≡ at → at ≡ n → first_below is (suc n) ≡ at
    at_end found k = (let l = le-ltb n n (omega arith) in let yes : is n ≡ true = subst (λ (m : ℕ). is m ≡ true) k (so (omega (arith, k))) in rw (found, k, l, yes) refl)

-- a fresh block is that one
pub fresh_is : (st : State) (block : ℕ) → IsFresh st block → fresh_block st ≡ block
fresh_is st block fresh = first_is (is_reusable st) (length st.pages) block fresh.lowest fresh.within fresh.reusable

-- the log had stopped
pub stopped_cause : (st : State) (first third : Backing) (session : ℕ) (images : List ℕ) (frames : ℕ) (takes splits : Bool) → first.stopped ≡ true
    → HasCause (causes_of_working st first third session images frames takes splits) Stopped
stopped_cause st first third session images frames takes splits h = or_left first.stopped (is_at_end st.acts) h

-- what two readings leave of the room
pub keeps_room_on : (st : State) (first second third : Backing) → first.durable ≤ second.durable → second.durable ≤ st.acts
    → KeepsRoom st first second → KeepsRoom st second third → KeepsRoom st first third
keeps_room_on st first second third up few one two = record {
  promised = two.promised ∙ one.promised;
  idle = λ h. two.idle (omega (arith, h)) ∙ one.idle h;
}

-- what is a cause if some calls were made before is one from before these
pub working_later : (st : State) (first second third : Backing) (session : ℕ) (images : List ℕ) (frames : ℕ) (takes splits : Bool) (fault : Fault)
    → first.failures ≤ second.failures → (second.stopped ≡ true → first.stopped ≡ true) → second.promised ≡ first.promised
    → HasCause (causes_of_working st second third session images frames takes splits) fault → HasCause (causes_of_working st first third session images frames takes splits) fault
working_later st first second third session images frames takes splits Io le alive promised h = later_failed first second third le h
working_later st first second third session images frames takes splits Stopped le alive promised h = or_before second.stopped (is_at_end st.acts) first.stopped alive h
working_later st first second third session images frames takes splits LogFull le alive promised h = no_room_later first second third images promised h
working_later st first second third session images frames takes splits (Blocked b) le alive promised h = h
working_later st first second third session images frames takes splits (PageDamaged b) le alive promised h = h
working_later st first second third session images frames takes splits fault le alive promised h = h

-- one of these blocks is pinned, so it needs no frame more
pub apart_pinned : (block : ℕ) (blocks pins : List ℕ) → has_pin pins block ≡ true → count_apart (block ∷ blocks ++ pins) ≤ length blocks + count_apart pins
apart_pinned block blocks pins pin = subst (λ (c : Bool). (if c then count_apart (blocks ++ pins) else suc (count_apart (blocks ++ pins))) ≤ length blocks + count_apart pins)
    (sym (pin_among blocks)) (apart_few blocks pins)
  where
    pin_among : (bs : List ℕ) → has_pin (bs ++ pins) block ≡ true
    pin_among [] = pin
    pin_among (b ∷ bs) = or_right (b == block) (has_pin (bs ++ pins) block) (pin_among bs)

-- ... and a page that is pinned already is read without another frame
pub read_pinned_cause : (st : State) (first third : Backing) (session : ℕ) (images : List ℕ) (frames : ℕ) (takes splits : Bool) (block : ℕ) (fault : Fault)
    → third.honest ≡ true → block < length st.pages → has_pin (pinned_blocks st.table) block ≡ true
    → HasCause (causes_of_read st first third block) fault → HasCause (causes_of_working st first third session images frames takes splits) fault
read_pinned_cause st first third session images frames takes splits block Io honest used pin h = h
read_pinned_cause st first third session images frames takes splits block Stopped honest used pin h = or_left first.stopped (is_at_end st.acts) h
read_pinned_cause st first third session images frames takes splits block NoFrame honest used pin h =
    let few = apart_pinned block [] (pinned_blocks st.table) pin in
    let k : st.frames < count_apart (block ∷ pinned_blocks st.table) = ltb-true st.frames _ h in
    lt-ltb st.frames (frames + count_apart (pinned_blocks st.table)) (omega (arith, few, k))
read_pinned_cause st first third session images frames takes splits block (PageDamaged b) honest used pin h =
    absurd (in_use_read block (length st.pages) third.honest honest used
    (let p = and_parts (b == block) (not third.honest || nat_le (length st.pages) block) h in p.1))
read_pinned_cause st first third session images frames takes splits block (Blocked b) honest used pin h = absurd cc
read_pinned_cause st first third session images frames takes splits block IndexFull honest used pin h = absurd cc
read_pinned_cause st first third session images frames takes splits block LogFull honest used pin h = absurd cc
read_pinned_cause st first third session images frames takes splits block TooTall honest used pin h = absurd cc
read_pinned_cause st first third session images frames takes splits block fault honest used pin h = h

-- ... if the calls before them left the state and the backing as they were
pub rooms_kept : (st started mid : State) (first begun second third : Backing) → started ≡ st → mid ≡ started → begun ≡ first → IsLater begun second → second.durable ≤ mid.acts
    → KeepsRoom started begun second → KeepsRoom mid second third → KeepsRoom st first third
rooms_kept st started mid first begun second third is_st is_mid was later few one two =
    keeps_room_on st first second third (subst (λ (b : Backing). b.durable ≤ second.durable) was later.durable)
    (subst (λ (s : State). second.durable ≤ s.acts) (is_mid ∙ is_st) few)
    (subst (λ (s : State). KeepsRoom s first second) is_st (subst (λ (b : Backing). KeepsRoom started b second) was one))
    (subst (λ (s : State). KeepsRoom s second third) (is_mid ∙ is_st) two)

-- two blocks are these, one by one
pub two_are : (a b c d : ℕ) → a ≡ c → b ≡ d → a ∷ b ∷ [] ≡ c ∷ d ∷ []
two_are a b c d one two = rw (one, two) refl
