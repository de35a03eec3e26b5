-- What a bulk delete removes, as one list of entries, each once; and how many entries there are at most.
use Rattle.std.proofs.Common.{◌≡◌, ℕ, suc, zero, ◌+◌, ◌*◌, ◌≤◌, Bool, true, false, true≢false, not, ◌&&◌, ◌||◌, Option, Some, None, List, [], ◌∷◌, ◌++◌, length, slice_get, take, refl, sym, ap, subst, arith, inl, inr, ◌∙◌, length-append, append_assoc, if◌then◌else◌, unwrap_or}
use Rattle.std.specs.Cmp.{IsEquivalence}
use Rattle.std.specs.List.{AllByRecursion, IsDistinct}
use Rattle.std.specs.Set.{is_member}
use Rattle.std.proofs.lemmas.Map.Made.{length-le_from_is_member}
use Rattle.index_model.specs.Order.{IsAscending, AscendsPast, is_among, is_past, bound_of, same_entry}
use Rattle.index_model.proofs.Ascending.{same_entry-is, same_entry-self, same_entry-sym, is_past-trans, is_past-not_same, is_among-append}
use Rattle.index_model.proofs.Histories.{contents_after-append}
use Rattle.page_codec.specs.Spelling.{count_of}
use Rattle.page_codec.specs.declared.page.Items.{Items}
use Rattle.page_codec.specs.declared.page.Items.TheVariants.{Meta, Entries, Downlinks}
use Rattle.page_codec.specs.declared.page.PageState.{PageState}
use Rattle.page_action.specs.Stored.{AreStored}
use Rattle.whole_calls.proofs.Imports.{or_cases, eq-eqb, append-nil, take_at, Row, Live, HalfDead, Deleted, live_entries, is_on, entry_on_live_leaf, entry_count, entries_below, get_append_new}
use Rattle.whole_calls.proofs.Imports.{get_append_some, get_within, same_some, Effect, Add, Remove, Shape, Action, contents_after, AskBulkDelete, Call, removed_count, removed_by, MayAct}
use Rattle.whole_calls.proofs.Imports.{ActionsAreOwned, Entry, Format, Page, removed_of, acts_by}
use Rattle.whole_calls.proofs.Refusing.{or_left, or_right, or_none}

-- entries are one or apart

both_ways : (a b : Bool) → (a ≡ true → b ≡ true) → (b ≡ true → a ≡ true) → a ≡ b
both_ways true b f k = sym (f refl)
both_ways false true f k = k refl
both_ways false false f k = refl

same_flips : (x y : Entry) → same_entry x y ≡ same_entry y x
same_flips x y = both_ways (same_entry x y) (same_entry y x) (same_entry-sym x y) (same_entry-sym y x)

entries_compare : IsEquivalence same_entry
entries_compare = record { refl = same_entry-self; symm = same_flips; congr = λ x y z h. ap (λ (e : Entry). same_entry e z) (same_entry-is x y h) }

member_is : (xs : List Entry) (e : Entry) → is_member same_entry xs e ≡ is_among xs e
member_is [] e = refl
member_is (x ∷ xs) e = ap (λ (b : Bool). b || is_member same_entry xs e) (same_flips e x) ∙ ap (λ (b : Bool). same_entry x e || b) (member_is xs e)

apart_from : (x : Entry) (xs : List Entry) → is_among xs x ≡ false → AllByRecursion (λ y. same_entry x y ≡ false) xs
apart_from x [] h = tt
apart_from x (y ∷ ys) h = (let n = or_none (same_entry y x) (is_among ys x) h in (same_flips x y ∙ n.0, apart_from x ys n.1))

all_both : {X : Type 0} (P : X → Type 0) (xs ys : List X) → AllByRecursion P xs → AllByRecursion P ys → AllByRecursion P (xs ++ ys)
all_both P [] ys a b = b
all_both P (x ∷ xs) ys a b = (a.0, all_both P xs ys a.1 b)

distinct_both : (xs ys : List Entry) → IsDistinct same_entry xs → IsDistinct same_entry ys → ((e : Entry) → is_among xs e ≡ true → is_among ys e ≡ false) → IsDistinct same_entry (xs ++ ys)
unfolding IsDistinct
distinct_both [] ys dx dy apart = dy
distinct_both (x ∷ xs) ys dx dy apart = (
  all_both (λ y. same_entry x y ≡ false) xs ys dx.0 (apart_from x ys (apart x (or_left (same_entry x x) (is_among xs x) (same_entry-self x)))),
  distinct_both xs ys dx.1 dy (λ e h. apart e (or_right (same_entry x e) (is_among xs e) h)),
)

-- ascending entries are apart
from_further : (a e : Entry) (es : List Entry) → is_past (bound_of a) e ≡ true → AscendsPast (Some (bound_of e)) es → AscendsPast (Some (bound_of a)) es
from_further a e [] past h = tt
from_further a e (f ∷ fs) past h = (is_past-trans (bound_of a) e f past h.0, h.1)

past_all : (a : Entry) (es : List Entry) → AscendsPast (Some (bound_of a)) es → AllByRecursion (λ y. same_entry a y ≡ false) es
past_all a [] h = tt
past_all a (e ∷ es) h = (is_past-not_same a e h.0, past_all a es (from_further a e es h.0 h.1))

distinct_ascending : (es : List Entry) → IsAscending es → IsDistinct same_entry es
unfolding IsDistinct
distinct_ascending [] h = tt
distinct_ascending (e ∷ es) h = (past_all e es h.1, distinct_ascending es (ascending_tail es h.1))
  where
    ascending_tail : (fs : List Entry) → AscendsPast (Some (bound_of e)) fs → IsAscending fs
    ascending_tail [] k = tt
    ascending_tail (f ∷ fs) k = (tt, k.1)

-- actions of a bulk delete, one after the other

abbrev act_of : ℕ → Effect → Action
act_of number effect = record { by = number; effect = effect }

-- it removes entries that are there, ascending
abbrev pub RemovesThere : (Entry → Bool) → Effect → Type 0
RemovesThere was (Add e) = ⊥
RemovesThere was (Remove es) = IsAscending es × ((e : Entry) → is_among es e ≡ true → was e ≡ true)
RemovesThere was Shape = ⊥

abbrev pub RemoveThere : (Entry → Bool) → ℕ → List Action → List Effect → Type 0
RemoveThere start number history [] = Unit {0}
RemoveThere start number history (effect ∷ effects) = RemovesThere (contents_after start history) effect × RemoveThere start number (history ++ act_of number effect ∷ []) effects

-- after one Remove more
after_remove : (start : Entry → Bool) (history : List Action) (number : ℕ) (es : List Entry) (e : Entry)
    → contents_after start (history ++ act_of number (Remove es) ∷ []) e ≡ (contents_after start history e && not (is_among es e))
after_remove start history number es e = contents_after-append start history (act_of number (Remove es) ∷ []) e ∙ of (is_among es e) (contents_after start history e)
  where
    of : (b was : Bool) → unwrap_or (if b then Some false else None) was ≡ (was && not b)
    of true true = refl
    of true false = refl
    of false true = refl
    of false false = refl

module _ (start : Entry → Bool) (number : ℕ) where
  and_apart : (a b c : Bool) → ((a && not b) && not c) ≡ (a && not (b || c))
  and_apart true true c = refl
  and_apart true false c = refl
  and_apart false b c = refl

  and_first : (a b : Bool) → (a && b) ≡ true → a ≡ true
  and_first true b h = refl
  and_first false b h = absurd cc

  and_all : (a : Bool) → (a && not false) ≡ a
  and_all true = refl
  and_all false = refl

  -- what they leave
  pub left_by_all : (history : List Action) (effects : List Effect) → RemoveThere start number history effects → (e : Entry)
      → contents_after start (history ++ acts_by number effects) e ≡ (contents_after start history e && not (is_among (removed_of effects) e))
  left_by_all history [] apt e = ap (λ (l : List Action). contents_after start l e) (append-nil history) ∙ sym (and_all (contents_after start history e))
  left_by_all history (Remove es ∷ effects) apt e =
      ap (λ (l : List Action). contents_after start l e) (sym (append_assoc history (act_of number (Remove es) ∷ []) (acts_by number effects)))
      ∙ left_by_all (history ++ act_of number (Remove es) ∷ []) effects apt.1 e
      ∙ ap (λ (b : Bool). b && not (is_among (removed_of effects) e)) (after_remove start history number es e)
      ∙ and_apart (contents_after start history e) (is_among es e) (is_among (removed_of effects) e)
      ∙ ap (λ (b : Bool). contents_after start history e && not b) (sym (is_among-append es (removed_of effects) e))
  left_by_all history (effect ∷ effects) apt e = absurd apt.0

  -- all were there
  pub all_were : (history : List Action) (effects : List Effect) → RemoveThere start number history effects → (e : Entry)
      → is_among (removed_of effects) e ≡ true → contents_after start history e ≡ true
  all_were history [] apt e h = absurd (true≢false (sym h))
  all_were history (Remove es ∷ effects) apt e h = elim (or_cases (is_among es e) (is_among (removed_of effects) e) (sym (is_among-append es (removed_of effects) e) ∙ h)) [
    | inl here ↦ apt.0.1 e here
    | inr later ↦ and_first (contents_after start history e) (not (is_among es e))
        (sym (after_remove start history number es e) ∙ all_were (history ++ act_of number (Remove es) ∷ []) effects apt.1 e later)
  ]
  all_were history (effect ∷ effects) apt e h = absurd apt.0

  -- none is removed twice
  pub all_once : (history : List Action) (effects : List Effect) → RemoveThere start number history effects → IsDistinct same_entry (removed_of effects)
  unfolding IsDistinct
  all_once history [] apt = tt
  all_once history (Add x ∷ effects) apt = absurd apt.0
  all_once history (Shape ∷ effects) apt = absurd apt.0
  all_once history (Remove es ∷ effects) apt =
      distinct_both es (removed_of effects) (distinct_ascending es apt.0.0) (all_once (history ++ act_of number (Remove es) ∷ []) effects apt.1)
      (λ e here. gone e here (is_among (removed_of effects) e) refl)
    where
      gone : (e : Entry) → is_among es e ≡ true → (b : Bool) → is_among (removed_of effects) e ≡ b → is_among (removed_of effects) e ≡ false
      gone e here false is = is
      gone e here true is = absurd (
          let there = sym (after_remove start history number es e) ∙ all_were (history ++ act_of number (Remove es) ∷ []) effects apt.1 e is in
          let no_more : (contents_after start history e && not (is_among es e)) ≡ false = ap (λ (b : Bool). contents_after start history e && not b) here ∙ none (contents_after start history e) in
          true≢false (sym there ∙ no_more))
        where
          none : (a : Bool) → (a && not true) ≡ false
          none true = refl
          none false = refl

  mine : (effect : Effect) (effects : List Effect) → removed_by number (acts_by number (effect ∷ effects)) ≡ removed_count effect + removed_by number (acts_by number effects)
  mine effect effects = ap (λ (b : Bool). (if b then removed_count effect else 0) + removed_by number (acts_by number effects)) (eq-eqb number number refl)

  -- and they are as many as are counted
  pub all_counted : (effects : List Effect) → removed_by number (acts_by number effects) ≡ length (removed_of effects)
  all_counted [] = refl
  all_counted (Add x ∷ effects) = (let k = all_counted effects in let m = mine (Add x) effects in omega (arith, k, m))
  all_counted (Remove es ∷ effects) =
      let k = all_counted effects in
      let m = mine (Remove es) effects in
      let a = length-append es (removed_of effects) in
      omega (arith, k, m, a)
  all_counted (Shape ∷ effects) = (let k = all_counted effects in let m = mine Shape effects in omega (arith, k, m))

-- its actions are owned: so each removes entries that were there
pub remove_there : (start : Entry → Bool) (number : ℕ) (calls : List Call) (call : Call) (dead : Row → Bool) → slice_get calls number ≡ Some call → call.ask ≡ AskBulkDelete dead
    → (history whole : List Action) (effects : List Effect) → whole ≡ history ++ acts_by number effects → ActionsAreOwned start whole calls → RemoveThere start number history effects
remove_there start number calls call dead found ask history whole [] is owned = tt
remove_there start number calls call dead found ask history whole (effect ∷ effects) is owned =
    let at : slice_get whole (length history) ≡ Some (act_of number effect) = ap (λ (l : List Action). slice_get l (length history)) is
    ∙ get_at history (act_of number effect) (acts_by number effects) in
    let own = owned (length history) (act_of number effect) at in
    let same : own.call ≡ call = same_some (slice_get calls number) own.call call own.found found in
    let was : (e : Entry) → contents_after start (take (length history) whole) e ≡ contents_after start history e =
    λ e. ap (λ (l : List Action). contents_after start l e)
    (ap (λ (l : List Action). take (length history) l) is ∙ take_at history (act_of number effect ∷ acts_by number effects) (length history) refl) in (
      of effect (subst (λ (c : Call). MayAct (λ e. contents_after start (take (length history) whole) e) (suc (length history)) effect c.ask c.added) same own.may) was,
      remove_there start number calls call dead found ask (history ++ act_of number effect ∷ []) whole effects
          (is ∙ sym (append_assoc history (act_of number effect ∷ []) (acts_by number effects))) owned,
    )
  where
    of : (e : Effect) → MayAct (λ x. contents_after start (take (length history) whole) x) (suc (length history)) e call.ask call.added
        → ((x : Entry) → contents_after start (take (length history) whole) x ≡ contents_after start history x) → RemovesThere (contents_after start history) e
    of (Add x) may was = absurd (rw ask at may)
    of Shape may was = absurd (rw ask at may)
    of (Remove es) may was =
        (let m : MayAct (λ x. contents_after start (take (length history) whole) x) (suc (length history)) (Remove es) (AskBulkDelete dead)
        call.added = rw ask at may in (m.1, λ x among. sym (was x) ∙ (m.2 x among).1))

    get_at : (l : List Action) (a : Action) (m : List Action) → slice_get (l ++ a ∷ m) (length l) ≡ Some a
    get_at l a m = ap (λ (k : List Action). slice_get k (length l)) (sym (append_assoc l (a ∷ []) m)) ∙ get_append_some (l ++ a ∷ []) m (length l) a (get_append_new l a)

-- how many entries there are

all_entries : List Page → List Entry
all_entries [] = []
all_entries (page ∷ pages) = live_entries page.state page.items ++ all_entries pages

among_all : (pages : List Page) (e : Entry) → is_among (all_entries pages) e ≡ entry_on_live_leaf pages e
unfolding all_entries
among_all [] e = refl
among_all (page ∷ pages) e = is_among-append (live_entries page.state page.items) (all_entries pages) e ∙ ap (λ (b : Bool). is_on page e || b) (among_all pages e)

live_few : (state : PageState) (items : Items) → length (live_entries state items) ≤ count_of items
live_few Live Meta = omega arith
live_few Live (Entries v) = omega arith
live_few Live (Downlinks v) = omega arith
live_few HalfDead items = omega arith
live_few Deleted items = omega arith

all_few : (format : Format) (block : ℕ) (pages : List Page) → format.items ≤ 50 → AreStored format block pages → length (all_entries pages) ≤ 50 * length pages
unfolding all_entries
all_few format block [] low stored = omega arith
all_few format block (page ∷ pages) low stored =
    let a = length-append (live_entries page.state page.items) (all_entries pages) in
    let here = live_few page.state page.items in
    let few = stored.0.storable.few in
    let rest = all_few format (suc block) pages low stored.1 in
    omega (arith, a, here, few, rest, low)

one_few : (format : Format) (block : ℕ) (pages : List Page) (i : ℕ) → format.items ≤ 50 → AreStored format block pages → entry_count (slice_get pages i) ≤ 50
one_few format block [] i low stored = omega arith
one_few format block (page ∷ pages) zero low stored = (let here = live_few page.state page.items in let few = stored.0.storable.few in omega (arith, here, few, low))
one_few format block (page ∷ pages) (suc i) low stored = one_few format (suc block) pages i low stored.1

below_few : (format : Format) (pages : List Page) (n : ℕ) → format.items ≤ 50 → AreStored format 0 pages → n ≤ length pages → entries_below pages n ≤ 50 * n
below_few format pages zero low stored within = omega arith
below_few format pages (suc n) low stored within =
    let here = one_few format 0 pages n low stored in
    let rest = below_few format pages n low stored (omega (arith, within)) in
    omega (arith, here, rest)

pub entries_few : (format : Format) (pages : List Page) (n : ℕ) → format.items ≤ 50 → AreStored format 0 pages → entries_below pages n ≤ 50 * length pages
entries_few format pages zero low stored = omega arith
entries_few format pages (suc n) low stored = of (slice_get pages n) (entries_few format pages n low stored) refl
  where
    of : (o : Option Page) → entries_below pages n ≤ 50 * length pages → slice_get pages n ≡ o → entries_below pages (suc n) ≤ 50 * length pages
    of None rest at =
        let none : entry_count (slice_get pages n) ≡ 0 = ap entry_count at in
        omega (arith, none, rest)
    of (Some page) rest at =
        let within = get_within pages n page at in
        let all = below_few format pages (suc n) low stored (omega (arith, within)) in
        omega (arith, all, within)

-- what was removed of these pages' entries is not more than they have
pub removed_few : (format : Format) (pages : List Page) (gone : List Entry) → format.items ≤ 50 → AreStored format 0 pages
    → IsDistinct same_entry gone → ((e : Entry) → is_among gone e ≡ true → entry_on_live_leaf pages e ≡ true)
    → length gone ≤ 50 * length pages
removed_few format pages gone low stored once were =
    let all = all_few format 0 pages low stored in
    let few = length-le_from_is_member entries_compare gone (all_entries pages) once (λ e h. member_is (all_entries pages) e ∙ among_all pages e ∙ were e (sym (member_is gone e) ∙ h)) in
    omega (arith, all, few)
