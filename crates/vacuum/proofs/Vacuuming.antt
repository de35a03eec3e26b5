-- What reading one page leaves of what is due: it is to come still, except for what stood on that page.
use Rattle.std.proofs.Common.{◌≡◌, ◌≢◌, ◌⊎◌, ℕ, suc, ◌<◌, ◌≤◌, inl, inr, Bool, true, false, Option, Some, None, List, [], ◌∷◌, length, slice_get, refl, sym, ap, subst, ◌∙◌, arith}
use Rattle.vacuum.proofs.Imports.{cases_eq, cases_lt, is_among, Entry, entries_of, Items, Meta, Entries, Downlinks, Page, PageState, Live, HalfDead, Deleted, live_entries, is_on, or_cases, slice_get_within}
use Rattle.vacuum.proofs.Imports.{entry_on_live_leaf, State, IsLeafAt, WasLeaf, next_block, last_read, cursor_past, IsSibling, BlockIsToCome, ahead, sibling, led, WentBackFromLeaf}
use Rattle.vacuum.proofs.Imports.{DueIsToCome, LeadsBack, Backtrack}

-- the page that was read leads on as it does, and no other page is changed
pub record IsReadOn (st new : State) (cursor : ℕ) (backtrack next_page : Option Backtrack) : Type 0 where
  pub cycle : new.cycle ≡ st.cycle
  pub others : (b : ℕ) → b ≢ next_block cursor backtrack → slice_get new.pages b ≡ slice_get st.pages b
  pub stays : (page : Page) → IsLeafAt st.pages (next_block cursor backtrack) page → WasLeaf new.pages (next_block cursor backtrack)
  pub turn : (page : Page) (block : ℕ) → IsLeafAt st.pages (next_block cursor backtrack) page → LeadsBack st.cycle (last_read cursor backtrack) page block → IsSibling next_page block
  pub from : (b : Backtrack) → next_page ≡ Some b → (b.from ≡ last_read cursor backtrack) × WasLeaf st.pages (next_block cursor backtrack)

last_falls : (st : State) (cursor : ℕ) (backtrack next_page : Option Backtrack) (block : ℕ) → WentBackFromLeaf st cursor backtrack → ((b : Backtrack) → next_page ≡ Some b → b.from ≡ last_read cursor backtrack)
    → block < last_read cursor backtrack → block < last_read (cursor_past cursor backtrack) next_page
last_falls st cursor backtrack (Some b) block went same below = rw (same b refl) below
last_falls st cursor None None block went same below = omega (arith, below)
last_falls st cursor (Some c) None block went same below = omega (arith, below, went.0)

module _ (st new : State) (cursor : ℕ) (backtrack next_page : Option Backtrack) (went : WentBackFromLeaf st cursor backtrack) (read : IsReadOn st new cursor backtrack next_page) where
  here : ℕ
  here = next_block cursor backtrack

  begins : (c : Option Backtrack) (b : ℕ) → cursor ≤ b → (b ≡ next_block cursor c) ⊎ (cursor_past cursor c ≤ b)
  begins None b le = elim (cases_lt cursor b) [ inl lt ↦ inr lt | inr ge ↦ inl (omega (arith, le, ge)) ]
  begins (Some c) b le = inr le

  is_here : (c : Option Backtrack) (b : ℕ) → IsSibling c b → b ≡ next_block cursor c
  is_here None b h = absurd h
  is_here (Some c) b h = h

  pub comes_on : {block : ℕ} → BlockIsToCome st cursor backtrack block → (block ≡ next_block cursor backtrack) ⊎ BlockIsToCome new (cursor_past cursor backtrack) next_page block
  comes_on (ahead {block} le) = elim (begins backtrack block le) [ inl same ↦ inl same | inr past ↦ inr (ahead past) ]
  comes_on (sibling {block} is) = inl (is_here backtrack block is)
  comes_on (led {from} {block} page at carries right below rest) = onto from block page at carries right below (comes_on rest)
    where
      onto : (from block : ℕ) (page : Page) → IsLeafAt st.pages from page → page.cycle ≡ st.cycle → page.right ≡ Some block → block < last_read cursor backtrack
          → (from ≡ next_block cursor backtrack) ⊎ BlockIsToCome new (cursor_past cursor backtrack) next_page from → (block ≡ next_block cursor backtrack) ⊎ BlockIsToCome new (cursor_past cursor backtrack) next_page block
      onto from block page at carries right below now = elim (cases_eq from (next_block cursor backtrack)) [
        | inl same ↦ inr (sibling (read.turn page block (subst (λ (b : ℕ). IsLeafAt st.pages b page) same at) (record { carries = carries; right_is = right; below = below })))
        | inr differ ↦ elim now [
          | inl same ↦ absurd (differ same)
          | inr later ↦ inr (led page (record { found = read.others from differ ∙ at.found; alive = at.alive; leaf = at.leaf }) (carries ∙ sym read.cycle) right
              (last_falls st cursor backtrack next_page block went (λ b is. (read.from b is).0) below) later)
        ]
      ]

  leaf_lasts : (b : ℕ) → WasLeaf st.pages b → WasLeaf new.pages b
  leaf_lasts b was = elim (cases_eq b (next_block cursor backtrack)) [
    | inl same ↦ subst (λ (k : ℕ). WasLeaf new.pages k) (sym same) (read.stays was.page (subst (λ (k : ℕ). IsLeafAt st.pages k was.page) same was.was))
    | inr differ ↦ record { page = was.page; was = record { found = read.others b differ ∙ was.was.found; alive = was.was.alive; leaf = was.was.leaf } }
  ]

  from_lasts : (c : Option Backtrack) → WentBackFromLeaf st cursor c → (next : Option Backtrack) → ((b : Backtrack) → next ≡ Some b → (b.from ≡ last_read cursor c) × WasLeaf st.pages (next_block cursor c))
      → WentBackFromLeaf new (cursor_past cursor c) next
  from_lasts c h None is = tt
  from_lasts None h (Some b) is = (let k = is b refl in (ap suc k.0, leaf_lasts b.from (subst (WasLeaf st.pages) (sym k.0) k.1)))
  from_lasts (Some c) h (Some b) is = (let k = is b refl in (ap suc k.0 ∙ h.0, leaf_lasts b.from (subst (WasLeaf st.pages) (sym k.0) h.1)))

  pub due_comes_on : (due : Entry → Bool) → DueIsToCome due st cursor backtrack
      → ((page : Page) (e : Entry) → IsLeafAt new.pages (next_block cursor backtrack) page → is_among (entries_of page.items) e ≡ true → due e ≡ true → ⊥)
      → DueIsToCome due new (cursor_past cursor backtrack) next_page
  due_comes_on due h clean = record {
    from = from_lasts backtrack went next_page read.from;
    to_come = λ block page e at on is_due. elim (cases_eq block (next_block cursor backtrack)) [
      | inl same ↦ absurd (clean page e (subst (λ (k : ℕ). IsLeafAt new.pages k page) same at) on is_due)
      | inr differ ↦ elim (comes_on (h.to_come block page e (record { found = sym (read.others block differ) ∙ at.found; alive = at.alive; leaf = at.leaf }) on is_due)) [
        | inl same ↦ absurd (differ same)
        | inr later ↦ later
      ]
    ];
  }

-- an entry of the contents is on a live leaf
pub record IsOnLeaf (pages : List Page) (e : Entry) : Type 0 where
  pub block : ℕ
  pub page : Page
  pub at : IsLeafAt pages block page
  pub on : is_among (entries_of page.items) e ≡ true

on_leaf_up : (first : Page) (pages : List Page) (e : Entry) → IsOnLeaf pages e → IsOnLeaf (first ∷ pages) e
on_leaf_up first pages e h = record { block = suc h.block; page = h.page; at = record { found = h.at.found; alive = h.at.alive; leaf = h.at.leaf }; on = h.on }

on_first : (page : Page) (pages : List Page) (e : Entry) → is_on page e ≡ true → IsOnLeaf (page ∷ pages) e
on_first page pages e on = by page.state page.items refl refl on
  where
    by : (s : PageState) (items : Items) → page.state ≡ s → page.items ≡ items → is_among (live_entries s items) e ≡ true → IsOnLeaf (page ∷ pages) e
    by Live Meta s is on = absurd cc
    by Live (Downlinks v) s is on = absurd cc
    by Live (Entries v) s is on = record { block = 0; page = page; at = record { found = refl; alive = s; leaf = rw is tt }; on = rw is on }
    by HalfDead items s is on = absurd cc
    by Deleted items s is on = absurd cc

pub on_leaf : (pages : List Page) (e : Entry) → entry_on_live_leaf pages e ≡ true → IsOnLeaf pages e
on_leaf [] e h = absurd cc
on_leaf (page ∷ pages) e h = elim (or_cases (is_on page e) (entry_on_live_leaf pages e) h) [
  | inl on ↦ on_first page pages e on
  | inr later ↦ on_leaf_up page pages e (on_leaf pages e later)
]

-- at the end no block in use is to come
pub none_comes : (st : State) (cursor : ℕ) {block : ℕ} → length st.pages ≤ cursor → BlockIsToCome st cursor None block → length st.pages ≤ block
none_comes st cursor last (ahead le) = omega (arith, last, le)
none_comes st cursor last (sibling is) = absurd is
none_comes st cursor last (led {from} page at carries right below rest) = absurd (let i = slice_get_within st.pages from page at.found in let past = none_comes st cursor last rest in omega (arith, i, past))

pub none_is_due : (due : Entry → Bool) (st : State) (cursor : ℕ) → length st.pages ≤ cursor → DueIsToCome due st cursor None → (e : Entry) → due e ≡ true → entry_on_live_leaf st.pages e ≡ false
none_is_due due st cursor last h e is_due = by (entry_on_live_leaf st.pages e) refl
  where
    by : (w : Bool) → entry_on_live_leaf st.pages e ≡ w → entry_on_live_leaf st.pages e ≡ false
    by false is = is
    by true is =
        let o = on_leaf st.pages e is in
        let past = none_comes st cursor last (h.to_come o.block o.page e o.at o.on is_due) in
        let i = slice_get_within st.pages o.block o.page o.at.found in
        absurd (omega (arith, i, past))
