-- An insert on its way to its leaf.
use Rattle.std.proofs.Common.{[], ◌≡◌, ℕ, ◌<◌, ◌≤◌, Bool, true, false, true≢false, Option, Some, None, List, length, slice_get, refl, sym, subst, inl, inr, ◌∙◌, arith}
use Rattle.page_codec.specs.declared.page.PageState.{PageState}
use Rattle.tree_shape.proofs.Shown.{places_keep_their_level}
use Rattle.tree_acts.proofs.Lasting.{deleted_in_use}
use Rattle.tree_acts.proofs.Words.{place_in}
use Rattle.descent.specs.declared.position.NextPage.{NextPage}
use Rattle.insert_split.proofs.Imports.{HasCause, IsUpTo, bound_of, Bound, Entry, Fault, Blocked, PageDamaged, Exists, KeyExists, Io, Stopped, IndexFull, LogFull, NoFrame, TooTall, Holding, not-true}
use Rattle.insert_split.proofs.Imports.{HasRoom, holding_of, nothing_held, HasEntries, IsSome, IsPage, IsOfKind, IsLeafIn, Items, Meta, Entries, Downlinks, Page, Live, HalfDead, Deleted, State}
use Rattle.insert_split.proofs.Imports.{Backing, nodes_of, entry_aim, bound_aim, is_within, is_fit, HasTree, LeadsTo, IsOnDescent, LeadsToNext, IsInOrder, causes_of_working, Position}
use Rattle.insert_split.proofs.Imports.{InsertInvariant, InsertStands, IsToCome, causes_of_inserting, InsertAt, Coming, At, InsertOp}

-- a place is a block in use
pub place_in_use : (st : State) (tree : HasTree st) (start level : ℕ) (aim : Bound → Bool) (clear : Bool) (block : ℕ) → LeadsTo st start level aim clear block
    → (0 < block) × (block < length st.pages)
place_in_use st tree start level aim clear block place =
    let p = place_in st tree.tree start level aim clear block place in
    elim (places_keep_their_level (nodes_of st.pages) (_) (length st.pages) tree.tree.root tree.tree.meta.level tree.tree.chain level start (is_fit aim clear) block tree.tree.is p.in_tree p.place) [
      | inl gone ↦ deleted_in_use st tree block gone
      | inr on ↦ tree.tree.is.in_use level block p.in_tree on.1
    ]

pub room_free : (st : State) (session : ℕ) → holding_of st.table session ≡ nothing_held → HasRoom st.table session
room_free st session free = subst (λ (h : Holding). length h.latches < 8) (sym free) (omega arith)

-- the causes of a step that only reads are those of an insert there
pub as_inserting : (st : State) (old new : Backing) (session : ℕ) (e : Entry) (at : InsertAt) (images : List ℕ) (frames : ℕ) (takes splits : Bool) (fault : Fault)
    → causes_of_inserting st old new session e at ≡ record (causes_of_working st old new session images frames takes splits) {
      entry_was_there = (causes_of_inserting st old new session e at).entry_was_there;
      key_was_there = (causes_of_inserting st old new session e at).key_was_there;
    }
    → HasCause (causes_of_working st old new session images frames takes splits) fault → HasCause (causes_of_inserting st old new session e at) fault
as_inserting st old new session e at images frames takes splits fault same h = rw same (by fault h)
  where
    by : (f : Fault) → HasCause (causes_of_working st old new session images frames takes splits) f
        → HasCause (record (causes_of_working st old new session images frames takes splits) {
          entry_was_there = (causes_of_inserting st old new session e at).entry_was_there;
          key_was_there = (causes_of_inserting st old new session e at).key_was_there;
        }) f
    by Exists h = absurd cc
    by (KeyExists r) h = absurd cc
    by Io h = h
    by Stopped h = h
    by (Blocked b) h = h
    by IndexFull h = h
    by LogFull h = h
    by NoFrame h = h
    by (PageDamaged b) h = h
    by TooTall h = h
    by f h = h

-- a page on level 0 that is no metapage is a leaf
pub leaf_items : (page : Page) → IsPage page → page.level ≡ 0 → 0 < page.block → HasEntries page.items
leaf_items page admitted ground above = by page.items admitted.kind
  where
    by : (items : Items) → IsOfKind page items → HasEntries items
    by Meta h = absurd (let z : page.block ≡ 0 = h.block in omega arith)
    by (Entries v) h = tt
    by (Downlinks v) h = absurd (let k : 0 < page.level = h.level.0 in omega arith)

pub up_to_within : (high : Option Bound) (e : Entry) → is_within (entry_aim e) high ≡ true → IsUpTo high e
up_to_within None e h = tt
up_to_within (Some high) e h = not-true (entry_aim e high) h

-- where an insert on its way stands
pub on_way : (st : State) (op : InsertOp) (position : Position) → op.at ≡ Coming (At position) → (fits : InsertInvariant st op)
    → (holding_of st.table op.session ≡ nothing_held) × IsOnDescent st fits.start (entry_aim op.entry) true 0 position
on_way st op position at_is fits = subst (InsertStands st op.session fits.start op.entry) at_is fits.stands

pub to_come_there : (op : InsertOp) (position : Position) → op.at ≡ Coming (At position) → IsToCome op.at op.added → op.added ≡ None
to_come_there op position at_is h = subst (λ (a : InsertAt). IsToCome a op.added) at_is h

pub reading_cause : (st : State) (old new : Backing) (op : InsertOp) (position : Position) (fault : Fault) → op.at ≡ Coming (At position)
    → HasCause (causes_of_working st old new op.session [] 1 false false) fault → HasCause (causes_of_inserting st old new op.session op.entry op.at) fault
reading_cause st old new op position fault at_is h = rw at_is (as_inserting st old new op.session op.entry (Coming (At position)) [] 1 false false fault refl h)

some_none : {A : Type 0} (x : Option A) → x ≡ None → IsSome x → ⊥
some_none None h s = cc
some_none (Some x) h s = cc

-- a live page that has an incomplete split has a high key
pub incomplete_ends : (page : Page) → IsPage page → page.state ≡ Live → page.split ≡ true → page.high ≡ None → ⊥
incomplete_ends page admitted alive incomplete none = by page.items admitted.kind
  where
    by : (items : Items) → IsOfKind page items → ⊥
    by Meta h = true≢false (sym incomplete ∙ h.split)
    by (Entries v) h = (let rest = subst (λ (s : PageState). IsLeafIn s page v.items) alive h.rest in some_none page.high none (rest.high.1 (rest.split incomplete)))
    by (Downlinks v) h = some_none page.high none (h.high.1 (h.split incomplete))

-- a page that isn't live has no incomplete split
pub whole_page : (page : Page) → IsPage page → (page.state ≡ Live → page.split ≡ false) → page.split ≡ false
whole_page page admitted whole = by page.items admitted.kind
  where
    leaf : (s : PageState) → page.state ≡ s → (es : List Entry) → IsLeafIn s page es → page.split ≡ false
    leaf Live is es h = whole is
    leaf HalfDead is es h = h.split
    leaf Deleted is es h = h.split

    by : (items : Items) → IsOfKind page items → page.split ≡ false
    by Meta h = h.split
    by (Entries v) h = leaf page.state refl v.items h.rest
    by (Downlinks v) h = whole h.state

-- where a page leads an insert on its way
pub led : (st : State) (op : InsertOp) (position : Position) (page : Page) (bound : Bound) (most : ℕ) (result : Option NextPage) → op.at ≡ Coming (At position) → IsInOrder st → (fits : InsertInvariant st op)
    → slice_get st.pages position.block ≡ Some page → IsPage page → (page.state ≡ Live → page.split ≡ false) → bound ≡ bound_of op.entry → length st.pages ≤ most
    → ((s : State) (start : ℕ) (clear : Bool) → HasTree s → slice_get s.pages position.block ≡ Some page → IsOnDescent s start (bound_aim bound) clear 0 position → (clear ≡ true → page.split ≡ false)
    → length s.pages ≤ most → LeadsToNext s start (bound_aim bound) clear 0 position result)
    → LeadsToNext st fits.start (entry_aim op.entry) true 0 position result
led st op position page bound most result at_is order fits found admitted whole is few goes =
    let stands = on_way st op position at_is fits in
    subst (λ (b : Bound). LeadsToNext st fits.start (bound_aim b) true 0 position result) is
    (goes st fits.start true order.tree found (subst (λ (b : Bound). IsOnDescent st fits.start (bound_aim b) true 0 position) (sym is) stands.1) (λ clear. whole_page page admitted whole) few)
