-- What acts leave a bulk delete: leaves stay, or are split into halves that carry its cycle number.
use Rattle.std.proofs.Common.{◌≡◌, ◌⊎◌, ℕ, ◌<◌, ◌≤◌, inl, inr, Bool, true, ◌||◌, List, [], ◌∷◌, ◌++◌, length, slice_get, Option, Some, refl, sym, ap, subst, ◌∙◌, arith}
use Rattle.page_codec.specs.declared.page.Downlink.{Downlink}
use Rattle.tree_shape.proofs.Removal.{is_among-filter}
use Rattle.tree_acts.proofs.Imports.{cases_eq, or_cases, and_parts, Effect, Add, Remove, Shape, is_among, same_entry, Entry, Format, is_among-append, entries_of, HasEntries, IsPage, IsOfKind}
use Rattle.tree_acts.proofs.Imports.{Items, Meta, Entries, Downlinks, Page, Live, Deleted, State, after_act, with_page, with_pages, AreActable, IsFresh, stored_page, Node, nodes_of, links_of}
use Rattle.tree_acts.proofs.Imports.{entry_aim, is_fit, put_among, HasTree, IsMended, rightmost, neighbour, LeafIsSplit, IsClear, or_left, or_right, slice_get_within}
use Rattle.tree_acts.specs.Leaves.{IsLeafAt, LeafStays, LeafIsHalved, LeafBecomes, WasLeaf, LeafPagesStay, PagesKeepLeaves, PuttingLeaves, RemovingLeaves, LeafSplitLeaves, FinishLeaves, ParentSplitLeaves, RootSplitLeaves}
use Rattle.tree_acts.proofs.Overlays.{page_there, page_other, page_length, pages_first, pages_second, node_there}
use Rattle.tree_acts.proofs.Lasting.{StandsOnChain, stands, fresh_free}

-- each of these pages has the property
abbrev pub EachPage : (Page → Type 0) → List Page → Type 0
EachPage P [] = Unit {0}
EachPage P (page ∷ pages) = P page × EachPage P pages

-- what stands at a block after pages were written: what stood there, or one of them
pub record StandsAfterWrites (P : Page → Type 0) (pages : List Page) (b : ℕ) : Type 0 where
  pub page : Page
  pub is : P page
  pub block : page.block ≡ b
  pub there : slice_get pages b ≡ Some page

pub written_or : (P : Page → Type 0) (format : Format) (used : ℕ) (pages changed : List Page) (b : ℕ) → AreActable format used changed → used ≤ length pages → EachPage P changed
    → (slice_get (with_pages pages changed) b ≡ slice_get pages b) ⊎ StandsAfterWrites P (with_pages pages changed) b
written_or P format used pages [] b may le each = inl refl
written_or P format used pages (x ∷ changed) b may le each =
    let place : x.block ≤ length pages = omega (arith, may.1.0, le) in
    let longer = page_length pages x place in
    elim (written_or P format used (with_page pages x) changed b may.3 (omega (arith, longer, le)) each.1) [
      | inr later ↦ inr later
      | inl same ↦ elim (cases_eq x.block b) [
        | inl is ↦ inr (record { page = x; is = each.0; block = is; there = same ∙ subst (λ (k : ℕ). slice_get (with_page pages x) k ≡ Some x) is (page_there pages x place) })
        | inr differ ↦ inl (same ∙ page_other pages x b differ place)
      ]
    ]

-- pages that aren't changed
pub leaves_same : PagesKeepLeaves
leaves_same st new same cycle = record {
  cycle = cycle;
  each = λ b old at. record { new = old; there = subst (λ (ps : List Page). IsLeafAt ps b old) (sym same) at; how = inl (record { right = refl; cycle = refl; entries = λ e on. inl on }) };
  others = λ b new_page at. inl (record { page = new_page; was = subst (λ (ps : List Page). IsLeafAt ps b new_page) same at });
}

-- a page with the state, right link and cycle number of the one that stood there, and no entry but the one
-- that is added
record IsAlike (effect : Option Effect) (st : State) (x : Page) : Type 0 where
  pub old : Page
  pub found : slice_get st.pages x.block ≡ Some old
  pub state : x.state ≡ old.state
  pub stays : LeafStays effect old x
  pub leaf : HasEntries x.items → HasEntries old.items
  pub still : HasEntries old.items → HasEntries x.items

-- a page that is no leaf, where no leaf stood
record IsNoLeaf (st : State) (x : Page) : Type 0 where
  pub now : HasEntries x.items → ⊥
  pub was : (page : Page) → IsLeafAt st.pages x.block page → ⊥

abbrev KeepsLeaf : Option Effect → State → Page → Type 0
KeepsLeaf effect st x = IsAlike effect st x ⊎ IsNoLeaf st x

same_page : (pages : List Page) (b : ℕ) (x y : Page) → slice_get pages b ≡ Some x → slice_get pages b ≡ Some y → x ≡ y
same_page pages b x y p q = (let k : Some x ≡ Some y = sym p ∙ q in cc)

stays_itself : (effect : Option Effect) (page : Page) → LeafStays effect page page
stays_itself effect page = record { right = refl; cycle = refl; entries = λ e on. inl on }

module _ (effect : Option Effect) (st : State) where
  alike_goes_on : (cycle : ℕ) (pages : List Page) (b : ℕ) (old x : Page) → IsAlike effect st x → x.block ≡ b → slice_get pages b ≡ Some x
      → IsLeafAt st.pages b old → LeafBecomes effect cycle st.pages pages b old
  alike_goes_on cycle pages b old x h block there at =
      let same : h.old ≡ old = same_page st.pages b h.old old (subst (λ (k : ℕ). slice_get st.pages k ≡ Some h.old) block h.found) at.found in
      record {
        new = x;
        there = record { found = there; alive = h.state ∙ ap (λ (p : Page). p.state) same ∙ at.alive; leaf = h.still (subst (λ (p : Page). HasEntries p.items) (sym same) at.leaf) };
        how = inl (subst (λ (p : Page). LeafStays effect p x) same h.stays);
      }

  alike_was : (pages : List Page) (b : ℕ) (new x : Page) → IsAlike effect st x → x.block ≡ b → slice_get pages b ≡ Some x → IsLeafAt pages b new → WasLeaf st.pages b
  alike_was pages b new x h block there at =
      let same : x ≡ new = same_page pages b x new there at.found in
      record {
        page = h.old;
        was = record {
          found = subst (λ (k : ℕ). slice_get st.pages k ≡ Some h.old) block h.found;
          alive = sym h.state ∙ ap (λ (p : Page). p.state) same ∙ at.alive;
          leaf = h.leaf (subst (λ (p : Page). HasEntries p.items) (sym same) at.leaf);
        };
      }

  goes_on_itself : (cycle : ℕ) (pages : List Page) (b : ℕ) (old : Page) → slice_get pages b ≡ slice_get st.pages b → IsLeafAt st.pages b old → LeafBecomes effect cycle st.pages pages b old
  goes_on_itself cycle pages b old same at = record { new = old; there = record { found = same ∙ at.found; alive = at.alive; leaf = at.leaf }; how = inl (stays_itself effect old) }

  was_itself : (pages : List Page) (b : ℕ) (new : Page) → slice_get pages b ≡ slice_get st.pages b → IsLeafAt pages b new → WasLeaf st.pages b
  was_itself pages b new same at = record { page = new; was = record { found = sym same ∙ at.found; alive = at.alive; leaf = at.leaf } }

  -- an act that splits no leaf
  keeps_leaves : (changed : List Page) → AreActable st.format (length st.pages) changed → EachPage (KeepsLeaf effect st) changed → LeafPagesStay effect st (after_act changed st)
  keeps_leaves changed may each = record {
    cycle = refl;
    each = λ b old at. elim (written_or (KeepsLeaf effect st) st.format (length st.pages) st.pages changed b may (omega arith) each) [
      | inl same ↦ goes_on_itself st.cycle (with_pages st.pages changed) b old same at
      | inr w ↦ elim w.is [
        | inl alike ↦ alike_goes_on st.cycle (with_pages st.pages changed) b old w.page alike w.block w.there at
        | inr none ↦ absurd (none.was old (subst (λ (k : ℕ). IsLeafAt st.pages k old) (sym w.block) at))
      ]
    ];
    others = λ b new at. elim (written_or (KeepsLeaf effect st) st.format (length st.pages) st.pages changed b may (omega arith) each) [
      | inl same ↦ inl (was_itself (with_pages st.pages changed) b new same at)
      | inr w ↦ elim w.is [
        | inl alike ↦ inl (alike_was (with_pages st.pages changed) b new w.page alike w.block w.there at)
        | inr none ↦ absurd (none.now (subst (λ (p : Page). HasEntries p.items) (same_page (with_pages st.pages changed) b new w.page at.found w.there) at.leaf))
      ]
    ];
  }

  -- a page whose split is finished, and one with another left link
  clear_keeps : (p x : Page) → slice_get st.pages p.block ≡ Some p → IsClear p x → KeepsLeaf effect st x
  clear_keeps p x found clear = subst (KeepsLeaf effect st) (sym clear.only) (inl (record {
    old = p;
    found = found;
    state = refl;
    stays = record { right = refl; cycle = refl; entries = λ e on. inl on };
    leaf = λ h. h;
    still = λ h. h;
  }))

  mended_keeps : (new : ℕ) (right : Option ℕ) (mended : List Page) → IsMended st new right mended → EachPage (KeepsLeaf effect st) mended
  mended_keeps new right mended rightmost = tt
  mended_keeps new right mended (neighbour {r} old after found block only) = (
    inl (record {
      old = old;
      found = subst (λ (k : ℕ). slice_get st.pages k ≡ Some old) (sym block) found;
      state = ap (λ (p : Page). p.state) only;
      stays = subst (LeafStays effect old) (sym only) (record { right = refl; cycle = refl; entries = λ e on. inl on });
      leaf = λ h. subst (λ (p : Page). HasEntries p.items) only h;
      still = λ h. subst (λ (p : Page). HasEntries p.items) (sym only) h;
    }),
    tt,
  )

-- a page with a downlink is no leaf
linked_no_leaf : (items : Items) (before : List Downlink) (d : Downlink) (after : List Downlink) → links_of items ≡ before ++ d ∷ after → HasEntries items → ⊥
linked_no_leaf Meta before d after is h = h
linked_no_leaf (Downlinks v) before d after is h = h
linked_no_leaf (Entries v) [] d after is h = (let k : [] ≡ d ∷ after = is in cc)
linked_no_leaf (Entries v) (b ∷ before) d after is h = (let k : [] ≡ b ∷ before ++ d ∷ after = is in cc)

-- where a page that is no leaf stands, no leaf stands
no_leaf_where : (st : State) (q : Page) → slice_get st.pages q.block ≡ Some q → (HasEntries q.items → ⊥) → (b : ℕ) → b ≡ q.block → (page : Page) → IsLeafAt st.pages b page → ⊥
no_leaf_where st q found none b is page at =
    none (subst (λ (p : Page). HasEntries p.items) (same_page st.pages q.block page q (subst (λ (k : ℕ). slice_get st.pages k ≡ Some page) is at.found) found) at.leaf)

-- on a block that a new page takes no leaf stands
pub fresh_no_leaf : (st : State) (new : ℕ) → HasTree st → IsFresh st new → (page : Page) → IsLeafAt st.pages new page → ⊥
fresh_no_leaf st new has fresh page at =
    let free = fresh_free st new has fresh in
    let gone : (nodes_of st.pages new).state ≡ Deleted = free.not_in_use (slice_get_within st.pages new page at.found) in
    clash (sym at.alive ∙ sym (ap (λ (n : Node). n.state) (node_there st.pages new page at.found)) ∙ gone)
  where
    clash : Live ≡ Deleted → ⊥
    clash h = cc

-- a page of level 0 that isn't the metapage is a leaf
ground_leaf : (p : Page) → IsPage p → p.level ≡ 0 → 0 < p.block → HasEntries p.items
ground_leaf p admitted ground above = by p.items admitted.kind
  where
    by : (items : Items) → IsOfKind p items → HasEntries items
    by Meta kind = absurd (let b : p.block ≡ 0 = kind.block in omega (arith, above, b))
    by (Entries v) kind = tt
    by (Downlinks v) kind = absurd (let l : 0 < p.level = kind.level.0 in omega (arith, l, ground))

same_added : (e x : Entry) (a b : Bool) → a ≡ (same_entry e x || b) → a ≡ true → (b ≡ true) ⊎ (same_entry e x ≡ true)
same_added e x a b is h = elim (or_cases (same_entry e x) b (sym is ∙ h)) [ inl new ↦ inr new | inr old ↦ inl old ]

pub putting_leaves : PuttingLeaves
putting_leaves st start e page after has h = keeps_leaves (Some (Add e)) st (after ∷ []) h.may (
  inl (record {
    old = page;
    found = subst (λ (k : ℕ). slice_get st.pages k ≡ Some page) (sym h.block_is) h.found;
    state = ap (λ (n : Node). n.state) h.after_is;
    stays = record {
      right = ap (λ (n : Node). n.right) h.after_is;
      cycle = h.cycle_is;
      entries = λ x on. same_added e x (is_among (entries_of after.items) x) (is_among (entries_of page.items) x) (put_among e (entries_of page.items) (entries_of after.items) x h.put) on;
    };
    leaf = λ k. old_leaf;
    still = λ k. ground_leaf after h.may.0.storable.admitted (ap (λ (n : Node). n.level) h.after_is ∙ h.leaf) (subst (λ (b : ℕ). 0 < b) (sym h.block_is) on.above);
  }),
  tt,
)
  where
    on : StandsOnChain st has.tree 0 (is_fit (entry_aim e) true) page.block
    on = stands st has.tree start 0 (entry_aim e) true page.block h.place (ap (λ (n : Node). n.state) (node_there st.pages page.block page h.found) ∙ h.alive)

    old_leaf : HasEntries page.items
    old_leaf = ground_leaf page (stored_page st.format page.block st.pages page has.stored h.found).storable.admitted h.leaf on.above

pub removing_leaves : RemovingLeaves
removing_leaves st keeps page after es has h = keeps_leaves (Some (Remove es)) st (after ∷ []) h.may (
  subst (KeepsLeaf (Some (Remove es)) st) (sym h.after_is) (inl (record {
    old = page;
    found = h.found;
    state = refl;
    stays = record { right = refl; cycle = refl; entries = λ x on. inl (and_parts (is_among (entries_of page.items) x) (keeps x) (sym (is_among-filter keeps (entries_of page.items) x) ∙ on)).0 };
    leaf = λ k. h.leaf;
    still = λ k. tt;
  })),
  tt,
)

pub finish_leaves : FinishLeaves
finish_leaves st start level s p q p_after q_after new has h = keeps_leaves (Some Shape) st (q_after ∷ p_after ∷ []) h.may (
  inr (record {
    now = linked_no_leaf q_after.items h.added.before _ _ h.added.added_are;
    was = no_leaf_where st q h.found (linked_no_leaf q.items h.added.before _ _ h.added.links_are) q_after.block h.block_is;
  }),
  (clear_keeps (Some Shape) st p p_after h.unfinished.found h.clear, tt),
)

each_append : (P : Page → Type 0) (xs : List Page) (y : Page) → EachPage P xs → P y → EachPage P (xs ++ y ∷ [])
each_append P [] y each one = (one, tt)
each_append P (x ∷ xs) y each one = (each.0, each_append P xs y each.1 one)

pub parent_split_leaves : ParentSplitLeaves
parent_split_leaves st start level s p q p_after left right mended new has h = keeps_leaves (Some Shape) st (left ∷ right ∷ mended ++ p_after ∷ []) h.may (
  inr (record {
    now = linked_no_leaf left.items [] h.halves.first h.halves.front (ap (λ (n : Node). n.links) h.halves.left_is);
    was = no_leaf_where st q h.found (linked_no_leaf q.items h.added.before _ _ h.added.links_are) left.block h.left_block;
  }),
  (
    inr (record {
      now = linked_no_leaf right.items [] _ h.halves.back (ap (λ (n : Node). n.links) h.halves.right_is);
      was = fresh_no_leaf st right.block has h.fresh;
    }),
    each_append (KeepsLeaf (Some Shape) st) mended p_after (mended_keeps (Some Shape) st right.block q.right mended h.mends) (clear_keeps (Some Shape) st p p_after h.unfinished.found h.clear),
  ),
)

pub root_split_leaves : RootSplitLeaves
root_split_leaves st start s meta meta_after p p_after root new has h = keeps_leaves (Some Shape) st (root ∷ meta_after ∷ p_after ∷ []) h.may (
  inr (record {
    now = linked_no_leaf root.items [] _ _ (ap (λ (n : Node). n.links) h.root_is);
    was = fresh_no_leaf st root.block has h.fresh;
  }),
  (
    inr (record {
      now = λ k. subst HasEntries h.meta_is.kind k;
      was = λ page at.
          let is_meta : page ≡ has.tree.meta = same_page st.pages 0 page has.tree.meta (subst (λ (k : ℕ). slice_get st.pages k ≡ Some page) h.meta_block at.found) has.tree.meta_at in
          subst HasEntries has.tree.names_root.kind (subst (λ (x : Page). HasEntries x.items) is_meta at.leaf);
    }),
    (clear_keeps (Some Shape) st p p_after h.unfinished.found h.clear, tt),
  ),
)

-- one of the halves of a leaf, or a page that stays one
abbrev IsHalfOr : State → Entry → Page → Page → Page → Type 0
IsHalfOr st e left right x = KeepsLeaf (Some (Add e)) st x ⊎ ((x ≡ left) ⊎ (x ≡ right))

either_half : (st : State) (e : Entry) (left right : Page) (xs : List Page) → EachPage (KeepsLeaf (Some (Add e)) st) xs → EachPage (IsHalfOr st e left right) xs
either_half st e left right [] each = tt
either_half st e left right (x ∷ xs) each = (inl each.0, either_half st e left right xs each.1)

module _ (st : State) (start : ℕ) (e : Entry) (page left right : Page) (mended : List Page) (has : HasTree st) (h : LeafIsSplit st start e page left right mended) where
  split_on : StandsOnChain st has.tree 0 (is_fit (entry_aim e) true) page.block
  split_on = stands st has.tree start 0 (entry_aim e) true page.block h.place (ap (λ (n : Node). n.state) (node_there st.pages page.block page h.found) ∙ h.alive)

  page_leaf : IsLeafAt st.pages page.block page
  page_leaf = record { found = h.found; alive = h.alive; leaf = ground_leaf page (stored_page st.format page.block st.pages page has.stored h.found).storable.admitted h.leaf split_on.above }

  left_leaf : IsLeafAt (with_pages st.pages (left ∷ right ∷ mended)) page.block left
  left_leaf = record {
    found = subst (λ (k : ℕ). slice_get (with_pages st.pages (left ∷ right ∷ mended)) k ≡ Some left) h.left_block
        (pages_first st.format (length st.pages) st.pages left (right ∷ mended) h.may (omega arith));
    alive = ap (λ (n : Node). n.state) h.halves.left_is;
    leaf = ground_leaf left h.may.0.storable.admitted (ap (λ (n : Node). n.level) h.halves.left_is ∙ h.leaf) (subst (λ (b : ℕ). 0 < b) (sym h.left_block) split_on.above);
  }

  right_leaf : IsLeafAt (with_pages st.pages (left ∷ right ∷ mended)) right.block right
  right_leaf = record {
    found = pages_second st.format (length st.pages) st.pages left right mended h.may (omega arith);
    alive = ap (λ (n : Node). n.state) h.halves.right_is;
    leaf = ground_leaf right h.may.3.0.storable.admitted (ap (λ (n : Node). n.level) h.halves.right_is ∙ h.leaf) (fresh_free st right.block has h.fresh).past_meta;
  }

  parts : (x : Entry) → (is_among (entries_of left.items) x || is_among (entries_of right.items) x) ≡ (same_entry e x || is_among (entries_of page.items) x)
  parts x =
      rw (ap (λ (n : Node). n.entries) h.halves.left_is, ap (λ (n : Node). n.entries) h.halves.right_is)
      (sym (is_among-append (h.halves.first ∷ h.halves.front) (h.halves.middle ∷ h.halves.back) x) ∙ put_among e (entries_of page.items) _ x h.halves.put)

  halved : LeafIsHalved (Some (Add e)) st.cycle st.pages (with_pages st.pages (left ∷ right ∷ mended)) page left
  halved = record {
    new = right.block;
    half = right;
    there = right_leaf;
    free = fresh_no_leaf st right.block has h.fresh;
    left_right = ap (λ (n : Node). n.right) h.halves.left_is;
    half_right = ap (λ (n : Node). n.right) h.halves.right_is;
    left_cycle = h.left_cycle;
    half_cycle = h.right_cycle;
    left_entries = λ x on. same_added e x _ (is_among (entries_of page.items) x) (parts x) (or_left (is_among (entries_of left.items) x) (is_among (entries_of right.items) x) on);
    half_entries = λ x on. same_added e x _ (is_among (entries_of page.items) x) (parts x) (or_right (is_among (entries_of left.items) x) (is_among (entries_of right.items) x) on);
  }

  each : EachPage (IsHalfOr st e left right) (left ∷ right ∷ mended)
  each = (inr (inl refl), (inr (inr refl), either_half st e left right mended (mended_keeps (Some (Add e)) st right.block page.right mended h.mends)))

  written : (b : ℕ) → (slice_get (with_pages st.pages (left ∷ right ∷ mended)) b ≡ slice_get st.pages b) ⊎ StandsAfterWrites (IsHalfOr st e left right) (with_pages st.pages (left ∷ right ∷ mended)) b
  written b = written_or (IsHalfOr st e left right) st.format (length st.pages) st.pages (left ∷ right ∷ mended) b h.may (omega arith) each

  pub splitting_leaves : LeafPagesStay (Some (Add e)) st (after_act (left ∷ right ∷ mended) st)
  unfolding halved
  splitting_leaves = record {
    cycle = refl;
    each = λ b old at. elim (written b) [
      | inl same ↦ goes_on_itself (Some (Add e)) st st.cycle (with_pages st.pages (left ∷ right ∷ mended)) b old same at
      | inr w ↦ elim w.is [
        | inl (inl alike) ↦ alike_goes_on (Some (Add e)) st st.cycle (with_pages st.pages (left ∷ right ∷ mended)) b old w.page alike w.block w.there at
        | inl (inr none) ↦ absurd (none.was old (subst (λ (k : ℕ). IsLeafAt st.pages k old) (sym w.block) at))
        | inr (inl is_left) ↦ (
            let here : page.block ≡ b = sym h.left_block ∙ ap (λ (p : Page). p.block) (sym is_left) ∙ w.block in
            let is_page : page ≡ old = same_page st.pages b page old (subst (λ (k : ℕ). slice_get st.pages k ≡ Some page) here h.found) at.found in
            record {
              new = left;
              there = subst (λ (k : ℕ). IsLeafAt (with_pages st.pages (left ∷ right ∷ mended)) k left) here left_leaf;
              how = inr (subst (λ (p : Page). LeafIsHalved (Some (Add e)) st.cycle st.pages (with_pages st.pages (left ∷ right ∷ mended)) p left) is_page halved);
            })
        | inr (inr is_right) ↦ absurd (fresh_no_leaf st right.block has h.fresh old (subst (λ (k : ℕ). IsLeafAt st.pages k old) (sym w.block ∙ ap (λ (p : Page). p.block) is_right) at))
      ]
    ];
    others = λ b new at. elim (written b) [
      | inl same ↦ inl (was_itself (Some (Add e)) st (with_pages st.pages (left ∷ right ∷ mended)) b new same at)
      | inr w ↦ elim w.is [
        | inl (inl alike) ↦ inl (alike_was (Some (Add e)) st (with_pages st.pages (left ∷ right ∷ mended)) b new w.page alike w.block w.there at)
        | inl (inr none) ↦ absurd (none.now (subst (λ (p : Page). HasEntries p.items) (same_page (with_pages st.pages (left ∷ right ∷ mended)) b new w.page at.found w.there) at.leaf))
        | inr (inl is_left) ↦ inl (record { page = page; was = subst (λ (k : ℕ). IsLeafAt st.pages k page) (sym h.left_block ∙ ap (λ (p : Page). p.block) (sym is_left) ∙ w.block) page_leaf })
        | inr (inr is_right) ↦
            inr (record { from = page.block; old = page; was = page_leaf; left = left; there = left_leaf; halved = halved; is = ap (λ (p : Page). p.block) (sym is_right) ∙ w.block })
      ]
    ];
  }

pub leaf_split_leaves : LeafSplitLeaves
leaf_split_leaves st start e page left right mended has h = splitting_leaves st start e page left right mended has h
