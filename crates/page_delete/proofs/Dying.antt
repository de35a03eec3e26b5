-- An empty leaf is made half-dead.
use Rattle.std.proofs.Common.{◌≡◌, ◌≢◌, ℕ, zero, suc, take, All, ◌+◌, ◌<◌, ◌≤◌, inl, inr, true, false, List, [], ◌∷◌, length, slice_get, Some, None, refl, sym, ap, subst, ◌∙◌, arith, add-one}
use Rattle.std.proofs.lemmas.Bool.{cases_lt}
use Rattle.std.specs.Prelude.{slice_index_or}
use Rattle.latch_table.specs.Holdings.{is_held_by_another}
use Rattle.latch_table.specs.declared.mode.Mode.TheVariants.{Exclusive}
use Rattle.index_model.specs.declared.layout.Layout.TheVariants.{Two}
use Rattle.page_codec.specs.Edits.{HasEntries}
use Rattle.page_codec.specs.Grammar.{IsPage}
use Rattle.page_codec.specs.Spelling.{count_of}
use Rattle.page_codec.specs.declared.page.Downlink.{Downlink}
use Rattle.page_codec.specs.declared.page.Items.{Items}
use Rattle.page_codec.specs.declared.page.Items.TheVariants.{Meta, Entries, Downlinks}
use Rattle.page_codec.specs.declared.page.Page.{Page}
use Rattle.page_codec.specs.declared.page.PageState.TheVariants.{Live, HalfDead, Deleted}
use Rattle.page_action.specs.States.{State, after_act}
use Rattle.page_action.specs.Stored.{AreActable}
use Rattle.page_action.proofs.StoredPages.{stored_page}
use Rattle.page_action.proofs.Writable.{writable}
use Rattle.tree_shape.specs.Edits.{IsLinkHandedOn, with_links}
use Rattle.tree_shape.specs.LinkPlaces.{HasLinks, child_at}
use Rattle.tree_shape.specs.Nodes.{node_of, links_of}
use Rattle.tree_acts.specs.Deletions.{LeafIsHalfDead}
use Rattle.tree_acts.proofs.Dying.{edit as half_death_edit, half_death_lasts, half_death_flags, half_death_dies, half_death_links}
use Rattle.tree_acts.proofs.Overlays.{page_length}
use Rattle.tree_acts.proofs.Removing.{leaf_is}
use Rattle.tree_acts.specs.StepEffects.{IsInOrder}
use Rattle.descent.proofs.Acting.{numbers_stay, does_delete}
use Rattle.vacuum.proofs.Holding.{free_for_all}
use Rattle.page_delete.specs.Judging.{IsHandingOn}
use Rattle.page_delete.specs.Parts.{IsCandidate, IsTakenToChange, DeletesOn, SiblingsAllow, SiblingsLink}
use Rattle.page_delete.specs.Spares.{dies as dies_edit}
use Rattle.page_delete.proofs.Siblings.{siblings}
use Rattle.page_delete.proofs.Imports.{same_Some, slice_get_within}

-- the pages of the act, as they are written
pub record AreDying (leaf parent leaf_after parent_after : Page) (at : ℕ) : Type 0 where
  pub leaf_is : leaf_after ≡ record leaf { layout = Two; state = HalfDead }
  pub handed : IsLinkHandedOn (child_at (links_of parent.items) at) (child_at (links_of parent.items) (at + 1)) (links_of parent.items) (links_of parent_after.items)
  pub parent_is : node_of parent_after ≡ with_links (node_of parent) (links_of parent_after.items)
  pub block_is : parent_after.block ≡ parent.block

pub dies : (st : State) (session : ℕ) (leaf parent leaf_after parent_after : Page) (right at : ℕ) → IsInOrder st → IsCandidate st true session leaf.block leaf → SiblingsAllow st.pages leaf right
    → IsTakenToChange st true session parent.block parent → IsHandingOn parent leaf.block right at → AreDying leaf parent leaf_after parent_after at
    → AreActable st.format (length st.pages) (leaf_after ∷ parent_after ∷ []) → DeletesOn session st (after_act (leaf_after ∷ parent_after ∷ []) st)
dies st session leaf parent leaf_after parent_after right at order candidate allow taken place dying may =
    let lasts = half_death_lasts st leaf allow.page parent leaf_after parent_after order.tree is in
    record {
      own = λ start runs. numbers_stay st (after_act (leaf_after ∷ parent_after ∷ []) st) session start runs lasts.0.places lasts.0.trails;
      does = does_delete st session (leaf_after ∷ parent_after ∷ []) order may lasts.0 lasts.1
          (record {
            leaf = inl (half_death_dies st leaf allow.page parent leaf_after parent_after order.tree is);
            flags = half_death_flags st leaf allow.page parent leaf_after parent_after order.tree is;
            links = λ within. half_death_links st leaf allow.page parent leaf_after parent_after order.tree is;
          }) (
            subst (λ (b : ℕ). is_held_by_another st.table session b Exclusive ≡ false) (sym (ap (λ (p : Page). p.block) dying.leaf_is))
                (free_for_all st.table session leaf.block Exclusive candidate.free),
            (subst (λ (b : ℕ). is_held_by_another st.table session b Exclusive ≡ false) (sym dying.block_is) taken.free, tt),
          );
      edit = dies_edit leaf.block parent.block (leaf_is leaf candidate.stored.storable.admitted candidate.may_die.leaf).0 candidate.used
          (half_death_edit st leaf allow.page parent leaf_after parent_after order.tree is);
    }
  where
    right_block : allow.page.block ≡ right
    right_block = (stored_page st.format right st.pages allow.page order.tree.stored allow.found).block_is

    handed : IsLinkHandedOn leaf.block allow.page.block (links_of parent.items) (links_of parent_after.items)
    handed = subst (λ (r : ℕ). IsLinkHandedOn leaf.block r (links_of parent.items) (links_of parent_after.items)) (place.place.next ∙ sym right_block)
        (subst (λ (b : ℕ). IsLinkHandedOn b (child_at (links_of parent.items) (suc at)) (links_of parent.items) (links_of parent_after.items)) place.place.leads
        (subst (λ (k : ℕ). IsLinkHandedOn (child_at (links_of parent.items) at) (child_at (links_of parent.items) k) (links_of parent.items) (links_of parent_after.items)) (add-one at) dying.handed))

    is : LeafIsHalfDead st leaf allow.page parent leaf_after parent_after
    is = record {
      found = candidate.found refl;
      may_die = candidate.may_die;
      left_whole = allow.left_whole;
      right_is = allow.right_is ∙ ap Some (sym right_block);
      right_found = subst (λ (b : ℕ). slice_get st.pages b ≡ Some allow.page) (sym right_block) allow.found;
      right_alive = allow.alive;
      parent_found = taken.found refl;
      parent_level = place.level;
      internal = place.internal;
      handed = handed;
      leaf_is = dying.leaf_is;
      parent_is = dying.parent_is;
      parent_block = dying.block_is;
      may = may;
    }

pub links_no_leaf : (items : Items) → HasEntries items → HasLinks items → ⊥
links_no_leaf Meta a b = a
links_no_leaf (Entries v) a b = b
links_no_leaf (Downlinks v) a b = a

-- the act may be done
pub may_die_so : (st : State) (session : ℕ) (leaf parent leaf_after parent_after : Page) (right at : ℕ) → length st.pages ≤ st.format.pages → IsCandidate st true session leaf.block leaf
    → IsTakenToChange st true session parent.block parent → IsHandingOn parent leaf.block right at
    → leaf_after ≡ record leaf { layout = Two; state = HalfDead } → parent_after.block ≡ parent.block → parent_after.layout ≡ Two → IsPage leaf_after → IsPage parent_after
    → count_of parent_after.items ≤ count_of parent.items → AreActable st.format (length st.pages) (leaf_after ∷ parent_after ∷ [])
may_die_so st session leaf parent leaf_after parent_after right at few candidate taken place leaf_is block_is layout_is leaf_page parent_page less =
    let leaf_block : leaf_after.block ≡ leaf.block = ap (λ (p : Page). p.block) leaf_is in
    let leaf_few = candidate.stored.storable.few in
    let parent_few = taken.stored.storable.few in
    let leaf_used = candidate.used in
    let parent_used = taken.used in (
      writable st.format leaf_after (ap (λ (p : Page). p.layout) leaf_is) leaf_page (subst (λ (p : Page). count_of p.items ≤ st.format.items) (sym leaf_is) leaf_few),
      (omega arith, omega arith),
      ((λ same. apart (sym (sym block_is ∙ same ∙ leaf_block))), tt),
      (writable st.format parent_after layout_is parent_page (omega arith), (omega arith, omega arith), tt, tt),
    )
  where
    apart : leaf.block ≢ parent.block
    apart same =
        let one : leaf ≡ parent = same_Some leaf parent (sym (candidate.found refl) ∙ ap (λ (b : ℕ). slice_get st.pages b) same ∙ taken.found refl) in
        links_no_leaf leaf.items candidate.may_die.leaf (subst (λ (p : Page). HasLinks p.items) (sym one) place.internal)

-- as many blocks are in use after it
pub used_dying : (st : State) (a b : Page) → a.block < length st.pages → b.block < length st.pages → length (after_act (a ∷ b ∷ []) st).pages ≡ length st.pages
used_dying st a b in_a in_b =
    let one = page_length st.pages a (omega (arith, in_a)) in
    page_length _ b (omega (arith, in_b, one, in_a)) ∙ (omega (arith, one, in_a, in_b))

-- the siblings of a leaf link to it
pub leaf_links : (st : State) (session : ℕ) (leaf : Page) → IsInOrder st → IsCandidate st true session leaf.block leaf → SiblingsLink st.pages leaf
leaf_links st session leaf order candidate =
    siblings st order.tree leaf (candidate.found refl) (λ gone. clash (sym candidate.may_die.alive ∙ gone)) (leaf_is leaf candidate.stored.storable.admitted candidate.may_die.leaf).0
  where
    clash : Live ≡ Deleted → ⊥
    clash e = cc

-- an internal page counts its downlinks
pub count_links : (items : Items) → HasLinks items → count_of items ≡ length (links_of items)
count_links Meta h = absurd h
count_links (Entries v) h = absurd h
count_links (Downlinks v) h = refl

-- the first downlinks to a page are at one place
get_taken : (xs : List Downlink) (n k : ℕ) (d : Downlink) → k < n → k < length xs → (k < length (take n xs)) × (slice_index_or (take n xs) k d ≡ slice_index_or xs k d)
get_taken [] n k d lt in_xs = absurd (omega arith)
get_taken (x ∷ xs) zero k d lt in_xs = absurd (omega arith)
get_taken (x ∷ xs) (suc n) zero d lt in_xs = (omega arith, refl)
get_taken (x ∷ xs) (suc n) (suc k) d lt in_xs =
    let r = get_taken xs n k d (omega arith) (omega arith) in
    (let a = r.0 in omega arith, r.1)

never_before : (links : List Downlink) (leaf a b : ℕ) → a < b → a < length links → child_at links a ≡ leaf → All (λ (d : Downlink). d.child ≢ leaf) (take b links) → ⊥
never_before links leaf a b lt inside leads first =
    let r = get_taken links b a (record { bound = None; child = 0 }) lt inside in
    first a (record { bound = None; child = 0 }) r.0 (ap (λ (d : Downlink). d.child) r.1 ∙ leads)

pub same_place : (links : List Downlink) (leaf a b : ℕ) → a < length links → b < length links → child_at links a ≡ leaf → child_at links b ≡ leaf
    → All (λ (d : Downlink). d.child ≢ leaf) (take a links) → All (λ (d : Downlink). d.child ≢ leaf) (take b links) → a ≡ b
same_place links leaf a b in_a in_b leads_a leads_b first_a first_b = elim (cases_lt a b) [
  | inl lt ↦ absurd (never_before links leaf a b lt in_a leads_a first_b)
  | inr ge ↦ elim (cases_lt b a) [
    | inl lt ↦ absurd (never_before links leaf b a lt in_b leads_b first_a)
    | inr le ↦ omega (arith, ge, le)
  ]
]
