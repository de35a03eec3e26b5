-- The damages of parents and children, and what is wrong at the stops of all chains.
use Rattle.std.proofs.Common.{◌≡◌, ◌≢◌, ◌⊎◌, ℕ, zero, suc, ◌+◌, ◌<◌, ◌≤◌, inl, inr, Bool, true, false, true≢false, Some, None, List, [], ◌∷◌, length, slice_get, get_or, refl, sym, ap, subst, ◌∙◌, arith}
use Rattle.damages.specs.Damages as damages
use Rattle.amcheck.proofs.Imports.{cases_eq, cases_lt, Downlink, Page, HalfDead, Node, nodes_of, LeftContext, from_low, IsIn, Index, index_of, Place, place_at, Here, Item, Site, node, context}
use Rattle.amcheck.proofs.Imports.{IsOnLevel, IsOnChain, IsUnlinked, IsSecond, IsOfParents, IsDamage, IsSound, IsFirstDamage, ComesBefore, rank, on_way, on_chain, at_child, at_page, nowhere}
use Rattle.amcheck.proofs.Imports.{no_link, bool_so, on_level_so, AreAllStops, IsAt, HaveBlocksOnce, IsStopOf, HasNoStop, IsOff, AreBelow, HasWrongBound, IsSkipped, LacksLink, false≢true, same_Some}
use Rattle.amcheck.proofs.Imports.{IsSkippedStop, LeadsBefore, IsExtra, HasExtra, DownlinksAreNoted, IsWrongAmong, IsNotMet, AreChildrenBelow, IsClearAt, IsFirstChild, IsFirstOfPage, IsFirstAt}
use Rattle.amcheck.proofs.Imports.{AreMarked, high_at, context_at, stop_blocks, IsStop, IsLeastNumber, StopsAreInUse, Stop}
use Rattle.amcheck.proofs.Imports.{met_before, off_level}
use Rattle.amcheck.proofs.AllStops.{HasItsStop, Indexed, indexed, stop_moved}
use Rattle.amcheck.proofs.ItemsNoted.{item_inside}
use Rattle.amcheck.proofs.Walked.{stop_inside, stop_of}

-- the numbers of parents and children
number_large : {ix : Index} (h : Here ix) (n : ℕ) → IsOfParents h n → 1 < n
number_large h n (inl a) = (let k = a.0 in omega (arith, k))
number_large h n (inr (inl a)) = (let k = a.0 in omega (arith, k))
number_large h n (inr (inr a)) = (let k = a.0 in omega (arith, k))

in_blocks : (ss : List Stop) (k : ℕ) (s : Stop) → slice_get ss k ≡ Some s → IsIn s.block (stop_blocks ss)
in_blocks [] k s e = absurd (no_link e)
in_blocks (x ∷ ss) zero s e = inl (ap (λ (t : Stop). t.block) (sym (same_Some x s e)))
in_blocks (x ∷ ss) (suc k) s e = inr (in_blocks ss k s e)

-- what comes before: an earlier level, or an earlier place of the same one
abbrev Precedes : {ix : Index} → Here ix → Here ix → Type 0
Precedes o h = (o.depth < h.depth) ⊎ ((o.depth ≡ h.depth) × (o.place < h.place))

-- the first damage without parents and children is the first with them
pub with_parents : (keys : Bool) (pages : List Page) (number block : ℕ) → IsFirstDamage false keys pages number block → IsFirstDamage true keys pages number block
with_parents keys pages number block f = by f.site f.is f.block_is f.first
  where
    by : (site : Site (index_of pages)) → IsDamage false keys site number → block ≡ damages.site_block site
        → ((other : Site (index_of pages)) (n : ℕ) → IsDamage false keys other n → ComesBefore (rank other n) (rank site number) → ⊥) → IsFirstDamage true keys pages number block
    by (on_way d s e) damage is first = record { site = on_way d s e; is = damage; block_is = is; first = later }
      where
        later : (other : Site (index_of pages)) (n : ℕ) → IsDamage true keys other n → ComesBefore (rank other n) (0 ∷ d ∷ 0 ∷ s ∷ number ∷ []) → ⊥
        later (on_way a b c) n found before = first (on_way a b c) n found before
        later (on_chain h) n found before = first (on_chain h) n found before
        later (at_child h i) n found (inl lt) = omega (arith, lt)
        later (at_child h i) n found (inr (same, more)) = omega (arith, same)
        later (at_page h) n found (inl lt) = omega (arith, lt)
        later (at_page h) n found (inr (same, more)) = omega (arith, same)
        later (nowhere b) n found (inl lt) = omega (arith, lt)
        later (nowhere b) n found (inr (same, more)) = omega (arith, same)
    by (on_chain g) damage is first = record { site = on_chain g; is = damage; block_is = is; first = later }
      where
        later : (other : Site (index_of pages)) (n : ℕ) → IsDamage true keys other n → ComesBefore (rank other n) (0 ∷ g.depth ∷ 1 ∷ g.place ∷ number ∷ []) → ⊥
        later (on_way a b c) n found before = first (on_way a b c) n found before
        later (on_chain h) n found before = first (on_chain h) n found before
        later (at_child h i) n found (inl lt) = omega (arith, lt)
        later (at_child h i) n found (inr (same, more)) = omega (arith, same)
        later (at_page h) n found (inl lt) = omega (arith, lt)
        later (at_page h) n found (inr (same, more)) = omega (arith, same)
        later (nowhere b) n found (inl lt) = omega (arith, lt)
        later (nowhere b) n found (inr (same, more)) = omega (arith, same)
    by (at_child h i) damage is first = absurd (false≢true damage.0)
    by (at_page h) damage is first = absurd (false≢true damage.0)
    by (nowhere b) damage is first = absurd (false≢true damage.0)

module _ (pages : List Page) (stops : List Stop) (all : AreAllStops (index_of pages) (suc (index_of pages).top) stops) (sound : IsSound false false pages) where
  abbrev ix : Index
  ix = index_of pages

  abbrev at : ℕ → Node
  at = nodes_of pages

  idx : Indexed ix (suc ix.top) stops
  idx = indexed ix (suc ix.top) stops all

  abbrev here_at : (k : ℕ) (s : Stop) → slice_get stops k ≡ Some s → Here ix
  here_at k s there = record {
    depth = idx.depth_of k;
    place = idx.place_of k;
    block = s.block;
    deep = (let u = idx.upper k (stop_inside stops k s there) in omega (arith, u));
    is = ap (λ (p : Place). p.block) (idx.is k s there);
  }

  at_here : (k : ℕ) (s : Stop) (there : slice_get stops k ≡ Some s) → IsAt stops k (here_at k s there)
  at_here k s there = record { stop = s; there = there; is = idx.is k s there }

  on_level : (h : Here ix) → IsOnLevel ix h.depth h.block
  on_level h = on_level_so ix h.depth h.block (λ fails. sound (on_chain h) 1 (off_level refl fails))

  -- a page is at one place
  same_depth : (h g : Here ix) → h.block ≡ g.block → h.depth ≡ g.depth
  same_depth h g same =
      let l = (on_level h).level_is in
      let m = (on_level g).level_is in
      let one : (at h.block).level ≡ (at g.block).level = ap (λ (b : ℕ). (at b).level) same in
      omega (arith, l, m, one)

  never_twice : (h g : Here ix) → h.block ≡ g.block → h.place < g.place → ⊥
  never_twice h g same lt = sound (on_chain g) 3 (met_before refl (record {
    earlier = h.place;
    before = lt;
    same = subst (λ (d : ℕ). (place_at ix d h.place).block ≡ Some g.block) (same_depth h g same) (h.is ∙ ap Some same);
  }))

  same_place : (h g : Here ix) → h.block ≡ g.block → h.place ≡ g.place
  same_place h g same = elim (cases_lt h.place g.place) [
    | inl lt ↦ absurd (never_twice h g same lt)
    | inr ge ↦ elim (cases_lt g.place h.place) [
      | inl lt ↦ absurd (never_twice g h (sym same) lt)
      | inr le ↦ omega (arith, ge, le)
    ]
  ]

  abbrev index : (h : Here ix) → HasItsStop stops idx.depth_of idx.place_of h
  index h = (let d = h.deep in idx.has h (omega (arith, d)))

  abbrev at_of : (h : Here ix) → IsAt stops (index h).index h
  at_of h =
      let x = index h in
      record {
        stop = x.stop;
        there = x.there;
        is =
            stop_moved ix h.depth (idx.depth_of x.index) h.place (idx.place_of x.index) x.stop (sym x.depth_is) (sym x.place_is) (idx.is x.index x.stop x.there);
      }

  block_at : (h : Here ix) (k : ℕ) (a : IsAt stops k h) → h.block ≡ a.stop.block
  block_at h k a = same_Some h.block a.stop.block (sym h.is ∙ ap (λ (p : Place). p.block) a.is)

  index_at : (h : Here ix) (k : ℕ) → IsAt stops k h → (idx.depth_of k ≡ h.depth) × (idx.place_of k ≡ h.place)
  index_at h k a =
      let g = here_at k a.stop a.there in
      let same : g.block ≡ h.block = sym (block_at h k a) in
      (same_depth g h same, same_place g h same)

  at_same : (h o : Here ix) (k : ℕ) → IsAt stops k h → o.depth ≡ h.depth → o.place ≡ h.place → IsAt stops k o
  at_same h o k a d p = record { stop = a.stop; there = a.there; is = stop_moved ix o.depth h.depth o.place h.place a.stop d p a.is }

  -- the order of the stops is that of their places
  earlier : (o h : Here ix) (j k : ℕ) → IsAt stops j o → IsAt stops k h → j < k → Precedes o h
  earlier o h j k b a lt =
      let p = index_at o j b in
      let q = index_at h k a in
      elim (idx.in_order j k lt (stop_inside stops k a.stop a.there)) [
        | inl less ↦ inl (omega (arith, p.0, q.0, less))
        | inr same ↦ inr (sym p.0 ∙ same.0 ∙ q.0, omega (arith, p.1, q.1, same.1))
      ]

  not_both : (o h : Here ix) → Precedes o h → Precedes h o → ⊥
  not_both o h (inl a) (inl b) = omega (arith, a, b)
  not_both o h (inl a) (inr b) = (let e = b.0 in omega (arith, a, e))
  not_both o h (inr a) (inl b) = (let e = a.0 in omega (arith, e, b))
  not_both o h (inr a) (inr b) = (let e = a.1 in let f = b.1 in omega (arith, e, f))

  not_same : (o h : Here ix) → Precedes o h → o.depth ≡ h.depth → o.place ≡ h.place → ⊥
  not_same o h (inl a) d p = omega (arith, a, d)
  not_same o h (inr a) d p = (let e = a.1 in omega (arith, e, p))

  index_before : (o h : Here ix) (k : ℕ) → IsAt stops k h → Precedes o h → (index o).index < k
  index_before o h k a before = elim (cases_lt (index o).index k) [
    | inl lt ↦ lt
    | inr ge ↦ elim (cases_eq (index o).index k) [
      | inl same ↦
          let p = index_at o (index o).index (at_of o) in
          let q = index_at h k a in
          absurd (not_same o h before (sym p.0 ∙ ap idx.depth_of same ∙ q.0) (sym p.1 ∙ ap idx.place_of same ∙ q.1))
      | inr differs ↦ absurd (not_both o h before (earlier h o k (index o).index a (at_of o) (omega (arith, ge, differs))))
    ]
  ]

  pub blocks_once : HaveBlocksOnce stops
  blocks_once j k s t e f same = elim (cases_lt j k) [
    | inl lt ↦ absurd (apart j k s t e f same lt)
    | inr ge ↦ elim (cases_lt k j) [
      | inl lt ↦ absurd (apart k j t s f e (sym same) lt)
      | inr le ↦ omega (arith, ge, le)
    ]
  ]
    where
      apart : (j k : ℕ) (s t : Stop) → slice_get stops j ≡ Some s → slice_get stops k ≡ Some t → s.block ≡ t.block → j < k → ⊥
      apart j k s t e f same lt =
          let o = here_at j s e in
          let h = here_at k t f in
          not_same o h (earlier o h j k (at_here j s e) (at_here k t f) lt) (same_depth o h same) (same_place o h same)

  pub stops_in_use : StopsAreInUse (length pages) stops
  stops_in_use k s there = (let on = idx.on_level k s there in (on.after_meta, on.in_use))

  -- the stop of a place
  stop_for : (h : Here ix) (b : ℕ) → b ≡ h.block → IsStopOf stops b (index h).stop
  stop_for h b same = record { place = (index h).index; there = (index h).there; is = sym (same ∙ block_at h (index h).index (at_of h)) }

  context_for : (h : Here ix) → context h ≡ context_at at (index h).stop
  context_for h = ap (λ (p : Place). p.context) (at_of h).is

  -- a page is on a chain if it has a stop
  no_stop_off : (b : ℕ) → HasNoStop stops b → IsOnChain ix b → ⊥
  no_stop_off b none on =
      let h : Here ix = record { depth = on.depth; place = on.place; block = b; deep = on.deep; is = on.is } in
      let f = stop_for h b refl in
      none f.place (index h).stop f.there f.is

  off_no_stop : (b : ℕ) → (IsOnChain ix b → ⊥) → HasNoStop stops b
  off_no_stop b off k s there same =
      let h = here_at k s there in
      off (record { depth = h.depth; place = h.place; deep = h.deep; is = h.is ∙ ap Some same })

  -- one stop
  module _ (k : ℕ) (s : Stop) (there : slice_get stops k ≡ Some s) where
    abbrev links : List Downlink
    links = from_low (high_at at s.low_at) (at s.block).links

    is_stop : (h : Here ix) → IsAt stops k h → IsStop ix h.depth h.place s
    is_stop h a = subst (IsStop ix h.depth h.place) (same_Some a.stop s (sym a.there ∙ there)) a.is

    block_is : (h : Here ix) → IsAt stops k h → h.block ≡ s.block
    block_is h a = same_Some h.block s.block (sym h.is ∙ ap (λ (p : Place). p.block) (is_stop h a))

    context_is : (h : Here ix) → IsAt stops k h → context h ≡ context_at at s
    context_is h a = ap (λ (p : Place). p.context) (is_stop h a)

    item_get : (h : Here ix) → IsAt stops k h → (i : Item h) → slice_get links i.item ≡ Some i.link
    item_get h a i =
        subst (λ (b : ℕ). slice_get (from_low (high_at at s.low_at) (at b).links) i.item ≡ Some i.link) (block_is h a)
        (subst (λ (t : LeftContext). slice_get (from_low t.low (node h).links) i.item ≡ Some i.link) (context_is h a) i.is)

    abbrev item_make : (h : Here ix) → IsAt stops k h → (n : ℕ) (link : Downlink) → slice_get links n ≡ Some link → Item h
    item_make h a n link found = record {
      item = n;
      link = link;
      is = subst (λ (t : LeftContext). slice_get (from_low t.low (node h).links) n ≡ Some link) (sym (context_is h a))
          (subst (λ (b : ℕ). slice_get (from_low (high_at at s.low_at) (at b).links) n ≡ Some link) (sym (block_is h a)) found);
    }

    level_at : (h : Here ix) → IsAt stops k h → (at s.block).level + h.depth ≡ ix.top
    level_at h a = ap (λ (b : ℕ). (at b).level + h.depth) (sym (block_is h a)) ∙ (on_level h).level_is

    pub stop_low : (at s.block).level ≤ ix.top
    stop_low = (let l = level_at (here_at k s there) (at_here k s there) in omega (arith, l))

    -- children
    module _ (depth : ℕ) (sum : (at s.block).level + depth ≡ ix.top) where
      depth_is : (h : Here ix) → IsAt stops k h → depth ≡ h.depth
      depth_is h a = (let l = level_at h a in omega (arith, l, sum))

      pub children_below : AreBelow ix depth links → AreChildrenBelow ix stops k
      children_below below h a i = subst (λ (d : ℕ). IsOnLevel ix (suc d) i.link.child) (depth_is h a) (below i.item i.link (item_get h a i))

      pub child_off : (child : ℕ) → IsOff ix depth links child → IsFirstAt ix stops k 1 child
      child_off child f =
          let h = here_at k s there in
          let a = at_here k s there in
          record {
            is = inl (record {
              here = h;
              at = a;
              item = item_make h a f.item f.link f.there;
              one = refl;
              off = λ on. f.off (subst (λ (d : ℕ). IsOnLevel ix (suc d) f.link.child) (sym (depth_is h a)) on);
              block_is = f.child_is;
              first = λ g b j lt. subst (λ (d : ℕ). IsOnLevel ix (suc d) j.link.child) (depth_is g b) (f.first j.item j.link lt (item_get g b j));
            });
          }

    -- bounds
    bound_wrong : (h : Here ix) → IsAt stops k h → HasWrongBound at stops links → (i : Item h) × (child : Here ix) × (i.link.child ≡ child.block) × (i.link.bound ≢ (context child).low)
    bound_wrong h a w =
        let f = w.wrong.is in (
          item_make h a w.item w.link w.there,
          here_at f.place w.wrong.stop f.there,
          sym f.is,
          λ same. w.wrong.differs (same ∙ ap (λ (p : Place). p.context.low) (idx.is f.place w.wrong.stop f.there)),
        )

    wrong_bound : (h : Here ix) → IsAt stops k h → (i : Item h) (child : Here ix) → i.link.child ≡ child.block → i.link.bound ≢ (context child).low → HasWrongBound at stops links
    wrong_bound h a i child leads differs = record {
      item = i.item;
      link = i.link;
      there = item_get h a i;
      wrong = record {
        stop = (index child).stop;
        is = stop_for child i.link.child leads;
        differs = λ same. differs (same ∙ sym (ap (λ (t : LeftContext). t.low) (context_for child)));
      };
    }

    unlinked_skipped : (h : Here ix) → IsAt stops k h → IsUnlinked h → IsSkipped (at s.block) s.left_is_split
    unlinked_skipped h a (inl dead) = record { is = inl (ap (λ (b : ℕ). (at b).state) (sym (block_is h a)) ∙ dead) }
    unlinked_skipped h a (inr left_is_split) = record { is = inr (ap (λ (t : LeftContext). t.left_is_split) (sym (context_is h a)) ∙ left_is_split) }

    skipped_unlinked : (h : Here ix) → IsAt stops k h → IsSkipped (at s.block) s.left_is_split → IsUnlinked h
    skipped_unlinked h a w = by w.is
      where
        by : ((at s.block).state ≡ HalfDead) ⊎ (s.left_is_split ≡ true) → IsUnlinked h
        by (inl dead) = inl (ap (λ (b : ℕ). (at b).state) (block_is h a) ∙ dead)
        by (inr left_is_split) = inr (ap (λ (t : LeftContext). t.left_is_split) (context_is h a) ∙ left_is_split)

    module _ (linked : List Bool) (marks : AreMarked ix stops k linked) (clear : (j : ℕ) → j < k → IsClearAt ix stops j) where
      -- a page that lacks its downlink
      link_lacks : (h : Here ix) → IsAt stops k h → LacksLink ix.top (at s.block) s.left_is_split (get_or linked s.block false)
          → (0 < h.depth) × (IsUnlinked h → ⊥) × ((above : Here ix) (i : Item above) → above.depth < h.depth → i.link.child ≢ h.block)
      link_lacks h a w = (
        (let l = level_at h a in let b = w.below in omega (arith, l, b)),
        λ u. w.may (unlinked_skipped h a u),
        λ above i lt same.
            let marked = marks.all s.block
            (record { page = above; item = i; index = (index above).index; before = index_before above h k a (inl lt); at = at_of above; leads = same ∙ block_is h a }) in
            true≢false (sym marked ∙ w.none),
      )

      lacks_link : (h : Here ix) → IsAt stops k h → 0 < h.depth → (IsUnlinked h → ⊥) → ((above : Here ix) (i : Item above) → above.depth < h.depth → i.link.child ≢ h.block)
          → LacksLink ix.top (at s.block) s.left_is_split (get_or linked s.block false)
      lacks_link h a deep may none = record {
        below = (let l = level_at h a in omega (arith, l, deep));
        may = λ w. may (skipped_unlinked h a w);
        none = bool_so (get_or linked s.block false) (λ marked.
            let led = marks.from s.block marked in
            let on = (clear led.index led.before).children led.page led.at led.item in
            let l = on.level_is in
            let m = level_at h a in
            let one : (at led.item.link.child).level ≡ (at s.block).level = ap (λ (b : ℕ). (at b).level) led.leads in
            none led.page led.item (omega (arith, l, m, one)) (led.leads ∙ sym (block_is h a)));
      }

      -- a downlink too many
      extra_is : (h : Here ix) → IsAt stops k h → HasExtra at stops linked links
          → (i : Item h) × ((IsOnChain ix i.link.child → ⊥) ⊎ ((child : Here ix) × (i.link.child ≡ child.block) × IsUnlinked child) ⊎ IsSecond i)
      extra_is h a w = (item_make h a w.item w.link w.there, by w.wrong)
        where
          seconds : ((o : Here ix) × Precedes o h × (i : Item o) × (i.link.child ≡ w.link.child)) → IsSecond (item_make h a w.item w.link w.there)
          seconds o = record { page = o.0; first = o.2; earlier = elim o.1 [ inl lt ↦ inl lt | inr p ↦ inr (p.0, inl p.1) ]; same = o.3 }

          told : HasNoStop stops w.link.child ⊎ IsSkippedStop at stops w.link.child ⊎ (get_or linked w.link.child false ≡ true)
              → (IsOnChain ix w.link.child → ⊥) ⊎ ((child : Here ix) × (w.link.child ≡ child.block) × IsUnlinked child) ⊎ IsSecond (item_make h a w.item w.link w.there)
          told (inl none) = inl (no_stop_off w.link.child none)
          told (inr (inl sk)) =
              let child = here_at sk.is.place sk.stop sk.is.there in
              let context_there : context child ≡ context_at at sk.stop = ap (λ (p : Place). p.context) (idx.is sk.is.place sk.stop sk.is.there) in
              inr (inl (child, sym sk.is.is, elim sk.skipped.is [ inl dead ↦ inl dead | inr left_is_split ↦ inr (ap (λ (t : LeftContext). t.left_is_split) context_there ∙ left_is_split) ]))
          told (inr (inr marked)) =
              let led = marks.from w.link.child marked in
              inr (inr (seconds (led.page, earlier led.page h led.index k led.at a led.before, led.item, led.leads)))

          by : IsExtra at stops linked w.link.child ⊎ LeadsBefore links w.item w.link.child
              → (IsOnChain ix w.link.child → ⊥) ⊎ ((child : Here ix) × (w.link.child ≡ child.block) × IsUnlinked child) ⊎ IsSecond (item_make h a w.item w.link w.there)
          by (inl extra) = told extra.is
          by (inr led) = inr (inr (record { page = h; first = item_make h a led.earlier led.link led.there; earlier = inr (refl, inr (refl, inl led.before)); same = led.leads }))

      is_extra : (h : Here ix) → IsAt stops k h → (i : Item h) → ((IsOnChain ix i.link.child → ⊥) ⊎ ((child : Here ix) × (i.link.child ≡ child.block) × IsUnlinked child) ⊎ IsSecond i)
          → HasExtra at stops linked links
      is_extra h a i w = record { item = i.item; link = i.link; there = item_get h a i; wrong = by w }
        where
          marked : (o : Here ix) → Precedes o h → (j : Item o) → j.link.child ≡ i.link.child → IsExtra at stops linked i.link.child
          marked o before j same =
              record { is = inr (inr (marks.all i.link.child (record { page = o; item = j; index = (index o).index; before = index_before o h k a before; at = at_of o; leads = same }))) }

          second : (o : Here ix) (j : Item o) → ComesBefore (o.depth ∷ o.place ∷ j.item ∷ []) (h.depth ∷ h.place ∷ i.item ∷ []) → j.link.child ≡ i.link.child
              → IsExtra at stops linked i.link.child ⊎ LeadsBefore links i.item i.link.child
          second o j (inl lt) same = inl (marked o (inl lt) j same)
          second o j (inr (d, inl lt)) same = inl (marked o (inr (d, lt)) j same)
          second o j (inr (d, inr (p, inl lt))) same = inr (record { earlier = j.item; link = j.link; before = lt; there = item_get o (at_same h o k a d p) j; leads = same })
          second o j (inr (d, inr (p, inr (e, end)))) same = absurd end

          by : ((IsOnChain ix i.link.child → ⊥) ⊎ ((child : Here ix) × (i.link.child ≡ child.block) × IsUnlinked child) ⊎ IsSecond i)
              → IsExtra at stops linked i.link.child ⊎ LeadsBefore links i.item i.link.child
          by (inl off) = inl (record { is = inl (off_no_stop i.link.child off) })
          by (inr (inl u)) = inl (record { is = inr (inl (record { stop = (index u.0).stop; is = stop_for u.0 i.link.child u.1; skipped = skipped u.0 u.2 })) })
            where
              skipped : (child : Here ix) → IsUnlinked child → IsSkipped (at (index child).stop.block) (index child).stop.left_is_split
              skipped child (inl dead) = record { is = inl (ap (λ (b : ℕ). (at b).state) (sym (block_at child (index child).index (at_of child))) ∙ dead) }
              skipped child (inr left_is_split) = record { is = inr (ap (λ (t : LeftContext). t.left_is_split) (sym (context_for child)) ∙ left_is_split) }
          by (inr (inr q)) = second q.page q.first q.earlier q.same

      -- what is wrong at the stop is a damage there, and the other way round
      abbrev Wrong : ℕ → Type 0
      Wrong = IsWrongAmong at stops linked links ix.top (at s.block) s

      damage_is : (h : Here ix) (n : ℕ) → IsAt stops k h → Wrong n → IsOfParents h n
      damage_is h n a w = by w.is
        where
          by : ((n ≡ 7) × HasWrongBound at stops links) ⊎ ((n ≡ 8) × LacksLink ix.top (at s.block) s.left_is_split (get_or linked s.block false))
              ⊎ ((n ≡ 9) × HasExtra at stops linked links) → IsOfParents h n
          by (inl x) = (let r = bound_wrong h a x.1 in inl (x.0, r.0, r.1, r.2, r.3))
          by (inr (inl x)) = (let r = link_lacks h a x.1 in inr (inl (x.0, r.0, r.1, r.2)))
          by (inr (inr x)) = (let r = extra_is h a x.1 in inr (inr (x.0, r.0, r.1)))

      wrong_is : (h : Here ix) (n : ℕ) → IsAt stops k h → IsOfParents h n → Wrong n
      wrong_is h n a (inl x) = record { is = inl (x.0, wrong_bound h a x.1 x.2 x.3 x.4) }
      wrong_is h n a (inr (inl x)) = record { is = inr (inl (x.0, lacks_link h a x.1 x.2 x.3)) }
      wrong_is h n a (inr (inr x)) = record { is = inr (inr (x.0, is_extra h a x.1 x.2)) }

      pub page_first : (n : ℕ) → AreChildrenBelow ix stops k → IsLeastNumber Wrong (Some n) → IsFirstAt ix stops k n s.block
      page_first n children least = record {
        is = inr (record {
          here = here_at k s there;
          at = at_here k s there;
          children = children;
          is = damage_is (here_at k s there) n (at_here k s there) least.0;
          block_is = refl;
          first = λ h m a lt damage. least.1 m lt (wrong_is h m a damage);
        });
      }

      pub page_clear : AreChildrenBelow ix stops k → IsLeastNumber Wrong None → IsClearAt ix stops k
      page_clear children least = record { children = children; page = λ h n a damage. least n (wrong_is h n a damage) }

      -- the marks after this stop
      pub marked_more : (after : List Bool) (count : ℕ) → count ≡ length (at s.block).links → DownlinksAreNoted links count linked after → AreMarked ix stops (suc k) after
      marked_more after count is noted = record {
        from = λ b e. elim (noted.from b e) [
          | inl old ↦ let led = marks.from b old in let lt = led.before in record { page = led.page; item = led.item; index = led.index; before = omega (arith, lt); at = led.at; leads = led.leads }
          | inr new ↦ record {
            page = here_at k s there;
            item = item_make (here_at k s there) (at_here k s there) new.earlier new.link new.there;
            index = k;
            before = omega arith;
            at = at_here k s there;
            leads = new.leads;
          }
        ];
        all = λ b led. elim (cases_eq led.index k) [
          | inl same ↦
              let a : IsAt stops k led.page = subst (λ (j : ℕ). IsAt stops j led.page) same led.at in
              let found = item_get led.page a led.item in
              noted.new b (record {
                earlier = led.item.item;
                link = led.item.link;
                before = (let lt = item_inside (high_at at s.low_at) (at s.block).links led.item.item led.item.link found in omega (arith, lt, is));
                there = found;
                leads = led.leads;
              })
          | inr differs ↦
              let lt = led.before in
              noted.kept b (marks.all b (record { page = led.page; item = led.item; index = led.index; before = omega (arith, lt, differs); at = led.at; leads = led.leads }))
        ];
      }

  -- the first damage of the first stop that isn't clear is the first of all
  module _ (k number block : ℕ) (clear : (j : ℕ) → j < k → IsClearAt ix stops j) where
    child_before : (h o : Here ix) → IsAt stops k h → Precedes o h → (i : Item o) → (IsOnLevel ix (suc o.depth) i.link.child → ⊥) → ⊥
    child_before h o a before i off = off ((clear (index o).index (index_before o h k a before)).children o (at_of o) i)

    page_before : (h o : Here ix) → IsAt stops k h → Precedes o h → (n : ℕ) → IsOfParents o n → ⊥
    page_before h o a before n damage = (clear (index o).index (index_before o h k a before)).page o n (at_of o) damage

    child_first : (f : IsFirstChild ix stops k number block) (other : Site ix) (n : ℕ) → IsDamage true false other n
        → ComesBefore (rank other n) (1 ∷ f.here.depth ∷ f.here.place ∷ number ∷ f.item.item ∷ []) → ⊥
    child_first f (on_way d s e) n damage before = sound (on_way d s e) n damage
    child_first f (on_chain h) n damage before = sound (on_chain h) n damage
    child_first f (at_child o i) n damage (inl lt) = omega (arith, lt)
    child_first f (at_child o i) n damage (inr (same, inl lt)) = child_before f.here o f.at (inl lt) i damage.2
    child_first f (at_child o i) n damage (inr (same, inr (d, inl lt))) = child_before f.here o f.at (inr (d, lt)) i damage.2
    child_first f (at_child o i) n damage (inr (same, inr (d, inr (p, inl lt)))) = (let m = damage.1 in let one = f.one in omega (arith, m, one, lt))
    child_first f (at_child o i) n damage (inr (same, inr (d, inr (p, inr (e, inl lt))))) = damage.2 (f.first o (at_same f.here o k f.at d p) i lt)
    child_first f (at_child o i) n damage (inr (same, inr (d, inr (p, inr (e, inr (t, end)))))) = end
    child_first f (at_page o) n damage (inl lt) = omega (arith, lt)
    child_first f (at_page o) n damage (inr (same, inl lt)) = page_before f.here o f.at (inl lt) n damage.1
    child_first f (at_page o) n damage (inr (same, inr (d, inl lt))) = page_before f.here o f.at (inr (d, lt)) n damage.1
    child_first f (at_page o) n damage (inr (same, inr (d, inr (p, inl lt)))) = (let large = number_large o n damage.1 in let one = f.one in omega (arith, large, one, lt))
    child_first f (at_page o) n damage (inr (same, inr (d, inr (p, inr (e, more))))) = (let large = number_large o n damage.1 in let one = f.one in omega (arith, large, one, e))
    child_first f (nowhere b) n damage (inl lt) = omega (arith, lt)
    child_first f (nowhere b) n damage (inr (same, more)) = omega (arith, same)

    page_first_of : (f : IsFirstOfPage ix stops k number block) (other : Site ix) (n : ℕ) → IsDamage true false other n
        → ComesBefore (rank other n) (1 ∷ f.here.depth ∷ f.here.place ∷ number ∷ 0 ∷ []) → ⊥
    page_first_of f (on_way d s e) n damage before = sound (on_way d s e) n damage
    page_first_of f (on_chain h) n damage before = sound (on_chain h) n damage
    page_first_of f (at_child o i) n damage (inl lt) = omega (arith, lt)
    page_first_of f (at_child o i) n damage (inr (same, inl lt)) = child_before f.here o f.at (inl lt) i damage.2
    page_first_of f (at_child o i) n damage (inr (same, inr (d, inl lt))) = child_before f.here o f.at (inr (d, lt)) i damage.2
    page_first_of f (at_child o i) n damage (inr (same, inr (d, inr (p, more)))) = damage.2 (f.children o (at_same f.here o k f.at d p) i)
    page_first_of f (at_page o) n damage (inl lt) = omega (arith, lt)
    page_first_of f (at_page o) n damage (inr (same, inl lt)) = page_before f.here o f.at (inl lt) n damage.1
    page_first_of f (at_page o) n damage (inr (same, inr (d, inl lt))) = page_before f.here o f.at (inr (d, lt)) n damage.1
    page_first_of f (at_page o) n damage (inr (same, inr (d, inr (p, inl lt)))) = f.first o n (at_same f.here o k f.at d p) lt damage.1
    page_first_of f (at_page o) n damage (inr (same, inr (d, inr (p, inr (e, inl lt))))) = omega (arith, lt)
    page_first_of f (at_page o) n damage (inr (same, inr (d, inr (p, inr (e, inr (t, end)))))) = end
    page_first_of f (nowhere b) n damage (inl lt) = omega (arith, lt)
    page_first_of f (nowhere b) n damage (inr (same, more)) = omega (arith, same)

    pub first_parent : IsFirstAt ix stops k number block → IsFirstDamage true false pages number block
    first_parent f = by f.is
      where
        by : IsFirstChild ix stops k number block ⊎ IsFirstOfPage ix stops k number block → IsFirstDamage true false pages number block
        by (inl c) = record { site = at_child c.here c.item; is = (refl, c.one, c.off); block_is = c.block_is; first = λ other n damage before. child_first c other n damage before }
        by (inr p) = record { site = at_page p.here; is = (refl, p.is); block_is = p.block_is; first = λ other n damage before. page_first_of p other n damage before }

  -- if every stop is clear, pages on no chain are left
  module _ (clear : (k : ℕ) → k < length stops → IsClearAt ix stops k) where
    clear_of : (h : Here ix) → IsClearAt ix stops (index h).index
    clear_of h = clear (index h).index (stop_inside stops (index h).index (index h).stop (index h).there)

    not_stray : (site : Site ix) (n : ℕ) → IsDamage true false site n → (b : ℕ) × (n ≡ 11) × damages.IsStray ix b × (rank site n ≡ 2 ∷ b ∷ [])
    not_stray (on_way d s e) n damage = absurd (sound (on_way d s e) n damage)
    not_stray (on_chain h) n damage = absurd (sound (on_chain h) n damage)
    not_stray (at_child h i) n damage = absurd (damage.2 ((clear_of h).children h (at_of h) i))
    not_stray (at_page h) n damage = absurd ((clear_of h).page h n (at_of h) damage.1)
    not_stray (nowhere b) n damage = (b, damage.1, damage.2, refl)

    module _ (met : List ℕ) (met_is : met ≡ stop_blocks stops) where
      stray_there : (b : ℕ) → damages.IsStray ix b → IsNotMet pages met b
      stray_there b w = record {
        after_meta = w.0;
        in_use = w.1;
        stands = w.2;
        unmet = λ i.
            let t = stop_of stops b (subst (IsIn b) met_is i) in
            let h = here_at t.place t.stop t.there in
            w.3 (record { depth = h.depth; place = h.place; deep = h.deep; is = h.is ∙ ap Some (sym t.is) });
      }

      stray_back : (b : ℕ) → IsNotMet pages met b → damages.IsStray ix b
      stray_back b w = (
        w.after_meta,
        w.in_use,
        w.stands,
        λ on.
            let h : Here ix = record { depth = on.depth; place = on.place; block = b; deep = on.deep; is = on.is } in
            let f = stop_for h b refl in
            w.unmet (subst (IsIn b) (sym met_is) (subst (λ (c : ℕ). IsIn c (stop_blocks stops)) f.is (in_blocks stops f.place (index h).stop f.there))),
      )

      pub all_sound : ((b : ℕ) → IsNotMet pages met b → ⊥) → IsSound true false pages
      all_sound none site n damage = (let r = not_stray site n damage in none r.0 (stray_there r.0 r.2))

      pub first_stray : (b : ℕ) → IsNotMet pages met b → ((c : ℕ) → c < b → IsNotMet pages met c → ⊥) → IsFirstDamage true false pages 11 b
      first_stray b stray least = record {
        site = nowhere b;
        is = (refl, refl, stray_back b stray);
        block_is = refl;
        first = λ other n damage before.
            let r = not_stray other n damage in
            by r.0 r.2 (subst (λ (l : List ℕ). ComesBefore l (2 ∷ b ∷ [])) r.3 before);
      }
        where
          by : (c : ℕ) → damages.IsStray ix c → ComesBefore (2 ∷ c ∷ []) (2 ∷ b ∷ []) → ⊥
          by c w (inl lt) = omega (arith, lt)
          by c w (inr (same, inl lt)) = least c lt (stray_there c w)
          by c w (inr (same, inr (e, end))) = end
