-- Where neither a chain nor parents and children are damaged, each level has the downlinks that the level
-- below is to have.
use Rattle.std.proofs.Common.{◌≡◌, ◌≢◌, ◌⊎◌, ℕ, suc, ◌+◌, ◌-◌, ◌≤◌, inl, inr, true, false, Some, List, take, slice_get, refl, sym, ap, subst, ◌∙◌, arith}
use Rattle.damages.proofs.Ascending.{IsDownlinkAmong, same_list, due_ascend, down_ascend}
use Rattle.damages.proofs.Imports.{Downlink, Page, PageState, Live, HalfDead, Deleted, Node, nodes_of, LeftContext, context_after, first_context, due_links, from_low, downlinks, FitsState, IsIn, Index}
use Rattle.damages.proofs.Imports.{index_of, Place, place_at, Here, Item, context, IsOnLevel, IsOnChain, IsUnlinked, IsSound, at_child, at_page, StandAtTheirBlocks, is_in_or, false≢true}
use Rattle.damages.proofs.Decided.{bound_so, bool_so, on_level_so}
use Rattle.damages.proofs.Levels.{chain_at, right_at, place_told, block_at, distinct_at, run_at}
use Rattle.damages.proofs.Linking.{leads_or, had, has, HasDueDownlink, due, is_due}
use Rattle.damages.proofs.Places.{at_from, in_from, one_place}

pub live_so : (state : PageState) (level : ℕ) (s : LeftContext) (n : Node) → FitsState state level s n → state ≢ HalfDead → state ≡ Live
live_so Live level s n f stands = refl
live_so HalfDead level s n f stands = absurd (stands refl)
live_so Deleted level s n f stands = absurd f

module _ (pages : List Page) (stand : StandAtTheirBlocks pages) (sound : IsSound true false pages) where
  abbrev ix : Index
  ix = index_of pages

  abbrev at : ℕ → Node
  at = nodes_of pages

  -- a block is on a chain, or on none
  pub chain_or : (b : ℕ) → IsOnChain ix b ⊎ (IsOnChain ix b → ⊥)
  chain_or b = elim (is_in_or b (chain_at pages (ix.top - (at b).level))) [
    | inl i ↦
        let a = at_from b (chain_at pages (ix.top - (at b).level)) i in
        inl (record {
          depth = ix.top - (at b).level;
          place = a.place;
          deep = omega arith;
          is = block_at true pages stand sound (ix.top - (at b).level) (ix.top - (ix.top - (at b).level)) (omega arith) (omega arith) a.place b a.is;
        })
    | inr none' ↦ inr (λ on. off on none')
  ]
    where
      off : IsOnChain ix b → ((c : ℕ) → IsIn c (chain_at pages (ix.top - (at b).level)) → c ≢ b) → ⊥
      off on none' =
          let deep = on.deep in
          let there = (right_at true pages stand sound on.depth (ix.top - on.depth) (omega arith) (omega arith) on.place b on.is).on_level in
          let l = there.level_is in
          let same : on.depth ≡ ix.top - (at b).level = omega arith in
          let i = in_from b (chain_at pages on.depth) on.place
          (sym (ap (λ (p : Place). p.block) (place_told true pages stand sound on.depth (ix.top - on.depth) (omega arith) (omega arith) on.place)) ∙ on.is) in
          none' b (subst (λ (d : ℕ). IsIn b (chain_at pages d)) same i) refl

  -- an upper level and the one below it
  module _ (depth level : ℕ) (deep : suc depth ≤ ix.top) (sum : level + suc depth ≡ ix.top) where
    abbrev upper : List ℕ
    upper = chain_at pages depth

    abbrev lower : List ℕ
    lower = chain_at pages (suc depth)

    upper_told : (n : ℕ) → place_at ix depth n ≡ record { context = context_after at first_context (take n upper); block = slice_get upper n }
    upper_told = place_told true pages stand sound depth (suc level) (omega arith) (omega arith)

    lower_told : (n : ℕ) → place_at ix (suc depth) n ≡ record { context = context_after at first_context (take n lower); block = slice_get lower n }
    lower_told = place_told true pages stand sound (suc depth) level deep sum

    -- what an item leads to is due
    item_due : (h : Here ix) (i : Item h) → h.depth ≡ depth → IsDownlinkAmong i.link (due_links at first_context lower)
    item_due h i same = by (chain_or i.link.child)
      where
        on_level : IsOnLevel ix (suc h.depth) i.link.child
        on_level = on_level_so ix (suc h.depth) i.link.child (λ fails. sound (at_child h i) 1 (refl, refl, fails))

        on_chain : IsOnChain ix i.link.child → IsDownlinkAmong i.link (due_links at first_context lower)
        on_chain on = at_depth on.depth on.place on.deep on.is level_is
          where
            level_is : on.depth ≡ suc depth
            level_is =
                let deep = on.deep in
                let there = (right_at true pages stand sound on.depth (ix.top - on.depth) (omega arith) (omega arith) on.place i.link.child on.is).on_level in
                let l = there.level_is in
                let m = on_level.level_is in
                omega (arith, l, m, same)

            at_depth : (d place : ℕ) → d ≤ ix.top → (place_at ix d place).block ≡ Some i.link.child → d ≡ suc depth
                → IsDownlinkAmong i.link (due_links at first_context lower)
            at_depth d place d_deep d_is d_same = at_place (subst (λ (n : ℕ). (place_at ix n place).block ≡ Some i.link.child) d_same d_is)
              where
                at_place : (place_at ix (suc depth) place).block ≡ Some i.link.child → IsDownlinkAmong i.link (due_links at first_context lower)
                at_place is =
                    let child : Here ix = record { depth = suc depth; place = place; block = i.link.child; deep = deep; is = is } in
                    let right = right_at true pages stand sound (suc depth) level deep sum place i.link.child is in
                    let linked : IsUnlinked child → ⊥ = (λ u. sound (at_page h) 9 (refl, inr (inr (refl, i, inr (inl (child, refl, u)))))) in
                    let told = lower_told place in
                    is_due at first_context lower place i.link
                    (sym (ap (λ (p : Place). p.block) told) ∙ is)
                    (bound_so i.link.bound (context child).low (λ differ. sound (at_page h) 7 (refl, inl (refl, i, child, refl, differ))) ∙ ap (λ (p : Place). p.context.low) told)
                    (live_so (at i.link.child).state level (place_at ix (suc depth) place).context (at i.link.child) right.placed.fits (λ dead. linked (inl dead)))
                    (sym (ap (λ (p : Place). p.context.left_is_split) told) ∙ bool_so (context child).left_is_split (λ left_is_split. linked (inr left_is_split)))

        by : IsOnChain ix i.link.child ⊎ (IsOnChain ix i.link.child → ⊥) → IsDownlinkAmong i.link (due_links at first_context lower)
        by (inl on) = on_chain on
        by (inr off) = absurd (sound (at_page h) 9 (refl, inr (inr (refl, i, inl off))))

    had_due : (d : Downlink) → IsDownlinkAmong d (downlinks at first_context upper) → IsDownlinkAmong d (due_links at first_context lower)
    had_due d among =
        let a = had at first_context upper d among in
        let told = upper_told a.place in
        let h : Here ix = record { depth = depth; place = a.place; block = a.block; deep = omega arith; is = ap (λ (p : Place). p.block) told ∙ a.there } in
        let i : Item h = record { item = a.item; link = d; is = subst (λ (s : LeftContext). slice_get (from_low s.low (at a.block).links) a.item ≡ Some d) (sym (ap (λ (p : Place). p.context) told)) a.is } in
        item_due h i refl

    -- an item of a page on this level is one of the level's
    item_had : (h : Here ix) (i : Item h) → h.depth ≡ depth → IsDownlinkAmong i.link (downlinks at first_context upper)
    item_had h i same = at_depth h.depth h.place h.block h.is i.is same
      where
        at_depth : (d place block : ℕ) → (place_at ix d place).block ≡ Some block
            → slice_get (from_low (place_at ix d place).context.low (at block).links) i.item ≡ Some i.link
            → d ≡ depth → IsDownlinkAmong i.link (downlinks at first_context upper)
        at_depth d place block is found d_same =
            let told = upper_told place in
            has at first_context upper place block i.item i.link
            (sym (ap (λ (p : Place). p.block) told) ∙ subst (λ (n : ℕ). (place_at ix n place).block ≡ Some block) d_same is)
            (subst (λ (s : LeftContext). slice_get (from_low s.low (at block).links) i.item ≡ Some i.link) (ap (λ (p : Place). p.context) told)
            (subst (λ (n : ℕ). slice_get (from_low (place_at ix n place).context.low (at block).links) i.item ≡ Some i.link) d_same found))

    -- what is due is there
    due_had : (d : Downlink) → IsDownlinkAmong d (due_links at first_context lower) → IsDownlinkAmong d (downlinks at first_context upper)
    due_had d among = by (leads_or d.child (downlinks at first_context upper))
      where
        a : HasDueDownlink at first_context lower d
        a = due at first_context lower d among

        is : (place_at ix (suc depth) a.place).block ≡ Some d.child
        is = ap (λ (p : Place). p.block) (lower_told a.place) ∙ a.there

        not_unlinked : IsUnlinked {ix = ix} (record { depth = suc depth; place = a.place; block = d.child; deep = deep; is = is }) → ⊥
        not_unlinked (inl dead) = differ (sym a.alive ∙ dead)
          where
            differ : Live ≡ HalfDead → ⊥
            differ e = cc
        not_unlinked (inr left_is_split) = false≢true (sym a.clear ∙ sym (ap (λ (p : Place). p.context.left_is_split) (lower_told a.place)) ∙ left_is_split)

        alone : ((e : Downlink) → IsDownlinkAmong e (downlinks at first_context upper) → e.child ≢ d.child) → ⊥
        alone none' =
            sound (at_page (record { depth = suc depth; place = a.place; block = d.child; deep = deep; is = is })) 8 (
              refl,
              inr (inl (
                refl,
                omega arith,
                not_unlinked,
                λ above i lt same.
                    let above_is = on_level_so ix (suc above.depth) i.link.child (λ fails. sound (at_child above i) 1 (refl, refl, fails)) in
                    let own_is = (right_at true pages stand sound (suc depth) level deep sum a.place d.child is).on_level in
                    let u = above_is.level_is in
                    let l = own_is.level_is in
                    let one : (at i.link.child).level ≡ (at d.child).level = ap (λ (b : ℕ). (at b).level) same in
                    none' i.link (item_had above i (omega (arith, u, l, one))) same,
              )),
            )

        same_due : (e : Downlink) → IsDownlinkAmong e (downlinks at first_context upper) → e.child ≡ d.child → e ≡ d
        same_due e i child =
            let b = due at first_context lower e (had_due e i) in
            let place : b.place ≡ a.place = one_place lower b.place a.place d.child (distinct_at true pages stand sound (suc depth) level deep sum) (b.there ∙ ap Some child) a.there in
            let bound : e.bound ≡ d.bound = b.bound ∙ ap (λ (n : ℕ). (context_after at first_context (take n lower)).low) place ∙ sym a.bound in
            λ j. record { bound = bound j; child = child j }

        by : ((e : Downlink) × IsDownlinkAmong e (downlinks at first_context upper) × (e.child ≡ d.child)) ⊎ ((e : Downlink) → IsDownlinkAmong e (downlinks at first_context upper) → e.child ≢ d.child)
            → IsDownlinkAmong d (downlinks at first_context upper)
        by (inl found) = subst (λ (z : Downlink). IsDownlinkAmong z (downlinks at first_context upper)) (same_due found.0 found.1 found.2) found.1
        by (inr none') = absurd (alone none')

    pub parents_are : downlinks at first_context upper ≡ due_links at first_context lower
    parents_are = same_list (downlinks at first_context upper) (due_links at first_context lower)
        (down_ascend at level first_context upper (run_at true pages stand sound depth (suc level) (omega arith) (omega arith)))
        (due_ascend at level first_context lower (run_at true pages stand sound (suc depth) level deep sum))
        had_due due_had
