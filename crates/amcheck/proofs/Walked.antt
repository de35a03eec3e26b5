-- A walk along a chain, as far as it has come.
use Rattle.std.proofs.Common.{◌≡◌, ◌⊎◌, ℕ, zero, suc, ◌<◌, inl, inr, Some, None, List, [], ◌∷◌, ◌++◌, length, length-append, append_assoc, slice_get, refl, sym, ap, subst, ◌∙◌, arith}
use Rattle.damages.proofs.Places.{one_place}
use Rattle.amcheck.specs.declared.walks.WalkEnd.TheVariants as ends
use Rattle.amcheck.proofs.Imports.{Page, nodes_of, past, IsIn, AreDistinct, in_append_cases, apart_back, Index, index_of, Place, next_place, place_at, IsOnLevel, no_link, IsMet, context_at, same_Some}
use Rattle.amcheck.proofs.Imports.{stop_blocks, IsStop, AreStops, IsChainEnd, IsEarlier, Met, Stop, few_blocks}

pub blocks_more : (ss : List Stop) (s : Stop) → stop_blocks (ss ++ s ∷ []) ≡ stop_blocks ss ++ s.block ∷ []
blocks_more [] s = refl
blocks_more (x ∷ ss) s = ap (λ (bs : List ℕ). x.block ∷ bs) (blocks_more ss s)

pub blocks_length : (ss : List Stop) → length (stop_blocks ss) ≡ length ss
blocks_length [] = refl
blocks_length (x ∷ ss) = (let r = blocks_length ss in omega (arith, r))

block_there : (ss : List Stop) (k : ℕ) (s : Stop) → slice_get ss k ≡ Some s → slice_get (stop_blocks ss) k ≡ Some s.block
block_there [] k s e = absurd (no_link e)
block_there (x ∷ ss) zero s e = ap (λ (t : Stop). Some t.block) (same_Some x s e)
block_there (x ∷ ss) (suc k) s e = block_there ss k s e

-- a block of these stops is one of them
pub record HasStop (ss : List Stop) (b : ℕ) : Type 0 where
  pub place : ℕ
  pub stop : Stop
  pub there : slice_get ss place ≡ Some stop
  pub is : b ≡ stop.block
  pub inside : place < length ss

pub stop_of : (ss : List Stop) (b : ℕ) → IsIn b (stop_blocks ss) → HasStop ss b
stop_of [] b i = absurd i
stop_of (x ∷ ss) b (inl e) = record { place = 0; stop = x; there = refl; is = e; inside = omega arith }
stop_of (x ∷ ss) b (inr i) = (let r = stop_of ss b i in let lt = r.inside in record { place = suc r.place; stop = r.stop; there = r.there; is = r.is; inside = omega arith })

pub stop_inside : (ss : List Stop) (k : ℕ) (s : Stop) → slice_get ss k ≡ Some s → k < length ss
stop_inside [] k s e = absurd (no_link e)
stop_inside (x ∷ ss) zero s e = omega arith
stop_inside (x ∷ ss) (suc k) s e = (let r = stop_inside ss k s e in omega arith)

-- a stop of a list with one more is one of the list, or that one
more_cases : (ss : List Stop) (t : Stop) (k : ℕ) (s : Stop) → slice_get (ss ++ t ∷ []) k ≡ Some s → (slice_get ss k ≡ Some s) ⊎ ((k ≡ length ss) × (t ≡ s))
more_cases [] t zero s e = inr (refl, same_Some t s e)
more_cases [] t (suc k) s e = absurd (no_link e)
more_cases (x ∷ ss) t zero s e = inl e
more_cases (x ∷ ss) t (suc k) s e = elim (more_cases ss t k s e) [
  | inl r ↦ inl r
  | inr r ↦ inr (let l = r.0 in omega arith, r.1)
]

-- how far a walk has come: the blocks of its stops were met after those that were before, and this stop is
-- next
pub record HasWalked (pages : List Page) (depth : ℕ) (before : List ℕ) (met : Met) (stops : List Stop) (stop : Stop) (step : ℕ) : Type 0 where
  pub met_is : IsMet met (length pages)
  pub added : met.blocks.items ≡ before ++ stop_blocks stops
  pub placed : (k : ℕ) (s : Stop) → slice_get stops k ≡ Some s → IsStop (index_of pages) depth k s
  pub on_level : (k : ℕ) (s : Stop) → slice_get stops k ≡ Some s → IsOnLevel (index_of pages) depth s.block
  pub count : length stops ≡ step
  pub here : IsStop (index_of pages) depth step stop

module _ (pages : List Page) (depth : ℕ) (before : List ℕ) (met : Met) (stops : List Stop) (stop : Stop) (step : ℕ) (far : HasWalked pages depth before met stops stop step) where
  abbrev ix : Index
  ix = index_of pages

  pub are_stops : AreStops ix depth stops
  are_stops = record {
    placed = far.placed;
    on_level = far.on_level;
    once = λ j k s t lt e f same.
        let distinct = apart_back before (stop_blocks stops) (subst AreDistinct far.added far.met_is.distinct) in
        let one = one_place (stop_blocks stops) j k t.block distinct (block_there stops j s e ∙ ap Some same) (block_there stops k t f) in
        absurd (omega (arith, one));
  }

  at_end : place_at ix depth (length stops) ≡ record { context = context_at (nodes_of pages) stop; block = Some stop.block }
  at_end = ap (place_at ix depth) far.count ∙ far.here

  pub ends_met : ((b : ℕ) → IsIn b before → IsOnLevel ix depth b → ⊥) → IsOnLevel ix depth stop.block → IsIn stop.block met.blocks.items → IsChainEnd ix depth (length stops) (ends.Met stop)
  ends_met apart on i = (at_end, on, by (in_append_cases stop.block before (stop_blocks stops) (subst (IsIn stop.block) far.added i)))
    where
      by : IsIn stop.block before ⊎ IsIn stop.block (stop_blocks stops) → IsEarlier ix depth (length stops) stop.block
      by (inl old) = absurd (apart stop.block old on)
      by (inr new) = (let s = stop_of stops stop.block new in
          record { earlier = s.place; before = s.inside; is = ap (λ (p : Place). p.block) (far.placed s.place s.stop s.there) ∙ ap Some (sym s.is) })

  -- there are fewer stops than pages
  pub stops_few : 0 < length pages → length stops < length pages
  stops_few some =
      let few = few_blocks (length pages) met.blocks.items some far.met_is.distinct far.met_is.in_use in
      omega (arith, few, ap length far.added, length-append before (stop_blocks stops), blocks_length stops)

  -- a page more
  module _ (after : Met) (after_is : IsMet after (length pages)) (after_added : after.blocks.items ≡ met.blocks.items ++ stop.block ∷ []) (on : IsOnLevel ix depth stop.block)
      (more : List Stop) (more_is : more ≡ stops ++ stop ∷ []) where
    added_more : after.blocks.items ≡ before ++ stop_blocks more
    added_more =
        after_added ∙ ap (λ (bs : List ℕ). bs ++ stop.block ∷ []) far.added ∙ append_assoc before (stop_blocks stops) (stop.block ∷ [])
        ∙ ap (λ (bs : List ℕ). before ++ bs) (sym (blocks_more stops stop) ∙ ap stop_blocks (sym more_is))

    placed_more : (k : ℕ) (s : Stop) → slice_get more k ≡ Some s → IsStop ix depth k s
    placed_more k s e = elim (more_cases stops stop k s (ap (λ (ss : List Stop). slice_get ss k) (sym more_is) ∙ e)) [
      | inl old ↦ far.placed k s old
      | inr new ↦ subst (IsStop ix depth k) new.1 (subst (λ (n : ℕ). IsStop ix depth n stop) (sym far.count ∙ sym new.0) far.here)
    ]

    on_level_more : (k : ℕ) (s : Stop) → slice_get more k ≡ Some s → IsOnLevel ix depth s.block
    on_level_more k s e = elim (more_cases stops stop k s (ap (λ (ss : List Stop). slice_get ss k) (sym more_is) ∙ e)) [
      | inl old ↦ far.on_level k s old
      | inr new ↦ subst (λ (t : Stop). IsOnLevel ix depth t.block) new.1 on
    ]

    count_more : length more ≡ suc step
    count_more = omega (arith, ap length more_is, length-append stops (stop ∷ []), far.count)

    next_place_is : place_at ix depth (suc step) ≡ record { context = past stop.block (nodes_of pages stop.block) (context_at (nodes_of pages) stop); block = (nodes_of pages stop.block).right }
    next_place_is = ap (λ (p : Place). next_place (nodes_of pages) p.context p.block) far.here

    pub walk_goes_on : (right : ℕ) (next : Stop) (n : ℕ) → (nodes_of pages stop.block).right ≡ Some right → next.block ≡ right
        → context_at (nodes_of pages) next ≡ past stop.block (nodes_of pages stop.block) (context_at (nodes_of pages) stop) → n ≡ suc step → HasWalked pages depth before after more next n
    walk_goes_on right next n right_is block_is context_is n_is = subst (HasWalked pages depth before after more next) (sym n_is) (record {
      met_is = after_is;
      added = added_more;
      placed = placed_more;
      on_level = on_level_more;
      count = count_more;
      here = next_place_is ∙ (λ i. record {
        context = (sym context_is) i;
        block = (right_is ∙ ap Some (sym block_is)) i;
      });
    })

    pub ends_whole : (nodes_of pages stop.block).right ≡ None → IsChainEnd ix depth (length more) ends.Whole
    ends_whole none' = ap (λ (k : ℕ). (place_at ix depth k).block) count_more ∙ ap (λ (p : Place). p.block) next_place_is ∙ none'

    pub are_stops_more : AreStops ix depth more
    are_stops_more = record {
      placed = placed_more;
      on_level = on_level_more;
      once = λ j k s t lt e f same.
          let distinct = apart_back before (stop_blocks more) (subst AreDistinct added_more after_is.distinct) in
          let one = one_place (stop_blocks more) j k t.block distinct (block_there more j s e ∙ ap Some same) (block_there more k t f) in
          absurd (omega (arith, one));
    }

    pub added_all : after.blocks.items ≡ before ++ stop_blocks more
    added_all = added_more
