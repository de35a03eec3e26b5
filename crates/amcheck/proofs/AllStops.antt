-- The stops of the chains of all levels, each at its place.
use Rattle.std.proofs.Common.{◌≡◌, ◌⊎◌, ℕ, zero, suc, ◌+◌, ◌-◌, ◌<◌, ◌≤◌, inl, inr, Bool, true, false, nat_lt, Some, None, List, [], ◌∷◌, ◌++◌, length, take, slice_get, get_or, refl, sym, ap, subst, ◌∙◌, arith}
use Rattle.amcheck.proofs.Imports.{cases_lt, lt-ltb, le-ltb, slice_get-get_or, Index, Place, place_at, Here, IsOnLevel, no_link, has_before, StopsAreAll, AreAllStops, IsClearChain, IsChainEnd}
use Rattle.amcheck.proofs.Imports.{stop_blocks, IsStop, Stop, met_before, off_level}
use Rattle.amcheck.specs.declared.walks.WalkEnd.{WalkEnd}
use Rattle.amcheck.specs.declared.walks.WalkEnd.TheVariants.{Whole, Off, Met}
use Rattle.amcheck.proofs.Found.{no_stop}
use Rattle.amcheck.proofs.Walked.{stop_inside}

pub blocks_append : (xs ys : List Stop) → stop_blocks (xs ++ ys) ≡ stop_blocks xs ++ stop_blocks ys
blocks_append [] ys = refl
blocks_append (x ∷ xs) ys = ap (λ (bs : List ℕ). x.block ∷ bs) (blocks_append xs ys)

pub taken : {A : Type 0} (xs : List A) (n : ℕ) → n ≤ length xs → length (take n xs) ≡ n
taken [] zero le = refl
taken [] (suc n) le = absurd (omega arith)
taken (x ∷ xs) zero le = refl
taken (x ∷ xs) (suc n) le = (let r = taken xs n (omega arith) in omega (arith, r))

-- a walk along a chain without damage ends at its last page
pub ends_clear : (ix : Index) (keys : Bool) (depth n : ℕ) (end : WalkEnd) → depth ≤ ix.top → IsClearChain ix keys depth → IsChainEnd ix depth n end → (place_at ix depth n).block ≡ None
ends_clear ix keys depth n Whole deep clear e = e
ends_clear ix keys depth n (Off b) deep clear e = absurd (clear (record { depth = depth; place = n; block = b; deep = deep; is = e.0 }) 1 refl (off_level refl e.1))
ends_clear ix keys depth n (Met s) deep clear e =
    absurd (clear (record { depth = depth; place = n; block = s.block; deep = deep; is = ap (λ (p : Place). p.block) e.0 }) 3 refl
    (met_before refl (record { earlier = e.2.earlier; before = e.2.before; same = e.2.is })))

-- a stop of two lists is of the first or of the second
split_get : (front back : List Stop) (k : ℕ) (s : Stop) → slice_get (front ++ back) k ≡ Some s
    → ((k < length front) × (slice_get front k ≡ Some s)) ⊎ ((length front ≤ k) × (slice_get back (k - length front) ≡ Some s))
split_get [] back k s e = inr (omega arith, subst (λ (n : ℕ). slice_get back n ≡ Some s) (let q : k ≡ k - 0 = omega arith in q) e)
split_get (x ∷ xs) back zero s e = inl (omega arith, e)
split_get (x ∷ xs) back (suc k) s e = elim (split_get xs back k s e) [
  | inl r ↦ let lt = r.0 in inl (omega arith, r.1)
  | inr r ↦ let le = r.0 in inr (omega arith, subst (λ (n : ℕ). slice_get back n ≡ Some s) (let q : k - length xs ≡ suc k - suc (length xs) = omega arith in q) r.1)
]

get_front : (front back : List Stop) (k : ℕ) (s : Stop) → slice_get front k ≡ Some s → slice_get (front ++ back) k ≡ Some s
get_front [] back k s e = absurd (no_link e)
get_front (x ∷ xs) back zero s e = e
get_front (x ∷ xs) back (suc k) s e = get_front xs back k s e

get_back : (front back : List Stop) (k : ℕ) (s : Stop) → slice_get back k ≡ Some s → slice_get (front ++ back) (length front + k) ≡ Some s
get_back [] back k s e = subst (λ (n : ℕ). slice_get back n ≡ Some s) (let q : k ≡ 0 + k = omega arith in q) e
get_back (x ∷ xs) back k s e =
    subst (λ (n : ℕ). slice_get (x ∷ xs ++ back) n ≡ Some s) (let q : suc (length xs + k) ≡ suc (length xs) + k = omega arith in q) (get_back xs back k s e)

pub record HasItsStop {ix : Index} (stops : List Stop) (depth_of place_of : ℕ → ℕ) (h : Here ix) : Type 0 where
  pub index : ℕ
  pub stop : Stop
  pub there : slice_get stops index ≡ Some stop
  pub depth_is : depth_of index ≡ h.depth
  pub place_is : place_of index ≡ h.place

-- each stop is at a place of a level, in order, and each place of these levels has its stop
pub record Indexed (ix : Index) (depth : ℕ) (stops : List Stop) : Type 0 where
  pub depth_of : ℕ → ℕ
  pub place_of : ℕ → ℕ
  pub is : (k : ℕ) (s : Stop) → slice_get stops k ≡ Some s → IsStop ix (depth_of k) (place_of k) s
  pub upper : (k : ℕ) → k < length stops → depth_of k < depth
  pub on_level : (k : ℕ) (s : Stop) → slice_get stops k ≡ Some s → IsOnLevel ix (depth_of k) s.block
  pub in_order : (j k : ℕ) → j < k → k < length stops → (depth_of j < depth_of k) ⊎ ((depth_of j ≡ depth_of k) × (place_of j < place_of k))
  pub has : (h : Here ix) → h.depth < depth → HasItsStop stops depth_of place_of h

abbrev pick : Bool → ℕ → ℕ → ℕ
pick true a b = a
pick false a b = b

pub stop_moved : (ix : Index) (d d' p p' : ℕ) (s : Stop) → d ≡ d' → p ≡ p' → IsStop ix d' p' s → IsStop ix d p s
stop_moved ix d d' p p' s deep there is = (λ i. place_at ix (deep i) (there i)) ∙ is

module _ (ix : Index) (d : ℕ) (front back : List Stop) (old : Indexed ix d front) (whole : StopsAreAll ix d back) where
  abbrev n : ℕ
  n = length front

  abbrev depths : ℕ → ℕ
  depths k = pick (nat_lt k n) (old.depth_of k) d

  abbrev places : ℕ → ℕ
  places k = pick (nat_lt k n) (old.place_of k) (k - n)

  depth_front : (k : ℕ) → k < n → depths k ≡ old.depth_of k
  depth_front k lt = ap (λ (t : Bool). pick t (old.depth_of k) d) (lt-ltb k n lt)

  place_front : (k : ℕ) → k < n → places k ≡ old.place_of k
  place_front k lt = ap (λ (t : Bool). pick t (old.place_of k) (k - n)) (lt-ltb k n lt)

  depth_back : (k : ℕ) → n ≤ k → depths k ≡ d
  depth_back k ge = ap (λ (t : Bool). pick t (old.depth_of k) d) (le-ltb k n ge)

  place_back : (k : ℕ) → n ≤ k → places k ≡ k - n
  place_back k ge = ap (λ (t : Bool). pick t (old.place_of k) (k - n)) (le-ltb k n ge)

  in_order_more : (j k : ℕ) → j < k → k < length (front ++ back) → (depths j < depths k) ⊎ ((depths j ≡ depths k) × (places j < places k))
  in_order_more j k lt inside = elim (cases_lt k n) [
    | inl low ↦
        let jl : j < n = omega arith in
        let dj = depth_front j jl in
        let dk = depth_front k low in
        elim (old.in_order j k lt low) [
          | inl less ↦ inl (omega (arith, dj, dk, less))
          | inr same ↦ inr (dj ∙ same.0 ∙ sym dk, omega (arith, place_front j jl, place_front k low, same.1))
        ]
    | inr high ↦
        let dk = depth_back k high in
        elim (cases_lt j n) [
          | inl jl ↦ inl (omega (arith, depth_front j jl, dk, old.upper j jl))
          | inr jh ↦ inr (depth_back j jh ∙ sym dk, omega (arith, place_back j jh, place_back k high, lt, jh))
        ]
  ]

  has_more : (h : Here ix) → h.depth < suc d → HasItsStop (front ++ back) depths places h
  has_more h lt = elim (cases_lt h.depth d) [
    | inl less ↦
        let i = old.has h less in
        let low = stop_inside front i.index i.stop i.there in
        record { index = i.index; stop = i.stop; there = get_front front back i.index i.stop i.there; depth_is = depth_front i.index low ∙ i.depth_is; place_is = place_front i.index low ∙ i.place_is }
    | inr more ↦ last (let e : h.depth ≡ d = omega arith in e)
  ]
    where
      last : h.depth ≡ d → HasItsStop (front ++ back) depths places h
      last same = elim (cases_lt h.place (length back)) [
        | inr ge ↦
            let c = has_before ix d h.place h.block (subst (λ (e : ℕ). (place_at ix e h.place).block ≡ Some h.block) same h.is) (length back) ge in
            absurd (no_link (sym whole.ends ∙ c.1))
        | inl lt ↦
            let high : n ≤ n + h.place = omega arith in
            record {
              index = n + h.place;
              stop = get_or back h.place no_stop;
              there = get_back front back h.place (get_or back h.place no_stop) (slice_get-get_or back h.place no_stop lt);
              depth_is = depth_back (n + h.place) high ∙ sym same;
              place_is = place_back (n + h.place) high ∙ (let e : n + h.place - n ≡ h.place = omega arith in e);
            }
      ]

  indexed_more : Indexed ix (suc d) (front ++ back)
  indexed_more = record {
    depth_of = depths;
    place_of = places;
    is = λ k s e. elim (split_get front back k s e) [
      | inl f ↦ stop_moved ix (depths k) (old.depth_of k) (places k) (old.place_of k) s (depth_front k f.0) (place_front k f.0) (old.is k s f.1)
      | inr b ↦ stop_moved ix (depths k) d (places k) (k - n) s (depth_back k b.0) (place_back k b.0) (whole.are.placed (k - n) s b.1)
    ];
    upper = λ k lt. elim (cases_lt k n) [
      | inl low ↦ omega (arith, depth_front k low, old.upper k low)
      | inr high ↦ omega (arith, depth_back k high)
    ];
    on_level = λ k s e. elim (split_get front back k s e) [
      | inl f ↦ subst (λ (e : ℕ). IsOnLevel ix e s.block) (sym (depth_front k f.0)) (old.on_level k s f.1)
      | inr b ↦ subst (λ (e : ℕ). IsOnLevel ix e s.block) (sym (depth_back k b.0)) (whole.are.on_level (k - n) s b.1)
    ];
    in_order = in_order_more;
    has = has_more;
  }

pub indexed : (ix : Index) (depth : ℕ) (stops : List Stop) → AreAllStops ix depth stops → Indexed ix depth stops
indexed ix zero stops none = subst (Indexed ix 0) (sym none) (record {
  depth_of = λ k. 0;
  place_of = λ k. 0;
  is = λ k s e. absurd (no_link e);
  upper = λ k lt. absurd (omega arith);
  on_level = λ k s e. absurd (no_link e);
  in_order = λ j k lt inside. absurd (omega arith);
  has = λ h lt. absurd (omega arith);
})
indexed ix (suc d) stops all = subst (Indexed ix (suc d)) (sym all.2) (indexed_more ix d all.0 all.1 (indexed ix d all.0 all.3) all.4)
