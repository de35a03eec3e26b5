-- The downlinks of a page, one after the other.
use Rattle.std.proofs.Common.{◌≡◌, ◌⊎◌, ◌↔◌, ℕ, zero, suc, ◌<◌, ◌≤◌, inl, inr, Bool, true, false, not, IsTrue, Option, Some, None, List, [], ◌∷◌, length, slice_get, slice_set, get_or, refl, sym, ap, subst, ◌∙◌, arith}
use Rattle.amcheck.proofs.Imports.{cases_eq, get_or-set_same, get_or-set_other, Bound, Downlink, Node, from_low, Index, IsOnLevel, no_link, IsStopOf, HasNoStop, HaveBlocksOnce, IsOff, same_Some}
use Rattle.amcheck.proofs.Imports.{HasOtherLow, HasWrongBound, IsSkipped, LacksLink, IsSkippedStop, LeadsBefore, IsExtra, HasExtra, DownlinksAreNoted, IsWrongAmong, high_at, IsLeastNumber, Stop}

pub length-from_low : (low : Option Bound) (links : List Downlink) → length (from_low low links) ≡ length links
length-from_low low [] = refl
length-from_low low (i ∷ is) = refl

pub low_first : (low : Option Bound) (links : List Downlink) (link : Downlink) → slice_get links 0 ≡ Some link → slice_get (from_low low links) 0 ≡ Some (record { bound = low; child = link.child })
low_first low [] link e = absurd (no_link e)
low_first low (i ∷ is) link e = ap (λ (d : Downlink). Some (record { bound = low; child = d.child })) (same_Some i link e)

pub low_after : (low : Option Bound) (links : List Downlink) (at : ℕ) → 0 < at → slice_get (from_low low links) at ≡ slice_get links at
low_after low [] at pos = refl
low_after low (i ∷ is) zero pos = absurd (omega arith)
low_after low (i ∷ is) (suc at) pos = refl

pub link_inside : (links : List Downlink) (item : ℕ) (link : Downlink) → slice_get links item ≡ Some link → item < length links
link_inside [] item link e = absurd (no_link e)
link_inside (x ∷ xs) zero link e = omega arith
link_inside (x ∷ xs) (suc item) link e = (let r = link_inside xs item link e in omega arith)

pub item_inside : (low : Option Bound) (links : List Downlink) (item : ℕ) (link : Downlink) → slice_get (from_low low links) item ≡ Some link → item < length links
item_inside low links item link e = (let r = link_inside (from_low low links) item link e in omega (arith, r, length-from_low low links))

-- a block's stop is one
pub one_stop : (stops : List Stop) (b : ℕ) (s t : Stop) → HaveBlocksOnce stops → IsStopOf stops b s → IsStopOf stops b t → s ≡ t
one_stop stops b s t once f g =
    let same : f.place ≡ g.place = once f.place g.place s t f.there g.there (f.is ∙ sym g.is) in
    same_Some s t (sym f.there ∙ subst (λ (k : ℕ). slice_get stops k ≡ Some t) (sym same) g.there)

pub no_stop_of : (stops : List Stop) (b : ℕ) (s : Stop) → HasNoStop stops b → IsStopOf stops b s → ⊥
no_stop_of stops b s none f = none f.place s f.there f.is

pub other_low : (r : Bool) (at : ℕ → Node) (stops : List Stop) (link : Downlink) (s : Stop) → HaveBlocksOnce stops → IsStopOf stops link.child s
    → (IsTrue r ↔ (link.bound ≡ high_at at s.low_at)) → IsTrue (not r) ↔ HasOtherLow at stops link
other_low true at stops link s once f told = (
  λ e. absurd (let k : false ≡ true = e in cc),
  λ h. absurd (h.differs (told.0 refl ∙ ap (λ (t : Stop). high_at at t.low_at) (one_stop stops link.child s h.stop once f h.is))),
)
other_low false at stops link s once f told = (
  λ e. record { stop = s; is = f; differs = λ same. (let k : false ≡ true = told.1 same in absurd cc) },
  λ h. refl,
)

pub no_other_low : (at : ℕ → Node) (stops : List Stop) (link : Downlink) → HasNoStop stops link.child → IsTrue false ↔ HasOtherLow at stops link
no_other_low at stops link none = (λ e. absurd (let k : false ≡ true = e in cc), λ h. absurd (no_stop_of stops link.child h.stop none h.is))

-- a downlink to a page on a chain
pub extra_none : (at : ℕ → Node) (stops : List Stop) (linked : List Bool) (b : ℕ) → HasNoStop stops b → IsTrue true ↔ IsExtra at stops linked b
extra_none at stops linked b none = (λ e. record { is = inl none }, λ w. refl)

pub extra_skipped : (at : ℕ → Node) (stops : List Stop) (linked : List Bool) (b : ℕ) (s : Stop) → IsStopOf stops b s → IsSkipped (at b) s.left_is_split → IsTrue true ↔ IsExtra at stops linked b
extra_skipped at stops linked b s f skipped = (
  λ e. record { is = inr (inl (record { stop = s; is = f; skipped = subst (λ (c : ℕ). IsSkipped (at c) s.left_is_split) (sym f.is) skipped })) },
  λ w. refl,
)

pub extra_linked : (r : Bool) (at : ℕ → Node) (stops : List Stop) (linked : List Bool) (b : ℕ) (s : Stop) → HaveBlocksOnce stops → IsStopOf stops b s
    → (IsSkipped (at b) s.left_is_split → ⊥) → r ≡ get_or linked b false
    → IsTrue r ↔ IsExtra at stops linked b
extra_linked r at stops linked b s once f not r_is = (λ e. record { is = inr (inr (sym r_is ∙ e)) }, λ w. by w.is)
  where
    by : HasNoStop stops b ⊎ IsSkippedStop at stops b ⊎ (get_or linked b false ≡ true) → r ≡ true
    by (inl none) = absurd (no_stop_of stops b s none f)
    by (inr (inl h)) = absurd (not (subst (λ (t : Stop). IsSkipped (at b) t.left_is_split) (one_stop stops b h.stop s once h.is f) (subst (λ (c : ℕ). IsSkipped (at c) h.stop.left_is_split) h.is.is h.skipped)))
    by (inr (inr marked)) = r_is ∙ marked

-- the first child that isn't below
pub off_here : (ix : Index) (depth : ℕ) (links : List Downlink) (n : ℕ) (link : Downlink) → slice_get links n ≡ Some link → (IsOnLevel ix (suc depth) link.child → ⊥)
    → ((j : ℕ) (l : Downlink) → j < n → slice_get links j ≡ Some l → IsOnLevel ix (suc depth) l.child) → IsOff ix depth links link.child
off_here ix depth links n link there off before = record { item = n; link = link; there = there; child_is = refl; off = off; first = before }

-- what holds of the first `n` and of the next holds of the first `m`, which are one more
pub one_more : (P : Downlink → Type 0) (links : List Downlink) (n m : ℕ) (link : Downlink) → slice_get links n ≡ Some link → P link → m ≡ suc n
    → ((j : ℕ) (l : Downlink) → j < n → slice_get links j ≡ Some l → P l) → (j : ℕ) (l : Downlink) → j < m → slice_get links j ≡ Some l → P l
one_more P links n m link there holds is before j l lt found = elim (cases_eq j n) [
  | inl same ↦ subst P (same_Some link l (sym there ∙ subst (λ (k : ℕ). slice_get links k ≡ Some l) same found)) holds
  | inr differs ↦ before j l (omega arith) found
]

-- no child so far is one too many, and those are marked
pub record HasNotedTo (at : ℕ → Node) (stops : List Stop) (links : List Downlink) (n : ℕ) (before after : List Bool) : Type 0 where
  pub right : (j : ℕ) (l : Downlink) → j < n → slice_get links j ≡ Some l → (IsExtra at stops before l.child ⊎ LeadsBefore links j l.child) → ⊥
  pub noted : DownlinksAreNoted links n before after

pub none_noted : (at : ℕ → Node) (stops : List Stop) (links : List Downlink) (before : List Bool) → HasNotedTo at stops links 0 before before
none_noted at stops links before = record {
  right = λ j l lt. absurd (omega arith);
  noted = record { from = λ b e. inl e; kept = λ b e. e; new = λ b w. let lt = w.before in absurd (omega arith) };
}

module _ (at : ℕ → Node) (stops : List Stop) (links : List Downlink) (n : ℕ) (before after : List Bool) (link : Downlink)
    (there : slice_get links n ≡ Some link) (so_far : HasNotedTo at stops links n before after) where
  -- one too many with the marks so far is so with those before, or leads where an earlier one does
  pub extra_now : IsExtra at stops after link.child → HasExtra at stops before links
  extra_now extra = record { item = n; link = link; there = there; wrong = by extra.is }
    where
      by : HasNoStop stops link.child ⊎ IsSkippedStop at stops link.child ⊎ (get_or after link.child false ≡ true) → IsExtra at stops before link.child ⊎ LeadsBefore links n link.child
      by (inl none) = inl (record { is = inl none })
      by (inr (inl skipped)) = inl (record { is = inr (inl skipped) })
      by (inr (inr marked)) = elim (so_far.noted.from link.child marked) [
        | inl old ↦ inl (record { is = inr (inr old) })
        | inr new ↦ inr new
      ]

  not_now : (IsExtra at stops after link.child → ⊥) → (IsExtra at stops before link.child ⊎ LeadsBefore links n link.child) → ⊥
  not_now not (inl extra) = by extra.is
    where
      by : HasNoStop stops link.child ⊎ IsSkippedStop at stops link.child ⊎ (get_or before link.child false ≡ true) → ⊥
      by (inl none) = not (record { is = inl none })
      by (inr (inl skipped)) = not (record { is = inr (inl skipped) })
      by (inr (inr marked)) = not (record { is = inr (inr (so_far.noted.kept link.child marked)) })
  not_now not (inr led) = not (record { is = inr (inr (so_far.noted.new link.child led)) })

  led_more : (b : ℕ) → LeadsBefore links n b → LeadsBefore links (suc n) b
  led_more b w = (let lt = w.before in record { earlier = w.earlier; link = w.link; before = omega arith; there = w.there; leads = w.leads })

  pub noted_more : (m : ℕ) → link.child < length after → (IsExtra at stops after link.child → ⊥) → m ≡ suc n → HasNotedTo at stops links m before (slice_set after link.child true)
  noted_more m inside not is = subst (λ (k : ℕ). HasNotedTo at stops links k before (slice_set after link.child true)) (sym is) (record {
    right = λ j l lt found. elim (cases_eq j n) [
      | inl same ↦
          let l_is : link ≡ l = same_Some link l (sym there ∙ subst (λ (k : ℕ). slice_get links k ≡ Some l) same found) in
          λ wrong. not_now not (subst (λ (k : ℕ). IsExtra at stops before link.child ⊎ LeadsBefore links k link.child) same
          (subst (λ (d : Downlink). IsExtra at stops before d.child ⊎ LeadsBefore links j d.child) (sym l_is) wrong))
      | inr differs ↦ so_far.right j l (omega arith) found
    ];
    noted = record {
      from = λ b e. elim (cases_eq b link.child) [
        | inl same ↦ inr (record { earlier = n; link = link; before = omega arith; there = there; leads = sym same })
        | inr differs ↦ elim (so_far.noted.from b (sym (get_or-set_other after link.child b true false (λ k. differs k)) ∙ e)) [
          | inl old ↦ inl old
          | inr new ↦ inr (led_more b new)
        ]
      ];
      kept = λ b e. set_keeps b (so_far.noted.kept b e);
      new = λ b w. elim (cases_eq w.earlier n) [
        | inl last ↦
            let l_is : link ≡ w.link = same_Some link w.link (sym there ∙ subst (λ (k : ℕ). slice_get links k ≡ Some w.link) last w.there) in
            let b_is : b ≡ link.child = sym w.leads ∙ ap (λ (d : Downlink). d.child) (sym l_is) in
            ap (λ (c : ℕ). get_or (slice_set after link.child true) c false) b_is ∙ get_or-set_same after link.child true false inside
        | inr earlier ↦ let lt = w.before in set_keeps b (so_far.noted.new b (record { earlier = w.earlier; link = w.link; before = omega arith; there = w.there; leads = w.leads }))
      ];
    };
  })
    where
      set_keeps : (b : ℕ) → get_or after b false ≡ true → get_or (slice_set after link.child true) b false ≡ true
      set_keeps b e = elim (cases_eq b link.child) [
        | inl same ↦ ap (λ (c : ℕ). get_or (slice_set after link.child true) c false) same ∙ get_or-set_same after link.child true false inside
        | inr differs ↦ get_or-set_other after link.child b true false (λ k. differs k) ∙ e
      ]

pub none_extra : (at : ℕ → Node) (stops : List Stop) (links : List Downlink) (n : ℕ) (before after : List Bool) → length links ≤ n
    → HasNotedTo at stops links n before after → HasExtra at stops before links → ⊥
none_extra at stops links n before after le to has = to.right has.item has.link (let lt = link_inside links has.item has.link has.there in omega arith) has.there has.wrong

pub noted_all : (at : ℕ → Node) (stops : List Stop) (links : List Downlink) (n m : ℕ) (before after : List Bool) → length links ≤ n → m ≡ length links
    → HasNotedTo at stops links n before after → DownlinksAreNoted links m before after
noted_all at stops links n m before after le is to = record {
  from = λ b e. elim (to.noted.from b e) [
    | inl old ↦ inl old
    | inr new ↦ inr (record {
      earlier = new.earlier;
      link = new.link;
      before =
          (let lt = link_inside links new.earlier new.link new.there in omega (arith, lt, is));
      there = new.there;
      leads = new.leads;
    })
  ];
  kept = to.noted.kept;
  new = λ b w. to.noted.new b (record { earlier = w.earlier; link = w.link; before = (let lt = w.before in omega (arith, lt, is, le)); there = w.there; leads = w.leads });
}

-- the least number
module _ (at : ℕ → Node) (stops : List Stop) (linked : List Bool) (links : List Downlink) (top : ℕ) (node : Node) (stop : Stop) where
  abbrev Wrong : ℕ → Type 0
  Wrong = IsWrongAmong at stops linked links top node stop

  module _ (right : HasWrongBound at stops links → ⊥) where
    pub least_eight : LacksLink top node stop.left_is_split (get_or linked stop.block false) → IsLeastNumber Wrong (Some 8)
    least_eight wrong = (record { is = inr (inl (refl, wrong)) }, λ m lt w. less m lt w.is)
      where
        less : (m : ℕ) → m < 8 → ((m ≡ 7) × HasWrongBound at stops links) ⊎ ((m ≡ 8) × LacksLink top node stop.left_is_split (get_or linked stop.block false)) ⊎ ((m ≡ 9) × HasExtra at stops linked links) → ⊥
        less m lt (inl a) = right a.1
        less m lt (inr (inl a)) = (let k = a.0 in omega (arith, k, lt))
        less m lt (inr (inr a)) = (let k = a.0 in omega (arith, k, lt))

    module _ (linked_too : LacksLink top node stop.left_is_split (get_or linked stop.block false) → ⊥) where
      pub least_nine : HasExtra at stops linked links → IsLeastNumber Wrong (Some 9)
      least_nine wrong = (record { is = inr (inr (refl, wrong)) }, λ m lt w. less m lt w.is)
        where
          less : (m : ℕ) → m < 9 → ((m ≡ 7) × HasWrongBound at stops links)
              ⊎ ((m ≡ 8) × LacksLink top node stop.left_is_split (get_or linked stop.block false)) ⊎ ((m ≡ 9) × HasExtra at stops linked links) → ⊥
          less m lt (inl a) = right a.1
          less m lt (inr (inl a)) = linked_too a.1
          less m lt (inr (inr a)) = (let k = a.0 in omega (arith, k, lt))

      pub least_none : (HasExtra at stops linked links → ⊥) → IsLeastNumber Wrong None
      least_none none = λ n w. by n w.is
        where
          by : (n : ℕ) → ((n ≡ 7) × HasWrongBound at stops links) ⊎ ((n ≡ 8) × LacksLink top node stop.left_is_split (get_or linked stop.block false)) ⊎ ((n ≡ 9) × HasExtra at stops linked links) → ⊥
          by n (inl a) = right a.1
          by n (inr (inl a)) = linked_too a.1
          by n (inr (inr a)) = none a.1
