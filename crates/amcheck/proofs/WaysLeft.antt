-- The way to the leftmost page of a level, as far as it was gone.
use Rattle.std.proofs.Common.{◌≡◌, ◌≢◌, ◌⊎◌, ℕ, zero, suc, ◌+◌, ◌<◌, ◌≤◌, inl, inr, Bool, true, false, Option, Some, None, List, [], ◌∷◌, length, get_or, slice_set, refl, sym, ap, subst, ◌∙◌, arith}
use Rattle.amcheck.specs.Places as places
use Rattle.amcheck.proofs.Imports.{cases_eq, cases_lt, length-set, get_or-set_same, get_or-set_other, Page, Node, nodes_of, IsIn, AreDistinct, not_in_from, Index, index_of, or_block, start}
use Rattle.amcheck.proofs.Imports.{left_after_steps, IsOnLevel, IsOfPath, few_blocks, no_link, on_level_so, IsClearPath, IsFirstOfPath}

-- a level by its number, and by its depth below the root's
pub level_there : (pages : List Page) (level depth block : ℕ) → level + depth ≡ (index_of pages).top → places.PageIsOnLevel pages level block → IsOnLevel (index_of pages) depth block
level_there pages level depth block sum on = record { after_meta = on.after_meta; in_use = on.in_use; level_is = (let l = on.level_is in omega arith) }

pub level_back : (pages : List Page) (level depth block : ℕ) → level + depth ≡ (index_of pages).top → IsOnLevel (index_of pages) depth block → places.PageIsOnLevel pages level block
level_back pages level depth block sum on = record { after_meta = on.after_meta; in_use = on.in_use; level_is = (let l = on.level_is in omega arith) }

-- the blocks of a number of steps, the first ones
abbrev blocks : Index → ℕ → ℕ → List ℕ
blocks ix depth zero = []
blocks ix depth (suc n) = left_after_steps ix depth n ∷ blocks ix depth n

pub record IsCome (ix : Index) (depth n block : ℕ) : Type 0 where
  pub step : ℕ
  pub earlier : step < n
  pub is : block ≡ left_after_steps ix depth step

come : (ix : Index) (depth n block : ℕ) → IsIn block (blocks ix depth n) → IsCome ix depth n block
come ix depth zero block i = absurd i
come ix depth (suc n) block (inl e) = record { step = n; earlier = omega arith; is = e }
come ix depth (suc n) block (inr i) = (let r = come ix depth n block i in let k = r.earlier in record { step = r.step; earlier = omega arith; is = r.is })

size : (ix : Index) (depth n : ℕ) → length (blocks ix depth n) ≡ n
size ix depth zero = refl
size ix depth (suc n) = (let r = size ix depth n in omega (arith, r))

-- how far the way was gone: nothing is damaged so far, it goes on, and its pages are marked beside those that
-- were before
pub record IsGoneSoFar (pages : List Page) (depth : ℕ) (before seen : List Bool) (block step : ℕ) : Type 0 where
  pub block_is : block ≡ left_after_steps (index_of pages) depth step
  pub size : length seen ≡ length pages
  pub clear : (m n : ℕ) → m < step → IsOfPath (index_of pages) depth m n → ⊥
  pub on : (m : ℕ) → m < step → (nodes_of pages (left_after_steps (index_of pages) depth m)).left ≢ None
  pub marked : (m : ℕ) → m < step → get_or seen (left_after_steps (index_of pages) depth m) false ≡ true
  pub from : (b : ℕ) → get_or seen b false ≡ true → (get_or before b false ≡ true) ⊎ IsCome (index_of pages) depth step b

pub begin_way : (pages : List Page) (depth begin : ℕ) (seen : List Bool) → length seen ≡ length pages → begin ≡ start (index_of pages) depth → IsGoneSoFar pages depth seen seen begin 0
begin_way pages depth begin seen size is = record {
  block_is = is;
  size = size;
  clear = λ m n lt. absurd (omega arith);
  on = λ m lt. absurd (omega arith);
  marked = λ m lt. absurd (omega arith);
  from = λ b e. inl e;
}

module _ (pages : List Page) (depth : ℕ) (before seen : List Bool) (block step : ℕ) (gone : IsGoneSoFar pages depth before seen block step)
    (apart : (b : ℕ) → get_or before b false ≡ true → IsOnLevel (index_of pages) depth b → ⊥) where
  abbrev ix : Index
  ix = index_of pages

  abbrev at : ℕ → Node
  at = nodes_of pages

  on_before : (m : ℕ) → m < step → IsOnLevel ix depth (left_after_steps ix depth m)
  on_before m lt = on_level_so ix depth (left_after_steps ix depth m) (λ fails. gone.clear m 1 lt (inl (refl, fails)))

  -- it comes to a block that isn't on the level
  pub way_off : (IsOnLevel ix depth block → ⊥) → IsFirstOfPath ix depth 1 block
  way_off off = record {
    step = step;
    is = inl (refl, λ on. off (subst (IsOnLevel ix depth) (sym gone.block_is) on));
    block_is = gone.block_is;
    first = λ s n damage earlier. elim earlier [
      | inl lt ↦ gone.clear s n lt damage
      | inr same ↦ elim damage [
        | inl one ↦ let k = one.0 in let lt = same.1 in absurd (omega arith)
        | inr three ↦ let k = three.0 in let lt = same.1 in absurd (omega arith)
      ]
    ];
  }

  -- ... or back to a page
  pub way_back : IsOnLevel ix depth block → get_or seen block false ≡ true → IsFirstOfPath ix depth 3 block
  way_back on mark = by (gone.from block mark)
    where
      back : (earlier : ℕ) → earlier < step → block ≡ left_after_steps ix depth earlier → IsFirstOfPath ix depth 3 block
      back earlier lt same = at_step step refl
        where
          at_step : (n : ℕ) → step ≡ n → IsFirstOfPath ix depth 3 block
          at_step zero e = absurd (omega arith)
          at_step (suc n) e = record {
            step = step;
            is = inr (refl, record { before = n; comes = e; goes_on = gone.on n (omega arith); met = earlier; earlier = omega arith; same = sym same ∙ gone.block_is });
            block_is = gone.block_is;
            first = λ s n damage earlier. elim earlier [
              | inl lt ↦ gone.clear s n lt damage
              | inr same ↦ elim damage [
                | inl one ↦ one.1 (subst (IsOnLevel ix depth) (gone.block_is ∙ ap (left_after_steps ix depth) (sym same.0)) on)
                | inr three ↦ let k = three.0 in let lt = same.1 in absurd (omega arith)
              ]
            ];
          }

      by : (get_or before block false ≡ true) ⊎ IsCome ix depth step block → IsFirstOfPath ix depth 3 block
      by (inl old) = absurd (apart block old on)
      by (inr c) = back c.step c.earlier c.is

  -- a page that wasn't met: nothing is damaged at this step
  module _ (on : IsOnLevel ix depth block) (unmarked : get_or seen block false ≡ true → ⊥) where
    new_here : (m : ℕ) → m < step → left_after_steps ix depth m ≢ left_after_steps ix depth step
    new_here m lt same = unmarked (subst (λ (b : ℕ). get_or seen b false ≡ true) (same ∙ sym gone.block_is) (gone.marked m lt))

    clear_here : (n : ℕ) → IsOfPath ix depth step n → ⊥
    clear_here n (inl one) = one.1 (subst (IsOnLevel ix depth) gone.block_is on)
    clear_here n (inr three) = (let b = three.1 in let c = b.comes in let e = b.earlier in new_here b.met (omega arith) b.same)

    clear_to : (m n : ℕ) → m < suc step → IsOfPath ix depth m n → ⊥
    clear_to m n lt damage = elim (cases_eq m step) [
      | inl same ↦ clear_here n (subst (λ (k : ℕ). IsOfPath ix depth k n) same damage)
      | inr differs ↦ gone.clear m n (omega arith) damage
    ]

    from_more : (b : ℕ) → get_or (slice_set seen block true) b false ≡ true → (get_or before b false ≡ true) ⊎ IsCome ix depth (suc step) b
    from_more b e = elim (cases_eq b block) [
      | inl same ↦ inr (record { step = step; earlier = omega arith; is = same ∙ gone.block_is })
      | inr differs ↦ elim (gone.from b (sym (get_or-set_other seen block b true false (λ k. differs k)) ∙ e)) [
        | inl old ↦ inl old
        | inr c ↦ let lt = c.earlier in inr (record { step = c.step; earlier = omega arith; is = c.is })
      ]
    ]

    -- it goes on to the page on the left
    pub way_goes_on : (left next : ℕ) → (at block).left ≡ Some left → next ≡ suc step → IsGoneSoFar pages depth before (slice_set seen block true) left next
    way_goes_on left next is next_is = subst (IsGoneSoFar pages depth before (slice_set seen block true) left) (sym next_is) (record {
      block_is = sym (ap (λ (b : ℕ). or_block (at b).left b) (sym gone.block_is) ∙ ap (λ (o : Option ℕ). or_block o block) is);
      size = length-set seen block true ∙ gone.size;
      clear = clear_to;
      on = λ m lt e. elim (cases_eq m step) [
        | inl same ↦ no_link (sym e ∙ ap (λ (b : ℕ). (at b).left) (ap (left_after_steps ix depth) same ∙ sym gone.block_is) ∙ is)
        | inr differs ↦ gone.on m (omega arith) e
      ];
      marked = λ m lt. elim (cases_eq m step) [
        | inl same ↦ subst (λ (b : ℕ). get_or (slice_set seen block true) b false ≡ true) (gone.block_is ∙ ap (left_after_steps ix depth) (sym same))
            (get_or-set_same seen block true false (let i = on.in_use in let s = gone.size in omega arith))
        | inr differs ↦ get_or-set_other seen block (left_after_steps ix depth m) true false (λ k. new_here m (omega arith) (k ∙ gone.block_is)) ∙ gone.marked m (omega arith)
      ];
      from = from_more;
    })

    -- ... or ends here
    stays : (at block).left ≡ None → (n : ℕ) → step ≤ n → left_after_steps ix depth n ≡ block
    stays is zero le = ap (left_after_steps ix depth) (let e : 0 ≡ step = omega arith in e) ∙ sym gone.block_is
    stays is (suc n) le = elim (cases_eq step (suc n)) [
      | inl same ↦ ap (left_after_steps ix depth) (sym same) ∙ sym gone.block_is
      | inr differs ↦ let r = stays is n (omega arith) in ap (λ (b : ℕ). or_block (at b).left b) r ∙ ap (λ (o : Option ℕ). or_block o block) is
    ]

    pub way_ends : (at block).left ≡ None → step ≤ length pages → (block ≡ left_after_steps ix depth (length pages)) × IsClearPath ix depth
    way_ends is le = (
      sym (stays is (length pages) le),
      λ s n damage. elim (cases_lt step s) [
        | inr ge ↦ clear_to s n (omega arith) damage
        | inl lt ↦ elim damage [
          | inl one ↦ one.1 (subst (IsOnLevel ix depth) (sym (stays is s (omega arith))) on)
          | inr three ↦ let b = three.1 in let c = b.comes in b.goes_on (ap (λ (k : ℕ). (at k).left) (stays is b.before (omega arith)) ∙ is)
        ]
      ],
    )

    pub kept_more : (b : ℕ) → get_or (slice_set seen block true) b false ≡ true → (get_or before b false ≡ true) ⊎ IsOnLevel ix depth b
    kept_more b e = elim (from_more b e) [
      | inl old ↦ inl old
      | inr c ↦ elim (cases_eq c.step step) [
        | inl same ↦ inr (subst (IsOnLevel ix depth) (gone.block_is ∙ ap (left_after_steps ix depth) (sym same) ∙ sym c.is) on)
        | inr differs ↦ let lt = c.earlier in inr (subst (IsOnLevel ix depth) (sym c.is) (on_before c.step (omega arith)))
      ]
    ]

  pub kept_so_far : (b : ℕ) → get_or seen b false ≡ true → (get_or before b false ≡ true) ⊎ IsOnLevel ix depth b
  kept_so_far b e = elim (gone.from b e) [
    | inl old ↦ inl old
    | inr c ↦ inr (subst (IsOnLevel ix depth) (sym c.is) (on_before c.step c.earlier))
  ]

  distinct : (n : ℕ) → n ≤ step → AreDistinct (blocks ix depth n)
  distinct zero le = tt
  distinct (suc n) le = (
    not_in_from (left_after_steps ix depth n) (blocks ix depth n) (λ c i same.
        let r = come ix depth n c i in
        let lt = r.earlier in
        twice n r.step r.earlier (omega arith) (sym (same ∙ r.is))),
    distinct n (omega arith),
  )
    where
      twice : (n m : ℕ) → m < n → n < step → left_after_steps ix depth m ≡ left_after_steps ix depth n → ⊥
      twice zero m lt in_step same = absurd (omega arith)
      twice (suc k) m lt in_step same =
          gone.clear (suc k) 3 in_step (inr (refl, record { before = k; comes = refl; goes_on = gone.on k (omega arith); met = m; earlier = omega arith; same = same }))

  -- there are fewer steps than pages
  pub way_is_short : length pages ≤ step → 0 < length pages → ⊥
  way_is_short long some =
      let few = few_blocks (length pages) (blocks ix depth step) some (distinct step (omega arith)) (λ c i.
      let r = come ix depth step c i in
      let o = on_before r.step r.earlier in
      subst (λ (b : ℕ). (0 < b) × (b < length pages)) (sym r.is) (o.after_meta, o.in_use)) in
      absurd (omega (arith, few, size ix depth step))
