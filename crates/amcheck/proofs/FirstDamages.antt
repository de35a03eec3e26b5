-- What the search for the first damage of the chains comes to.
use Rattle.std.proofs.Common.{◌≡◌, ℕ, ◌<◌, ◌≤◌, inl, inr, Bool, false, Option, Some, None, List, [], ◌∷◌, length, slice_get, refl, sym, ap, subst, ◌∙◌, arith}
use Rattle.amcheck.proofs.Imports.{slice_get_within, IsSome, Result, Ok, Err, IfOk, IfErr, OnOk, Fault, IsBlock, IsPage, IsOfKind, Items, Meta, Entries, Downlinks, Page, Node, nodes_of, node_from}
use Rattle.amcheck.proofs.Imports.{node_of, index_of, or_block, Site, IsDamage, IsSound, IsFirstDamage, ComesBefore, rank, on_way, on_chain, at_child, at_page, nowhere, page_there, false≢true}
use Rattle.amcheck.proofs.Imports.{NamesRoot, StandAtTheirBlocks, IsAnswer, IsReport, CheckFault, Damaged, Refused, Damage, Report}

none_of_length : (pages : List Page) → length pages ≡ 0 → pages ≡ []
none_of_length [] e = refl
none_of_length (page ∷ pages) e = absurd (omega arith)

-- without a metapage the root is block 0, which is on no level
nothing_there : (keys : Bool) → IsFirstDamage false keys [] 1 0
nothing_there keys = record { site = on_way 0 0 (omega arith); is = inl (refl, λ on. (let k = on.in_use in omega arith)); block_is = refl; first = first }
  where
    first : (other : Site (index_of [])) (n : ℕ) → IsDamage false keys other n → ComesBefore (rank other n) (0 ∷ 0 ∷ 0 ∷ 0 ∷ 1 ∷ []) → ⊥
    first (on_way d s e) n damage (inl lt) = omega (arith, lt)
    first (on_way d s e) n damage (inr (same, inl lt)) = omega (arith, lt)
    first (on_way d s e) n damage (inr (same, inr (is, inl lt))) = omega (arith, lt)
    first (on_way d s e) n damage (inr (same, inr (is, inr (zero_is, inl lt)))) = omega (arith, lt)
    first (on_way d s e) n (inl one) (inr (same, inr (is, inr (zero_is, inr (step, inl lt))))) = (let k = one.0 in omega (arith, lt))
    first (on_way d s e) n (inr three) (inr (same, inr (is, inr (zero_is, inr (step, inl lt))))) = (let k = three.0 in omega (arith, lt))
    first (on_way d s e) n damage (inr (same, inr (is, inr (zero_is, inr (step, inr (number_is, end)))))) = end
    first (on_chain h) n damage (inl lt) = omega (arith, lt)
    first (on_chain h) n damage (inr (same, inl lt)) = omega (arith, lt)
    first (on_chain h) n damage (inr (same, inr (is, inl lt))) = omega (arith, lt)
    first (on_chain h) n damage (inr (same, inr (is, inr (one, more)))) = omega (arith, one)
    first (at_child h i) n damage before = false≢true damage.0
    first (at_page h) n damage before = false≢true damage.0
    first (nowhere b) n damage before = false≢true damage.0

pub no_pages : (keys : Bool) (pages : List Page) (number block : ℕ) → length pages ≡ 0 → number ≡ 1 → block ≡ 0 → IsFirstDamage false keys pages number block
no_pages keys pages number block none one zero_is =
    subst (λ (n : ℕ). IsFirstDamage false keys pages n block) (sym one)
    (subst (λ (b : ℕ). IsFirstDamage false keys pages 1 b) (sym zero_is)
    (subst (λ (ps : List Page). IsFirstDamage false keys ps 1 0) (sym (none_of_length pages none)) (nothing_there keys)))

-- the root that the metapage names, and its level
module _ (pages : List Page) (root top : ℕ) (names : NamesRoot pages root top) where
  meta_is : nodes_of pages 0 ≡ node_of names.meta
  meta_is = ap node_from names.meta_at

  pub root_is : root ≡ (index_of pages).root
  root_is = sym (ap (λ (n : Node). or_block n.right 0) meta_is ∙ ap (λ (o : Option ℕ). or_block o 0) names.names.root_is)

  pub top_is : top ≡ (index_of pages).top
  top_is = names.top_is ∙ sym (ap (λ (n : Node). n.level) meta_is)

  pub some_pages : 0 < length pages
  some_pages = slice_get_within pages 0 names.meta names.meta_at

  pub top_low : StandAtTheirBlocks pages → top ≤ 31
  top_low stand =
      let kind = (stand 0 names.meta names.meta_at).0.kind in
      let low = (subst (IsOfKind names.meta) names.names.kind kind).level in
      omega (arith, low, names.top_is)

no_block : (n : ℕ) → n ≡ 0 → IsBlock n → ⊥
no_block n zero_is block = (let k = block.0 in omega (arith, k, zero_is))

-- the page of block 0 is the metapage, and names a root
first_is_meta : (pages : List Page) (page : Page) → StandAtTheirBlocks pages → slice_get pages 0 ≡ Some page → (page.items ≡ Meta) × IsSome page.right
first_is_meta pages page stand found = by page.items refl own.0.kind
  where
    own : IsPage page × (page.block ≡ 0)
    own = stand 0 page found

    by : (items : Items) → page.items ≡ items → IsOfKind page items → (page.items ≡ Meta) × IsSome page.right
    by Meta is kind = (is, kind.right)
    by (Entries v) is kind = absurd (no_block page.block own.1 kind.block)
    by (Downlinks v) is kind = absurd (no_block page.block own.1 kind.block)

-- so it names the root
pub names_root : (pages : List Page) (root level : ℕ) → StandAtTheirBlocks pages → 0 < length pages → (nodes_of pages 0).right ≡ Some root
    → level ≡ (nodes_of pages 0).level → NamesRoot pages root level
names_root pages root level stand some right level_is =
    let page = page_there pages 0 some in
    let here : nodes_of pages 0 ≡ node_of page.0 = ap node_from page.1 in
    record {
      meta = page.0;
      meta_at = page.1;
      names = record { kind = (first_is_meta pages page.0 stand page.1).0; root_is = sym (ap (λ (n : Node). n.right) here) ∙ right; level_is = refl };
      top_is = level_is ∙ ap (λ (n : Node). n.level) here;
    }

pub never_rootless : (pages : List Page) → StandAtTheirBlocks pages → 0 < length pages → (nodes_of pages 0).right ≡ None → ⊥
never_rootless pages stand some none =
    let page = page_there pages 0 some in
    by page.0.right (sym (ap (λ (n : Node). n.right) (ap node_from page.1)) ∙ none) (first_is_meta pages page.0 stand page.1).1
  where
    by : (o : Option ℕ) → o ≡ None → IsSome o → ⊥
    by None is some = false≢true some
    by (Some b) is some = cc

-- what is told of the judgement
pub answer_told : (parents keys : Bool) (pages : List Page) (judged : Result Report Damage) (result : Result Report CheckFault)
    → OnOk judged (IsSound parents keys pages) → IfOk judged (IsReport pages)
    → IfErr judged (λ d. IsFirstDamage parents keys pages d.number d.block)
    → IfOk judged (λ report. result ≡ Ok report) → IfErr judged (λ d. result ≡ Err (Damaged d.number d.block)) → IsAnswer parents keys pages result
answer_told parents keys pages (Ok report) result sound is first ok err = subst (IsAnswer parents keys pages) (sym ok) (sound, is)
answer_told parents keys pages (Err d) result sound is first ok err = subst (IsAnswer parents keys pages) (sym err) first

abbrev pub refused : Fault → Result Report CheckFault
refused fault = Err (Refused fault)

pub same_fault : (one other : Fault) → refused one ≡ refused other → one ≡ other
same_fault one other e = cc

-- what is told isn't a refusal
pub never_refused : (judged : Result Report Damage) (result : Result Report CheckFault) (fault : Fault) → IfOk judged (λ report. result ≡ Ok report)
    → IfErr judged (λ d. result ≡ Err (Damaged d.number d.block)) → result ≡ refused fault → ⊥
never_refused (Ok report) result fault ok err e = cc
never_refused (Err d) result fault ok err e = cc
