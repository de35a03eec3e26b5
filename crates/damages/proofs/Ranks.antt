-- Of two first damages of the same pages both are one.
use Rattle.std.proofs.Common.{◌≡◌, ℕ, inl, inr, Bool, List, [], ◌∷◌, Option, Some, refl, slice_get, get_or, length, sym, ap, ◌∙◌, arith}
use Rattle.damages.proofs.Imports.{cases_lt, Downlink, Page, from_low, left_after_steps, IsSound, Index, Here, Item, Site, IsDamage, IsFirstDamage, IsOfParents, ComesBefore, rank, site_block}
use Rattle.damages.proofs.Imports.{place_at, index_of, on_way, on_chain, at_child, at_page, nowhere}

-- neither comes before the other
abbrev Level : List ℕ → List ℕ → Type 0
Level xs ys = (ComesBefore xs ys → ⊥) × (ComesBefore ys xs → ⊥)

peel : (x y : ℕ) (xs ys : List ℕ) → Level (x ∷ xs) (y ∷ ys) → (x ≡ y) × Level xs ys
peel x y xs ys l = elim (cases_lt x y) [
  | inl lt ↦ absurd (l.0 (inl lt))
  | inr ge ↦ elim (cases_lt y x) [
    | inl lt ↦ absurd (l.1 (inl lt))
    | inr le ↦
        let e : x ≡ y = omega arith in
        (e, (λ b. l.0 (inr (e, b)), λ b. l.1 (inr (sym e, b))))
  ]
]

same : (xs ys : List ℕ) → length xs ≡ length ys → Level xs ys → xs ≡ ys
same [] [] e l = refl
same [] (y ∷ ys) e l = absurd (omega arith)
same (x ∷ xs) [] e l = absurd (omega arith)
same (x ∷ xs) (y ∷ ys) e l =
    let p = peel x y xs ys l in
    let q = same xs ys (omega arith) p.1 in
    λ i. p.0 i ∷ q i

number_at : (k : ℕ) (xs ys : List ℕ) → xs ≡ ys → get_or xs k 0 ≡ get_or ys k 0
number_at k xs ys e = ap (λ (l : List ℕ). get_or l k 0) e

some_one : (o p : Option ℕ) (b c : ℕ) → o ≡ p → o ≡ Some b → p ≡ Some c → b ≡ c
some_one o p b c e f g = cc

some_link : (o p : Option Downlink) (b c : Downlink) → o ≡ p → o ≡ Some b → p ≡ Some c → b ≡ c
some_link o p b c e f g = cc

same_block : {ix : Index} (h k : Here ix) → h.depth ≡ k.depth → h.place ≡ k.place → h.block ≡ k.block
same_block {ix} h k d p = some_one _ _ h.block k.block (λ i. (place_at ix (d i) (p i)).block) h.is k.is

numbered : {ix : Index} (h : Here ix) (n : ℕ) → IsOfParents h n → n ≡ 1 → ⊥
numbered h n (inl a) e = let k = a.0 in omega arith
numbered h n (inr (inl a)) e = let k = a.0 in omega arith
numbered h n (inr (inr a)) e = let k = a.0 in omega arith

same_child : {ix : Index} (h k : Here ix) (i : Item h) (j : Item k) → h.depth ≡ k.depth → h.place ≡ k.place → i.item ≡ j.item → i.link.child ≡ j.link.child
same_child {ix} h k i j d p t =
    let b = same_block h k d p in
    ap (λ (l : Downlink). l.child) (some_link _ _ i.link j.link (λ s. slice_get (from_low (place_at ix (d s) (p s)).context.low (ix.at (b s)).links) (t s)) i.is j.is)

-- two damages of which neither comes first have one number, and one block
one : (parents keys : Bool) (ix : Index) (s t : Site ix) (n m : ℕ) → IsDamage parents keys s n → IsDamage parents keys t m → Level (rank s n) (rank t m)
    → (n ≡ m) × (site_block s ≡ site_block t)
one parents keys ix (on_way d k e) (on_way d' k' e') n m a b l =
    let xs = rank {ix = ix} (on_way d k e) n in
    let ys = rank {ix = ix} (on_way d' k' e') m in
    let p = same xs ys refl l in
    let deep : d ≡ d' = number_at 1 xs ys p in
    let far : k ≡ k' = number_at 3 xs ys p in
    (number_at 4 xs ys p, λ i. left_after_steps ix (deep i) (far i))
one parents keys ix (on_way d k e) (on_chain h) n m a b l =
    absurd (let q : 0 ≡ 1 = number_at 2 _ _ (same (rank {ix = ix} (on_way d k e) n) (rank (on_chain h) m) refl l) in omega arith)
one parents keys ix (on_chain h) (on_way d k e) n m a b l =
    absurd (let q : 1 ≡ 0 = number_at 2 _ _ (same (rank (on_chain h) n) (rank {ix = ix} (on_way d k e) m) refl l) in omega arith)
one parents keys ix (on_chain h) (on_chain k) n m a b l =
    let p = same (rank (on_chain h) n) (rank (on_chain k) m) refl l in
    (number_at 4 _ _ p, same_block h k (number_at 1 _ _ p) (number_at 3 _ _ p))
one parents keys ix (at_child h i) (at_child k j) n m a b l =
    let p = same (rank (at_child h i) n) (rank (at_child k j) m) refl l in
    (number_at 3 _ _ p, same_child h k i j (number_at 1 _ _ p) (number_at 2 _ _ p) (number_at 4 _ _ p))
one parents keys ix (at_child h i) (at_page k) n m a b l =
    let p = same (rank (at_child h i) n) (rank (at_page k) m) refl l in
    let r : n ≡ m = number_at 3 _ _ p in
    absurd (numbered k m b.1 (sym r ∙ a.1))
one parents keys ix (at_page h) (at_child k j) n m a b l =
    let p = same (rank (at_page h) n) (rank (at_child k j) m) refl l in
    let r : n ≡ m = number_at 3 _ _ p in
    absurd (numbered h n a.1 (r ∙ b.1))
one parents keys ix (at_page h) (at_page k) n m a b l =
    let p = same (rank (at_page h) n) (rank (at_page k) m) refl l in
    (number_at 3 _ _ p, same_block h k (number_at 1 _ _ p) (number_at 2 _ _ p))
one parents keys ix (nowhere x) (nowhere y) n m a b l =
    let p = same (2 ∷ x ∷ []) (2 ∷ y ∷ []) refl l in
    (a.1 ∙ sym b.1, number_at 1 _ _ p)
one parents keys ix (on_way d k e) (at_child h i) n m a b l = absurd (l.0 (inl (omega arith)))
one parents keys ix (on_way d k e) (at_page h) n m a b l = absurd (l.0 (inl (omega arith)))
one parents keys ix (on_way d k e) (nowhere x) n m a b l = absurd (l.0 (inl (omega arith)))
one parents keys ix (on_chain h) (at_child k i) n m a b l = absurd (l.0 (inl (omega arith)))
one parents keys ix (on_chain h) (at_page k) n m a b l = absurd (l.0 (inl (omega arith)))
one parents keys ix (on_chain h) (nowhere x) n m a b l = absurd (l.0 (inl (omega arith)))
one parents keys ix (at_child h i) (on_way d k e) n m a b l = absurd (l.1 (inl (omega arith)))
one parents keys ix (at_child h i) (on_chain k) n m a b l = absurd (l.1 (inl (omega arith)))
one parents keys ix (at_child h i) (nowhere x) n m a b l = absurd (l.0 (inl (omega arith)))
one parents keys ix (at_page h) (on_way d k e) n m a b l = absurd (l.1 (inl (omega arith)))
one parents keys ix (at_page h) (on_chain k) n m a b l = absurd (l.1 (inl (omega arith)))
one parents keys ix (at_page h) (nowhere x) n m a b l = absurd (l.0 (inl (omega arith)))
one parents keys ix (nowhere x) (on_way d k e) n m a b l = absurd (l.1 (inl (omega arith)))
one parents keys ix (nowhere x) (on_chain k) n m a b l = absurd (l.1 (inl (omega arith)))
one parents keys ix (nowhere x) (at_child k i) n m a b l = absurd (l.1 (inl (omega arith)))
one parents keys ix (nowhere x) (at_page k) n m a b l = absurd (l.1 (inl (omega arith)))

pub first_is_one : (parents keys : Bool) (pages : List Page) (n b m c : ℕ) → IsFirstDamage parents keys pages n b → IsFirstDamage parents keys pages m c → (n ≡ m) × (b ≡ c)
first_is_one parents keys pages n b m c f g =
    let r = one parents keys (index_of pages) f.site g.site n m f.is g.is (g.first f.site n f.is, f.first g.site m g.is) in
    (r.0, f.block_is ∙ r.1 ∙ sym g.block_is)

pub first_is_none : (parents keys : Bool) (pages : List Page) (n b : ℕ) → IsSound parents keys pages → IsFirstDamage parents keys pages n b → ⊥
first_is_none parents keys pages n b sound f = sound f.site n f.is
