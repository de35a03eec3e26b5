-- A page of the format at its place on a level, where nothing is damaged.
use Rattle.std.proofs.Common.{◌≡◌, ◌≢◌, ℕ, zero, suc, ◌+◌, ◌<◌, inl, inr, true, false, Option, Some, None, is_some, List, [], ◌∷◌, length, slice_get, refl, sym, ap, subst, arith}
use Rattle.damages.proofs.Decided.{link_so, beyond_so, rises_so, bool_so, on_level_so}
use Rattle.damages.proofs.Imports.{Contains, bound_of, Bound, Entry, entries_of, IsPage, IsOfKind, LinkBefore, Ascends, Downlink, Items, Meta, Entries, Downlinks, Page, PageState, Live, HalfDead}
use Rattle.damages.proofs.Imports.{Deleted, Node, links_of, node_of, node_from, nodes_of, LeftContext, IsBeyond, Rises, FitsState, IsPlaced, index_of, Here, node, context, IsOnLevel, IsOfChain}
use Rattle.damages.proofs.Imports.{HasNotBeyond, StandAtTheirBlocks, IsFirstBeyond, IsSecondBeyond, IsBoundBeyond}
use Rattle.damages.proofs.Imports.{dead_after_split, deleted, not_beyond, not_rising, off_level, wrong_left}
use Rattle.damages.proofs.Items.{items_are, high_as_right, half_dead_is}

first_so : (low : Option Bound) (es : List Entry) → ((e : Entry) → Contains es e → (IsBeyond low (bound_of e) → ⊥) → ⊥) → IsFirstBeyond low es
first_so low [] h = tt
first_so low (e ∷ es) h = beyond_so low (bound_of e) (λ fails. h e (0, omega arith, refl) fails)

bound_there : (i j : Downlink) → LinkBefore i j → (low : Option Bound) → ((bound : Bound) → j.bound ≡ Some bound → IsBeyond low bound)
    → IsBoundBeyond low j.bound
bound_there i j before low h = by j.bound refl (go i.bound j.bound before)
  where
    go : (a b : Option Bound) → LinkBefore (record { bound = a; child = 0 }) (record { bound = b; child = 0 }) → b ≢ None
    go a (Some x) before = λ e. cc
    go None None before = absurd cc
    go (Some y) None before = absurd cc

    by : (o : Option Bound) → j.bound ≡ o → o ≢ None → IsBoundBeyond low o
    by None e some = absurd (some refl)
    by (Some b) e some = h b e

second_so : (low : Option Bound) (ds : List Downlink) → Ascends LinkBefore ds
    → ((item : ℕ) (link : Downlink) (bound : Bound) → 0 < item → slice_get ds item ≡ Some link → link.bound ≡ Some bound → (IsBeyond low bound → ⊥) → ⊥) → IsSecondBeyond low ds
second_so low [] up h = tt
second_so low (i ∷ []) up h = tt
second_so low (i ∷ j ∷ js) up h = bound_there i j up.0 low (λ bound e. beyond_so low bound (λ fails. h 1 j bound (omega arith) refl e fails))

module _ (page : Page) (admitted : IsPage page) (after_meta : 0 < page.block) (s : LeftContext) where
  ascending : Ascends LinkBefore (links_of page.items)
  ascending = by page.items refl admitted.kind
    where
      by : (items : Items) → page.items ≡ items → IsOfKind page items → Ascends LinkBefore (links_of items)
      by Meta is k = tt
      by (Entries v) is k = tt
      by (Downlinks v) is k = k.links.ascends

  pub fits_here : (page.state ≢ Deleted) → (page.state ≡ Live → (Rises s.low page.high → ⊥) → ⊥) → (HasNotBeyond s.low (node_of page) → ⊥)
      → (page.state ≡ HalfDead → s.left_is_split ≡ true → ⊥)
      → FitsState page.state page.level s (node_of page)
  fits_here stands rises items dead = by page.state refl
    where
      by : (state : PageState) → page.state ≡ state → FitsState state page.level s (node_of page)
      by Live e = (
        rises_so s.low page.high (rises e),
        items_are page s.low admitted after_meta e (first_so s.low (entries_of page.items) (λ x there fails. items (inl (x, there, fails))))
            (second_so s.low (links_of page.items) ascending (λ item link bound pos there is fails. items (inr (item, link, bound, pos, there, is, fails)))),
      )
      by HalfDead e = (let h = half_dead_is page admitted after_meta e in (h.level, h.entries, h.split, bool_so s.left_is_split (dead e), h.high))
      by Deleted e = absurd (stands e)

pub page_there : (pages : List Page) (n : ℕ) → n < length pages → (page : Page) × (slice_get pages n ≡ Some page)
page_there [] n lt = absurd (omega arith)
page_there (p ∷ pages) zero lt = (p, refl)
page_there (p ∷ pages) (suc n) lt = page_there pages n (omega arith)

-- what stands at a place where there is no damage
pub record IsRight (pages : List Page) (depth level : ℕ) (s : LeftContext) (block : ℕ) : Type 0 where
  pub on_level : IsOnLevel (index_of pages) depth block
  pub placed : IsPlaced (nodes_of pages block) level s (nodes_of pages block).right

pub right_here : (pages : List Page) (h : Here (index_of pages)) (level : ℕ) → StandAtTheirBlocks pages → level + h.depth ≡ (index_of pages).top
    → ((n : ℕ) → IsOfChain false h n → ⊥)
    → IsRight pages h.depth level (context h) h.block
right_here pages h level stand sum none' =
    let on = on_level_so (index_of pages) h.depth h.block (λ fails. none' 1 (off_level refl fails)) in
    let p = page_there pages h.block on.in_use in
    let here : nodes_of pages h.block ≡ node_of p.0 = ap node_from p.1 in
    let own = stand h.block p.0 p.1 in
    let after_meta : 0 < p.0.block = (let a = on.after_meta in let b = own.1 in omega arith) in
    let stands : (nodes_of pages h.block).state ≢ Deleted = (λ e. none' 4 (deleted refl e)) in
    record {
      on_level = on;
      placed = record {
        level_is = (let l = on.level_is in omega arith);
        left_is = link_so (node h).left (context h).left (λ differ. none' 2 (wrong_left refl differ));
        right_is = refl;
        high_is = subst (λ (n : Node). is_some n.high ≡ is_some n.right) (sym here) (high_as_right p.0 own.0 after_meta (subst (λ (n : Node). n.state ≢ Deleted) here stands));
        fits = subst (λ (l : ℕ). FitsState (nodes_of pages h.block).state l (context h) (nodes_of pages h.block)) (let l = on.level_is in omega arith)
            (subst (λ (n : Node). FitsState n.state n.level (context h) n) (sym here)
            (fits_here p.0 own.0 after_meta (context h) (subst (λ (n : Node). n.state ≢ Deleted) here stands)
            (subst (λ (n : Node). n.state ≡ Live → (Rises (context h).low n.high → ⊥) → ⊥) here (λ live fails. none' 5 (not_rising refl live fails)))
            (subst (λ (n : Node). HasNotBeyond (context h).low n → ⊥) here (λ has. none' 6 (not_beyond refl has)))
            (subst (λ (n : Node). n.state ≡ HalfDead → (context h).left_is_split ≡ true → ⊥) here (λ dead left_is_split. none' 12 (dead_after_split refl dead left_is_split)))));
      };
    }
