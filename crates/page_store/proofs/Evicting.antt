-- Which changed pages are written after the first.
use Rattle.std.proofs.Common.{◌≡◌, ℕ, zero, suc, ◌+◌, ◌<◌, ◌≤◌, ◌/◌, true, false, Some, List, [], ◌∷◌, ◌++◌, length, take, drop, slice_get, get_or, inl, inr, refl, sym, ap, subst, ◌∙◌, arith}
use Rattle.std.proofs.lemmas.List.Elements.{All-cons, All-append}
use Rattle.buffer_pool.specs.Pools.{most_of, act_of, changed_of}
use Rattle.page_store.proofs.Imports.{All, remove, cases_eq, ne_eqb, length-append, length-take, take-append-drop, append_assoc, has_block, Pool, IsWrittenNext, AreWrittenAhead}
use Rattle.page_store.proofs.Pooling.{first_has, later_has, has_at}

-- after these blocks this one comes first of the rest
next_of : (front rest : List ℕ) (b : ℕ) → slice_get (front ++ rest) (length front) ≡ Some b → (r : List ℕ) × (rest ≡ b ∷ r)
next_of [] [] b at = absurd cc
next_of [] (x ∷ rest) b at = (rest, (let same : x ≡ b = cc in ap (λ (y : ℕ). y ∷ rest) same))
next_of (x ∷ front) rest b at = next_of front rest b at

remove_next : (front rest : List ℕ) (b : ℕ) → remove (front ++ b ∷ rest) (length front) ≡ front ++ rest
remove_next [] rest b = refl
remove_next (x ∷ front) rest b = ap (λ (l : List ℕ). x ∷ l) (remove_next front rest b)

-- what is left if one was removed after these, is all without it
pub put_back : (xs front rest : List ℕ) (b : ℕ) → slice_get xs (length front) ≡ Some b → remove xs (length front) ≡ front ++ rest → xs ≡ front ++ b ∷ rest
put_back [] front rest b at left = absurd cc
put_back (x ∷ xs) [] rest b at left = cc
put_back (x ∷ xs) (f ∷ front) rest b at left =
    let same : x ≡ f = cc in
    let others : remove xs (length front) ≡ front ++ rest = cc in
    let all = put_back xs front rest b at others in
    cc

has_more : (front rest : List ℕ) (x b : ℕ) → has_block (front ++ rest) b ≡ true → has_block (front ++ x ∷ rest) b ≡ true
has_more [] rest x b h = later_has x b rest h
has_more (y ∷ front) rest x b h = elim (cases_eq y b) [
  | inl same ↦ first_has y b (front ++ x ∷ rest) same
  | inr ne ↦ later_has y b (front ++ x ∷ rest) (has_more front rest x b (sym (rw (ne_eqb y b ne) refl) ∙ h))
]

-- ... with others between
pub has_wide : (front more rest : List ℕ) (b : ℕ) → has_block (front ++ rest) b ≡ true → has_block (front ++ (more ++ rest)) b ≡ true
has_wide front [] rest b h = h
has_wide front (x ∷ more) rest b h = has_more front (more ++ rest) x b (has_wide front more rest b h)

-- what stands between is there
pub has_between : (front more rest : List ℕ) (k d : ℕ) → k < length more → has_block (front ++ (more ++ rest)) (get_or more k d) ≡ true
has_between [] [] rest k d less = absurd (omega (arith, less))
has_between [] (x ∷ more) rest zero d less = first_has x x (more ++ rest) refl
has_between [] (x ∷ more) rest (suc k) d less = later_has x (get_or more k d) (more ++ rest) (has_between [] more rest k d (omega (arith, less)))
has_between (f ∷ front) more rest k d less = later_has f (get_or more k d) (front ++ (more ++ rest)) (has_between front more rest k d less)

-- From this place of the order on, `count` pages were written, one after the other.
pub record AreWrittenInTurn (pinned : List ℕ) (durable place count : ℕ) (old new : Pool) : Type 0 where
  pub front : List ℕ
  pub more : List ℕ
  pub rest : List ℕ
  pub passed : length front ≡ place
  pub was : changed_of old ≡ front ++ (more ++ rest)
  pub left : changed_of new ≡ front ++ rest
  pub many : length more ≡ count
  pub each : All (λ b. (has_block pinned b ≡ false) × (act_of old b ≤ durable)) more
  pub few : (b : ℕ) → act_of new b ≤ act_of old b
  pub same : (b : ℕ) → has_block (changed_of new) b ≡ true → act_of new b ≡ act_of old b

pub goes_none : (pinned : List ℕ) (durable place : ℕ) (pool : Pool) → place ≤ length (changed_of pool) → AreWrittenInTurn pinned durable place 0 pool pool
goes_none pinned durable place pool within = record {
  front = take place (changed_of pool);
  more = [];
  rest = drop place (changed_of pool);
  passed = omega (arith, length-take place (changed_of pool), within);
  was = sym (take-append-drop place (changed_of pool));
  left = sym (take-append-drop place (changed_of pool));
  many = refl;
  each = λ k d less. absurd (omega (arith, less));
  few = λ b. omega arith;
  same = λ b among. refl;
}

module _ (pinned : List ℕ) (durable place count : ℕ) (old mid : Pool) (g : AreWrittenInTurn pinned durable place count old mid) where
  pub goes_next : (new : Pool) → IsWrittenNext pinned durable place mid new → AreWrittenInTurn pinned durable place (count + 1) old new
  goes_next new n =
      let at : slice_get (g.front ++ g.rest) (length g.front) ≡ Some n.block =
      subst (λ (k : ℕ). slice_get (g.front ++ g.rest) k ≡ Some n.block) (sym g.passed) (subst (λ (l : List ℕ). slice_get l place ≡ Some n.block) g.left n.at) in
      let next = next_of g.front g.rest n.block at in
      let order : changed_of mid ≡ g.front ++ n.block ∷ next.0 = g.left ∙ ap (λ (l : List ℕ). g.front ++ l) next.1 in
      let left : changed_of new ≡ g.front ++ next.0 =
      n.written.order ∙ (ap (λ (l : List ℕ). remove l place) order ∙ (ap (remove (g.front ++ n.block ∷ next.0)) (sym g.passed) ∙ remove_next g.front next.0 n.block)) in
      record {
        front = g.front;
        more = g.more ++ n.block ∷ [];
        rest = next.0;
        passed = g.passed;
        was = g.was ∙ (ap (λ (l : List ℕ). g.front ++ (g.more ++ l)) next.1 ∙ ap (λ (l : List ℕ). g.front ++ l) (sym (append_assoc g.more (n.block ∷ []) next.0)));
        left = left;
        many = omega (arith, length-append g.more (n.block ∷ []), g.many);
        each = All-append (λ b. (has_block pinned b ≡ false) × (act_of old b ≤ durable)) g.more (n.block ∷ []) g.each
            (All-cons (λ b. (has_block pinned b ≡ false) × (act_of old b ≤ durable)) n.block [] (n.unpinned, omega (arith, g.same n.block (has_at (changed_of mid) place n.block n.at), n.early))
            (λ k d less. absurd (omega (arith, less))));
        few = λ b. elim (cases_eq b (get_or (changed_of mid) place 0)) [
          | inl here ↦ omega (arith, ap (act_of new) here ∙ n.written.written)
          | inr ne ↦ omega (arith, n.written.others b ne, g.few b)
        ];
        same = λ b among. n.others b among ∙ g.same b (ap (λ (l : List ℕ). has_block l b) order ∙ has_more g.front next.0 n.block b (sym (ap (λ (l : List ℕ). has_block l b) left) ∙ among));
      }

  pub ahead_of : count ≤ most_of old / 4 → AreWrittenAhead pinned durable place old mid
  ahead_of few = record {
    front = g.front;
    more = g.more;
    rest = g.rest;
    passed = g.passed;
    was = g.was;
    left = g.left;
    few = omega (arith, g.many, few);
    each = g.each;
    others = g.same;
  }
