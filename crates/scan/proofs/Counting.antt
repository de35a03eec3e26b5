-- What is left to do gets less.
use Rattle.std.proofs.Common.{◌≡◌, ℕ, zero, suc, ◌+◌, ◌*◌, ◌<◌, ◌≤◌, Bool, true, false, ◌&&◌, if◌then◌else◌, Some, List, [], ◌∷◌, length, slice_get, refl, ap, ◌∙◌, arith}
use Rattle.std.proofs.Math.Nat.{mul_comm}
use Rattle.scan.proofs.Imports.{mul-add-lt, Bound, Page, Live, IsNoGreater, is_live, frontier_aim, is_within, walk_length, frontier_past, is_ahead, count_ahead, false≢true}
use Rattle.scan.proofs.Frontiers.{within_falls, high_is_passed}

counted : Bool → ℕ → ℕ
counted c n = if c then suc n else n

pub count_few : (f : Bound) (pages : List Page) → count_ahead f pages ≤ length pages
count_few f [] = omega arith
count_few f (page ∷ pages) = go (is_ahead f page) (count_few f pages)
  where
    go : (w : Bool) → count_ahead f pages ≤ length pages → (if w then suc (count_ahead f pages) else count_ahead f pages) ≤ suc (length pages)
    go true le = omega arith
    go false le = omega arith

and_both : (a b c : Bool) → (b ≡ true → c ≡ true) → a && b ≡ true → a && c ≡ true
and_both true b c f h = f h
and_both false b c f h = h

-- fewer pages are ahead of a frontier that has gone on
module _ (f g : Bound) (le : IsNoGreater f g) where
  ahead_falls : (page : Page) → is_ahead g page ≡ true → is_ahead f page ≡ true
  ahead_falls page h = and_both (is_live page.state) (is_within (frontier_aim g) page.high) (is_within (frontier_aim f) page.high) (within_falls f g le page.high) h

  one_falls : (v w : Bool) (m n : ℕ) → (w ≡ true → v ≡ true) → n ≤ m → (if w then suc n else n) ≤ (if v then suc m else m)
  one_falls true true m n f le = omega arith
  one_falls true false m n f le = omega arith
  one_falls false true m n f le = absurd (false≢true (f refl))
  one_falls false false m n f le = le

  pub count_falls : (pages : List Page) → count_ahead g pages ≤ count_ahead f pages
  count_falls [] = omega arith
  count_falls (page ∷ pages) = one_falls (is_ahead f page) (is_ahead g page) (count_ahead f pages) (count_ahead g pages) (ahead_falls page) (count_falls pages)

  one_drops : (v w : Bool) (m n : ℕ) → v ≡ true → w ≡ false → n ≤ m → (if w then suc n else n) < (if v then suc m else m)
  one_drops true false m n a b le = omega arith
  one_drops true true m n a b le = absurd cc
  one_drops false w m n a b le = absurd cc

  one_drops_on : (v w : Bool) (m n : ℕ) → (w ≡ true → v ≡ true) → n < m → (if w then suc n else n) < (if v then suc m else m)
  one_drops_on true true m n f lt = omega arith
  one_drops_on true false m n f lt = omega arith
  one_drops_on false true m n f lt = absurd (false≢true (f refl))
  one_drops_on false false m n f lt = lt

  pub count_drops : (pages : List Page) (b : ℕ) (page : Page) → slice_get pages b ≡ Some page → is_ahead f page ≡ true → is_ahead g page ≡ false → count_ahead g pages < count_ahead f pages
  count_drops [] b page found was gone = cc
  count_drops (p ∷ pages) zero page found was gone =
      let same : p ≡ page = cc in
      one_drops (is_ahead f p) (is_ahead g p) (count_ahead f pages) (count_ahead g pages) (ap (is_ahead f) same ∙ was) (ap (is_ahead g) same ∙ gone) (count_falls pages)
  count_drops (p ∷ pages) (suc b) page found was gone =
      one_drops_on (is_ahead f p) (is_ahead g p) (count_ahead f pages) (count_ahead g pages) (ahead_falls p) (count_drops pages b page found was gone)

pub some_ahead : (f : Bound) (pages : List Page) (b : ℕ) (page : Page) → slice_get pages b ≡ Some page → is_ahead f page ≡ true → 0 < count_ahead f pages
some_ahead f [] b page found was = cc
some_ahead f (p ∷ pages) zero page found was = (let same : p ≡ page = cc in go (is_ahead f p) (ap (is_ahead f) same ∙ was))
  where
    go : (w : Bool) → w ≡ true → 0 < (if w then suc (count_ahead f pages) else count_ahead f pages)
    go true is = omega arith
    go false is = absurd cc
some_ahead f (p ∷ pages) (suc b) page found was = go (is_ahead f p) (some_ahead f pages b page found was)
  where
    go : (w : Bool) → 0 < count_ahead f pages → 0 < (if w then suc (count_ahead f pages) else count_ahead f pages)
    go true lt = omega arith
    go false lt = lt

pub live_ahead : (f : Bound) (page : Page) → page.state ≡ Live → is_within (frontier_aim f) page.high ≡ true → is_ahead f page ≡ true
live_ahead f page alive within = rw (alive, within) refl

-- a page with a high key isn't ahead of the frontier after it
pub passed_not_ahead : (f high : Bound) (page : Page) → page.high ≡ Some high → is_ahead (frontier_past f (Some high)) page ≡ false
passed_not_ahead f high page is = none (is_live page.state) (is_within (frontier_aim (frontier_past f (Some high))) page.high)
    (ap (is_within (frontier_aim (frontier_past f (Some high)))) is ∙ high_is_passed f high)
  where
    none : (a b : Bool) → b ≡ false → a && b ≡ false
    none true b h = h
    none false b h = refl

-- one leaf fewer is more than a walk and the entries of a leaf
pub leaf_less : (most fewer many rest left : ℕ) → fewer < many → rest < walk_length most + 52 → fewer * (walk_length most + 52) + rest < many * (walk_length most + 52) + left
leaf_less most fewer many rest left lt small =
    let t = mul-add-lt fewer (walk_length most + 52) rest many lt small in
    let c = mul_comm (walk_length most + 52) many in
    omega arith
