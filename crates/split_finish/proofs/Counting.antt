-- What is left to do, while the pages are as they are.
use Rattle.std.proofs.Common.{◌≡◌, ℕ, suc, ◌+◌, ◌-◌, ◌*◌, ◌<◌, ◌≤◌, ◌==◌, true, false, List, [], ◌∷◌, ◌++◌, length, refl, sym, ap, ◌∙◌, arith, length-append}
use Rattle.split_finish.proofs.Imports.{mul-le-mul_right, Node, IsShorter, way_left, walk_length, Position, walk_is_long, way_shortens, is_as_read, stale_count, is_ready, detour, walk_left}
use Rattle.split_finish.proofs.Imports.{FinishAt, Start, Down, Link, Root, Target}

-- the walks that are left outweigh one walk
fewer_walks : (fewer more walk a b : ℕ) → fewer < more → a ≤ walk → fewer * suc walk + a < more * suc walk + b
fewer_walks fewer more walk a b lt le =
    let k : suc fewer * suc walk ≤ more * suc walk = mul-le-mul_right (suc walk) lt in
    let e : suc fewer * suc walk ≡ fewer * suc walk + suc walk = omega arith in
    omega arith

same_walks : (walks walk a b : ℕ) → a < b → walks * suc walk + a < walks * suc walk + b
same_walks walks walk a b lt = omega arith

stale_append : (at : ℕ → Node) (xs ys : List Target) → stale_count at (xs ++ ys) ≡ stale_count at xs + stale_count at ys
stale_append at [] ys = (let n = stale_count at ys in omega arith)
stale_append at (x ∷ xs) ys = (let h = stale_append at xs ys in omega arith)

stale_one : (at : ℕ → Node) (target : Target) → is_as_read at target ≡ false → stale_count at (target ∷ []) ≡ 1
stale_one at target is = rw is refl

fresh_one : (at : ℕ → Node) (target : Target) → is_as_read at target ≡ true → stale_count at (target ∷ []) ≡ 0
fresh_one at target is = rw is refl

-- what is left, by the parts of a call
abbrev pub left : ℕ → (ℕ → Node) → List Target → Target → FinishAt → ℕ
left most at below target context =
    ((33 + (2 * stale_count at (below ++ target ∷ []) + detour at target context)) - length (below ++ target ∷ [])) * suc (walk_length most) + walk_left most context

module _ (most : ℕ) (at : ℕ → Node) (below : List Target) (target : Target) where
  walk : ℕ
  walk = walk_length most

  many : length (below ++ target ∷ []) ≡ suc (length below)
  many = length-append below (target ∷ []) ∙ omega arith

  pub less_root : ((at 0).level == target.level) ≡ true → left most at below target Root < left most at below target Start
  less_root is = rw is (same_walks _ (walk_length most) 0 (walk_length most) (omega arith))

  pub less_down : (position : Position) → position.level ≤ 255 → left most at below target (Down position) < left most at below target Start
  less_down position low = same_walks _ (walk_length most) (way_left most position) (walk_length most) (walk_is_long most position low)

  pub less_onward : (to : ℕ) (position on : Position) → IsShorter to most position on → left most at below target (Down on) < left most at below target (Down position)
  less_onward to position on h = same_walks _ (walk_length most) (way_left most on) (way_left most position) (way_shortens to most position on h)

  pub less_link : (position : Position) → is_ready (at position.block) (suc target.level) target.separator ≡ true → left most at below target (Link position) < left most at below target (Down position)
  less_link position is = rw is (same_walks _ (walk_length most) 0 (way_left most position) (omega arith))

  pub less_back : (position : Position) → position.level ≤ 255 → is_ready (at position.block) (suc target.level) target.separator ≡ false → length below ≤ 31
      → left most at below target (Down position) < left most at below target (Link position)
  less_back position low is few = rw is (fewer_walks _ _ (walk_length most) (way_left most position) 0 (let m = many in omega arith) (let l = walk_is_long most position low in omega arith))

  pub less_again : ((at 0).level == target.level) ≡ false → length below ≤ 31 → left most at below target Start < left most at below target Root
  less_again is few = rw is (fewer_walks _ _ (walk_length most) (walk_length most) 0 (let m = many in omega arith) (omega arith))

  stale : is_as_read at target ≡ false → stale_count at (below ++ target ∷ []) ≡ suc (stale_count at below)
  stale is = stale_append at below (target ∷ []) ∙ (let k = stale_one at target is in omega arith)

  pub less_retaken : (newer : Target) (context next : FinishAt) → is_as_read at target ≡ false → is_as_read at newer ≡ true → detour at newer next ≡ 0
      → walk_left most next ≤ walk_length most → length below ≤ 31
      → left most at below newer next < left most at below target context
  less_retaken newer context next was is straight short few =
      fewer_walks _ _ (walk_length most) (walk_left most next) (walk_left most context)
      (let m = many in let n : length (below ++ newer ∷ []) ≡ suc (length below) = length-append below (newer ∷ []) ∙ omega arith in
      let s = stale was in let f : stale_count at (below ++ newer ∷ []) ≡ stale_count at below = stale_append at below (newer ∷ []) ∙ (let k = fresh_one at newer is in omega arith) in
      omega arith) short

  pub less_pushed : (newer : Target) (context : FinishAt) → is_as_read at newer ≡ true → length below < 31
      → left most at (below ++ target ∷ []) newer Start < left most at below target context
  less_pushed newer context is few =
      fewer_walks _ _ (walk_length most) (walk_length most) (walk_left most context)
      (let m = many in let n : length ((below ++ target ∷ []) ++ newer ∷ []) ≡ suc (length (below ++ target ∷ [])) = length-append (below ++ target ∷ []) (newer ∷ []) ∙ omega arith in
      let f : stale_count at ((below ++ target ∷ []) ++ newer ∷ []) ≡ stale_count at (below ++ target ∷ []) =
      stale_append at (below ++ target ∷ []) (newer ∷ []) ∙ (let k = fresh_one at newer is in omega arith) in
      omega arith) (omega arith)

  pub less_popped : (rest : List Target) (last : Target) (context : FinishAt) → below ≡ rest ++ last ∷ [] → is_as_read at target ≡ false → length below ≤ 31
      → left most at rest last Start < left most at below target context
  less_popped rest last context is was few =
      fewer_walks _ _ (walk_length most) (walk_length most) (walk_left most context)
      (let m = many in let n : length (rest ++ last ∷ []) ≡ length below = ap length (sym is) in
      let s = stale was in let f : stale_count at (rest ++ last ∷ []) ≡ stale_count at below = ap (stale_count at) (sym is) in
      omega arith) (omega arith)

-- a last target that needn't be finished leaves so much
pub over_alone : (most : ℕ) (at : ℕ → Node) (target : Target) (context : FinishAt) → is_as_read at target ≡ false → 34 * suc (walk_length most) ≤ left most at [] target context
over_alone most at target context was =
    rw was (
    let k : 34 * suc (walk_length most) ≤ ((33 + (2 * (1 + 0) + detour at target context)) - 1) * suc (walk_length most) = mul-le-mul_right (suc (walk_length most)) (omega arith) in
    omega arith)
