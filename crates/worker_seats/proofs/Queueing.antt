-- Each step keeps the rule of the queue.
use Rattle.std.proofs.Common.{◌≡◌, ◌≢◌, ◌⊎◌, ℕ, zero, suc, ◌+◌, ◌-◌, ◌<◌, ◌≤◌, List, [], ◌∷◌, ◌++◌, set, refl, sym, ap, ◌∙◌, subst, inl, inr, ⊎_elim, arith, map, length}
use Rattle.std.proofs.lemmas.Bool.Decides.{nat_tests}
use mathlib.Core.Option.{some, some-ne-none, some-injective}
use lib.ListN.{get_elem?}
use Rattle.crossbeam_queue.specs.Fifo.{Pushes, Pops, Forks, Merges, Learns}
use Rattle.crossbeam_queue.proofs.Lists.{at_set, at_snoc}
use Rattle.worker_seats.specs.declared.job_queue.QueueView.{QueueView}
use Rattle.worker_seats.specs.Queue.{total, weigh, queue_view, below, IdleIsEmpty, AllKnowPushed, at_alone, EachOnce, HasPushed, HasPopped, KnowsAll}

pub weigh-append : (h : ℕ → ℕ) (xs ys : List ℕ) → weigh h (xs ++ ys) ≡ weigh h xs + weigh h ys
weigh-append h [] ys = omega arith
weigh-append h (x ∷ xs) ys = omega (arith, weigh-append h xs ys)

-- the total after a change of one pass
pub total_set : (f : QueueView → ℕ) (views : List QueueView) (pass : ℕ) (v w : QueueView) → get_elem? views pass ≡ some v → total f (set views pass w) + f v ≡ total f views + f w
total_set f [] pass v w e = absurd (some-ne-none v (sym e))
total_set f (x ∷ xs) zero v w e = let s : f x ≡ f v = ap f (some-injective _ _ e) in omega (arith, s)
total_set f (x ∷ xs) (suc pass) v w e = omega (arith, total_set f xs pass v w e)

pub total_snoc : (f : QueueView → ℕ) (views : List QueueView) (w : QueueView) → total f (views ++ w ∷ []) ≡ total f views + f w
total_snoc f [] w = omega arith
total_snoc f (x ∷ xs) w = omega (arith, total_snoc f xs w)

-- a pass has no more parts than all have
one_part : (ys : List QueueView) (p : ℕ) (u : QueueView) → get_elem? ys p ≡ some u → u.parts ≤ total (λ y. y.parts) ys
one_part [] p u e = absurd (some-ne-none u (sym e))
one_part (y ∷ ys) zero u e = let s : y.parts ≡ u.parts = ap (λ (z : QueueView). z.parts) (some-injective _ _ e) in omega (arith, s)
one_part (y ∷ ys) (suc p) u e = omega (arith, one_part ys p u e)

pub nat_cases : (m n : ℕ) → (m ≡ n) ⊎ (m ≢ n)
nat_cases zero zero = inl refl
nat_cases zero (suc n) = inr (λ e. omega (arith, e))
nat_cases (suc m) zero = inr (λ e. omega (arith, e))
nat_cases (suc m) (suc n) = ⊎_elim (λ e. inl (ap suc e)) (λ f. inr (λ e. f (omega (arith, e)))) (nat_cases m n)

pub is_here : (x : ℕ) → at_alone x x ≡ 1
is_here x = grind (arith, nat_tests)

pub is_else : (x y : ℕ) → y ≢ x → at_alone x y ≡ 0
is_else x y n = grind (arith, nat_tests, n)

-- what stands among the numbers below n is below n
pub under : (n x : ℕ) → 0 < weigh (at_alone x) (below n) → x < n
under zero x h = absurd (omega (arith, h))
under (suc n) x h = ⊎_elim
    (λ (e : n ≡ x). omega (arith, e))
    (λ (ne : n ≢ x). (let r = under n x (omega (arith, h, weigh-append (at_alone x) (below n) (n ∷ []), is_else x n ne)) in omega (arith, r)))
    (nat_cases n x)

-- if one pass has all that counts, the total is its own
pub total_one : (f g : QueueView → ℕ) (views : List QueueView) (pass : ℕ) (v : QueueView) → get_elem? views pass ≡ some v → total g views ≡ g v
    → ((j : ℕ) (u : QueueView) → get_elem? views j ≡ some u → g u ≡ 0 → f u ≡ 0) → total f views ≡ f v
total_one f g [] pass v e all idle = absurd (some-ne-none v (sym e))
total_one f g (x ∷ xs) zero v e all idle =
    let s : f x ≡ f v = ap f (some-injective _ _ e) in
    let t : g x ≡ g v = ap g (some-injective _ _ e) in
    let none = nothing xs (omega (arith, all, t)) (λ j u. idle (suc j) u) in
    omega (arith, s, none)
  where
    nothing : (ys : List QueueView) → total g ys ≡ 0 → ((j : ℕ) (u : QueueView) → get_elem? ys j ≡ some u → g u ≡ 0 → f u ≡ 0) → total f ys ≡ 0
    nothing [] z i = refl
    nothing (y ∷ ys) z i = let a = i 0 y refl (omega (arith, z)) in let b = nothing ys (omega (arith, z)) (λ j u. i (suc j) u) in omega (arith, a, b)
total_one f g (x ∷ xs) (suc pass) v e all idle =
    let at_least = part g xs pass v e in
    let rest = total_one f g xs pass v e (omega (arith, all, at_least)) (λ j u. idle (suc j) u) in
    let head = idle 0 x refl (omega (arith, all, at_least)) in
    omega (arith, rest, head)
  where
    part : (g : QueueView → ℕ) (ys : List QueueView) (p : ℕ) (u : QueueView) → get_elem? ys p ≡ some u → g u ≤ total g ys
    part g [] p u e = absurd (some-ne-none u (sym e))
    part g (y ∷ ys) zero u e = let s : g y ≡ g u = ap g (some-injective _ _ e) in omega (arith, s)
    part g (y ∷ ys) (suc p) u e = omega (arith, part g ys p u e)

idle_set : (views : List QueueView) (pass : ℕ) (w : QueueView) → (w.parts ≡ 0 → w.popped ≡ []) → IdleIsEmpty views → IdleIsEmpty (set views pass w)
idle_set views pass w mine idle j u e none = ⊎_elim
    (λ (x : (j ≡ pass) × (w ≡ u)). subst (λ (y : QueueView). y.parts ≡ 0 → y.popped ≡ []) x.1 mine none)
    (λ (x : (j ≢ pass) × (get_elem? views j ≡ some u)). idle j u x.1 none)
    (at_set views pass j w u e)

idle_snoc : (views : List QueueView) (w : QueueView) → (w.parts ≡ 0 → w.popped ≡ []) → IdleIsEmpty views → IdleIsEmpty (views ++ w ∷ [])
idle_snoc views w mine idle j u e none = ⊎_elim (λ x. idle j u x none)
    (λ (x : w ≡ u). subst (λ (y : QueueView). y.parts ≡ 0 → y.popped ≡ []) x mine none)
    (at_snoc views w u j e)

know_set : (n m : ℕ) (views : List QueueView) (pass : ℕ) (w : QueueView) → (0 < w.parts → w.pushed ≡ m)
    → ((j : ℕ) (u : QueueView) → j ≢ pass → get_elem? views j ≡ some u → 0 < u.parts → u.pushed ≡ m) → AllKnowPushed m (set views pass w)
know_set n m views pass w mine others j u e part = ⊎_elim
    (λ (x : (j ≡ pass) × (w ≡ u)). subst (λ (y : QueueView). 0 < y.parts → y.pushed ≡ m) x.1 mine part)
    (λ (x : (j ≢ pass) × (get_elem? views j ≡ some u)). others j u x.0 x.1 part)
    (at_set views pass j w u e)

know_snoc : (m : ℕ) (views : List QueueView) (w : QueueView) → w.pushed ≡ m → AllKnowPushed m views → AllKnowPushed m (views ++ w ∷ [])
know_snoc m views w mine all j u e part = ⊎_elim (λ x. all j u x part) (λ (x : w ≡ u). ap (λ (y : QueueView). y.pushed) (sym x) ∙ mine) (at_snoc views w u j e)

-- two passes have their parts apart
two_parts : (views : List QueueView) (i j : ℕ) (u v : QueueView) → i ≢ j → get_elem? views i ≡ some u → get_elem? views j ≡ some v → u.parts + v.parts ≤ total (λ y. y.parts) views
two_parts [] i j u v n e f = absurd (some-ne-none u (sym e))
two_parts (x ∷ xs) zero zero u v n e f = absurd (n refl)
two_parts (x ∷ xs) zero (suc j) u v n e f = let s : x.parts ≡ u.parts = ap (λ (y : QueueView). y.parts) (some-injective _ _ e) in omega (arith, s, one_part xs j v f)
two_parts (x ∷ xs) (suc i) zero u v n e f = let s : x.parts ≡ v.parts = ap (λ (y : QueueView). y.parts) (some-injective _ _ f) in omega (arith, s, one_part xs i u e)
two_parts (x ∷ xs) (suc i) (suc j) u v n e f = omega (arith, two_parts xs i j u v (λ s. n (ap suc s)) e f)

pub begins : EachOnce [] (queue_view 1024 0 [] ∷ [])
begins = record { n = 0; parts = refl; balance = λ h. refl; known = know; idle = one }
  where
    one : IdleIsEmpty (queue_view 1024 0 [] ∷ [])
    one zero v e none = let s : 1024 ≡ v.parts = ap (λ (u : QueueView). u.parts) (some-injective _ _ e) in absurd (omega (arith, s, none))
    one (suc j) v e none = absurd (some-ne-none v (sym e))

    know : AllKnowPushed 0 (queue_view 1024 0 [] ∷ [])
    know zero v e part = ap (λ (u : QueueView). u.pushed) (sym (some-injective _ _ e))
    know (suc j) v e part = absurd (some-ne-none v (sym e))

-- a pass with every part knows all
pub learns : (pass : ℕ) (v : QueueView) → Learns EachOnce pass v (KnowsAll v)
learns pass v items views b at whole h =
    let all : total (λ (u : QueueView). u.parts) views ≡ v.parts = b.parts ∙ sym whole in
    let pushed : v.pushed ≡ b.n = b.known pass v at (omega (arith, whole)) in
    let popped = total_one (λ (u : QueueView). weigh h u.popped) (λ (u : QueueView). u.parts) views pass v at all (λ j u e z. ap (weigh h) (b.idle j u e z)) in
    ap (λ n. weigh h (below n)) pushed ∙ b.balance h ∙ ap (λ n. n + weigh h items) popped

pub pushes : (n pass : ℕ) (v : QueueView) (x : ℕ) → v.parts ≡ 1024 → x ≡ v.pushed → Pushes EachOnce n pass v x (HasPushed v)
pushes n pass v x whole is items views room b at = (w, then_once, refl)
  where
    w : QueueView
    w = queue_view v.parts (v.pushed + 1) v.popped

    pushed : v.pushed ≡ b.n
    pushed = b.known pass v at (omega (arith, whole))

    add_zero : (m : ℕ) → m + 0 ≡ m
    add_zero m = omega arith

    balance : (h : ℕ → ℕ) → weigh h (below (suc b.n)) ≡ total (λ (u : QueueView). weigh h u.popped) (set views pass w) + weigh h (items ++ x ∷ [])
    balance h =
        let t = total_set (λ (u : QueueView). weigh h u.popped) views pass v w at in
        let now : weigh h (below b.n ++ b.n ∷ []) ≡ weigh h (below b.n) + h b.n = weigh-append h (below b.n) (b.n ∷ []) ∙ ap (λ m. weigh h (below b.n) + m) (add_zero (h b.n)) in
        let end : weigh h (items ++ x ∷ []) ≡ weigh h items + h b.n = weigh-append h items (x ∷ []) ∙ ap (λ m. weigh h items + m) (add_zero (h x) ∙ ap h (is ∙ pushed)) in
        omega (arith, t, now, b.balance h, end)

    then_once : EachOnce (items ++ x ∷ []) (set views pass w)
    then_once = record {
      n = suc b.n;
      parts = (let p = total_set (λ (u : QueueView). u.parts) views pass v w at in omega (arith, b.parts, p));
      balance = balance;
      known = know_set b.n (suc b.n) views pass w (λ _. omega (arith, pushed)) (λ j u apart e part. absurd (omega (arith, two_parts views j pass u v apart e at, b.parts, whole, part)));
      idle = idle_set views pass w (λ none. absurd (omega (arith, whole, none))) b.idle;
    }

pub pops : (pass : ℕ) (v : QueueView) → 0 < v.parts → Pops EachOnce pass v (HasPopped v)
pops pass v some_part x items views b at = (w, then_once, record { below = omega (arith, pushed, less); then_is = refl })
  where
    w : QueueView
    w = queue_view v.parts v.pushed (v.popped ++ x ∷ [])

    pushed : v.pushed ≡ b.n
    pushed = b.known pass v at some_part

    less : x < b.n
    less = under b.n x (omega (arith, b.balance (at_alone x), is_here x))

    then_once : EachOnce items (set views pass w)
    then_once = record {
      n = b.n;
      parts = (let p = total_set (λ (u : QueueView). u.parts) views pass v w at in omega (arith, b.parts, p));
      balance = λ h.
          (let t = total_set (λ (u : QueueView). weigh h u.popped) views pass v w at in
          omega (arith, t, b.balance h, weigh-append h v.popped (x ∷ [])));
      known = know_set b.n b.n views pass w (λ _. pushed) (λ j u _ e part. b.known j u e part);
      idle = idle_set views pass w (λ none. absurd (omega (arith, some_part, none))) b.idle;
    }

pub forks : (pass : ℕ) (v : QueueView) → 1 < v.parts → Forks EachOnce pass v (queue_view (v.parts - 1) v.pushed v.popped) (queue_view 1 v.pushed [])
forks pass v two items views b at =
    let l = queue_view (v.parts - 1) v.pushed v.popped in
    let r = queue_view 1 v.pushed [] in
    let vs = set views pass l in
    let pushed : v.pushed ≡ b.n = b.known pass v at (omega (arith, two)) in
    let p = total_set (λ (u : QueueView). u.parts) views pass v l at in
    record {
      n = b.n;
      parts = omega (arith, b.parts, p, two, total_snoc (λ (u : QueueView). u.parts) vs r);
      balance = λ h.
          (let t = total_set (λ (u : QueueView). weigh h u.popped) views pass v l at in
          omega (arith, t, b.balance h, total_snoc (λ (u : QueueView). weigh h u.popped) vs r));
      known = know_snoc b.n vs r pushed (know_set b.n b.n views pass l (λ _. pushed) (λ j u _ e part. b.known j u e part));
      idle = idle_snoc vs r (λ none. absurd (omega (arith, none))) (idle_set views pass l (λ none. absurd (omega (arith, two, none))) b.idle);
    }

pub merges : (pass : ℕ) (v : QueueView) (other : ℕ) (u : QueueView) → 0 < v.parts → Merges EachOnce pass v other u (queue_view (v.parts + u.parts) v.pushed (v.popped ++ u.popped)) (queue_view 0 0 [])
merges pass v other u some_part items views b at apart there =
    let w = queue_view (v.parts + u.parts) v.pushed (v.popped ++ u.popped) in
    let none = queue_view 0 0 [] in
    let vs = set views pass w in
    let pushed : v.pushed ≡ b.n = b.known pass v at some_part in
    let p = total_set (λ (y : QueueView). y.parts) views pass v w at in
    let q = total_set (λ (y : QueueView). y.parts) vs other u none there in
    record {
      n = b.n;
      parts = omega (arith, b.parts, p, q);
      balance = λ h.
          (let t = total_set (λ (y : QueueView). weigh h y.popped) views pass v w at in
          let t' = total_set (λ (y : QueueView). weigh h y.popped) vs other u none there in
          omega (arith, t, t', b.balance h, weigh-append h v.popped u.popped));
      known = know_set b.n b.n vs other none (λ z. absurd (omega (arith, z))) (λ j y _ e part. know_set b.n b.n views pass w (λ _. pushed) (λ i z _ e' part'. b.known i z e' part') j y e part);
      idle = idle_set vs other none (λ _. refl) (idle_set views pass w (λ z. absurd (omega (arith, some_part, z))) b.idle);
    }

-- ... if the queue holds tickets, each of a job
abbrev pub EachOnceOf : {T : Type 0} → (T → ℕ) → List T → List QueueView → Type 0
EachOnceOf job tickets views = EachOnce (map job tickets) views

module _ {T : Type 0} (job : T → ℕ) where
  map_end : (tickets : List T) (x : T) → map job (tickets ++ x ∷ []) ≡ map job tickets ++ job x ∷ []
  map_end [] x = refl
  map_end (y ∷ tickets) x = ap (λ l. job y ∷ l) (map_end tickets x)

  map_long : (tickets : List T) → length (map job tickets) ≡ length tickets
  map_long [] = refl
  map_long (y ∷ tickets) = ap suc (map_long tickets)

  pub pushes_of : (n pass : ℕ) (v : QueueView) (x : T) → v.parts ≡ 1024 → job x ≡ v.pushed → Pushes (EachOnceOf job) n pass v x (HasPushed v)
  pushes_of n pass v x whole is tickets views room b at =
      let r = pushes n pass v (job x) whole is (map job tickets) views (omega (arith, room, map_long tickets)) b at in
      (r.0, subst (λ l. EachOnce l (set views pass r.0)) (sym (map_end tickets x)) r.1, r.2)

  pub pops_of : (pass : ℕ) (v : QueueView) → 0 < v.parts → Pops (EachOnceOf job) pass v (λ x. HasPopped v (job x))
  pops_of pass v some_part x tickets views b at = pops pass v some_part (job x) (map job tickets) views b at

  pub learns_of : (pass : ℕ) (v : QueueView) → Learns (EachOnceOf job) pass v (λ tickets. KnowsAll v (map job tickets))
  learns_of pass v tickets views b at = learns pass v (map job tickets) views b at

  pub forks_of : (pass : ℕ) (v : QueueView) → 1 < v.parts → Forks (EachOnceOf job) pass v (queue_view (v.parts - 1) v.pushed v.popped) (queue_view 1 v.pushed [])
  forks_of pass v two tickets views b at = forks pass v two (map job tickets) views b at

  pub merges_of : (pass : ℕ) (v : QueueView) (other : ℕ) (u : QueueView) → 0 < v.parts
      → Merges (EachOnceOf job) pass v other u (queue_view (v.parts + u.parts) v.pushed (v.popped ++ u.popped)) (queue_view 0 0 [])
  merges_of pass v other u some_part tickets views b at apart there = merges pass v other u some_part (map job tickets) views b at apart there
