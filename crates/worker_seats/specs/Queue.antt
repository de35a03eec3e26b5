-- The rule of the queue of job numbers: what was pushed is what was popped and what the queue holds.
use Rattle.std.specs.Prelude.{◌≡◌, ℕ, zero, suc, ◌+◌, ◌==◌, ◌<◌, if◌then◌else◌, List, [], ◌∷◌, ◌++◌, map}
use mathlib.Core.Option.{some}
use lib.ListN.{get_elem?}
use Rattle.worker_seats.specs.declared.job_queue.QueueView.{QueueView}

-- the sum of this over all passes
abbrev pub total : (QueueView → ℕ) → List QueueView → ℕ
total f [] = 0
total f (v ∷ views) = f v + total f views

-- the weights of these numbers, added up
abbrev pub weigh : (ℕ → ℕ) → List ℕ → ℕ
weigh h [] = 0
weigh h (x ∷ xs) = h x + weigh h xs

-- the numbers below n, in order
abbrev pub below : ℕ → List ℕ
below zero = []
below (suc n) = below n ++ n ∷ []

-- the view of a pass with so many parts of the right to know all, which knows how many numbers were pushed,
-- and has popped these
abbrev pub queue_view : ℕ → ℕ → List ℕ → QueueView
queue_view parts pushed popped = record { parts = parts; pushed = pushed; popped = popped }

-- a pass without a part has popped nothing
abbrev pub IdleIsEmpty : List QueueView → Type 0
IdleIsEmpty views = (pass : ℕ) (v : QueueView) → get_elem? views pass ≡ some v → v.parts ≡ 0 → v.popped ≡ []

-- each pass with a part knows how many numbers were pushed
abbrev pub AllKnowPushed : ℕ → List QueueView → Type 0
AllKnowPushed n views = (pass : ℕ) (v : QueueView) → get_elem? views pass ≡ some v → 0 < v.parts → v.pushed ≡ n

-- The rule: the numbers below n were pushed, in order, and are, however they are weighed, those that the
-- passes have popped and those that the queue holds. All passes together have 1,024 parts.
pub record EachOnce (items : List ℕ) (views : List QueueView) : Type 0 where
  pub n : ℕ
  pub parts : total (λ v. v.parts) views ≡ 1024
  pub balance : (h : ℕ → ℕ) → weigh h (below n) ≡ total (λ v. weigh h v.popped) views + weigh h items
  pub known : AllKnowPushed n views
  pub idle : IdleIsEmpty views

-- a pass with every part pushes the next number
abbrev pub HasPushed : QueueView → QueueView → Type 0
HasPushed v w = w ≡ queue_view v.parts (v.pushed + 1) v.popped

-- a pass pops a number, which is one that was pushed
pub record HasPopped (v : QueueView) (x : ℕ) (w : QueueView) : Type 0 where
  pub below : x < v.pushed
  pub then_is : w ≡ queue_view v.parts v.pushed (v.popped ++ x ∷ [])

-- to a pass with every part: what it has popped and what is left are the numbers that were pushed
abbrev pub KnowsAll : QueueView → List ℕ → Type 0
KnowsAll v items = v.parts ≡ 1024 → (h : ℕ → ℕ) → weigh h (below v.pushed) ≡ weigh h v.popped + weigh h items

-- the jobs of these notes
abbrev pub jobs_in : List (ℕ × ℕ) → List ℕ
jobs_in notes = map (λ note. note.1) notes

-- the sum of this over the numbers below n
abbrev pub sum_below : ℕ → (ℕ → ℕ) → ℕ
sum_below zero f = 0
sum_below (suc n) f = sum_below n f + f n

-- the sum of this over the elements of a list
abbrev pub sum_over : {A : Type 0} → (A → ℕ) → List A → ℕ
sum_over f [] = 0
sum_over f (x ∷ xs) = f x + sum_over f xs

-- 1 at x alone
abbrev pub at_alone : ℕ → ℕ → ℕ
at_alone x y = if y == x then 1 else 0

-- how often x stands in the list
abbrev pub times : ℕ → List ℕ → ℕ
times x xs = weigh (at_alone x) xs
