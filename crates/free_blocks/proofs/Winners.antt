-- What the winners say of the blocks below them.
use Rattle.std.proofs.Common.{◌≡◌, ◌≢◌, ℕ, zero, suc, ◌+◌, ◌*◌, ◌<◌, ◌≤◌, true, false, Some, None, Option, List, length, set, refl, sym, ap, subst, inl, inr, ◌∙◌, arith}
use Rattle.std.proofs.lemmas.Bool.{cases_lt, leb-true, leb-false, le-leb, lt-leb}
use Rattle.std.proofs.lemmas.List.{get_or-set_other, get_or-set_same}
use Rattle.free_blocks.specs.Numbers.{number_at, lesser, is_at_most}
use Rattle.free_blocks.specs.Tree.{leftmost, IsWinner, AreWinners}

pub leftmost-double : (node levels : ℕ) → 2 * leftmost node levels ≡ leftmost (2 * node) levels
leftmost-double node zero = refl
leftmost-double node (suc levels) = leftmost-double (2 * node) levels

pub leftmost-more : (levels a b : ℕ) → a ≤ b → leftmost a levels ≤ leftmost b levels
leftmost-more zero a b le = le
leftmost-more (suc levels) a b le = leftmost-more levels (2 * a) (2 * b) (omega arith)

pub leftmost-least : (levels node : ℕ) → node ≤ leftmost node levels
leftmost-least zero node = omega arith
leftmost-least (suc levels) node = omega (arith, leftmost-least levels (2 * node))

-- a number that is at most this, is so at the winner, and only then
first_beyond : (most a b : Option ℕ) → is_at_most most (lesser a b) ≡ false → is_at_most most a ≡ false
first_beyond most None b h = refl
first_beyond most (Some a) None h = h
first_beyond None (Some a) (Some b) h = absurd cc
first_beyond (Some most) (Some a) (Some b) h = lt-leb a most (omega (arith, leb-false _ _ h))

second_beyond : (most a b : Option ℕ) → is_at_most most (lesser a b) ≡ false → is_at_most most b ≡ false
second_beyond most None b h = h
second_beyond most (Some a) None h = refl
second_beyond None (Some a) (Some b) h = absurd cc
second_beyond (Some most) (Some a) (Some b) h = lt-leb b most (omega (arith, leb-false _ _ h))

pub second_at_most : (most a b : Option ℕ) → is_at_most most (lesser a b) ≡ true → is_at_most most a ≡ false → is_at_most most b ≡ true
second_at_most most None b h not = h
second_at_most most (Some a) None h not = absurd cc
second_at_most None (Some a) (Some b) h not = absurd cc
second_at_most (Some most) (Some a) (Some b) h not = le-leb b most (omega (arith, leb-true _ _ h, leb-false a most not))

module _ (tree : List (Option ℕ)) (size : ℕ) (most : Option ℕ) (winners : AreWinners size tree) where
  -- no block below a node whose number is beyond is at most this
  pub beyond_under : (levels node block : ℕ) → 1 ≤ node → is_at_most most (number_at tree node) ≡ false
      → leftmost node levels ≤ block → block < leftmost (node + 1) levels → block < 2 * size
      → is_at_most most (number_at tree block) ≡ false
  beyond_under zero node block one beyond from to inside =
      let here : node ≡ block = omega arith in
      subst (λ (n : ℕ). is_at_most most (number_at tree n) ≡ false) here beyond
  beyond_under (suc levels) node block one beyond from to inside =
      let small : node < size = omega (arith, leftmost-least levels (2 * node)) in
      let both = ap (is_at_most most) (sym (winners node one small)) ∙ beyond in
      let next : 2 * (node + 1) ≡ 2 * node + 1 + 1 = omega arith in
      elim (cases_lt block (leftmost (2 * node + 1) levels)) [
        | inl lt ↦ beyond_under levels (2 * node) block (omega arith) (first_beyond most _ _ both) from lt inside
        | inr ge ↦ beyond_under levels (2 * node + 1) block (omega arith) (second_beyond most _ _ both) ge
            (subst (λ (n : ℕ). block < leftmost n levels) next to) inside
      ]

-- the lowest block whose number is at most this stands `levels` levels under the node
pub record LeadsToLowest (tree : List (Option ℕ)) (size : ℕ) (most : Option ℕ) (node levels : ℕ) : Type 0 where
  pub from : size ≤ leftmost node levels
  pub to : leftmost (node + 1) levels ≤ 2 * size
  pub lower : (block : ℕ) → size ≤ block → block < leftmost node levels → is_at_most most (number_at tree block) ≡ false

pub root_leads : (tree : List (Option ℕ)) (size : ℕ) (most : Option ℕ) (depth : ℕ) → size ≡ leftmost 1 depth → LeadsToLowest tree size most 1 depth
root_leads tree size most depth full = record {
  from = omega (arith, full);
  to = omega (arith, full, leftmost-double 1 depth);
  lower = λ block from to. absurd (omega (arith, full));
}

pub left_leads : (tree : List (Option ℕ)) (size : ℕ) (most : Option ℕ) (node levels : ℕ) → LeadsToLowest tree size most node (suc levels) → LeadsToLowest tree size most (2 * node) levels
left_leads tree size most node levels h = record {
  from = h.from;
  to = omega (arith, h.to, leftmost-more levels (2 * node + 1) (2 * (node + 1)) (omega arith));
  lower = h.lower;
}

pub right_leads : (tree : List (Option ℕ)) (size : ℕ) (most : Option ℕ) (node levels : ℕ) → AreWinners size tree → 1 ≤ node
    → is_at_most most (number_at tree (2 * node)) ≡ false
    → LeadsToLowest tree size most node (suc levels) → LeadsToLowest tree size most (2 * node + 1) levels
right_leads tree size most node levels winners one beyond h =
    let next : 2 * (node + 1) ≡ 2 * node + 1 + 1 = omega arith in
    let end : leftmost (2 * node + 1 + 1) levels ≤ 2 * size = subst (λ (n : ℕ). leftmost n levels ≤ 2 * size) next h.to in
    let more = leftmost-more levels (2 * node + 1) (2 * node + 1 + 1) (omega arith) in
    record {
      from = omega (arith, h.from, leftmost-more levels (2 * node) (2 * node + 1) (omega arith));
      to = end;
      lower = λ block from to. elim (cases_lt block (leftmost (2 * node) levels)) [
        | inl lt ↦ h.lower block from lt
        | inr ge ↦ beyond_under tree size most winners levels (2 * node) block (omega arith) beyond ge to (omega (arith, to, end, more))
      ];
    }

-- a node that isn't changed, and has none under it that is, stays a winner
pub winner_stays : (tree : List (Option ℕ)) (at : ℕ) (number : Option ℕ) (node : ℕ) → node ≢ at → 2 * node ≢ at → 2 * node + 1 ≢ at → IsWinner tree node → IsWinner (set tree at number) node
winner_stays tree at number node not_it not_left not_right h =
    get_or-set_other tree at node number None not_it ∙ h
    ∙ ap (λ (a : Option ℕ). lesser a (number_at tree (2 * node + 1))) (sym (get_or-set_other tree at (2 * node) number None not_left))
    ∙ ap (λ (b : Option ℕ). lesser (number_at (set tree at number) (2 * node)) b) (sym (get_or-set_other tree at (2 * node + 1) number None not_right))

-- what is put at a node is there; what stands under it is as it was
pub winner_put : (tree : List (Option ℕ)) (node : ℕ) (number : Option ℕ) → 1 ≤ node → node < length tree
    → number ≡ lesser (number_at tree (2 * node)) (number_at tree (2 * node + 1)) → IsWinner (set tree node number) node
winner_put tree node number one inside is =
    get_or-set_same tree node number None inside ∙ is
    ∙ ap (λ (a : Option ℕ). lesser a (number_at tree (2 * node + 1))) (sym (get_or-set_other tree node (2 * node) number None (λ e. omega (arith, e))))
    ∙ ap (λ (b : Option ℕ). lesser (number_at (set tree node number) (2 * node)) b) (sym (get_or-set_other tree node (2 * node + 1) number None (λ e. omega (arith, e))))
