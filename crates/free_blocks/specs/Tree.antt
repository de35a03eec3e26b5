-- A winner tree in one array: nodes 2n and 2n + 1 stand under node n, and each inner node has the least
-- number below it.
use Rattle.std.specs.Prelude.{◌≡◌, ℕ, zero, suc, ◌+◌, ◌*◌, ◌≤◌, ◌<◌, Option, List, length}
use Rattle.free_blocks.specs.Numbers.{number_at, lesser}

-- the leftmost of the nodes that stand this number of levels under a node
abbrev pub leftmost : ℕ → ℕ → ℕ
leftmost node zero = node
leftmost node (suc levels) = leftmost (2 * node) levels

-- the node has the lesser number of the two under it
abbrev pub IsWinner : List (Option ℕ) → ℕ → Type 0
IsWinner tree node =
    number_at tree node ≡ lesser (number_at tree (2 * node)) (number_at tree (2 * node + 1))

-- each inner node has it; the nodes from `size` on are the blocks
abbrev pub AreWinners : ℕ → List (Option ℕ) → Type 0
AreWinners size tree = (node : ℕ) → 1 ≤ node → node < size → IsWinner tree node

-- a winner tree of at most `size` blocks, which are its nodes from `size` on
pub record IsWinnerTree (size : ℕ) (tree : List (Option ℕ)) : Type 0 where
  pub least : size ≤ length tree
  pub most : length tree ≤ 2 * size
  pub winners : AreWinners size tree
