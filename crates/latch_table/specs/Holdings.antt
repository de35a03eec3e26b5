-- Who holds what: latches and pins of pages, and which exclude each other.
use Rattle.std.specs.Prelude.{ℕ, suc, ◌<◌, Bool, true, false, not, ◌&&◌, ◌||◌, ◌==◌, nat_lt, if◌then◌else◌, unwrap_or, List, [], ◌∷◌, ◌++◌, length, slice_get, slice_set}
use Rattle.latch_table.specs.declared.mode.Mode.{Mode}
use Rattle.latch_table.specs.declared.mode.Mode.TheVariants.{Shared, Exclusive, Cleanup}
use Rattle.latch_table.specs.declared.mode.Latch.{Latch}

-- what one session holds, the newest first
pub record Holding : Type 0 where
  pub latches : List Latch
  pub pins : List ℕ

-- a holding for each session
abbrev pub Table : Type 0
Table = List Holding

-- no latch, no pin
abbrev pub nothing_held : Holding
nothing_held = record { latches = []; pins = [] }

-- a latch that one session holds excludes one that another asks for; shared latches alone go together
abbrev pub excludes : Mode → Mode → Bool
excludes Shared Shared = false
excludes Shared Exclusive = true
excludes Shared Cleanup = true
excludes Exclusive asked = true
excludes Cleanup asked = true

-- one of these latches excludes that latch of the block
abbrev pub latches_exclude : List Latch → ℕ → Mode → Bool
latches_exclude [] block asked = false
latches_exclude (held ∷ latches) block asked =
    ((held.block == block) && excludes held.mode asked) || latches_exclude latches block asked

-- one of these pins is one of the block
abbrev pub has_pin : List ℕ → ℕ → Bool
has_pin [] block = false
has_pin (pinned ∷ pins) block = (pinned == block) || has_pin pins block

-- a pin excludes a cleanup latch alone
abbrev pub pins_exclude : List ℕ → ℕ → Mode → Bool
pins_exclude pins block Shared = false
pins_exclude pins block Exclusive = false
pins_exclude pins block Cleanup = has_pin pins block

-- what another session holds excludes that latch of the block
abbrev pub holding_excludes : Holding → ℕ → Mode → Bool
holding_excludes holding block asked =
    latches_exclude holding.latches block asked || pins_exclude holding.pins block asked

-- one of these holdings, of the sessions from this number on, is another session's and excludes that latch
abbrev pub others_exclude : ℕ → Table → ℕ → ℕ → Mode → Bool
others_exclude from [] session block asked = false
others_exclude from (holding ∷ table) session block asked =
    (not (from == session) && holding_excludes holding block asked)
    || others_exclude (suc from) table session block asked

-- another session's hold of the block conflicts with that latch
abbrev pub is_held_by_another : Table → ℕ → ℕ → Mode → Bool
is_held_by_another table session block asked = others_exclude 0 table session block asked

-- what the session holds
abbrev pub holding_of : Table → ℕ → Holding
holding_of table session = unwrap_or (slice_get table session) nothing_held

-- the table with another holding of the session
abbrev pub with_holding : Table → ℕ → Holding → Table
with_holding table session holding = slice_set table session holding

-- the session holds the latch too
abbrev pub latched : Table → ℕ → ℕ → Mode → Table
latched table session block mode =
    let held = holding_of table session in
    with_holding table session (record {
      latches = record { block = block; mode = mode } ∷ held.latches;
      pins = held.pins;
    })

-- without the newest latch of the block
abbrev pub without_latch : List Latch → ℕ → List Latch
without_latch [] block = []
without_latch (held ∷ latches) block =
    if held.block == block then latches else held ∷ without_latch latches block

-- without the newest pin of the block
abbrev pub without_pin : List ℕ → ℕ → List ℕ
without_pin [] block = []
without_pin (pinned ∷ pins) block =
    if pinned == block then pins else pinned ∷ without_pin pins block

-- the session lets go its newest latch of the block, if it has one
abbrev pub released : Table → ℕ → ℕ → Table
released table session block =
    let held = holding_of table session in
    with_holding table session (record {
      latches = without_latch held.latches block;
      pins = held.pins;
    })

-- the session pins the block too; a third pin isn't taken
abbrev pub pinned : Table → ℕ → ℕ → Table
pinned table session block =
    let held = holding_of table session in
    with_holding table session (record {
      latches = held.latches;
      pins = if nat_lt (length held.pins) 2 then block ∷ held.pins else held.pins;
    })

-- the session lets go its newest pin of the block, if it has one
abbrev pub unpinned : Table → ℕ → ℕ → Table
unpinned table session block =
    let held = holding_of table session in
    with_holding table session (record {
      latches = held.latches;
      pins = without_pin held.pins block;
    })

-- the session may take one more latch
abbrev pub HasRoom : Table → ℕ → Type 0
HasRoom table session = length (holding_of table session).latches < 8

-- the blocks that are pinned, each as often as it is
abbrev pub pinned_blocks : Table → List ℕ
pinned_blocks [] = []
pinned_blocks (holding ∷ table) = holding.pins ++ pinned_blocks table
