-- Why a page isn't read for a session.
use Rattle.std.specs.Prelude.{ℕ, ◌&&◌, ◌==◌}
use Rattle.index_model.specs.Faults.{Circumstances}
use Rattle.latch_table.specs.Holdings.{is_held_by_another}
use Rattle.latch_table.specs.declared.mode.Mode.TheVariants.{Shared}
use Rattle.page_action.specs.Causes.{causes_of_read}
use Rattle.page_action.specs.States.{State, Backing}

-- a page is read under a shared latch
abbrev pub causes_of_looked : State → Backing → Backing → ℕ → ℕ → Circumstances
causes_of_looked st old new session block = record (causes_of_read st old new block) {
  is_held_by_another = λ b. (b == block) && is_held_by_another st.table session block Shared;
}
