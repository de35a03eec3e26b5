-- What a crash has left of a store over a device since an earlier one.
use Rattle.std.specs.Prelude.{◌≡◌, ℕ, ◌≤◌, Bool, List, length, take}
use Rattle.std.proofs.Common.{arith}
use Rattle.device.specs.Moments.{MayHaveCrashedTo}
use Rattle.device.specs.declared.device.Device.{Ghosts as DeviceGhosts}
use Rattle.index_model.specs.Actions.{Action}
use Rattle.index_model.specs.declared.entry.Entry.{Entry}
use Rattle.page_store.specs.Crashing.{leaves_first}
use Rattle.page_store.specs.Following.{Follows}
use Rattle.page_store.specs.Stores.{state_of, held_by, store_history, IsOwnStore}
use Rattle.page_store.specs.Histories.{pages_after}
use Rattle.page_store.specs.declared.store.Store.{Store}
use Rattle.schedule.specs.TheoremCrashes.{ArePagesAfter}
use Rattle.world.specs.Reopening.{IsIndexAfterPrefix}
use Rattle.world.proofs.Opened.{tree_has_pages}

-- if the pages after each prefix of the acts are those after that part of the history, it is an index after
-- one
pub left_index : {D : Type 0} (d : DeviceGhosts D) (first now : Store D d) → IsOwnStore d first → Follows (held_by d first) (held_by d now)
    → (start : Entry → Bool) (history : List Action) → (held_by d now).acts ≡ length history
    → ((part : ℕ) → part ≤ length history → ArePagesAfter (state_of d now).format.unique start (take part history) (pages_after (store_history d now) part))
    → (image : List ℕ) → MayHaveCrashedTo (held_by d first).trace (held_by d now).trace image
    → IsIndexAfterPrefix (state_of d now).format start history (held_by d first).durable image
left_index d first now own follows start history count parts image left =
    let r = leaves_first (held_by d first) (held_by d now) own follows now.held.format image now.held.log_format left in
    let within : r.part ≤ length history = omega (arith, r.to, count) in
    let are = parts r.part within in
    record {
      part = r.part;
      from = r.from;
      to = within;
      pages = _;
      index = record { allowed = now.held.allowed; some = tree_has_pages _ are.tree; restarts = r.restarts_to };
      are = are;
    }
