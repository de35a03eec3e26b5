-- What a reply leaves on the disk.
use Rattle.std.specs.Prelude.{⊤}
use Rattle.access_method.specs.Files.{StaysOnDisk}
use Rattle.access_method.specs.declared.index.Index.{Index}
use Rattle.device.specs.declared.device.Device.{Ghosts as DeviceGhosts}
use Rattle.ledger_lines.specs.declared.reply.Reply.{Reply}
use Rattle.ledger_lines.specs.declared.reply.Reply.TheVariants.{Checkpointed, Committed}
use Rattle.page_action.specs.declared.page_store.PageStore.{Ghosts}
use Rattle.page_store.specs.declared.store.Store.{Store}

-- if a reply says how many actions are durable, these are on the disk
abbrev pub IsOnDisk : {D : Type 0} (d : DeviceGhosts D) → Ghosts (Store D d) → Index (Store D d) → Index (Store D d) → Reply → Type 0
IsOnDisk d g old new (Checkpointed actions) = StaysOnDisk d g actions old new
IsOnDisk d g old new (Committed actions) = StaysOnDisk d g actions old new
IsOnDisk d g old new reply = ⊤
