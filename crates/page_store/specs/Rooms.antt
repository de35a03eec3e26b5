-- What was read into the room of a store.
use Rattle.std.specs.Prelude.{ℕ, List}
use Rattle.buffer_pool.specs.Pools.{most_of}
use Rattle.index_model.specs.declared.format.Format.{Format}
use Rattle.page_codec.specs.declared.page.Page.{Page}
use Rattle.page_store.specs.declared.log_room.StoreRoom.{StoreRoom}

-- the limits that it was made for
abbrev pub format_of_room : StoreRoom → Format
format_of_room room = room.format

-- the pages, by their blocks
abbrev pub pages_of_room : StoreRoom → List Page
pages_of_room room = room.history.value.start

-- how many frames it has
abbrev pub frames_of_room : StoreRoom → ℕ
frames_of_room room = most_of room.pool

-- for each of them the deletion number that counts
abbrev pub counts_of_room : StoreRoom → List ℕ
counts_of_room room = room.numbers.counted
