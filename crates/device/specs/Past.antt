-- What was done with a device in memory, and what it has noted of that.
use Rattle.std.specs.Prelude.{ℕ, List, [], ◌∷◌, ◌++◌}
use Rattle.device.specs.Record.{DeviceCall, Write}
use Rattle.device.specs.declared.past.Past.{Past}
use Rattle.device.specs.declared.record.Piece.{Piece}

-- it began with these bytes, and no call was made
abbrev pub begun_with : List ℕ → Past
begun_with bytes = record { start = bytes; calls = [] }

-- with one call more
abbrev pub with_call : DeviceCall → Past → Past
with_call call past = record past { calls = past.calls ++ call ∷ [] }

-- the writes of these pieces
abbrev pub writes_of : List Piece → List DeviceCall
writes_of [] = []
writes_of (piece ∷ pieces) = Write piece.at piece.bytes.items ∷ writes_of pieces
