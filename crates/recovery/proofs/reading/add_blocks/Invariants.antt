use Rattle.std.proofs.Common.{◌≡◌, Bool, IsTrue, List, ℕ, length}
use Rattle.recovery.proofs.Imports.{frames_of_room, format_of_room, pages_of_room, AreBlocks, HasReadPages}
use Rattle.recovery.proofs.reading.add_blocks.Given as goal

abbrev pub invariant-loop-block : goal.invariant-loop-block
invariant-loop-block l =
    let format = format_of_room l.fn.found.room in
    record {
      read : (honest : Bool) (file : List ℕ) → HasReadPages format honest file l.fn.found → (IsTrue honest → AreBlocks format l.from l.end l.bytes file) → HasReadPages format honest file l.found;
      count : length (pages_of_room l.found.room) ≡ l.block;
      format : format_of_room l.found.room ≡ format;
      frames : frames_of_room l.found.room ≡ frames_of_room l.fn.found.room;
    }
