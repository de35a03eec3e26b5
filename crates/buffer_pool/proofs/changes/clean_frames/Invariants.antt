use Rattle.std.proofs.Common.{◌≡◌, ◌<◌, ℕ, List, ◌++◌, drop, length, get_or}
use Rattle.buffer_pool.specs.Frames.{ArePlaces, AreChanged}
use Rattle.buffer_pool.proofs.changes.clean_frames.Given as goal

abbrev pub invariant-loop-block : goal.invariant-loop-block
invariant-loop-block l = record {
  many : length l.acts ≡ length l.fn.acts;
  kept : (at : ℕ) → 0 < get_or l.acts at 0 → get_or l.acts at 0 ≡ get_or l.fn.acts at 0;
  left : (blocks others : List ℕ) → ArePlaces l.places blocks → AreChanged (l.written ++ others) blocks l.fn.acts
      → AreChanged (drop l.block-index l.written ++ others) blocks l.acts;
}
