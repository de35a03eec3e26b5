use Rattle.std.proofs.Common.{◌≡◌, ◌<◌, ◌≤◌, suc, ℕ, length, vec_capacity}
use Rattle.amcheck.proofs.Imports.{index_of, start, IsClearLevel, AreOfUpper, AreAllStops, IsMet, stop_blocks}
use Rattle.amcheck.proofs.chain_damages.find_chain_damage.Given as goal

abbrev pub invariant-loop-depth : goal.invariant-loop-depth
invariant-loop-depth g l = record {
  size : length l.room.seen.items ≡ length l.pages;
  met : IsMet l.room.met (length l.pages);
  room : vec_capacity l.room.stops ≡ vec_capacity l.fn.room.stops;
  upper : AreOfUpper (index_of l.pages) l.depth l.room.seen.items l.room.met;
  more_room : vec_capacity l.chains ≡ vec_capacity l.fn.chains;
  far : l.depth ≤ suc l.root.level;
  chains : AreAllStops (index_of l.pages) l.depth l.chains.items;
  added : l.room.met.blocks.items ≡ stop_blocks l.chains.items;
  clear : (d : ℕ) → d < l.depth → IsClearLevel (index_of l.pages) l.keys d;
  begin : l.begin ≡ start (index_of l.pages) l.depth;
}
