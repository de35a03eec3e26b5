use Rattle.std.proofs.Common.{◌≡◌, true, length, take}
use Rattle.amcheck.proofs.Imports.{pinned_blocks, TakesFrames, KeepsRoom, Continues, AreStored, HasPageRoom, blocks_below}
use Rattle.amcheck.proofs.reading.read_pages.Given as goal

abbrev pub invariant-loop-block : goal.invariant-loop-block
invariant-loop-block g l =
    let state = g.S.PageStore.state in
    let backing = g.S.PageStore.backing in
    record {
      steps : Continues g.S.PageStore.follows l.fn.store l.store;
      state_is : state l.store ≡ state l.fn.store;
      count : length l.room.list.value ≡ l.block;
      stored : AreStored (state l.fn.store).format 0 l.room.list.value;
      same : (backing l.store).honest ≡ true → l.room.list.value ≡ take l.block (state l.fn.store).pages;
      room_is : HasPageRoom l.room (length (state l.fn.store).pages);
      kept : KeepsRoom (state l.fn.store) (backing l.fn.store) (backing l.store);
      frames : TakesFrames (state l.fn.store).frames (pinned_blocks (state l.fn.store).table) (blocks_below l.block)
          (g.S.PageStore.memory l.fn.store) (g.S.PageStore.memory l.store) (backing l.fn.store) (backing l.store);
      alive : (backing l.store).stopped ≡ true → (backing l.fn.store).stopped ≡ true;
    }
