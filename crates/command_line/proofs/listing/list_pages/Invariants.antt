use Rattle.std.proofs.Common.{◌≡◌, true, take}
use Rattle.command_line.proofs.Imports.{Continues, PrintsPages}
use Rattle.command_line.proofs.listing.list_pages.Given as goal

abbrev pub invariant-loop-block : goal.invariant-loop-block
invariant-loop-block g l =
    let state = g.S.PageStore.state in
    let backing = g.S.PageStore.backing in
    let contents = g.W.Write.contents in
    record {
      steps : Continues g.S.PageStore.follows l.fn.store l.store;
      state_is : state l.store ≡ state l.fn.store;
      alive : (backing l.store).stopped ≡ true → (backing l.fn.store).stopped ≡ true;
      lists : PrintsPages (backing l.store).honest (take l.block (state l.fn.store).pages) (contents l.fn.out) (contents l.out);
    }
