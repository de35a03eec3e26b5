use Rattle.std.proofs.Common.{◌≡◌, ◌≢◌, ◌-◌, false, None}
use Rattle.access_method.specs.Indexes.{SameTokens, seat_with}
use Rattle.access_method.specs.Tokens.{seat_of}
use Rattle.page_action.specs.States.{Continues}
use Rattle.schedule.specs.Sessions.{op_of}
use Rattle.index_copy.proofs.Nexts.{FillsBatch}
use Rattle.index_copy.specs.Batches.{batch_len}
use Rattle.index_copy.proofs.asking.next_batch.Given as goal

abbrev pub decreases-loop-token : goal.decreases-loop-token
decreases-loop-token g l = 4900 - batch_len l.batch

abbrev pub invariant-loop-token : goal.invariant-loop-token
invariant-loop-token g l = record {
  seat : seat_of l.index.seats l.token ≡ seat_with l.token false;
  runs : op_of l.index.calls l.token.session ≢ None;
  steps : Continues g.S.PageStore.follows l.initial.index.store l.index.store;
  tokens : SameTokens l.initial.index l.index;
  fills : FillsBatch g.S.PageStore l.token.session l.initial.index l.index l.batch;
}
