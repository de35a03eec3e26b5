use Rattle.std.proofs.Common.{◌≡◌, ◌≢◌, ◌-◌, false, None}
use Rattle.access_method.specs.Indexes.{ForEachIndexHistory, SameTokens, seat_with}
use Rattle.access_method.specs.Tokens.{seat_of}
use Rattle.page_action.specs.States.{Continues}
use Rattle.schedule.specs.Sessions.{op_of}
use Rattle.index_copy.proofs.Copied.{HasCopied}
use Rattle.index_copy.specs.Copying.{FitsOn}
use Rattle.index_copy.proofs.copying.copy_scan.Given as goal

abbrev pub decreases-loop-count : goal.decreases-loop-count
decreases-loop-count g l = 18446744073709551615 - l.count

abbrev pub invariant-loop-count : goal.invariant-loop-count
invariant-loop-count g l = record {
  seat : seat_of l.from.seats l.token ≡ seat_with l.token false;
  runs : op_of l.from.calls l.token.session ≢ None;
  from_steps : Continues g.S.PageStore.follows l.initial.from.store l.from.store;
  into_steps : Continues g.T.PageStore.follows l.initial.into.store l.into.store;
  from_tokens : SameTokens l.initial.from l.from;
  tokens : SameTokens l.initial.into l.into;
  goes_on : ForEachIndexHistory g.T.PageStore l.initial.into l.into (FitsOn g.T.PageStore l.initial.into l.into);
  copied : HasCopied g.S.PageStore g.T.PageStore l.token.session l.count l.initial.from l.from l.initial.into l.into;
}
