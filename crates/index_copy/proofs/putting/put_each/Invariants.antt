use Rattle.std.proofs.Common.{take}
use Rattle.access_method.specs.Indexes.{ForEachIndexHistory, SameTokens}
use Rattle.index_model.specs.Order.{is_among}
use Rattle.page_action.specs.States.{Continues}
use Rattle.index_copy.specs.Copying.{Gains, FitsOn}
use Rattle.index_copy.proofs.putting.put_each.Given as goal

abbrev pub invariant-loop-entry : goal.invariant-loop-entry
invariant-loop-entry g l = record {
  steps : Continues g.S.PageStore.follows l.initial.index.store l.index.store;
  goes_on : ForEachIndexHistory g.S.PageStore l.initial.index l.index (FitsOn g.S.PageStore l.initial.index l.index);
  gains : ForEachIndexHistory g.S.PageStore l.initial.index l.index
      (λ start history calls. Gains g.S.PageStore (is_among (take l.entry-index l.entries)) l.initial.index.store l.index.store);
  tokens : SameTokens l.initial.index l.index;
}
