use Rattle.std.proofs.Common.{[], sym, subst}
use Rattle.page_store.proofs.Imports.{AreStored, AreWaiting, Numbers, none_wait, History}
use Rattle.page_store.proofs.log_room.StoreRoom.new.Goals as goal

pub invariant_of-result-clause-stored : goal.invariant_of-result-clause-stored
invariant_of-result-clause-stored c = subst (λ (history : History). AreStored c.args.format 0 history.start) (sym c.reckon.ensures) tt

pub invariant_of-result-clause-waiting : goal.invariant_of-result-clause-waiting
invariant_of-result-clause-waiting c =
    let numbers = c.in_ok-numbers.numbers in
    subst (λ (history : History). AreWaiting numbers.waiting history.start numbers.counted) (sym c.reckon.ensures)
    (subst (λ (n : Numbers). AreWaiting n.waiting [] n.counted) (sym c.in_ok-numbers.ensures.made) (none_wait c.args.format.pages))
