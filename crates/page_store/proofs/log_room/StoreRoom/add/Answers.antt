use Rattle.std.proofs.Common.{◌+◌, sym, subst, ap, ◌∷◌, ◌++◌, [], length, length-set, arith}
use Rattle.page_store.proofs.Imports.{AreStored, Numbers, AreWaiting, waiting_number, add_waits, stored-add, stored_at, History}
use Rattle.page_store.proofs.log_room.StoreRoom.add.Goals as goal

pub invariant_of-self-clause-stored : goal.invariant_of-self-clause-stored
invariant_of-self-clause-stored c =
    let room = c.args.self.now in
    subst (λ (history : History). AreStored room.format 0 history.start) (sym c.reckon-self.ensures)
    (stored-add room.format 0 room.history.value.start c.args.page.now room.stored
    (stored_at room.format (0 + length room.history.value.start) c.args.page.now (c.is_storable.ensures.0 c.if-not-is_storable.false) (omega arith)))

pub invariant_of-self-clause-waiting : goal.invariant_of-self-clause-waiting
invariant_of-self-clause-waiting c =
    let room = c.args.self.now in
    subst (λ (history : History). AreWaiting c.add.new.self.waiting history.start c.add.new.self.counted) (sym c.reckon-self.ensures)
    (subst (λ (numbers : Numbers). AreWaiting numbers.waiting (room.history.value.start ++ c.args.page.now ∷ []) numbers.counted) (sym c.add.ensures)
    (add_waits room.numbers.waiting room.history.value.start room.numbers.counted c.args.page.now room.waiting room.many_counts (omega arith)))

pub invariant_of-self-clause-count_room : goal.invariant_of-self-clause-count_room
invariant_of-self-clause-count_room c =
    let numbers = c.args.self.now.numbers in
    let same = ap (λ (n : Numbers). length n.waiting) c.add.ensures in
    omega (arith, same, length-set numbers.waiting (length numbers.counted) (waiting_number c.args.page.now.state 0))
