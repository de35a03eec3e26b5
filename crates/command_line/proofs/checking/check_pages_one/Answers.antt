use Rattle.command_line.proofs.Checked.{tells_damage}
use Rattle.command_line.proofs.checking.check_pages_one.Goals.{then-parents, else-parents}
use Rattle.command_line.proofs.checking.check_pages_one.Goals as goal

pub returns-clause-damage : goal.returns-clause-damage
returns-clause-damage g c is =
    let p = g.S.PageStore in
    let st = p.state c.args.store.now in
    let was = p.backing c.args.store.now in
    let old = g.W.Write.contents c.args.out.now in
    let new = g.W.Write.contents c.print_checked.new.out in
    elim c.if-parents.branch [
      | then-parents w ↦ (
          let e = w.check_parents_one-checked in
          tells_damage c.if-parents.checked c.print_checked.result c.args.parents st was (p.backing c.if-parents.store) old new c.print_checked.ensures
          (rw (w.store-is, w.checked-is, w.if-parents.true) e.ensures.judged.answer) (rw (w.store-is, w.checked-is) e.ensures.judged.fault) is)
      | else-parents w ↦ (
          let e = w.check_one-checked in
          tells_damage c.if-parents.checked c.print_checked.result c.args.parents st was (p.backing c.if-parents.store) old new c.print_checked.ensures
          (rw (w.store-is, w.checked-is, w.if-parents.false) e.ensures.judged.answer) (rw (w.store-is, w.checked-is) e.ensures.judged.fault) is)
    ]
