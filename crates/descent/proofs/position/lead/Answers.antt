use Rattle.std.proofs.Common.{arith}
use Rattle.descent.proofs.Leading.{on_its_level, leads_right, leads_here, leads_down, covers_on_level, covers_not_passed, leads_straight_down}
use Rattle.descent.proofs.position.lead.Goals as goal

pub returns-then-is_astray-clause-goes : goal.returns-then-is_astray-clause-goes
returns-then-is_astray-clause-goes c = λ st start clear h found on whole few.
    absurd (on_its_level st start clear c.args.aim.now c.args.to c.args.most c.args.page.now c.args.position.now h found on whole few
    (c.is_astray.ensures.live c.if-is_astray.true) (c.is_astray.ensures.level c.if-is_astray.true))

pub returns-then-is_passed-clause-goes : goal.returns-then-is_passed-clause-goes
returns-then-is_passed-clause-goes c = λ st start clear h found on whole few.
    rw (c.going.ensures, c.go_right.ensures)
    (leads_right st start clear c.args.aim.now c.args.to c.args.most c.args.page.now c.args.position.now h found on whole few (c.is_passed.ensures.passed c.if-is_passed.true))

pub returns-then-position-to-clause-goes : goal.returns-then-position-to-clause-goes
returns-then-position-to-clause-goes c = λ st start clear h found on whole few.
    leads_here st start clear c.args.aim.now c.args.to c.args.most c.args.page.now c.args.position.now h found on whole few
    (c.is_passed.ensures.live c.if-is_passed.false) (c.is_passed.ensures.within c.if-is_passed.false) c.if-position-to.true

pub returns-clause-goes : goal.returns-clause-goes
returns-clause-goes c = λ st start clear h found on whole few.
    rw c.going-2.ensures (leads_down st start clear c.args.aim.now c.args.to c.args.most c.args.page.now c.args.position.now h found on whole few (c.is_passed.ensures.live c.if-is_passed.false)
    (c.is_passed.ensures.within c.if-is_passed.false) (let a = on.not_below in let b = c.if-position-to.false in omega arith) c.go_down.result c.go_down.ensures)

pub returns-then-is_astray-clause-straight : goal.returns-then-is_astray-clause-straight
returns-then-is_astray-clause-straight c = λ st h whole found cover.
    absurd (covers_on_level st c.args.aim.now c.args.to c.args.page.now c.args.position.now h whole found cover (c.is_astray.ensures.level c.if-is_astray.true))

pub returns-then-is_passed-clause-straight : goal.returns-then-is_passed-clause-straight
returns-then-is_passed-clause-straight c = λ st h whole found cover.
    absurd (covers_not_passed st c.args.aim.now c.args.to c.args.page.now c.args.position.now h whole found cover (c.is_passed.ensures.passed c.if-is_passed.true))

pub returns-clause-straight : goal.returns-clause-straight
returns-clause-straight c = λ st h whole found cover.
    rw c.going-2.ensures (leads_straight_down st c.args.aim.now c.args.to c.args.page.now c.args.position.now h whole found cover
    (let a = c.requires in let b = c.if-position-to.false in omega arith) c.go_down.result c.go_down.ensures)
