use Rattle.std.proofs.Common.{◌≡◌, ◌+◌, ℕ, suc, true, Option, Some, subst, sym, ap, ◌∙◌, arith}
use Rattle.descent.specs.declared.position.NextPage.{NextPage}
use Rattle.descent.specs.declared.position.NextPage.TheVariants.{Going, Here}
use Rattle.split_finish.proofs.Imports.{nodes_of, bound_aim, IsOnDescent, LeadsToNext, DescentIsShorter, FinishStands, Down, Link}
use Rattle.split_finish.proofs.Counting.{less_onward, less_link}
use Rattle.split_finish.proofs.Standing.{not_incomplete}
use Rattle.split_finish.proofs.Turning.{turn_moved, ready_page}
use Rattle.split_finish.proofs.finish.FinishOp.leave_page.Goals as goal

one_more : (n : ℕ) → n + 1 ≡ suc n
one_more n = omega arith

pub returns-in-None-clause-turn : goal.returns-in-None-clause-turn
returns-in-None-clause-turn c = λ st found limit few h fits.
    let op = c.args.self.now in
    let on = subst (FinishStands st fits.start op.target) c.requires fits.stands in
    let to = one_more op.target.level in
    let leads = c.lead.ensures.goes st fits.start true h found (subst (λ (n : ℕ). IsOnDescent st fits.start (bound_aim op.target.separator) true n c.args.position) (sym to) on)
    (λ is. not_incomplete st c.args.position.block c.args.page.now h found (c.has_incomplete_split.ensures.whole c.if-has_incomplete_split.false)) few in
    absurd (subst (λ (o : Option NextPage). LeadsToNext st fits.start (bound_aim op.target.separator) true (op.target.level + 1) c.args.position o) c.in-None.is leads)

pub returns-in-Some-Going-clause-turn : goal.returns-in-Some-Going-clause-turn
returns-in-Some-Going-clause-turn c = λ st found limit few.
    let op = c.args.self.now in
    let to = one_more op.target.level in
    let is : c.lead.result ≡ Some (Going c.in-Some-Going.on) = c.in-Some-Going.is ∙ ap Some c.in-Some-Going.field-0-is in
    let less = subst (λ (o : Option NextPage). DescentIsShorter (op.target.level + 1) c.args.most c.args.position o) is c.lead.ensures.less in
    turn_moved st op (Down c.args.position) (Down c.in-Some-Going.on) c.requires
    (rw limit (less_onward c.args.most (nodes_of st.pages) op.below.items op.target (op.target.level + 1) c.args.position c.in-Some-Going.on less))
    (λ h fits on.
    let leads = c.lead.ensures.goes st fits.start true h found (subst (λ (n : ℕ). IsOnDescent st fits.start (bound_aim op.target.separator) true n c.args.position) (sym to) on)
    (λ is. not_incomplete st c.args.position.block c.args.page.now h found (c.has_incomplete_split.ensures.whole c.if-has_incomplete_split.false)) few in
    subst (λ (n : ℕ). IsOnDescent st fits.start (bound_aim op.target.separator) true n c.in-Some-Going.on) to
    (subst (λ (o : Option NextPage). LeadsToNext st fits.start (bound_aim op.target.separator) true (op.target.level + 1) c.args.position o) is leads))

pub returns-in-Some-Here-clause-turn : goal.returns-in-Some-Here-clause-turn
returns-in-Some-Here-clause-turn c = λ st found limit few.
    let op = c.args.self.now in
    let to = one_more op.target.level in
    let is : c.lead.result ≡ Some Here = c.in-Some-Here.is ∙ ap Some c.in-Some-Here.field-0-is in
    let here = c.lead.ensures.here is in
    turn_moved st op (Down c.args.position) (Link c.args.position) c.requires
    (less_link st.format.pages (nodes_of st.pages) op.below.items op.target c.args.position
    (ready_page st c.args.position.block (suc op.target.level) op.target.separator c.args.page.now found here.alive (c.has_incomplete_split.ensures.whole c.if-has_incomplete_split.false here.alive)
    (c.lead.ensures.level is ∙ to) here.within))
    (λ h fits on.
    let leads = c.lead.ensures.goes st fits.start true h found (subst (λ (n : ℕ). IsOnDescent st fits.start (bound_aim op.target.separator) true n c.args.position) (sym to) on)
    (λ is. not_incomplete st c.args.position.block c.args.page.now h found (c.has_incomplete_split.ensures.whole c.if-has_incomplete_split.false)) few in
    ((subst (λ (o : Option NextPage). LeadsToNext st fits.start (bound_aim op.target.separator) true (op.target.level + 1) c.args.position o) is leads).0 ∙ to, on))
