use Rattle.std.proofs.Common.{◌≡◌, suc, true, false, refl, sym, subst, ◌∙◌, arith}
use Rattle.split_finish.proofs.Imports.{Bound, Node, node_of, nodes_of, node_there, is_ready, Start, Down, Link}
use Rattle.split_finish.proofs.Counting.{less_back}
use Rattle.split_finish.proofs.Standing.{live_level, incomplete_in}
use Rattle.split_finish.proofs.Turning.{turn_moved, turn_popped, turn_retaken}
use Rattle.split_finish.proofs.finish.FinishOp.turn_at_parent.Goals as goal

pub returns-then-not-page-clause-turn : goal.returns-then-not-page-clause-turn
returns-then-not-page-clause-turn c = λ st found there.
    turn_popped st c.args.self.now c.pop.new.self c.pop.result c.args.page.now c.pop.ensures found c.if-not-page.true

pub returns-in_default-clause-turn : goal.returns-in_default-clause-turn
returns-in_default-clause-turn c = λ st found there h fits.
    absurd ((incomplete_in st c.args.self.now.target.block c.args.page.now h found c.if-not-page.false).0 c.in_default.is)

pub returns-then-not-are_same-clause-turn : goal.returns-then-not-are_same-clause-turn
returns-then-not-are_same-clause-turn c = λ st found there.
    turn_retaken st c.args.self.now c.retake.new.self c.in-Some.high Start c.args.page.now c.retake.ensures found c.if-not-page.false c.in-Some.is
    (sym c.are_same.ensures.value ∙ c.if-not-are_same.true) (omega arith) refl (omega arith) (λ start target. tt)

pub returns-then-page-self-clause-turn : goal.returns-then-page-self-clause-turn
returns-then-page-self-clause-turn c = λ st found there h fits.
    absurd (c.if-page-self.true (live_level st fits.start c.args.self.now.target.level _ true c.args.self.now.target.block c.args.page.now h fits.newest.place found
    (incomplete_in st c.args.self.now.target.block c.args.page.now h found c.if-not-page.false).1))

pub returns-clause-turn : goal.returns-clause-turn
returns-clause-turn c = λ st found there.
    let op = c.args.self.now in
    turn_moved st op (Link c.args.position) (Down c.args.position) c.requires
    (less_back st.format.pages (nodes_of st.pages) op.below.items op.target c.args.position (omega arith)
    (subst (λ (n : Node). is_ready n (suc op.target.level) op.target.separator ≡ false) (sym (node_there st.pages c.args.position.block c.args.parent.now there))
    (subst (λ (s : Bound). is_ready (node_of c.args.parent.now) (suc op.target.level) s ≡ false) (c.are_same.ensures.same c.if-not-are_same.false) (sym c.is_ready.ensures ∙ c.if-is_ready.false)))
    (omega arith))
    (λ h fits stands. stands.1)
