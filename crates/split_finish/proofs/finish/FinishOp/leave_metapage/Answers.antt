use Rattle.std.proofs.Common.{◌≤◌, sym, ap, subst, ◌∙◌, arith, eq-eqb}
use Rattle.split_finish.proofs.Imports.{Node, nodes_of, node_there, TurnContinues, FinishAt, Start, Down, Root}
use Rattle.split_finish.proofs.Counting.{less_root, less_down}
use Rattle.split_finish.proofs.Standing.{starts_down}
use Rattle.split_finish.proofs.Turning.{turn_moved}
use Rattle.split_finish.proofs.finish.FinishOp.leave_metapage.Goals as goal
use Rattle.split_finish.proofs.finish.FinishOp.leave_metapage.Goals.{then-meta-self-2, else-meta-self-2}

pub returns-clause-turn : goal.returns-clause-turn
returns-clause-turn c = λ st found.
    let op = c.args.self.now in
    elim c.if-meta-self-2.branch [
      | then-meta-self-2 w ↦ subst (λ (a : FinishAt). TurnContinues st op (record op { at = a })) (sym w.self-is)
          (turn_moved st op Start Root c.requires
          (less_root st.format.pages (nodes_of st.pages) op.below.items op.target
          (eq-eqb _ op.target.level (ap (λ (n : Node). n.level) (node_there st.pages 0 c.args.meta.now found) ∙ w.if-meta-self-2.true)))
          (λ h fits stands. tt))
      | else-meta-self-2 w ↦ subst (λ (a : FinishAt). TurnContinues st op (record op { at = a })) (sym w.self-is)
          (turn_moved st op Start (Down c.in-Some.position) c.requires
          (less_down st.format.pages (nodes_of st.pages) op.below.items op.target c.in-Some.position (omega arith))
          (λ h fits stands. starts_down st fits.start op.target c.args.meta.now c.in-Some.position h found
          (let k : op.target.level ≤ c.args.meta.now.level = c.if-meta-self.false in let ne = w.if-meta-self-2.false in omega arith)
          (λ root names. sym c.in-Some.is ∙ c.way_down.ensures.named root names)))
    ]
