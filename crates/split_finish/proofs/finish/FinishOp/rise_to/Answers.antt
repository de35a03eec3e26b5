use Rattle.std.proofs.Common.{◌≡◌, ◌<◌, ◌≤◌, ◌==◌, ℕ, true, false, length, subst, sym, ◌∙◌, arith}
use Rattle.std.proofs.Common.{inl, inr}
use Rattle.split_finish.proofs.Imports.{eqb-true, eqb_tells, low_level, FinishStands}
use Rattle.split_finish.proofs.Standing.{live_level, incomplete_in}
use Rattle.split_finish.proofs.Turning.{turn_risen}
use Rattle.split_finish.proofs.finish.FinishOp.rise_to.Goals as goal
use Rattle.split_finish.proofs.finish.FinishOp.rise_to.Goals.{then-page-position-via-then-page-position, then-page-position-via-else-page-position+then-is_full}

pub returns-then-page-position-clause-turn : goal.returns-then-page-position-clause-turn
returns-then-page-position-clause-turn c = λ st found h fits.
    let on = subst (FinishStands st fits.start c.args.self.now.target) c.requires.down fits.stands in
    elim c.then-page-position.branch [
      | then-page-position-via-then-page-position w ↦ absurd (w.if-page-position.true (live_level st fits.start c.args.position.level _ true c.args.position.block c.args.page.now h on.place found c.requires.live))
      | then-page-position-via-else-page-position+then-is_full w ↦ absurd (
          let full : length c.args.self.now.below.items ≡ 31 = eqb-true _ 31 (sym w.is_full.ensures.value ∙ w.if-is_full.true) in
          let low = low_level st fits.start c.args.position.level _ true c.args.position.block h on.place in
          let a = on.not_below in
          let b = fits.newest.high_enough in
          omega arith)
    ]

pub returns-in_default-clause-turn : goal.returns-in_default-clause-turn
returns-in_default-clause-turn c = λ st found h fits. absurd ((incomplete_in st c.args.position.block c.args.page.now h found c.requires.incomplete).0 c.in_default.is)

pub returns-clause-turn : goal.returns-clause-turn
returns-clause-turn c = λ st found.
    turn_risen st c.args.self.now c.push.new.self c.args.position c.args.page.now c.in-Some.separator c.requires.down c.push.ensures found c.requires.live c.requires.incomplete c.in-Some.is
    (by (length c.args.self.now.below.items) c.is_full.ensures.fits (sym c.is_full.ensures.value ∙ c.if-is_full.false))
  where
    by : (n : ℕ) → n ≤ 31 → (n == 31) ≡ false → n < 31
    by n le ne = elim (eqb_tells n 31) [ inl k ↦ absurd cc | inr k ↦ (let z = k.1 in omega arith) ]
