use Rattle.std.proofs.Common.{◌≡◌, ◌+◌, ℕ, suc, inl, inr, sym, subst, ◌∙◌, arith}
use Rattle.amcheck.proofs.Imports.{cases_eq, index_of, IsClearAt, AreMarked}
use Rattle.amcheck.proofs.ParentDamages.{first_parent}
use Rattle.amcheck.proofs.parent_damages.find_parent_damage.Goals as goal

pub returns-in-Some-clause-some : goal.returns-in-Some-clause-some
returns-in-Some-clause-some c =
    first_parent c.args.pages.now c.args.stops.now c.requires.stops c.requires.sound c.loop-place.place c.in-Some.damage.number c.in-Some.damage.block
    c.loop-place.invariant.clear c.in-Some.ensures.first

pub returns-clause-none : goal.returns-clause-none
returns-clause-none c k lt = c.loop-place.invariant.clear k (omega (arith, lt, c.loop-place-test.false))

pub loop-place-preserved : goal.loop-place-preserved
loop-place-preserved c =
    let place = c.loop-place.place in
    let next : suc place ≡ place + 1 = omega arith in
    record {
      size = c.damage_at.ensures.size ∙ c.loop-place.invariant.size;
      clear = λ k lt. elim (cases_eq k place) [
        | inl same ↦ subst (IsClearAt (index_of c.args.pages.now) c.args.stops.now) (sym same) c.in_default.ensures.clear
        | inr differs ↦ c.loop-place.invariant.clear k (omega (arith, lt, differs))
      ];
      marked = subst (λ (n : ℕ). AreMarked (index_of c.args.pages.now) c.args.stops.now n c.damage_at.new.linked) next c.in_default.ensures.marked;
    }
