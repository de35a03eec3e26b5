use Rattle.std.proofs.Common.{◌≡◌, true, false, ◌+◌, ◌*◌, drop, take, refl, sym, ◌∙◌, arith}
use Rattle.index_model.proofs.Imports.{slice_cmp, nat_cmp, ordering_then, is_ne, Ordering, Less, Equal, Greater, spelled}
use Rattle.index_model.proofs.Words.{next_word}
use Rattle.index_model.proofs.key.order_of_cells.Goals.{After-cmp-found}
use Rattle.index_model.proofs.key.order_of_cells.Goals as goal

-- the words at this place decide, or what is after them
decides : (c : After-cmp-found) → slice_cmp nat_cmp c.args.cells.now c.args.others.now
    ≡ ordering_then c.cmp-found.result (slice_cmp nat_cmp (drop (8 * (c.loop-at.at + 1)) c.args.cells.now) (drop (8 * (c.loop-at.at + 1)) c.args.others.now))
decides c =
    let n = 8 * c.loop-at.at in
    let next : n + 8 ≡ 8 * (c.loop-at.at + 1) = omega arith in
    let found : nat_cmp (spelled 0 (take 8 (drop n c.args.cells.now))) (spelled 0 (take 8 (drop n c.args.others.now))) ≡ c.cmp-found.result =
    sym (c.cmp-found.ensures ∙ (λ i. nat_cmp (c.word.ensures i) (c.word-in-loop-at.ensures i))) in
    c.loop-at.invariant.rest
    ∙ next_word n c.args.cells.now c.args.others.now (omega (arith, c.loop-at-test.true)) (omega (arith, c.loop-at-test.true)) c.fits-cells c.fits-others
    ∙ (λ i. ordering_then (found i) (slice_cmp nat_cmp (drop (next i) c.args.cells.now) (drop (next i) c.args.others.now)))

unequal : (o r : Ordering) → is_ne o ≡ true → ordering_then o r ≡ o
unequal Less r h = refl
unequal Equal r h = absurd cc
unequal Greater r h = refl

equal : (o r : Ordering) → is_ne o ≡ false → ordering_then o r ≡ r
equal Less r h = absurd cc
equal Equal r h = refl
equal Greater r h = absurd cc

pub returns-then-is_ne : goal.returns-then-is_ne
returns-then-is_ne c =
    sym (decides (goal.at.returns-then-is_ne c).After-cmp-found ∙ unequal c.cmp-found.result _ (sym c.is_ne.ensures ∙ c.if-is_ne.true))

pub loop-at-preserved : goal.loop-at-preserved
loop-at-preserved c = record {
  rest = decides (goal.at.loop-at-preserved c).After-cmp-found ∙ equal c.cmp-found.result _ (sym c.is_ne.ensures ∙ c.if-is_ne.false);
}
