use Rattle.std.proofs.Common.{◌≡◌, ◌+◌, true, false, length, refl, sym, ◌∙◌, arith}
use Rattle.damages.proofs.TreePlaces.{head_is}
use Rattle.amcheck.proofs.Imports.{index_of, left_after_steps, IsClearPath}
use Rattle.amcheck.proofs.WaysLeft.{begin_way, way_off, way_back, way_goes_on, way_ends, kept_more, kept_so_far, way_is_short, level_there, level_back}
use Rattle.amcheck.proofs.ways.find_leftmost.Goals as goal

pub loop-init : goal.loop-init
loop-init c = begin_way c.args.pages.now c.args.depth c.args.begin c.args.seen.now c.requires.size c.requires.begin

pub returns-then-not-is_on_level-clause-kept : goal.returns-then-not-is_on_level-clause-kept
returns-then-not-is_on_level-clause-kept c = kept_so_far c.args.pages.now c.args.depth c.args.seen.now c.loop.seen c.loop.block c.loop.counter c.loop.invariant c.requires.apart

pub returns-then-not-is_on_level-clause-first : goal.returns-then-not-is_on_level-clause-first
returns-then-not-is_on_level-clause-first c =
    way_off c.args.pages.now c.args.depth c.args.seen.now c.loop.seen c.loop.block c.loop.counter c.loop.invariant c.requires.apart
    (λ on. let k : false ≡ true = c.if-not-is_on_level.ensures.1 (level_back c.args.pages.now c.args.level c.args.depth c.loop.block c.requires.level on) in absurd cc)

pub returns-then-seen-block-clause-kept : goal.returns-then-seen-block-clause-kept
returns-then-seen-block-clause-kept c = kept_so_far c.args.pages.now c.args.depth c.args.seen.now c.loop.seen c.loop.block c.loop.counter c.loop.invariant c.requires.apart

pub returns-then-seen-block-clause-first : goal.returns-then-seen-block-clause-first
returns-then-seen-block-clause-first c =
    way_back c.args.pages.now c.args.depth c.args.seen.now c.loop.seen c.loop.block c.loop.counter c.loop.invariant c.requires.apart
    (level_there c.args.pages.now c.args.level c.args.depth c.loop.block c.requires.level (c.if-not-is_on_level.ensures.0 refl)) c.if-seen-block.true

pub returns-in-None-clause-kept : goal.returns-in-None-clause-kept
returns-in-None-clause-kept c =
    kept_more c.args.pages.now c.args.depth c.args.seen.now c.loop.seen c.loop.block c.loop.counter c.loop.invariant c.requires.apart
    (level_there c.args.pages.now c.args.level c.args.depth c.loop.block c.requires.level (c.if-not-is_on_level.ensures.0 refl))
    (λ mark. let k : true ≡ false = sym mark ∙ c.if-seen-block.false in absurd cc)

-- the way ends at the leftmost page
ends : (c : goal.In-None) → (c.loop.block ≡ left_after_steps (index_of c.args.pages.now) c.args.depth (length c.args.pages.now)) × IsClearPath (index_of c.args.pages.now) c.args.depth
ends c =
    let on = level_there c.args.pages.now c.args.level c.args.depth c.loop.block c.requires.level (c.if-not-is_on_level.ensures.0 refl) in
    let left = sym c.sketch.ensures.is.left ∙ c.in-None.is in
    way_ends c.args.pages.now c.args.depth c.args.seen.now c.loop.seen c.loop.block c.loop.counter c.loop.invariant c.requires.apart on
    (λ mark. let k : true ≡ false = sym mark ∙ c.if-seen-block.false in absurd cc) left (omega (arith, c.loop-test.true, c.len-end.ensures))

pub returns-in-None-clause-found : goal.returns-in-None-clause-found
returns-in-None-clause-found c = (ends c).0 ∙ sym (head_is (index_of c.args.pages.now) c.args.depth)

pub returns-in-None-clause-clear : goal.returns-in-None-clause-clear
returns-in-None-clause-clear c = (ends c).1

pub loop-preserved : goal.loop-preserved
loop-preserved c =
    let on = level_there c.args.pages.now c.args.level c.args.depth c.loop.block c.requires.level (c.if-not-is_on_level.ensures.0 refl) in
    let left = sym c.sketch.ensures.is.left ∙ c.in-Some.is in
    way_goes_on c.args.pages.now c.args.depth c.args.seen.now c.loop.seen c.loop.block c.loop.counter c.loop.invariant c.requires.apart on
    (λ mark. let k : true ≡ false = sym mark ∙ c.if-seen-block.false in absurd cc) c.in-Some.left (c.loop.counter + 1) left (omega arith)

pub returns-clause-kept : goal.returns-clause-kept
returns-clause-kept c = kept_so_far c.args.pages.now c.args.depth c.args.seen.now c.loop.seen c.loop.block c.loop.counter c.loop.invariant c.requires.apart

pub returns-clause-first : goal.returns-clause-first
returns-clause-first c =
    absurd (way_is_short c.args.pages.now c.args.depth c.args.seen.now c.loop.seen c.loop.block c.loop.counter c.loop.invariant c.requires.apart
    (omega (arith, c.loop-test.false, c.len-end.ensures)) c.requires.some)
