use Rattle.std.proofs.Common.{◌≡◌, ◌++◌, ℕ, suc, ◌+◌, List, false, length, length-append, inl, inr, refl, sym, ap, subst, ◌∙◌, arith}
use Rattle.amcheck.proofs.AllStops.{blocks_append}
use Rattle.amcheck.proofs.Imports.{cases_lt, length-replicate, nodes_of, index_of, start, first_child, AreAllStops, IsClearLevel, AreOfUpper, stop_blocks, Stop, few_blocks}
use Rattle.amcheck.proofs.Walked.{blocks_length}
use Rattle.amcheck.proofs.ChainDamages.{first_level, sound_levels, none_of_upper}
use Rattle.amcheck.proofs.chain_damages.find_chain_damage.Given.{Over}
use Rattle.amcheck.proofs.chain_damages.find_chain_damage.Goals.{In-Ok}
use Rattle.amcheck.proofs.chain_damages.find_chain_damage.Goals as goal

pub loop-depth-init : goal.loop-depth-init
loop-depth-init g c = record {
  size = ap length c.requires.seen ∙ length-replicate (length c.args.pages.now) false;
  met = c.requires.met;
  room = refl;
  upper = none_of_upper (index_of c.args.pages.now) (length c.args.pages.now) c.args.room.now.seen.items c.args.room.now.met c.requires.seen c.requires.none;
  more_room = refl;
  far = omega arith;
  chains = c.requires.no_stops;
  added = c.requires.none ∙ ap stop_blocks (sym c.requires.no_stops);
  clear = λ d lt. absurd (omega arith);
  begin = c.requires.root;
}

-- the blocks that were met are those of the stops of all levels so far
added_level : (g : Over) (c : In-Ok g) → c.judge_level.new.room.met.blocks.items ≡ stop_blocks (c.loop-depth.chains.items ++ c.judge_level.new.room.stops.items)
added_level g c =
    c.in-Ok.ensures.added ∙ ap (λ (l : List ℕ). l ++ stop_blocks c.judge_level.new.room.stops.items) c.loop-depth.invariant.added
    ∙ sym (blocks_append c.loop-depth.chains.items c.judge_level.new.room.stops.items)

pub keep-requires : goal.keep-requires
keep-requires g c =
    let added = added_level g (goal.at.keep-requires g c).In-Ok in
    let all = c.loop-depth.chains.items ++ c.judge_level.new.room.stops.items in
    let few = few_blocks (length c.args.pages.now) c.judge_level.new.room.met.blocks.items c.requires.some c.judge_level.ensures.met.distinct c.judge_level.ensures.met.in_use in
    omega (
      arith,
      few,
      ap length added,
      blocks_length all,
      length-append c.loop-depth.chains.items c.judge_level.new.room.stops.items,
      ap length c.deref.ensures.value,
      c.requires.more_room,
      c.loop-depth.invariant.more_room,
    )

pub returns-in-Err-clause-some : goal.returns-in-Err-clause-some
returns-in-Err-clause-some g c =
    first_level c.args.keys c.args.pages.now c.loop-depth.depth c.in-Err.damage.number c.in-Err.damage.block
    (omega (arith, c.loop-depth-test.true, c.requires.top)) c.loop-depth.invariant.clear c.in-Err.ensures.first

pub loop-depth-preserved : goal.loop-depth-preserved
loop-depth-preserved g c =
    let depth = c.loop-depth.depth in
    let next : suc depth ≡ depth + 1 = omega arith in
    let kept : c.keep.new.chains.items ≡ c.loop-depth.chains.items ++ c.judge_level.new.room.stops.items =
    c.keep.ensures.kept ∙ ap (λ (l : List Stop). c.loop-depth.chains.items ++ l) c.deref.ensures.value in
    record {
      size = c.judge_level.ensures.size;
      met = c.judge_level.ensures.met;
      room = c.judge_level.ensures.room ∙ c.loop-depth.invariant.room;
      more_room = c.keep.ensures.room ∙ c.loop-depth.invariant.more_room;
      far = omega (arith, c.loop-depth-test.true);
      chains = subst (λ (d : ℕ). AreAllStops (index_of c.args.pages.now) d c.keep.new.chains.items) next
          (let all : AreAllStops (index_of c.args.pages.now) (suc depth) c.keep.new.chains.items =
          (c.loop-depth.chains.items, c.judge_level.new.room.stops.items, kept, c.loop-depth.invariant.chains, c.in-Ok.ensures.whole) in all);
      added = added_level g (goal.at.loop-depth-preserved g c).In-Ok ∙ ap stop_blocks (sym kept);
      upper = subst (λ (d : ℕ). AreOfUpper (index_of c.args.pages.now) d c.judge_level.new.room.seen.items c.judge_level.new.room.met) next c.judge_level.ensures.upper;
      clear = λ d lt. elim (cases_lt d depth) [
        | inl before ↦ c.loop-depth.invariant.clear d before
        | inr last ↦ subst (IsClearLevel (index_of c.args.pages.now) c.args.keys) (let e : depth ≡ d = omega (arith, lt, last) in e) c.in-Ok.ensures.clear
      ];
      begin = subst (λ (d : ℕ). c.next_begin-begin.result ≡ start (index_of c.args.pages.now) d) next
          (c.next_begin-begin.ensures ∙ ap (λ (b : ℕ). first_child (nodes_of c.args.pages.now b).links) c.in-Ok.ensures.head);
    }

pub returns-clause-none : goal.returns-clause-none
returns-clause-none g c =
    sound_levels c.args.keys c.args.pages.now (λ d deep. c.loop-depth.invariant.clear d (omega (arith, deep, c.loop-depth-test.false, c.requires.top)))

pub returns-clause-chains : goal.returns-clause-chains
returns-clause-chains g c =
    subst (λ (d : ℕ). AreAllStops (index_of c.args.pages.now) d c.loop-depth.chains.items)
    (let e : c.loop-depth.depth ≡ suc (index_of c.args.pages.now).top = omega (arith, c.loop-depth.invariant.far, c.loop-depth-test.false, c.requires.top) in e) c.loop-depth.invariant.chains
