use Rattle.std.proofs.Common.{suc, ◌≤◌, List, length, inl, sym, subst, ◌∙◌, arith}
use Rattle.std.specs.Vec.{with_items}
use Rattle.amcheck.proofs.Imports.{index_of, AreOfUpper, Stop}
use Rattle.amcheck.proofs.AllStops.{ends_clear}
use Rattle.amcheck.proofs.ChainDamages.{seen_upper_in, met_on, stops_below}
use Rattle.amcheck.proofs.chain_damages.judge_level.Given.{Over}
use Rattle.amcheck.proofs.chain_damages.judge_level.Goals.{After-walk-end}
use Rattle.amcheck.proofs.chain_damages.judge_level.Goals as goal

pub returns-in-Err-clause-upper : goal.returns-in-Err-clause-upper
returns-in-Err-clause-upper g c =
    let room = c.args.room.now in
    seen_upper_in (index_of c.args.pages.now) c.args.depth room.seen c.deref_mut.result.now c.find_leftmost.new.seen room.met room.met c.requires.upper c.deref_mut.ensures.value
    (c.find_leftmost.auto.seen ∙ c.deref_mut.ensures.len) c.find_leftmost.ensures.kept (λ b among. inl among)

pub first_in_chain-requires-clause-few : goal.first_in_chain-requires-clause-few
first_in_chain-requires-clause-few g c =
    let below = stops_below c.walk-end.new.met (length c.args.pages.now) c.args.room.now.met.blocks.items c.walk-end.new.stops.items c.walk-end.ensures.met c.requires.some c.walk-end.ensures.added in
    subst (λ (l : List Stop). length l ≤ 65536) (sym c.deref.ensures.value) (omega (arith, below, c.requires.few))

-- what was met on the chain too
upper : (g : Over) (c : After-walk-end g) → AreOfUpper (index_of c.args.pages.now) (suc c.args.depth) (with_items c.args.room.now.seen c.find_leftmost.new.seen).items c.walk-end.new.met
upper g c =
    let room = c.args.room.now in
    seen_upper_in (index_of c.args.pages.now) c.args.depth room.seen c.deref_mut.result.now c.find_leftmost.new.seen room.met c.walk-end.new.met c.requires.upper c.deref_mut.ensures.value
    (c.find_leftmost.auto.seen ∙ c.deref_mut.ensures.len) c.find_leftmost.ensures.kept
    (met_on (index_of c.args.pages.now) c.args.depth room.met.blocks.items c.walk-end.new.met.blocks.items c.walk-end.new.stops.items c.walk-end.ensures.added c.walk-end.ensures.stops)

pub returns-in-None-clause-upper : goal.returns-in-None-clause-upper
returns-in-None-clause-upper g c = upper g (goal.at.returns-in-None-clause-upper g c).After-walk-end

pub returns-in-Some-clause-upper : goal.returns-in-Some-clause-upper
returns-in-Some-clause-upper g c = upper g (goal.at.returns-in-Some-clause-upper g c).After-walk-end

pub returns-in-None-clause-whole : goal.returns-in-None-clause-whole
returns-in-None-clause-whole g c = record {
  are = c.walk-end.ensures.stops;
  ends = ends_clear (index_of c.args.pages.now) c.args.keys c.args.depth (length c.walk-end.new.stops.items) c.walk-end.result
      (omega (arith, c.requires.level, c.requires.top)) c.in-None.ensures.none c.walk-end.ensures.end;
}
