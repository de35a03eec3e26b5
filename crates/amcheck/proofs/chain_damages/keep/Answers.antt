use Rattle.std.proofs.Common.{◌++◌, ◌∷◌, [], List, get_or, length, length-append, append_assoc, append-nil, take, refl, sym, ap, ◌∙◌, arith}
use Rattle.amcheck.proofs.Imports.{take_all, slice_get-get_or, Stop}
use Rattle.amcheck.proofs.AllStops.{taken}
use Rattle.amcheck.proofs.Found.{no_stop}
use Rattle.amcheck.proofs.ReadOn.{take_get}
use Rattle.amcheck.proofs.chain_damages.keep.Goals as goal

pub loop-stop-init : goal.loop-stop-init
loop-stop-init c = record { kept = sym (append-nil c.args.chains.now.items); room = refl }

pub push_reserved-requires : goal.push_reserved-requires
push_reserved-requires c =
    let i = c.loop-stop.stop-index in
    omega (
      arith,
      ap length c.loop-stop.invariant.kept,
      length-append c.args.chains.now.items (take i c.args.stops.now),
      taken c.args.stops.now i (let lt = c.loop-stop-test.true in omega arith),
      c.loop-stop-test.true,
      c.loop-stop.invariant.room,
      c.requires,
    )

pub loop-stop-preserved : goal.loop-stop-preserved
loop-stop-preserved c =
    let i = c.loop-stop.stop-index in
    let stop = get_or c.args.stops.now i no_stop in
    record {
      kept = c.push_reserved.ensures.items ∙ ap (λ (l : List Stop). l ++ stop ∷ []) c.loop-stop.invariant.kept
          ∙ append_assoc c.args.chains.now.items (take i c.args.stops.now) (stop ∷ [])
          ∙ ap (λ (l : List Stop). c.args.chains.now.items ++ l) (take_get c.args.stops.now i stop (slice_get-get_or c.args.stops.now i no_stop c.loop-stop-test.true));
      room = c.push_reserved.ensures.capacity ∙ c.loop-stop.invariant.room;
    }

pub returns-clause-kept : goal.returns-clause-kept
returns-clause-kept c =
    c.loop-stop.invariant.kept ∙ ap (λ (l : List Stop). c.args.chains.now.items ++ l) (take_all c.loop-stop.stop-index c.args.stops.now (omega (arith, c.loop-stop-test.false)))
