use Rattle.std.proofs.Common.{length, subst}
use Rattle.amcheck.proofs.Imports.{index_of, IsChainEnd}
use Rattle.amcheck.proofs.Chained.{clear_whole, first_off, first_met}
use Rattle.amcheck.proofs.bad_places.damage_at_end.Goals as goal

pub returns-in-Whole-clause-none : goal.returns-in-Whole-clause-none
returns-in-Whole-clause-none c =
    clear_whole (index_of c.args.pages.now) c.args.keys c.args.depth c.args.root c.args.stops.now c.requires.deep c.requires.root c.requires.stops c.requires.right
    (subst (IsChainEnd (index_of c.args.pages.now) c.args.depth (length c.args.stops.now)) c.in-Whole.is c.requires.end)

pub returns-in-Off-clause-some : goal.returns-in-Off-clause-some
returns-in-Off-clause-some c =
    let end = subst (IsChainEnd (index_of c.args.pages.now) c.args.depth (length c.args.stops.now)) c.in-Off.is c.requires.end in
    first_off (index_of c.args.pages.now) c.args.keys c.args.depth c.args.root c.args.stops.now c.requires.deep c.requires.root c.requires.stops c.requires.right c.in-Off.block end.0 end.1

pub returns-in-Met-clause-some : goal.returns-in-Met-clause-some
returns-in-Met-clause-some c =
    let end = subst (IsChainEnd (index_of c.args.pages.now) c.args.depth (length c.args.stops.now)) c.in-Met.is c.requires.end in
    first_met (index_of c.args.pages.now) c.args.keys c.args.depth c.args.root c.args.stops.now c.requires.deep c.requires.root c.requires.stops c.requires.right c.in-Met.stop end.0 end.1
    c.met_number.result c.met_number.ensures.two c.met_number.ensures.three.0 c.met_number.ensures.three.1 end.2
