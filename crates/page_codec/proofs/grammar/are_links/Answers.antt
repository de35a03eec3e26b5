use Rattle.std.proofs.Common.{List, sym, subst}
use Rattle.page_codec.proofs.Imports.{Downlink, AreLinks}
use Rattle.page_codec.proofs.Pieces.{without_first, first_and_after}
use Rattle.page_codec.proofs.Runs.{links_more, links_rest}
use Rattle.page_codec.proofs.grammar.are_links.Goals as goal

pub loop-rest-preserved : goal.loop-rest-preserved
loop-rest-preserved c =
    let layout = c.args.layout in
    let high = c.args.high.now in
    let rest = c.loop-rest.rest.now in
    let first = c.first-item.result in
    let parts = first_and_after rest first c.in-len1-up.len_at_least c.first-item.is in
    let valid = c.is_downlink.ensures.0 c.if-not-is_downlink.false in
    let place = c.is_link_in_place.ensures.0 c.if-not-is_link_in_place.false in
    record {
      whole = λ h. c.loop-rest.invariant.whole (subst (λ (ds : List Downlink). AreLinks layout high ds) (sym parts) (links_more layout high first (without_first rest) valid place h));
      part = λ h. links_rest layout high first (without_first rest) (subst (λ (ds : List Downlink). AreLinks layout high ds) parts (c.loop-rest.invariant.part h));
    }
