use Rattle.std.proofs.Common.{List, sym, subst}
use Rattle.page_codec.proofs.Imports.{Entry, AreEntries}
use Rattle.page_codec.proofs.Pieces.{without_first, first_and_after}
use Rattle.page_codec.proofs.Runs.{entries_more, entries_rest}
use Rattle.page_codec.proofs.grammar.are_entries.Goals as goal

pub loop-rest-preserved : goal.loop-rest-preserved
loop-rest-preserved c =
    let high = c.args.high.now in
    let rest = c.loop-rest.rest.now in
    let first = c.first-item.result in
    let parts = first_and_after rest first c.in-len1-up.len_at_least c.first-item.is in
    let place = c.is_entry_in_place.ensures.0 c.if-not-is_entry_in_place.false in
    record {
      whole = λ h. c.loop-rest.invariant.whole (subst (λ (es : List Entry). AreEntries high es) (sym parts) (entries_more high first (without_first rest) c.seen.ensures place h));
      part = λ h. entries_rest high first (without_first rest) (subst (λ (es : List Entry). AreEntries high es) parts (c.loop-rest.invariant.part h));
    }
