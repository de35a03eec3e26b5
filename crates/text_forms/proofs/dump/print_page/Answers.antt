use Rattle.std.specs.Prelude.{ℕ, List, length, flat_map, OnOk}
use Rattle.std.proofs.Common.{sym, subst}
use Rattle.std.specs.Io.KnownBytes.{Appends}
use Rattle.text_forms.specs.Dumping.{downlink_line, internal_line, page_lines}
use Rattle.text_forms.proofs.Printed.{then_printed}
use Rattle.page_codec.specs.declared.page.Downlink.{Downlink}
use Rattle.page_codec.specs.declared.page.Items.{Items}
use Rattle.text_forms.proofs.dump.print_page.Goals as goal

pub returns-in_ok-print_internal-in-Downlinks : goal.returns-in_ok-print_internal-in-Downlinks
returns-in_ok-print_internal-in-Downlinks g c =
    let page = c.args.page.now in
    let links = c.in-Downlinks.links.items in
    let old = g.W.Write.contents c.args.out.now in
    let mid = g.W.Write.contents c.print_internal.new.out in
    let new = g.W.Write.contents c.print_downlinks.new.out in
    let first : Appends old mid (internal_line page (length links)) =
    subst (λ (n : ℕ). Appends old mid (internal_line page n)) c.len-in-Downlinks.ensures.value c.in_ok-print_internal-in-Downlinks.ensures in
    let second : OnOk c.print_downlinks.result (Appends mid new (flat_map downlink_line links)) =
    subst (λ (ls : List Downlink). OnOk c.print_downlinks.result (Appends mid new (flat_map downlink_line ls))) c.as_slice-in-Downlinks.ensures.value c.print_downlinks.ensures in
    subst (λ (items : Items). OnOk c.print_downlinks.result (Appends old new (page_lines page items))) (sym c.in-Downlinks.is)
    (then_printed c.print_downlinks.result old mid new (internal_line page (length links)) (flat_map downlink_line links) first second)
