use Rattle.std.proofs.Common.{Option, None, List, ap, refl, inl}
use Rattle.std.proofs.lemmas.Result.{IfErr-weaker, IfOk-weaker}
use Rattle.access_method.specs.Indexes.{ForEachIndexHistory, SeatBecomes}
use Rattle.access_method.specs.Scans.{Rests, ScanBegins}
use Rattle.access_method.specs.Tokens.{seat_of}
use Rattle.access_method.specs.declared.token.Sitter.{Sitter}
use Rattle.index_model.specs.declared.range.Range.{Range}
use Rattle.index_copy.proofs.Copied.{cause_of, closed_rests, copied_all, stopped_all}
use Rattle.index_copy.proofs.Seats.{closes, seats_back}
use Rattle.index_copy.proofs.copying.copy.Goals as goal

pub returns-clause-rests : goal.returns-clause-rests
returns-clause-rests g c =
    let G = g.S.PageStore in
    let range : Range = record { from = None; below = None } in
    let token = c.in-Ok.token in
    let before = c.args.from.now in
    let begun = c.ambeginscan.new.self in
    let now = c.copy_scan-copied.new.from in
    let new = c.amendscan-ended.new.self in
    let law = c.scan_law.ensures in
    let begins : ScanBegins G token.session range before begun = record { steps = c.ambeginscan.ensures.steps; runs = c.in-Ok.ensures.runs } in
    let ended : ForEachIndexHistory G now new (Rests G now new) =
    closes token before begun c.in-Ok.ensures.tokens now c.amendscan-ended.result c.copy_scan-copied.ensures.seats c.amendscan-ended.ensures.rests c.amendscan-ended.ensures.open in
    closed_rests G g.met.S.PageStore.laws token.session range (λ e. refl) before begun now begins
    (λ given nexts. law.rests token.session range before begun given begins nexts) (λ last given answer nexts next. law.rests_then token.session range before begun last given answer begins nexts next)
    new c.amendscan-ended.ensures.steps c.copy_scan-copied.ensures.asked ended

pub returns-clause-copies : goal.returns-clause-copies
returns-clause-copies g c =
    let G = g.S.PageStore in
    let range : Range = record { from = None; below = None } in
    let token = c.in-Ok.token in
    let before = c.args.from.now in
    let begun = c.ambeginscan.new.self in
    let now = c.copy_scan-copied.new.from in
    let law = c.scan_law.ensures in
    let begins : ScanBegins G token.session range before begun = record { steps = c.ambeginscan.ensures.steps; runs = c.in-Ok.ensures.runs } in
    IfOk-weaker c.copy_scan-copied.result _ _
    (copied_all G g.met.S.PageStore.laws token.session range (λ e. refl) before begun now begins
    (λ given nexts. law.first token.session range before begun given begins nexts) (λ last given nexts next. law.all token.session range before begun last given begins nexts next)
    c.amendscan-ended.new.self c.amendscan-ended.ensures.steps g.T.PageStore c.args.into.now c.copy_scan-copied.new.into)
    c.copy_scan-copied.ensures.copies

pub returns-clause-refused : goal.returns-clause-refused
returns-clause-refused g c =
    let G = g.S.PageStore in
    let range : Range = record { from = None; below = None } in
    let token = c.in-Ok.token in
    let before = c.args.from.now in
    let begun = c.ambeginscan.new.self in
    let now = c.copy_scan-copied.new.from in
    let law = c.scan_law.ensures in
    let begins : ScanBegins G token.session range before begun = record { steps = c.ambeginscan.ensures.steps; runs = c.in-Ok.ensures.runs } in
    IfErr-weaker c.copy_scan-copied.result _ _
    (stopped_all G g.met.S.PageStore.laws token.session range (λ e. refl) before begun now begins
    (λ given nexts. law.first token.session range before begun given begins nexts) (λ last given nexts next. law.all token.session range before begun last given begins nexts next)
    c.amendscan-ended.new.self c.amendscan-ended.ensures.steps g.T.PageStore c.args.into.now c.copy_scan-copied.new.into)
    c.copy_scan-copied.ensures.stopped

pub returns-in-Err-clause-cause : goal.returns-in-Err-clause-cause
returns-in-Err-clause-cause g c = inl c.in-Err.ensures.cause

pub returns-clause-cause : goal.returns-clause-cause
returns-clause-cause g c =
    let token = c.in-Ok.token in
    let begins : ScanBegins g.S.PageStore token.session (record { from = None; below = None }) c.args.from.now c.ambeginscan.new.self =
    record { steps = c.ambeginscan.ensures.steps; runs = c.in-Ok.ensures.runs } in
    IfErr-weaker c.copy_scan-copied.result _ _
    (cause_of g.S.PageStore g.T.PageStore token.session c.args.from.now c.ambeginscan.new.self c.copy_scan-copied.new.from c.amendscan-ended.new.self
    c.args.into.now c.copy_scan-copied.new.into begins c.amendscan-ended.ensures.steps)
    c.copy_scan-copied.ensures.stopped

pub returns-clause-from_tokens : goal.returns-clause-from_tokens
returns-clause-from_tokens g c t =
    let token = c.in-Ok.token in
    let before = c.args.from.now in
    let begun = c.ambeginscan.new.self in
    let now = c.copy_scan-copied.new.from in
    let new = c.amendscan-ended.new.self in
    let becomes : SeatBecomes token None now new =
    closes token before begun c.in-Ok.ensures.tokens now c.amendscan-ended.result c.copy_scan-copied.ensures.seats c.amendscan-ended.ensures.tokens c.amendscan-ended.ensures.open in
    ap (λ (seats : List (Option Sitter)). seat_of seats t) (seats_back token before begun c.in-Ok.ensures.tokens now new c.copy_scan-copied.ensures.seats becomes)
