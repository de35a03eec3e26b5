use Rattle.std.specs.Prelude.{◌≡◌, false, Some, IfErr, OnOk}
use Rattle.std.proofs.Common.{inl, subst}
use Rattle.access_method.specs.Indexes.{IndexIsRun, NotRescannedFor, RescanMeans, SeatBecomes, seat_with}
use Rattle.access_method.specs.declared.token.ScanToken.{ScanToken}
use Rattle.schedule.specs.Sessions.{op_of}
use Rattle.session_calls.specs.Ops.{op_before}
use Rattle.session_calls.specs.declared.answer.Answer.TheVariants.{Begun}
use Rattle.session_calls.specs.declared.request.Request.TheVariants.{Scan as ToScan}
use Rattle.nardsill.proofs.calls.again.Goals as goal

-- what is told of the token is told of the one that was asked for
pub returns-in-Ok-clause-means : goal.returns-in-Ok-clause-means
returns-in-Ok-clause-means g c =
    let told = c.amrescan.ensures in let range = c.in-Ok.range in let outcome = c.amrescan.result in
    let old = c.args.index.now in let new = c.amrescan.new.self in
    let of_asked = subst (λ (token : ScanToken). OnOk outcome (IndexIsRun g.S.PageStore token.session (RescanMeans token.session range) (Some Begun) old new)
    × OnOk outcome (op_of new.calls token.session ≡ Some (op_before token.session (ToScan range)))
    × OnOk outcome (SeatBecomes token (seat_with token false) old new) × IfErr outcome (NotRescannedFor g.S.PageStore old token))
    c.token.ensures (told.runs, told.begins, told.tokens, told.cause) in
    inl (record {
      range = range;
      spelled = c.in-Ok.ensures.ok;
      outcome = outcome;
      told = c.done.ensures.told;
      runs = of_asked.0;
      begins = of_asked.1;
      tokens = of_asked.2;
      same = told.refused;
      cause = of_asked.3;
    })
