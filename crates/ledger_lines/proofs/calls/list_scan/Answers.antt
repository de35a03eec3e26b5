use Rattle.std.proofs.Common.{◌≡◌, ◌∙◌, ap, arith, inl, inr, Ok, Err, Some, None}
use Rattle.ledger_lines.specs.Calls.{IsGive}
use Rattle.ledger_lines.proofs.Ending.{on_err}
use Rattle.ledger_lines.proofs.Given.{answered, breaks_at, given_more, stays_open}
use Rattle.ledger_lines.proofs.calls.list_scan.Goals as goal

pub returns-in-Ok-None : goal.returns-in-Ok-None
returns-in-Ok-None g c =
    let h = c.loop-count.invariant.given in
    let e = c.amgettuple.ensures in
    let seat = c.loop-count.invariant.seat in
    let give : IsGive g.S.PageStore c.args.token c.amgettuple.result c.loop-count.index c.amgettuple.new.self = record {
      made = e.made seat;
      over = e.over seat;
      answers = e.answers;
    } in
    record {
      prints = record {
        given = h.given;
        last = c.loop-count.index;
        gives = h.gives;
        printed = h.printed;
        ends = (h.many, answered g.S.PageStore c.args.token c.amgettuple.result (Ok None) c.loop-count.index c.amgettuple.new.self (c.in-Ok-None.is ∙ ap Ok c.in-Ok-None.field-0-is) give);
      };
      broken = tt;
    }

pub returns-in-Err : goal.returns-in-Err
returns-in-Err g c =
    let h = c.loop-count.invariant.given in
    let e = c.amgettuple.ensures in
    let seat = c.loop-count.invariant.seat in
    let give : IsGive g.S.PageStore c.args.token c.amgettuple.result c.loop-count.index c.amgettuple.new.self = record {
      made = e.made seat;
      over = e.over seat;
      answers = e.answers;
    } in
    record {
      prints = record {
        given = h.given;
        last = c.loop-count.index;
        gives = h.gives;
        printed = h.printed;
        ends = inl (answered g.S.PageStore c.args.token c.amgettuple.result (Err c.in-Err.fault) c.loop-count.index c.amgettuple.new.self c.in-Err.is give);
      };
      broken = tt;
    }

pub loop-count-preserved : goal.loop-count-preserved
loop-count-preserved g c =
    let h = c.loop-count.invariant.given in
    let e = c.amgettuple.ensures in
    let seat = c.loop-count.invariant.seat in
    let is : c.amgettuple.result ≡ Ok (Some c.in-Ok-Some.entry) = cc in
    let give : IsGive g.S.PageStore c.args.token c.amgettuple.result c.loop-count.index c.amgettuple.new.self = record {
      made = e.made seat;
      over = e.over seat;
      answers = e.answers;
    } in
    record {
      seat = stays_open g.S.PageStore c.args.token c.amgettuple.result (Some c.in-Ok-Some.entry) c.loop-count.index c.amgettuple.new.self is (e.tokens seat) seat;
      given = given_more g.S.PageStore c.args.token c.loop-count.count c.in-Ok-Some.entry c.args.index.now c.loop-count.index c.amgettuple.new.self
          (g.W.Write.contents c.args.out.now) (g.W.Write.contents c.loop-count.out) (g.W.Write.contents c.put_entry.new.out) h
          (answered g.S.PageStore c.args.token c.amgettuple.result (Ok (Some c.in-Ok-Some.entry)) c.loop-count.index c.amgettuple.new.self is give)
          c.in_ok-put_entry-in-Ok-Some.ensures.all;
    }

pub returns : goal.returns
returns g c =
    let h = c.loop-count.invariant.given in
    let many = h.many in
    record {
      prints = record {
        given = h.given;
        last = c.loop-count.index;
        gives = h.gives;
        printed = h.printed;
        ends = inr (omega (arith, many, c.loop-count-test.false, c.loop-count.auto.count-end));
      };
      broken = tt;
    }

pub returns-in_err-put_entry-in-Ok-Some-clause-broken : goal.returns-in_err-put_entry-in-Ok-Some-clause-broken
returns-in_err-put_entry-in-Ok-Some-clause-broken g c =
    let h = c.loop-count.invariant.given in
    let e = c.amgettuple.ensures in
    let seat = c.loop-count.invariant.seat in
    let is : c.amgettuple.result ≡ Ok (Some c.in-Ok-Some.entry) = cc in
    let give : IsGive g.S.PageStore c.args.token c.amgettuple.result c.loop-count.index c.amgettuple.new.self = record {
      made = e.made seat;
      over = e.over seat;
      answers = e.answers;
    } in
    on_err _ (breaks_at g.S.PageStore c.args.token c.loop-count.count c.in-Ok-Some.entry c.args.index.now c.loop-count.index c.amgettuple.new.self
    (g.W.Write.contents c.args.out.now) (g.W.Write.contents c.loop-count.out) (g.W.Write.contents c.put_entry.new.out) h
    (answered g.S.PageStore c.args.token c.amgettuple.result (Ok (Some c.in-Ok-Some.entry)) c.loop-count.index c.amgettuple.new.self is give)
    c.in_err-put_entry-in-Ok-Some.ensures.first)
