use Rattle.nardsill.proofs.calls.go_on.Goals as goal

pub returns-clause-means : goal.returns-clause-means
returns-clause-means g c =
    let e = c.vacuum.ensures in
    record {
      outcome = c.vacuum.result;
      told = c.part_answer.ensures.told;
      none = e.none;
      part = λ session seat. record {
        over = e.over session seat;
        runs = e.runs session seat;
        made = e.made session seat;
        keeps = e.keeps session seat;
        counts = e.counts session seat;
        entries = e.entries session seat;
        lasts = e.lasts session seat;
        cause = e.cause session seat;
      };
      idle = e.idle;
      tokens = e.tokens;
      rows = e.rows;
    }
