use Rattle.std.proofs.Common.{rules}
use Rattle.sessions.proofs.in_scope.run_all.Goals as goal

-- the clauses of the closure, then what may go to other threads, and what threads may share
pub scoped-requires : goal.scoped-requires
scoped-requires g c =
    let asks = c.requires in
    record {
      at = λ scope. (
        asks.parts,
        (
          asks.handles,
          (
            asks.workers,
            (
              asks.few,
              (
                asks.sessions,
                (
                  asks.stood,
                  (
                    asks.handed,
                    (
                      asks.stays,
                      (
                        asks.rests,
                        (search rules, search rules, search rules, search rules, search rules, search rules, search rules, search rules, search rules),
                      ),
                    ),
                  ),
                ),
              ),
            ),
          ),
        ),
      );
    }
