use Rattle.std.proofs.Common.{refl}
use Rattle.access_method.specs.Indexes.{slots_within}
use Rattle.page_store.specs.StoreLaws.{store_laws}
use Rattle.schedule.specs.TheoremMoments.{snapshot_of}
use Rattle.access_method.proofs.index.Index+Store+D.advance_commit.Goals as goal

pub returns-clause-stays : goal.returns-clause-stays
returns-clause-stays g c =
    let old = c.args.self.now in
    let follows = c.advance.ensures.steps old.store ((store_laws g.D.Device).follows_same old.store) in
    record {
      state_is = c.advance.ensures.state;
      calls_is = refl;
      rows_is = refl;
      fits = λ start history calls fits. (c.same_state_fits.ensures start (snapshot_of (slots_within old) history calls) c.advance.new.self follows c.advance.ensures.state fits).0;
      safe = λ start history calls fits keeps. (c.same_state_fits.ensures start (snapshot_of (slots_within old) history calls) c.advance.new.self follows c.advance.ensures.state fits).1 keeps;
    }
