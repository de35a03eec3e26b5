use Rattle.std.proofs.Common.{◌≡◌, ◌+◌, ◌*◌, ◌++◌, [], ◌∷◌, List, ℕ, length, take, drop, refl, sym, ◌∙◌, ap, arith, length-take-le}
use Rattle.redo_log.proofs.Imports.{Page, body, LogHolds, waiting_count}
use Rattle.redo_log.proofs.Forcing.{laid_all, sealed_piece, body_goes, body_keeps, body_outside}
use Rattle.redo_log.proofs.log.Log.write_body.Given.{Over}
use Rattle.redo_log.proofs.log.Log.write_body.Goals.{After-write_at}
use Rattle.redo_log.proofs.log.Log.write_body.Goals as goal

module _ (g : Over) (c : After-write_at g) where
  piece : (acts : List (List Page)) (forced : ℕ) (k : LogHolds c.args.self.now (g.D.Device.trace c.args.device.now).now acts forced)
      → take (5 + 4096 * c.count-count.result) c.deref.result.now ≡ body k.waiting ++ 0 ∷ []
  piece acts forced k =
      let s = c.args.self.now in
      sealed_piece s.buffer _ _ _ c.count-count.result k.waiting c.deref_mut.ensures.value (c.seal.auto.buffer ∙ c.deref_mut.ensures.len) c.deref.ensures.value c.seal.ensures.sealed
      (k.waits.counted ∙ sym c.count-count.ensures) (ap (λ (n : ℕ). take (4096 * n) (drop 4 s.buffer.items)) c.count-count.ensures ∙ laid_all s k.waiting c.requires.laid k.waits)

  long : length (take (5 + 4096 * c.count-count.result) c.deref.result.now) ≡ 5 + 4096 * waiting_count c.args.self.now
  long =
      let s = c.args.self.now in
      length-take-le (5 + 4096 * c.count-count.result) c.deref.result.now (omega (arith, s.fits c.requires.some)) ∙ ap (λ (n : ℕ). 5 + 4096 * n) c.count-count.ensures

pub returns-in_err-write_at-clause-moments : goal.returns-in_err-write_at-clause-moments
returns-in_err-write_at-clause-moments g c = λ acts forced k. body_goes c.args.self.now acts forced _ k c.requires.shut _ c.write_at.result _
    (omega (arith, long g (goal.at.returns-in_err-write_at-clause-moments g c).After-write_at, c.args.self.now.fits c.requires.some, c.requires.range)) c.write_at.ensures.trace

pub returns-in_err-write_at-clause-outside : goal.returns-in_err-write_at-clause-outside
returns-in_err-write_at-clause-outside g c = body_outside c.args.self.now _ _ c.requires.range c.requires.some
    (long g (goal.at.returns-in_err-write_at-clause-outside g c).After-write_at) c.write_at.result _ c.write_at.ensures.trace

pub returns-clause-keeps : goal.returns-clause-keeps
returns-clause-keeps g c = λ acts forced k.
    let at = (goal.at.returns-clause-keeps g c).After-write_at in
    body_keeps c.args.self.now acts forced _ k c.requires.shut _ _ _
    (omega (arith, long g at, c.args.self.now.fits c.requires.some, c.requires.range)) (piece g at acts forced k) c.in_ok-write_at.ensures.trace refl refl refl c.requires.shut
    k.waits

pub returns-clause-moments : goal.returns-clause-moments
returns-clause-moments g c = λ acts forced k. body_goes c.args.self.now acts forced _ k c.requires.shut _ c.write_at.result _
    (omega (arith, long g (goal.at.returns-clause-moments g c).After-write_at, c.args.self.now.fits c.requires.some, c.requires.range)) c.write_at.ensures.trace

pub returns-clause-outside : goal.returns-clause-outside
returns-clause-outside g c = body_outside c.args.self.now _ _ c.requires.range c.requires.some
    (long g (goal.at.returns-clause-outside g c).After-write_at) c.write_at.result _ c.write_at.ensures.trace
