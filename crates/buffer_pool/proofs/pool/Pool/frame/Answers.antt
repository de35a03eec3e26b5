use Rattle.std.proofs.Common.{◌<◌, ℕ, List, sym, subst, ap, ◌∙◌, get_or, arith}
use Rattle.buffer_pool.specs.Pools.{frame_of}
use Rattle.buffer_pool.proofs.Noting.{frame_some}
use Rattle.buffer_pool.proofs.Putting.{place_from, frame_from}
use Rattle.buffer_pool.proofs.pool.Pool.frame.Goals as goal

pub frame_at-requires : goal.frame_at-requires
frame_at-requires c =
    let pool = c.args.self.now in
    let at = frame_some (frame_of pool c.args.block) c.requires.held in
    record {
      placed = subst (λ (places : List ℕ). 0 < get_or places c.args.block 0) (sym c.deref.ensures.value) (omega (arith, place_from pool c.args.block at.0 at.1));
    }

pub returns : goal.returns
returns c =
    let pool = c.args.self.now in
    frame_from pool c.args.block c.frame_at.result (ap (λ (places : List ℕ). get_or places c.args.block 0) (sym c.deref.ensures.value) ∙ c.frame_at.ensures)
