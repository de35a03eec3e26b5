use Rattle.std.proofs.Common.{◌≡◌, ◌-◌, Option, ℕ, Some, None, sym, ◌∙◌, arith}
use Rattle.std.proofs.lemmas.List.{get_or_past, get_or_read}
use Rattle.buffer_pool.specs.Pools.{frame_of}
use Rattle.buffer_pool.proofs.Sound.{found_within, found_page, found_nothing}
use Rattle.buffer_pool.proofs.Putting.{frame_from, no_frame_from}
use Rattle.buffer_pool.proofs.pool.Pool.find.Goals as goal

pub returns-then-block-len : goal.returns-then-block-len
returns-then-block-len c =
    let pool = c.args.self.now in
    let found : Option ℕ = None in
    let is : found ≡ frame_of pool c.args.block = sym (no_frame_from pool c.args.block (get_or_past pool.places.items c.args.block 0 (omega arith))) in
    record {
      frame = is;
      within = found_within pool c.args.block found is;
      held = found_page pool c.args.block found is;
      none = found_nothing pool c.args.block found is;
    }

pub returns-then-place-eq0 : goal.returns-then-place-eq0
returns-then-place-eq0 c =
    let pool = c.args.self.now in
    let is = get_or_read pool.places.items c.args.block c.index.result.now (omega arith) c.index.ensures 0 in
    let found : Option ℕ = None in
    let is : found ≡ frame_of pool c.args.block = sym (no_frame_from pool c.args.block (sym is ∙ c.if-place-eq0.true)) in
    record {
      frame = is;
      within = found_within pool c.args.block found is;
      held = found_page pool c.args.block found is;
      none = found_nothing pool c.args.block found is;
    }

pub returns-else-place-eq0 : goal.returns-else-place-eq0
returns-else-place-eq0 c =
    let pool = c.args.self.now in
    let is = get_or_read pool.places.items c.args.block c.index.result.now (omega arith) c.index.ensures 0 in
    let found : Option ℕ = Some (c.index.result.now - 1) in
    let is : found ≡ frame_of pool c.args.block = sym (frame_from pool c.args.block (c.index.result.now - 1) (omega (arith, is, c.if-place-eq0.false))) in
    record {
      frame = is;
      within = found_within pool c.args.block found is;
      held = found_page pool c.args.block found is;
      none = found_nothing pool c.args.block found is;
    }
