use Rattle.std.specs.Int.{w32, to_le_bytes}
use Rattle.std.proofs.Common.{◌≡◌, ◌∙◌, ◌++◌, ℕ, ap, take, length, arith}
use Rattle.recovery.proofs.Spelling.{spelled}
use Rattle.recovery.proofs.superblock.spell_superblock.Goals as goal

pub returns : goal.returns
returns c =
    let long : length c.put_number-at-5.new.out ≡ 4096 = omega arith in
    spelled c.args.format.now c.clear_from.new.out c.put_number-at-5.new.out _ _ _ _ _ _ c.put_number-at-5.result c.put-at.ensures.front
    (c.put_number-at.ensures.front ∙ ap (λ (n : ℕ). take c.put-at.result c.put-at.new.out ++ to_le_bytes w32 n) c.number_of.ensures)
    c.put_number-at-2.ensures.front c.put_number-at-3.ensures.front c.put_number-at-4.ensures.front
    (c.put_number-at-5.ensures.front ∙ ap (λ (n : ℕ). take c.put_number-at-4.result c.put_number-at-4.new.out ++ to_le_bytes w32 n) c.number_if.ensures) (omega arith) long c.clear_from.ensures
