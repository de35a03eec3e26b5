use Rattle.std.proofs.Common.{rules, ◌≡◌, ◌∙◌, take, sym, ap, subst, Ok}
use Rattle.recovery.proofs.Imports.{AreLimits, Format, spelled_number, layout_of, is_unique, IsLayout}
use Rattle.page_codec.specs.Places.{magic, superblock}
use Rattle.recovery.proofs.Spelling.{layout_spelled, is_layout, sizes_read, magic_spelled}
use Rattle.recovery.proofs.superblock.read_superblock.Goals.{After-number_at-5}
use Rattle.recovery.proofs.superblock.read_superblock.Goals as goal

pub returns-then-ne-clause-only : goal.returns-then-ne-clause-only
returns-then-ne-clause-only c = λ format are is.
    let e : take 8 c.args.bytes.now ≡ magic = ap (take 8) is ∙ magic_spelled format in
    search rules

pub returns-in_default-clause-only : goal.returns-in_default-clause-only
returns-in_default-clause-only c = λ format are is.
    absurd (c.in_default.ensures.none (subst IsLayout (sym (c.number_at.ensures ∙ (ap (spelled_number 8) is ∙ layout_spelled format))) (is_layout format.layout)))

-- the sizes that were read
read : (c : After-number_at-5) (format : Format) → AreLimits format → c.args.bytes.now ≡ superblock format
    → record { layout = c.in-Some.layout; unique = c.is_unique.result; items = c.number_at-3.result; pages = c.number_at-4.result; log_bytes = c.number_at-5.result } ≡ format
read c format are is =
    sizes_read c.args.bytes.now format _ _ _ _ _ are is (c.in-Some.ensures.found.1 ∙ ap layout_of c.number_at.ensures)
    (c.is_unique.ensures ∙ ap (is_unique c.in-Some.layout) c.number_at-2.ensures) c.number_at-3.ensures c.number_at-4.ensures c.number_at-5.ensures

pub returns-then-not-are_valid-clause-only : goal.returns-then-not-are_valid-clause-only
returns-then-not-are_valid-clause-only c = λ format are is.
    let h = c.if-not-are_valid.ensures.1 (subst AreLimits (sym (read (goal.at.returns-then-not-are_valid-clause-only c).After-number_at-5 format are is)) are) in cc

pub returns-then-ne-2-clause-only : goal.returns-then-ne-2-clause-only
returns-then-ne-2-clause-only c = λ format are is.
    let same = read (goal.at.returns-then-ne-2-clause-only c).After-number_at-5 format are is in
    let e : c.spell_superblock.new.out ≡ c.args.bytes.now = c.spell_superblock.ensures ∙ (ap superblock same ∙ sym is) in
    search rules

pub returns-clause-only : goal.returns-clause-only
returns-clause-only c = λ format are is. ap Ok (read (goal.at.returns-clause-only c).After-number_at-5 format are is)
