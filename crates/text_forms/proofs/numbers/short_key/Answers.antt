use Rattle.std.proofs.Common.{◌≡◌, arith, length, ap, sym, ◌∙◌, refl}
use Rattle.std.proofs.lemmas.Bool.{true≢false}
use Rattle.hex.specs.Hex.{encode_lower}
use Rattle.text_forms.proofs.Keys.{length-encode_lower, room_of_key}
use Rattle.text_forms.proofs.numbers.short_key.Goals as goal

pub returns-then-count-eq0-clause-only : goal.returns-then-count-eq0-clause-only
returns-then-count-eq0-clause-only c = λ key bytes some spelled.
    let long : length c.args.text.now ≡ length (encode_lower key) = ap length spelled in
    absurd (omega (arith, long, length-encode_lower key, some, c.if-count-eq0.true))

pub returns-then-not-decode-clause-only : goal.returns-then-not-decode-clause-only
returns-then-not-decode-clause-only c = λ key bytes some spelled.
    let read = c.decode.ensures.only key bytes (room_of_key key c.args.text.now _ c.requires spelled refl) spelled in
    absurd (true≢false (sym read.0 ∙ c.if-not-decode.true))

pub returns-in-Ok-clause-only : goal.returns-in-Ok-clause-only
returns-in-Ok-clause-only c = λ key bytes some spelled.
    let read = c.decode.ensures.only key bytes (room_of_key key c.args.text.now _ c.requires spelled refl) spelled in
    rw (c.in-Ok.ensures.0, read.1) refl
