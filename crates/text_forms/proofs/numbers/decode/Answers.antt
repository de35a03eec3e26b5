use Rattle.std.proofs.Common.{sym, ◌∙◌, length}
use Rattle.text_forms.proofs.Keys.{decoded_key}
use Rattle.text_forms.proofs.numbers.decode.Goals as goal

pub returns-then-is_err-clause-only : goal.returns-then-is_err-clause-only
returns-then-is_err-clause-only c = λ key bytes fits spelled.
    let read = decoded_key c.args.text.now key c.decode_to_slice.new.out (length c.args.bytes.now) c.decode_to_slice.result c.decode_to_slice.ensures.value bytes fits spelled in
    (sym (rw read.0 at c.is_err.ensures.value) ∙ c.if-is_err.true, read.1)

pub returns-clause-only : goal.returns-clause-only
returns-clause-only c = λ key bytes fits spelled.
    let read = decoded_key c.args.text.now key c.decode_to_slice.new.out (length c.args.bytes.now) c.decode_to_slice.result c.decode_to_slice.ensures.value bytes fits spelled in
    (c.spells.ensures.1 (rw read.1 spelled), read.1)
