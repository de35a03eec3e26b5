use Rattle.std.proofs.Common.{◌≡◌, arith, length, ap, sym, ◌∙◌, [], refl}
use Rattle.text_forms.specs.Spelling.{key_text}
use Rattle.text_forms.proofs.Keys.{dash_key, length-key_text-le}
use Rattle.text_forms.proofs.numbers.key.Goals as goal

pub returns-then-is_dash-clause-only : goal.returns-then-is_dash-clause-only
returns-then-is_dash-clause-only c = λ key bytes short spelled.
    let empty : key ≡ [] = dash_key key (sym (c.is_dash.ensures.0 c.if-is_dash.true) ∙ spelled) in
    rw empty refl

pub returns-then-text-gt128-clause-only : goal.returns-then-text-gt128-clause-only
returns-then-text-gt128-clause-only c = λ key bytes short spelled.
    let long : length c.args.text.now ≡ length (key_text key) = ap length spelled in
    absurd (omega (arith, long, length-key_text-le key short, c.if-text-gt128.true))
