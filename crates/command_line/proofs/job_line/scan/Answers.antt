use Rattle.std.proofs.Common.{◌≡◌, ◌∷◌, [], List, ℕ, Some, Result, Ok}
use Rattle.std.specs.Fmt.{decimal}
use Rattle.index_model.specs.declared.range.Range.{Range}
use Rattle.command_line.specs.declared.job_line.JobLine.TheVariants.{Scan}
use Rattle.command_line.proofs.job_line.scan.Goals as goal

ok_same : {T E : Type 0} (read : Result T E) (x y : T) → Some read ≡ Some (Ok y) → read ≡ Ok x → x ≡ y
ok_same read x y told is = cc

last_word : (words new : List (List ℕ)) (word x : List ℕ) → words ≡ word ∷ new → words ≡ x ∷ [] → (word ≡ x) × (new ≡ [])
last_word words new word x is told = (cc, cc)

same_scan : (a b : Range) (m n : ℕ) → a ≡ b → Some m ≡ Some n → Some (Scan a m) ≡ Some (Scan b n)
same_scan a b m n ranges rooms = cc

pub returns-clause-only : goal.returns-clause-only
returns-clause-only c = λ range room keys is spelled.
    let read = c.in_ok-range.ensures.only range (decimal room ∷ []) keys spelled in
    let last = last_word c.range.new.words c.next.new.self c.in_ok-next.field-0.now (decimal room) c.in_ok-next.ensures read.1 in
    (same_scan c.in-Ok.range range c.in_ok-room.room room (ok_same c.in_ok-range.field-0 c.in-Ok.range range read.0 c.in-Ok.is) (c.in_ok-room.ensures.only room is last.0), last.1)
