use Rattle.std.proofs.Common.{◌≡◌, ℕ, ◌+◌, List, [], ◌∷◌, ◌++◌, length, ap, subst, arith, vec_len, Option, IfSome}
use Rattle.page_store.specs.contracts.store.StorePageStore.TheImpl as store
use Rattle.ledger_lines.proofs.Imports.{◌≢◌, take_through, lines_of}
use Rattle.ledger_lines.specs.contracts.dead.DeadDeadRows.TheImpl as dead
use Rattle.ledger_lines.proofs.Ending.{on_err}
use Rattle.ledger_lines.proofs.Answered.{answer_begun, answered_more, answered_some}
use Rattle.ledger_lines.proofs.session.answer_lines.Goals as goal

-- what was read into an empty line
read_alone : (left : Option (List ℕ)) (cleared line : List ℕ) → cleared ≡ [] → IfSome left (λ bytes. line ≡ cleared ++ take_through 10 bytes) → IfSome left (λ bytes. line ≡ take_through 10 bytes)
read_alone left cleared line is h = subst (λ (before : List ℕ). IfSome left (λ bytes. line ≡ before ++ take_through 10 bytes)) is h

pub loop-preserved : goal.loop-preserved
loop-preserved g c =
    let line = c.read_until.new.buf.items in
    let text = c.first_line.result.0.now in
    let rest = c.first_line.result.1.now in
    let left = g.R.Read.remaining c.loop.input in
    let grown : vec_len c.read_until.new.buf ≡ vec_len c.clear.new.self + c.in_ok-read_until.field-0 = c.in_ok-read_until.ensures.ok in
    let some : line ≢ [] = λ none. omega (arith, grown, c.clear.ensures.len, c.if-branch-eq0.false, c.read_until.new.buf.ok.0, ap length none) in
    let parts : line ≢ [] → lines_of line ≡ text ∷ lines_of rest =
    subst (λ (t : List ℕ). t ≢ [] → lines_of t ≡ text ∷ lines_of rest) c.as_slice.ensures.value c.first_line.ensures.parts in
    answered_more g.D.Device (store.ghosts g.row.D g.D.Device g.D.Device-dict) dead.ghosts.is_in
    text line rest (g.R.Read.remaining c.args.input.now) left (g.R.Read.remaining c.read_until.new.self)
    c.args.index.now c.loop.index c.answer.new.index
    (g.W.Write.contents c.args.out.now) (g.W.Write.contents c.loop.out) (g.W.Write.contents c.answer.new.out) (g.W.Write.contents c.flush.new.self)
    c.loop.invariant (read_alone left c.clear.new.self.items line c.clear.ensures.items c.in_ok-read_until.ensures.bytes) c.in_ok-read_until.ensures.rest some (parts some)
    c.in_ok-answer.ensures.all c.flush.ensures.bytes

pub returns-in_err-read_until-clause-first : goal.returns-in_err-read_until-clause-first
returns-in_err-read_until-clause-first g c =
    on_err _ (answered_some g.D.Device (store.ghosts g.row.D g.D.Device g.D.Device-dict) dead.ghosts.is_in
    (g.R.Read.remaining c.args.input.now) (g.R.Read.remaining c.loop.input) c.args.index.now c.loop.index (g.W.Write.contents c.args.out.now) (g.W.Write.contents c.loop.out)
    c.loop.invariant)

pub returns-clause-first : goal.returns-clause-first
returns-clause-first g c =
    answered_some g.D.Device (store.ghosts g.row.D g.D.Device g.D.Device-dict) dead.ghosts.is_in
    (g.R.Read.remaining c.args.input.now) (g.R.Read.remaining c.loop.input) c.args.index.now c.loop.index (g.W.Write.contents c.args.out.now) (g.W.Write.contents c.loop.out)
    c.loop.invariant

pub returns-in_err-answer-clause-first : goal.returns-in_err-answer-clause-first
returns-in_err-answer-clause-first g c =
    let line = c.read_until.new.buf.items in
    let text = c.first_line.result.0.now in
    let rest = c.first_line.result.1.now in
    let left = g.R.Read.remaining c.loop.input in
    let grown : vec_len c.read_until.new.buf ≡ vec_len c.clear.new.self + c.in_ok-read_until.field-0 = c.in_ok-read_until.ensures.ok in
    let some : line ≢ [] = λ none. omega (arith, grown, c.clear.ensures.len, c.if-branch-eq0.false, c.read_until.new.buf.ok.0, ap length none) in
    let parts : line ≢ [] → lines_of line ≡ text ∷ lines_of rest =
    subst (λ (t : List ℕ). t ≢ [] → lines_of t ≡ text ∷ lines_of rest) c.as_slice.ensures.value c.first_line.ensures.parts in
    on_err _ (answer_begun g.D.Device (store.ghosts g.row.D g.D.Device g.D.Device-dict) dead.ghosts.is_in
    text line rest (g.R.Read.remaining c.args.input.now) left (g.R.Read.remaining c.read_until.new.self)
    c.args.index.now c.loop.index c.answer.new.index
    (g.W.Write.contents c.args.out.now) (g.W.Write.contents c.loop.out) (g.W.Write.contents c.answer.new.out)
    c.loop.invariant (read_alone left c.clear.new.self.items line c.clear.ensures.items c.in_ok-read_until.ensures.bytes) c.in_ok-read_until.ensures.rest some (parts some)
    c.in_err-answer.ensures.first)

pub returns-in_err-flush-clause-first : goal.returns-in_err-flush-clause-first
returns-in_err-flush-clause-first g c =
    let line = c.read_until.new.buf.items in
    let text = c.first_line.result.0.now in
    let rest = c.first_line.result.1.now in
    let left = g.R.Read.remaining c.loop.input in
    let grown : vec_len c.read_until.new.buf ≡ vec_len c.clear.new.self + c.in_ok-read_until.field-0 = c.in_ok-read_until.ensures.ok in
    let some : line ≢ [] = λ none. omega (arith, grown, c.clear.ensures.len, c.if-branch-eq0.false, c.read_until.new.buf.ok.0, ap length none) in
    let parts : line ≢ [] → lines_of line ≡ text ∷ lines_of rest =
    subst (λ (t : List ℕ). t ≢ [] → lines_of t ≡ text ∷ lines_of rest) c.as_slice.ensures.value c.first_line.ensures.parts in
    on_err _ (answered_some g.D.Device (store.ghosts g.row.D g.D.Device g.D.Device-dict) dead.ghosts.is_in
    (g.R.Read.remaining c.args.input.now) (g.R.Read.remaining c.read_until.new.self) c.args.index.now c.answer.new.index (g.W.Write.contents c.args.out.now) (g.W.Write.contents c.flush.new.self)
    (answered_more g.D.Device (store.ghosts g.row.D g.D.Device g.D.Device-dict) dead.ghosts.is_in
    text line rest (g.R.Read.remaining c.args.input.now) left (g.R.Read.remaining c.read_until.new.self)
    c.args.index.now c.loop.index c.answer.new.index
    (g.W.Write.contents c.args.out.now) (g.W.Write.contents c.loop.out) (g.W.Write.contents c.answer.new.out) (g.W.Write.contents c.flush.new.self)
    c.loop.invariant (read_alone left c.clear.new.self.items line c.clear.ensures.items c.in_ok-read_until.ensures.bytes) c.in_ok-read_until.ensures.rest some (parts some)
    c.in_ok-answer.ensures.all c.flush.ensures.bytes))
