use Rattle.std.proofs.Common.{refl, sym, ◌∙◌, ap, append-nil, ◌≡◌, Some, [], ℕ, List, rules, subst}
use Rattle.command_line.specs.Script.{AreRefused, line_words}
use Rattle.command_line.proofs.Scripts.{spells_by_words}
use Rattle.command_line.proofs.line.parse.Goals as goal

pub returns-in-Ok-clause-ok : goal.returns-in-Ok-clause-ok
returns-in-Ok-clause-ok c =
    let spelled = c.event.ensures.ok c.in-Ok.line (c.in-Some.is ∙ ap Some c.in-Ok.is) in
    let ended : c.event.new.words ≡ [] = c.have_ended.ensures.0 c.if-not-have_ended.false in
    spells_by_words c.args.text.now c.in-Ok.line
    (sym c.new-words.ensures ∙ spelled ∙ rw (ended, append-nil (line_words c.in-Ok.line)) refl)

pub returns-in_default-clause-only_refused : goal.returns-in_default-clause-only_refused
returns-in_default-clause-only_refused c = λ fault fails.
    let told = c.event.ensures.only_refused fault (subst (λ (ws : List (List ℕ)). AreRefused fault ws) (sym c.new-words.ensures) fails) in
    search (rules, told.0, told.1)

pub returns-then-not-have_ended-clause-only_refused : goal.returns-then-not-have_ended-clause-only_refused
returns-then-not-have_ended-clause-only_refused c = λ fault fails.
    let told = c.event.ensures.only_refused fault (subst (λ (ws : List (List ℕ)). AreRefused fault ws) (sym c.new-words.ensures) fails) in
    search (rules, told.0, told.1)

pub returns-in-Ok-clause-only_refused : goal.returns-in-Ok-clause-only_refused
returns-in-Ok-clause-only_refused c = λ fault fails.
    let told = c.event.ensures.only_refused fault (subst (λ (ws : List (List ℕ)). AreRefused fault ws) (sym c.new-words.ensures) fails) in
    search (rules, told.0, told.1)

pub returns-in-Err-clause-only_refused : goal.returns-in-Err-clause-only_refused
returns-in-Err-clause-only_refused c = λ fault fails.
    let told = c.event.ensures.only_refused fault (subst (λ (ws : List (List ℕ)). AreRefused fault ws) (sym c.new-words.ensures) fails) in
    search (rules, told.0, told.1)
