-- The acts of a store, and its pages after a number of them.
use Rattle.std.specs.Prelude.{ℕ, List, [], ◌∷◌, ◌++◌, length, take}
use Rattle.index_model.specs.declared.format.Format.{Format}
use Rattle.page_codec.specs.declared.page.Page.{Page}
use Rattle.page_action.specs.States.{with_pages}
use Rattle.page_action.specs.Stored.{AreActable}
use Rattle.page_store.specs.declared.history.History.{History}

-- the history that began with this page too
abbrev pub with_read : Page → History → History
with_read page h = record h { start = h.start ++ page ∷ []; acts = [] }

-- with one act more, which changes these pages
abbrev pub with_act : List Page → History → History
with_act changed h = record h { acts = h.acts ++ changed ∷ [] }

-- the pages with each of these acts, one after the other
abbrev pub after_acts : List Page → List (List Page) → List Page
after_acts pages [] = pages
after_acts pages (changed ∷ acts) = after_acts (with_pages pages changed) acts

-- the pages after the first `part` acts of a history
abbrev pub pages_after : History → ℕ → List Page
pages_after h part = after_acts h.start (take part h.acts)

-- the pages after all acts
abbrev pub pages_now : History → List Page
pages_now h = after_acts h.start h.acts

-- each of these acts could be done on the pages that those before it leave
abbrev pub AreActs : Format → List Page → List (List Page) → Type 0
AreActs format pages [] = Unit {0}
AreActs format pages (changed ∷ acts) =
    AreActable format (length pages) changed × AreActs format (with_pages pages changed) acts
