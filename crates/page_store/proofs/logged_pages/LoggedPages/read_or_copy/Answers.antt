use Rattle.std.proofs.Common.{◌≡◌, Result, Ok, Err, ℕ, ap, sym, ◌∙◌, arith}
use Rattle.page_store.proofs.Imports.{OnErr, slice_get_within, Fault, Io, PageDamaged, pages_now}
use Rattle.page_store.proofs.Quieting.{quiet_both}
use Rattle.page_store.proofs.logged_pages.LoggedPages.read_or_copy.Goals as goal

-- what is damaged is no failed call
not_io : {T : Type 0} (r : Result T Fault) (e : Fault) (b : ℕ) → r ≡ Err e → e ≡ PageDamaged b → OnErr r (r ≡ Err Io) → ⊥
not_io (Ok x) e b is damaged io = (let no : Ok x ≡ Err e = is in cc)
not_io (Err f) e b is damaged io = (let both : Err (PageDamaged b) ≡ Err Io = ap Err (sym damaged) ∙ (sym is ∙ io) in cc)

pub returns-then-page-self-clause-right : goal.returns-then-page-self-clause-right
returns-then-page-self-clause-right g c honest there found =
    let held = c.args.self.now in
    absurd (omega (arith, slice_get_within (pages_now held.history.value) c.args.page.now.block there found, held.used_is, c.if-page-self.true))

pub returns-in-Err-PageDamaged-clause-quiet : goal.returns-in-Err-PageDamaged-clause-quiet
returns-in-Err-PageDamaged-clause-quiet g c =
    quiet_both g.D.Device c.args.self.now c.read.new.self c.copy-in-Err-PageDamaged.new.self c.read.ensures.quiet c.copy-in-Err-PageDamaged.ensures.quiet

pub returns-in-Err-PageDamaged-clause-right : goal.returns-in-Err-PageDamaged-clause-right
returns-in-Err-PageDamaged-clause-right g c honest there found =
    absurd (not_io c.read.result _ c.in-Err-PageDamaged.field-0-0 c.in-Err-PageDamaged.is c.in-Err-PageDamaged.field-0-is
    (c.read.ensures.honest (sym (ap g.D.Device.is_honest c.copy-in-Err-PageDamaged.ensures.device) ∙ honest)))
