-- Two checks of the same pages answer alike.
use Rattle.std.proofs.Common.{◌≡◌, ℕ, suc, inl, inr, true, Ok, Err, Option, Some, List, sym, ap, ◌∙◌}
use Rattle.damages.specs.Laws.{FirstIsOne, FirstIsNone}
use Rattle.amcheck.specs.Laws.{AnswersAreOne, ParentsSeeMore}
use Rattle.amcheck.specs.declared.report.CheckFault.TheVariants.{Damage, Refused}
use Rattle.amcheck.proofs.Imports.{Page, IsReport, report_of, Report}
use Rattle.amcheck.proofs.ParentDamages.{with_parents}

some_page : (o : Option Page) (p q : Page) → o ≡ Some p → o ≡ Some q → p ≡ q
some_page o p q e f = cc

-- pages have one report
same_report : (pages : List Page) (r s : Report) → IsReport pages r → IsReport pages s → r ≡ s
same_report pages r s a b = a.is ∙ ap (λ (p : Page). report_of (suc p.level) pages) (some_page _ a.meta b.meta a.meta_at b.meta_at) ∙ sym b.is

same_damage : (n m b c : ℕ) → n ≡ m → b ≡ c → Damage n b ≡ Damage m c
same_damage n m b c e f = λ i. Damage (e i) (f i)

pub answers_are_one : FirstIsOne → FirstIsNone → AnswersAreOne
answers_are_one one none parents keys pages (Ok r) (Ok s) a b _ _ = ap Ok (same_report pages r s a.1 b.1)
answers_are_one one none parents keys pages (Ok r) (Err (Damage n b)) a d _ _ = absurd (none parents keys pages n b a.0 d)
answers_are_one one none parents keys pages (Ok r) (Err (Refused f)) a d _ not = absurd not
answers_are_one one none parents keys pages (Err (Damage n b)) (Ok r) d a _ _ = absurd (none parents keys pages n b a.0 d)
answers_are_one one none parents keys pages (Err (Damage n b)) (Err (Damage m c)) d e _ _ = (let same = one parents keys pages n b m c d e in ap Err (same_damage n m b c same.0 same.1))
answers_are_one one none parents keys pages (Err (Damage n b)) (Err (Refused f)) d e _ not = absurd not
answers_are_one one none parents keys pages (Err (Refused f)) other d e not _ = absurd not

pub parents_see_more : FirstIsOne → FirstIsNone → ParentsSeeMore
parents_see_more one none keys pages (Ok r) (Ok s) a b _ _ = inl (ap Ok (same_report pages r s a.1 b.1))
parents_see_more one none keys pages (Ok r) (Err (Damage n b)) a d _ _ = inr (λ not. not, tt)
parents_see_more one none keys pages (Ok r) (Err (Refused f)) a d _ not = absurd not
parents_see_more one none keys pages (Err (Damage n b)) other d e p q = inl (answers_are_one one none true keys pages (Err (Damage n b)) other (with_parents keys pages n b d) e p q)
parents_see_more one none keys pages (Err (Refused f)) other d e not _ = absurd not
