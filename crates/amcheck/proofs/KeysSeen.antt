-- What parents and children come to if keys are seen too: they have nothing to do with keys.
use Rattle.std.proofs.Common.{◌≡◌, ℕ, Bool, true, false, List, Result, Ok, Err, IfOk, IfErr, OnOk, OnErr, sym, subst, ◌∙◌}
use Rattle.tree_acts.specs.TheoremKeys.{IsTreeFor}
use Rattle.tree_acts.proofs.Keyed.{keyed_shows}
use Rattle.damages.specs.Levels.{HasLevels, HasUniqueLevels}
use Rattle.amcheck.specs.Sound.{HasLevelsFor, IsSoundTree}
use Rattle.amcheck.proofs.Imports.{Page, State, Backing, AreStored, AreUnique, IsTree, index_of, Site, IsDamage, IsSound, IsFirstDamage, ComesBefore, rank, on_way, on_chain, at_child, at_page}
use Rattle.amcheck.proofs.Imports.{nowhere, more, IsCheckFault, CheckFault, Damaged, Damage, Report}

module _ (keys : Bool) (pages : List Page) (sound : IsSound false keys pages) where
  -- if the chains are right
  pub sound_both : IsSound true false pages → IsSound true keys pages
  sound_both all (on_way depth step deep) number damage = sound (on_way depth step deep) number damage
  sound_both all (on_chain h) number damage = sound (on_chain h) number damage
  sound_both all (at_child h i) number damage = all (at_child h i) number damage
  sound_both all (at_page h) number damage = all (at_page h) number damage
  sound_both all (nowhere b) number damage = all (nowhere b) number damage

  pub first_both : (number block : ℕ) → IsFirstDamage true false pages number block → IsFirstDamage true keys pages number block
  first_both number block f = record { site = f.site; is = more true keys f.site number f.is; block_is = f.block_is; first = later }
    where
      later : (other : Site (index_of pages)) (n : ℕ) → IsDamage true keys other n → ComesBefore (rank other n) (rank f.site number) → ⊥
      later (on_way depth step deep) n damage before = sound (on_way depth step deep) n damage
      later (on_chain h) n damage before = sound (on_chain h) n damage
      later (at_child h i) n damage before = f.first (at_child h i) n damage before
      later (at_page h) n damage before = f.first (at_page h) n damage before
      later (nowhere b) n damage before = f.first (nowhere b) n damage before

-- what follows if keys are seen
pub unique_where : {P : Type 0} (parents keys : Bool) (pages : List Page) → (IsSound parents true pages → P) → IsSound parents keys pages → keys ≡ true → P
unique_where parents true pages follows sound seen = follows sound
unique_where parents false pages follows sound seen = absurd cc

abbrev ReportOrFault : Type 0
ReportOrFault = Result Report CheckFault

-- what is told of the judgement of pages that were read, in the words of the store
module _ (st : State) (pages : List Page) (keys : Bool) (keys_are : keys ≡ st.format.unique) (stored : AreStored st.format 0 pages) where
  levels_pages : (HasLevels pages) → (keys ≡ true → HasUniqueLevels pages) → HasLevelsFor st.format pages
  levels_pages levels unique = (levels, λ seen. unique (keys_are ∙ seen))

  tree_pages : IsTree pages → (keys ≡ true → AreUnique pages) → IsTreeFor st.format pages
  tree_pages tree unique = (tree, λ seen. (keyed_shows st.format pages tree stored).0 (unique (keys_are ∙ seen)))

  sound_pages : IsTreeFor st.format pages → IsSoundTree keys pages
  sound_pages tree = record { tree = tree.0; unique = λ seen. (keyed_shows st.format pages tree.0 stored).1 (tree.1 (sym keys_are ∙ seen)) }

  module _ (same : pages ≡ st.pages) (judged : Result Report Damage) (result : ReportOrFault) (ok : IfOk judged (λ report. result ≡ Ok report))
      (err : IfErr judged (λ d. result ≡ Err (Damaged d.number d.block))) where
    pub levels_told : OnOk judged (HasLevels pages) → (keys ≡ true → OnOk judged (HasUniqueLevels pages)) → OnOk result (HasLevelsFor st.format st.pages)
    levels_told levels unique = subst (λ (ps : List Page). OnOk result (HasLevelsFor st.format ps)) same (by judged ok err levels unique)
      where
        by : (judged : Result Report Damage) → IfOk judged (λ report. result ≡ Ok report) → IfErr judged (λ d. result ≡ Err (Damaged d.number d.block)) → OnOk judged (HasLevels pages)
            → (keys ≡ true → OnOk judged (HasUniqueLevels pages)) → OnOk result (HasLevelsFor st.format pages)
        by (Ok report) ok err levels unique = subst (λ (r : ReportOrFault). OnOk r (HasLevelsFor st.format pages)) (sym ok) (levels_pages levels unique)
        by (Err d) ok err levels unique = subst (λ (r : ReportOrFault). OnOk r (HasLevelsFor st.format pages)) (sym err) tt

    pub tree_told : OnOk judged (IsTree pages) → (keys ≡ true → OnOk judged (AreUnique pages)) → OnOk result (IsTreeFor st.format st.pages)
    tree_told tree unique = subst (λ (ps : List Page). OnOk result (IsTreeFor st.format ps)) same (by judged ok err tree unique)
      where
        by : (judged : Result Report Damage) → IfOk judged (λ report. result ≡ Ok report) → IfErr judged (λ d. result ≡ Err (Damaged d.number d.block)) → OnOk judged (IsTree pages)
            → (keys ≡ true → OnOk judged (AreUnique pages)) → OnOk result (IsTreeFor st.format pages)
        by (Ok report) ok err tree unique = subst (λ (r : ReportOrFault). OnOk r (IsTreeFor st.format pages)) (sym ok) (tree_pages tree unique)
        by (Err d) ok err tree unique = subst (λ (r : ReportOrFault). OnOk r (IsTreeFor st.format pages)) (sym err) tt

  pub fault_told : (was now : Backing) → (now.honest ≡ true → pages ≡ st.pages) → (judged : Result Report Damage) (result : ReportOrFault) → IfOk judged (λ report. result ≡ Ok report)
      → IfErr judged (λ d. result ≡ Err (Damaged d.number d.block)) → OnErr judged (IsSoundTree keys pages → ⊥) → IfErr result (IsCheckFault st was now (IsTreeFor st.format st.pages))
  fault_told was now same (Ok report) result ok err damaged = subst (λ (r : ReportOrFault). IfErr r (IsCheckFault st was now (IsTreeFor st.format st.pages))) (sym ok) tt
  fault_told was now same (Err d) result ok err damaged =
      subst (λ (r : ReportOrFault). IfErr r (IsCheckFault st was now (IsTreeFor st.format st.pages))) (sym err)
      (λ honest tree. damaged (sound_pages (subst (IsTreeFor st.format) (sym (same honest)) tree)))
