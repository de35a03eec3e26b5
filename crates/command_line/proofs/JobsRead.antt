-- Lines that are read one after the other.
use Rattle.std.proofs.Common.{◌≡◌, ◌∷◌, [], ◌++◌, ◌+◌, ◌∙◌, ◌==◌, ℕ, true, false, List, length, length-append, append-nil, refl, ap, sym, subst, append_assoc, arith}
use Rattle.std.proofs.lemmas.Bool.{false≢true, eqb-true}
use Rattle.command_line.specs.JobFiles.{HasJobValues, IsFirstNoJob, SpellsNoJob, all_bulk_words, bulk_words, job_words}
use Rattle.command_line.specs.declared.job_line.JobLine.{JobLine}
use Rattle.command_line.proofs.Imports.{SpellsJob, SpellJobs, sets_with, sets_after, words_of, Job}

joined : {A : Type 0} (before : List A) (one : A) (more : List A) → before ++ (one ∷ more) ≡ (before ++ one ∷ []) ++ more
joined before one more = sym (append_assoc before (one ∷ []) more)

-- the lines before these were read, and spell these jobs, with so many sets
pub record AreReadSoFar (all here : List (List ℕ)) (set : ℕ) (jobs : List Job) : Type 0 where
  pub before : List (List ℕ)
  pub parts : all ≡ before ++ here
  pub counted : length before ≡ length jobs
  pub spelled : (lines : List (List ℕ)) (more : List Job) → SpellJobs set lines more → SpellJobs 0 (before ++ lines) (jobs ++ more)

pub none_read : (all : List (List ℕ)) (jobs : List Job) → jobs ≡ [] → AreReadSoFar all all 0 jobs
none_read all jobs none =
    subst (AreReadSoFar all all 0) (sym none) (record { before = []; parts = refl; counted = refl; spelled = λ lines more is. is })

-- a line more spells a job more
pub read_on : (all here lines : List (List ℕ)) (line : List ℕ) (set : ℕ) (jobs : List Job) (job : Job) → here ≡ line ∷ lines → SpellsJob set line job
    → AreReadSoFar all here set jobs → AreReadSoFar all lines (sets_with set job) (jobs ++ job ∷ [])
read_on all here lines line set jobs job first spells was = record {
  before = was.before ++ line ∷ [];
  parts = was.parts ∙ ap (λ (ls : List (List ℕ)). was.before ++ ls) first ∙ joined was.before line lines;
  counted = length-append was.before (line ∷ []) ∙ ap (λ (n : ℕ). n + 1) was.counted ∙ sym (length-append jobs (job ∷ []));
  spelled = λ more_lines more rest.
      let whole : SpellJobs set (line ∷ more_lines) (job ∷ more) = (spells, rest) in
      let here : SpellJobs 0 (was.before ++ (line ∷ more_lines)) ((jobs ++ job ∷ []) ++ more) =
      subst (SpellJobs 0 (was.before ++ (line ∷ more_lines))) (joined jobs job more) (was.spelled (line ∷ more_lines) (job ∷ more) whole) in
      subst (λ (ls : List (List ℕ)). SpellJobs 0 ls ((jobs ++ job ∷ []) ++ more)) (joined was.before line more_lines) here;
}

-- ... and so its set, if it has one, is counted
pub after_on : (set : ℕ) (jobs : List Job) (job : Job) → ((more : List Job) → sets_after set more ≡ sets_after 0 (jobs ++ more))
    → (more : List Job) → sets_after (sets_with set job) more ≡ sets_after 0 ((jobs ++ job ∷ []) ++ more)
after_on set jobs job was more = was (job ∷ more) ∙ ap (sets_after 0) (joined jobs job more)

-- the lines that were read spell the jobs
read_jobs : (all here : List (List ℕ)) (set : ℕ) (jobs : List Job) → (read : AreReadSoFar all here set jobs) → SpellJobs 0 read.before jobs
read_jobs all here set jobs read =
    subst (λ (ls : List (List ℕ)). SpellJobs 0 ls jobs) (append-nil read.before)
    (subst (SpellJobs 0 (read.before ++ [])) (append-nil jobs) (read.spelled [] [] (tt {0})))

pub all_read : (all here : List (List ℕ)) (set : ℕ) (jobs : List Job) → here ≡ [] → AreReadSoFar all here set jobs → SpellJobs 0 all jobs
all_read all here set jobs none read =
    subst (λ (ls : List (List ℕ)). SpellJobs 0 ls jobs)
    (sym (read.parts ∙ ap (λ (ls : List (List ℕ)). read.before ++ ls) none ∙ append-nil read.before)) (read_jobs all here set jobs read)

-- ... and the line after them spells none
pub first_no_job : (all here lines : List (List ℕ)) (line : List ℕ) (set n : ℕ) (jobs : List Job) → here ≡ line ∷ lines → n ≡ length jobs + 1 → SpellsNoJob line
    → AreReadSoFar all here set jobs → IsFirstNoJob n all
first_no_job all here lines line set n jobs first place none read = record {
  before = read.before;
  line = line;
  after = lines;
  jobs = jobs;
  parts = read.parts ∙ ap (λ (ls : List (List ℕ)). read.before ++ ls) first;
  place = place ∙ ap (λ (m : ℕ). m + 1) (sym read.counted);
  spelled = read_jobs all here set jobs read;
  none = none;
}

-- a line whose words are those of no line spells no job
pub spells_none : (text : List ℕ) → ((line : JobLine) → HasJobValues line → words_of text ≡ job_words line → ⊥) → SpellsNoJob text
spells_none text none = λ set job spells. none spells.line spells.values spells.words

-- the rows of a bulk delete are named after those of the ones before
pub named_on : (all here lines : List (List ℕ)) (line : List ℕ) (read : JobLine) (old new : List (List (List ℕ))) → here ≡ line ∷ lines → words_of line ≡ job_words read
    → old ++ all_bulk_words here ≡ all_bulk_words all → new ≡ old ++ bulk_words (job_words read) → new ++ all_bulk_words lines ≡ all_bulk_words all
named_on all here lines line read old new first words was now =
    ap (λ (ws : List (List (List ℕ))). ws ++ all_bulk_words lines) now
    ∙ append_assoc old (bulk_words (job_words read)) (all_bulk_words lines)
    ∙ ap (λ (ws : List (List ℕ)). old ++ (bulk_words ws ++ all_bulk_words lines)) (sym words)
    ∙ ap (λ (ls : List (List ℕ)). old ++ all_bulk_words ls) (sym first) ∙ was

-- a text of no byte, and one of some
pub none_left : (text : List ℕ) → true ≡ (length text == 0) → text ≡ []
none_left [] none = refl
none_left (byte ∷ text) none =
    let zero : length (byte ∷ text) ≡ 0 = eqb-true _ _ (sym none) in
    absurd (omega (arith, zero))

pub some_left : (text : List ℕ) → false ≡ (length text == 0) → text ≡ [] → ⊥
some_left [] some none = absurd (false≢true some)
some_left (byte ∷ text) some none = cc
