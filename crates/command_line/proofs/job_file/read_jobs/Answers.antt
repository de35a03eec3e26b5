use Rattle.std.proofs.Common.{ℕ, List, ◌≡◌, ◌∷◌, ◌++◌, ◌+◌, [], ◌∙◌, ap, sym, append-nil, length, refl, rules}
use Rattle.std.specs.Prelude.{map}
use Rattle.command_line.specs.JobFiles.{all_bulk_words, set_words}
use Rattle.command_line.proofs.Imports.{Err, Result, none-some, SpellsJob, sets_with, sets_after, lines_of}
use Rattle.command_line.specs.declared.job_file.JobFileError.{JobFileError}
use Rattle.command_line.specs.declared.job_file.JobFileError.TheVariants.{NotAJob}
use Rattle.command_line.proofs.JobsRead.{none_read, read_on, after_on, all_read, first_no_job, spells_none, named_on, none_left, some_left}
use Rattle.command_line.proofs.job_file.read_jobs.Goals as goal

same_place : {T : Type 0} (read : Result T JobFileError) (m n : ℕ) → read ≡ Err (NotAJob m) → read ≡ Err (NotAJob n) → m ≡ n
same_place read m n is told = cc

pub loop-rest-init : goal.loop-rest-init
loop-rest-init c = record {
  read = none_read (lines_of c.args.text.now) _ (search rules);
  later = search rules;
  sets = search rules;
  named = search rules;
}

pub loop-rest-preserved : goal.loop-rest-preserved
loop-rest-preserved c =
    let old = c.loop-rest.invariant in
    let spells : SpellsJob c.loop-rest.set c.first_line.result.0.now c.job_of-job.result = record {
      line = c.in-Some.line;
      words = c.in-Some.ensures.words;
      values = c.in-Some.ensures.valid;
      is = c.job_of-job.ensures;
    } in
    let here = lines_of c.loop-rest.rest.now in
    let all = lines_of c.args.text.now in
    let lines = lines_of c.first_line.result.1.now in
    let line = c.first_line.result.0.now in
    let jobs = c.loop-rest.jobs.items in
    let first : here ≡ line ∷ lines =
    c.first_line.ensures.parts (some_left c.loop-rest.rest.now c.loop-rest-test.ensures) in
    let pushed : c.push.new.self.items ≡ jobs ++ c.job_of-job.result ∷ [] = c.in-Ok.ensures.items in
    let counted : c.in_ok-set.set ≡ sets_with c.loop-rest.set c.job_of-job.result =
    c.in_ok-set.ensures.count ∙ ap (sets_with c.loop-rest.set) (sym c.job_of-job.ensures) in
    record {
      read = rw (counted, pushed) (read_on all here lines line c.loop-rest.set jobs c.job_of-job.result first spells old.read);
      later = λ more. rw (counted, pushed) (after_on c.loop-rest.set jobs c.job_of-job.result old.later more);
      sets = c.in_ok-set.ensures.sets old.sets;
      named = named_on all here lines line c.in-Some.line (map set_words c.loop-rest.sets.items) _ first c.in-Some.ensures.words
          old.named (c.in_ok-set.ensures.sets_are c.in-Some.ensures.valid);
    }

pub returns-clause-jobs : goal.returns-clause-jobs
returns-clause-jobs c =
    all_read (lines_of c.args.text.now) (lines_of c.loop-rest.rest.now) c.loop-rest.set c.loop-rest.jobs.items
    (ap (λ (text : List ℕ). lines_of text) (none_left c.loop-rest.rest.now c.loop-rest-test.ensures)) c.loop-rest.invariant.read

pub returns-clause-sets : goal.returns-clause-sets
returns-clause-sets c =
    c.loop-rest.invariant.sets ∙ c.loop-rest.invariant.later [] ∙ ap (sets_after 0) (append-nil c.loop-rest.jobs.items)

pub returns-clause-sets_are : goal.returns-clause-sets_are
returns-clause-sets_are c =
    let sets = map set_words c.loop-rest.sets.items in
    sym (append-nil sets) ∙ ap (λ (text : List ℕ). sets ++ all_bulk_words (lines_of text)) (sym (none_left c.loop-rest.rest.now c.loop-rest-test.ensures)) ∙ c.loop-rest.invariant.named

pub returns-in_default-clause-not_a_job : goal.returns-in_default-clause-not_a_job
returns-in_default-clause-not_a_job c = λ n is.
    let line = c.first_line.result.0.now in
    let place : n ≡ length c.loop-rest.jobs.items + 1 =
    sym (same_place _ (c.len.result + 1) n refl is) ∙ ap (λ (m : ℕ). m + 1) (c.len.ensures ∙ c.loop-rest.jobs.ok.0) in
    let first : lines_of c.loop-rest.rest.now ≡ line ∷ lines_of c.first_line.result.1.now =
    c.first_line.ensures.parts (some_left c.loop-rest.rest.now c.loop-rest-test.ensures) in
    first_no_job (lines_of c.args.text.now) (lines_of c.loop-rest.rest.now) (lines_of c.first_line.result.1.now) line c.loop-rest.set n c.loop-rest.jobs.items first place
    (spells_none line (λ read values words. none-some read (c.in_default.ensures.only read values words))) c.loop-rest.invariant.read
