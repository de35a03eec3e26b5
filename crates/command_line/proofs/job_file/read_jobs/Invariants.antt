use Rattle.std.proofs.Common.{◌≡◌, ◌++◌, List, length}
use Rattle.std.specs.Prelude.{map}
use Rattle.command_line.specs.JobFiles.{all_bulk_words, set_words}
use Rattle.command_line.proofs.job_file.read_jobs.Given as goal
use Rattle.command_line.proofs.Imports.{vec_len, sets_after, lines_of, Job}
use Rattle.command_line.proofs.JobsRead.{AreReadSoFar}

abbrev pub decreases-loop-rest : goal.decreases-loop-rest
decreases-loop-rest l = length l.rest

abbrev pub invariant-loop-rest : goal.invariant-loop-rest
invariant-loop-rest l = record {
  read : AreReadSoFar (lines_of l.text) (lines_of l.rest) l.set l.jobs.items;
  later : (more : List Job) → sets_after l.set more ≡ sets_after 0 (l.jobs.items ++ more);
  sets : vec_len l.sets ≡ l.set;
  named : map set_words l.sets.items ++ all_bulk_words (lines_of l.rest) ≡ all_bulk_words (lines_of l.text);
}
