use Rattle.std.proofs.Common.{◌≡◌, ◌≤◌, ◌+◌, ◌*◌, length, drop}
use Rattle.amcheck.specs.Reports.{sum_of_all, count_entries_on, one_if_half_dead, one_if_deleted, one_if_incomplete}
use Rattle.amcheck.proofs.counts.count_up.Given as goal

abbrev pub invariant-loop-block : goal.invariant-loop-block
invariant-loop-block l = record {
  levels : l.report.levels ≡ l.fn.levels;
  pages : l.report.pages ≡ length l.pages;
  entries : l.report.entries + sum_of_all count_entries_on (drop l.block l.pages) ≡ sum_of_all count_entries_on l.pages;
  half_dead : l.report.half_dead + sum_of_all (λ p. one_if_half_dead p.state) (drop l.block l.pages) ≡ sum_of_all (λ p. one_if_half_dead p.state) l.pages;
  deleted : l.report.deleted + sum_of_all (λ p. one_if_deleted p.state) (drop l.block l.pages) ≡ sum_of_all (λ p. one_if_deleted p.state) l.pages;
  unfinished : l.report.unfinished + sum_of_all (λ p. one_if_incomplete p.split) (drop l.block l.pages) ≡ sum_of_all (λ p. one_if_incomplete p.split) l.pages;
  few_entries : l.report.entries ≤ 50 * l.block;
  few_half_dead : l.report.half_dead ≤ l.block;
  few_deleted : l.report.deleted ≤ l.block;
  few_unfinished : l.report.unfinished ≤ l.block;
}
