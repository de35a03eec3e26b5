use Rattle.std.proofs.Common.{◌≡◌, ◌<◌, ℕ, length}
use Rattle.amcheck.proofs.Imports.{index_of, IsClearAt, AreMarked}
use Rattle.amcheck.proofs.parent_damages.find_parent_damage.Given as goal

abbrev pub invariant-loop-place : goal.invariant-loop-place
invariant-loop-place l = record {
  size : length l.linked ≡ length l.pages;
  clear : (k : ℕ) → k < l.place → IsClearAt (index_of l.pages) l.stops k;
  marked : AreMarked (index_of l.pages) l.stops l.place l.linked;
}
