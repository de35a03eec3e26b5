use Rattle.std.proofs.Common.{◌≡◌, ◌↔◌, ℕ, ◌<◌, true, false, get_or, slice_set, List, ◌∷◌, [], ◌++◌, arith, subst, sym, ◌∙◌}
use Rattle.amcheck.proofs.Imports.{length-set, IsIn, AreDistinct, few_blocks}
use Rattle.amcheck.proofs.Blocks.{distinct_more, inside_more, marked_more}
use Rattle.amcheck.proofs.marks.Met.add.Goals as goal

pub push_reserved-requires : goal.push_reserved-requires
push_reserved-requires c =
    let few = few_blocks c.args.used c.args.self.now.blocks.items (omega (arith, c.requires.in_use)) c.requires.met.distinct c.requires.met.in_use in
    omega (arith, few, c.requires.met.room)

pub returns-clause-met : goal.returns-clause-met
returns-clause-met c =
    let old = c.requires.met in
    let xs = c.args.self.now.blocks.items in
    let items : c.push_reserved.new.self.items ≡ xs ++ c.args.block ∷ [] = c.push_reserved.ensures.items in
    record {
      size = length-set c.args.self.now.marks.items c.args.block _ ∙ old.size;
      room = omega (arith, old.room, c.push_reserved.ensures.capacity);
      distinct = subst AreDistinct (sym items) (distinct_more xs c.args.block old.distinct c.requires.unmet);
      in_use = λ b i. inside_more (λ n. (0 < n) × (n < c.args.used)) xs c.args.block old.in_use (c.requires.after_meta, c.requires.in_use) b (subst (IsIn b) items i);
      marked = λ b. subst (λ (l : List ℕ). (get_or (slice_set c.args.self.now.marks.items c.args.block true) b false ≡ true) ↔ IsIn b l) (sym items)
          (marked_more c.args.self.now.marks.items xs c.args.block (omega (arith, c.requires.in_use, old.size)) old.marked b);
    }
