use Rattle.std.proofs.Common.{◌≡◌, ◌++◌, ℕ, ◌<◌, Option, Some, List, length, ◌≤◌, sym, ap, subst, ◌∙◌}
use Rattle.amcheck.proofs.Imports.{Page, HoldsSketch, links_at}
use Rattle.amcheck.proofs.Kept.{kept_more, inside_of}
use Rattle.amcheck.proofs.page_room.PageRoom.add.Goals as goal

pub returns-clause-room : goal.returns-clause-room
returns-clause-room c =
    let whole = c.keep_links-place.new.whole.items in
    let old = c.requires.room.kept in
    let new : HoldsSketch whole c.args.page.now c.sketch_of.result = record {
      is = c.sketch_of.ensures.is;
      entries = c.sketch_of.ensures.entries;
      few = c.sketch_of.ensures.few;
      links = ap (links_at whole) c.sketch_of.ensures.place ∙ c.keep_links-place.ensures.links;
      inside = subst (λ (o : Option ℕ). (place : ℕ) → o ≡ Some place → place < length whole) (sym c.sketch_of.ensures.place)
          (inside_of whole c.keep_links-place.result c.keep_links-place.ensures.inside);
    } in
    record {
      sketches = subst (λ (n : ℕ). c.args.used ≤ n) (sym c.push_reserved.ensures.capacity) c.requires.room.sketches;
      whole = subst (λ (n : ℕ). c.args.used ≤ n) (sym c.keep_links-place.ensures.room) c.requires.room.whole;
      kept = kept_more c.args.self.now.list.value c.args.self.now.whole.items c.args.self.now.sketches.items c.args.page.now c.sketch_of.result
          c.reckon-self.result.value whole c.push_reserved.new.self.items
          old c.keep_links-place.ensures.grown new (c.reckon-self.ensures ∙ ap (λ (ps : List Page). c.args.self.now.list.value ++ ps) c.from_ref.ensures.value) c.push_reserved.ensures.items;
    }
