use Rattle.std.proofs.Common.{◌≡◌, ◌+◌, ◌++◌, List, [], ◌∷◌, take, drop, length, slice_set, ap, ap₂, subst, ◌∙◌}
use Rattle.insert_split.proofs.Imports.{slice_index_or, entries_of, Page, LeafHalves, left_count, node_of}
use Rattle.insert_split.proofs.leaf_act.part.Goals as goal

pub returns : goal.returns
returns c one two rest pages_are =
    let page : Page = c.args.page.now in
    let left : Page = c.split_leaf.new.page in
    let half : Page = c.split_leaf.new.half in
    let front : c.split_at_mut-front.result.0.now ≡ one ∷ [] = c.split_at_mut-front.ensures.front ∙ ap (take 1) pages_are in
    let back : c.split_at_mut-front.result.1.now ≡ two ∷ rest ∷ [] = c.split_at_mut-front.ensures.back ∙ ap (drop 1) pages_are in
    let is : slice_index_or (slice_set c.split_at_mut-front.result.0.now 0 c.copy_to.new.target) 0 c.index-front-0-2.result ≡ page =
    ap (λ (l : List Page). slice_index_or (slice_set l 0 c.copy_to.new.target) 0 c.index-front-0-2.result) front ∙ c.copy_to.ensures in
    let h = c.split_leaf.ensures in
    record {
      left = left;
      half = half;
      pages_are = ap₂ (λ (f b : List Page). slice_set (slice_set f 0 c.copy_to.new.target) 0 left ++ slice_set b 0 half) front back;
      halves = subst (λ (p : Page). LeafHalves (node_of p) p.block c.args.new c.args.entry (node_of left) (node_of half)) is h.halves;
      kept = subst (λ (p : Page). length (entries_of left.items) ≡ left_count (length (entries_of p.items))) is h.kept;
      moved = subst (λ (p : Page). length (entries_of left.items) + length (entries_of half.items) ≡ length (entries_of p.items) + 1) is h.moved;
      cut = h.cut;
      left_layout = h.left_layout;
      half_layout = h.right_layout;
      left_block = h.left_block ∙ ap (λ (p : Page). p.block) is;
      half_block = h.right_block;
      left_cycle = h.left_cycle;
      half_cycle = h.right_cycle;
      left_leaf = h.left_leaf;
      half_leaf = h.right_leaf;
      left_page = h.left_page;
      half_page = h.right_page;
    }
