use Rattle.std.proofs.Common.{◌+◌, None, sym, ap, ◌∙◌}
use Rattle.std.proofs.lemmas.List.{get_or-drop}
use Rattle.free_blocks.specs.Numbers.{number_at}
use Rattle.free_blocks.proofs.blocks.FreeBlocks.get.Goals as goal

pub returns : goal.returns
returns c =
    let b = c.self.inside in
    let at = b.shape.size + c.args.block in
    c.number_at.ensures ∙ ap (λ tree. number_at tree at) c.deref.ensures.value
    ∙ (sym (get_or-drop b.shape.size b.tree.items c.args.block None) ∙ ap (λ numbers. number_at numbers c.args.block) c.self.view_is)
