use Rattle.std.proofs.Common.{rules, ◌≡◌, List, ◌∷◌, length, take, slice_set, subst}
use Rattle.insert_split.proofs.Imports.{OnOk, Page, AreActable, if_read, mended_to}
use Rattle.insert_split.proofs.leaf_act.act_on_halves.Goals as goal

pub returns-then-not-is_beside-clause-may : goal.returns-then-not-is_beside-clause-may
returns-then-not-is_beside-clause-may g c left half rest is =
    let list_is : take 2 c.args.pages.now ≡ left ∷ half ∷ mended_to half.block (if_read c.args.is_beside rest) = search rules in
    subst (λ (l : List Page). OnOk c.act_on.result (AreActable (g.S.PageStore.state c.args.store.now).format (length (g.S.PageStore.state c.args.store.now).pages) l)) list_is c.act_on.ensures.may

pub returns-clause-may : goal.returns-clause-may
returns-clause-may g c left half rest is =
    let list_is : slice_set c.args.pages.now 2 c.mend_left.new.page ≡ left ∷ half ∷ mended_to half.block (if_read c.args.is_beside rest) = search rules in
    subst (λ (l : List Page). OnOk c.act_on-2.result (AreActable (g.S.PageStore.state c.args.store.now).format (length (g.S.PageStore.state c.args.store.now).pages) l)) list_is c.act_on-2.ensures.may
