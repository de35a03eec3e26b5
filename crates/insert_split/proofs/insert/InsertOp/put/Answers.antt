use Rattle.std.proofs.Common.{arith, List, length, refl, ap, sym, subst, ◌∙◌}
use Rattle.insert_split.proofs.Imports.{HasEntries, Page, after_act}
use Rattle.insert_split.proofs.Halving.{put_may}
use Rattle.insert_split.proofs.insert.InsertOp.put.Goals as goal

pub returns-in-Ok-clause-puts : goal.returns-in-Ok-clause-puts
returns-in-Ok-clause-puts g c =
    let st = g.S.PageStore.state c.args.store.now in
    let after : Page = c.put.new.page in
    let block_is = ap (λ (p : Page). p.block) c.put.ensures.put in (
      refl,
      record {
        after = after;
        put = c.put.ensures.put_in c.requires.place;
        node_is = c.put.ensures.node;
        block_is = block_is;
        cycle_is = ap (λ (p : Page). p.cycle) c.put.ensures.put;
        may = put_may st.format (length st.pages) c.args.page.now after c.requires.stored c.requires.used c.requires.inside
            (ap (λ (p : Page). p.layout) c.put.ensures.put) (c.put.ensures.page c.requires.stored.storable.admitted c.requires.may c.requires.place)
            (subst (λ (p : Page). HasEntries p.items) (sym c.put.ensures.put) tt)
            (let n = c.put.ensures.count in let r = c.requires.room in omega (arith, n, r)) block_is;
        state = c.in-Ok.ensures.done ∙ ap (λ (ps : List Page). after_act ps st) c.from_ref.ensures.value;
        number = c.in-Ok.ensures.number;
      },
    )
