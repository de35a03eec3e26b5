use Rattle.std.proofs.Common.{◌≡◌, true, ap, sym, ◌∙◌}
use Rattle.std.proofs.lemmas.Result.{IfOk-at_ok}
use Rattle.access_method.specs.Indexes.{IndexBegins}
use Rattle.page_store.specs.Following.{follows_same}
use Rattle.page_store.specs.Stores.{held_by}
use Rattle.page_store.specs.contracts.store.StorePageStore.TheImpl as store
use Rattle.index_copy.proofs.Whole.{left_whole, no_copy_for}
use Rattle.index_copy.proofs.onto.copy_onto.Goals as goal

pub returns-in-Ok-written-clause-holds : goal.returns-in-Ok-written-clause-holds
returns-in-Ok-written-clause-holds g c format crashes honest honest_from start history calls fits =
    let d = g.D.Device in
    let H = store.ghosts g.row.D g.D.Device g.D.Device-dict in
    let opened = c.in-Ok.index in
    let filled = c.copy.new.into in
    let device = c.close-written.result.device in
    let closed = c.close-written.ensures in
    let tree = c.new_indexes_are_trees.ensures format (d.trace c.args.device).now crashes in
    let last = IfOk-at_ok _ c.in-Ok-written.is closed.empties in
    let honest_last : d.is_honest device ≡ true = honest in
    let honest_filled : (H.backing filled.store).honest ≡ true = last.2.later.honest (sym (ap (λ x. d.is_honest x) last.1) ∙ honest_last) in
    let followed = c.copy.ensures.into_steps opened.store (follows_same (held_by d opened.store)) in
    let honest_opened : (H.backing opened.store).honest ≡ true = followed.later.honest honest_filled in
    let begins : IndexBegins d H format tree.pages opened = c.in-Ok.ensures.begins honest_opened c.in-Ok.ensures.range format tree.pages tree.now tree.tree in
    let grown = followed.grows begins.keeps.own in
    let copied = c.in-Ok-copy.ensures.copies honest_from start history calls fits in
    record {
      many = copied.many;
      leaves = left_whole d H format tree.pages _ opened filled device c.in-Ok-written._actions tree.empty begins c.copy.ensures.goes_on copied.gains honest_filled
          (sym filled.store.held.log_format ∙ grown.format ∙ opened.store.held.log_format ∙ begins.format_is)
          (IfOk-at_ok _ c.in-Ok-written.is closed.number) (IfOk-at_ok _ c.in-Ok-written.is closed.stands) honest;
    }

pub returns-in-Err-copy-clause-refused : goal.returns-in-Err-copy-clause-refused
returns-in-Err-copy-clause-refused g c format crashes honest honest_from start history calls fits =
    let d = g.D.Device in
    let H = store.ghosts g.row.D g.D.Device g.D.Device-dict in
    let opened = c.in-Ok.index in
    let filled = c.copy.new.into in
    let tree = c.new_indexes_are_trees.ensures format (d.trace c.args.device).now crashes in
    let honest_last : d.is_honest c.into_device.result ≡ true = honest in
    let honest_filled : (H.backing filled.store).honest ≡ true = sym (ap (λ x. d.is_honest x) c.into_device.ensures) ∙ honest_last in
    let followed = c.copy.ensures.into_steps opened.store (follows_same (held_by d opened.store)) in
    let honest_opened : (H.backing opened.store).honest ≡ true = followed.later.honest honest_filled in
    let begins : IndexBegins d H format tree.pages opened = c.in-Ok.ensures.begins honest_opened c.in-Ok.ensures.range format tree.pages tree.now tree.tree in
    no_copy_for g.S.PageStore d H c.args.from.now.store format tree.pages opened filled c.in-Err-copy.not_copied tree.empty begins honest_filled
    (c.in-Err-copy.ensures.refused honest_from start history calls fits)
