use Rattle.access_method.proofs.Imports.{[], here_with, slots_within}
use Rattle.std.proofs.Common.{◌∷◌, rules}
use Rattle.access_method.proofs.Results.{inserts_or_keeps, insert_fits}
use Rattle.access_method.proofs.Refusals.{insert_cause, insert_unhindered, insert_frames, insert_format}
use Rattle.access_method.specs.Rows.{is_row_in}
use Rattle.access_method.proofs.index.Index.aminsert.Goals as goal

pub returns-clause-inserts : goal.returns-clause-inserts
returns-clause-inserts g c =
    inserts_or_keeps g.S.PageStore c.args.entry c.insert.result (slots_within c.args.self.now) (here_with c.insert.new.store c.insert.new.calls.slots.items (is_row_in c.args.self.now.rows ∷ [])) c.insert.ensures.goes

pub returns-clause-cause : goal.returns-clause-cause
returns-clause-cause g c honest start history calls fits =
    let told = inserts_or_keeps g.S.PageStore c.args.entry c.insert.result (slots_within c.args.self.now)
    (here_with c.insert.new.store c.insert.new.calls.slots.items (is_row_in c.args.self.now.rows ∷ [])) c.insert.ensures.goes honest start history calls fits in
    let format = insert_format g.S.PageStore c.args.entry c.insert.result (slots_within c.args.self.now)
    (here_with c.insert.new.store c.insert.new.calls.slots.items (is_row_in c.args.self.now.rows ∷ [])) c.insert.ensures.goes honest start history calls fits in
    insert_cause g.S.PageStore c.args.self.now c.insert.new.store c.args.self.now.agree.inserts (search rules) c.args.entry format c.insert.result
    told (c.insert.ensures.cause honest start history calls fits)

pub returns-clause-alone : goal.returns-clause-alone
returns-clause-alone g c honest start history calls fits un =
    let told = inserts_or_keeps g.S.PageStore c.args.entry c.insert.result (slots_within c.args.self.now)
    (here_with c.insert.new.store c.insert.new.calls.slots.items (is_row_in c.args.self.now.rows ∷ [])) c.insert.ensures.goes honest start history calls fits in
    let format = insert_format g.S.PageStore c.args.entry c.insert.result (slots_within c.args.self.now)
    (here_with c.insert.new.store c.insert.new.calls.slots.items (is_row_in c.args.self.now.rows ∷ [])) c.insert.ensures.goes honest start history calls fits in
    let same = insert_frames g.S.PageStore c.args.entry c.insert.result (slots_within c.args.self.now)
    (here_with c.insert.new.store c.insert.new.calls.slots.items (is_row_in c.args.self.now.rows ∷ [])) c.insert.ensures.goes honest start history calls fits in
    insert_unhindered g.S.PageStore c.args.entry c.args.self.now c.insert.new.store un same c.insert.result
    (insert_cause g.S.PageStore c.args.self.now c.insert.new.store c.args.self.now.agree.inserts (search rules) c.args.entry format c.insert.result
    told (c.insert.ensures.cause honest start history calls fits))

pub returns-clause-fits : goal.returns-clause-fits
returns-clause-fits g c =
    insert_fits g.S.PageStore 63 c.args.entry c.insert.result (slots_within c.args.self.now) (here_with c.insert.new.store c.insert.new.calls.slots.items (is_row_in c.args.self.now.rows ∷ [])) c.insert.ensures.goes
