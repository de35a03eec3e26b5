use Rattle.index_copy.proofs.Entries.{among_first_too, among_others_too}
use Rattle.index_copy.proofs.batch.Batch.push.Goals as goal

pub returns-then-len-clause-each : goal.returns-then-len-clause-each
returns-then-len-clause-each c e =
    let self = c.args.self.now in
    among_first_too c.push.new.self.items self.first.items self.others.items c.args.entry e c.push.ensures.items

pub returns-else-len-clause-each : goal.returns-else-len-clause-each
returns-else-len-clause-each c e =
    let self = c.args.self.now in
    among_others_too c.push-else-len.new.self.items self.first.items self.others.items c.args.entry e c.push-else-len.ensures.items
