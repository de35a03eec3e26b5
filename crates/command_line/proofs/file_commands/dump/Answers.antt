use Rattle.page_store.specs.Following.{follows_same}
use Rattle.command_line.proofs.Looked.{opening_refused, dump_refused, list_stays, first_stay}
use Rattle.command_line.proofs.file_commands.dump.Goals as goal

pub returns-in-Ok-clause-opened : goal.returns-in-Ok-clause-opened
returns-in-Ok-clause-opened g c = record {
  first = c.in-Ok.store;
  opened = record { opened = c.in-Ok.ensures.opened; read = c.in-Ok.ensures.read; same = c.in-Ok.ensures.same };
  follows = c.list_pages-end.ensures.steps c.in-Ok.store (follows_same _);
  state_is = c.list_pages-end.ensures.state;
}

pub returns-in-Ok-clause-listed : goal.returns-in-Ok-clause-listed
returns-in-Ok-clause-listed g c is = list_stays _ _ c.list_pages-end.ensures.state _ _ _ (c.list_pages-end.ensures.listed is)

pub returns-in-Ok-clause-refused : goal.returns-in-Ok-clause-refused
returns-in-Ok-clause-refused g c fault is = first_stay _ _ c.list_pages-end.ensures.state _ _ _ (c.list_pages-end.ensures.refused fault is)

pub returns-in-Ok-clause-cause : goal.returns-in-Ok-clause-cause
returns-in-Ok-clause-cause g c fault is =
    dump_refused _ _ _ fault c.in-Ok.store _ (record { opened = c.in-Ok.ensures.opened; read = c.in-Ok.ensures.read; same = c.in-Ok.ensures.same })
    (c.list_pages-end.ensures.steps c.in-Ok.store (follows_same _)) c.list_pages-end.ensures.state (c.list_pages-end.ensures.cause fault is)

pub returns-in-Err-clause-refused : goal.returns-in-Err-clause-refused
returns-in-Err-clause-refused g c fault is =
    opening_refused _ _ _ _ c.in-Err.field-0.fault fault c.in-Err.field-0.device (let h = is in cc) c.in-Err.ensures.cause c.in-Err.ensures.untaken
