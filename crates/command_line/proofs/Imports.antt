-- What several proofs of this crate import, passed on from one place. Declares nothing.
pub use Rattle.std.proofs.KnownBytes.{Appends-trans}
pub use Rattle.std.proofs.lemmas.List.{flat_map_more, replicate-append-replicate, take_more}
pub use Rattle.std.proofs.lemmas.Option.{IfSome_then, get_or_from_slice_get, none-some, same_Some, slice_get_within}
pub use Rattle.std.proofs.lemmas.Result.{IfOk-weaker}
pub use Rattle.std.specs.Io.KnownBytes.{Appends, Keeps}
pub use Rattle.std.specs.List.{AllByRecursion, list_any}
pub use Rattle.std.specs.Prelude.{Bool, Box, Err, IfNone, IfOk, IsSomeAnd, IsTrue, MatchOption, None, Ok, OnOk, Option, Result, Some, get_or, replicate, slice_index, take, vec_len}
pub use Rattle.index_model.specs.declared.dead_rows.DeadRows.{Ghosts as SetGhosts}
pub use Rattle.index_model.specs.declared.entry.Entry.{Entry}
pub use Rattle.index_model.specs.declared.fault.Fault.{Fault}
pub use Rattle.index_model.specs.declared.limits.Limits.{Limits}
pub use Rattle.device.specs.declared.device.Device.{Ghosts as DeviceGhosts}
pub use Rattle.page_codec.specs.declared.page.Page.{Page}
pub use Rattle.page_action.specs.States.{Backing, Continues, State}
pub use Rattle.page_action.specs.declared.page_store.PageStore.{Ghosts}
pub use Rattle.page_store.specs.Following.{follows_same}
pub use Rattle.page_store.specs.declared.store.Store.{Store}
pub use Rattle.tree_acts.specs.TheoremKeys.{AreKeyed, IsTreeFor}
pub use Rattle.amcheck.specs.Checks.{IsCheckFault, causes_of_checked}
pub use Rattle.session_calls.specs.declared.answer.Answer.{Answer}
pub use Rattle.session_calls.specs.declared.answer.Answer.TheVariants.{Refused as NotMade}
pub use Rattle.schedule.specs.declared.event.Event.TheVariants.{Checkpoint, Insert, Step}
pub use Rattle.world.specs.Worlds.{ForEachWorldHistory, WorldIsRun, WorldRuns, inside, snapshot_in}
pub use Rattle.world.specs.declared.world.World.{World}
pub use Rattle.session_seats.specs.declared.job.Job.{Job}
pub use Rattle.text_forms.specs.Printing.{answer_text}
pub use Rattle.text_forms.specs.Spelling.{lines_of, words_of}
pub use Rattle.command_line.specs.Commands.{DoesCommand, IsNoCommand, Named, NamesNone, PrintsCheck, PrintsCommand, PrintsCopy, PrintsCreation, PrintsDump, PrintsPlay, PrintsRunning}
pub use Rattle.command_line.specs.JobFiles.{SpellJobs, SpellsJob, sets_after, sets_with}
pub use Rattle.command_line.specs.Listing.{ListsFirst, PrintsPages}
pub use Rattle.command_line.specs.Program.{KeepsLine, named_by, program_line}
pub use Rattle.command_line.specs.Receipts.{calls_text, records_text, run_text, worker_text}
pub use Rattle.command_line.specs.Reporting.{AreSound, PrintsAnswer, PrintsDamage, PrintsReport}
pub use Rattle.command_line.specs.Running.{PrintsDone, PrintsRun, end_after, last_text}
pub use Rattle.command_line.specs.RunningFiles.{IsWorldOfFile, PrintsRunOfJobFile, PrintsRunOnFile}
pub use Rattle.command_line.specs.Script.{Spells, line_words}
pub use Rattle.command_line.specs.Stepping.{IsStepped, IsSteppedInsert, SameSizes, answers_to, steps_of}
pub use Rattle.command_line.specs.declared.end.End.{End}
pub use Rattle.command_line.specs.declared.end.End.TheVariants.{AlreadyPrinted, Damaged, Done, Refused}
pub use Rattle.command_line.specs.declared.engine.Setting.{Setting}
