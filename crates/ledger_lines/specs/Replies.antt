-- What the replies of a ledger say, and how they are printed.
use Rattle.std.specs.Prelude.{◌≡◌, ℕ, List, ◌∷◌, ◌++◌, codes, ⊤}
use Rattle.access_method.specs.declared.index.Index.{Index}
use Rattle.index_model.specs.Faults.{number_of}
use Rattle.index_model.specs.declared.fault.Fault.{Fault}
use Rattle.index_model.specs.declared.fault.Fault.TheVariants.{NoMemory, Io, Stopped, Blocked, Exists, KeyTooLong, BadRow, IndexFull, LogFull, NoFrame, VacuumRunning, NoSession, SessionBusy, BadSuper, BadVersion, LogDamaged, PageDamaged, BadLimits, TooTall, DeviceTooSmall, KeyExists}
use Rattle.ledger_lines.specs.declared.reply.Reply.{Reply}
use Rattle.ledger_lines.specs.declared.reply.Reply.TheVariants.{Added, Deleted, Listed, CleanedUp, Checkpointed, Committed, Refused, NotALine}
use Rattle.page_action.specs.declared.page_store.PageStore.{Ghosts}
use Rattle.session_calls.specs.declared.answer.Answer.TheVariants.{Added as AnAdded, Finished, Checkpointed as ACheckpointed}
use Rattle.text_forms.specs.Printing.{answer_text, numbered}
use Rattle.text_forms.specs.Spelling.{named_text}

-- the name of a fault
abbrev pub fault_name : Fault → List ℕ
fault_name NoMemory = codes "NoMemory"
fault_name Io = codes "Io"
fault_name Stopped = codes "Stopped"
fault_name (Blocked block) = codes "Blocked"
fault_name Exists = codes "Exists"
fault_name KeyTooLong = codes "KeyTooLong"
fault_name BadRow = codes "BadRow"
fault_name IndexFull = codes "IndexFull"
fault_name LogFull = codes "LogFull"
fault_name NoFrame = codes "NoFrame"
fault_name VacuumRunning = codes "VacuumRunning"
fault_name NoSession = codes "NoSession"
fault_name SessionBusy = codes "SessionBusy"
fault_name BadSuper = codes "BadSuper"
fault_name BadVersion = codes "BadVersion"
fault_name LogDamaged = codes "LogDamaged"
fault_name (PageDamaged block) = codes "PageDamaged"
fault_name BadLimits = codes "BadLimits"
fault_name TooTall = codes "TooTall"
fault_name DeviceTooSmall = codes "DeviceTooSmall"
fault_name (KeyExists row) = codes "KeyExists"

-- a refusal: its number, its name, and the block or the row that the fault names
abbrev pub refusal_text : Fault → List ℕ
refusal_text fault = numbered (codes "refused ") (number_of fault) ++ (32 ∷ (fault_name fault ++ named_text fault))

-- the line of a reply
abbrev pub reply_text : Reply → List ℕ
reply_text (Added inserted) = answer_text (AnAdded inserted.action inserted.unfinished)
reply_text (Deleted removed) = numbered (codes "deleted ") removed
reply_text (Listed count) = numbered (codes "done ") count
reply_text (CleanedUp stats) = answer_text (Finished stats)
reply_text (Checkpointed actions) = answer_text (ACheckpointed actions)
reply_text (Committed actions) = numbered (codes "committed ") actions
reply_text (Refused fault) = refusal_text fault
reply_text NotALine = codes "not a line"

-- if a reply says how many actions are durable, so many are
abbrev pub ReplyIsDurable : {S : Type 0} → Ghosts S → Index S → Reply → Type 0
ReplyIsDurable g index (Checkpointed actions) = (g.backing index.store).durable ≡ actions
ReplyIsDurable g index (Committed actions) = (g.backing index.store).durable ≡ actions
ReplyIsDurable g index reply = ⊤
