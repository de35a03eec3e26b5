-- What a ledger answers to the lines of its input, and how it ends.
use Rattle.std.specs.Prelude.{◌≡◌, ◌≢◌, ◌⊎◌, ℕ, Bool, Option, List, [], ◌∷◌, ◌++◌, IfErr, IfSome, IsOk, OnErr, OnOk, ⊤}
use Rattle.std.specs.Io.KnownBytes.{Appends}
use Rattle.access_method.specs.Files.{IsAtRest, IsLastOver, IsOpenFault, StaysOnDevice}
use Rattle.access_method.specs.declared.index.Index.{Index}
use Rattle.device.specs.declared.device.Device.{Ghosts as DeviceGhosts}
use Rattle.index_model.specs.Faults.{HasCause}
use Rattle.index_model.specs.Row.{Row}
use Rattle.index_model.specs.declared.fault.Fault.{Fault}
use Rattle.page_action.specs.Causes.{causes_of_forced}
use Rattle.page_action.specs.declared.page_store.PageStore.{Ghosts}
use Rattle.page_store.specs.Stores.{state_of}
use Rattle.page_store.specs.declared.store.Store.{Store}
use Rattle.text_forms.specs.Spelling.{lines_of, words_of}
use Rattle.ledger_lines.specs.Breaking.{AppendsFirst, IsBrokenOff}
use Rattle.ledger_lines.specs.Calls.{Replies}
use Rattle.ledger_lines.specs.Files.{IsOnDisk}
use Rattle.ledger_lines.specs.Opening.{BeginsFrom, BeginsNew, IsNotServed}
use Rattle.ledger_lines.specs.Lines.{LedgerLineFails, HasLedgerValues, ledger_words}
use Rattle.ledger_lines.specs.Replies.{ReplyIsDurable, reply_text}
use Rattle.ledger_lines.specs.declared.dead.Dead.{Dead}
use Rattle.ledger_lines.specs.declared.line.LedgerLine.{LedgerLine}
use Rattle.ledger_lines.specs.declared.program.Kept.{Kept}
use Rattle.ledger_lines.specs.declared.program.Kept.TheVariants.{NoPath, Refused, Found, Made}
use Rattle.ledger_lines.specs.declared.program.Served.{Served}
use Rattle.ledger_lines.specs.declared.reply.Reply.{Reply}
use Rattle.ledger_lines.specs.declared.reply.Reply.TheVariants.{Refused as IsRefused, NotALine}

-- words that spell a line were replied to: as that line's call answered
pub record IsReplied {S : Type 0} (g : Ghosts S) (is_in : Dead → Row → Bool) (words : List (List ℕ)) (old new : Index S) (before after : Option (List ℕ)) (reply : Reply) : Type 0 where
  pub line : LedgerLine
  pub valid : HasLedgerValues line
  pub spelled : words ≡ ledger_words line
  pub replies : Replies g is_in line old new before after reply

-- what words that spell no line are replied with: that there is no such key or row; or that they don't, if no
-- key or row is at fault
abbrev pub NotDoneReplies : List (List ℕ) → Reply → Type 0
NotDoneReplies words (IsRefused fault) = LedgerLineFails fault words
NotDoneReplies words NotALine = (fault : Fault) → LedgerLineFails fault words → ⊥
NotDoneReplies words reply = ⊥

-- ... were replied to: nothing is changed, and nothing printed before the reply
pub record IsNotDone {S : Type 0} (words : List (List ℕ)) (old new : Index S) (before after : Option (List ℕ)) (reply : Reply) : Type 0 where
  pub no_line : (line : LedgerLine) → HasLedgerValues line → words ≢ ledger_words line
  pub replies : NotDoneReplies words reply
  pub unchanged : new ≡ old
  pub silent : after ≡ before

-- the text of a line was replied to
abbrev pub RepliesTo : {S : Type 0} → Ghosts S → (Dead → Row → Bool) → List ℕ → Index S → Index S → Option (List ℕ) → Option (List ℕ) → Reply → Type 0
RepliesTo g is_in text old new before after reply =
    IsReplied g is_in (words_of text) old new before after reply ⊎ IsNotDone (words_of text) old new before after reply

-- The text of a line was replied to, and this was done with the reply's line, after what a list gave. If the
-- reply says how many actions are durable, so many are, and they are on the disk.
pub record AnswersBy {D : Type 0} (d : DeviceGhosts D) (g : Ghosts (Store D d)) (is_in : Dead → Row → Bool) (Prints : Option (List ℕ) → Option (List ℕ) → List ℕ → Type 0)
    (text : List ℕ) (old new : Index (Store D d)) (before after : Option (List ℕ)) : Type 0 where
  pub reply : Reply
  pub listed : Option (List ℕ)
  pub replies : RepliesTo g is_in text old new before listed reply
  pub printed : Prints listed after (reply_text reply ++ 10 ∷ [])
  pub durable : ReplyIsDurable g new reply
  pub stands : IsOnDisk d g old new reply

-- the text of a line was answered: the reply's line was printed
abbrev pub Answers : {D : Type 0} (d : DeviceGhosts D) (g : Ghosts (Store D d)) → (Dead → Row → Bool) → List ℕ → Index (Store D d) → Index (Store D d)
    → Option (List ℕ) → Option (List ℕ) → Type 0
Answers d g is_in text old new before after = AnswersBy d g is_in Appends text old new before after

-- its answer was begun: the first bytes of the reply's line were printed, or a list was broken off
abbrev pub BeginsAnswer : {D : Type 0} (d : DeviceGhosts D) (g : Ghosts (Store D d)) → (Dead → Row → Bool) → List ℕ → Index (Store D d) → Index (Store D d)
    → Option (List ℕ) → Option (List ℕ) → Type 0
BeginsAnswer d g is_in text old new before after =
    AnswersBy d g is_in AppendsFirst text old new before after ⊎ IsBrokenOff g (words_of text) old new before after

-- each of these texts was answered, one after the other
abbrev pub AnswersEach : {D : Type 0} (d : DeviceGhosts D) (g : Ghosts (Store D d)) → (Dead → Row → Bool) → List (List ℕ) → Index (Store D d)
    → Index (Store D d) → Option (List ℕ) → Option (List ℕ) → Type 0
AnswersEach d g is_in [] old new before after = (new ≡ old) × (after ≡ before)
AnswersEach {D} d g is_in (text ∷ texts) old new before after =
    (mid : Index (Store D d)) × (between : Option (List ℕ)) × Answers d g is_in text old mid before between × AnswersEach d g is_in texts mid new between after

-- each line of an input was answered, to its end
pub record AnswersAll {D : Type 0} (d : DeviceGhosts D) (g : Ghosts (Store D d)) (is_in : Dead → Row → Bool) (input : Option (List ℕ))
    (old new : Index (Store D d)) (before after : Option (List ℕ)) : Type 0 where
  pub texts : List (List ℕ)
  pub lines : IfSome input (λ bytes. texts ≡ lines_of bytes)
  pub answers : AnswersEach d g is_in texts old new before after

-- these are the first lines of an input
abbrev pub AreFirst : List (List ℕ) → Option (List ℕ) → Type 0
AreFirst texts input = IfSome input (λ bytes. (more : List (List ℕ)) × (lines_of bytes ≡ texts ++ more))

-- the first lines of an input were each answered, and nothing else was done
pub record AnswersSome {D : Type 0} (d : DeviceGhosts D) (g : Ghosts (Store D d)) (is_in : Dead → Row → Bool) (input : Option (List ℕ))
    (old new : Index (Store D d)) (before after : Option (List ℕ)) : Type 0 where
  pub texts : List (List ℕ)
  pub lines : AreFirst texts input
  pub answers : AnswersEach d g is_in texts old new before after

-- ... and then the answer of the next one was begun
pub record AnswersThenBegins {D : Type 0} (d : DeviceGhosts D) (g : Ghosts (Store D d)) (is_in : Dead → Row → Bool) (input : Option (List ℕ))
    (old new : Index (Store D d)) (before after : Option (List ℕ)) : Type 0 where
  pub texts : List (List ℕ)
  pub text : List ℕ
  pub mid : Index (Store D d)
  pub between : Option (List ℕ)
  pub lines : AreFirst (texts ++ text ∷ []) input
  pub answers : AnswersEach d g is_in texts old mid before between
  pub begins : BeginsAnswer d g is_in text mid new between after

-- The lines before a stream failed were each answered, and of the next one the answer was begun, or nothing
-- was done.
abbrev pub AnswersFirst : {D : Type 0} (d : DeviceGhosts D) (g : Ghosts (Store D d)) → (Dead → Row → Bool) → Option (List ℕ) → Index (Store D d) → Index (Store D d)
    → Option (List ℕ) → Option (List ℕ) → Type 0
AnswersFirst d g is_in input old new before after =
    AnswersSome d g is_in input old new before after ⊎ AnswersThenBegins d g is_in input old new before after

-- The device of an index that was closed: whatever a crash leaves of it has all of the actions, and none of
-- them waits in the log.
pub record IsClosed {D : Type 0} (d : DeviceGhosts D) (g : Ghosts (Store D d)) (last : Index (Store D d)) (device : D) : Type 0 where
  pub stands : StaysOnDevice d g (state_of d last.store).acts last device
  pub empties : IsLastOver d g last device (IsAtRest g (state_of d last.store).format)

-- ... whose last checkpoint was refused with this fault, which has its cause
abbrev pub IsClosingRefused : {D : Type 0} (d : DeviceGhosts D) → Ghosts (Store D d) → Fault → Index (Store D d) → D → Type 0
IsClosingRefused d g fault last device =
    IsLastOver d g last device (λ store. HasCause (causes_of_forced (g.backing last.store) (g.backing store)) fault)

-- Lines of the input were answered by this index, and it was closed. If the streams went well, each line was
-- answered, whatever the closing answered; if one failed, those before it were.
pub record Serves {D : Type 0} (d : DeviceGhosts D) (g : Ghosts (Store D d)) (is_in : Dead → Row → Bool) (opened : Index (Store D d)) (input before after : Option (List ℕ)) (served : Served D) : Type 0 where
  pub last : Index (Store D d)
  pub answers : OnOk served.answered (AnswersAll d g is_in input opened last before after)
  pub broken : OnErr served.answered (AnswersFirst d g is_in input opened last before after)
  pub closed : OnOk served.closed (IsClosed d g last served.device)
  pub refused : IfErr served.closed (λ fault. IsClosingRefused d g fault last served.device)

-- each line was answered, and the index was closed
pub record IsServedWhole {D : Type 0} (served : Served D) : Type 0 where
  pub answered : IsOk served.answered
  pub closed : IsOk served.closed

-- a session was whole; the words named a file, and an index was opened
abbrev pub IsWhole : {D N : Type 0} → Kept D N → Type 0
IsWhole NoPath = ⊥
IsWhole (Refused refusal) = ⊥
IsWhole (Found served) = IsServedWhole served
IsWhole (Made served) = IsServedWhole served

-- this, if no index was opened
abbrev pub IfNotServed : {D N : Type 0} → Kept D N → Type 0 → Type 0
IfNotServed NoPath p = p
IfNotServed (Refused refusal) p = p
IfNotServed (Found served) p = ⊤
IfNotServed (Made served) p = ⊤

-- the index in a file that held these bytes was opened, and lines were answered
pub record ServesFound {D : Type 0} (d : DeviceGhosts D) (g : Ghosts (Store D d)) (is_in : Dead → Row → Bool) (bytes : ℕ → List ℕ) (input before after : Option (List ℕ)) (served : Served D) : Type 0 where
  pub opened : Index (Store D d)
  pub begins : BeginsFrom d g bytes opened
  pub serves : Serves d g is_in opened input before after served

-- ... a new one
pub record ServesNew {D : Type 0} (d : DeviceGhosts D) (g : Ghosts (Store D d)) (is_in : Dead → Row → Bool) (input before after : Option (List ℕ)) (served : Served D) : Type 0 where
  pub opened : Index (Store D d)
  pub begins : BeginsNew d g opened
  pub serves : Serves d g is_in opened input before after served

-- what became of the index in a file that held these bytes, or of the one that was made
abbrev pub ServesFile : {D N : Type 0} (d : DeviceGhosts D) (g : Ghosts (Store D d)) (e : DeviceGhosts N) (h : Ghosts (Store N e)) → (Dead → Row → Bool) → (ℕ → List ℕ)
    → Option (List ℕ) → Option (List ℕ) → Option (List ℕ) → Kept D N → Type 0
ServesFile d g e h is_in bytes input before after NoPath = ⊤
ServesFile d g e h is_in bytes input before after (Refused refusal) = IsOpenFault refusal.fault × IsNotServed d e bytes refusal.fault refusal.left
ServesFile d g e h is_in bytes input before after (Found served) = ServesFound d g is_in bytes input before after served
ServesFile d g e h is_in bytes input before after (Made served) = ServesNew e h is_in input before after served
