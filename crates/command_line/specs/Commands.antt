-- What the commands of a command line leave and print: each as the clauses of its own function tell it.
use Rattle.std.specs.Prelude.{◌≡◌, ◌≢◌, ◌⊎◌, ◌∷◌, ◌++◌, [], true, Bool, ℕ, List, Option, Some, None, Ok, length, codes, IsSome, IsSomeAnd, IfOk, IfSome, IfNone, MatchOption, ⊤}
use Rattle.std.specs.Io.KnownBytes.{Appends, Keeps}
use Rattle.clap.specs.Words.{Row, Text}
use Rattle.access_method.specs.Files.{IsAnyIndex}
use Rattle.device.specs.declared.device.Device.{Ghosts as DeviceGhosts}
use Rattle.page_codec.specs.Places.{needed_length}
use Rattle.index_model.specs.Formats.{made}
use Rattle.index_model.specs.Limits.{AreLimits}
use Rattle.index_model.specs.declared.dead_rows.DeadRows.{Ghosts as SetGhosts}
use Rattle.index_model.specs.declared.fault.Fault.{Fault}
use Rattle.index_model.specs.declared.fault.Fault.TheVariants.{BadLimits, Io}
use Rattle.index_model.specs.declared.limits.Limits.{Limits}
use Rattle.page_action.specs.declared.page_store.PageStore.{Ghosts}
use Rattle.page_store.specs.declared.store.Store.{Store}
use Rattle.recovery.specs.Fresh.{IsEmptyIndex, CrashesToEmpty}
use Rattle.tree_acts.specs.TheoremKeys.{IsTreeFor}
use Rattle.command_line.specs.CommandLine.{HasFlag, HasLimits, HasRunSizes, HasSetting, HasSizes, said_in}
use Rattle.command_line.specs.Copying.{IsCopyFromFile, IsToldCopy, PrintsCount}
use Rattle.command_line.specs.Files.{IsLookedAt, IsCheckRefused, IsDumpRefused, IsOpeningRefused}
use Rattle.command_line.specs.Listing.{PrintsPages, ListsFirst, IsDoneOrRefused}
use Rattle.command_line.specs.Reporting.{PrintsReport, PrintsDamage, AreSound, IsCheckEnd}
use Rattle.command_line.specs.Running.{IsRunEnd}
use Rattle.command_line.specs.RunRefusals.{IsRunOfJobFileRefused}
use Rattle.command_line.specs.RunningFiles.{PrintsRunOfJobFile}
use Rattle.command_line.specs.Settings.{IsNotMade}
use Rattle.command_line.specs.declared.copying.Copied.{Copied}
use Rattle.command_line.specs.declared.copying.CopySizes.{CopySizes}
use Rattle.command_line.specs.declared.dead.DeadList.{DeadList}
use Rattle.command_line.specs.declared.end.End.TheVariants.{Done, Damaged, Refused}
use Rattle.command_line.specs.declared.engine.Setting.{Setting}
use Rattle.command_line.specs.declared.file_commands.Created.{Created}
use Rattle.command_line.specs.declared.file_commands.Looked.{Looked}
use Rattle.command_line.specs.declared.left.Left.{Left}
use Rattle.command_line.specs.declared.left.Left.TheVariants as left
use Rattle.command_line.specs.declared.play.RanScript.{RanScript}
use Rattle.command_line.specs.declared.running.RanFile.{RanFile}

-- A creation with these limits is done with a file made that holds an empty index, and nothing else, and with
-- `created` printed; if it is refused nothing is printed.
pub record PrintsCreation {D : Type 0} (d : DeviceGhosts D) (limits : Limits) (old new : Option (List ℕ)) (creation : Created D) : Type 0 where
  pub ends : IfOk creation.end IsDoneOrRefused
  pub allowed : creation.end ≡ Ok Done → AreLimits (made limits)
  pub file : creation.end ≡ Ok Done → IsSome creation.device
  pub empty : IfSome creation.device (λ device. IsEmptyIndex (made limits) (d.trace device).now)
  pub own : IfSome creation.device (λ device. CrashesToEmpty (made limits) (d.trace device).now)
  pub exact : IfSome creation.device (λ device. length (d.trace device).now.seen ≡ needed_length (made limits))
  pub created : creation.end ≡ Ok Done → Appends old new (codes "created" ++ 10 ∷ [])
  pub refused : (fault : Fault) → creation.end ≡ Ok (Refused fault)
      → ((fault ≡ BadLimits) × (AreLimits (made limits) → ⊥)) ⊎ (fault ≡ Io)
  pub silent : (fault : Fault) → creation.end ≡ Ok (Refused fault) → Keeps old new

-- A copy of these sizes is done with the number of its entries printed. It has those of the index in the
-- file, if that file held an index whose pages are a B-link tree. If it is refused nothing is printed.
pub record PrintsCopy {D N : Type 0} (d : DeviceGhosts D) (e : DeviceGhosts N) (g : Ghosts (Store D d)) (bytes : ℕ → List ℕ) (sizes : CopySizes)
    (old new : Option (List ℕ)) (copy : Copied D N (Store D d)) : Type 0 where
  pub ends : IfOk copy.end IsDoneOrRefused
  pub copied : IfSome copy.copied (λ copied. IsSomeAnd copy.from (IsCopyFromFile d e g bytes sizes copied))
  pub done : copy.end ≡ Ok Done → IsSomeAnd copy.copied (PrintsCount old new)
  pub refused : (fault : Fault) → copy.end ≡ Ok (Refused fault) → IfNone copy.from (IsOpeningRefused d IsTreeFor bytes 64 fault copy.device)
  pub cause : (fault : Fault) → copy.end ≡ Ok (Refused fault) → IfSome copy.copied (IsToldCopy fault)
  pub silent : (fault : Fault) → copy.end ≡ Ok (Refused fault) → Keeps old new

-- A check, with parents and children or without, is done with the report printed of the pages of the index
-- that was opened, and finds damage with the first of it printed; if it is refused nothing is printed.
pub record PrintsCheck {D : Type 0} (d : DeviceGhosts D) (g : Ghosts (Store D d)) (bytes : ℕ → List ℕ) (parents : Bool)
    (old new : Option (List ℕ)) (looked : Looked D (Store D d)) : Type 0 where
  pub ends : IfOk looked.end IsCheckEnd
  pub opened : IfSome looked.store (IsLookedAt d g bytes)
  pub report : looked.end ≡ Ok Done → IsSomeAnd looked.store (λ store.
      PrintsReport (g.backing store).honest (g.state store).pages old new)
  pub sound : looked.end ≡ Ok Done → IsSomeAnd looked.store (λ store.
      (g.backing store).honest ≡ true → AreSound parents (g.state store))
  pub damage : looked.end ≡ Ok Damaged → IsSomeAnd looked.store (λ store.
      PrintsDamage (g.backing store).honest parents (g.state store) old new)
  pub refused : (fault : Fault) → looked.end ≡ Ok (Refused fault)
      → MatchOption looked.store (IsOpeningRefused d IsAnyIndex bytes 64 fault looked.device) (IsCheckRefused d g bytes fault)
  pub silent : (fault : Fault) → looked.end ≡ Ok (Refused fault) → Keeps old new

-- A dump is done with the lines printed of all pages of the index that was opened, and refused with those of
-- the first so many; if there was no index nothing is printed.
pub record PrintsDump {D : Type 0} (d : DeviceGhosts D) (g : Ghosts (Store D d)) (bytes : ℕ → List ℕ)
    (old new : Option (List ℕ)) (looked : Looked D (Store D d)) : Type 0 where
  pub ends : IfOk looked.end IsDoneOrRefused
  pub opened : IfSome looked.store (IsLookedAt d g bytes)
  pub listed : looked.end ≡ Ok Done → IsSomeAnd looked.store (λ store.
      PrintsPages (g.backing store).honest (g.state store).pages old new)
  pub refused : (fault : Fault) → looked.end ≡ Ok (Refused fault)
      → MatchOption looked.store (IsOpeningRefused d IsAnyIndex bytes 64 fault looked.device) (λ store.
      ListsFirst (g.backing store).honest (g.state store).pages old new)
  pub cause : (fault : Fault) → looked.end ≡ Ok (Refused fault) → IfSome looked.store (IsDumpRefused d g bytes fault)
  pub silent : IfNone looked.store (Keeps old new)

-- The jobs of a file are run by so many workers, with so many pages in memory, and the run is printed; if
-- there was none nothing is printed, and it was refused for its cause.
pub record PrintsRunning {D T : Type 0} (d : DeviceGhosts D) (g : Ghosts (Store D d)) (rows : SetGhosts T) (bytes : ℕ → List ℕ)
    (frames workers : ℕ) (old new : Option (List ℕ)) (ran : RanFile D (Store D d) T) : Type 0 where
  pub ends : IfOk ran.end IsRunEnd
  pub run : ran.end ≡ Ok Done → IsSome ran.world
  pub silent : IfNone ran.world (Keeps old new)
  pub printed : IfSome ran.world (λ after. IfOk ran.end (PrintsRunOfJobFile d g rows bytes frames workers after old new))
  pub refused : (fault : Fault) → ran.end ≡ Ok (Refused fault)
      → IfNone ran.world (IsRunOfJobFileRefused d g rows bytes frames workers fault ran.device)

-- A script is run over an index of this setting; if there was no index nothing is printed, and it was refused
-- for its cause.
pub record PrintsPlay (setting : Setting) (old new : Option (List ℕ)) (script : RanScript) : Type 0 where
  pub run : script.end ≡ Ok Done → IsSome script.engine
  pub asked : IfSome script.engine (λ engine. engine.setting ≡ setting)
  pub silent : IfNone script.engine (Keeps old new)
  pub refused : (fault : Fault) → script.end ≡ Ok (Refused fault) → IfNone script.engine (IsNotMade setting fault)

-- what a command line names: a command, and what is said of its arguments
abbrev pub Named : Type 0
Named = Option (Text × List Row)

-- the name is none of a command
pub record IsNoCommand (name : Text) : Type 0 where
  pub play : name ≢ codes "play"
  pub run : name ≢ codes "run"
  pub create : name ≢ codes "create"
  pub copy : name ≢ codes "copy"
  pub check : name ≢ codes "check"
  pub dump : name ≢ codes "dump"

-- the command line names no command
abbrev pub NamesNone : Named → Type 0
NamesNone None = ⊤
NamesNone (Some command) = IsNoCommand command.0

-- the command line names `create`, which is run with the sizes that it says
pub record DoesCreate {D : Type 0} (d : DeviceGhosts D) (named : Named) (old new : Option (List ℕ)) (created : Created D) : Type 0 where
  pub words : List Row
  pub limits : Limits
  pub names : named ≡ Some (codes "create", words)
  pub said : HasLimits (said_in words) limits
  pub prints : PrintsCreation d limits old new created

-- ... `copy`, with the sizes that it says
pub record DoesCopy {D N : Type 0} (d : DeviceGhosts D) (e : DeviceGhosts N) (g : Ghosts (Store D d)) (bytes : ℕ → List ℕ) (named : Named)
    (old new : Option (List ℕ)) (copy : Copied D N (Store D d)) : Type 0 where
  pub words : List Row
  pub sizes : CopySizes
  pub names : named ≡ Some (codes "copy", words)
  pub said : HasSizes (said_in words) sizes
  pub prints : PrintsCopy d e g bytes sizes old new copy

-- a check, with parents and children if this text says so
pub record ChecksAs {D : Type 0} (d : DeviceGhosts D) (g : Ghosts (Store D d)) (bytes : ℕ → List ℕ) (said : Option (List ℕ))
    (old new : Option (List ℕ)) (looked : Looked D (Store D d)) : Type 0 where
  pub parents : Bool
  pub flag : HasFlag said parents
  pub prints : PrintsCheck d g bytes parents old new looked

-- ... `check`, with parents and children if it says so
pub record DoesCheck {D : Type 0} (d : DeviceGhosts D) (g : Ghosts (Store D d)) (bytes : ℕ → List ℕ) (named : Named)
    (old new : Option (List ℕ)) (looked : Looked D (Store D d)) : Type 0 where
  pub words : List Row
  pub names : named ≡ Some (codes "check", words)
  pub does : ChecksAs d g bytes (said_in words (codes "parents")) old new looked

-- ... `dump`
pub record DoesDump {D : Type 0} (d : DeviceGhosts D) (g : Ghosts (Store D d)) (bytes : ℕ → List ℕ) (named : Named)
    (old new : Option (List ℕ)) (looked : Looked D (Store D d)) : Type 0 where
  pub words : List Row
  pub names : named ≡ Some (codes "dump", words)
  pub prints : PrintsDump d g bytes old new looked

-- ... `run`, with the threads and the pages in memory that it says
pub record DoesRun {D T : Type 0} (d : DeviceGhosts D) (g : Ghosts (Store D d)) (rows : SetGhosts T) (bytes : ℕ → List ℕ) (named : Named)
    (old new : Option (List ℕ)) (ran : RanFile D (Store D d) T) : Type 0 where
  pub words : List Row
  pub workers : ℕ
  pub frames : ℕ
  pub names : named ≡ Some (codes "run", words)
  pub said : HasRunSizes (said_in words) workers frames
  pub prints : PrintsRunning d g rows bytes frames workers old new ran

-- ... `play`, with the setting that it says
pub record DoesPlay (named : Named) (old new : Option (List ℕ)) (script : RanScript) : Type 0 where
  pub words : List Row
  pub setting : Setting
  pub names : named ≡ Some (codes "play", words)
  pub said : HasSetting (said_in words) setting
  pub prints : PrintsPlay setting old new script

-- What was left is that of the command that the command line names, run with the values that it says, and
-- what was printed is what this command tells. A file that is made has a device of its own.
abbrev pub DoesCommand : {D N : Type 0} (d : DeviceGhosts D) → DeviceGhosts N → Ghosts (Store D d) → SetGhosts DeadList → (ℕ → List ℕ) → Named
    → Option (List ℕ) → Option (List ℕ) → Left D N (Store D d) → Type 0
DoesCommand d e g rows bytes named old new (left.Nothing end) = ⊤
DoesCommand d e g rows bytes named old new (left.Played script) = DoesPlay named old new script
DoesCommand d e g rows bytes named old new (left.Ran ran) = DoesRun d g rows bytes named old new ran
DoesCommand d e g rows bytes named old new (left.Created created) = DoesCreate e named old new created
DoesCommand d e g rows bytes named old new (left.Copied copy) = DoesCopy d e g bytes named old new copy
DoesCommand d e g rows bytes named old new (left.Checked looked) = DoesCheck d g bytes named old new looked
DoesCommand d e g rows bytes named old new (left.Dumped looked) = DoesDump d g bytes named old new looked

-- ... as a fact of its own
pub record PrintsCommand {D N : Type 0} (d : DeviceGhosts D) (e : DeviceGhosts N) (g : Ghosts (Store D d)) (rows : SetGhosts DeadList) (bytes : ℕ → List ℕ)
    (named : Named) (old new : Option (List ℕ)) (what : Left D N (Store D d)) : Type 0 where
  pub does : DoesCommand d e g rows bytes named old new what
