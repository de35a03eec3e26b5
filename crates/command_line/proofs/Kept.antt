-- What a command printed stays printed while the output is flushed.
use Rattle.std.proofs.Common.{◌≡◌, ◌∙◌, ℕ, Bool, List, subst}
use Rattle.command_line.specs.Left.{IfNotRun}
use Rattle.command_line.specs.declared.dead.DeadList.{DeadList}
use Rattle.command_line.proofs.Imports.{Ok, Err, Option, Some, None, IsSomeAnd, IfNone, MatchOption, Appends, Keeps, IfSome_then, none-some, same_Some, IfOk-weaker, DeviceGhosts, SetGhosts, Limits, Ghosts}
use Rattle.command_line.proofs.Imports.{State, Page, Store, World, DoesCommand, Named, PrintsCheck, PrintsCommand, PrintsCopy, PrintsCreation, PrintsDump, PrintsPlay, PrintsRunning, PrintsPages, ListsFirst}
use Rattle.command_line.proofs.Imports.{PrintsReport, PrintsDamage, PrintsRunOfJobFile, End, Setting}
use Rattle.command_line.specs.Copying.{CopyEnd, PrintsCount}
use Rattle.command_line.specs.declared.copying.Copied.{Copied}
use Rattle.command_line.specs.declared.copying.CopySizes.{CopySizes}
use Rattle.command_line.specs.declared.file_commands.Created.{Created}
use Rattle.command_line.specs.declared.file_commands.Looked.{Looked}
use Rattle.command_line.specs.declared.left.Left.{Left}
use Rattle.command_line.specs.declared.left.Left.TheVariants as left
use Rattle.command_line.specs.declared.play.RanScript.{RanScript}
use Rattle.command_line.specs.declared.running.RanFile.{RanFile}

-- what is as it was is kept
pub keeps_same : (old new : Option (List ℕ)) → new ≡ old → Keeps old new
keeps_same None new same = tt
keeps_same (Some xs) None same = absurd (none-some xs same)
keeps_same (Some xs) (Some ys) same = same_Some ys xs same

keeps_kept : (old mid new : Option (List ℕ)) → Keeps mid new → Keeps old mid → Keeps old new
keeps_kept None mid new kept was = tt
keeps_kept (Some xs) None new kept was = absurd was
keeps_kept (Some xs) (Some ys) None kept was = absurd kept
keeps_kept (Some xs) (Some ys) (Some zs) kept was = kept ∙ was

appends_kept : (old mid new : Option (List ℕ)) (bytes : List ℕ) → Keeps mid new → Appends old mid bytes → Appends old new bytes
appends_kept None mid new bytes kept was = tt
appends_kept (Some xs) None new bytes kept was = absurd was
appends_kept (Some xs) (Some ys) None bytes kept was = absurd kept
appends_kept (Some xs) (Some ys) (Some zs) bytes kept was = kept ∙ was

some_then : {X : Type 0} (o : Option X) {P Q : X → Type 0} → IsSomeAnd o P → ((x : X) → P x → Q x) → IsSomeAnd o Q
some_then None have then = absurd have
some_then (Some x) have then = then x have

match_then : {X : Type 0} (N : Type 0) (o : Option X) {P Q : X → Type 0} → MatchOption o N P → ((x : X) → P x → Q x) → MatchOption o N Q
match_then N None have then = have
match_then N (Some x) have then = then x have

pub none_then : {X P Q : Type 0} (o : Option X) → IfNone o P → (P → Q) → IfNone o Q
none_then None have then = then have
none_then (Some x) have then = tt

-- what was named has another name
pub prints_as : {D N : Type 0} (d : DeviceGhosts D) (e : DeviceGhosts N) (g : Ghosts (Store D d)) (rows : SetGhosts DeadList) (bytes : ℕ → List ℕ) (named other : Named) (old new : Option (List ℕ))
    (what : Left D N (Store D d)) → named ≡ other → PrintsCommand d e g rows bytes named old new what → PrintsCommand d e g rows bytes other old new what
prints_as d e g rows bytes named other old new what same p = subst (λ (n : Named). PrintsCommand d e g rows bytes n old new what) same p

-- a command was run, if it can't be that none was
pub not_run_never : {D N S : Type 0} {P : Type 0} (Q : Type 0) (what : Left D N S) → IfNotRun what P → (P → ⊥) → IfNotRun what Q
not_run_never Q (left.Nothing end) is never = absurd (never is)
not_run_never Q (left.Played script) is never = tt
not_run_never Q (left.Ran ran) is never = tt
not_run_never Q (left.Created created) is never = tt
not_run_never Q (left.Copied copied) is never = tt
not_run_never Q (left.Checked looked) is never = tt
not_run_never Q (left.Dumped looked) is never = tt

pub not_run_then : {D N S : Type 0} {P Q : Type 0} (what : Left D N S) → IfNotRun what P → (P → Q) → IfNotRun what Q
not_run_then (left.Nothing end) is then = then is
not_run_then (left.Played script) is then = tt
not_run_then (left.Ran ran) is then = tt
not_run_then (left.Created created) is then = tt
not_run_then (left.Copied copied) is then = tt
not_run_then (left.Checked looked) is then = tt
not_run_then (left.Dumped looked) is then = tt

module _ (old mid new : Option (List ℕ)) (kept : Keeps mid new) where
  report_kept : (honest : Bool) (pages : List Page) → PrintsReport honest pages old mid → PrintsReport honest pages old new
  report_kept honest pages told = record { report = told.report; printed = appends_kept _ _ _ _ kept told.printed; is = told.is }

  damage_kept : (honest parents : Bool) (st : State) → PrintsDamage honest parents st old mid → PrintsDamage honest parents st old new
  damage_kept honest parents st told = record {
    number = told.number;
    block = told.block;
    printed = appends_kept _ _ _ _ kept told.printed;
    first = told.first;
    unsound = told.unsound;
  }

  lists_kept : (honest : Bool) (pages : List Page) → PrintsPages honest pages old mid → PrintsPages honest pages old new
  lists_kept honest pages listed is = appends_kept _ _ _ _ kept (listed is)

  first_kept : (honest : Bool) (pages : List Page) → ListsFirst honest pages old mid → ListsFirst honest pages old new
  first_kept honest pages listed = record { count = listed.count; few = listed.few; printed = lists_kept _ _ listed.printed }

  run_kept : {D T : Type 0} (d : DeviceGhosts D) (g : Ghosts (Store D d)) (rows : SetGhosts T) (bytes : ℕ → List ℕ) (frames workers : ℕ) (after : World (Store D d) T) (end : End)
      → PrintsRunOfJobFile d g rows bytes frames workers after old mid end → PrintsRunOfJobFile d g rows bytes frames workers after old new end
  run_kept d g rows bytes frames workers after end p =
      let text = p.prints in let file = text.prints in let run = file.prints in let done = run.prints in record {
        text = p.text;
        prints = record {
          jobs = text.jobs;
          sets = text.sets;
          spelled = text.spelled;
          counted = text.counted;
          prints = record {
            before = file.before;
            opened = file.opened;
            prints = record {
              done = run.done;
              ran = run.ran;
              prints = record {
                answer = done.answer;
                checkpointed = done.checkpointed;
                printed = appends_kept _ _ _ _ kept done.printed;
                end_is = done.end_is;
              };
            };
          };
        };
      }

  creation_kept : {D : Type 0} (d : DeviceGhosts D) (limits : Limits) (created : Created D) → PrintsCreation d limits old mid created → PrintsCreation d limits old new created
  creation_kept d limits created p = record {
    ends = p.ends;
    allowed = p.allowed;
    file = p.file;
    empty = p.empty;
    own = p.own;
    exact = p.exact;
    created = λ is. appends_kept _ _ _ _ kept (p.created is);
    refused = p.refused;
    silent = λ fault is. keeps_kept _ _ _ kept (p.silent fault is);
  }

  count_kept : {N : Type 0} (end : CopyEnd N) → PrintsCount old mid end → PrintsCount old new end
  count_kept (Ok copy) p = appends_kept _ _ _ _ kept p
  count_kept (Err not_copied) p = p

  copy_kept : {D N : Type 0} (d : DeviceGhosts D) (e : DeviceGhosts N) (g : Ghosts (Store D d)) (bytes : ℕ → List ℕ) (sizes : CopySizes) (copy : Copied D N (Store D d))
      → PrintsCopy d e g bytes sizes old mid copy → PrintsCopy d e g bytes sizes old new copy
  copy_kept d e g bytes sizes copy p = record {
    ends = p.ends;
    copied = p.copied;
    done = λ is. some_then copy.copied (p.done is) count_kept;
    refused = p.refused;
    cause = p.cause;
    silent = λ fault is. keeps_kept _ _ _ kept (p.silent fault is);
  }

  check_kept : {D : Type 0} (d : DeviceGhosts D) (g : Ghosts (Store D d)) (bytes : ℕ → List ℕ) (parents : Bool) (looked : Looked D (Store D d))
      → PrintsCheck d g bytes parents old mid looked → PrintsCheck d g bytes parents old new looked
  check_kept d g bytes parents looked p = record {
    ends = p.ends;
    opened = p.opened;
    report = λ is. some_then looked.store (p.report is) (λ store. report_kept _ _);
    sound = p.sound;
    damage = λ is. some_then looked.store (p.damage is) (λ store. damage_kept _ _ _);
    refused = p.refused;
    silent = λ fault is. keeps_kept _ _ _ kept (p.silent fault is);
  }

  dump_kept : {D : Type 0} (d : DeviceGhosts D) (g : Ghosts (Store D d)) (bytes : ℕ → List ℕ) (looked : Looked D (Store D d))
      → PrintsDump d g bytes old mid looked → PrintsDump d g bytes old new looked
  dump_kept d g bytes looked p = record {
    ends = p.ends;
    opened = p.opened;
    listed = λ is. some_then looked.store (p.listed is) (λ store. lists_kept _ _);
    refused = λ fault is. match_then _ looked.store (p.refused fault is) (λ store. first_kept _ _);
    cause = p.cause;
    silent = none_then looked.store p.silent (keeps_kept _ _ _ kept);
  }

  running_kept : {D T : Type 0} (d : DeviceGhosts D) (g : Ghosts (Store D d)) (rows : SetGhosts T) (bytes : ℕ → List ℕ) (frames workers : ℕ) (ran : RanFile D (Store D d) T)
      → PrintsRunning d g rows bytes frames workers old mid ran → PrintsRunning d g rows bytes frames workers old new ran
  running_kept d g rows bytes frames workers ran p = record {
    ends = p.ends;
    run = p.run;
    silent = none_then ran.world p.silent (keeps_kept _ _ _ kept);
    printed = IfSome_then ran.world p.printed (λ after. IfOk-weaker ran.end _ _ (run_kept d g rows bytes frames workers after));
    refused = p.refused;
  }

  play_kept : (setting : Setting) (script : RanScript) → PrintsPlay setting old mid script → PrintsPlay setting old new script
  play_kept setting script p = record { run = p.run; asked = p.asked; silent = none_then script.engine p.silent (keeps_kept _ _ _ kept); refused = p.refused }

  does_kept : {D N : Type 0} (d : DeviceGhosts D) (e : DeviceGhosts N) (g : Ghosts (Store D d)) (rows : SetGhosts DeadList) (bytes : ℕ → List ℕ) (named : Named) (what : Left D N (Store D d))
      → DoesCommand d e g rows bytes named old mid what → DoesCommand d e g rows bytes named old new what
  does_kept d e g rows bytes named (left.Nothing end) p = tt
  does_kept d e g rows bytes named (left.Played script) p =
      record { words = p.words; setting = p.setting; names = p.names; said = p.said; prints = play_kept _ script p.prints }
  does_kept d e g rows bytes named (left.Ran ran) p =
      record { words = p.words; workers = p.workers; frames = p.frames; names = p.names; said = p.said; prints = running_kept d g rows bytes _ _ ran p.prints }
  does_kept d e g rows bytes named (left.Created created) p =
      record { words = p.words; limits = p.limits; names = p.names; said = p.said; prints = creation_kept e _ created p.prints }
  does_kept d e g rows bytes named (left.Copied copy) p =
      record { words = p.words; sizes = p.sizes; names = p.names; said = p.said; prints = copy_kept d e g bytes _ copy p.prints }
  does_kept d e g rows bytes named (left.Checked looked) p = record {
    words = p.words;
    names = p.names;
    does = record { parents = p.does.parents; flag = p.does.flag; prints = check_kept d g bytes _ looked p.does.prints };
  }
  does_kept d e g rows bytes named (left.Dumped looked) p = record { words = p.words; names = p.names; prints = dump_kept d g bytes looked p.prints }

  pub prints_kept : {D N : Type 0} (d : DeviceGhosts D) (e : DeviceGhosts N) (g : Ghosts (Store D d)) (rows : SetGhosts DeadList) (bytes : ℕ → List ℕ) (named : Named) (what : Left D N (Store D d))
      → PrintsCommand d e g rows bytes named old mid what → PrintsCommand d e g rows bytes named old new what
  prints_kept d e g rows bytes named what p = record { does = does_kept d e g rows bytes named what p.does }

  pub same_kept : mid ≡ old → Keeps old new
  same_kept same = keeps_kept _ _ _ kept (keeps_same _ _ same)
