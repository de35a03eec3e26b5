-- Pages after a force follow those before it, whether it succeeded or failed.
use Rattle.std.proofs.Common.{◌≡◌, inr, Result, Ok, Err, ℕ, ◌<◌, ◌≤◌, Bool, true, false, List, [], length, take, drop, refl, sym, subst, ◌∙◌, arith, length-drop}
use Rattle.page_codec.specs.Spelling.{page_bytes}
use Rattle.page_codec.specs.Places.{superblock, place}
use Rattle.page_store.proofs.Imports.{append-nil, DiskMoment, Trace, AtEachMoment, Has, OnDisk, ChangesOnly, goes_weaker, goes_both, goes_now, same_only, has_kept, Format, Page, AreStored}
use Rattle.page_store.proofs.Imports.{images_of, LogHolds, Restarts, format_of, is_stopped, Log, keeps_restarts, pages_after, AreActs, CrashesToPart, Held, AreHome, IsKept, IsOwn, GrowsTo}
use Rattle.page_store.proofs.Imports.{Follows, History, KeepsActions, OnOk, is_err}
use Rattle.page_store.proofs.Images.{none_among_fewer}
use Rattle.page_store.proofs.Restarting.{home_kept, superblock_kept, leaves_part}

-- what stands at home while fewer acts are forced does while more are
home_of_more : (format : Format) (since : List (List Page)) (pages : List Page) (n m : ℕ) (at : DiskMoment) → n ≤ m
    → AreHome format (images_of (take n since)) pages at → AreHome format (images_of (take m since)) pages at
home_of_more format since pages n m at le home = record {
  used = λ block page found none. home.used block page found (none_among_fewer since n m block le none);
  unused = λ block past small none. home.unused block past small (none_among_fewer since n m block le none);
}

-- what is kept of a log leaves a prefix
pub leaves_kept : (held : Held) (own : IsOwn held) (log : Log) (m : DiskMoment) (unwritten : ℕ → ℕ) (durable : ℕ) → format_of log ≡ format_of held.log
    → place (format_of held.log) (format_of held.log).pages ≤ length m.seen
    → IsKept log m unwritten held.history durable → CrashesToPart (format_of held.log) held.history durable m
leaves_kept held own log m unwritten durable format long k =
    subst (λ (n : ℕ). CrashesToPart (format_of held.log) held.history n m) (sym k.durable_is)
    (leaves_part (format_of held.log) held.history own.start_stored own.start_few own.acts_are k.base k.forced m k.base_few
    (subst (λ (l : Format). OnDisk 0 (superblock l) m) format k.superblock_on)
    (subst (λ (l : Format). AreHome l (images_of (take k.forced (drop k.base held.history.acts))) (pages_after held.history k.base) m) format k.home)
    long
    (subst (λ (l : Format). Restarts l (drop k.base held.history.acts) k.forced m) format (keeps_restarts log m (drop k.base held.history.acts) k.forced k.log_keeps)))

module _ (old : Held) (log : Log) (trace : Trace) (honest : Bool) (failures : ℕ) (format : format_of log ≡ format_of old.log) (alive : is_stopped old.log ≡ false)
    (moments : (acts : List (List Page)) (forced : ℕ) → LogHolds old.log old.trace.now acts forced → AtEachMoment (Restarts (format_of old.log) acts forced) old.trace trace)
    (outside : AtEachMoment (ChangesOnly 4096 (format_of old.log).log_bytes old.trace.now) old.trace trace) (len : length trace.now.seen ≡ length old.trace.now.seen)
    (same_honest : honest ≡ old.honest) (more_failures : old.failures ≤ failures) where
  abbrev l : Format
  l = format_of old.log

  abbrev h : History
  h = old.history

  only_now : ChangesOnly 4096 l.log_bytes old.trace.now trace.now
  only_now = goes_now (ChangesOnly 4096 l.log_bytes old.trace.now) old.trace trace outside (same_only 4096 l.log_bytes old.trace.now)

  module _ (own : IsOwn old) where
    leaves_between : AtEachMoment (CrashesToPart l h old.durable) old.trace trace
    leaves_between =
        let k = own.kept alive in
        subst (λ (n : ℕ). AtEachMoment (CrashesToPart l h n) old.trace trace) (sym k.durable_is)
        (goes_weaker _ _ old.trace trace (λ m both. leaves_part l h own.start_stored own.start_few own.acts_are k.base k.forced m k.base_few
        (superblock_kept l 4096 l.log_bytes old.trace.now m (omega arith) both.1 k.superblock_on)
        (home_kept l _ _ old.trace.now m both.1 k.home)
        (omega (arith, own.long, both.1.same_length)) both.0)
        (goes_both _ _ old.trace trace (moments (drop k.base h.acts) k.forced k.log_keeps) outside))

    own_between : (durable room : ℕ) → CrashesToPart l h durable trace.now → (is_stopped log ≡ false → IsKept log trace.now old.unwritten h durable)
        → IsOwn (record old { log = log; trace = trace; honest = honest; failures = failures; durable = durable; room = room })
    own_between durable room leaves kept = record {
      start_stored = subst (λ (x : Format). AreStored x 0 h.start) (sym format) own.start_stored;
      start_few = subst (λ (x : Format). length h.start ≤ x.pages) (sym format) own.start_few;
      long = subst (λ (x : Format). place x x.pages ≤ length trace.now.seen) (sym format) (omega (arith, own.long, len));
      acts_are = subst (λ (x : Format). AreActs x h.start h.acts) (sym format) own.acts_are;
      counted = own.counted;
      leaves = subst (λ (x : Format). CrashesToPart x h durable trace.now) (sym format) leaves;
      kept = kept;
    }

    extends_to : (durable room : ℕ) → CrashesToPart l h durable trace.now → (is_stopped log ≡ false → IsKept log trace.now old.unwritten h durable)
        → GrowsTo old (record old { log = log; trace = trace; honest = honest; failures = failures; durable = durable; room = room })
    extends_to durable room leaves kept = record {
      own = own_between durable room leaves kept;
      format = format;
      start = refl;
      more = [];
      acts = sym (append-nil h.acts);
      moments = leaves_between;
    }

  -- it failed
  pub follows_failed_force : is_stopped log ≡ true → old.failures < failures → Follows old (record old { log = log; trace = trace; honest = honest; failures = failures })
  follows_failed_force stopped failed = record {
    later = record { failures = more_failures; durable = omega arith; stopped = λ s. stopped; stop_has_cause = λ s. inr failed; honest = λ s. sym same_honest ∙ s };
    grows = λ own. extends_to own old.durable old.room
        (goes_now _ old.trace trace (leaves_between own) own.leaves)
        (λ still. (let both : true ≡ false = sym stopped ∙ still in absurd cc));
  }

  -- a part of it succeeded
  module _ (keeps : (acts : List (List Page)) (forced : ℕ) → LogHolds old.log old.trace.now acts forced → LogHolds log trace.now acts forced) where
    kept_so_far : (own : IsOwn old) → IsKept log trace.now old.unwritten h old.durable
    kept_so_far own =
        let k = own.kept alive in
        let since = drop k.base h.acts in
        record {
          base = k.base;
          forced = k.forced;
          base_few = k.base_few;
          durable_is = k.durable_is;
          log_keeps = keeps since k.forced k.log_keeps;
          home = subst (λ (x : Format). AreHome x (images_of (take k.forced since)) (pages_after h k.base) trace.now) (sym format)
              (home_kept l _ _ old.trace.now trace.now only_now k.home);
          superblock_on = subst (λ (x : Format). OnDisk 0 (superblock x) trace.now) (sym format) (superblock_kept l 4096 l.log_bytes old.trace.now trace.now (omega arith) only_now k.superblock_on);
          named = k.named;
          last = k.last;
          written = λ block page found clean image.
              subst (λ (x : Format). Has (place x block) (page_bytes page) trace.now.seen) (sym format)
              (has_kept 4096 l.log_bytes (place l block) (page_bytes page) old.trace.now trace.now only_now (inr (omega arith)) (k.written block page found clean image));
        }

    pub follows_part : is_stopped log ≡ false → Follows old (record old { log = log; trace = trace; honest = honest; failures = failures })
    follows_part living = record {
      later = record {
        failures = more_failures;
        durable = omega arith;
        stopped = λ s. (let both : true ≡ false = sym s ∙ alive in absurd cc);
        stop_has_cause = λ s. (let both : true ≡ false = sym s ∙ living in absurd cc);
        honest = λ s. sym same_honest ∙ s;
      };
      grows = λ own. extends_to own old.durable old.room (goes_now _ old.trace trace (leaves_between own) own.leaves) (λ still. kept_so_far own);
    }

  -- a part of it succeeded or failed
  pub follows_advanced : {T E : Type 0} (r : Result T E) → is_stopped log ≡ is_err r → OnOk r (KeepsActions old.log old.trace.now log trace.now)
      → (is_err r ≡ true → old.failures < failures) → Follows old (record old { log = log; trace = trace; honest = honest; failures = failures })
  follows_advanced (Ok x) stopped keeps failed = follows_part keeps stopped
  follows_advanced (Err e) stopped keeps failed = follows_failed_force stopped (failed refl)

  -- it succeeded
  module _ (keeps : (acts : List (List Page)) (forced : ℕ) → LogHolds old.log old.trace.now acts forced → LogHolds log trace.now acts (length acts)) (reached : old.durable ≤ old.acts) (room : ℕ) where
    kept_all : (own : IsOwn old) → IsKept log trace.now old.unwritten h old.acts
    kept_all own =
        let k = own.kept alive in
        let since = drop k.base h.acts in
        record {
          base = k.base;
          forced = length since;
          base_few = k.base_few;
          durable_is = omega (arith, own.counted, length-drop k.base h.acts, k.base_few);
          log_keeps = keeps since k.forced k.log_keeps;
          home = subst (λ (x : Format). AreHome x (images_of (take (length since) since)) (pages_after h k.base) trace.now) (sym format)
              (home_kept l _ _ old.trace.now trace.now only_now (home_of_more l since (pages_after h k.base) k.forced (length since) old.trace.now k.log_keeps.few k.home));
          superblock_on = subst (λ (x : Format). OnDisk 0 (superblock x) trace.now) (sym format) (superblock_kept l 4096 l.log_bytes old.trace.now trace.now (omega arith) only_now k.superblock_on);
          named = k.named;
          last = k.last;
          written = λ block page found clean image.
              subst (λ (x : Format). Has (place x block) (page_bytes page) trace.now.seen) (sym format)
              (has_kept 4096 l.log_bytes (place l block) (page_bytes page) old.trace.now trace.now only_now (inr (omega arith)) (k.written block page found clean image));
        }

    pub follows_force : is_stopped log ≡ false → Follows old (record old { log = log; trace = trace; honest = honest; failures = failures; durable = old.acts; room = room })
    follows_force living = record {
      later = record {
        failures = more_failures;
        durable = reached;
        stopped = λ s. (let both : true ≡ false = sym s ∙ alive in absurd cc);
        stop_has_cause = λ s. (let both : true ≡ false = sym s ∙ living in absurd cc);
        honest = λ s. sym same_honest ∙ s;
      };
      grows = λ own. extends_to own old.acts room
          (leaves_kept old own log trace.now old.unwritten old.acts format (omega (arith, own.long, len)) (kept_all own))
          (λ still. kept_all own);
    }
