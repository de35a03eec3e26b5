-- Pages that all stand at their places, and whose log was then closed, follow those before.
use Rattle.std.proofs.Common.{◌≡◌, ⊎_elim, ℕ, ◌+◌, ◌<◌, ◌≤◌, Bool, true, false, Option, None, List, [], ◌∷◌, length, take, drop, slice_get, refl, sym, ap, subst, inl, inr, ◌∙◌, arith, length-drop}
use Rattle.page_codec.specs.Spelling.{page_bytes}
use Rattle.page_codec.specs.Places.{superblock, place}
use Rattle.page_store.proofs.Imports.{append-nil, slice_get_past, DiskMoment, Trace, AtEachMoment, Has, OnDisk, ChangesOnly, goes_weaker, goes_both, goes_now, same_only, Format, Page, AreStored}
use Rattle.page_store.proofs.Imports.{last_image, later_of, images_of, LogHolds, RestartsOrEmpty, RestartsOrEmptyThroughout, ChangesItsRange, format_of, is_stopped, Log, after_acts, pages_after}
use Rattle.page_store.proofs.Imports.{pages_now, AreActs, RestartsToPart, CrashesToPart, Held, pages_held, is_named, AreHome, IsKept, IsOwn, Follows, History}
use Rattle.page_store.proofs.Images.{get-after_acts, acts-drop, later_is_none, after_both, image_cases}
use Rattle.page_store.proofs.Restarting.{home_kept, superblock_kept, part_restarts, home_restarts, past_of_none}

pub whole_to : {A : Type 0} (xs : List A) (n : ℕ) → n ≡ length xs → take n xs ≡ xs
whole_to xs n is = subst (λ (k : ℕ). take k xs ≡ xs) (sym is) (whole xs)
  where
    whole : {A : Type 0} (xs : List A) → take (length xs) xs ≡ xs
    whole [] = refl
    whole (x ∷ xs) = ap (λ l. x ∷ l) (whole xs)

nothing_left : {A : Type 0} (xs : List A) → drop (length xs) xs ≡ []
nothing_left [] = refl
nothing_left (x ∷ xs) = nothing_left xs

after_split : (pages : List Page) (acts : List (List Page)) (n : ℕ) → n ≤ length acts → after_acts (after_acts pages (take n acts)) (drop n acts) ≡ after_acts pages acts
after_split pages acts n le =
    let e : n + length (drop n acts) ≡ length acts = omega (arith, length-drop n acts) in
    ap (λ (as' : List (List Page)). after_acts (after_acts pages (take n acts)) as') (sym (whole_to (drop n acts) (length (drop n acts)) refl))
    ∙ (sym (after_both pages acts n (length (drop n acts)))
    ∙ ap (λ (as' : List (List Page)). after_acts pages as') (whole_to acts (n + length (drop n acts)) e))

module _ (old : Held) (own : IsOwn old) (alive : is_stopped old.log ≡ false) (all : old.durable ≡ old.acts) where
  abbrev l : Format
  l = format_of old.log

  abbrev h : History
  h = old.history

  abbrev k : IsKept old.log old.trace.now old.unwritten h old.durable
  k = own.kept alive

  abbrev since : List (List Page)
  since = drop k.base h.acts

  all_forced : k.forced ≡ length since
  all_forced = omega (arith, k.durable_is, all, own.counted, length-drop k.base h.acts, k.base_few)

  long_at : (m : DiskMoment) → length m.seen ≡ length old.trace.now.seen → place l l.pages ≤ length m.seen
  long_at m same = omega (arith, own.long, same)

  now_is : (block : ℕ) → slice_get (pages_now h) block ≡ later_of (slice_get (pages_after h k.base) block) (last_image (images_of since) block)
  now_is block =
      ap (λ (ps : List Page). slice_get ps block) (sym (after_split h.start h.acts k.base k.base_few))
      ∙ get-after_acts l (pages_after h k.base) since block (acts-drop l h.start h.acts k.base own.acts_are)

  none_forced : (block : ℕ) → last_image (images_of since) block ≡ None → last_image (images_of (take k.forced since)) block ≡ None
  none_forced block none = ap (λ (as' : List (List Page)). last_image (images_of as') block) (whole_to since k.forced all_forced) ∙ none

  -- with every page written, and what a read gives firm, all pages are at home
  pub home_firm : ((block : ℕ) → old.unwritten block ≡ 0)
      → ((at : ℕ) (bytes : List ℕ) → Has at bytes old.trace.now.seen → OnDisk at bytes old.trace.now) → AreHome l [] (pages_now h) old.trace.now
  home_firm clean firm = record {
    used = λ block page found none. elim (image_cases (last_image (images_of since) block)) [
      | inl unnamed ↦
          k.home.used block page (sym (now_is block ∙ ap (λ (o : Option Page). later_of (slice_get (pages_after h k.base) block) o) unnamed) ∙ found) (none_forced block unnamed)
      | inr named ↦ firm (place l block) (page_bytes page) (k.written block page found (clean block) named)
    ];
    unused = λ block past small none.
        let both = later_is_none (slice_get (pages_after h k.base) block) (last_image (images_of since) block) (sym (now_is block) ∙ slice_get_past (pages_now h) block past) in
        k.home.unused block (past_of_none (pages_after h k.base) block both.0) small (none_forced block both.1);
  }

  -- while the log is closed, the acts it held or nothing
  leaves_closing : (m : DiskMoment) → AreHome l [] (pages_now h) old.trace.now → RestartsOrEmpty l (take k.forced since) m × ChangesOnly 4096 l.log_bytes old.trace.now m → CrashesToPart l h old.durable m
  leaves_closing m home both image left =
      let superblock_on = superblock_kept l 4096 l.log_bytes old.trace.now m (omega arith) both.1 k.superblock_on in
      let long = long_at m both.1.same_length in
      ⊎_elim
      (λ holds. subst (λ (n : ℕ). RestartsToPart l h n image) (sym k.durable_is)
      (part_restarts l h own.start_stored own.start_few own.acts_are k.base k.forced m image left k.base_few superblock_on
      (home_kept l _ _ old.trace.now m both.1 k.home) long (record { part = k.forced; from = omega arith; to = omega (arith, all_forced); holds = holds })))
      (λ holds. subst (λ (n : ℕ). RestartsToPart l h n image) (sym (all ∙ own.counted))
      (home_restarts l h own.start_stored own.start_few own.acts_are (pages_now h) m image refl left superblock_on (home_kept l [] (pages_now h) old.trace.now m both.1 home) long holds))
      (both.0 image left)

  kept_closed : (log : Log) (m : DiskMoment) → format_of log ≡ l → ChangesOnly 4096 l.log_bytes old.trace.now m → AreHome l [] (pages_now h) old.trace.now → LogHolds log m [] 0
      → ((block : ℕ) → old.unwritten block ≡ 0) → IsKept log m old.unwritten h old.durable
  kept_closed log m format only home keeps clean =
      let none = nothing_left h.acts in
      let same : pages_now h ≡ pages_after h (length h.acts) = ap (λ (as' : List (List Page)). after_acts h.start as') (sym (whole_to h.acts (length h.acts) refl)) in
      record {
        base = length h.acts;
        forced = 0;
        base_few = omega arith;
        durable_is = omega (arith, all, own.counted);
        log_keeps = subst (λ (as' : List (List Page)). LogHolds log m as' 0) (sym none) keeps;
        home = subst (λ (x : Format). AreHome x [] (pages_after h (length h.acts)) m) (sym format)
            (subst (λ (ps : List Page). AreHome l [] ps m) same (home_kept l [] (pages_now h) old.trace.now m only home));
        superblock_on = subst (λ (x : Format). OnDisk 0 (superblock x) m) (sym format) (superblock_kept l 4096 l.log_bytes old.trace.now m (omega arith) only k.superblock_on);
        named = λ block some. absurd (omega (arith, clean block));
        last = λ block some. absurd (omega (arith, clean block));
        written = λ block page found is image. (let never : is_named [] block ≡ true = subst (λ (as' : List (List Page)). is_named as' block ≡ true) none image in absurd cc);
      }

-- the log was closed, or that failed
pub record IsClosing (old : Held) (log : Log) (trace : Trace) (honest : Bool) (failures : ℕ) : Type 0 where
  pub alive : is_stopped old.log ≡ false
  pub all : old.durable ≡ old.acts
  pub format : format_of log ≡ format_of old.log
  pub home : IsOwn old → AreHome (format_of old.log) [] (pages_held old) old.trace.now
  pub moments : RestartsOrEmptyThroughout old.log old.trace trace
  pub outside : ChangesItsRange (format_of old.log) old.trace trace
  pub same : honest ≡ old.honest
  pub more : old.failures ≤ failures
  pub failed : is_stopped log ≡ true → old.failures < failures

module _ (old : Held) (log : Log) (trace : Trace) (honest : Bool) (failures : ℕ) (r : IsClosing old log trace honest failures) (room promised : ℕ)
    (clean : is_stopped log ≡ false → (block : ℕ) → old.unwritten block ≡ 0)
    (keeps : is_stopped log ≡ false → (acts : List (List Page)) (forced : ℕ) → LogHolds old.log old.trace.now acts forced → LogHolds log trace.now [] 0) where
  abbrev closed : Held
  closed = record old { log = log; trace = trace; honest = honest; failures = failures; room = room; promised = promised }

  only_now : ChangesOnly 4096 (format_of old.log).log_bytes old.trace.now trace.now
  only_now = goes_now _ old.trace trace r.outside (same_only 4096 (format_of old.log).log_bytes old.trace.now)

  leaves_between : (own : IsOwn old) → AtEachMoment (CrashesToPart (format_of old.log) old.history old.durable) old.trace trace
  leaves_between own = goes_weaker _ _ old.trace trace (λ m both. leaves_closing old own r.alive r.all m (r.home own) both)
      (goes_both _ _ old.trace trace (r.moments (drop (own.kept r.alive).base old.history.acts) (own.kept r.alive).forced (own.kept r.alive).log_keeps) r.outside)

  own_closed : IsOwn old → IsOwn closed
  own_closed own = record {
    start_stored = subst (λ (x : Format). AreStored x 0 old.history.start) (sym r.format) own.start_stored;
    start_few = subst (λ (x : Format). length old.history.start ≤ x.pages) (sym r.format) own.start_few;
    long = subst (λ (x : Format). place x x.pages ≤ length trace.now.seen) (sym r.format) (long_at old own r.alive r.all trace.now only_now.same_length);
    acts_are = subst (λ (x : Format). AreActs x old.history.start old.history.acts) (sym r.format) own.acts_are;
    counted = own.counted;
    leaves = subst (λ (x : Format). CrashesToPart x old.history old.durable trace.now) (sym r.format) (goes_now _ old.trace trace (leaves_between own) own.leaves);
    kept = λ still. kept_closed old own r.alive r.all log trace.now r.format only_now (r.home own)
        (keeps still (drop (own.kept r.alive).base old.history.acts) (own.kept r.alive).forced (own.kept r.alive).log_keeps) (clean still);
  }

  pub follows_closed : Follows old closed
  follows_closed = record {
    later = record {
      failures = r.more;
      durable = omega arith;
      stopped = λ s. (let both : true ≡ false = sym s ∙ r.alive in absurd cc);
      stop_has_cause = λ s. inr (r.failed s);
      honest = λ s. sym r.same ∙ s;
    };
    grows = λ own. record {
      own = own_closed own;
      format = r.format;
      start = refl;
      more = [];
      acts = sym (append-nil old.history.acts);
      moments = leaves_between own;
    };
  }
