-- Pages of which one was written to its place, or some were noted as written, or whose device was synced,
-- follow those before.
use Rattle.std.proofs.Common.{◌≡◌, ◌≢◌, ◌⊎◌, ℕ, ◌+◌, ◌<◌, ◌≤◌, Bool, true, false, Some, None, List, [], length, take, drop, replicate, slice_get, refl, sym, ap, subst, inl, inr, ◌∙◌, arith}
use Rattle.page_codec.specs.Spelling.{page_bytes}
use Rattle.page_store.proofs.Imports.{append-nil, length-replicate, is_some, DiskMoment, Trace, synced, AtEachMoment, Has, ChangesOnly, goes_weaker, goes_now, has_kept, kept, synced_only, Format}
use Rattle.page_store.proofs.Imports.{Page, length-page, stored_page, last_image, images_of, format_of, is_stopped, keeps_elsewhere, place, pages_after, pages_now, Held, pages_held, is_named}
use Rattle.page_store.proofs.Imports.{IsKept, IsOwn, Follows, History}
use Rattle.page_store.proofs.Images.{stored-after_acts, image_cases, none_among_later, none_in_parts, drop_both}
use Rattle.page_store.proofs.Places.{apart_long}
use Rattle.page_store.proofs.Restarting.{superblock_kept, pages_stored}
use Rattle.page_store.proofs.ForceFollows.{leaves_kept}

module _ (old : Held) (own : IsOwn old) (alive : is_stopped old.log ≡ false) where
  abbrev l : Format
  l = format_of old.log

  abbrev h : History
  h = old.history

  abbrev k : IsKept old.log old.trace.now old.unwritten h old.durable
  k = own.kept alive

  abbrev since : List (List Page)
  since = drop k.base h.acts

  long_base : (block : ℕ) (page : Page) → slice_get (pages_after h k.base) block ≡ Some page → length (page_bytes page) ≡ 4096
  long_base block page found = length-page page (stored_page l block (pages_after h k.base) page (pages_stored l h own.start_stored own.start_few own.acts_are k.base).0 found).storable.admitted

  long_now : (block : ℕ) (page : Page) → slice_get (pages_now h) block ≡ Some page → length (page_bytes page) ≡ 4096
  long_now block page found = length-page page (stored_page l block (pages_now h) page (stored-after_acts l h.start h.acts own.acts_are own.start_stored own.start_few).0 found).storable.admitted

  -- a block whose last act is durable has an image among the forced ones
  forced_image : (block : ℕ) → 0 < old.unwritten block → old.unwritten block ≤ old.durable → is_named (take k.forced since) block ≡ true
  forced_image block some durable = elim (image_cases (last_image (images_of (take k.forced since)) block)) [
    | inl none ↦
        let none_after : last_image (images_of (drop k.forced since)) block ≡ None =
        ap (λ (as' : List (List Page)). last_image (images_of as') block) (drop_both h.acts k.base k.forced)
        ∙ none_among_later h.acts (old.unwritten block) (k.base + k.forced) block (omega (arith, durable, k.durable_is)) (k.last block some) in
        let never : is_named since block ≡ false = ap is_some (none_in_parts since k.forced block none none_after) in
        (let both : true ≡ false = sym (k.named block some) ∙ never in absurd cc)
    | inr is ↦ is
  ]

  -- the place of a block is written whose last act is durable
  module _ (block : ℕ) (some : 0 < old.unwritten block) (durable : old.unwritten block ≤ old.durable) where
    unnamed_other : (b : ℕ) → last_image (images_of (take k.forced since)) b ≡ None → b ≢ block
    unnamed_other b none e =
        let there : is_named (take k.forced since) b ≡ true = subst (λ (x : ℕ). is_named (take k.forced since) x ≡ true) (sym e) (forced_image block some durable) in
        (let both : true ≡ false = sym there ∙ ap is_some none in cc)

    clean_other : (b : ℕ) → old.unwritten b ≡ 0 → b ≢ block
    clean_other b clean e = let there : old.unwritten block ≡ 0 = sym (ap old.unwritten e) ∙ clean in omega arith

    kept_written : (m : DiskMoment) → ChangesOnly (place l block) 4096 old.trace.now m → IsKept old.log m old.unwritten h old.durable
    kept_written m only = record {
      base = k.base;
      forced = k.forced;
      base_few = k.base_few;
      durable_is = k.durable_is;
      log_keeps = keeps_elsewhere old.log (place l block) 4096 old.trace.now m since k.forced only (inl (omega arith)) k.log_keeps;
      home = record {
        used = λ b page found none. kept (place l block) 4096 (place l b) (page_bytes page) old.trace.now m only
            (apart_long l b block _ (long_base b page found) (unnamed_other b none)) (k.home.used b page found none);
        unused = λ b past small none. kept (place l block) 4096 (place l b) (replicate 4096 0) old.trace.now m only
            (apart_long l b block _ (length-replicate {A = ℕ} 4096 0) (unnamed_other b none)) (k.home.unused b past small none);
      };
      superblock_on = superblock_kept l (place l block) 4096 old.trace.now m (omega arith) only k.superblock_on;
      named = k.named;
      last = k.last;
      written = λ b page found clean image. has_kept (place l block) 4096 (place l b) (page_bytes page) old.trace.now m only
          (apart_long l b block _ (long_now b page found) (clean_other b clean)) (k.written b page found clean image);
    }

  -- a read gives what it gave
  kept_alike : (m : DiskMoment) → ChangesOnly (place l 0) 0 old.trace.now m → IsKept old.log m old.unwritten h old.durable
  kept_alike m only = record {
    base = k.base;
    forced = k.forced;
    base_few = k.base_few;
    durable_is = k.durable_is;
    log_keeps = keeps_elsewhere old.log (place l 0) 0 old.trace.now m since k.forced only (inl (omega arith)) k.log_keeps;
    home = record {
      used = λ b page found none. kept (place l 0) 0 (place l b) (page_bytes page) old.trace.now m only (inr (omega arith)) (k.home.used b page found none);
      unused = λ b past small none. kept (place l 0) 0 (place l b) (replicate 4096 0) old.trace.now m only (inr (omega arith)) (k.home.unused b past small none);
    };
    superblock_on = superblock_kept l (place l 0) 0 old.trace.now m (omega arith) only k.superblock_on;
    named = k.named;
    last = k.last;
    written = λ b page found clean image. has_kept (place l 0) 0 (place l b) (page_bytes page) old.trace.now m only (inr (omega arith)) (k.written b page found clean image);
  }

-- the device went on while the log kept what it kept
goes_kept : (old : Held) (trace : Trace) (honest : Bool) (failures : ℕ) → is_stopped old.log ≡ false → honest ≡ old.honest → old.failures ≤ failures
    → ((own : IsOwn old)
    → AtEachMoment (λ m. IsKept old.log m old.unwritten old.history old.durable × (length m.seen ≡ length old.trace.now.seen)) old.trace trace)
    → Follows old (record old { trace = trace; honest = honest; failures = failures })
goes_kept old trace honest failures alive same more goes = record {
  later = record { failures = more; durable = omega arith; stopped = λ s. s; stop_has_cause = λ s. inl s; honest = λ s. sym same ∙ s };
  grows = λ own.
      let moments = goes own in
      let now = goes_now _ old.trace trace moments (own.kept alive, refl) in
      record {
        own = record {
          start_stored = own.start_stored;
          start_few = own.start_few;
          long = omega (arith, own.long, now.1);
          acts_are = own.acts_are;
          counted = own.counted;
          leaves = leaves_kept old own old.log trace.now old.unwritten old.durable refl (omega (arith, own.long, now.1)) now.0;
          kept = λ still. now.0;
        };
        format = refl;
        start = refl;
        more = [];
        acts = sym (append-nil old.history.acts);
        moments = goes_weaker _ _ old.trace trace (λ m here. leaves_kept old own old.log m old.unwritten old.durable refl (omega (arith, own.long, here.1)) here.0) moments;
      };
}

-- the page of a block whose last act is durable was written, or that failed
pub follows_written : (old : Held) (block : ℕ) (trace : Trace) (honest : Bool) (failures : ℕ) → is_stopped old.log ≡ false → 0 < old.unwritten block → old.unwritten block ≤ old.durable
    → AtEachMoment (ChangesOnly (place (format_of old.log) block) 4096 old.trace.now) old.trace trace → honest ≡ old.honest → old.failures ≤ failures
    → Follows old (record old { trace = trace; honest = honest; failures = failures })
follows_written old block trace honest failures alive some durable moments same more =
    goes_kept old trace honest failures alive same more
    (λ own. goes_weaker _ _ old.trace trace (λ m only. (kept_written old own alive block some durable m only, only.same_length)) moments)

-- the device was synced, or that failed
pub follows_synced : (old : Held) (trace : Trace) (honest : Bool) (failures : ℕ) → is_stopped old.log ≡ false
    → AtEachMoment (λ m. m ≡ synced old.trace.now) old.trace trace → honest ≡ old.honest → old.failures ≤ failures
    → Follows old (record old { trace = trace; honest = honest; failures = failures })
follows_synced old trace honest failures alive moments same more =
    goes_kept old trace honest failures alive same more
    (λ own. goes_weaker _ _ old.trace trace (λ m is.
    subst (λ (n : DiskMoment). IsKept old.log n old.unwritten old.history old.durable × (length n.seen ≡ length old.trace.now.seen)) (sym is)
    (kept_alike old own alive (synced old.trace.now) (synced_only (place (format_of old.log) 0) 0 old.trace.now), refl)) moments)

-- pages that stand at their places are noted as written
noted_follows : (old : Held) (unwritten : ℕ → ℕ) (changed : List ℕ)
    → ((block : ℕ) → (unwritten block ≡ old.unwritten block)
    ⊎ ((unwritten block ≡ 0) × ((page : Page) → slice_get (pages_held old) block ≡ Some page → Has (place (format_of old.log) block) (page_bytes page) old.trace.now.seen)))
    → Follows old (record old { unwritten = unwritten; changed = changed })
noted_follows old unwritten changed noted = record {
  later = record { failures = omega arith; durable = omega arith; stopped = λ s. s; stop_has_cause = λ s. inl s; honest = λ s. s };
  grows = λ own. record {
    own = record {
      start_stored = own.start_stored;
      start_few = own.start_few;
      long = own.long;
      acts_are = own.acts_are;
      counted = own.counted;
      leaves = own.leaves;
      kept = λ alive. kept_noted (own.kept alive);
    };
    format = refl;
    start = refl;
    more = [];
    acts = sym (append-nil old.history.acts);
    moments = record { since = []; is = refl; each = tt };
  };
}
  where
    -- what is unwritten now was so before, by the same act
    was : (block : ℕ) → 0 < unwritten block → unwritten block ≡ old.unwritten block
    was block some = elim (noted block) [
      | inl same ↦ same
      | inr clean ↦ absurd (omega (arith, clean.0))
    ]

    kept_noted : IsKept old.log old.trace.now old.unwritten old.history old.durable → IsKept old.log old.trace.now unwritten old.history old.durable
    kept_noted k = record {
      base = k.base;
      forced = k.forced;
      base_few = k.base_few;
      durable_is = k.durable_is;
      log_keeps = k.log_keeps;
      home = k.home;
      superblock_on = k.superblock_on;
      named = λ block some. k.named block (subst (λ (n : ℕ). 0 < n) (was block some) some);
      last = λ block some.
          let same = was block some in
          subst (λ (n : ℕ). last_image (images_of (drop n old.history.acts)) block ≡ None) (sym same) (k.last block (subst (λ (n : ℕ). 0 < n) same some));
      written = λ block page found clean image. elim (noted block) [
        | inl same ↦ k.written block page found (sym same ∙ clean) image
        | inr seen ↦ seen.1 page found
      ];
    }

-- ... at their places under these limits
pub follows_noted : (old : Held) (unwritten : ℕ → ℕ) (changed : List ℕ) (format : Format) → format_of old.log ≡ format
    → ((block : ℕ) → (unwritten block ≡ old.unwritten block)
    ⊎ ((unwritten block ≡ 0) × ((page : Page) → slice_get (pages_held old) block ≡ Some page → Has (place format block) (page_bytes page) old.trace.now.seen)))
    → Follows old (record old { unwritten = unwritten; changed = changed })
follows_noted old unwritten changed format is noted = noted_follows old unwritten changed
    (subst (λ (l : Format). (block : ℕ) → (unwritten block ≡ old.unwritten block)
    ⊎ ((unwritten block ≡ 0) × ((page : Page) → slice_get (pages_held old) block ≡ Some page → Has (place l block) (page_bytes page) old.trace.now.seen))) (sym is) noted)

-- a read leaves what it finds
read_follows : (old : Held) (honest : Bool) (failures : ℕ) → (honest ≡ true → old.honest ≡ true) → old.failures ≤ failures
    → Follows old (record old { honest = honest; failures = failures })
read_follows old honest failures was more = record {
  later = record { failures = more; durable = omega arith; stopped = λ s. s; stop_has_cause = λ s. inl s; honest = was };
  grows = λ own. record {
    own = record {
      start_stored = own.start_stored;
      start_few = own.start_few;
      long = own.long;
      acts_are = own.acts_are;
      counted = own.counted;
      leaves = own.leaves;
      kept = own.kept;
    };
    format = refl;
    start = refl;
    more = [];
    acts = sym (append-nil old.history.acts);
    moments = record { since = []; is = refl; each = tt };
  };
}

pub follows_read : (old : Held) (trace : Trace) (honest : Bool) (failures : ℕ) → trace ≡ old.trace → (honest ≡ true → old.honest ≡ true) → old.failures ≤ failures
    → Follows old (record old { trace = trace; honest = honest; failures = failures })
follows_read old trace honest failures same was more =
    subst (λ (t : Trace). Follows old (record old { trace = t; honest = honest; failures = failures })) (sym same) (read_follows old honest failures was more)
