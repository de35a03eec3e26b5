-- Pages after an act follow those before it.
use Rattle.std.proofs.Common.{◌≡◌, inl, inr, ℕ, suc, ◌<◌, ◌≤◌, true, Option, None, List, slice_get, [], ◌∷◌, ◌++◌, length, take, drop, refl, sym, ap, subst, ◌∙◌, arith, length-append}
use Rattle.page_codec.specs.Spelling.{page_bytes}
use Rattle.page_codec.specs.Places.{superblock, place}
use Rattle.page_store.proofs.Images.{acts-append, after_acts-append, get-with_pages, later_is_some, image_cases, all_dropped}
use Rattle.page_store.proofs.Imports.{take-append-le, drop-append-le, is_some, cases_lt, DiskMoment, Has, OnDisk, stays, Format, Page, AreStored, AreActable, last_image, later_of, images_of}
use Rattle.page_store.proofs.Imports.{LogHolds, format_of, is_stopped, Log, last_image-append, images_of-push, with_act, after_acts, pages_after, pages_now, AreActs, CrashesToPart, Held}
use Rattle.page_store.proofs.Imports.{pages_held, is_named, AreHome, IsKept, IsOwn, Follows, History, part_of_more}

module _ (old : Held) (log : Log) (changed : List Page) (room promised : ℕ) (format : format_of log ≡ format_of old.log) (stopped : is_stopped log ≡ is_stopped old.log)
    (keeps : (m : DiskMoment) (acts : List (List Page)) (forced : ℕ) → LogHolds old.log m acts forced → LogHolds log m (acts ++ changed ∷ []) forced)
    (actable : AreActable (format_of old.log) (length (pages_held old)) changed) (unwritten : ℕ → ℕ) (order : List ℕ)
    (acted : (block : ℕ) → is_some (last_image changed block) ≡ true → unwritten block ≡ suc old.acts)
    (others : (block : ℕ) → last_image changed block ≡ None → unwritten block ≡ old.unwritten block) where
  abbrev h : History
  h = old.history

  abbrev one : List (List Page)
  one = changed ∷ []

  -- the pages after the act
  abbrev pub acted_held : Held
  acted_held = record old {
    log = log;
    unwritten = unwritten;
    changed = order;
    acts = suc old.acts;
    room = room;
    promised = promised;
    history = with_act changed old.history;
  }

  module _ (own : IsOwn old) where
    acts_more : AreActs (format_of old.log) h.start (h.acts ++ one)
    acts_more = acts-append (format_of old.log) h.start h.acts one own.acts_are (actable, tt)

    leaves_more : CrashesToPart (format_of old.log) (with_act changed h) old.durable old.trace.now
    leaves_more image left = part_of_more (format_of old.log) h (with_act changed h) one old.durable old.durable image refl refl (omega arith) (own.leaves image left)

    -- an image among the acts is one of the act's, or one of those before
    named_before : (since : List (List Page)) (block : ℕ) → last_image changed block ≡ None → last_image (images_of (since ++ one)) block ≡ last_image (images_of since) block
    named_before since block none = ap (λ (ps : List Page). last_image ps block) (images_of-push since changed)
        ∙ (last_image-append (images_of since) changed block ∙ ap (λ (o : Option Page). later_of (last_image (images_of since) block) o) none)

    named_now : (since : List (List Page)) (block : ℕ) → is_some (last_image changed block) ≡ true → is_named (since ++ one) block ≡ true
    named_now since block some = ap (λ (ps : List Page). is_some (last_image ps block)) (images_of-push since changed)
        ∙ (ap is_some (last_image-append (images_of since) changed block) ∙ later_is_some (last_image (images_of since) block) (last_image changed block) some)

    -- a block that the act doesn't name keeps its page
    page_before : (block : ℕ) → last_image changed block ≡ None → slice_get (pages_now (with_act changed h)) block ≡ slice_get (pages_now h) block
    page_before block none = ap (λ (ps : List Page). slice_get ps block) (after_acts-append h.start h.acts one)
        ∙ (get-with_pages (format_of old.log) (length (pages_now h)) (pages_now h) changed block actable (omega arith)
        ∙ ap (λ (o : Option Page). later_of (slice_get (pages_now h) block) o) none)

    kept_more : IsKept old.log old.trace.now old.unwritten h old.durable → IsKept log old.trace.now unwritten (with_act changed h) old.durable
    kept_more k =
        let since = drop k.base h.acts in
        let longer : drop k.base (h.acts ++ one) ≡ since ++ one = drop-append-le k.base h.acts one k.base_few in
        let front : take k.forced (drop k.base (h.acts ++ one)) ≡ take k.forced since = ap (take k.forced) longer ∙ take-append-le k.forced since one k.log_keeps.few in
        let at_base : take k.base (h.acts ++ one) ≡ take k.base h.acts = take-append-le k.base h.acts one k.base_few in
        record {
          base = k.base;
          forced = k.forced;
          base_few = omega (arith, k.base_few, length-append h.acts one);
          durable_is = k.durable_is;
          log_keeps = subst (λ (as' : List (List Page)). LogHolds log old.trace.now as' k.forced) (sym longer) (keeps old.trace.now since k.forced k.log_keeps);
          home = subst (λ (l : Format). AreHome l (images_of (take k.forced (drop k.base (h.acts ++ one)))) (pages_after (with_act changed h) k.base) old.trace.now) (sym format)
              (subst (λ (as' : List (List Page)). AreHome (format_of old.log) (images_of as') (pages_after (with_act changed h) k.base) old.trace.now) (sym front)
              (subst (λ (as' : List (List Page)). AreHome (format_of old.log) (images_of (take k.forced since)) (after_acts h.start as') old.trace.now) (sym at_base) k.home));
          superblock_on = subst (λ (l : Format). OnDisk 0 (superblock l) old.trace.now) (sym format) k.superblock_on;
          named = λ block some. subst (λ (as' : List (List Page)). is_named as' block ≡ true) (sym longer) (elim (image_cases (last_image changed block)) [
            | inl none ↦
                let before = k.named block (subst (λ (n : ℕ). 0 < n) (others block none) some) in
                ap is_some (named_before since block none) ∙ before
            | inr now ↦ named_now since block now
          ]);
          last = λ block some. elim (image_cases (last_image changed block)) [
            | inl none ↦
                let same = others block none in
                let before = k.last block (subst (λ (n : ℕ). 0 < n) same some) in
                ap (λ (n : ℕ). last_image (images_of (drop n (h.acts ++ one))) block) same ∙ none_later block (old.unwritten block) none before
            | inr now ↦
                ap (λ (n : ℕ). last_image (images_of (drop n (h.acts ++ one))) block) (acted block now)
                ∙ ap (λ (as' : List (List Page)). last_image (images_of as') block) (all_dropped (h.acts ++ one) (suc old.acts) (omega (arith, length-append h.acts one, own.counted)))
          ];
          written = λ block page found clean image. elim (image_cases (last_image changed block)) [
            | inl none ↦
                subst (λ (l : Format). Has (place l block) (page_bytes page) old.trace.now.seen) (sym format)
                (k.written block page (sym (page_before block none) ∙ found) (sym (others block none) ∙ clean)
                (sym (ap is_some (named_before since block none)) ∙ subst (λ (as' : List (List Page)). is_named as' block ≡ true) longer image))
            | inr now ↦ absurd (let e : suc old.acts ≡ 0 = sym (acted block now) ∙ clean in cc)
          ];
        }
      where
        -- what no act after the first `n` names isn't named with one more that doesn't name it
        none_later : (block n : ℕ) → last_image changed block ≡ None → last_image (images_of (drop n h.acts)) block ≡ None → last_image (images_of (drop n (h.acts ++ one))) block ≡ None
        none_later block n none before = elim (cases_lt (length h.acts) n) [
          | inl past ↦ ap (λ (as' : List (List Page)). last_image (images_of as') block) (all_dropped (h.acts ++ one) n (omega (arith, length-append h.acts one)))
          | inr le ↦ ap (λ (as' : List (List Page)). last_image (images_of as') block) (drop-append-le n h.acts one le) ∙ (named_before (drop n h.acts) block none ∙ before)
        ]

    own_more : IsOwn acted_held
    own_more = record {
      start_stored = subst (λ (l : Format). AreStored l 0 h.start) (sym format) own.start_stored;
      start_few = subst (λ (l : Format). length h.start ≤ l.pages) (sym format) own.start_few;
      long = subst (λ (l : Format). place l l.pages ≤ length old.trace.now.seen) (sym format) own.long;
      acts_are = subst (λ (l : Format). AreActs l h.start (h.acts ++ one)) (sym format) acts_more;
      counted = omega (arith, own.counted, length-append h.acts one);
      leaves = subst (λ (l : Format). CrashesToPart l (with_act changed h) old.durable old.trace.now) (sym format) leaves_more;
      kept = λ alive. kept_more (own.kept (sym stopped ∙ alive));
    }

  pub follows_acted : Follows old acted_held
  follows_acted = record {
    later = record { failures = omega arith; durable = omega arith; stopped = λ s. stopped ∙ s; stop_has_cause = λ s. inl (sym stopped ∙ s); honest = λ s. s };
    grows = λ own. record {
      own = own_more own;
      format = format;
      start = refl;
      more = one;
      acts = refl;
      moments = stays _ old.trace old.trace refl;
    };
  }

  -- the same, with each part by another name
  pub follows_act : (acts : ℕ) (history : History) → acts ≡ suc old.acts → history ≡ with_act changed old.history
      → Follows old (record old { log = log; unwritten = unwritten; changed = order; acts = acts; room = room; promised = promised; history = history })
  follows_act acts history a t =
      subst (λ (x : ℕ). Follows old (record old { log = log; unwritten = unwritten; changed = order; acts = x; room = room; promised = promised; history = history })) (sym a)
      (subst (λ (x : History). Follows old (record old { log = log; unwritten = unwritten; changed = order; acts = suc old.acts; room = room; promised = promised; history = x })) (sym t)
      follows_acted)
