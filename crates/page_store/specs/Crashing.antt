-- What follows for crashes: the laws of an own store.
use Rattle.std.specs.Prelude.{◌≡◌, ◌⊎◌, ℕ, ◌≤◌, List, [], ◌∷◌, ◌++◌, length, take}
use Rattle.std.proofs.Common.{inl, refl, sym, ap, subst, ◌∙◌, arith, length-append}
use Rattle.std.proofs.lemmas.List.{take-append-le}
use Rattle.device.specs.Disk.{MayCrashTo}
use Rattle.device.specs.Moments.{AtEachMoment, MayHaveCrashedTo}
use Rattle.device.proofs.Going.{goes_leaves}
use Rattle.index_model.specs.declared.format.Format.{Format}
use Rattle.page_codec.specs.declared.page.Page.{Page}
use Rattle.page_action.specs.Crashes.{CrashesToPrefix}
use Rattle.redo_log.specs.Kept.{format_of}
use Rattle.page_store.specs.Between.{left_between, left_early, left_late}
use Rattle.page_store.specs.Histories.{after_acts, pages_after}
use Rattle.page_store.specs.Restart.{RestartsTo, RestartsToPart, CrashesToPart}
use Rattle.page_store.specs.Logged.{Held, pages_held, IsOwn}
use Rattle.page_store.specs.Following.{Follows}
use Rattle.page_store.specs.declared.history.History.{History}

-- the pages after a prefix of the acts stay those with more acts
pub pages_of_more : (h longer : History) (more : List (List Page)) (part : ℕ)
    → longer.start ≡ h.start → longer.acts ≡ h.acts ++ more → part ≤ length h.acts
    → pages_after longer part ≡ pages_after h part
pages_of_more h longer more part start acts le =
    ap (λ (s : List Page). after_acts s (take part longer.acts)) start
    ∙ ap (after_acts h.start) (ap (take part) acts ∙ take-append-le part h.acts more le)

-- a prefix of the acts is one of more acts
pub part_of_more : (format : Format) (h longer : History) (more : List (List Page))
    (low least : ℕ) (image : List ℕ)
    → longer.start ≡ h.start → longer.acts ≡ h.acts ++ more → low ≤ least
    → RestartsToPart format h least image → RestartsToPart format longer low image
part_of_more format h longer more low least image start acts le r = record {
  part = r.part;
  from = omega (arith, r.from);
  to = omega (arith, r.to, ap length acts, length-append h.acts more);
  restarts = subst (RestartsTo format image) (sym (pages_of_more h longer more r.part start acts r.to)) r.restarts;
}

-- a crash now leaves what it may leave at this moment
pub left_now : (held : Held) (image : List ℕ) → MayCrashTo held.trace.now image
    → MayHaveCrashedTo held.trace held.trace image
left_now held image may = record { since = []; is = refl; left = inl may }

all : {A : Type 0} (xs : List A) → take (length xs) xs ≡ xs
all [] = refl
all (x ∷ xs) = ap (λ l. x ∷ l) (all xs)

-- all acts done, the pages are those of now
pub past_is_now : (held : Held) → IsOwn held
    → pages_after held.history held.acts ≡ pages_held held
past_is_now held own = ap (λ (n : ℕ). pages_after held.history n) own.counted
    ∙ ap (λ (as' : List (List Page)). after_acts held.history.start as') (all held.history.acts)

module _ (first now : Held) (own : IsOwn first) (follows : Follows first now) where
  pub own_now : IsOwn now
  own_now = (follows.grows own).own

  pub crash_restarts : (format : Format) (image : List ℕ) → format_of now.log ≡ format
      → MayHaveCrashedTo first.trace now.trace image
      → RestartsToPart format now.history first.durable image
  crash_restarts format image is left =
      let on = follows.grows own in
      let l = format_of first.log in
      let here = goes_leaves (CrashesToPart l now.history first.durable) first.trace now.trace image on.moments
      (λ old_image may. part_of_more l first.history now.history on.more first.durable first.durable old_image on.start on.acts (omega arith) (own.leaves old_image may)) left in
      subst (λ (x : Format). RestartsToPart x now.history first.durable image) (sym on.format ∙ is) (here.1 image here.2)

  -- ... in the words of a store of pages
  pub leaves_first : (format : Format) (image : List ℕ) → format_of now.log ≡ format
      → MayHaveCrashedTo first.trace now.trace image
      → CrashesToPrefix first.durable now.acts (pages_after now.history) (RestartsTo format image)
  leaves_first format image is left =
      let r = crash_restarts format image is left in
      record { part = r.part; from = r.from; to = omega (arith, r.to, own_now.counted); restarts_to = r.restarts }

  pub acts_later : first.acts ≤ now.acts
  acts_later =
      let on = follows.grows own in
      omega (arith, own.counted, own_now.counted, ap length on.acts, length-append first.history.acts on.more)

  pub pages_stay : (part : ℕ) → part ≤ first.acts
      → pages_after now.history part ≡ pages_after first.history part
  pages_stay part le =
      let on = follows.grows own in
      pages_of_more first.history now.history on.more part on.start on.acts (omega (arith, own.counted, le))

  pub pages_were : pages_held first ≡ pages_after now.history first.acts
  pages_were = sym (pages_stay first.acts (omega arith) ∙ past_is_now first own)

-- what a crash left since the first, it left up to the second, or since that one
module _ (first second third : Held) (own : IsOwn first) (follows : Follows first second)
    (then : Follows second third) (image : List ℕ) where
  abbrev early : AtEachMoment (CrashesToPart (format_of first.log) second.history first.durable)
      first.trace second.trace
  early = (follows.grows own).moments

  abbrev late : AtEachMoment (CrashesToPart (format_of second.log) third.history second.durable)
      second.trace third.trace
  late = (then.grows (own_now first second own follows)).moments

  pub leaves_between : MayHaveCrashedTo first.trace third.trace image
      → MayHaveCrashedTo first.trace second.trace image ⊎ MayHaveCrashedTo second.trace third.trace image
  leaves_between = left_between first.trace second.trace third.trace image early.since late.since early.is late.is

  pub leaves_early : MayHaveCrashedTo first.trace second.trace image
      → MayHaveCrashedTo first.trace third.trace image
  leaves_early =
      left_early first.trace second.trace third.trace image early.since late.since early.is late.is

  pub leaves_late : MayHaveCrashedTo second.trace third.trace image
      → MayHaveCrashedTo first.trace third.trace image
  leaves_late =
      left_late first.trace second.trace third.trace image early.since late.since early.is late.is
