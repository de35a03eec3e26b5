-- What follows pages over a device: later pages of the same device, with a crash in between.
use Rattle.std.specs.Prelude.{◌≡◌, List, [], ◌++◌}
use Rattle.std.proofs.Common.{refl, sym}
use Rattle.std.proofs.lemmas.List.{append-nil}
use Rattle.device.specs.Moments.{AtEachMoment}
use Rattle.page_codec.specs.declared.page.Page.{Page}
use Rattle.page_action.specs.MapStore.{same_later}
use Rattle.page_action.specs.States.{IsLater}
use Rattle.redo_log.specs.Kept.{format_of}
use Rattle.page_store.specs.Restart.{CrashesToPart}
use Rattle.page_store.specs.Logged.{Held, backing_of, IsOwn}

-- the second has some acts more, and at each moment in between a crash left a prefix of all acts, with all
-- that were durable
pub record GrowsTo (old new : Held) : Type 0 where
  pub own : IsOwn new
  pub format : format_of new.log ≡ format_of old.log
  pub start : new.history.start ≡ old.history.start
  pub more : List (List Page)
  pub acts : new.history.acts ≡ old.history.acts ++ more
  pub moments : AtEachMoment (CrashesToPart (format_of old.log) new.history old.durable) old.trace new.trace

-- no count goes back; and if the first pages are an own device's, so are the second
pub record Follows (old new : Held) : Type 0 where
  pub later : IsLater (backing_of old) (backing_of new)
  pub grows : IsOwn old → GrowsTo old new

-- what stays follows itself
pub follows_same : (held : Held) → Follows held held
follows_same held = record {
  later = same_later (backing_of held);
  grows = λ own. record {
    own = own;
    format = refl;
    start = refl;
    more = [];
    acts = sym (append-nil held.history.acts);
    moments = record { since = []; is = refl; each = tt };
  };
}
