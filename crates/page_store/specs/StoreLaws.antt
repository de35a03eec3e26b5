-- A store over a device has the laws of a store of pages.
use Rattle.std.specs.Prelude.{ℕ, ◌≤◌, List}
use Rattle.std.proofs.Common.{subst}
use Rattle.device.specs.Moments.{MayHaveCrashedTo}
use Rattle.device.specs.declared.device.Device.{Ghosts}
use Rattle.page_codec.specs.declared.page.Page.{Page}
use Rattle.page_action.specs.Laws.{IsPageStore}
use Rattle.page_store.specs.Crashing.{own_now, leaves_first, acts_later, past_is_now, pages_stay, leaves_between, leaves_early, leaves_late}
use Rattle.page_store.specs.Following.{Follows, follows_same}
use Rattle.page_store.specs.Histories.{pages_after}
use Rattle.page_store.specs.Logged.{backing_of}
use Rattle.page_store.specs.Restart.{RestartsTo}
use Rattle.page_store.specs.Stores.{state_of, held_by, store_history, IsOwnStore}
use Rattle.page_store.specs.declared.store.Store.{Store}

module _ {D : Type 0} (g : Ghosts D) where
  -- the second came from the first by calls of the store
  abbrev pub follows_by : Store D g → Store D g → Type 0
  follows_by s t = Follows (held_by g s) (held_by g t)

  -- its pages after the first `part` acts
  abbrev pub past_of : Store D g → ℕ → List Page
  past_of s part = pages_after (store_history g s) part

  -- the device may have left these bytes at one of its moments from the first to the second
  abbrev pub leaves_by : Store D g → Store D g → List ℕ → Type 0
  leaves_by s t image = MayHaveCrashedTo (held_by g s).trace (held_by g t).trace image

  -- the bytes restart to the pages, under its limits
  abbrev pub restarts_by : Store D g → List ℕ → List Page → Type 0
  restarts_by s image pages = RestartsTo (state_of g s).format image pages

  pub store_laws : IsPageStore (state_of g) (λ s. backing_of (held_by g s))
      follows_by (IsOwnStore g) past_of leaves_by restarts_by
  store_laws = record {
    follows_same = λ s. follows_same (held_by g s);
    follows_later = λ s t h. h.later;
    durable_few = λ s. s.held.not_ahead;
    room_is_promised = λ s. record { most = s.held.promise; least = s.held.kept_promise };
    stored = λ s. s.held.stored;
    few = λ s. subst (λ (n : ℕ). n ≤ s.held.format.pages) s.held.used_is s.held.few;
    own_stays = λ s t own h. own_now (held_by g s) (held_by g t) own h;
    acts_later = λ s t own h. acts_later (held_by g s) (held_by g t) own h;
    past_now = λ s own. past_is_now (held_by g s) own;
    past_stays = λ s t part own h le. pages_stay (held_by g s) (held_by g t) own h part le;
    leaves_first = λ s t image own h left.
        leaves_first (held_by g s) (held_by g t) own h t.held.format image t.held.log_format left;
    leaves_between = λ s t u image own h then left.
        leaves_between (held_by g s) (held_by g t) (held_by g u) own h then image left;
    leaves_early = λ s t u image own h then left.
        leaves_early (held_by g s) (held_by g t) (held_by g u) own h then image left;
    leaves_late = λ s t u image own h then left.
        leaves_late (held_by g s) (held_by g t) (held_by g u) own h then image left;
  }
