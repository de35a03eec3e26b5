-- A store that keeps its history keeps it still after an event, and a crash leaves a prefix of it.
use Rattle.std.proofs.Common.{◌≡◌, ℕ, ◌≤◌, ◌+◌, Bool, List, [], length, take, sym, ap, subst, arith, inl, inr, ◌∙◌, length-append}
use Rattle.page_action.specs.Laws.{IsPageStore}
use Rattle.schedule.proofs.Keys.{keyed_now}
use Rattle.schedule.proofs.Imports.{cases_lt, append-nil, take_all, take-append-le, Action, Entry, Format, Page, Ghosts, Matches, Moment, ArePagesAfter, KeepsHistory, IsCrashSafe, GrowsByOne}

-- the laws of a store
abbrev pub Laws : {S : Type 0} → Ghosts S → Type 0
Laws g = IsPageStore g.state g.backing g.follows g.own g.past g.leaves g.restarts

-- nothing is appended
pub no_growth : (history : List Action) → GrowsByOne history history
no_growth history = record { acts = []; is = sym (append-nil history); few = omega arith }

module _ {S : Type 0} (g : Ghosts S) (laws : Laws g) (start : Entry → Bool) where
  -- the pages of now are those after all of the history
  pub pages_now : (new : Moment S) → g.own new.store → Matches (g.state new.store) start new.history → (part : ℕ) → length new.history ≤ part
      → ArePagesAfter (g.state new.store).format.unique start (take part new.history) (g.past new.store (length new.history))
  pages_now new own matches part all =
      subst (λ (l : List Action). ArePagesAfter (g.state new.store).format.unique start l (g.past new.store (length new.history))) (sym (take_all part new.history all))
      (subst (λ (ps : List Page). ArePagesAfter (g.state new.store).format.unique start new.history ps) (sym (ap (λ (n : ℕ). g.past new.store n) (sym matches.count) ∙ laws.past_now new.store own))
      (record { contents = matches.contents; tree = matches.order.tree.tree; keyed = keyed_now (g.state new.store) start new.history matches }))

  -- the history is kept if there is none yet
  pub kept_at_start : (new : Moment S) → new.history ≡ [] → g.own new.store → Matches (g.state new.store) start new.history → KeepsHistory g start new
  kept_at_start new none own matches =
      let empty : length new.history ≡ 0 = ap (λ (l : List Action). length l) none in
      record {
        own = own;
        parts = λ part le. subst (λ (n : ℕ). ArePagesAfter (g.state new.store).format.unique start (take part new.history) (g.past new.store n)) (omega (arith, le, empty))
            (pages_now new own matches part (omega (arith, empty)));
        durable = (let d = laws.durable_few new.store in omega (arith, matches.count, d));
      }

  module _ (old new : Moment S) (follows : g.follows old.store new.store) where
    -- what a crash leaves, if the history is kept before and after
    pub safe : g.own old.store → Matches (g.state new.store) start new.history → KeepsHistory g start new → IsCrashSafe g start old new
    safe own matches keeps = record {
      keeps = keeps;
      restarts = λ image left. (
          let leaves = laws.leaves_first old.store new.store image own follows left in
          let to : leaves.part ≤ length new.history = (let t = leaves.to in omega (arith, matches.count, t)) in
          record { part = leaves.part; from = leaves.from; to = to; pages = g.past new.store leaves.part; restarts = leaves.restarts_to; are = keeps.parts leaves.part to });
    }

    -- the history is kept with one action more
    pub keeps_on : (g.state new.store).format ≡ (g.state old.store).format → GrowsByOne old.history new.history
        → (g.state old.store).acts ≡ length old.history → Matches (g.state new.store) start new.history → KeepsHistory g start old → KeepsHistory g start new
    keeps_on format grows count matches keeps =
        let own = laws.own_stays old.store new.store keeps.own follows in
        let longer : length new.history ≡ length old.history + length grows.acts = ap (λ (l : List Action). length l) grows.is ∙ length-append old.history grows.acts in
        record {
          own = own;
          durable = (let d = laws.durable_few new.store in omega (arith, matches.count, d));
          parts = λ part le. elim (cases_lt (length old.history) part) [
            | inl more ↦ (
                let few = grows.few in
                let e : length new.history ≡ part = omega (arith, longer, few, le, more) in
                subst (λ (n : ℕ). ArePagesAfter (g.state new.store).format.unique start (take part new.history) (g.past new.store n)) e (pages_now new own matches part (omega (arith, e))))
            | inr less ↦ (
                let same : take part new.history ≡ take part old.history = ap (λ (l : List Action). take part l) grows.is ∙ take-append-le part old.history grows.acts less in
                subst (λ (l : List Action). ArePagesAfter (g.state new.store).format.unique start l (g.past new.store part)) (sym same)
                (subst (λ (u : Bool). ArePagesAfter u start (take part old.history) (g.past new.store part)) (ap (λ (f : Format). f.unique) (sym format))
                (subst (λ (ps : List Page). ArePagesAfter (g.state old.store).format.unique start (take part old.history) ps)
                (sym (laws.past_stays old.store new.store part keeps.own follows (omega (arith, count, less)))) (keeps.parts part less))))
          ];
        }
