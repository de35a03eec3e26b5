-- On a unique index no two entries share a key, at any moment that a history tells of.
use Rattle.std.proofs.Common.{◌≡◌, ℕ, ◌≤◌, ◌+◌, Bool, true, List, ◌++◌, length, sym, subst, inl, inr, ◌∙◌, arith, length-append}
use Rattle.tree_acts.specs.TheoremKeys.{AreKeyed}
use Rattle.tree_acts.proofs.Keyed.{keyed_of}
use Rattle.schedule.proofs.Imports.{cases_lt, take_all, take-append-le, Action, KeysDiffer, contents_after, is_there_after, Entry, Page, entry_on_live_leaf, State, Matches}

-- the pages of a unique index are keyed
pub keyed_now : (st : State) (start : Entry → Bool) (history : List Action) → Matches st start history → st.format.unique ≡ true → AreKeyed st.pages
keyed_now st start history matches asked =
    keyed_of st.format st.pages matches.order.tree.tree matches.order.tree.stored (matches.order.tree.unique asked)

-- ... so after all of the history no two entries share a key
keys_differ : (pages : List Page) (there : Entry → Bool) → ((e : Entry) → entry_on_live_leaf pages e ≡ there e) → AreKeyed pages → KeysDiffer there
keys_differ pages there contents keyed x y on_x on_y same = keyed.keys x y (contents x ∙ on_x) (contents y ∙ on_y) same

pub keys_at_end : (st : State) (start : Entry → Bool) (history : List Action) → Matches st start history → st.format.unique ≡ true → (k : ℕ) → length history ≤ k
    → KeysDiffer (is_there_after start history k)
keys_at_end st start history matches asked k all =
    subst (λ (l : List Action). KeysDiffer (contents_after start l)) (sym (take_all k history all))
    (keys_differ st.pages (contents_after start history) matches.contents (keyed_now st start history matches asked))

-- with one action more
pub keys_go_on : (st : State) (start : Entry → Bool) (history acts : List Action) → length acts ≤ 1 → Matches st start (history ++ acts) → st.format.unique ≡ true
    → ((k : ℕ) → KeysDiffer (is_there_after start history k)) → (k : ℕ) → KeysDiffer (is_there_after start (history ++ acts) k)
keys_go_on st start history acts few matches asked before k = elim (cases_lt (length history) k) [
  | inl more ↦ keys_at_end st start (history ++ acts) matches asked k (let n = length-append history acts in omega (arith, n, few, more))
  | inr less ↦ subst (λ (l : List Action). KeysDiffer (contents_after start l)) (sym (take-append-le k history acts less)) (before k)
]
