-- Turns, by what is changed of the call.
use Rattle.std.proofs.Common.{◌≡◌, ℕ, ◌<◌, ◌≤◌, ◌==◌, Bool, true, false, true≢false, Some, Ok, List, [], ◌∷◌, ◌++◌, length, slice_get, refl, sym, ap, subst, inl, inr, ◌∙◌, eq-eqb}
use Rattle.std.proofs.lemmas.Cmp.{tied_itself}
use Rattle.index_model.specs.Order.{bound_cmp}
use Rattle.split_finish.proofs.Imports.{eqb-true, is_eq, bounds_total, Bound, Page, Live, State, Node, nodes_of, HasTree, node_there, Position, bound_aim, is_within, walk_length, FinishStands}
use Rattle.split_finish.proofs.Imports.{FinishInvariant, OnlyTargetsAreIncomplete, targets_of, is_among_targets, is_as_read, is_ready, detour, walk_left, Turned, TurnContinues, Popped, Pushed}
use Rattle.split_finish.proofs.Imports.{Retaken, is_incomplete, FinishStep, Going, Done, FinishAt, Down, FinishOp, Target, false≢true, or_cases, or_left, or_right}
use Rattle.split_finish.proofs.Counting.{left, less_pushed, less_popped, less_retaken, over_alone}
use Rattle.split_finish.proofs.Standing.{fits_moved, rises_to, fits_popped, fits_retaken, incomplete_in}

-- the same targets, and another step
pub turn_moved : (st : State) (op : FinishOp) (context at : FinishAt) → op.at ≡ context
    → left st.format.pages (nodes_of st.pages) op.below.items op.target at < left st.format.pages (nodes_of st.pages) op.below.items op.target context
    → (HasTree st → (fits : FinishInvariant st op) → FinishStands st fits.start op.target context → FinishStands st fits.start op.target at)
    → TurnContinues st op (record op { at = at })
turn_moved st op context at is less stands = record {
  less = subst (λ (a : FinishAt). left st.format.pages (nodes_of st.pages) op.below.items op.target at < left st.format.pages (nodes_of st.pages) op.below.items op.target a) (sym is) less;
  fits = λ h fits. fits_moved st op at fits (stands h fits (subst (FinishStands st fits.start op.target) is fits.stands));
  flags = λ h. h;
}

pub among_more : (xs ys : List Target) (block : ℕ) → is_among_targets xs block ≡ true → is_among_targets (xs ++ ys) block ≡ true
among_more [] ys block h = absurd cc
among_more (x ∷ xs) ys block h =
    elim (or_cases (x.block == block) (is_among_targets xs block) h) [
      | inl k ↦ or_left (x.block == block) _ k
      | inr k ↦ or_right (x.block == block) _ (among_more xs ys block k)
    ]

-- a target other than the last one is among those before it
pub among_fewer : (xs : List Target) (y : Target) (block : ℕ) → is_among_targets (xs ++ y ∷ []) block ≡ true → (y.block ≡ block → ⊥) → is_among_targets xs block ≡ true
among_fewer [] y block h ne =
    elim (or_cases (y.block == block) false h) [
      | inl k ↦ absurd (ne (eqb-true y.block block k))
      | inr k ↦ absurd cc
    ]
among_fewer (x ∷ xs) y block h ne =
    elim (or_cases (x.block == block) (is_among_targets (xs ++ y ∷ []) block) h) [
      | inl k ↦ or_left (x.block == block) _ k
      | inr k ↦ or_right (x.block == block) _ (among_fewer xs y block k ne)
    ]

-- another target of the same block
pub among_same : (xs : List Target) (y z : Target) (block : ℕ) → z.block ≡ y.block → is_among_targets (xs ++ y ∷ []) block ≡ true → is_among_targets (xs ++ z ∷ []) block ≡ true
among_same [] y z block same h = rw same h
among_same (x ∷ xs) y z block same h =
    elim (or_cases (x.block == block) (is_among_targets (xs ++ y ∷ []) block) h) [
      | inl k ↦ or_left (x.block == block) _ k
      | inr k ↦ or_right (x.block == block) _ (among_same xs y z block same k)
    ]

-- a bound is itself
pub same_bound : (b : Bound) → is_eq (bound_cmp b b) ≡ true
same_bound b = ap is_eq (tied_itself bounds_total b)

-- a page that was read is as it was read
pub as_read : (st : State) (target : Target) (page : Page) → slice_get st.pages target.block ≡ Some page → page.split ≡ true → page.high ≡ Some target.separator
    → is_as_read (nodes_of st.pages) target ≡ true
as_read st target page found incomplete high =
    rw (node_there st.pages target.block page found, incomplete, high) (same_bound target.separator)

pub turn_risen : (st : State) (op after : FinishOp) (position : Position) (page : Page) (separator : Bound) → op.at ≡ Down position
    → Pushed (record { block = position.block; level = position.level; separator = separator }) op after
    → slice_get st.pages position.block ≡ Some page → page.state ≡ Live → page.split ≡ true → page.high ≡ Some separator → length op.below.items < 31
    → TurnContinues st op after
turn_risen st op after position page separator is pushed found alive incomplete high few =
    let newer : Target = record { block = position.block; level = position.level; separator = separator } in
    let list : targets_of after ≡ targets_of op ++ newer ∷ [] = rw (pushed.below_is, pushed.target_is) refl in
    record {
      less = rw (pushed.below_is, pushed.target_is, pushed.at_is) (less_pushed st.format.pages (nodes_of st.pages) op.below.items op.target newer op.at (as_read st newer page found incomplete high) few);
      fits = λ h fits. rises_to st op after position page separator h fits pushed (subst (FinishStands st fits.start op.target) is fits.stands) found alive high;
      flags = λ h block k. subst (λ (ts : List Target). is_among_targets ts block ≡ true) (sym list) (among_more (targets_of op) (newer ∷ []) block (h block k));
    }

-- the page may take a downlink
pub ready_page : (st : State) (block level : ℕ) (separator : Bound) (page : Page) → slice_get st.pages block ≡ Some page → page.state ≡ Live → page.split ≡ false → page.level ≡ level
    → is_within (bound_aim separator) page.high ≡ true → is_ready (nodes_of st.pages block) level separator ≡ true
ready_page st block level separator page found alive whole is within =
    rw (node_there st.pages block page found, alive, whole, eq-eqb page.level level is, within) refl

-- if only targets had incomplete splits, and the newest has none, only those below it have
pub flags_popped : (old new : State) (before after : FinishOp) → Popped before after Going → OnlyTargetsAreIncomplete old (targets_of before)
    → ((block : ℕ) → is_incomplete new block ≡ true → (is_incomplete old block ≡ true) × (before.target.block ≡ block → ⊥)) → OnlyTargetsAreIncomplete new (targets_of after)
flags_popped old new before after popped h were block k =
    subst (λ (ts : List Target). is_among_targets ts block ≡ true) popped.list_is
    (among_fewer before.below.items before.target block (h block (were block k).0) (were block k).1)

pub flags_gone : (old new : State) (before after : FinishOp) → Popped before after Done → OnlyTargetsAreIncomplete old (targets_of before)
    → ((block : ℕ) → is_incomplete new block ≡ true → (is_incomplete old block ≡ true) × (before.target.block ≡ block → ⊥)) → (block : ℕ) → is_incomplete new block ≡ false
flags_gone old new before after popped h were block = by (is_incomplete new block) refl
  where
    by : (b : Bool) → is_incomplete new block ≡ b → is_incomplete new block ≡ false
    by false is = is
    by true is = absurd (false≢true (subst (λ (ts : List Target). is_among_targets ts block ≡ true) popped.0
        (among_fewer before.below.items before.target block (h block (were block is).0) (were block is).1)))

whole_is : (st : State) (block : ℕ) (page : Page) → slice_get st.pages block ≡ Some page → page.split ≡ false → is_incomplete st block ≡ false
whole_is st block page found whole = ap (λ (n : Node). n.split) (node_there st.pages block page found) ∙ whole

pub stale_is : (st : State) (target : Target) (page : Page) → slice_get st.pages target.block ≡ Some page → page.split ≡ false → is_as_read (nodes_of st.pages) target ≡ false
stale_is st target page found whole = rw (node_there st.pages target.block page found, whole) refl

-- the newest target's page has no incomplete split
pub turn_popped : (st : State) (op after : FinishOp) (step : FinishStep) (page : Page) → Popped op after step → slice_get st.pages op.target.block ≡ Some page → page.split ≡ false
    → Turned st op after (Ok step)
turn_popped st op after Going page popped found whole = record {
  less = rw popped.at_is
      (less_popped st.format.pages (nodes_of st.pages) op.below.items op.target after.below.items after.target op.at popped.list_is (stale_is st op.target page found whole) popped.few);
  fits = λ h fits. fits_popped st op after fits.start popped fits.session fits.free fits.running fits.below;
  flags = λ h. flags_popped st st op after popped h (λ block k. (k, λ same. true≢false (sym k ∙ ap (is_incomplete st) (sym same) ∙ whole_is st op.target.block page found whole)));
}
turn_popped st op after Done page popped found whole = record {
  over = rw popped.0 (over_alone st.format.pages (nodes_of st.pages) op.target op.at (stale_is st op.target page found whole));
  flags = λ h. flags_gone st st op after popped h (λ block k. (k, λ same. true≢false (sym k ∙ ap (is_incomplete st) (sym same) ∙ whole_is st op.target.block page found whole)));
}

-- the newest target's page has another high key
pub stale_high : (st : State) (target : Target) (page : Page) (high : Bound) → slice_get st.pages target.block ≡ Some page → page.split ≡ true → page.high ≡ Some high
    → is_eq (bound_cmp high target.separator) ≡ false → is_as_read (nodes_of st.pages) target ≡ false
stale_high st target page high found incomplete is other = rw (node_there st.pages target.block page found, incomplete, is) other

pub turn_retaken : (st : State) (op after : FinishOp) (separator : Bound) (at : FinishAt) (page : Page) → Retaken separator at op after
    → slice_get st.pages op.target.block ≡ Some page → page.split ≡ true → page.high ≡ Some separator → is_eq (bound_cmp separator op.target.separator) ≡ false → length op.below.items ≤ 31
    → detour (nodes_of st.pages) (record op.target { separator = separator }) at ≡ 0 → walk_left st.format.pages at ≤ walk_length st.format.pages
    → ((start : ℕ) (target : Target) → FinishStands st start target at) → TurnContinues st op after
turn_retaken st op after separator at page taken found incomplete high other few straight short stands =
    let newer : Target = record op.target { separator = separator } in
    record {
      less = rw (taken.target_is, taken.below_is, taken.at_is) (less_retaken st.format.pages (nodes_of st.pages) op.below.items op.target newer op.at at
          (stale_high st op.target page separator found incomplete high other) (as_read st newer page found incomplete high) straight short few);
      fits = λ h fits. fits_retaken st op after separator at page h fits taken found (incomplete_in st op.target.block page h found incomplete).1 high (stands fits.start after.target);
      flags = λ h block k. rw (taken.target_is, taken.below_is) (among_same op.below.items op.target newer block refl (h block k));
    }
