-- What a step does to the pages, over histories; and the end of a call, which lets go what its session held.
use Rattle.std.proofs.Common.{◌≡◌, ◌⊎◌, inl, inr, ℕ, suc, ◌<◌, Bool, true, false, true≢false, Option, Some, None, List, [], ◌∷◌, ◌++◌, length, refl, sym, ap, subst, ◌∙◌, arith, length-append, length-set}
use Rattle.latch_table.specs.Holdings.{Holding, nothing_held, latches_exclude}
use Rattle.latch_table.specs.declared.mode.Mode.TheVariants.{Shared}
use Rattle.latch_table.proofs.Tables.{length-with_holding, holding_of-with_holding, holding_of-with_holding_other}
use Rattle.page_codec.specs.declared.page.PageState.{PageState}
use Rattle.tree_acts.specs.Lows.{NoLowRises}
use Rattle.descent.proofs.Tables.{apart_nothing}
use Rattle.session_calls.proofs.Imports.{unwrap_or, append-nil, Effect, Add, Remove, Shape, Action, said_of, Entry, contents_after-append, State, after_end, after_stop_cycle, Page, OneStateMoves}
use Rattle.session_calls.proofs.Imports.{OneLeafDies, OneLeafIsDeleted, IsLeafAt, WasLeaf, LeafPagesStay, lows_same, IsRaised, NumbersStay, IsInOrder, MayRely, OthersRely, MovesFlags, level_in}
use Rattle.session_calls.proofs.Imports.{StepEffect, DeletesLeaves, CleanupEffect, nothing_else, Ask, AskInsert, AskScan, AskBulkDelete, AskCleanup, PinnedLeafPagesStay, DeadSets, acts_of}
use Rattle.session_calls.proofs.Imports.{asked_of, is_bulk_delete, Matches, IsIdle, HasStarted, let_go, cycle_after, asks_cleanup, MovesShape, CallEffect, Op, Insert, Scan, Bulk, Cleanup}
use Rattle.session_calls.proofs.Lists.{get_set_same, get_set_other}
use Rattle.session_calls.proofs.Starting.{starts_kept, starts_ended, tree_ended}

-- with no effect no flag moves, and no leaf is deleted
shape_none : (ask : Ask) (old new : State) → MovesShape ask None old new
shape_none AskCleanup old new = tt
shape_none (AskInsert e) old new = tt
shape_none (AskScan range) old new = tt
shape_none (AskBulkDelete dead) old new = tt

shape_of : (ask : Ask) (effect : Option Effect) (old new : State) → asks_cleanup ask ≡ false → MovesFlags effect old new → MovesShape ask effect old new
shape_of AskCleanup effect old new other h = absurd (true≢false other)
shape_of (AskInsert e) effect old new other h = h
shape_of (AskScan range) effect old new other h = h
shape_of (AskBulkDelete dead) effect old new other h = h

leaf_on : (effect : Option Effect) (old new : State) → LeafPagesStay effect old new → (block : ℕ) (page : Page) → IsLeafAt old.pages block page → WasLeaf new.pages block
leaf_on effect old new stay block page at = (let go = stay.each block page at in record { page = go.new; was = go.there })

-- a step of an operation that is no cleanup
pub works_on : (session : ℕ) (ask : Ask) (effect : Option Effect) (old new : State) → asks_cleanup ask ≡ false → StepEffect session effect old new → CallEffect session ask effect old new
works_on session ask effect old new other does = record {
  changes = does.changes;
  shape = shape_of ask effect old new other does.flags;
  leaves = λ same. does.leaves;
  pinned = λ o block page differ at pin. leaf_on effect old new does.leaves block page at;
  cycle = does.leaves.cycle;
  format = does.format;
  frames = does.frames;
  begun = does.begun;
  running = does.running;
  order = does.order;
  others = does.others;
}

-- ... of a cleanup
pub works_cleaning : (session : ℕ) (effect : Option Effect) (old new : State) → CleanupEffect session effect old new → PinnedLeafPagesStay session old new → CallEffect session AskCleanup effect old new
works_cleaning session effect old new does pinned = record {
  changes = does.changes;
  shape = does.deletes;
  leaves = λ other. absurd (true≢false other);
  pinned = pinned;
  cycle = does.cycle;
  format = does.format;
  frames = does.frames;
  begun = does.begun;
  running = does.running;
  order = does.order;
  others = does.others;
}

-- ... that changes nothing
pub works_nothing : (session : ℕ) (ask : Ask) (old new : State) → new ≡ old → IsInOrder old → CallEffect session ask None old new
works_nothing session ask old new same order =
    let does = nothing_else session old new same order in
    record {
      changes = does.changes;
      shape = shape_none ask old new;
      leaves = λ other. does.leaves;
      pinned = λ o block page differ at pin. leaf_on None old new does.leaves block page at;
      cycle = does.leaves.cycle;
      format = does.format;
      frames = does.frames;
      begun = does.begun;
      running = does.running;
      order = does.order;
      others = does.others;
    }

-- the pages match the history with the event's action
pub matches_after : (session : ℕ) (ask : Ask) (effect : Option Effect) (old new : State) (start : Entry → Bool) (history : List Action) (number : ℕ)
    → Matches old start history → CallEffect session ask effect old new → Matches new start (history ++ acts_of number effect)
matches_after session ask None old new start history number m does = subst (λ (l : List Action). Matches new start l) (sym (append-nil history)) (record {
  contents = λ e. rw does.changes (m.contents e);
  count = ap (λ (st : State). st.acts) does.changes ∙ m.count;
  order = does.order;
  starts = starts_kept old new does.running does.begun m.starts;
})
matches_after session ask (Some effect) old new start history number m does = record {
  contents = λ e. does.changes.contents e ∙ ap (unwrap_or (said_of effect e)) (m.contents e)
      ∙ sym (contents_after-append start history (record { by = number; effect = effect } ∷ []) e);
  count = does.changes.acts ∙ ap suc m.count ∙ sym (length_more effect);
  order = does.order;
  starts = starts_kept old new does.running does.begun m.starts;
}
  where
    length_more : (x : Effect) → length (history ++ acts_of number (Some x)) ≡ suc (length history)
    length_more x = omega (arith, length-append history (acts_of number (Some x)))

-- a call goes on having its start number
pub started_after : (session of : ℕ) (ask : Ask) (effect : Option Effect) (old new : State) → CallEffect session ask effect old new → HasStarted old of → HasStarted new of
started_after session of ask effect old new does h = record { number = h.number; is = rw does.running h.is }

-- what may be relied on over a step, and over what changes no page after it
pub rely_trans : (session : ℕ) (a b c : State) → c.pages ≡ b.pages → MayRely session a b → MayRely session b c → MayRely session a c
rely_trans session a b c same one two = record {
  held = two.held ∙ one.held;
  number = two.number ∙ one.number;
  pages = λ block alone. two.pages block (ap (λ (h : Holding). latches_exclude h.latches block Shared) one.held ∙ alone) ∙ one.pages block alone;
  numbers = λ start runs.
      let first = one.numbers start runs in
      let then = two.numbers start (one.number ∙ runs) in
      record {
        places = λ level aim clear block aims place. then.places level aim clear block aims (first.places level aim clear block aims place);
        trails = λ level block moves trail. then.trails level block moves (first.trails level block moves trail);
      };
  lows = subst (NoLowRises a.pages) (sym same) one.lows;
}

-- a step with no effect leaves the pages
pub pages_stay : (session : ℕ) (ask : Ask) (old new : State) → CallEffect session ask None old new → new.pages ≡ old.pages
pages_stay session ask old new does = ap (λ (st : State). st.pages) does.changes

-- the numbers that calls keep depend on the pages alone
ended_numbers : (st : State) (session start : ℕ) → NumbersStay start st (after_end session st)
ended_numbers st session start = record {
  places = λ level aim clear block aims place. record { tree = place.tree; in_tree = place.in_tree; place = place.place };
  trails = λ level block moves trail.
      record { tree = trail.tree; in_tree = trail.in_tree; passed = trail.passed; count = trail.count; distinct = trail.distinct; steps = trail.steps; trail = trail.trail };
}

ended_raised : (old new : State) (session level : ℕ) (raised : Option ℕ) → IsRaised old new level raised → IsRaised old (after_end session new) level raised
ended_raised old new session level None h = tt
ended_raised old new session level (Some b) h = h

-- flags are of the pages alone
pub ended_flags : (old new : State) (session : ℕ) (effect : Option Effect) → MovesFlags effect old new → MovesFlags effect old (after_end session new)
ended_flags old new session None h = tt
ended_flags old new session (Some (Add e)) h = record { raised = h.raised; leaf = ended_raised old new session 0 h.raised h.leaf; moves = h.moves; most = h.most }
ended_flags old new session (Some (Remove es)) h = h
ended_flags old new session (Some Shape) h =
    record { cleared = h.cleared; was = h.was; raised = h.raised; higher = ended_raised old new session (suc (level_in new h.cleared)) h.raised h.higher; moves = h.moves; less = h.less }

pub ended_order : (st : State) (session : ℕ) → session < 64 → IsInOrder st → IsInOrder (after_end session st)
ended_order st session low order =
    let many : length st.table ≡ 64 = order.holdings in
    let calls : length st.running ≡ 64 = order.calls in
    record {
      tree = tree_ended st session (omega arith) order.tree;
      apart = apart_nothing st.table session (omega arith) order.apart;
      holdings = length-with_holding st.table session nothing_held ∙ many;
      calls = length-set {A = Option ℕ} st.running session None ∙ calls;
    }

pub ended_matches : (st : State) (session : ℕ) (start : Entry → Bool) (history : List Action) → session < 64 → Matches st start history → Matches (after_end session st) start history
ended_matches st session start history low m = record {
  contents = m.contents;
  count = m.count;
  order = ended_order st session low m.order;
  starts = (let many : length st.running ≡ 64 = m.order.calls in starts_ended st session (omega arith) m.starts);
}

pub ended_others : (old st : State) (session : ℕ) → OthersRely session old st → OthersRely session old (after_end session st)
ended_others old st session rely other differ = rely_trans other old st (after_end session st) refl (rely other differ) (record {
  held = holding_of-with_holding_other st.table session other nothing_held differ;
  number = get_set_other st.running session other None differ;
  pages = λ block alone. refl;
  numbers = λ start runs. ended_numbers st session start;
  lows = lows_same st.pages;
})

-- a session whose call has ended is idle
pub ended_idle : (session : ℕ) (st : State) → session < 64 → IsInOrder st → IsIdle (after_end session st) session
ended_idle session st low order =
    let many : length st.table ≡ 64 = order.holdings in
    let calls : length st.running ≡ 64 = order.calls in
    record {
      holds = holding_of-with_holding st.table session nothing_held (omega arith);
      number = ap (λ (o : Option (Option ℕ)). unwrap_or o None) (get_set_same st.running session None (omega arith));
    }

-- that no bulk delete runs any more, is of the cycle number alone
stopped_order : (st : State) → IsInOrder st → IsInOrder (after_stop_cycle st)
stopped_order st order = record {
  tree = record { tree = order.tree.tree; stored = order.tree.stored; counted = order.tree.counted; within = order.tree.within; lead = order.tree.lead; unique = order.tree.unique };
  apart = order.apart;
  holdings = order.holdings;
  calls = order.calls;
}

stopped_numbers : (st : State) (start : ℕ) → NumbersStay start st (after_stop_cycle st)
stopped_numbers st start = record {
  places = λ level aim clear block aims place. record { tree = place.tree; in_tree = place.in_tree; place = place.place };
  trails = λ level block moves trail.
      record { tree = trail.tree; in_tree = trail.in_tree; passed = trail.passed; count = trail.count; distinct = trail.distinct; steps = trail.steps; trail = trail.trail };
}

stopped_raised : (old new : State) (level : ℕ) (raised : Option ℕ) → IsRaised old new level raised → IsRaised old (after_stop_cycle new) level raised
stopped_raised old new level None h = tt
stopped_raised old new level (Some b) h = h

stopped_flags : (old new : State) (effect : Option Effect) → MovesFlags effect old new → MovesFlags effect old (after_stop_cycle new)
stopped_flags old new None h = tt
stopped_flags old new (Some (Add e)) h = record { raised = h.raised; leaf = stopped_raised old new 0 h.raised h.leaf; moves = h.moves; most = h.most }
stopped_flags old new (Some (Remove es)) h = h
stopped_flags old new (Some Shape) h =
    record { cleared = h.cleared; was = h.was; raised = h.raised; higher = stopped_raised old new (suc (level_in new h.cleared)) h.raised h.higher; moves = h.moves; less = h.less }

-- what holds after a call has ended, be it a bulk delete or not
pub go_matches : (v : Bool) (st : State) (session : ℕ) (start : Entry → Bool) (history : List Action) → session < 64 → Matches st start history → Matches (let_go v session st) start history
go_matches false st session start history low m = ended_matches st session start history low m
go_matches true st session start history low m =
    let k = ended_matches st session start history low m in
    record {
      contents = k.contents;
      count = k.count;
      order = stopped_order (after_end session st) k.order;
      starts = starts_kept (after_end session st) (after_stop_cycle (after_end session st)) refl refl k.starts;
    }

go_flags : (v : Bool) (old new : State) (session : ℕ) (effect : Option Effect) → MovesFlags effect old new → MovesFlags effect old (let_go v session new)
go_flags false old new session effect h = ended_flags old new session effect h
go_flags true old new session effect h = stopped_flags old (after_end session new) effect (ended_flags old new session effect h)

-- states of pages are of the pages alone, and so is what leads on
go_state : (v : Bool) (was is : PageState) (old new : State) (session : ℕ) → OneStateMoves was is old new → OneStateMoves was is old (let_go v session new)
go_state false was is old new session h = record { block = h.block; used = h.used; inside = h.inside; before = h.before; after = h.after; others = h.others }
go_state true was is old new session h = record { block = h.block; used = h.used; inside = h.inside; before = h.before; after = h.after; others = h.others }

go_leaf : (v : Bool) (old new : State) (session : ℕ) → OneLeafDies old new ⊎ OneLeafIsDeleted old new → OneLeafDies old (let_go v session new) ⊎ OneLeafIsDeleted old (let_go v session new)
go_leaf v old new session (inl dies) = inl (go_state v _ _ old new session dies)
go_leaf v old new session (inr goes) = inr (go_state v _ _ old new session goes)

go_deletes : (v : Bool) (old new : State) (session : ℕ) (effect : Option Effect) → DeletesLeaves effect old new → DeletesLeaves effect old (let_go v session new)
go_deletes v old new session None h = tt
go_deletes v old new session (Some (Add e)) h = h
go_deletes v old new session (Some (Remove es)) h = h
go_deletes false old new session (Some Shape) h =
    record { leaf = go_leaf false old new session h.leaf; flags = record { flags = h.flags.flags; weight = h.flags.weight }; links = h.links }
go_deletes true old new session (Some Shape) h =
    record { leaf = go_leaf true old new session h.leaf; flags = record { flags = h.flags.flags; weight = h.flags.weight }; links = h.links }

pub go_shape : (v : Bool) (ask : Ask) (old new : State) (session : ℕ) (effect : Option Effect) → MovesShape ask effect old new → MovesShape ask effect old (let_go v session new)
go_shape v AskCleanup old new session effect h = go_deletes v old new session effect h
go_shape v (AskInsert e) old new session effect h = go_flags v old new session effect h
go_shape v (AskScan range) old new session effect h = go_flags v old new session effect h
go_shape v (AskBulkDelete dead) old new session effect h = go_flags v old new session effect h

pub go_pinned : (v : Bool) (old new : State) (session : ℕ) → PinnedLeafPagesStay session old new → PinnedLeafPagesStay session old (let_go v session new)
go_pinned false old new session h = h
go_pinned true old new session h = h

pub go_others : (v : Bool) (old st : State) (session : ℕ) → OthersRely session old st → OthersRely session old (let_go v session st)
go_others false old st session rely other differ = ended_others old st session rely other differ
go_others true old st session rely other differ = rely_trans other old (after_end session st) (after_stop_cycle (after_end session st)) refl (ended_others old st session rely other differ) (record {
  held = refl;
  number = refl;
  pages = λ block alone. refl;
  numbers = λ start runs. stopped_numbers (after_end session st) start;
  lows = lows_same st.pages;
})

pub go_idle : (v : Bool) (session : ℕ) (st : State) → session < 64 → IsInOrder st → IsIdle (let_go v session st) session
go_idle false session st low order = ended_idle session st low order
go_idle true session st low order = (let k = ended_idle session st low order in record { holds = k.holds; number = k.number })

pub go_format : (v : Bool) (session : ℕ) (st : State) → (let_go v session st).format ≡ st.format
go_format false session st = refl
go_format true session st = refl

pub go_frames : (v : Bool) (session : ℕ) (st : State) → (let_go v session st).frames ≡ st.frames
go_frames false session st = refl
go_frames true session st = refl

pub go_pages : (v : Bool) (session : ℕ) (st : State) → (let_go v session st).pages ≡ st.pages
go_pages false session st = refl
go_pages true session st = refl

-- leaves stay, as the pages do
pub go_leaves : (v : Bool) (old mid : State) (session : ℕ) (effect : Option Effect) → LeafPagesStay effect old mid
    → (let_go v session mid).cycle ≡ old.cycle → LeafPagesStay effect old (let_go v session mid)
go_leaves false old mid session effect h same = record { cycle = same; each = h.each; others = h.others }
go_leaves true old mid session effect h same = record { cycle = same; each = h.each; others = h.others }

-- the end of a bulk delete alone moves the cycle number
pub go_cycle : (sets : DeadSets) (op : Op) (mid : State) (session cycle : ℕ) → mid.cycle ≡ cycle → (let_go (is_bulk_delete op) session mid).cycle ≡ cycle_after (asked_of sets op) None cycle
go_cycle sets (Insert op) mid session cycle same = same
go_cycle sets (Scan op) mid session cycle same = same
go_cycle sets (Bulk set op) mid session cycle same = refl
go_cycle sets (Cleanup op) mid session cycle same = same

pub cycle_stays : (ask : Ask) (op : Op) (cycle : ℕ) → cycle ≡ cycle_after ask (Some op) cycle
cycle_stays (AskInsert e) op cycle = refl
cycle_stays (AskScan range) op cycle = refl
cycle_stays (AskBulkDelete dead) op cycle = refl
cycle_stays AskCleanup op cycle = refl
