-- An insert that comes to its leaf, and takes it.
use Rattle.std.proofs.Common.{[], ◌≡◌, ℕ, suc, ◌<◌, true, false, true≢false, Option, Some, None, Result, Ok, Err, ◌∷◌, length, slice_get, refl, sym, ap, subst, inr, ◌∙◌, arith}
use Rattle.insert_split.proofs.Imports.{HasCause, Fault, Blocked, Holding, Table, holding_of, nothing_held, latched, pinned, is_held_by_another, Exclusive, length-latched, length-pinned}
use Rattle.insert_split.proofs.Imports.{holding_of-latched, holding_of-pinned, holding_of-latched_other, holding_of-pinned_other, IsPage, Page, Live, State, Continues, with_table, Ghosts}
use Rattle.insert_split.proofs.Imports.{entry_aim, is_within, MayHold, LeadsTo, live_shows, IsInOrder, StepEffect, AreApart, Position, holds_else, one_table, place_held_else, apart_latched}
use Rattle.insert_split.proofs.Imports.{apart_pins, held_cause, is_among_targets, is_incomplete, leaf_held, IsLeafFor, InsertInvariant, InsertSteps, insert_left, targets_at, causes_of_inserting}
use Rattle.insert_split.proofs.Imports.{IsStraight, straight_steps, IsNotTaken, Takes, InsertAt, Coming, At, Holds, InsertOp, InsertStep, Going, Added}
use Rattle.insert_split.proofs.Steps.{refuses, runs_no_more}
use Rattle.insert_split.proofs.Walking.{on_way, to_come_there, reading_cause, leaf_items, up_to_within, place_in_use}

-- the leaf latched exclusively
abbrev held_of : Holding → ℕ → Holding
held_of was block = record { latches = record { block = block; mode = Exclusive } ∷ was.latches; pins = was.pins }

-- taking a leaf that nobody else holds changes nothing else
pub takes_leaf : (old new : State) (session block : ℕ) → session < 64 → IsInOrder old → holding_of old.table session ≡ nothing_held → is_held_by_another old.table session block Exclusive ≡ false
    → new ≡ with_table old (pinned (latched old.table session block Exclusive) session block) → StepEffect session None old new × (holding_of new.table session ≡ leaf_held block)
takes_leaf old new session block low order nothing free is =
    let many : length old.table ≡ 64 = order.holdings in
    let below : session < length old.table = omega arith in
    let mid : Table = latched old.table session block Exclusive in
    let mid_many : length mid ≡ length old.table = length-latched old.table session block Exclusive in
    let mid_below : session < length mid = omega arith in
    let mid_apart : AreApart mid = apart_latched old.table session block Exclusive below order.apart free in
    let mid_held : holding_of mid session ≡ held_of nothing_held block = holding_of-latched old.table session block Exclusive below ∙ ap (λ (h : Holding). held_of h block) nothing in
    let room : length (holding_of mid session).pins < 2 = subst (λ (h : Holding). length h.pins < 2) (sym mid_held) (omega arith) in
    let end : Table = pinned mid session block in
    let end_held : holding_of end session ≡ leaf_held block = holding_of-pinned mid session block mid_below room
    ∙ ap (λ (h : Holding). let k : Holding = record { latches = h.latches; pins = block ∷ h.pins } in k) mid_held in (
      holds_else session old new end is order
          (apart_pins mid session _ mid_below mid_apart)
          (length-pinned mid session block ∙ mid_many ∙ many)
          (λ other differ. holding_of-pinned_other mid session other block differ ∙ holding_of-latched_other old.table session other block Exclusive differ),
      ap (λ (st : State). holding_of st.table session) is ∙ end_held,
    )

-- a step that takes the leaf, or doesn't
pub takes : {S : Type 0} (g : Ghosts S) (before after : InsertOp) (old mid new : S) (page : Page) (position : Position) (result : Result InsertStep Fault)
    → Continues g.follows old new → g.state mid ≡ g.state old → g.backing new ≡ g.backing mid
    → (g.backing old).stopped ≡ false → before.at ≡ Coming (At position)
    → (InsertInvariant (g.state old) before → Takes page.block before after (g.state mid) (g.state new) result)
    → (result ≡ Ok Going
    → (g.state new ≡ with_table (g.state mid) (pinned (latched (g.state mid).table before.session page.block Exclusive) before.session page.block))
    × (after ≡ record before { at = Coming (Holds page.block) }))
    → ((fault : Fault) → result ≡ Err fault → (g.state new ≡ g.state mid) × (after ≡ before))
    → ((action : ℕ) (unfinished : Option Fault) → result ≡ Ok (Added action unfinished) → ⊥)
    → page.block ≡ position.block → IsPage page → page.state ≡ Live → page.split ≡ false → is_within (entry_aim before.entry) page.high ≡ true
    → ((g.backing new).honest ≡ true → slice_get (g.state old).pages position.block ≡ Some page)
    → ((g.backing new).honest ≡ true → IsInOrder (g.state old) → InsertInvariant (g.state old) before → position.level ≡ 0)
    → InsertSteps g before after old new result
takes g before after old mid new page position (Ok Going) steps same backing alive at_is told moved stays none block_is admitted live whole within found ground = record {
  steps = steps;
  session = ap (λ (o : InsertOp). o.session) is;
  entry = ap (λ (o : InsertOp). o.entry) is;
  kept = one_table st (g.state new) table now;
  refused = tt;
  stopped = λ h. runs_no_more (g.backing old).stopped alive h;
  less = λ honest going acts. fewer;
  stepped = λ honest order fits.
      let stands = on_way st before position at_is fits in
      let free : is_held_by_another st.table before.session page.block Exclusive ≡ false =
      subst (λ (s : State). is_held_by_another s.table before.session page.block Exclusive ≡ false) same (told fits).free in
      let taken = takes_leaf st (g.state new) before.session page.block fits.session order stands.0 free now in
      let place : LeadsTo st fits.start 0 (entry_aim before.entry) true page.block =
      subst (λ (l : ℕ). LeadsTo st fits.start l (entry_aim before.entry) true page.block) (ground honest order fits)
      (subst (LeadsTo st fits.start position.level (entry_aim before.entry) true) (sym block_is) stands.1.place) in
      let there : slice_get st.pages page.block ≡ Some page = subst (λ (b : ℕ). slice_get st.pages b ≡ Some page) (sym block_is) (found honest) in
      let arrival = live_shows st fits.start 0 (entry_aim before.entry) true page order.tree there place live in
      record {
        effect = None;
        does = taken.0;
        noted = ap (λ (o : InsertOp). o.added) is;
        fits = subst (InsertInvariant (g.state new)) (sym is) (record {
          session = fits.session;
          start = fits.start;
          running = subst (λ (s : State). slice_get s.running before.session ≡ Some (Some fits.start)) (sym now) fits.running;
          stands = (
            taken.1,
            subst (λ (s : State). IsLeafFor s fits.start before.entry page.block) (sym now) (record {
              page = page;
              found = there;
              alive = live;
              leaf = arrival.level_is;
              whole = whole;
              place = place_held_else st table fits.start 0 (entry_aim before.entry) true page.block place;
              within = within;
            }),
          );
          to_come = to_come_there before position at_is fits.to_come;
        });
        flags = λ only b incomplete. absurd (
            let was : is_among_targets (targets_at before.at) b ≡ true = only b (subst (λ (s : State). is_incomplete s b ≡ true) now incomplete) in
            let k : false ≡ true = subst (λ (a : InsertAt). is_among_targets (targets_at a) b ≡ true) at_is was in true≢false (sym k));
      };
  straight = λ honest order fits whole_pages on room. (
    subst (λ (o : InsertOp). IsStraight (g.state new) o.entry o.at) (sym is) tt,
    subst (λ (o : InsertOp). suc (straight_steps (g.state new).pages o.at) ≡ straight_steps st.pages before.at) (sym is)
        (subst (λ (a : InsertAt). 2 ≡ straight_steps st.pages a) (sym at_is) (let z = ground honest order fits in omega (arith, z))),
  );
}
  where
    st : State
    st = g.state old

    table : Table
    table = pinned (latched st.table before.session page.block Exclusive) before.session page.block

    is : after ≡ record before { at = Coming (Holds page.block) }
    is = (moved refl).1

    now : g.state new ≡ with_table st table
    now = (moved refl).0 ∙ ap (λ (s : State). with_table s (pinned (latched s.table before.session page.block Exclusive) before.session page.block)) same

    less_there : insert_left st.format.pages st.pages (Coming (Holds page.block)) < insert_left st.format.pages st.pages (Coming (At position))
    less_there = omega arith

    fewer : insert_left (g.state new).format.pages (g.state new).pages after.at < insert_left st.format.pages st.pages before.at
    fewer = subst (λ (s : State). insert_left s.format.pages s.pages after.at < insert_left st.format.pages st.pages before.at) (sym now)
        (subst (λ (o : InsertOp). insert_left st.format.pages st.pages o.at < insert_left st.format.pages st.pages before.at) (sym is)
        (subst (λ (a : InsertAt). insert_left st.format.pages st.pages (Coming (Holds page.block)) < insert_left st.format.pages st.pages a) (sym at_is) less_there))
takes g before after old mid new page position (Ok (Added action unfinished)) steps same backing alive at_is told moved stays none block_is admitted live
    whole within found ground = absurd (none action unfinished refl)
takes g before after old mid new page position (Err fault) steps same backing alive at_is told moved stays none block_is admitted live whole within found ground =
    let kept = stays fault refl in
    subst (λ (o : InsertOp). InsertSteps g before o old new (Err fault)) (sym kept.1)
    (refuses g before old new fault steps (kept.0 ∙ same) alive (λ honest order fits. why honest order fits (told fits).2))
  where
    st : State
    st = g.state old

    why : (g.backing new).honest ≡ true → (order : IsInOrder st) → (fits : InsertInvariant st before) → IsNotTaken page.block before (g.state mid) fault
        → HasCause (causes_of_inserting st (g.backing old) (g.backing new) before.session before.entry before.at) fault
    why honest order fits held =
        subst (HasCause (causes_of_inserting st (g.backing old) (g.backing new) before.session before.entry before.at)) (sym held.0)
        (reading_cause st (g.backing old) (g.backing new) before position (Blocked page.block) at_is
        (held_cause st (g.backing old) (g.backing new) before.session [] 1 false false page.block Exclusive (inr refl)
        (subst (λ (s : State). is_held_by_another s.table before.session page.block Exclusive ≡ true) same held.1)))

-- the page that a search ends at may hold the entry
pub may_be_held : (st : State) (before : InsertOp) (page : Page) (position : Position) → before.at ≡ Coming (At position) → (order : IsInOrder st) → (fits : InsertInvariant st before)
    → page.block ≡ position.block → IsPage page → page.state ≡ Live → page.split ≡ false → is_within (entry_aim before.entry) page.high ≡ true → slice_get st.pages position.block ≡ Some page → position.level ≡ 0
    → MayHold page before.entry
may_be_held st before page position at_is order fits block_is admitted live whole within found ground =
    let stands = on_way st before position at_is fits in
    let used = place_in_use st order.tree fits.start position.level (entry_aim before.entry) true position.block stands.1.place in
    let place : LeadsTo st fits.start 0 (entry_aim before.entry) true page.block =
    subst (λ (l : ℕ). LeadsTo st fits.start l (entry_aim before.entry) true page.block) ground
    (subst (LeadsTo st fits.start position.level (entry_aim before.entry) true) (sym block_is) stands.1.place) in
    let there : slice_get st.pages page.block ≡ Some page = subst (λ (b : ℕ). slice_get st.pages b ≡ Some page) (sym block_is) found in
    let arrival = live_shows st fits.start 0 (entry_aim before.entry) true page order.tree there place live in
    record {
      leaf = leaf_items page admitted arrival.level_is (subst (λ (b : ℕ). 0 < b) (sym block_is) used.0);
      alive = live;
      whole = whole;
      within = up_to_within page.high before.entry within;
    }
