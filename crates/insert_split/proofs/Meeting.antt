-- An insert that meets a page whose split is to be finished.
use Rattle.std.proofs.Common.{◌≡◌, ℕ, zero, suc, ◌+◌, ◌*◌, ◌<◌, Bool, true, false, true≢false, Some, Result, Ok, Err, List, [], length, slice_get, refl, sym, ap, subst, ◌∙◌, arith}
use Rattle.std.specs.Ordering.{is_eq}
use Rattle.std.specs.Cmp.{tied_itself}
use Rattle.index_model.proofs.Order.{bounds_total}
use Rattle.insert_split.proofs.Imports.{bound_cmp, Bound, Fault, IsPage, Page, Live, State, Continues, Ghosts, node_of, node_from, nodes_of, entry_aim, bound_aim, HasTree, LeadsTo, live_shows}
use Rattle.insert_split.proofs.Imports.{high_key_shows, IsInOrder, Position, holding_of, nothing_held, walk_length, is_as_read, finish_left, is_among_targets, IsTarget, FinishStands}
use Rattle.insert_split.proofs.Imports.{FinishInvariant, FinishOp, FinishStart, Target, InsertInvariant, InsertSteps, insert_left, targets_at, MeetsPage, InsertAt, Coming, Finishing, At, InsertOp}
use Rattle.insert_split.proofs.Imports.{InsertStep, Going, Added}
use Rattle.insert_split.proofs.Steps.{refuses, goes_on, StandsNow}
use Rattle.insert_split.proofs.Walking.{on_way, incomplete_ends}

-- a page as it was read
pub read_at : (pages : List Page) (block : ℕ) (page : Page) → slice_get pages block ≡ Some page → nodes_of pages block ≡ node_of page
read_at pages block page found = ap node_from found

-- a bound is itself
pub bound_same : (b : Bound) → is_eq (bound_cmp b b) ≡ true
bound_same b = rw (tied_itself bounds_total b) refl

-- one fresh target, before its first step
pub one_target_left : (most : ℕ) (pages : List Page) (target : Target) (op : FinishOp) (page : Page) → op.target ≡ target → op.below.items ≡ [] → op.at ≡ FinishStart
    → slice_get pages target.block ≡ Some page → page.split ≡ true → page.high ≡ Some target.separator
    → finish_left most pages op ≡ 32 * suc (walk_length most) + walk_length most
one_target_left most pages target op page is below at found incomplete high =
    let node = read_at pages target.block page found in
    let read : is_as_read (nodes_of pages) target ≡ true = rw (node, incomplete, high) (bound_same target.separator) in
    rw (below, at, is) (rw read refl)

none_got : (i : ℕ) (t : Target) → slice_get [] i ≡ Some t → ⊥
none_got zero t h = cc
none_got (suc i) t h = cc

-- what an insert knows that has one target
pub one_target_fits : (st : State) (start session : ℕ) (aim : Bound → Bool) (position : Position) (page : Page) (target : Target) (op : FinishOp) → HasTree st → session < 64
    → holding_of st.table session ≡ nothing_held → slice_get st.running session ≡ Some (Some start)
    → slice_get st.pages position.block ≡ Some page → page.block ≡ position.block → LeadsTo st start position.level aim true position.block → page.state ≡ Live
    → target.block ≡ position.block → target.level ≡ position.level → page.high ≡ Some target.separator
    → op.session ≡ session → op.target ≡ target → op.below.items ≡ [] → op.at ≡ FinishStart → FinishInvariant st op
one_target_fits st start session aim position page target op tree low free runs found block_is place alive t_block t_level high s_is t_is below at =
    let own : LeadsTo st start position.level (bound_aim target.separator) true page.block = high_key_shows st start position.level aim true page target.separator tree
    (subst (λ (b : ℕ). slice_get st.pages b ≡ Some page) (sym block_is) found) (subst (LeadsTo st start position.level aim true) (sym block_is) place) alive high in
    let there : LeadsTo st start target.level (bound_aim target.separator) true target.block =
    subst (λ (l : ℕ). LeadsTo st start l (bound_aim target.separator) true target.block) (sym t_level)
    (subst (LeadsTo st start position.level (bound_aim target.separator) true) (block_is ∙ sym t_block) own) in
    record {
      session = subst (λ (s : ℕ). s < 64) (sym s_is) low;
      free = subst (λ (s : ℕ). holding_of st.table s ≡ nothing_held) (sym s_is) free;
      start = start;
      running = subst (λ (s : ℕ). slice_get st.running s ≡ Some (Some start)) (sym s_is) runs;
      newest = subst (λ (n : ℕ). IsTarget st start n op.target) (sym (ap (λ (ts : List Target). length ts) below))
          (subst (IsTarget st start 0) (sym t_is) (record { high_enough = omega arith; place = there }));
      below = λ i t got. absurd (none_got i t (sym (ap (λ (ts : List Target). slice_get ts i) below) ∙ got));
      stands = subst (FinishStands st start op.target) (sym at) tt;
    }

-- a step that meets such a page
pub meets : {S : Type 0} (g : Ghosts S) (before after : InsertOp) (old new : S) (page : Page) (position : Position) (result : Result InsertStep Fault) → Continues g.follows old new → g.state new ≡ g.state old
    → (g.backing old).stopped ≡ false → before.at ≡ Coming (At position) → MeetsPage page position before after result
    → page.state ≡ Live → page.split ≡ true → IsPage page → page.block ≡ position.block
    → ((g.backing new).honest ≡ true → slice_get (g.state old).pages position.block ≡ Some page)
    → InsertSteps g before after old new result
meets g before after old new page position (Ok Going) steps same alive at_is h live incomplete admitted block_is found =
    goes_on g before after old new steps same (ap (λ (o : InsertOp). o.session) h.finishes.after_is) (ap (λ (o : InsertOp). o.entry) h.finishes.after_is) alive
    (λ honest. less (found honest))
    (λ honest order fits. now (found honest) order fits)
    (λ honest order whole on. absurd (true≢false (sym incomplete ∙ whole position.block page (found honest))))
  where
    st : State
    st = g.state old

    op : FinishOp
    op = h.finishes.op

    target : Target
    target = h.target

    at_target : slice_get st.pages position.block ≡ Some page → slice_get st.pages target.block ≡ Some page
    at_target there = subst (λ (b : ℕ). slice_get st.pages b ≡ Some page) (sym h.block_is) there

    after_at : after.at ≡ Finishing op
    after_at = ap (λ (o : InsertOp). o.at) h.finishes.after_is

    less : slice_get st.pages position.block ≡ Some page → insert_left st.format.pages st.pages after.at < insert_left st.format.pages st.pages before.at
    less there =
        let left = one_target_left st.format.pages st.pages target op page h.finishes.target_is h.finishes.below h.finishes.at (at_target there) incomplete h.high_is in
        subst (λ (a : InsertAt). insert_left st.format.pages st.pages a < insert_left st.format.pages st.pages before.at) (sym after_at)
        (subst (λ (a : InsertAt). finish_left st.format.pages st.pages op < insert_left st.format.pages st.pages a) (sym at_is) (omega (arith, left)))

    now : slice_get st.pages position.block ≡ Some page → IsInOrder st → InsertInvariant st before → StandsNow st before after
    now there order fits =
        let stands = on_way st before position at_is fits in
        record {
          fits = subst (InsertInvariant st) (sym h.finishes.after_is) (record {
            session = fits.session;
            start = fits.start;
            running = fits.running;
            stands = (
              h.finishes.session,
              one_target_fits st fits.start before.session (entry_aim before.entry) position page target op order.tree fits.session stands.0 fits.running there block_is stands.1.place live
                  h.block_is h.level_is h.high_is h.finishes.session h.finishes.target_is h.finishes.below h.finishes.at,
            );
            to_come = tt;
          });
          added = ap (λ (o : InsertOp). o.added) h.finishes.after_is;
          flags = λ only b is.
              absurd (let none : is_among_targets (targets_at before.at) b ≡ true = only b is in let k : false ≡ true =
              subst (λ (a : InsertAt). is_among_targets (targets_at a) b ≡ true) at_is none in true≢false (sym k));
        }
meets g before after old new page position (Ok (Added action unfinished)) steps same alive at_is h live incomplete admitted block_is found = absurd h
meets g before after old new page position (Err fault) steps same alive at_is h live incomplete admitted block_is found =
    subst (λ (o : InsertOp). InsertSteps g before o old new (Err fault)) (sym h.stays)
    (refuses g before old new fault steps same alive (λ honest order fits. absurd (never honest order fits)))
  where
    never : (g.backing new).honest ≡ true → IsInOrder (g.state old) → InsertInvariant (g.state old) before → ⊥
    never honest order fits =
        let stands = on_way (g.state old) before position at_is fits in
        let there : slice_get (g.state old).pages page.block ≡ Some page = subst (λ (b : ℕ). slice_get (g.state old).pages b ≡ Some page) (sym block_is) (found honest) in
        let place = subst (LeadsTo (g.state old) fits.start position.level (entry_aim before.entry) true) (sym block_is) stands.1.place in
        let arrival = live_shows (g.state old) fits.start position.level (entry_aim before.entry) true page order.tree there place live in
        incomplete_ends page admitted live incomplete (h.astray arrival.level_is)
