-- What was done for the calls that are over and those that run, after some more transitions of one session.
use Rattle.std.proofs.Common.{◌≡◌, ◌≢◌, ◌==◌, if◌then◌else◌, Bool, true, false, ℕ, ◌<◌, ◌≤◌, List, [], ◌∷◌, ◌++◌, length, map, Option, Some, None, slice_get, slice_set, refl, sym, ap, ◌∙◌, subst, inl, inr, ⊎_elim, arith, length-append, append_assoc}
use Rattle.shared_world.proofs.Imports.{append-nil, length-map, AllByRecursion, has_call, Entry, Ghosts, Answer, Begun, EventEffect, kind_of, StoreAndSlots, nat_cases, get_snoc, set_here, set_else, set_cases}
use Rattle.shared_world.proofs.Imports.{KeepsRunning, AreOfRunning, EndsCall, AreOfRecord, AreOfPending, IsKnown, HasActed, Handed, IsAsHanded, event_of, IsWithinRoom, completed_of, LockMoment}
use Rattle.shared_world.proofs.Imports.{Transition, IsPath, Owner, OfRecord, OfSession, is_owner, owned_by, gifts_of, Job, Scan, CompletedCall, PendingCall}
use Rattle.index_model.specs.Row.{Row}
use Rattle.shared_world.proofs.Words.{rows_asked}
use Rattle.shared_world.specs.Transitions.{StaysUntil}
use Rattle.shared_world.proofs.Handing.{sets_stay, sets_then}
use Rattle.shared_world.proofs.Noting.{some_same, clash}
use Rattle.shared_world.proofs.Owning.{same_test, other_test, all_both, all_so, all_mapped, owners_for, length_for, all_for, owned_nobody, owned_own, owned_else, gifts-append, handed_over, owned_by_record, owned_by_other_record, owned_by_other_session}

-- no set is put
pub stays : {S : Type 0} (spare : Option ℕ) (a : LockMoment S) → StaysUntil spare a a
stays spare a = (sets_stay spare a.here.sets a.here.sets refl, refl)

stays_then : {S : Type 0} (spare : Option ℕ) (a b c : LockMoment S) → StaysUntil spare a b → StaysUntil spare b c → StaysUntil spare a c
stays_then {S} spare a b c one two = (
  sets_then spare a.here.sets b.here.sets c.here.sets one.0 two.0,
  two.1 ∙ ap (λ (m : LockMoment S). record m { here = record m.here { sets = c.here.sets } }) one.1,
)

-- one path after the other
path_after : {S : Type 0} (g : Ghosts S) (spare : Option ℕ) (a b : LockMoment S) (ys : List (Transition S)) (c : LockMoment S) → StaysUntil spare a b → IsPath g spare b ys c → IsPath g spare a ys c
path_after g spare a b [] c one two = stays_then spare a b c one two
path_after g spare a b (y ∷ ys) c one two = (stays_then spare a b y.before one two.0, two.1, two.2)

pub path_append : {S : Type 0} (g : Ghosts S) (spare : Option ℕ) (a : LockMoment S) (xs ys : List (Transition S)) (b c : LockMoment S) → IsPath g spare a xs b → IsPath g spare b ys c → IsPath g spare a (xs ++ ys) c
path_append g spare a [] ys b c one two = path_after g spare a b ys c one two
path_append g spare a (x ∷ xs) ys b c one two = (one.0, one.1, path_append g spare x.after xs ys b c one.2 two)

-- the moment of this world with so many records
abbrev pub moment_of : {S : Type 0} → StoreAndSlots S → ℕ → LockMoment S
moment_of here recorded = record { here = here; recorded = recorded }

-- a job's call that has run on
pub running_more : {S : Type 0} (g : Ghosts S) (s : ℕ) (job : Job) (rows : List Row) (seen from : ℕ) (given : List Entry) (ts us : List (Transition S))
    → AllByRecursion (KeepsRunning g s) us → AreOfRunning g s job rows seen from given ts
    → AreOfRunning g s job rows seen from (given ++ gifts_of us) (ts ++ us)
running_more {S} g s job rows seen from given ts us on r = record {
  first = r.first;
  more = r.more ++ us;
  are = ap (λ (l : List (Transition S)). l ++ us) r.are;
  begun = r.begun;
  unrecorded = r.unrecorded;
  on = all_both (KeepsRunning g s) r.more us r.on on;
  given_is = ap (λ (l : List Entry). l ++ gifts_of us) r.given_is ∙ sym (gifts-append r.more us);
}

-- nothing is within any room
pub nothing_within : (job : Job) (given : List Entry) → given ≡ [] → IsWithinRoom job given
nothing_within (Scan range room) given e = (let n = ap (λ (l : List Entry). length l) e in omega (arith, n))
nothing_within job given e = tt

module _ {S : Type 0} (g : Ghosts S) (handed : Handed) (w v : StoreAndSlots S) (pending : List (Option PendingCall))
    (records : List CompletedCall) (a : HasActed g handed w pending records) where
  abbrev n : ℕ
  n = length records

  path_more : (us : List (Transition S)) (recorded : ℕ) → IsPath g handed.spare (moment_of w n) us (moment_of v recorded) → IsPath g handed.spare a.first (a.transitions ++ us) (moment_of v recorded)
  path_more us recorded path = path_append g handed.spare a.first a.transitions us (moment_of w n) (moment_of v recorded) a.path path

  long_more : (owner : Owner) (us : List (Transition S)) → length (a.owners ++ owners_for owner us) ≡ length (a.transitions ++ us)
  long_more owner us = (let x = length-append a.owners (owners_for owner us) in let y = length-append a.transitions us in let z = length_for owner us in omega (arith, x, y, z, a.long))

  -- no transition is of a session that runs no job, nor of the record that comes next
  none_idle : (s : ℕ) → slice_get pending s ≡ Some None → AllByRecursion (λ x. is_owner (OfSession s) x ≡ false) a.owners
  none_idle s idle = all_so (IsKnown pending records) _ a.owners others a.known
    where
      others : (x : Owner) → IsKnown pending records x → is_owner (OfSession s) x ≡ false
      others (OfRecord place) h = refl
      others (OfSession t) h = other_test s t (λ e. (let twice : Some None ≡ Some (Some h.0) = sym idle ∙ ap (slice_get pending) e ∙ h.1 in absurd cc))

  apart_next : (x : Owner) → IsKnown pending records x → is_owner (OfRecord n) x ≡ false
  apart_next (OfRecord place) h = other_test n place (λ e. omega (arith, e, h))
  apart_next (OfSession t) h = refl

  none_next : AllByRecursion (λ x. is_owner (OfRecord n) x ≡ false) a.owners
  none_next = all_so (IsKnown pending records) _ a.owners apart_next a.known

  -- what is known stays so if the session runs a job then
  known_runs : (s : ℕ) (p : PendingCall) (was : Option PendingCall) → slice_get pending s ≡ Some was → (x : Owner) → IsKnown pending records x → IsKnown (slice_set pending s (Some p)) records x
  known_runs s p was at (OfRecord place) h = h
  known_runs s p was at (OfSession t) h = ⊎_elim
      (λ (e : t ≡ s). (p, ap (slice_get (slice_set pending s (Some p))) e ∙ set_here pending s was (Some p) at))
      (λ (ne : t ≢ s). (h.0, set_else pending s t (Some p) ne ∙ h.1))
      (nat_cases t s)

  -- a job begins in a session
  pub acts_begun : (s : ℕ) (p : PendingCall) → has_call w.slots s ≡ false → slice_get pending s ≡ Some None → rows_asked w.sets p.asked ≡ p.rows → p.from ≡ (g.state w.store).acts → p.seen ≡ n → p.given ≡ []
      → EventEffect g (kind_of (event_of s p.asked)) Begun w v → HasActed g handed v (slice_set pending s (Some p)) records
  acts_begun s p free idle named from seen none makes =
      let t : Transition S = record { event = event_of s p.asked; answer = Begun; before = moment_of w n; after = moment_of v n } in
      let us : List (Transition S) = t ∷ [] in
      let mine : owned_by (OfSession s) (a.owners ++ owners_for (OfSession s) us) (a.transitions ++ us) ≡ us =
      owned_own (OfSession s) a.owners a.transitions us a.long ∙ ap (λ (l : List (Transition S)). l ++ us) (owned_nobody (OfSession s) a.owners a.transitions (none_idle s idle)) in
      let own : AreOfPending g s p us = record {
        most = nothing_within p.asked p.given none;
        runs = record { first = t; more = []; are = refl; begun = record { event_is = refl; answer_is = refl; rows_are = named; seen_is = sym seen; from_is = sym from; free = free }; unrecorded = refl; on = tt; given_is = none };
      } in
      record {
        first = a.first;
        transitions = a.transitions ++ us;
        owners = a.owners ++ owners_for (OfSession s) us;
        handed_in = a.handed_in;
        unrecorded = a.unrecorded;
        path = path_more us n (stays handed.spare (moment_of w n), makes, stays handed.spare (moment_of v n));
        long = long_more (OfSession s) us;
        known = all_both _ a.owners (owners_for (OfSession s) us) (all_so (IsKnown pending records) _ a.owners (known_runs s p None idle) a.known) ((p, set_here pending s None (Some p) idle), tt);
        recorded = λ place r at. subst (AreOfRecord g place r) (sym (owned_else (OfRecord place) (OfSession s) a.owners a.transitions us a.long refl)) (a.recorded place r at);
        running = λ u q at. ⊎_elim
            (λ (x : (u ≡ s) × (Some p ≡ Some q)).
            subst (λ (y : ℕ × PendingCall). AreOfPending g y.0 y.1 (owned_by (OfSession y.0) (a.owners ++ owners_for (OfSession s) us) (a.transitions ++ us))) (λ i. (sym x.0 i, some_same x.1 i))
            (subst (AreOfPending g s p) (sym mine) own))
            (λ (x : (u ≢ s) × (slice_get pending u ≡ Some (Some q))).
            subst (AreOfPending g u q) (sym (owned_else (OfSession u) (OfSession s) a.owners a.transitions us a.long (other_test u s x.0))) (a.running u q x.1))
            (set_cases pending s u (Some p) (Some q) at);
      }

  -- a job is done by one event, or refused as it begins
  pub acts_at_once : (s : ℕ) (p : PendingCall) (answer : Answer) → has_call w.slots s ≡ false → rows_asked w.sets p.asked ≡ p.rows → p.from ≡ (g.state w.store).acts → p.seen ≡ n → p.given ≡ [] → (answer ≡ Begun → ⊥)
      → (g.state v.store).acts ≡ p.from → EventEffect g (kind_of (event_of s p.asked)) answer w v → HasActed g handed v pending (records ++ completed_of s p answer p.from ∷ [])
  acts_at_once s p answer free named from seen none never to makes =
      let r = completed_of s p answer p.from in
      let m = length (records ++ r ∷ []) in
      let longer = length-append records (r ∷ []) in
      let t : Transition S = record { event = event_of s p.asked; answer = answer; before = moment_of w n; after = moment_of v m } in
      let us : List (Transition S) = t ∷ [] in
      let mine : owned_by (OfRecord n) (a.owners ++ owners_for (OfRecord n) us) (a.transitions ++ us) ≡ us =
      owned_own (OfRecord n) a.owners a.transitions us a.long ∙ ap (λ (l : List (Transition S)). l ++ us) (owned_nobody (OfRecord n) a.owners a.transitions none_next) in
      let own : AreOfRecord g n r us = record {
        most = nothing_within p.asked p.given none;
        done = inl (record {
          one = t;
          are = refl;
          begins = record { event_is = refl; answer_is = refl; rows_are = named; seen_is = sym seen; from_is = sym from; free = free };
          never = never;
          none = none;
          makes = record { place_is = refl; next_is = omega (arith, longer); to_is = to };
        });
      } in
      record {
        first = a.first;
        transitions = a.transitions ++ us;
        owners = a.owners ++ owners_for (OfRecord n) us;
        handed_in = a.handed_in;
        unrecorded = a.unrecorded;
        path = path_more us m (stays handed.spare (moment_of w n), makes, stays handed.spare (moment_of v m));
        long = long_more (OfRecord n) us;
        known = all_both _ a.owners (owners_for (OfRecord n) us) (all_so (IsKnown pending records) _ a.owners (known_longer m (omega (arith, longer))) a.known) (omega (arith, longer), tt);
        recorded = λ place q at. ⊎_elim
            (λ (x : (place < n) × (slice_get records place ≡ Some q)). subst (AreOfRecord g place q)
            (sym (owned_else (OfRecord place) (OfRecord n) a.owners a.transitions us a.long (other_test place n (λ e. omega (arith, e, x.0))))) (a.recorded place q x.1))
            (λ (x : (place ≡ n) × (r ≡ q)).
            subst (λ (y : ℕ × CompletedCall). AreOfRecord g y.0 y.1 (owned_by (OfRecord y.0) (a.owners ++ owners_for (OfRecord n) us) (a.transitions ++ us))) (λ i. (sym x.0 i, x.1 i))
            (subst (AreOfRecord g n r) (sym mine) own))
            (get_snoc records r q place at);
        running = λ u q at. subst (AreOfPending g u q) (sym (owned_else (OfSession u) (OfRecord n) a.owners a.transitions us a.long refl)) (a.running u q at);
      }
    where
      known_longer : (k : ℕ) → n ≤ k → (x : Owner) → IsKnown pending records x → IsKnown pending (records ++ completed_of s p answer p.from ∷ []) x
      known_longer k l (OfRecord place) h = (let longer = length-append records (completed_of s p answer p.from ∷ []) in omega (arith, h, longer))
      known_longer k l (OfSession t) h = h

  -- a running job goes on
  pub acts_on : (s : ℕ) (p q : PendingCall) → slice_get pending s ≡ Some (Some p) → (us : List (Transition S)) → AllByRecursion (KeepsRunning g s) us → IsPath g handed.spare (moment_of w n) us (moment_of v n)
      → q.asked ≡ p.asked → q.rows ≡ p.rows → q.from ≡ p.from → q.seen ≡ p.seen → IsWithinRoom q.asked q.given → q.given ≡ p.given ++ gifts_of us
      → HasActed g handed v (slice_set pending s (Some q)) records
  acts_on s p q at us on path asked rows from seen most given =
      let was = a.running s p at in
      let own : AreOfPending g s q (owned_by (OfSession s) a.owners a.transitions ++ us) = record {
        most = most;
        runs = subst (λ (x : Job × List Row × ℕ × ℕ × List Entry). AreOfRunning g s x.0 x.1 x.2 x.3 x.4 (owned_by (OfSession s) a.owners a.transitions ++ us)) (λ i. (sym asked i, sym rows i, sym seen i, sym from i, sym given i))
            (running_more g s p.asked p.rows p.seen p.from p.given (owned_by (OfSession s) a.owners a.transitions) us on was.runs);
      } in
      record {
        first = a.first;
        transitions = a.transitions ++ us;
        owners = a.owners ++ owners_for (OfSession s) us;
        handed_in = a.handed_in;
        unrecorded = a.unrecorded;
        path = path_more us n path;
        long = long_more (OfSession s) us;
        known = all_both _ a.owners (owners_for (OfSession s) us) (all_so (IsKnown pending records) _ a.owners (known_runs s q (Some p) at) a.known)
            (all_for (IsKnown (slice_set pending s (Some q)) records) (OfSession s) us (q, set_here pending s (Some p) (Some q) at));
        recorded = λ place r h. subst (AreOfRecord g place r) (sym (owned_else (OfRecord place) (OfSession s) a.owners a.transitions us a.long refl)) (a.recorded place r h);
        running = λ u x h. ⊎_elim
            (λ (y : (u ≡ s) × (Some q ≡ Some x)).
            subst (λ (z : ℕ × PendingCall). AreOfPending g z.0 z.1 (owned_by (OfSession z.0) (a.owners ++ owners_for (OfSession s) us) (a.transitions ++ us))) (λ i. (sym y.0 i, some_same y.1 i))
            (subst (AreOfPending g s q) (sym (owned_own (OfSession s) a.owners a.transitions us a.long)) own))
            (λ (y : (u ≢ s) × (slice_get pending u ≡ Some (Some x))).
            subst (AreOfPending g u x) (sym (owned_else (OfSession u) (OfSession s) a.owners a.transitions us a.long (other_test u s y.0))) (a.running u x y.1))
            (set_cases pending s u (Some q) (Some x) h);
      }

  -- a running job ends
  pub acts_ended : (s : ℕ) (p : PendingCall) (at : slice_get pending s ≡ Some (Some p)) (answer : Answer) (to : ℕ) → (more last : List (Transition S))
      → AllByRecursion (KeepsRunning g s) more → gifts_of more ≡ []
      → IsPath g handed.spare (moment_of w n) (more ++ last) (moment_of v (length (records ++ completed_of s p answer to ∷ []))) → EndsCall g n (completed_of s p answer to) last
      → HasActed g handed v (slice_set pending s None) (records ++ completed_of s p answer to ∷ [])
  acts_ended s p at answer to more last on none path ends =
      let was = a.running s p at in
      let r = completed_of s p answer to in
      let us = more ++ last in
      let ran = owned_by (OfSession s) a.owners a.transitions in
      let owners = a.owners ++ owners_for (OfSession s) us in
      let ts = a.transitions ++ us in
      let long = long_more (OfSession s) us in
      let mapped = length-map owners (handed_over s n) in
      let known : AllByRecursion (IsKnown pending records) owners = all_both _ a.owners (owners_for (OfSession s) us) a.known (all_for (IsKnown pending records) (OfSession s) us (p, at)) in
      let mine : owned_by (OfRecord n) (map (handed_over s n) owners) ts ≡ ran ++ us =
      owned_by_record s n owners ts (all_so (IsKnown pending records) _ owners apart_next known) ∙ owned_own (OfSession s) a.owners a.transitions us a.long in
      let given : p.given ++ gifts_of more ≡ p.given = ap (λ (l : List Entry). p.given ++ l) none ∙ append-nil p.given in
      let own : AreOfRecord g n r (ran ++ us) = record {
        most = was.most;
        done = inr (record {
          ran = ran ++ more;
          last = last;
          are = sym (append_assoc ran more last);
          runs = subst (λ (l : List Entry). AreOfRunning g s p.asked p.rows p.seen p.from l (ran ++ more)) given (running_more g s p.asked p.rows p.seen p.from p.given ran more on was.runs);
          ends = ends;
        });
      } in
      record {
        first = a.first;
        transitions = ts;
        owners = map (handed_over s n) owners;
        handed_in = a.handed_in;
        unrecorded = a.unrecorded;
        path = path_more us (length (records ++ r ∷ [])) path;
        long = mapped ∙ long;
        known = all_mapped (IsKnown pending records) (IsKnown (slice_set pending s None) (records ++ r ∷ [])) (handed_over s n) owners known_over known;
        recorded = λ place q h. ⊎_elim
            (λ (x : (place < n) × (slice_get records place ≡ Some q)). subst (AreOfRecord g place q)
            (sym (owned_by_other_record s n owners ts place (λ e. omega (arith, e, x.0)) ∙ owned_else (OfRecord place) (OfSession s) a.owners a.transitions us a.long refl)) (a.recorded place q x.1))
            (λ (x : (place ≡ n) × (r ≡ q)).
            subst (λ (y : ℕ × CompletedCall). AreOfRecord g y.0 y.1 (owned_by (OfRecord y.0) (map (handed_over s n) owners) ts))
            (λ i. (sym x.0 i, x.1 i)) (subst (AreOfRecord g n r) (sym mine) own))
            (get_snoc records r q place h);
        running = λ u x h. ⊎_elim
            (λ (y : (u ≡ s) × (None ≡ Some x)). absurd (let e = y.1 in cc))
            (λ (y : (u ≢ s) × (slice_get pending u ≡ Some (Some x))). subst (AreOfPending g u x)
            (sym (owned_by_other_session s n owners ts u y.0 ∙ owned_else (OfSession u) (OfSession s) a.owners a.transitions us a.long (other_test u s y.0))) (a.running u x y.1))
            (set_cases pending s u None (Some x) h);
      }
    where
      known_over : (x : Owner) → IsKnown pending records x → IsKnown (slice_set pending s None) (records ++ completed_of s p answer to ∷ []) (handed_over s n x)
      known_over (OfRecord place) h = (let longer = length-append records (completed_of s p answer to ∷ []) in omega (arith, h, longer))
      known_over (OfSession t) h = by (s == t) refl
        where
          by : (b : Bool) → (s == t) ≡ b → IsKnown (slice_set pending s None) (records ++ completed_of s p answer to ∷ []) (if b then OfRecord n else OfSession t)
          by true e = (let longer = length-append records (completed_of s p answer to ∷ []) in omega (arith, longer))
          by false e = (h.0, set_else pending s t None (λ same. clash (s == t) (same_test s t (sym same)) e) ∙ h.1)

-- a run begins with the world as it was handed in
pub acts_first : {S : Type 0} (g : Ghosts S) (handed : Handed) (w : StoreAndSlots S) (pending : List (Option PendingCall)) → IsAsHanded g handed w
    → ((s : ℕ) (p : PendingCall) → slice_get pending s ≡ Some (Some p) → ⊥) → HasActed g handed w pending []
acts_first g handed w pending was none = record {
  first = moment_of w 0;
  transitions = [];
  owners = [];
  handed_in = was;
  unrecorded = refl;
  path = stays handed.spare (moment_of w 0);
  long = refl;
  known = tt;
  recorded = λ place r h. absurd cc;
  running = λ s p h. absurd (none s p h);
}

-- if no job runs, each transition is of a record
pub acts_all_done : {S : Type 0} (g : Ghosts S) (handed : Handed) (w : StoreAndSlots S) (pending : List (Option PendingCall))
    (records : List CompletedCall) → ((s : ℕ) (p : PendingCall) → slice_get pending s ≡ Some (Some p) → ⊥)
    → HasActed g handed w pending records → HasActed g handed w [] records
acts_all_done g handed w pending records none a = record {
  first = a.first;
  transitions = a.transitions;
  owners = a.owners;
  handed_in = a.handed_in;
  unrecorded = a.unrecorded;
  path = a.path;
  long = a.long;
  known = all_so (IsKnown pending records) (IsKnown [] records) a.owners known a.known;
  recorded = a.recorded;
  running = λ s p h. absurd cc;
}
  where
    known : (x : Owner) → IsKnown pending records x → IsKnown [] records x
    known (OfRecord place) h = h
    known (OfSession s) h = absurd (none s h.0 h.1)
