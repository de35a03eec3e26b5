-- Each step of the seats' cell keeps its rule.
use Rattle.std.proofs.Common.{◌≡◌, ◌≢◌, ◌⊎◌, ◌==◌, ℕ, zero, suc, ◌+◌, List, [], ◌∷◌, ◌++◌, length, set, Option, None, true, false, refl, sym, ap, ◌∙◌, subst, inl, inr, ⊎_elim, arith, if◌then◌else◌}
use Rattle.std.proofs.lemmas.Bool.{false≢true}
use Rattle.std.specs.Prelude.{slice_get, slice_set}
use Rattle.std.proofs.lemmas.Bool.Decides.{nat_tests}
use mathlib.Core.Option.{some, some-ne-none, some-injective}
use lib.ListN.{get_elem?}
use Rattle.atomic_table.specs.Table.{State, Step, keeps as still, Allows, Splits, Joins, step}
use Rattle.atomic_table.proofs.Lists.{at_set, at_snoc}
use Rattle.index_model.specs.Row.{Row}
use Rattle.session_seats.specs.declared.call.CompletedCall.{CompletedCall}
use Rattle.session_seats.specs.declared.call.Notice.{Notice}
use Rattle.session_seats.specs.declared.call.PendingCall.{PendingCall}
use Rattle.session_seats.specs.declared.seating.SessionView.{SessionView}
use Rattle.session_seats.specs.Calls.{completed_by}
use Rattle.session_seats.specs.Seats.{calls_from, calls_by, registry_with, no_view, seated, registry_part, seat_part, registry_opening, seat_opening, when_changed, when_begun, when_given, when_ended, RegistryAgrees, SeatAgrees, ViewAgrees, SitForOne, ViewsAgree, HasBegunCall, HasGivenEntry, HasEndedCall, HasLooked}
use Rattle.session_seats.proofs.Rows.{get_front, get_last, get_within, set_else, set_here}

-- a view that is another keeps, or sits, as that does
pub keeps_as : (v w : SessionView) → v ≡ w → w.keeps ≡ true → v.keeps ≡ true
keeps_as v w e keeps = ap (λ (u : SessionView). u.keeps) e ∙ keeps

pub sits_as : (v w : SessionView) → v ≡ w → w.sits ≡ true → v.sits ≡ true
sits_as v w e sits = ap (λ (u : SessionView). u.sits) e ∙ sits

pub calls_from_snoc : (n w : ℕ) (log : List CompletedCall) (x : CompletedCall) → calls_from n w (log ++ x ∷ []) ≡ calls_from n w log ++ (if x.session == w then (n + length log, x) ∷ [] else [])
calls_from_snoc n w [] x = grind arith
calls_from_snoc n w (y ∷ log) x = let h = calls_from_snoc (suc n) w log x in grind (arith, h)

abbrev AllAgree : ℕ → List CompletedCall → List (Option PendingCall) → List SessionView → Type 0
AllAgree desk log pending views = (by : ℕ) (v : SessionView) → get_elem? views by ≡ some v → ViewAgrees desk log pending by v

each_set : (desk : ℕ) (log : List CompletedCall) (pending : List (Option PendingCall)) (views : List SessionView) (by : ℕ) (w : SessionView)
    → ((j : ℕ) (u : SessionView) → j ≢ by → get_elem? views j ≡ some u → ViewAgrees desk log pending j u) → ViewAgrees desk log pending by w → AllAgree desk log pending (set views by w)
each_set desk log pending views by w others mine j u e =
    ⊎_elim
    (λ (x : (j ≡ by) × (w ≡ u)). subst (λ (y : ℕ × SessionView). ViewAgrees desk log pending y.0 y.1) (λ i. (sym x.0 i, x.1 i)) mine)
    (λ (x : (j ≢ by) × (get_elem? views j ≡ some u)). others j u x.0 x.1)
    (at_set views by j w u e)

-- the view w sits for no session that another sits for
abbrev NoneElse : List SessionView → ℕ → SessionView → Type 0
NoneElse views by w = (j : ℕ) (u : SessionView) → j ≢ by → get_elem? views j ≡ some u → u.sits ≡ true → w.sits ≡ true → u.session ≢ w.session

apart_set : (views : List SessionView) (by : ℕ) (w : SessionView) → SitForOne views → NoneElse views by w → SitForOne (set views by w)
apart_set views by w apart free i j u v ei ej su sv same =
    ⊎_elim
    (λ (x : (i ≡ by) × (w ≡ u)). ⊎_elim
    (λ (y : (j ≡ by) × (w ≡ v)). x.0 ∙ sym y.0)
    (λ (y : (j ≢ by) × (get_elem? views j ≡ some v)). absurd (free j v y.0 y.1 sv (ap (λ (z : SessionView). z.sits) x.1 ∙ su) (sym same ∙ ap (λ (z : SessionView). z.session) (sym x.1))))
    (at_set views by j w v ej))
    (λ (x : (i ≢ by) × (get_elem? views i ≡ some u)). ⊎_elim
    (λ (y : (j ≡ by) × (w ≡ v)). absurd (free i u x.0 x.1 su (ap (λ (z : SessionView). z.sits) y.1 ∙ sv) (same ∙ ap (λ (z : SessionView). z.session) (sym y.1))))
    (λ (y : (j ≢ by) × (get_elem? views j ≡ some v)). apart i j u v x.1 y.1 su sv same)
    (at_set views by j w v ej))
    (at_set views by i w u ei)

each_snoc : (desk : ℕ) (log : List CompletedCall) (pending : List (Option PendingCall)) (views : List SessionView) (w : SessionView) → AllAgree desk log pending views
    → ((j : ℕ) → ViewAgrees desk log pending j w) → AllAgree desk log pending (views ++ w ∷ [])
each_snoc desk log pending views w each mine j u e = ⊎_elim (λ x. each j u x) (λ (x : w ≡ u). subst (ViewAgrees desk log pending j) x (mine j)) (at_snoc views w u j e)

at_end : (l : List SessionView) (a b : SessionView) (j : ℕ) → get_elem? l j ≢ some b → get_elem? (l ++ a ∷ []) j ≡ some b → j ≡ length l
at_end [] a b zero n e = refl
at_end [] a b (suc j) n e = absurd (some-ne-none b (sym e))
at_end (x ∷ xs) a b zero n e = absurd (n e)
at_end (x ∷ xs) a b (suc j) n e = ap suc (at_end xs a b j n e)

at_cases : (l : List SessionView) (a b : SessionView) (j : ℕ) → get_elem? (l ++ a ∷ []) j ≡ some b → (get_elem? l j ≡ some b) ⊎ ((j ≡ length l) × (a ≡ b))
at_cases [] a b zero e = inr (refl, some-injective _ _ e)
at_cases [] a b (suc j) e = absurd (some-ne-none b (sym e))
at_cases (x ∷ xs) a b zero e = inl e
at_cases (x ∷ xs) a b (suc j) e = ⊎_elim (λ h. inl h) (λ h. inr (ap suc h.0, h.1)) (at_cases xs a b j e)

apart_snoc : (views : List SessionView) (w : SessionView) → SitForOne views
    → ((j : ℕ) (u : SessionView) → get_elem? views j ≡ some u → u.sits ≡ true → w.sits ≡ true → u.session ≢ w.session) → SitForOne (views ++ w ∷ [])
apart_snoc views w apart free i j u v ei ej su sv same =
    ⊎_elim
    (λ x. ⊎_elim
    (λ y. apart i j u v x y su sv same)
    (λ (y : (j ≡ length views) × (w ≡ v)). absurd (free i u x su (ap (λ (z : SessionView). z.sits) y.1 ∙ sv) (same ∙ ap (λ (z : SessionView). z.session) (sym y.1))))
    (at_cases views w v j ej))
    (λ (x : (i ≡ length views) × (w ≡ u)). ⊎_elim
    (λ y. absurd (free j v y sv (ap (λ (z : SessionView). z.sits) x.1 ∙ su) (sym same ∙ ap (λ (z : SessionView). z.session) (sym x.1))))
    (λ (y : (j ≡ length views) × (w ≡ v)). x.0 ∙ sym y.0)
    (at_cases views w v j ej))
    (at_cases views w u i ei)

other_call : (w : ℕ) (x : CompletedCall) (log : List CompletedCall) → w ≢ x.session → calls_by w (log ++ x ∷ []) ≡ calls_by w log
other_call w x log n = let h = calls_from_snoc 0 w log x in grind (arith, h, nat_tests, append_nil)
  where
    append_nil : (l : List (ℕ × CompletedCall)) → l ++ [] ≡ l
    append_nil [] = refl
    append_nil (y ∷ l) = ap (λ t. y ∷ t) (append_nil l)

own_call : (x : CompletedCall) (log : List CompletedCall) → calls_by x.session (log ++ x ∷ []) ≡ calls_by x.session log ++ (length log, x) ∷ []
own_call x log = let h = calls_from_snoc 0 x.session log x in grind (arith, h, nat_tests)

pub begins : ViewsAgree (registry_with [] [] ∷ [])
begins = record { desk = 0; log = []; pending = []; each = one; apart = two }
  where
    one : AllAgree 0 [] [] (registry_with [] [] ∷ [])
    one zero v e = subst (ViewAgrees 0 [] [] 0) (some-injective _ _ e) (record { registry = λ _. record { desk_is = refl; log_is = refl; pending_is = refl }; seat = λ c. absurd (false≢true c) })
    one (suc pass) v e = absurd (some-ne-none v (sym e))

    two : SitForOne (registry_with [] [] ∷ [])
    two zero zero u v e f s t same = refl
    two zero (suc j) u v e f s t same = absurd (some-ne-none v (sym f))
    two (suc i) j u v e f s t same = absurd (some-ne-none u (sym e))

-- with another list of what each session runs, and another log, all views fit again
module _ (views : List SessionView) (h : ViewsAgree views) (pass : ℕ) (v : SessionView) (at : get_elem? views pass ≡ some v) (keeps : v.keeps ≡ true) where
  registry : RegistryAgrees h.desk h.log h.pending pass v
  registry = (h.each pass v at).registry keeps

  -- no other pass keeps
  none_keeps : (j : ℕ) (u : SessionView) → j ≢ pass → get_elem? views j ≡ some u → u.keeps ≡ true → ⊥
  none_keeps j u apart e c = apart (((h.each j u e).registry c).desk_is ∙ sym registry.desk_is)

  -- where no other's seat is touched
  pub refit : (log : List CompletedCall) (pending : List (Option PendingCall)) (w : SessionView)
      → ((j : ℕ) (u : SessionView) → j ≢ pass → get_elem? views j ≡ some u → u.sits ≡ true → SeatAgrees h.log h.pending u → SeatAgrees log pending u)
      → ViewAgrees h.desk log pending pass w → AllAgree h.desk log pending (set views pass w)
  refit log pending w others mine = each_set h.desk log pending views pass w
      (λ j u apart e. record { registry = λ c. absurd (none_keeps j u apart e c); seat = λ c. others j u apart e c ((h.each j u e).seat c) })
      mine

  -- who sits beside it stays the only one of its session
  module _ (sits : v.sits ≡ true) where
    seat : SeatAgrees h.log h.pending v
    seat = (h.each pass v at).seat sits

    another : (j : ℕ) (u : SessionView) → j ≢ pass → get_elem? views j ≡ some u → u.sits ≡ true → u.session ≢ v.session
    another j u apart e su same = apart (h.apart j pass u v e at su sits same)

    changes_each : (o : Option PendingCall) → AllAgree h.desk h.log (slice_set h.pending v.session o) (set views pass (when_changed v o))
    changes_each o = refit h.log (slice_set h.pending v.session (o)) (when_changed v o)
        (λ j u apart e su f. record { call_is = set_else h.pending v.session u.session (o) (another j u apart e su) ∙ f.call_is; calls_are = f.calls_are })
        (record {
          registry = λ _. record { desk_is = registry.desk_is; log_is = registry.log_is; pending_is = ap (λ l. slice_set l v.session (o)) registry.pending_is };
          seat = λ _. record { call_is = set_here h.pending v.session v.call (o) seat.call_is; calls_are = seat.calls_are };
        })

    pub changes : (o : Option PendingCall) → ViewsAgree (set views pass (when_changed v o))
    changes o = record {
      desk = h.desk;
      log = h.log;
      pending = slice_set h.pending v.session (o);
      each = changes_each o;
      apart = apart_set views pass (when_changed v o) h.apart (λ j u apart e su sw. another j u apart e su);
    }

    ends_each : (notice : Notice) → AllAgree h.desk (h.log ++ completed_by v.session notice v.call ∷ []) (slice_set h.pending v.session None) (set views pass (when_ended v notice))
    ends_each notice = refit (h.log ++ completed_by v.session notice v.call ∷ []) (slice_set h.pending v.session None) (when_ended v notice)
        (λ j u apart e su f. record {
          call_is = set_else h.pending v.session u.session None (another j u apart e su) ∙ f.call_is;
          calls_are = f.calls_are ∙ sym (other_call u.session (completed_by v.session notice v.call) h.log (another j u apart e su));
        })
        (record {
          registry = λ _. record { desk_is = registry.desk_is; log_is = ap (λ l. l ++ completed_by v.session notice v.call ∷ []) registry.log_is; pending_is = ap (λ l. slice_set l v.session None) registry.pending_is };
          seat = λ _. record {
            call_is = set_here h.pending v.session v.call None seat.call_is;
            calls_are = ap (λ (t : List (ℕ × CompletedCall)). t ++ (length v.log, completed_by v.session notice v.call) ∷ []) seat.calls_are
                ∙ ap (λ (t : List CompletedCall). calls_by v.session h.log ++ (length t, completed_by v.session notice v.call) ∷ []) registry.log_is ∙ sym (own_call (completed_by v.session notice v.call) h.log);
          };
        })

    pub ends : (notice : Notice) → ViewsAgree (set views pass (when_ended v notice))
    ends notice = record {
      desk = h.desk;
      log = h.log ++ completed_by v.session notice v.call ∷ [];
      pending = slice_set h.pending v.session None;
      each = ends_each notice;
      apart = apart_set views pass (when_ended v notice) h.apart (λ j u apart e su sw. another j u apart e su);
    }

-- the rule of a table of seats
abbrev pub CellRule : State Notice SessionView → Type 0
CellRule s = ViewsAgree s.views

some_same : (a b : Notice) → some a ≡ some b → a ≡ b
some_same a b e = some-injective _ _ e

module _ (slots pass : ℕ) (v : SessionView) (c : List (ℕ × Notice)) (f : ℕ → ℕ) (i a b : ℕ) (said : Notice) (kept : v.keeps ≡ true) (sits : v.sits ≡ true) where
  pub begins_allows : (rows : List Row) → Allows CellRule slots pass (v, c) i f (HasBegunCall rows (step slots i a b (some said)) (v, c))
  begins_allows rows s h len at small =
      (when_begun rows v said, still, tt, changes s.views h pass v at kept sits _, (λ notice e. ap (λ (n : Notice). (when_begun rows v n, c)) (some_same said notice e)))

  pub gives_allows : Allows CellRule slots pass (v, c) i f (HasGivenEntry (step slots i a b (some said)) (v, c))
  gives_allows s h len at small =
      (when_given v said, still, tt, changes s.views h pass v at kept sits _, (λ notice e. ap (λ (n : Notice). (when_given v n, c)) (some_same said notice e)))

  pub ends_allows : Allows CellRule slots pass (v, c) i f (HasEndedCall (step slots i a b (some said)) (v, c))
  ends_allows s h len at small =
      (when_ended v said, still, tt, ends s.views h pass v at kept sits said, (λ notice e. ap (λ (n : Notice). (when_ended v n, c)) (some_same said notice e)))

pub checks_allows : (slots pass : ℕ) (v : SessionView) (c : List (ℕ × Notice)) (f : ℕ → ℕ) (i : ℕ) (st : Step Notice) → v.keeps ≡ true
    → Allows CellRule slots pass (v, c) i f (HasLooked st (v, c))
checks_allows slots pass v c f i st kept s h len at small =
    let k = registry s.views h pass v at kept in (
      v,
      still,
      tt,
      record {
        desk = h.desk;
        log = h.log;
        pending = h.pending;
        each = refit s.views h pass v at kept h.log h.pending v (λ j u apart e su f. f) (h.each pass v at);
        apart = apart_set s.views pass v h.apart (λ j u apart e su sv same. apart (h.apart j pass u v e at su sv same));
      },
      record {
        same = refl;
        fits = λ c. (let s = (h.each pass v at).seat c in record {
          call_is = ap (λ l. slice_get l v.session) k.pending_is ∙ s.call_is;
          calls_are = s.calls_are ∙ ap (λ l. calls_by v.session l) (sym k.log_is);
        });
      },
    )

-- a view that sits for nobody is free
idle_free : (views : List SessionView) (pass : ℕ) (w : SessionView) → w.sits ≡ false → NoneElse views pass w
idle_free views pass w idle j u apart e su sw same = false≢true (sym idle ∙ sw)

-- the seat leaves the registry
pub leaves : (pass : ℕ) (v : SessionView) → v.keeps ≡ true → Splits CellRule pass v (registry_part v) (seat_part v)
leaves pass v keeps s h at =
    let views = s.views in
    let a = registry_part v in
    let f = h.each pass v at in
    let k = f.registry keeps in
    let rest = refit views h pass v at keeps h.log h.pending a (λ j u apart e su s. s)
    (record { registry = λ _. record { desk_is = k.desk_is; log_is = k.log_is; pending_is = k.pending_is }; seat = λ c. absurd (false≢true c) }) in
    record {
      desk = h.desk;
      log = h.log;
      pending = h.pending;
      each = each_snoc h.desk h.log h.pending (set views pass a) (seat_part v) rest
          (λ j. record { registry = λ c. absurd (false≢true c); seat = λ c. record { call_is = (f.seat c).call_is; calls_are = (f.seat c).calls_are } });
      apart = apart_snoc (set views pass a) (seat_part v) (apart_set views pass a h.apart (idle_free views pass a refl))
          (λ j u e su sw same. ⊎_elim
          (λ (x : (j ≡ pass) × (a ≡ u)). false≢true (ap (λ (z : SessionView). z.sits) x.1 ∙ su))
          (λ (x : (j ≢ pass) × (get_elem? views j ≡ some u)). x.0 (h.apart j pass u v x.1 at su sw same))
          (at_set views pass j a u e));
    }

-- a seat for one session more
pub widens : (pass : ℕ) (v : SessionView) → v.keeps ≡ true → Splits CellRule pass v (registry_opening v) (seat_opening v)
widens pass v keeps s h at =
    let views = s.views in
    let k = registry views h pass v at keeps in
    let a = registry_opening v in
    let pending : List (Option PendingCall) = h.pending ++ None ∷ [] in
    let rest = refit views h pass v at keeps h.log pending a
    (λ j u apart e su s. record { call_is = get_front h.pending (None ∷ []) u.session u.call s.call_is; calls_are = s.calls_are })
    (record { registry = λ _. record { desk_is = k.desk_is; log_is = k.log_is; pending_is = ap (λ l. l ++ None ∷ []) k.pending_is }; seat = λ c. absurd (false≢true c) }) in
    record {
      desk = h.desk;
      log = h.log;
      pending = pending;
      each = each_snoc h.desk h.log pending (set views pass a) (seat_opening v) rest
          (λ j. record {
            registry = λ c. absurd (false≢true c);
            seat = λ _. record {
              call_is = ap (λ (l : List (Option PendingCall)). slice_get pending (length l)) k.pending_is ∙ get_last h.pending None;
              calls_are = ap (λ l. calls_by (length v.pending) l) k.log_is;
            };
          });
      apart = apart_snoc (set views pass a) (seat_opening v) (apart_set views pass a h.apart (idle_free views pass a refl))
          (λ j u e su sw same. ⊎_elim
          (λ (x : (j ≡ pass) × (a ≡ u)). false≢true (ap (λ (z : SessionView). z.sits) x.1 ∙ su))
          (λ (x : (j ≢ pass) × (get_elem? views j ≡ some u)).
          let inside = get_within h.pending u.session u.call ((h.each j u x.1).seat su).call_is in
          omega (arith, inside, same, ap (λ (l : List (Option PendingCall)). length l) k.pending_is))
          (at_set views pass j a u e));
    }

-- a seat comes beside the registry
pub sits_down : (pass : ℕ) (v : SessionView) (other : ℕ) (u : SessionView) → v.keeps ≡ true → Joins CellRule pass v other u (seated v u) no_view
sits_down pass v other u keeps s h at apart there =
    let views = s.views in
    let w = seated v u in
    let f = h.each pass v at in
    let g = h.each other u was in
    record {
      desk = h.desk;
      log = h.log;
      pending = h.pending;
      each = each_set h.desk h.log h.pending (set views pass w) other no_view
          (λ j y _ e. each_set h.desk h.log h.pending views pass w (λ i z _ e'. h.each i z e')
          (record {
            registry = λ c.
                record { desk_is = (f.registry keeps).desk_is; log_is = (f.registry keeps).log_is; pending_is = (f.registry keeps).pending_is };
            seat =
                λ c. record { call_is = (g.seat c).call_is; calls_are = (g.seat c).calls_are };
          }) j y e)
          (record { registry = λ c. absurd (false≢true c); seat = λ c. absurd (false≢true c) });
      apart = two;
    }
  where
    was : get_elem? s.views other ≡ some u
    was = ⊎_elim (λ (t : (other ≡ pass) × (seated v u ≡ u)). absurd (apart t.0)) (λ (t : (other ≢ pass) × (get_elem? s.views other ≡ some u)). t.1) (at_set s.views pass other (seated v u) u there)

    two : SitForOne (set (set s.views pass (seated v u)) other no_view)
    two i j y z ei ej sy sz same =
        ⊎_elim
        (λ (p : (i ≡ other) × (no_view ≡ y)). absurd (false≢true (ap (λ (t : SessionView). t.sits) p.1 ∙ sy)))
        (λ (p : (i ≢ other) × (get_elem? (set s.views pass (seated v u)) i ≡ some y)). ⊎_elim
        (λ (q : (j ≡ other) × (no_view ≡ z)). absurd (false≢true (ap (λ (t : SessionView). t.sits) q.1 ∙ sz)))
        (λ (q : (j ≢ other) × (get_elem? (set s.views pass (seated v u)) j ≡ some z)). ⊎_elim
        (λ (r : (i ≡ pass) × (seated v u ≡ y)). ⊎_elim
        (λ (s : (j ≡ pass) × (seated v u ≡ z)). r.0 ∙ sym s.0)
        (λ (s : (j ≢ pass) × (get_elem? s.views j ≡ some z)).
        absurd (q.0 (h.apart j other z u s.1 was sz (ap (λ (t : SessionView). t.sits) r.1 ∙ sy) (sym same ∙ ap (λ (t : SessionView). t.session) (sym r.1)))))
        (at_set s.views pass j (seated v u) z q.1))
        (λ (r : (i ≢ pass) × (get_elem? s.views i ≡ some y)). ⊎_elim
        (λ (s : (j ≡ pass) × (seated v u ≡ z)). absurd (p.0 (h.apart i other y u r.1 was sy (ap (λ (t : SessionView). t.sits) s.1 ∙ sz) (same ∙ ap (λ (t : SessionView). t.session) (sym s.1)))))
        (λ (s : (j ≢ pass) × (get_elem? s.views j ≡ some z)). h.apart i j y z r.1 s.1 sy sz same)
        (at_set s.views pass j (seated v u) z q.1))
        (at_set s.views pass i (seated v u) y p.1))
        (at_set (set s.views pass (seated v u)) other j no_view z ej))
        (at_set (set s.views pass (seated v u)) other i no_view y ei)
