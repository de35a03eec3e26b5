-- EachViewFits exchange of the seats' cell keeps its rule.
use Rattle.std.proofs.Common.{◌≡◌, ◌≢◌, ◌⊎◌, ◌==◌, ℕ, zero, suc, ◌+◌, List, [], ◌∷◌, ◌++◌, length, set, Option, Some, None, true, false, refl, sym, ap, ◌∙◌, subst, inl, inr, ⊎_elim, arith, if◌then◌else◌}
use Rattle.std.specs.Prelude.{slice_get, slice_set}
use Rattle.std.proofs.lemmas.Bool.Decides.{nat_tests}
use Rattle.std.proofs.lemmas.Bool.{false≢true}
use mathlib.Core.Option.{some, some-ne-none, some-injective}
use lib.ListN.{get_elem?}
use Rattle.atomic_table.specs.Table.{State, keeps as still, Step, Allows, Splits, Joins}
use Rattle.atomic_table.proofs.Lists.{at_set, at_snoc}
use Rattle.worker_seats.specs.declared.seating.SeatView.{SeatView}
use Rattle.worker_seats.specs.Seats.{notes_from, notes_by, registry_of, nobody, beside, registry_in, seat_in, registry_of_one_more, seat_of_one_more, after_start, after_note, RegistryFits, SeatFits, ViewFits, SitApart, SeatsFit, SeatHasStarted, HasNoted, HasChecked}
use Rattle.worker_seats.proofs.Rows.{get_front, get_last, get_within, set_else, set_here}

-- a view that is another keeps, or sits, as that does
pub keeps_as : (v w : SeatView) → v ≡ w → w.keeps ≡ true → v.keeps ≡ true
keeps_as v w e keeps = ap (λ (u : SeatView). u.keeps) e ∙ keeps

pub sits_as : (v w : SeatView) → v ≡ w → w.sits ≡ true → v.sits ≡ true
sits_as v w e sits = ap (λ (u : SeatView). u.sits) e ∙ sits

pub notes_from_snoc : (n w : ℕ) (log : List (ℕ × ℕ)) (x : ℕ × ℕ) → notes_from n w (log ++ x ∷ []) ≡ notes_from n w log ++ (if x.0 == w then (n + length log, x.1) ∷ [] else [])
notes_from_snoc n w [] x = grind arith
notes_from_snoc n w (y ∷ log) x = let h = notes_from_snoc (suc n) w log x in grind (arith, h)

abbrev EachViewFits : ℕ → List (ℕ × ℕ) → List (Option ℕ) → List SeatView → Type 0
EachViewFits desk log running views = (by : ℕ) (v : SeatView) → get_elem? views by ≡ some v → ViewFits desk log running by v

each_set : (desk : ℕ) (log : List (ℕ × ℕ)) (running : List (Option ℕ)) (views : List SeatView) (by : ℕ) (w : SeatView)
    → ((j : ℕ) (u : SeatView) → j ≢ by → get_elem? views j ≡ some u → ViewFits desk log running j u) → ViewFits desk log running by w → EachViewFits desk log running (set views by w)
each_set desk log running views by w others mine j u e =
    ⊎_elim
    (λ (x : (j ≡ by) × (w ≡ u)). subst (λ (y : ℕ × SeatView). ViewFits desk log running y.0 y.1) (λ i. (sym x.0 i, x.1 i)) mine)
    (λ (x : (j ≢ by) × (get_elem? views j ≡ some u)). others j u x.0 x.1)
    (at_set views by j w u e)

-- the view w sits for no session that another sits for
abbrev Free : List SeatView → ℕ → SeatView → Type 0
Free views by w = (j : ℕ) (u : SeatView) → j ≢ by → get_elem? views j ≡ some u → u.sits ≡ true → w.sits ≡ true → u.worker ≢ w.worker

apart_set : (views : List SeatView) (by : ℕ) (w : SeatView) → SitApart views → Free views by w → SitApart (set views by w)
apart_set views by w apart free i j u v ei ej su sv same =
    ⊎_elim
    (λ (x : (i ≡ by) × (w ≡ u)). ⊎_elim
    (λ (y : (j ≡ by) × (w ≡ v)). x.0 ∙ sym y.0)
    (λ (y : (j ≢ by) × (get_elem? views j ≡ some v)). absurd (free j v y.0 y.1 sv (ap (λ (z : SeatView). z.sits) x.1 ∙ su) (sym same ∙ ap (λ (z : SeatView). z.worker) (sym x.1))))
    (at_set views by j w v ej))
    (λ (x : (i ≢ by) × (get_elem? views i ≡ some u)). ⊎_elim
    (λ (y : (j ≡ by) × (w ≡ v)). absurd (free i u x.0 x.1 su (ap (λ (z : SeatView). z.sits) y.1 ∙ sv) (same ∙ ap (λ (z : SeatView). z.worker) (sym y.1))))
    (λ (y : (j ≢ by) × (get_elem? views j ≡ some v)). apart i j u v x.1 y.1 su sv same)
    (at_set views by j w v ej))
    (at_set views by i w u ei)

each_snoc : (desk : ℕ) (log : List (ℕ × ℕ)) (running : List (Option ℕ)) (views : List SeatView) (w : SeatView) → EachViewFits desk log running views
    → ((j : ℕ) → ViewFits desk log running j w) → EachViewFits desk log running (views ++ w ∷ [])
each_snoc desk log running views w each mine j u e = ⊎_elim (λ x. each j u x) (λ (x : w ≡ u). subst (ViewFits desk log running j) x (mine j)) (at_snoc views w u j e)

at_end : (l : List SeatView) (a b : SeatView) (j : ℕ) → get_elem? l j ≢ some b → get_elem? (l ++ a ∷ []) j ≡ some b → j ≡ length l
at_end [] a b zero n e = refl
at_end [] a b (suc j) n e = absurd (some-ne-none b (sym e))
at_end (x ∷ xs) a b zero n e = absurd (n e)
at_end (x ∷ xs) a b (suc j) n e = ap suc (at_end xs a b j n e)

at_cases : (l : List SeatView) (a b : SeatView) (j : ℕ) → get_elem? (l ++ a ∷ []) j ≡ some b → (get_elem? l j ≡ some b) ⊎ ((j ≡ length l) × (a ≡ b))
at_cases [] a b zero e = inr (refl, some-injective _ _ e)
at_cases [] a b (suc j) e = absurd (some-ne-none b (sym e))
at_cases (x ∷ xs) a b zero e = inl e
at_cases (x ∷ xs) a b (suc j) e = ⊎_elim (λ h. inl h) (λ h. inr (ap suc h.0, h.1)) (at_cases xs a b j e)

apart_snoc : (views : List SeatView) (w : SeatView) → SitApart views
    → ((j : ℕ) (u : SeatView) → get_elem? views j ≡ some u → u.sits ≡ true → w.sits ≡ true → u.worker ≢ w.worker) → SitApart (views ++ w ∷ [])
apart_snoc views w apart free i j u v ei ej su sv same =
    ⊎_elim
    (λ x. ⊎_elim
    (λ y. apart i j u v x y su sv same)
    (λ (y : (j ≡ length views) × (w ≡ v)). absurd (free i u x su (ap (λ (z : SeatView). z.sits) y.1 ∙ sv) (same ∙ ap (λ (z : SeatView). z.worker) (sym y.1))))
    (at_cases views w v j ej))
    (λ (x : (i ≡ length views) × (w ≡ u)). ⊎_elim
    (λ y. absurd (free j v y sv (ap (λ (z : SeatView). z.sits) x.1 ∙ su) (sym same ∙ ap (λ (z : SeatView). z.worker) (sym x.1))))
    (λ (y : (j ≡ length views) × (w ≡ v)). x.0 ∙ sym y.0)
    (at_cases views w v j ej))
    (at_cases views w u i ei)

other_note : (w x job : ℕ) (log : List (ℕ × ℕ)) → w ≢ x → notes_by w (log ++ (x, job) ∷ []) ≡ notes_by w log
other_note w x job log n = let h = notes_from_snoc 0 w log (x, job) in grind (arith, h, nat_tests, append_nil)
  where
    append_nil : (l : List (ℕ × ℕ)) → l ++ [] ≡ l
    append_nil [] = refl
    append_nil (y ∷ l) = ap (λ t. y ∷ t) (append_nil l)

own_note : (x job : ℕ) (log : List (ℕ × ℕ)) → notes_by x (log ++ (x, job) ∷ []) ≡ notes_by x log ++ (length log, job) ∷ []
own_note x job log = let h = notes_from_snoc 0 x log (x, job) in grind (arith, h, nat_tests)

pub begins : SeatsFit (registry_of [] [] ∷ [])
begins = record { desk = 0; log = []; running = []; each = one; apart = two }
  where
    one : EachViewFits 0 [] [] (registry_of [] [] ∷ [])
    one zero v e = subst (ViewFits 0 [] [] 0) (some-injective _ _ e) (record { registry = λ _. record { desk_is = refl; log_is = refl; running_is = refl }; seat = λ c. absurd (false≢true c) })
    one (suc pass) v e = absurd (some-ne-none v (sym e))

    two : SitApart (registry_of [] [] ∷ [])
    two zero zero u v e f s t same = refl
    two zero (suc j) u v e f s t same = absurd (some-ne-none v (sym f))
    two (suc i) j u v e f s t same = absurd (some-ne-none u (sym e))

-- with another list of what each session runs, and another log, all views fit again
module _ (views : List SeatView) (h : SeatsFit views) (pass : ℕ) (v : SeatView) (at : get_elem? views pass ≡ some v) (keeps : v.keeps ≡ true) where
  registry : RegistryFits h.desk h.log h.running pass v
  registry = (h.each pass v at).registry keeps

  -- no other pass keeps
  none_keeps : (j : ℕ) (u : SeatView) → j ≢ pass → get_elem? views j ≡ some u → u.keeps ≡ true → ⊥
  none_keeps j u apart e c = apart (((h.each j u e).registry c).desk_is ∙ sym registry.desk_is)

  -- where no other's seat is touched
  pub refit : (log : List (ℕ × ℕ)) (running : List (Option ℕ)) (w : SeatView)
      → ((j : ℕ) (u : SeatView) → j ≢ pass → get_elem? views j ≡ some u → u.sits ≡ true → SeatFits h.log h.running u → SeatFits log running u)
      → ViewFits h.desk log running pass w → EachViewFits h.desk log running (set views pass w)
  refit log running w others mine = each_set h.desk log running views pass w
      (λ j u apart e. record { registry = λ c. absurd (none_keeps j u apart e c); seat = λ c. others j u apart e c ((h.each j u e).seat c) })
      mine

  -- who sits beside it stays the only one of its session
  module _ (sits : v.sits ≡ true) where
    seat : SeatFits h.log h.running v
    seat = (h.each pass v at).seat sits

    another : (j : ℕ) (u : SeatView) → j ≢ pass → get_elem? views j ≡ some u → u.sits ≡ true → u.worker ≢ v.worker
    another j u apart e su same = apart (h.apart j pass u v e at su sits same)

    starts_each : (job : ℕ) → EachViewFits h.desk h.log (slice_set h.running v.worker (Some job)) (set views pass (after_start v job))
    starts_each job = refit h.log (slice_set h.running v.worker (Some job)) (after_start v job)
        (λ j u apart e su f. record { job_is = set_else h.running v.worker u.worker (Some job) (another j u apart e su) ∙ f.job_is; notes_is = f.notes_is })
        (record {
          registry = λ _. record { desk_is = registry.desk_is; log_is = registry.log_is; running_is = ap (λ l. slice_set l v.worker (Some job)) registry.running_is };
          seat = λ _. record { job_is = set_here h.running v.worker v.job (Some job) seat.job_is; notes_is = seat.notes_is };
        })

    pub starts : (job : ℕ) → SeatsFit (set views pass (after_start v job))
    starts job = record {
      desk = h.desk;
      log = h.log;
      running = slice_set h.running v.worker (Some job);
      each = starts_each job;
      apart = apart_set views pass (after_start v job) h.apart (λ j u apart e su sw. another j u apart e su);
    }

    notes_each : (job : ℕ) → EachViewFits h.desk (h.log ++ (v.worker, job) ∷ []) (slice_set h.running v.worker None) (set views pass (after_note v job))
    notes_each job = refit (h.log ++ (v.worker, job) ∷ []) (slice_set h.running v.worker None) (after_note v job)
        (λ j u apart e su f. record {
          job_is = set_else h.running v.worker u.worker None (another j u apart e su) ∙ f.job_is;
          notes_is = f.notes_is ∙ sym (other_note u.worker v.worker job h.log (another j u apart e su));
        })
        (record {
          registry = λ _. record { desk_is = registry.desk_is; log_is = ap (λ l. l ++ (v.worker, job) ∷ []) registry.log_is; running_is = ap (λ l. slice_set l v.worker None) registry.running_is };
          seat = λ _. record {
            job_is = set_here h.running v.worker v.job None seat.job_is;
            notes_is = ap (λ (t : List (ℕ × ℕ)). t ++ (length v.log, job) ∷ []) seat.notes_is
                ∙ ap (λ (t : List (ℕ × ℕ)). notes_by v.worker h.log ++ (length t, job) ∷ []) registry.log_is ∙ sym (own_note v.worker job h.log);
          };
        })

    pub notes : (job : ℕ) → SeatsFit (set views pass (after_note v job))
    notes job = record {
      desk = h.desk;
      log = h.log ++ (v.worker, job) ∷ [];
      running = slice_set h.running v.worker None;
      each = notes_each job;
      apart = apart_set views pass (after_note v job) h.apart (λ j u apart e su sw. another j u apart e su);
    }

-- the rule of a cell of seats
abbrev Rule : State (Unit {0}) SeatView → Type 0
Rule s = SeatsFit s.views

module _ (slots pass : ℕ) (v : SeatView) (c : List (ℕ × Unit {0})) (f : ℕ → ℕ) (i : ℕ) (st : Step (Unit {0})) (kept : v.keeps ≡ true) where
  pub starts_allows : v.sits ≡ true → Allows Rule slots pass (v, c) i f (SeatHasStarted st (v, c))
  starts_allows sits s h len at small = (after_start v st.first, still, tt, starts s.views h pass v at kept sits st.first, refl)

  pub notes_allows : v.sits ≡ true → Allows Rule slots pass (v, c) i f (HasNoted st (v, c))
  notes_allows sits s h len at small = (after_note v st.first, still, tt, notes s.views h pass v at kept sits st.first, refl)

  pub checks_allows : Allows Rule slots pass (v, c) i f (HasChecked st (v, c))
  checks_allows s h len at small =
      let k = registry s.views h pass v at kept in (
        v,
        still,
        tt,
        record {
          desk = h.desk;
          log = h.log;
          running = h.running;
          each = refit s.views h pass v at kept h.log h.running v (λ j u apart e su f. f) (h.each pass v at);
          apart = apart_set s.views pass v h.apart (λ j u apart e su sv same. apart (h.apart j pass u v e at su sv same));
        },
        record {
          same = refl;
          fits = λ c. (let s = (h.each pass v at).seat c in record {
            job_is = ap (λ l. slice_get l v.worker) k.running_is ∙ s.job_is;
            notes_is = s.notes_is ∙ ap (λ l. notes_by v.worker l) (sym k.log_is);
          });
        },
      )

-- a view that sits for nobody is free
idle_free : (views : List SeatView) (pass : ℕ) (w : SeatView) → w.sits ≡ false → Free views pass w
idle_free views pass w idle j u apart e su sw same = false≢true (sym idle ∙ sw)

-- the seat leaves the registry
pub leaves : (pass : ℕ) (v : SeatView) → v.keeps ≡ true → Splits Rule pass v (registry_in v) (seat_in v)
leaves pass v keeps s h at =
    let views = s.views in
    let a = registry_in v in
    let f = h.each pass v at in
    let k = f.registry keeps in
    let rest = refit views h pass v at keeps h.log h.running a (λ j u apart e su s. s)
    (record { registry = λ _. record { desk_is = k.desk_is; log_is = k.log_is; running_is = k.running_is }; seat = λ c. absurd (false≢true c) }) in
    record {
      desk = h.desk;
      log = h.log;
      running = h.running;
      each = each_snoc h.desk h.log h.running (set views pass a) (seat_in v) rest
          (λ j. record { registry = λ c. absurd (false≢true c); seat = λ c. record { job_is = (f.seat c).job_is; notes_is = (f.seat c).notes_is } });
      apart = apart_snoc (set views pass a) (seat_in v) (apart_set views pass a h.apart (idle_free views pass a refl))
          (λ j u e su sw same. ⊎_elim
          (λ (x : (j ≡ pass) × (a ≡ u)). false≢true (ap (λ (z : SeatView). z.sits) x.1 ∙ su))
          (λ (x : (j ≢ pass) × (get_elem? views j ≡ some u)). x.0 (h.apart j pass u v x.1 at su sw same))
          (at_set views pass j a u e));
    }

-- a seat for one session more
pub widens : (pass : ℕ) (v : SeatView) → v.keeps ≡ true → Splits Rule pass v (registry_of_one_more v) (seat_of_one_more v)
widens pass v keeps s h at =
    let views = s.views in
    let k = registry views h pass v at keeps in
    let a = registry_of_one_more v in
    let running : List (Option ℕ) = h.running ++ None ∷ [] in
    let rest = refit views h pass v at keeps h.log running a
    (λ j u apart e su s. record { job_is = get_front h.running (None ∷ []) u.worker u.job s.job_is; notes_is = s.notes_is })
    (record { registry = λ _. record { desk_is = k.desk_is; log_is = k.log_is; running_is = ap (λ l. l ++ None ∷ []) k.running_is }; seat = λ c. absurd (false≢true c) }) in
    record {
      desk = h.desk;
      log = h.log;
      running = running;
      each = each_snoc h.desk h.log running (set views pass a) (seat_of_one_more v) rest
          (λ j. record {
            registry = λ c. absurd (false≢true c);
            seat = λ _. record {
              job_is = ap (λ (l : List (Option ℕ)). slice_get running (length l)) k.running_is ∙ get_last h.running None;
              notes_is = ap (λ l. notes_by (length v.running) l) k.log_is;
            };
          });
      apart = apart_snoc (set views pass a) (seat_of_one_more v) (apart_set views pass a h.apart (idle_free views pass a refl))
          (λ j u e su sw same. ⊎_elim
          (λ (x : (j ≡ pass) × (a ≡ u)). false≢true (ap (λ (z : SeatView). z.sits) x.1 ∙ su))
          (λ (x : (j ≢ pass) × (get_elem? views j ≡ some u)).
          let inside = get_within h.running u.worker u.job ((h.each j u x.1).seat su).job_is in
          omega (arith, inside, same, ap (λ (l : List (Option ℕ)). length l) k.running_is))
          (at_set views pass j a u e));
    }

-- a seat comes beside the registry
pub sits_down : (pass : ℕ) (v : SeatView) (other : ℕ) (u : SeatView) → v.keeps ≡ true → Joins Rule pass v other u (beside v u) nobody
sits_down pass v other u keeps s h at apart there =
    let views = s.views in
    let w = beside v u in
    let f = h.each pass v at in
    let g = h.each other u was in
    record {
      desk = h.desk;
      log = h.log;
      running = h.running;
      each = each_set h.desk h.log h.running (set views pass w) other nobody
          (λ j y _ e. each_set h.desk h.log h.running views pass w (λ i z _ e'. h.each i z e')
          (record {
            registry = λ c.
                record { desk_is = (f.registry keeps).desk_is; log_is = (f.registry keeps).log_is; running_is = (f.registry keeps).running_is };
            seat =
                λ c. record { job_is = (g.seat c).job_is; notes_is = (g.seat c).notes_is };
          }) j y e)
          (record { registry = λ c. absurd (false≢true c); seat = λ c. absurd (false≢true c) });
      apart = two;
    }
  where
    was : get_elem? s.views other ≡ some u
    was = ⊎_elim (λ (t : (other ≡ pass) × (beside v u ≡ u)). absurd (apart t.0)) (λ (t : (other ≢ pass) × (get_elem? s.views other ≡ some u)). t.1) (at_set s.views pass other (beside v u) u there)

    two : SitApart (set (set s.views pass (beside v u)) other nobody)
    two i j y z ei ej sy sz same =
        ⊎_elim
        (λ (p : (i ≡ other) × (nobody ≡ y)). absurd (false≢true (ap (λ (t : SeatView). t.sits) p.1 ∙ sy)))
        (λ (p : (i ≢ other) × (get_elem? (set s.views pass (beside v u)) i ≡ some y)). ⊎_elim
        (λ (q : (j ≡ other) × (nobody ≡ z)). absurd (false≢true (ap (λ (t : SeatView). t.sits) q.1 ∙ sz)))
        (λ (q : (j ≢ other) × (get_elem? (set s.views pass (beside v u)) j ≡ some z)). ⊎_elim
        (λ (r : (i ≡ pass) × (beside v u ≡ y)). ⊎_elim
        (λ (s : (j ≡ pass) × (beside v u ≡ z)). r.0 ∙ sym s.0)
        (λ (s : (j ≢ pass) × (get_elem? s.views j ≡ some z)).
        absurd (q.0 (h.apart j other z u s.1 was sz (ap (λ (t : SeatView). t.sits) r.1 ∙ sy) (sym same ∙ ap (λ (t : SeatView). t.worker) (sym r.1)))))
        (at_set s.views pass j (beside v u) z q.1))
        (λ (r : (i ≢ pass) × (get_elem? s.views i ≡ some y)). ⊎_elim
        (λ (s : (j ≡ pass) × (beside v u ≡ z)). absurd (p.0 (h.apart i other y u r.1 was sy (ap (λ (t : SeatView). t.sits) s.1 ∙ sz) (same ∙ ap (λ (t : SeatView). t.worker) (sym s.1)))))
        (λ (s : (j ≢ pass) × (get_elem? s.views j ≡ some z)). h.apart i j y z r.1 s.1 sy sz same)
        (at_set s.views pass j (beside v u) z q.1))
        (at_set s.views pass i (beside v u) y p.1))
        (at_set (set s.views pass (beside v u)) other j nobody z ej))
        (at_set (set s.views pass (beside v u)) other i nobody y ei)
