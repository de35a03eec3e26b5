-- What a copy of a scan has done so far, and what that says of the index that it scans.
use Rattle.std.proofs.Common.{◌≡◌, ◌≢◌, ◌+◌, ℕ, Bool, true, ◌||◌, Option, Some, None, Result, Ok, Err, List, ◌++◌, length, refl, sym, ap, inl, inr, ◌∙◌, arith, length-append}
use Rattle.std.proofs.lemmas.Bool.{cases_eq}
use Rattle.index_model.proofs.Ascending.{is_among-append}
use Rattle.index_model.specs.Order.{is_among}
use Rattle.index_model.specs.Range.{matches}
use Rattle.index_model.specs.declared.entry.Entry.{Entry}
use Rattle.index_model.specs.declared.fault.Fault.{Fault}
use Rattle.index_model.specs.declared.range.Range.{Range}
use Rattle.page_action.specs.States.{Continues}
use Rattle.page_action.specs.declared.page_store.PageStore.{Ghosts}
use Rattle.schedule.proofs.Keeping.{Laws}
use Rattle.access_method.specs.Indexes.{ForEachIndexHistory, has_entry}
use Rattle.access_method.specs.Scans.{AreTheMatches, BeginTheMatches, NextIs, NextsAre, Rests, ScanBegins}
use Rattle.access_method.specs.declared.index.Index.{Index}
use Rattle.access_method.proofs.Scans.{rests_twice}
use Rattle.index_copy.proofs.Nexts.{nexts_to, nexts_twice}
use Rattle.index_copy.proofs.Entries.{distinct_ascending, one_test, or_left, or_right}
use Rattle.index_copy.proofs.Going.{gains_twice, honest_before, refused_later, refused_more, refused_then}
use Rattle.index_copy.specs.Batches.{BreaksOff, GivesBatch, batch_len, is_in_batch}
use Rattle.index_copy.specs.Copies.{CopiesScan, IsCauseOfStop, IsCopied, IsNotCopied, IsRefusedOne, IsStopped, ThenAnswers, WasAsked}
use Rattle.index_copy.specs.Copying.{Gains, FitsOn, IsPutRefusedFor, WasRefused}
use Rattle.index_copy.specs.declared.batch.Batch.{Batch}
use Rattle.index_copy.specs.declared.copying.NotCopied.{NotCopied}
use Rattle.index_copy.specs.declared.copying.NotCopied.TheVariants.{NotGiven, NotPut, TooMany}

-- so many entries were given by the scan, and the other index has gained these
pub record HasCopied {S T : Type 0} (g : Ghosts S) (h : Ghosts T) (session count : ℕ) (old new : Index S) (into_old into_new : Index T) : Type 0 where
  pub given : List Entry
  pub many : count ≡ length given
  pub gives : NextsAre g session given old new
  pub gains : ForEachIndexHistory h into_old into_new (λ start history calls. Gains h (is_among given) into_old.store into_new.store)

module _ {S : Type 0} (g : Ghosts S) (session : ℕ) (given : List Entry) (old mid new : Index S) (before : NextsAre g session given old mid) where
  -- a batch was asked for then
  pub asked_batch : (batch : Batch) → GivesBatch g session mid new batch → WasAsked g session old new
  asked_batch batch b = elim (cases_eq (length b.given) 4900) [
    | inl whole ↦ record {
      given = given ++ b.given;
      last = b.last;
      answer = None;
      gives = nexts_twice g session given b.given old mid b.last before b.gives;
      then_is = b.whole whole;
    }
    | inr short ↦ record {
      given = given ++ b.given;
      last = b.last;
      answer = Some (Ok None);
      gives = nexts_twice g session given b.given old mid b.last before b.gives;
      then_is = b.ends short;
    }
  ]

  -- ... and refused
  pub asked_refused : (fault : Fault) → BreaksOff g session fault mid new → WasAsked g session old new
  asked_refused fault b = record {
    given = given ++ b.given;
    last = b.last;
    answer = Some (Err fault);
    gives = nexts_twice g session given b.given old mid b.last before b.gives;
    then_is = b.refused;
  }

  -- ... which breaks the scan off
  pub breaks_after : (fault : Fault) → BreaksOff g session fault mid new → BreaksOff g session fault old new
  breaks_after fault b = record {
    given = given ++ b.given;
    last = b.last;
    gives = nexts_twice g session given b.given old mid b.last before b.gives;
    refused = b.refused;
    cause = b.cause;
  }

-- nothing more was asked for
pub asked_so_far : {S : Type 0} (g : Ghosts S) (session : ℕ) (given : List Entry) (old new : Index S) → NextsAre g session given old new → WasAsked g session old new
asked_so_far g session given old new gives = record { given = given; last = new; answer = None; gives = gives; then_is = refl }

module _ {S T : Type 0} (g : Ghosts S) (h : Ghosts T) (laws : Laws h) (session count : ℕ) (old mid new : Index S) (into_old into_mid into_new : Index T)
    (steps : Continues h.follows into_mid.store into_new.store) (goes : ForEachIndexHistory h into_old into_mid (FitsOn h into_old into_mid))
    (copied : HasCopied g h session count old mid into_old into_mid) (batch : Batch) (b : GivesBatch g session mid new batch)
  where
    -- what is among both lists
    joined : (e : Entry) → is_among (copied.given ++ b.given) e ≡ (is_among copied.given e || is_in_batch batch e)
    joined e = is_among-append copied.given b.given e ∙ ap (λ (x : Bool). is_among copied.given e || x) (sym (b.each e))

    all_gives : NextsAre g session (copied.given ++ b.given) old b.last
    all_gives = nexts_twice g session copied.given b.given old mid b.last copied.gives b.gives

    all_many : (many : ℕ) → many ≡ batch_len batch → count + many ≡ length (copied.given ++ b.given)
    all_many many is = let before = copied.many in let more = b.many in simp length-append (omega (arith, before, more, is))

    all_gains : ForEachIndexHistory h into_mid into_new (λ start history calls. Gains h (is_in_batch batch) into_mid.store into_new.store)
        → ForEachIndexHistory h into_old into_new (λ start history calls. Gains h (is_among (copied.given ++ b.given)) into_old.store into_new.store)
    all_gains gains = gains_twice h laws into_old into_mid into_new steps goes (is_among copied.given) (is_in_batch batch) (is_among (copied.given ++ b.given)) copied.gains gains joined

    -- a batch of 4900 was put, too
    pub copied_more : (many : ℕ) → many ≡ batch_len batch → batch_len batch ≡ 4900 → ForEachIndexHistory h into_mid into_new (λ start history calls. Gains h (is_in_batch batch) into_mid.store into_new.store)
        → HasCopied g h session (count + many) old new into_old into_new
    copied_more many is full gains = record {
      given = copied.given ++ b.given;
      many = all_many many is;
      gives = nexts_to g session (copied.given ++ b.given) old b.last new (b.whole (sym b.many ∙ full)) all_gives;
      gains = all_gains gains;
    }

    -- ... and the last one
    pub copied_last : (many : ℕ) → many ≡ batch_len batch → batch_len batch ≢ 4900 → ForEachIndexHistory h into_mid into_new (λ start history calls. Gains h (is_in_batch batch) into_mid.store into_new.store)
        → CopiesScan g h session (count + many) old new into_old into_new
    copied_last many is short gains = record {
      given = copied.given ++ b.given;
      last = b.last;
      many = all_many many is;
      gives = all_gives;
      ends = b.ends (λ full. short (b.many ∙ full));
      gains = all_gains gains;
    }

    -- one of a batch was refused
    pub refused_in : (fault : Fault) → Continues h.follows into_old.store into_mid.store
        → ForEachIndexHistory h into_mid into_new (λ start history calls. IsPutRefusedFor h (is_in_batch batch) into_mid.store fault) → WasRefused h fault into_mid into_new
        → IsRefusedOne g h session old new into_old into_new fault
    refused_in fault before refused cause = record {
      cause = refused_later h laws into_old into_mid into_new fault before goes cause;
      given = copied.given ++ b.given;
      last = b.last;
      gives = all_gives;
      ends = elim (cases_eq (length b.given) 4900) [ inl whole ↦ inl (b.whole whole) | inr short ↦ inr (b.ends short) ];
      refused = refused_then h laws into_old into_mid into_new steps goes (is_among copied.given) (is_in_batch batch) (is_among (copied.given ++ b.given)) copied.gains fault refused
          (λ e was. joined e ∙ or_left (is_among copied.given e) (is_in_batch batch e) was) (λ e more. joined e ∙ or_right (is_among copied.given e) (is_in_batch batch e) more);
    }

-- a scan of a range that has every entry, as it is known of the index now
module _ {S : Type 0} (g : Ghosts S) (laws : Laws g) (session : ℕ) (range : Range) (every : (e : Entry) → matches range e ≡ true) (before begun now : Index S) (begins : ScanBegins g session range before begun)
  where
    module _ (resting : (given : List Entry) → NextsAre g session given begun now → ForEachIndexHistory g before now (Rests g before now))
        (resting_then : (last : Index S) (given : List Entry) (answer : Result (Option Entry) Fault) → NextsAre g session given begun last → NextIs g session answer last now
        → ForEachIndexHistory g before now (Rests g before now))
      where
        -- the index rests
        pub asked_rests : WasAsked g session begun now → ForEachIndexHistory g before now (Rests g before now)
        asked_rests asked = by asked.answer asked.then_is
          where
            by : (answer : Option (Result (Option Entry) Fault)) → ThenAnswers g session answer asked.last now → ForEachIndexHistory g before now (Rests g before now)
            by None same = resting asked.given (nexts_to g session asked.given begun asked.last now same asked.gives)
            by (Some answer) next = resting_then asked.last asked.given answer asked.gives next

        -- ... and does so behind the scan's end
        pub closed_rests : (new : Index S) → Continues g.follows now.store new.store → WasAsked g session begun now → ForEachIndexHistory g now new (Rests g now new)
            → ForEachIndexHistory g before new (Rests g before new)
        closed_rests new steps asked ended honest start history calls fits =
            let first = asked_rests asked (honest_before g laws now new steps honest) start history calls fits in
            rests_twice g before now new start history calls first (ended honest start history first.then_calls first.fits)

    module _ (firsts : (given : List Entry) → NextsAre g session given begun now → ForEachIndexHistory g before now (λ start history calls. BeginTheMatches (has_entry g before.store) range given))
        (alls : (last : Index S) (given : List Entry) → NextsAre g session given begun last → NextIs g session (Ok None) last now
        → ForEachIndexHistory g before now (λ start history calls. AreTheMatches (has_entry g before.store) range given))
        (new : Index S) (steps : Continues g.follows now.store new.store) {T : Type 0} (h : Ghosts T) (into_old into_new : Index T)
      where
        -- all its entries are copied
        pub copied_all : (count : ℕ) → CopiesScan g h session count begun now into_old into_new
            → ForEachIndexHistory g before new (λ start history calls. IsCopied g h count before.store into_old into_new)
        copied_all count copied honest start history calls fits =
            let are = alls copied.last copied.given copied.gives copied.ends (honest_before g laws now new steps honest) start history calls fits in
            let same : (e : Entry) → is_among copied.given e ≡ has_entry g before.store e =
            λ e. one_test (is_among copied.given e) (has_entry g before.store e) (λ among. (are.right e among).0) (λ there. are.all e there (every e)) in
            record {
              many = record { listed = copied.given; once = distinct_ascending copied.given are.ascending; such = same; many = copied.many };
              gains = λ honest_then begin actions calls_then fitted e. copied.gains honest_then begin actions calls_then fitted e ∙ ap (λ (b : Bool). b || has_entry h into_old.store e) (same e);
            }

        -- or one of its entries was refused
        pub refused_all : (fault : Fault) → IsRefusedOne g h session begun now into_old into_new fault
            → ForEachIndexHistory g before new (λ start history calls. ForEachIndexHistory h into_old into_new (λ begin actions calls_then. IsPutRefusedFor h (has_entry g before.store) into_old.store fault))
        refused_all fault refused honest start history calls fits honest_then begin actions calls_then fitted =
            let then = honest_before g laws now new steps honest in
            let there : (e : Entry) → is_among refused.given e ≡ true → has_entry g before.store e ≡ true = λ e among. elim refused.ends [
              | inl same ↦ ((firsts refused.given (nexts_to g session refused.given begun refused.last now same refused.gives) then start history calls fits).right e among).0
              | inr next ↦ ((alls refused.last refused.given refused.gives next then start history calls fits).right e among).0
            ] in
            refused_more h (is_among refused.given) (has_entry g before.store) into_old.store fault there (refused.refused honest_then begin actions calls_then fitted)

        -- ... as it is told why the copy stopped
        pub stopped_all : (not_copied : NotCopied) → IsStopped g h session begun now into_old into_new not_copied
            → ForEachIndexHistory g before new (λ start history calls. IsNotCopied g h before.store into_old into_new not_copied)
        stopped_all (NotGiven fault) stopped honest start history calls fits = tt
        stopped_all (NotPut fault) stopped honest start history calls fits = refused_all fault stopped honest start history calls fits
        stopped_all TooMany stopped honest start history calls fits = tt

-- why a scan of all was stopped, is why the copy was
pub cause_of : {S T : Type 0} (g : Ghosts S) (h : Ghosts T) (session : ℕ) (before begun now new : Index S) (into_old into_new : Index T)
    → ScanBegins g session (record { from = None; below = None }) before begun → Continues g.follows now.store new.store
    → (not_copied : NotCopied) → IsStopped g h session begun now into_old into_new not_copied → IsCauseOfStop g h before new into_old into_new not_copied
cause_of g h session before begun now new into_old into_new begins steps (NotGiven fault) stopped =
    inr (record { session = session; begun = begun; last = now; begins = begins; came = stopped; steps = steps })
cause_of g h session before begun now new into_old into_new begins steps (NotPut fault) stopped = stopped.cause
cause_of g h session before begun now new into_old into_new begins steps TooMany stopped =
    record { session = session; begun = begun; last = now; begins = begins; came = stopped; steps = steps }
