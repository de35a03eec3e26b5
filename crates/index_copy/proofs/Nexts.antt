-- What an open scan has given.
use Rattle.std.proofs.Common.{◌≡◌, ◌≢◌, ◌<◌, ◌≤◌, ◌+◌, ℕ, Bool, ◌||◌, Option, Some, None, Result, Ok, Err, List, [], ◌∷◌, ◌++◌, length, refl, sym, ap, subst, ◌∙◌, arith, length-append}
use Rattle.index_model.specs.Order.{is_among, same_entry}
use Rattle.index_model.specs.declared.entry.Entry.{Entry}
use Rattle.index_model.specs.declared.fault.Fault.{Fault}
use Rattle.page_action.specs.declared.page_store.PageStore.{Ghosts}
use Rattle.session_calls.specs.declared.op.Op.{Op}
use Rattle.whole_calls.specs.Giving.{RunsIfGiven}
use Rattle.access_method.specs.Indexes.{ForEachIndexHistory}
use Rattle.access_method.specs.Refusals.{GiveHasCause}
use Rattle.access_method.specs.Scans.{NextIs, NextsAre}
use Rattle.access_method.specs.declared.index.Index.{Index}
use Rattle.index_copy.proofs.Entries.{among_one_more}
use Rattle.index_copy.specs.Batches.{BreaksOff, GivesBatch, batch_len, is_in_batch}
use Rattle.index_copy.specs.declared.batch.Batch.{Batch}

module _ {S : Type 0} (g : Ghosts S) (session : ℕ) where
  -- what was answered, by its value
  pub next_as : (answer same : Result (Option Entry) Fault) (old new : Index S) → answer ≡ same → NextIs g session answer old new → NextIs g session same old new
  next_as answer same old new is next = subst (λ (r : Result (Option Entry) Fault). NextIs g session r old new) is next

  -- one more is given
  pub nexts_more : (given : List Entry) (entry : Entry) (old mid new : Index S) → NextsAre g session given old mid → NextIs g session (Ok (Some entry)) mid new
      → NextsAre g session (given ++ entry ∷ []) old new
  nexts_more [] entry old mid new same next = (new, subst (λ (i : Index S). NextIs g session (Ok (Some entry)) i new) same next, refl)
  nexts_more (e ∷ given) entry old mid new nexts next = (nexts.0, nexts.1, nexts_more given entry nexts.0 mid new nexts.2 next)

  -- these, and then those
  pub nexts_twice : (given more : List Entry) (old mid new : Index S) → NextsAre g session given old mid → NextsAre g session more mid new → NextsAre g session (given ++ more) old new
  nexts_twice [] more old mid new same nexts = subst (λ (i : Index S). NextsAre g session more i new) same nexts
  nexts_twice (e ∷ given) more old mid new nexts others = (nexts.0, nexts.1, nexts_twice given more nexts.0 mid new nexts.2 others)

  -- of an index that is another by its name
  pub nexts_to : (given : List Entry) (old mid new : Index S) → new ≡ mid → NextsAre g session given old mid → NextsAre g session given old new
  nexts_to given old mid new same nexts = subst (λ (i : Index S). NextsAre g session given old i) (sym same) nexts

-- a session that has given an entry runs on
pub runs_on : (answer : Result (Option Entry) Fault) (entry : Entry) (before after : Option Op) → answer ≡ Ok (Some entry) → RunsIfGiven answer before after → before ≢ None → after ≢ None
runs_on answer entry before after is lasts = subst (λ (r : Result (Option Entry) Fault). RunsIfGiven r before after) is lasts

-- these were given so far, and the batch has them
pub record FillsBatch {S : Type 0} (g : Ghosts S) (session : ℕ) (old new : Index S) (batch : Batch) : Type 0 where
  pub given : List Entry
  pub gives : NextsAre g session given old new
  pub many : batch_len batch ≡ length given
  pub each : (e : Entry) → is_in_batch batch e ≡ is_among given e
  pub few : batch_len batch ≤ 4900

module _ {S : Type 0} (g : Ghosts S) (session : ℕ) (old now : Index S) (batch : Batch) (fills : FillsBatch g session old now batch) where
  -- one more
  pub fills_more : (entry : Entry) (new : Index S) (filled : Batch) → NextIs g session (Ok (Some entry)) now new → batch_len batch < 4900 → batch_len filled ≡ batch_len batch + 1
      → ((e : Entry) → is_in_batch filled e ≡ (is_in_batch batch e || same_entry entry e)) → FillsBatch g session old new filled
  fills_more entry new filled next room more each = record {
    given = fills.given ++ entry ∷ [];
    gives = nexts_more g session fills.given entry old now new fills.gives next;
    many = let many = fills.many in simp length-append (omega (arith, many, more));
    each = λ e. each e ∙ ap (λ (b : Bool). b || same_entry entry e) (fills.each e) ∙ sym (among_one_more fills.given entry e);
    few = omega (arith, room, more);
  }

  -- it is full
  pub gives_whole : 4900 ≤ batch_len batch → GivesBatch g session old now batch
  gives_whole full = record {
    given = fills.given;
    last = now;
    many = fills.many;
    each = fills.each;
    gives = fills.gives;
    few = let many = fills.many in let few = fills.few in omega (arith, many, few);
    whole = λ is. refl;
    ends = λ short. absurd (let many = fills.many in let few = fills.few in short (omega (arith, many, few, full)));
  }

  -- or these were the last
  pub gives_last : (new : Index S) → NextIs g session (Ok None) now new → batch_len batch < 4900 → GivesBatch g session old new batch
  gives_last new next room = record {
    given = fills.given;
    last = now;
    many = fills.many;
    each = fills.each;
    gives = fills.gives;
    few = let many = fills.many in let few = fills.few in omega (arith, many, few);
    whole = λ is. absurd (let many = fills.many in omega (arith, many, is, room));
    ends = λ short. next;
  }

  -- or it was refused
  pub breaks_off : (fault : Fault) (new : Index S) → NextIs g session (Err fault) now new → ForEachIndexHistory g now new (GiveHasCause g session (Err fault) now new.store)
      → BreaksOff g session fault old new
  breaks_off fault new next cause = record { given = fills.given; last = now; gives = fills.gives; refused = next; cause = cause }
