-- What each event under the lock leaves of what is kept: an event of one session touches one call at most.
use Rattle.std.proofs.Common.{◌≡◌, ◌≢◌, ◌⊎◌, Bool, ℕ, zero, suc, ◌<◌, ◌≤◌, List, [], ◌∷◌, ◌++◌, length, Option, Some, None, slice_get, slice_set, refl, sym, ap, ◌∙◌, subst, inl, inr, ⊎_elim, arith, length-append, length-set, append_assoc}
use Rattle.shared_world.proofs.Imports.{append-nil, Action, Call, Running, Entry, at_some_moment_later, Ghosts, OneCallRuns, KeepsHistory, StoreAndSlots, snapshot_of, Fits, nat_cases, get_front}
use Rattle.shared_world.proofs.Imports.{get_snoc, get_within, get_there, set_else, set_cases, Job, Scan, CompletedCall, PendingCall, WasLeft, ListsCall, ListsUpkeep, Lists, RunsCall, IsPending, IsOurs}
use Rattle.shared_world.proofs.Imports.{CallFollows, IsSince, IsInTime, KeepsFitting}
use Rattle.shared_world.specs.Handed.{Handed}
use Rattle.shared_world.proofs.Noting.{some_same}

below_snoc : {A : Type 0} (xs : List A) (x : A) (j : ℕ) → j < length (xs ++ x ∷ []) → (j < length xs) ⊎ (j ≡ length xs)
below_snoc xs x j l = ⊎_elim (λ (e : j ≡ length xs). inr e) (λ (n : j ≢ length xs). inl (omega (arith, l, n, length-append xs (x ∷ [])))) (nat_cases j (length xs))

get_append : {A : Type 0} (xs ys : List A) (n : ℕ) (a : A) → slice_get (xs ++ ys) n ≡ Some a → (slice_get xs n ≡ Some a) ⊎ ((m : ℕ) × (slice_get ys m ≡ Some a))
get_append [] ys n a h = inr (n, h)
get_append (x ∷ xs) ys zero a h = inl h
get_append (x ∷ xs) ys (suc n) a h = get_append xs ys n a h

-- a call that was left rightly was so by a longer history too
left_later : (start : Entry → Bool) (l m : List Action) (job : Job) (r : CompletedCall) (added : Option ℕ) → r.to ≤ length l → WasLeft start l job r added → WasLeft start (l ++ m) job r added
left_later start l m (Scan range room) r added le (inl h) = inl h
left_later start l m (Scan range room) r added le (inr h) =
    inr (record { entry = h.entry; matched = h.matched; was_there = at_some_moment_later start l m r.from r.to r.to h.entry le (omega arith) h.was_there; beyond = h.beyond })
left_later start l m job r added le h = h

-- each of these actions is of the call of this number
abbrev pub AllBy : ℕ → List Action → Type 0
AllBy number more = (place : ℕ) (action : Action) → slice_get more place ≡ Some action → action.by ≡ number

module _ {S : Type 0} (g : Ghosts S) (contents : Entry → Bool) (acts : List Action) (old : List Call) (KeptThen : Type 0)
    (w v : StoreAndSlots S) (handed : Handed) (start : ℕ) (pending : List (Option PendingCall)) (records : List CompletedCall) where
  abbrev pub Kept : Type 0
  Kept = KeepsFitting g handed contents acts old KeptThen w start pending records

  -- an event of one session changes no call but that of this number
  pub record Touches (k : Kept) (s i : ℕ) (more : List Action) (calls : List Call) : Type 0 where
    pub own : AllBy i more
    pub fit : Fits g contents (snapshot_of v (k.history ++ more) calls)
    pub safe : KeepsHistory g contents (snapshot_of w k.history k.calls) → KeepsHistory g contents (snapshot_of v (k.history ++ more) calls)
    pub above : length old ≤ i
    pub rest : (j : ℕ) (c : Call) → j ≢ i → slice_get k.calls j ≡ Some c → slice_get calls j ≡ Some c
    pub longer : length k.calls ≤ length calls
    pub new : (j : ℕ) → j < length calls → (j < length k.calls) ⊎ (j ≡ i)
    pub within : (n : ℕ) (a : Action) → slice_get more n ≡ Some a → i < length calls
    pub free : (q : ℕ) → slice_get k.at q ≡ Some (Some i) → ⊥
    pub apart : (t : ℕ) (q : PendingCall) → t ≢ s → (y : RunsCall handed (length old) k.calls t q) → y.number ≢ i
    -- no other running call is the session's
    pub alone : (j : ℕ) → j ≢ i → (h : IsPending k.calls pending j) → h.call.session ≢ s
    pub less : (g.backing w.store).durable ≤ (g.backing v.store).durable

  -- every call of the log ended by now
  pub follows_now : (k : Kept) (s from : ℕ) → from ≡ length k.history → CallFollows records s (length records) from
  follows_now k s from e q r h same = (get_within records q r h, omega (arith, e, (k.in_time q r h).to_is))

  -- what is listed are calls that ended
  listed_call : (k : Kept) (j q : ℕ) → slice_get k.at q ≡ Some (Some j) → (c : Call) × (slice_get k.calls j ≡ Some c) × (c.ending ≢ Running)
  listed_call k j q h =
      let t = get_there records q (omega (arith, k.long, get_within k.at q (Some j) h)) in
      ⊎_elim
      (λ (l : ListsCall contents k.history handed k.calls k.at q t.0). (l.call, subst (λ n. slice_get k.calls n ≡ Some l.call) (some_same (some_same (sym l.at_is ∙ h))) l.found, l.is.over))
      (λ (l : ListsUpkeep (g.backing w.store).durable k.at q t.0). absurd (let e = sym l.at_is ∙ h in cc))
      (k.listed q t.0 t.1)

  old_above : (k : Kept) (i : ℕ) (c : Call) → slice_get old i ≡ Some c → i < length k.calls
  old_above k i c h = get_within k.calls i c (k.same i c h)

  pub old_fits : (k : Kept) → length old ≤ length k.calls
  old_fits k = below (length old) refl
    where
      below : (n : ℕ) → n ≡ length old → length old ≤ length k.calls
      below zero e = omega (arith, e)
      below (suc n) e = let t = get_there old n (omega (arith, e)) in omega (arith, e, old_above k n t.0 t.1)

  -- a session that has no pending call has no running one
  none_alone : (k : Kept) (s j : ℕ) → slice_get pending s ≡ Some None → (h : IsPending k.calls pending j) → h.call.session ≢ s
  none_alone k s j idle h e = (let a = sym h.waits ∙ ap (slice_get pending) e ∙ idle in absurd cc)

  -- a call more
  pub touches_next : (k : Kept) (s : ℕ) (c : Call) → slice_get pending s ≡ Some None → Fits g contents (snapshot_of v k.history (k.calls ++ c ∷ []))
      → (KeepsHistory g contents (snapshot_of w k.history k.calls) → KeepsHistory g contents (snapshot_of v k.history (k.calls ++ c ∷ [])))
      → (g.backing w.store).durable ≤ (g.backing v.store).durable → Touches k s (length k.calls) [] (k.calls ++ c ∷ [])
  touches_next k s c idle fit safe less = record {
    own = λ n a h. absurd cc;
    fit = subst (λ l. Fits g contents (snapshot_of v l (k.calls ++ c ∷ []))) (sym (append-nil k.history)) fit;
    safe = λ h. subst (λ l. KeepsHistory g contents (snapshot_of v l (k.calls ++ c ∷ []))) (sym (append-nil k.history)) (safe h);
    above = old_fits k;
    rest = λ j d n h. get_front k.calls (c ∷ []) j d h;
    longer = omega (arith, length-append k.calls (c ∷ []));
    new = λ j l. below_snoc k.calls c j l;
    within = λ n a h. absurd cc;
    free = λ q h. (let x = listed_call k (length k.calls) q h in absurd (omega (arith, get_within k.calls (length k.calls) x.0 x.1)));
    apart = λ t q n y e. omega (arith, e, get_within k.calls y.number y.call y.is.found);
    alone = λ j n h. none_alone k s j idle h;
    less = less;
  }

  -- no call is touched
  pub touches_none : (k : Kept) (s : ℕ) → slice_get pending s ≡ Some None → Fits g contents (snapshot_of v k.history k.calls)
      → (KeepsHistory g contents (snapshot_of w k.history k.calls) → KeepsHistory g contents (snapshot_of v k.history k.calls))
      → (g.backing w.store).durable ≤ (g.backing v.store).durable → Touches k s (length k.calls) [] k.calls
  touches_none k s idle fit safe less = record {
    own = λ n a h. absurd cc;
    fit = subst (λ l. Fits g contents (snapshot_of v l k.calls)) (sym (append-nil k.history)) fit;
    safe = λ h. subst (λ l. KeepsHistory g contents (snapshot_of v l k.calls)) (sym (append-nil k.history)) (safe h);
    above = old_fits k;
    rest = λ j d n h. h;
    longer = omega arith;
    new = λ j l. inl l;
    within = λ n a h. absurd cc;
    free = λ q h. (let x = listed_call k (length k.calls) q h in absurd (omega (arith, get_within k.calls (length k.calls) x.0 x.1)));
    apart = λ t q n y e. omega (arith, e, get_within k.calls y.number y.call y.is.found);
    alone = λ j n h. none_alone k s j idle h;
    less = less;
  }

  -- the session's running call goes on, or ends
  pub touches_running : OneCallRuns g → (k : Kept) (s : ℕ) (p : PendingCall) (y : RunsCall handed (length old) k.calls s p) (more : List Action) (after : Call) → AllBy y.number more
      → Fits g contents (snapshot_of v (k.history ++ more) (slice_set k.calls y.number after))
      → (KeepsHistory g contents (snapshot_of w k.history k.calls) → KeepsHistory g contents (snapshot_of v (k.history ++ more) (slice_set k.calls y.number after)))
      → (g.backing w.store).durable ≤ (g.backing v.store).durable → Touches k s y.number more (slice_set k.calls y.number after)
  touches_running one k s p y more after own fit safe less =
      let i = y.number in
      let long = length-set k.calls i after in
      record {
        own = own;
        fit = fit;
        safe = safe;
        above = y.own;
        rest = λ j c n h. set_else k.calls i j after n ∙ h;
        longer = omega (arith, long);
        new = λ j l. inl (omega (arith, l, long));
        within = λ n a h. omega (arith, long, get_within k.calls i y.call y.is.found);
        free = λ q h. (let x = listed_call k i q h in x.2 (ap (λ (c : Call). c.ending) (some_same (sym x.1 ∙ y.is.found)) ∙ y.is.running));
        apart = λ t q n z e. n (sym z.is.session_is ∙ ap (λ (c : Call). c.session) (some_same (sym z.is.found ∙ ap (slice_get k.calls) e ∙ y.is.found)) ∙ y.is.session_is);
        alone = λ j n h e. n (one contents (snapshot_of w k.history k.calls) s i j y.call h.call k.fit y.is (record { found = h.found; session_is = e; running = h.runs }));
        less = less;
      }

  module _ (k : Kept) (s i : ℕ) (more : List Action) (calls : List Call) (t : Touches k s i more calls) (o : Option PendingCall) where
    abbrev then_pending : List (Option PendingCall)
    then_pending = slice_set pending s o

    lists_kept : (ats : List (Option ℕ)) (q : ℕ) (r : CompletedCall) → r.to ≤ length k.history → Lists contents k.history (g.backing w.store).durable handed k.calls k.at q r
        → Lists contents (k.history ++ more) (g.backing v.store).durable handed calls (k.at ++ ats) q r
    lists_kept ats q r to l = ⊎_elim
        (λ (x : ListsCall contents k.history handed k.calls k.at q r). inl (record {
          number = x.number;
          request = x.request;
          set = x.set;
          call = x.call;
          at_is = get_front k.at ats q (Some x.number) x.at_is;
          asks = x.asks;
          found = t.rest x.number x.call (λ e. t.free q (x.at_is ∙ ap (λ n. Some (Some n)) e)) x.found;
          removes = x.removes;
          is = x.is;
          most = x.most;
          left = λ e. left_later contents k.history more r.asked r x.call.added to (x.left e);
        }))
        (λ (x : ListsUpkeep (g.backing w.store).durable k.at q r). inr (record {
          upkeep = x.upkeep;
          at_is = get_front k.at ats q None x.at_is;
          asks = x.asks;
          answers = x.answers;
          none = x.none;
          still = x.still;
          kept = λ n e. (let y = x.kept n e in (y.0, omega (arith, y.1, t.less)));
        }))
        l

    pending_kept : (j : ℕ) → j ≢ i → IsPending k.calls pending j → IsPending calls then_pending j
    pending_kept j n h = record {
      call = h.call;
      running = h.running;
      found = t.rest j h.call n h.found;
      runs = h.runs;
      waits = set_else pending s h.call.session o (t.alone j n h) ∙ h.waits;
    }

    ours_kept : (ats : List (Option ℕ)) → (i < length calls → IsOurs calls (k.at ++ ats) then_pending i) → (j : ℕ) → length old ≤ j → j < length calls → IsOurs calls (k.at ++ ats) then_pending j
    ours_kept ats mine j above below = ⊎_elim
        (λ (e : j ≡ i). subst (IsOurs calls (k.at ++ ats) then_pending) (sym e) (mine (omega (arith, e, below))))
        (λ (n : j ≢ i). ⊎_elim
        (λ (l : j < length k.calls). ⊎_elim
        (λ (x : (place : ℕ) × (slice_get k.at place ≡ Some (Some j))). inl (x.0, get_front k.at ats x.0 (Some j) x.1))
        (λ (x : IsPending k.calls pending j). inr (pending_kept j n x))
        (k.ours j above l))
        (λ (e : j ≡ i). absurd (n e))
        (t.new j below))
        (nat_cases j i)

    owned_kept : (n : ℕ) (a : Action) → length acts ≤ n → slice_get (k.history ++ more) n ≡ Some a → (length old ≤ a.by) × (a.by < length calls)
    owned_kept n a l h = ⊎_elim
        (λ (x : slice_get k.history n ≡ Some a). (let own = k.owned n a l x in (own.0, omega (arith, own.1, t.longer))))
        (λ (x : (m : ℕ) × (slice_get more m ≡ Some a)). (let e = t.own x.0 a x.1 in (omega (arith, e, t.above), omega (arith, e, t.within x.0 a x.1))))
        (get_append k.history more n a h)

    runs_kept : (u : ℕ) (q : PendingCall) → u ≢ s → RunsCall handed (length old) k.calls u q → RunsCall handed (length old) calls u q
    runs_kept u q n y = record {
      number = y.number;
      request = y.request;
      set = y.set;
      call = y.call;
      asks = y.asks;
      own = y.own;
      is = record { found = t.rest y.number y.call (t.apart u q n y) y.is.found; session_is = y.is.session_is; running = y.is.running };
      removes = y.removes;
      ask_is = y.ask_is;
      began_is = y.began_is;
      given_is = y.given_is;
      most = y.most;
    }

    -- no call is over that was not before
    pub keeps_on : (i < length calls → IsOurs calls k.at then_pending i)
        → ((q : PendingCall) → o ≡ Some q → RunsCall handed (length old) calls s q × IsSince records (length (k.history ++ more)) s q.seen q.from)
        → KeepsFitting g handed contents acts old KeptThen v start then_pending records
    keeps_on mine own =
        let long = length-append k.history more in
        record {
          history = k.history ++ more;
          calls = calls;
          at = k.at;
          start_is = k.start_is;
          grows = (k.grows.0 ++ more, ap (λ l. l ++ more) k.grows.1 ∙ append_assoc acts k.grows.0 more);
          fit = t.fit;
          safe = λ h. t.safe (k.safe h);
          same = λ j c h. t.rest j c (λ e. omega (arith, e, t.above, get_within old j c h)) (k.same j c h);
          ours = λ j a b. subst (λ l. IsOurs calls l then_pending j) (append-nil k.at) (ours_kept [] (λ l. subst (λ x. IsOurs calls x then_pending i) (sym (append-nil k.at)) (mine l)) j a b);
          owned = owned_kept;
          long = k.long;
          listed = λ q r h. subst (λ l. Lists contents (k.history ++ more) (g.backing v.store).durable handed calls l q r) (append-nil k.at)
              (lists_kept [] q r (k.in_time q r h).to_is (k.listed q r h));
          once = k.once;
          runs = λ u q h. ⊎_elim
              (λ (x : (u ≡ s) × (o ≡ Some q)). subst (λ n. RunsCall handed (length old) calls n q) (sym x.0) (own q x.1).0)
              (λ (x : (u ≢ s) × (slice_get pending u ≡ Some (Some q))). runs_kept u q x.0 (k.runs u q x.1))
              (set_cases pending s u o (Some q) h);
          since = λ u q h. ⊎_elim
              (λ (x : (u ≡ s) × (o ≡ Some q)). subst (λ n. IsSince records (length (k.history ++ more)) n q.seen q.from) (sym x.0) (own q x.1).1)
              (λ (x : (u ≢ s) × (slice_get pending u ≡ Some (Some q))). (let y = k.since u q x.1 in record { seen_is = y.seen_is; from_is = omega (arith, y.from_is, long); follows = y.follows }))
              (set_cases pending s u o (Some q) h);
          follows = k.follows;
          in_time = λ q r h. (let y = k.in_time q r h in record { seen_is = y.seen_is; from_is = y.from_is; to_is = omega (arith, y.to_is, long) });
        }

    -- one call more is over, and the session runs nothing then
    pub keeps_with : (r : CompletedCall) → r.session ≡ s → o ≡ None → (entry : Option ℕ) → ((j : ℕ) → entry ≡ Some j → j ≡ i)
        → (i < length calls → IsOurs calls (k.at ++ entry ∷ []) then_pending i)
        → Lists contents (k.history ++ more) (g.backing v.store).durable handed calls (k.at ++ entry ∷ []) (length records) r
        → IsInTime (length (k.history ++ more)) (length records) r
        → CallFollows records s r.seen r.from
        → KeepsFitting g handed contents acts old KeptThen v start then_pending (records ++ r ∷ [])
    keeps_with r worker none entry fresh mine listed in_time follows =
        let long = length-append k.history more in
        let one = entry ∷ [] in
        let longer = length-append records (r ∷ []) in
        record {
          history = k.history ++ more;
          calls = calls;
          at = k.at ++ one;
          start_is = k.start_is;
          grows = (k.grows.0 ++ more, ap (λ l. l ++ more) k.grows.1 ∙ append_assoc acts k.grows.0 more);
          fit = t.fit;
          safe = λ h. t.safe (k.safe h);
          same = λ j c h. t.rest j c (λ e. omega (arith, e, t.above, get_within old j c h)) (k.same j c h);
          ours = ours_kept one mine;
          owned = owned_kept;
          long = omega (arith, k.long, length-append k.at one, longer);
          listed = λ q u h. ⊎_elim
              (λ (x : (q < length records) × (slice_get records q ≡ Some u)). lists_kept one q u (k.in_time q u x.1).to_is (k.listed q u x.1))
              (λ (x : (q ≡ length records) × (r ≡ u)).
              subst (λ (y : ℕ × CompletedCall). Lists contents (k.history ++ more) (g.backing v.store).durable handed calls (k.at ++ one) y.0 y.1) (λ z. (sym x.0 z, x.1 z)) listed)
              (get_snoc records r u q h);
          once = λ p q j x y. ⊎_elim
              (λ (a : (p < length k.at) × (slice_get k.at p ≡ Some (Some j))). ⊎_elim
              (λ (b : (q < length k.at) × (slice_get k.at q ≡ Some (Some j))). k.once p q j a.1 b.1)
              (λ (b : (q ≡ length k.at) × (entry ≡ Some j)). absurd (t.free p (a.1 ∙ ap (λ n. Some (Some n)) (fresh j b.1))))
              (get_snoc k.at entry (Some j) q y))
              (λ (a : (p ≡ length k.at) × (entry ≡ Some j)). ⊎_elim
              (λ (b : (q < length k.at) × (slice_get k.at q ≡ Some (Some j))). absurd (t.free q (b.1 ∙ ap (λ n. Some (Some n)) (fresh j a.1))))
              (λ (b : (q ≡ length k.at) × (entry ≡ Some j)). a.0 ∙ sym b.0)
              (get_snoc k.at entry (Some j) q y))
              (get_snoc k.at entry (Some j) p x);
          runs = λ u q h. ⊎_elim
              (λ (x : (u ≡ s) × (o ≡ Some q)). absurd (let e = sym none ∙ x.1 in cc))
              (λ (x : (u ≢ s) × (slice_get pending u ≡ Some (Some q))). runs_kept u q x.0 (k.runs u q x.1))
              (set_cases pending s u o (Some q) h);
          since = λ u q h. ⊎_elim
              (λ (x : (u ≡ s) × (o ≡ Some q)). absurd (let e = sym none ∙ x.1 in cc))
              (λ (x : (u ≢ s) × (slice_get pending u ≡ Some (Some q))). (let y = k.since u q x.1 in record {
                seen_is = omega (arith, y.seen_is, longer);
                from_is = omega (arith, y.from_is, long);
                follows = λ m z hm is. ⊎_elim
                    (λ (b : (m < length records) × (slice_get records m ≡ Some z)). y.follows m z b.1 is)
                    (λ (b : (m ≡ length records) × (r ≡ z)). absurd (x.0 (sym is ∙ ap (λ (d : CompletedCall). d.session) (sym b.1) ∙ worker)))
                    (get_snoc records r z m hm);
              }))
              (set_cases pending s u o (Some q) h);
          follows = λ p q u z less x y same. ⊎_elim
              (λ (m : (q < length records) × (slice_get records q ≡ Some z)).
              k.follows p q u z less
              (⊎_elim (λ (b : (p < length records) × (slice_get records p ≡ Some u)). b.1)
              (λ (b : (p ≡ length records) × (r ≡ u)). absurd (omega (arith, less, m.0, b.0))) (get_snoc records r u p x)) m.1 same)
              (λ (m : (q ≡ length records) × (r ≡ z)). ⊎_elim
              (λ (b : (p < length records) × (slice_get records p ≡ Some u)).
              subst (λ (d : CompletedCall). (p < d.seen) × (u.to ≤ d.from)) m.1 (follows p u b.1 (same ∙ ap (λ (d : CompletedCall). d.session) (sym m.1) ∙ worker)))
              (λ (b : (p ≡ length records) × (r ≡ u)). absurd (omega (arith, less, m.0, b.0)))
              (get_snoc records r u p x))
              (get_snoc records r z q y);
          in_time = λ q u h. ⊎_elim
              (λ (x : (q < length records) × (slice_get records q ≡ Some u)). (let y = k.in_time q u x.1 in record { seen_is = y.seen_is; from_is = y.from_is; to_is = omega (arith, y.to_is, long) }))
              (λ (x : (q ≡ length records) × (r ≡ u)). subst (λ (y : ℕ × CompletedCall). IsInTime (length (k.history ++ more)) y.0 y.1) (λ z. (sym x.0 z, x.1 z)) in_time)
              (get_snoc records r u q h);
        }

-- it begins with the world as it was handed in
pub keeps_first : {S : Type 0} (g : Ghosts S) (contents : Entry → Bool) (acts : List Action) (old : List Call) (KeptThen : Type 0)
    (w : StoreAndSlots S) (handed : Handed) (start : ℕ) (pending : List (Option PendingCall))
    → Fits g contents (snapshot_of w acts old) → (KeptThen → KeepsHistory g contents (snapshot_of w acts old)) → start ≡ length acts
    → ((s : ℕ) (p : PendingCall) → slice_get pending s ≡ Some (Some p) → ⊥)
    → KeepsFitting g handed contents acts old KeptThen w start pending []
keeps_first g contents acts old KeptThen w handed start pending fit safe is none = record {
  history = acts;
  calls = old;
  at = [];
  start_is = is;
  grows = ([], sym (append-nil acts));
  fit = fit;
  safe = safe;
  same = λ i c h. h;
  ours = λ i a b. absurd (omega (arith, a, b));
  owned = λ k a l h. absurd (omega (arith, l, get_within acts k a h));
  long = refl;
  listed = λ p r h. absurd cc;
  once = λ p q i x y. absurd cc;
  runs = λ s p h. absurd (none s p h);
  since = λ s p h. absurd (none s p h);
  follows = λ p q r t l h. absurd cc;
  in_time = λ p r h. absurd cc;
}
