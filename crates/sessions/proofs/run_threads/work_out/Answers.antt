use Rattle.std.proofs.Common.{◌≡◌, ◌+◌, ◌++◌, ◌∷◌, [], map, length, None, slice_get, vec_len, IfSome, sym, ap, ◌∙◌, subst, arith}
use Rattle.crossbeam_queue.specs.Passes.{view}
use Rattle.sessions.proofs.Imports.{length-map, jobs_in, sum_over, weigh, known_by, sum_over_snoc, weigh-append, some_snoc}
use Rattle.sessions.proofs.Hiring.{both_mapped, mapped, each_mapped, sum_over_mapped, weigh_notes}
use Rattle.sessions.proofs.run_threads.work_out.Goals as goal

pub push_reserved-requires : goal.push_reserved-requires
push_reserved-requires g c =
    let seats = c.gather.new.seats in
    let items = ap length (c.gather.ensures.seats ∙ ap (λ l. l ++ map (λ w. w.seat) c.joined-returned.result.items) c.requires.seats.0) in
    omega (arith, seats.ok.0, items, length-map c.joined-returned.result.items (λ w. w.seat), c.joined-returned.result.ok.0, c.joined-returned.ensures.len, c.gather.ensures.capacity, c.requires.seats.1)

pub returns-clause-ranked : goal.returns-clause-ranked
returns-clause-ranked g c k =
    let returned = c.joined-returned.result in
    let own = c.work-own-2 in
    let here = c.gather.ensures.seats ∙ ap (λ l. l ++ map (λ w. w.seat) returned.items) c.requires.seats.0 in
    let long : length (map (λ w. w.seat) returned.items) ≡ vec_len returned = length-map returned.items (λ w. w.seat) ∙ sym returned.ok.0 in
    subst (λ l. IfSome (slice_get l k) (λ s. s.worker ≡ k)) (sym (c.push_reserved.ensures.items ∙ ap (λ l. l ++ own.result.0 ∷ []) here))
    (some_snoc (λ n s. s.worker ≡ n) (map (λ w. w.seat) returned.items) own.result.0 (mapped (λ w. w.seat) (λ n s. s.worker ≡ n) returned.items c.joined-returned.ensures.ranked)
    (own.ensures.worker ∙ c.work-own.ensures.worker ∙ c.requires.own ∙ sym (long ∙ c.joined-returned.ensures.len)) k)

pub returns-clause-rest : goal.returns-clause-rest
returns-clause-rest g c k =
    let returned = c.joined-returned.result in
    let own = c.work-own-2 in
    let here = c.gather.ensures.seats ∙ ap (λ l. l ++ map (λ w. w.seat) returned.items) c.requires.seats.0 in
    subst (λ l. IfSome (slice_get l k) (λ s. (known_by s.pass).job ≡ None)) (sym (c.push_reserved.ensures.items ∙ ap (λ l. l ++ own.result.0 ∷ []) here))
    (some_snoc (λ n s. (known_by s.pass).job ≡ None) (map (λ w. w.seat) returned.items) own.result.0
    (each_mapped (λ w. w.seat) (λ s. (known_by s.pass).job ≡ None) (λ w. w.rests) returned.items) own.ensures.idle k)

pub returns-clause-popped : goal.returns-clause-popped
returns-clause-popped g c h =
    let returned = c.joined-returned.result in
    let own = c.work-own in
    let again = c.work-own-2 in
    let did = own.ensures.did in
    let more = again.ensures.did in
    let here = c.gather.ensures.seats ∙ ap (λ l. l ++ map (λ w. w.seat) returned.items) c.requires.seats.0 in
    let items = c.push_reserved.ensures.items ∙ ap (λ l. l ++ again.result.0 ∷ []) here in
    let all = ap (λ l. sum_over (λ s. weigh h (jobs_in (known_by s.pass).notes)) l) items
    ∙ sum_over_snoc (λ s. weigh h (jobs_in (known_by s.pass).notes)) (map (λ w. w.seat) returned.items) again.result.0 in
    let others = sum_over_mapped (λ w. w.seat) (λ s. weigh h (jobs_in (known_by s.pass).notes)) returned.items in
    let first : weigh h (view own.result.1).popped ≡ weigh h (jobs_in did.0) = ap (weigh h) (did.2 ∙ ap (λ l. l ++ jobs_in did.0) c.requires.popped) in
    let notes : (known_by again.result.0.pass).notes ≡ did.0 ++ more.0 = more.1 ∙ ap (λ l. l ++ more.0) (did.1 ∙ ap (λ l. l ++ did.0) c.requires.fresh) in
    let mine : weigh h (jobs_in (known_by again.result.0.pass).notes) ≡ weigh h (jobs_in did.0) + weigh h (jobs_in more.0) = ap (λ l. weigh h (jobs_in l)) notes ∙ weigh_notes h did.0 more.0 in
    let last : weigh h (view again.result.1).popped ≡ weigh h (view c.gather.new.pass).popped + weigh h (jobs_in more.0) = ap (weigh h) more.2
    ∙ weigh-append h (view c.gather.new.pass).popped (jobs_in more.0) in
    omega (arith, all, others, first, mine, last, c.gather.ensures.popped h)

pub push_reserved-requires-2 : goal.push_reserved-requires-2
push_reserved-requires-2 g c =
    let hands = c.gather.new.hands in
    let items = ap length (c.gather.ensures.hands ∙ ap (λ l. l ++ map (λ w. w.hand) c.joined-returned.result.items) c.requires.hands.0) in
    omega (arith, hands.ok.0, items, length-map c.joined-returned.result.items (λ w. w.hand), c.joined-returned.result.ok.0, c.joined-returned.ensures.len, c.gather.ensures.held, c.requires.hands.1)

pub returns-clause-told : goal.returns-clause-told
returns-clause-told g c k =
    let returned = c.joined-returned.result in
    let own = c.work-own-2 in
    let told = g.H.Telling.told in
    let seats = c.push_reserved.ensures.items ∙ ap (λ l. l ++ own.result.0 ∷ []) (c.gather.ensures.seats ∙ ap (λ l. l ++ map (λ w. w.seat) returned.items) c.requires.seats.0) in
    let hands = c.push_reserved-2.ensures.items ∙ ap (λ l. l ++ own.new.hand ∷ []) (c.gather.ensures.hands ∙ ap (λ l. l ++ map (λ w. w.hand) returned.items) c.requires.hands.0) in
    subst (λ l. IfSome (slice_get l k) (λ s. IfSome (slice_get c.push_reserved-2.new.self.items k) (λ h. told h ≡ jobs_in (known_by s.pass).notes))) (sym seats)
    (subst (λ l. IfSome (slice_get (map (λ w. w.seat) returned.items ++ own.result.0 ∷ []) k) (λ s. IfSome (slice_get l k) (λ h. told h ≡ jobs_in (known_by s.pass).notes))) (sym hands)
    (both_mapped (λ w. w.seat) (λ w. w.hand) (λ s h. told h ≡ jobs_in (known_by s.pass).notes) (λ w. w.told) own.result.0 own.new.hand own.ensures.told returned.items k))
