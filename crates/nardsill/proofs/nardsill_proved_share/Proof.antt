-- `nardsill_proved_share` lends what lies at both pointers to `share`, and has it back when that returns.
use Rattle.std.proofs.Common.{◌≡◌, List, [], ◌∷◌, ◌++◌, refl, sym, ap, ◌∙◌}
use mir.Syntax.{Ty, Fn, named}
use mir.Val.{Val, vptr}
use base.Fraction.{full_share}
use base.Fml.{Lft, GName, ftrue, flft, flent}
use prog.Wp.{Env, WpFn}
use base.Logic.{SProp, sep, ex, emp, never, id⊢, ex_i}
use contract.Monad.{fact, fact_i}
use denote.Lend.{lends_ref, ref_back}
use denote.Steps.{nothing, peeks, heard}
use denote.Triple.Clauses.{ensured, Lasts, lasts}
use denote.Memory.{part_at}
use types.Logic.{sem}
use types.Kit.{use0, use3, ‵, raw, ◌⊛◌, some, later, prop, at_ret, ◌$◌, ◌∵◌, !, qed, by, move, keep, drop, use1, split, join, fsplit, fjoin, pick, rewrite, regoal, await}
use types.Tokens.{lft_new, lft_end}
use types.Run.{stop, addr, of_opd, no_more, and_then, first, blocks, exec, returns, enter}
use types.ByLocal.{alloc_all, pass_all, free_all, look_at, get, through, sets, sets_last, lands_as, env}
use types.SemTy.{Body}
use contract.Running.{tables}
use denote.Exit.{yes}
use denote.RattleType.{RattleType, owns}
use denote.Memory.{mem, lone}
use denote.Laws.{Is, shows}
use denote.Ref.{MutBor, MutRef}
use denote.RawPtr.{Ptr, RawPtr, rawptr_vals, rawptr_Tells, lies_at, in_a_block}
use denote.Signature.{types_at, plain}
use denote.Triple.Spec.{triple_of}
use denote.Triple.Call.{calls_at}
use denote.Triple.Walked.{Stays, stay_dropped, walk_of, Goes-dropped}
use denote.Triple.Table.{framed}
use denote.Laws.{Typed}
use lib.Dec.{T}
use mir.Val.{has_ty, WT}
use Rattle.nardsill.proofs.nardsill_proved_share.Code.Mir as steps
use Rattle.std.proofs.raw_atomic.Walks.{proved_at, leaves}
use Rattle.nardsill.specs.contracts.handle.Handle as inner
use Rattle.nardsill.specs.contracts.ask.OpenAsk as ask
use Rattle.nardsill.specs.contracts.answer.CallAnswer as answer
use Rattle.nardsill.proofs.ask.OpenAsk.TheLaws as ask_laws
use Rattle.nardsill.proofs.answer.CallAnswer.TheLaws as answer_laws
use Rattle.nardsill.specs.contracts.sharing.share as callee
use Rattle.nardsill.proofs.sharing.share.Met.{met}
use Rattle.nardsill.specs.contracts.nardsill_proved_share.{ended, clauses}
use Rattle.nardsill.specs.contracts.nardsill_proved_share.Key.{name as #self}
use Rattle.nardsill.proofs.nardsill_proved_share.Statement.{statement}
use Rattle.nardsill.proofs.nardsill_proved_share.Code as code
use Rattle.nardsill.specs.Sharing.{IsShared}

one : (τ : Ty) (vs : List Val) → Typed (τ ∷ []) vs → (v : Val) × (vs ≡ v ∷ []) × (T (has_ty τ v) × WT v)
one τ [] t = absurd t
one τ (v ∷ []) t = (v, refl, t.0)
one τ (v ∷ w ∷ vs) t = absurd t.1

pub nardsill_proved_share_spec : {M : Type 1} → statement M
nardsill_proved_share_spec 𝓤 𝓛 𝓜 𝓡 wired =
    let H = 𝓛.H in let 𝓣 = tables 𝓤 H 𝓜 𝓡 𝓡.env in let R : RattleType = inner.the_row in let Q : RattleType = inner.the_row in
    let c = clauses 𝓛 𝓜.mem 𝓡.returns in let fn : Fn = code.function in
    let hs : Stays ended.signature.params ended.kept = (stay_dropped (plain (λ _. RawPtr)) yes, (stay_dropped (plain (λ _. RawPtr)) yes, (stay_dropped (plain (λ _. ask.the_row)) yes, tt))) in
    proved_at 𝓛 ended hs c 𝓜 𝓡
    (Goes-dropped 𝓛 0 (plain (λ _. RawPtr)) yes (λ κs x f. refl), (Goes-dropped 𝓛 0 (plain (λ _. RawPtr)) yes (λ κs x f. refl), (Goes-dropped 𝓛 0 (plain (λ _. ask.the_row)) yes (λ κs x f. refl), tt)))
    #self fn (code.unfolded 𝓤 H 𝓜 𝓡 wired) (λ z are.
    let Post : Val → SProp 𝓤 = (walk_of 𝓛 ended hs c).post z in
    let p : Ptr = z.0.3.0 in let s : Ptr = z.0.3.1.0 in let a = z.0.3.1.1.0 in let vss = z.0.4 in let h = z.1.0 in let g = z.1.1 in
    let got = one (lone (ask.the_row).mir) vss.1.1.0 (((ask_laws.the_row_laws).lawful 𝓛).typed a vss.1.1.0 are.1.1.0) in let w : Val = got.0 in let typed = got.2 in
    qed 𝓛 ((‵ ftrue ⊛ ‵ (owns (types_at ended.signature.params z.0.0) z.0.3 vss)) ∷ (‵ (lies_at R full_share p h) ⊛ ‵ (lies_at Q full_share s g)) ∷ []) ∵
    move ! (1 ∷ []) $ split ! $ in_a_block ! p (λ (r : Ptr). lies_at R full_share r h) (id⊢ 𝓤 (never 𝓤)) (λ b o e.
    move ! (1 ∷ []) $ in_a_block ! s (λ (r : Ptr). lies_at Q full_share r g) (id⊢ 𝓤 (never 𝓤)) (λ b' o' e'.
    -- [the file; the handle; the arguments]
    move ! (2 ∷ []) $ split ! $ move ! (1 ∷ []) $ fsplit ! $ move ! (1 ∷ []) $ fsplit ! $ move ! (1 ∷ []) $ fsplit ! $
    rewrite ! 0 (λ (us : List Val). ‵ ((ask.the_row).own_val a us)) got.1 refl $ keep ! (6 ∷ 5 ∷ 0 ∷ []) $
    regoal ! (λ (us : List Val). prop (WpFn 𝓤 H 𝓣.C 𝓣.Λ fn us Post))
    (λ i. (rawptr_Tells p vss.0 are.0 ∙ ap rawptr_vals e) i ++ ((rawptr_Tells s vss.1.0 are.1.0 ∙ ap rawptr_vals e') i ++ (got.1 i ++ []))) refl $
    enter ! 𝓣.C 𝓣.Λ fn (vptr b o ∷ vptr b' o' ∷ w ∷ []) Post $ alloc_all ! (λ l. pass_all ! refl ((tt, tt), ((tt, tt), (typed, tt))) $ let Ev : Env 𝓤 H = env fn.locals l in
    -- [the handle; the file; what was asked; the locals]
    lft_new ! tt (λ α. let κ : Lft = α ∷ [] in move ! (1 ∷ []) $
    use1 𝓛 (later (some (λ (γ : GName).
    ‵ ((MutRef (named 0) κ R).own_val (record { ref_ptr = (b, o); ghost_name = γ; now = h }) (vptr b o ∷ [])) ⊛ ‵
    (flent κ (Body (mem R) b o γ))))) (lends_ref 𝓛 R (named 0) κ h b o) $ await ! tt $ pick ! (λ γ. split ! $
    lft_new ! tt (λ β. let κ' : Lft = β ∷ [] in move ! (4 ∷ []) $
    use1 𝓛 (later (some (λ (δ : GName).
    ‵ ((MutRef (named 1) κ' Q).own_val (record { ref_ptr = (b', o'); ghost_name = δ; now = g }) (vptr b' o' ∷ [])) ⊛ ‵
    (flent κ' (Body (mem Q) b' o' δ))))) (lends_ref 𝓛 Q (named 1) κ' g b' o') $ await ! tt $ pick ! (λ δ. split ! $
    -- [the file's loan; what gives it back; its token; the handle's loan; what gives it back; its token; what
    -- was asked; the locals]
    first ! $ blocks ! $ sets ! (of_opd ! (get ! refl)) refl (tt, tt) $ sets ! (of_opd ! (get ! refl)) refl (tt, tt) $ sets_last !
    (addr ! (through ! refl (stop !))) refl (tt, tt) $ exec ! 𝓣.C 𝓣.Λ Ev steps.t-2 (at_ret Ev Post) $
    sets ! (of_opd ! (get ! refl)) refl (tt, tt) $
    first ! $ blocks ! $ sets ! (of_opd ! (get ! refl)) refl (tt, tt) $ sets ! (of_opd ! (get ! refl)) refl (tt, tt) $ sets_last !
    (addr ! (through ! refl (stop !))) refl (tt, tt) $ exec ! 𝓣.C 𝓣.Λ Ev steps.t-4 (at_ret Ev Post) $
    sets ! (of_opd ! (get ! refl)) refl (tt, tt) $ sets ! (of_opd ! (get ! refl)) refl typed $
    let k = triple_of 𝓛 callee.signature (callee.spec 𝓛 𝓜.mem 𝓡.returns) in let x : MutBor R.Denot = record { ref_ptr = (b, o); ghost_name = γ; now = h } in
    let x' : MutBor Q.Denot = record { ref_ptr = (b', o'); ghost_name = δ; now = g } in
    let y : k.Ghost = (((κ, (κ', tt)), (full_share, (full_share, tt)), tt, (x, (x', (a, tt))), (vptr b o ∷ [], (vptr b' o' ∷ [], (w ∷ [], tt)))), tt) in
    move ! (6 ∷ []) $ nothing ! $ move ! (1 ∷ 0 ∷ []) $ fjoin ! $ move ! (1 ∷ 0 ∷ []) $ fjoin ! $ move ! (3 ∷ 0 ∷ []) $ fjoin ! $
    nothing ! $ move ! (3 ∷ 0 ∷ []) $ join ! $ move ! (4 ∷ 0 ∷ []) $ join ! $ join ! $ nothing ! $ move ! (1 ∷ 0 ∷ []) $ join ! $ use1 𝓛 (raw (k.pre y)) (id⊢ 𝓤 (k.pre y)) $
    calls_at ! (λ f. framed 𝓤 H 𝓜 𝓣 f) k (met 𝓤 𝓛 𝓜 𝓡 (code.calls-nardsill::sharing::share 𝓡.env wired)) y
    (and_then ! (get ! refl) (and_then ! (get ! refl) (and_then ! (get ! refl) (no_more !)))) (λ v.
    use1 𝓛 (later (some (λ (r : (answer.the_row).Denot).
    ((‵ (flft κ full_share) ⊛ (‵ (flft κ' full_share) ⊛ ‵ ftrue)) ⊛ ‵ ((answer.the_row).own_val r (v ∷ []))) ⊛ raw
    (ensured 𝓛 callee.ended (callee.clauses 𝓛 𝓜.mem 𝓡.returns) (κ, (κ', tt)) (x, (x', (a, tt))) tt r)))) (id⊢ 𝓤 _) $ await ! tt $ pick ! (λ r.
    split ! $ move ! (1 ∷ []) $
    use1 𝓛 (some (λ (ls : Lasts callee.ended (κ, (κ', tt)) (x, (x', (a, tt)))).
    ‵ (lasts callee.ended (κ, (κ', tt)) (x, (x', (a, tt))) ls) ⊛ raw
    (fact 𝓤 ((ls.1.0 ≡ g) × IsShared r h.index (ls.0).index h.dead (ls.0).dead)))) (id⊢ 𝓤 _) $ pick !
    (λ ls. split ! $ move ! (1 ∷ []) $ heard ! ((ls.1.0 ≡ g) × IsShared r h.index (ls.0).index h.dead (ls.0).dead) (λ told.
    fsplit ! $ fsplit ! $ move ! (1 ∷ []) $ drop ! $ move ! (1 ∷ []) $ fsplit ! $ move ! (1 ∷ []) $ drop ! $ fsplit ! $ move ! (1 ∷ []) $ drop ! $
    -- [the file's last value; the handle's; the tokens and the answer; what gives the file back; what gives
    -- the handle back; the locals]
    move ! (2 ∷ []) $ split ! $ split ! $ lft_end ! tt $ move ! (1 ∷ []) $ split ! $ lft_end ! tt $ move ! (1 ∷ []) $ drop ! $
    move ! (0 ∷ 5 ∷ 3 ∷ []) $ use3 𝓛 (later (‵ (part_at Q full_share ls.1.0 b' o'))) (ref_back 𝓛 Q κ' δ ls.1.0 b' o') $ await ! tt $
    move ! (1 ∷ 4 ∷ 3 ∷ []) $ use3 𝓛 (later (‵ (part_at R full_share ls.0 b o))) (ref_back 𝓛 R κ γ ls.0 b o) $ await ! tt $
    -- [the handle; the file; the answer; the locals]
    move ! (2 ∷ []) $
    peeks ! answer.the_row (Is answer.the_row) (shows 𝓛 answer.the_row) r (v ∷ []) (λ is. lands_as ! refl refl (((answer_laws.the_row_laws).lawful 𝓛).typed r (v ∷ []) is).0 $
    returns ! (look_at ! 0 refl) $ free_all ! refl $
    rewrite ! 1 (λ (q : Ptr). ‵ (lies_at R full_share q ls.0)) (sym e) refl $ rewrite ! 2 (λ (q : Ptr). ‵ (lies_at Q full_share q ls.1.0)) (sym e') refl $
    rewrite ! 2 (λ (u : Q.Denot). ‵ (lies_at Q full_share s u)) told.0 refl $
    use0 𝓛 (raw (fact 𝓤 (IsShared r h.index (ls.0).index h.dead (ls.0).dead))) (fact_i 𝓤 (IsShared r h.index (ls.0).index h.dead (ls.0).dead) (emp 𝓤) told.1) $ move ! (2 ∷ 0 ∷ []) $ join ! $
    use1 𝓛 (raw (ex 𝓤 (λ (u : R.Denot). sep 𝓤 (sem 𝓛 (lies_at R full_share p u)) (fact 𝓤 (IsShared r h.index (u).index h.dead (u).dead)))))
    (ex_i 𝓤 (λ (u : R.Denot). sep 𝓤 (sem 𝓛 (lies_at R full_share p u)) (fact 𝓤 (IsShared r h.index (u).index h.dead (u).dead))) ls.0) $
    move ! (0 ∷ 2 ∷ []) $ join ! $
    move ! (1 ∷ []) $ nothing ! $ nothing ! $ fjoin ! $ nothing ! $ fjoin ! $ nothing ! $ fjoin ! $ nothing ! $
    by ! (leaves 𝓛 ended hs c z v r (tt, (tt, (tt, tt))) (tt, (tt, (tt, tt)))))))))))))))))
