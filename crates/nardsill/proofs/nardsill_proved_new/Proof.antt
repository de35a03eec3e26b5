-- `nardsill_proved_new` writes the pointer of what `made` made at `out`, and leaves to C what lies there.
use Rattle.std.proofs.Common.{◌≡◌, ◌⊎◌, ◌==◌, inl, inr, ℕ, List, [], ◌∷◌, ◌++◌, refl, ap, ◌∙◌, lit<, w32, Some, None, IfSome}
use mir.Syntax.{Ty, Fn, named, impl, tnil, dnil}
use mir.Raw.{raw as bare}
use mir.Val.{Val, vptr, vint, vstruct, vcons, vnil, of_list, has_ty, WT}
use base.Fraction.{full_share}
use base.Fml.{Lft, Share, Fml, ftrue, flft}
use base.Logic.{SProp, sep, ex, emp, never, id⊢, ex_i, fst∗}
use prog.Wp.{WpFn, Wp, after_seq, at_return}
use seplogic.Ra.Ura.{Ura}
use lib.Dec.{T}
use types.Logic.{Logic, sem}
use types.Kit.{Item, Goal, Seq, any_q, ‵, raw, ◌⊛◌, some, later, prop, at_ret, ◌$◌, ◌∵◌, !, qed, by, move, keep, drop, use0, use1, use3, split, join, fsplit, fsplit3, fjoin, fpick, feq_i, feq_l, pick, rewrite, regoal, await}
use types.Run.{stop, fld, lit, store, of_opd, no_more, and_then, assigns, first, switches_on, exec, returns, enter}
use types.ByLocal.{alloc_all, pass_all, free_all, look_at, get, get_in, get_tag, through, sets, sets_last, lands_as, env}
use types.Match.{live, vrt, in_variant}
use types.Part.{whole, sub}
use contract.Monad.{fact, fact_i}
use contract.Running.{tables}
use denote.Builtin.{u32}
use denote.Exit.{yes}
use denote.Laws.{Typed}
use denote.Memory.{cell_at, lone}
use denote.Plain.{uint_Makes}
use denote.RattleType.{RattleType, owns}
use denote.RawPtr.{Ptr, RawPtr, block_ptr, null_ptr, ptr_val, in_a_block}
use denote.Ref.{MutRef, MutBor}
use denote.Signature.{types_at, plain}
use denote.Steps.{nothing, only, heard, owned, opens, closes}
use denote.Triple.Call.{calls_at}
use denote.Triple.Clauses.{Lasts, lasts}
use denote.Triple.Spec.{triple_of}
use denote.Triple.Table.{framed}
use denote.Triple.Walked.{Stays, stay_dropped, stay_ref, walk_of, Goes-dropped, Goes-ref}
use Rattle.std.proofs.VecSteps.Shapes.{after, head, arm_body}
use Rattle.std.proofs.raw_atomic.Walks.{proved_at, leaves}
use Rattle.std.specs.contracts.option.Option as option
use Rattle.std.specs.contracts.alloc.Global as heap
use Rattle.std.proofs.alloc.Global.TheLaws as heap_laws
use Rattle.std.specs.contracts.impls.GlobalAllocator.TheImpl.{ghosts}
use Rattle.std.specs.Box.Ownership.{box_owns}
use Rattle.std.proofs.ResultValues.{and_tt}
use Rattle.std.proofs.alloc.Calls.{Al, handle_tells}
use Rattle.nardsill.specs.Owning.{owned_if}
use Rattle.nardsill.specs.contracts.handle.Handle as inner
use Rattle.nardsill.specs.contracts.loose.Loose as loose
use Rattle.nardsill.specs.contracts.handle.made as callee
use Rattle.nardsill.proofs.handle.made.Met.{met}
use Rattle.nardsill.specs.contracts.nardsill_proved_new.{ended, clauses}
use Rattle.nardsill.specs.contracts.nardsill_proved_new.Key.{name as #self}
use Rattle.nardsill.proofs.nardsill_proved_new.Statement.{statement}
use Rattle.nardsill.proofs.nardsill_proved_new.Code as code

abbrev Good : Ty → Val → Type 0
Good τ v = T (has_ty τ v) × WT v

one : (τ : Ty) (vs : List Val) → Typed (τ ∷ []) vs → (v : Val) × (vs ≡ v ∷ []) × (T (has_ty τ v) × WT v)
one τ [] t = absurd t
one τ (v ∷ []) t = (v, refl, t.0)
one τ (v ∷ w ∷ vs) t = absurd t.1

abbrev R : RattleType
R = inner.the_row

abbrev A : RattleType
A = heap.the_row

abbrev TypeRow : RattleType
TypeRow = loose.the_row R A ghosts

abbrev Made : RattleType
Made = option.the_row TypeRow

-- `v` lies at `p`, and its block may be freed
abbrev At : A.Denot → Ptr → R.Denot → Fml
At a p v = box_owns (ghosts.dealloc_token a) R p v

-- the machine's value of a handle that is made
abbrev some_val : ℕ → ℕ → Val → Val
some_val b o h = live 1 (vcons (vstruct (vcons (vptr b o) (vcons h vnil))) vnil)

abbrev al : Al
al = record { row = A; laws = heap_laws.the_row_laws; g = ghosts; d = impl [] tnil dnil; drops = impl [] tnil dnil }

-- what `made` answered, by cases
module _ {M : Type 1} {𝓤 : Ura M} {𝓛 : Logic 𝓤} {K : Type 0} {Γ : List (Item 𝓤)} {G : Goal 𝓤 𝓛.H} where
  cases : K → (r : Made.Denot) (v : Val) (P Q : TypeRow.Denot → Type 0) → IfSome r P → IfSome r Q
      → ((l : TypeRow.Denot) (b o : ℕ) (h : Val) → P l → Q l → v ≡ some_val b o h → Good (lone A.mir) h → Seq K 𝓛 (‵ (At l.alloc (block_ptr b o) l.value) ∷ Γ) G)
      → (v ≡ live 0 vnil → Seq K 𝓛 Γ G) → Seq K 𝓛 (‵ (Made.own_val r (v ∷ [])) ∷ Γ) G
  cases t (Some l) v P Q p q made refused =
      fpick t (λ us. fsplit t $ feq_l t (λ e. fpick t (λ vss. fsplit t $ feq_l t (λ f. fsplit t $ move t (1 ∷ []) $ drop t $
      fsplit t $ fpick t (λ wss. fsplit t $ feq_l t (λ g. fsplit t $ feq_l t (λ h. fsplit t $ handle_tells al t l.alloc wss.1.0 (λ w k fits. drop t $ drop t $
      in_a_block t l.at (λ p. At l.alloc p l.value) (fst∗ 𝓤 (never 𝓤) (sem 𝓛 (ghosts.dealloc_token l.alloc (bare (lone R.mir)) null_ptr))) (λ b o i. made l b o w p q
      (ap only e ∙ ap (λ (us : List Val). live 1 (of_list us)) (f ∙ ap (λ (ws : List Val). ws ++ [])
      (g ∙ (λ j. vstruct (of_list ((h ∙ ap (λ (p : Ptr). ptr_val p ∷ []) i) j ++ (k j ++ []))) ∷ [])))) fits)))))))))
  cases t None v P Q p q made refused = fpick t (λ us. fsplit t $ feq_l t (λ e. fpick t (λ vss. fsplit t $ feq_l t (λ f. drop t $ refused (ap only e ∙ ap (λ (us : List Val). live 0 (of_list us)) f)))))

pub nardsill_proved_new_spec : {M : Type 1} → statement M
nardsill_proved_new_spec 𝓤 𝓛 𝓜 𝓡 wired =
    let H = 𝓛.H in let 𝓣 = tables 𝓤 H 𝓜 𝓡 𝓡.env in let c = clauses 𝓛 𝓜.mem 𝓡.returns in let fn : Fn = code.function in
    let hs : Stays ended.signature.params ended.kept = (stay_dropped (plain (λ _. A)) yes, (stay_ref (0 ∷ []) tt (plain (λ _. RawPtr)), tt)) in
    proved_at 𝓛 ended hs c 𝓜 𝓡 (Goes-dropped 𝓛 1 (plain (λ _. A)) yes (λ κs x f. refl), (Goes-ref 𝓛 1 0 tt (plain (λ _. RawPtr)), tt)) #self fn (code.unfolded 𝓤 H 𝓜 𝓡 wired) (λ z are.
    let Post : Val → SProp 𝓤 = (walk_of 𝓛 ended hs c).post z in let κ : Lft = z.0.0.0 in let q : Share = z.0.1.0 in
    let a = z.0.3.0 in let x : MutBor Ptr = z.0.3.1.0 in let vss = z.0.4 in let xb : ℕ = x.ref_ptr.0 in let xo : ℕ = x.ref_ptr.1 in
    let got = one (lone A.mir) vss.0 (((heap_laws.the_row_laws).lawful 𝓛).typed a vss.0 are.0) in let w : Val = got.0 in let typed = got.2 in
    let Ref = MutRef (named 0) κ RawPtr in
    -- the answer n, where p is at `out`
    let out = λ (n : ℕ) (p : Ptr) (v : R.Denot). sep 𝓤 (sem 𝓛 (owned_if (n == 0) (At a p v))) (fact 𝓤 ((v.index ≡ None) × (v.dead.rows ≡ None))) in
    qed 𝓛 (((‵ (flft κ q) ⊛ ‵ ftrue) ⊛ ‵ (owns (types_at ended.signature.params z.0.0) z.0.3 vss)) ∷ ‵ ftrue ∷ []) ∵
    split ! $ split ! $ move ! (2 ∷ []) $ fsplit ! $ move ! (1 ∷ []) $ fsplit ! $ keep ! (2 ∷ 0 ∷ 3 ∷ []) $
    rewrite ! 0 (λ (us : List Val). ‵ (A.own_val a us)) got.1 refl $
    regoal ! (λ (us : List Val). prop (WpFn 𝓤 H 𝓣.C 𝓣.Λ fn us Post)) (λ i. got.1 i ++ (are.1.0.0 i ++ [])) refl $
    enter ! 𝓣.C 𝓣.Λ fn (w ∷ vptr xb xo ∷ []) Post $ alloc_all ! (λ l. pass_all ! refl (typed, ((tt, tt), tt)) $ let Ev = env fn.locals l in
    let Then = any_q (after_seq 𝓤 H (Wp 𝓤 H 𝓣.C 𝓣.Λ Ev (after 2 fn.body) (at_return 𝓤 H Ev Post)) (at_return 𝓤 H Ev Post)) in
    let k = triple_of 𝓛 callee.signature (callee.spec 𝓛 𝓜.mem 𝓡.returns) in let y : k.Ghost = ((tt, tt, tt, (a, tt), (w ∷ [], tt)), tt) in
    -- [the allocator; `out`; its token; the locals]
    nothing ! $ move ! (1 ∷ 0 ∷ []) $ fjoin ! $ nothing ! $ join ! $ nothing ! $ move ! (1 ∷ 0 ∷ []) $ join ! $ use1 𝓛 (raw (k.pre y)) (id⊢ 𝓤 _) $
    calls_at ! (λ f. framed 𝓤 H 𝓜 𝓣 f) k (met 𝓤 𝓛 𝓜 𝓡 (code.calls-nardsill::handle::made 𝓡.env wired)) y (and_then ! (get ! refl) (no_more !)) (λ v.
    use1 𝓛 (later (some (λ (r : Made.Denot). (‵ ftrue ⊛ ‵ (Made.own_val r (v ∷ []))) ⊛ some (λ (ws : Lasts callee.ended tt (a, tt)). ‵ (lasts callee.ended tt (a, tt) ws) ⊛
    (raw (fact 𝓤 (IfSome r (λ h. h.value.index ≡ None))) ⊛ raw (fact 𝓤 (IfSome r (λ h. h.value.dead.rows ≡ None)))))))) (id⊢ 𝓤 _) $
    await ! tt $ pick ! (λ r. split ! $ split ! $ drop ! $ move ! (1 ∷ []) $ pick ! (λ ws. split ! $ drop ! $ split ! $ heard ! _ (λ empty. heard ! _ (λ none.
    cases ! r v (λ h. h.value.index ≡ None) (λ h. h.value.dead.rows ≡ None) empty none (λ h b o hv no_index no_rows e fits.
    -- [the handle; `out`; its token; the locals]
    let good = and_tt (has_ty (lone A.mir) hv) fits.0 in
    lands_as ! e refl (and_tt _ good, (record { fits = lit< tt }, ((tt, (fits.1, tt)), tt))) $
    first ! $ switches_on ! (get_tag ! (vrt ! refl (fld ! refl (stop !))) (whole !)) $ exec ! 𝓣.C 𝓣.Λ Ev (arm_body 0 (head (after 1 fn.body))) Then $
    sets ! (of_opd ! (get_in ! (vrt ! refl (fld ! refl (fld ! refl (stop !)))) (sub ! 0 refl (in_variant ! 1 0 refl refl (whole !))))) refl (tt, tt) $
    sets ! (of_opd ! (get ! refl)) refl (tt, tt) $
    move ! (1 ∷ []) $ fsplit3 ! $ move ! (1 ∷ 2 ∷ 4 ∷ []) $ opens ! tt RawPtr xb xo (λ us. move ! (1 ∷ []) $ feq_l ! (λ at.
    rewrite ! 0 (λ (ws : List Val). ‵ (cell_at full_share RawPtr.mir ws xb xo)) at refl $
    assigns ! (of_opd ! (get ! refl)) (through ! refl (stop !)) (store ! 0 refl (tt, tt)) $
    feq_i ! (List Val) (vptr b o ∷ []) (vptr b o ∷ []) refl $ move ! (1 ∷ 0 ∷ []) $ closes ! tt RawPtr (block_ptr b o) (vptr b o ∷ []) xb xo $
    -- [two parts of `out`; its token; `out`'s first part; the handle; the locals]
    sets_last ! (of_opd ! (lit ! tt)) refl (tt, record { fits = lit< tt }) $ exec ! 𝓣.C 𝓣.Λ Ev (after 2 fn.body) (at_ret Ev Post) $
    sets ! (of_opd ! (get ! refl)) refl (tt, record { fits = lit< tt }) $ returns ! (look_at ! 0 refl) $ free_all ! refl $
    move ! (3 ∷ 0 ∷ 1 ∷ []) $ use3 𝓛 (‵ (Ref.own_val (record x { now = block_ptr b o }) vss.1.0)) (id⊢ 𝓤 _) $
    nothing ! $ move ! (1 ∷ 0 ∷ []) $ fjoin ! $ nothing ! $ fjoin ! $
    nothing ! $ move ! (2 ∷ 0 ∷ []) $ join ! $ owned ! u32 _ (uint_Makes 𝓛 w32) 0 (vint w32 0 ∷ []) (refl, lit< tt) $
    -- [the answer; the token; what is left of the parameters; the handle]
    use0 𝓛 (raw (fact 𝓤 ((h.value.index ≡ None) × (h.value.dead.rows ≡ None)))) (fact_i 𝓤 _ (emp 𝓤) (no_index, no_rows)) $ move ! (4 ∷ 0 ∷ []) $ join ! $
    use1 𝓛 (raw (ex 𝓤 (out 0 (block_ptr b o)))) (ex_i 𝓤 (out 0 (block_ptr b o)) h.value) $
    use0 𝓛 (raw (fact 𝓤 ((0 ≡ 0) ⊎ (0 ≡ 1)))) (fact_i 𝓤 _ (emp 𝓤) (inl refl)) $ join ! $ move ! (2 ∷ 3 ∷ 1 ∷ 0 ∷ []) $
    by ! (leaves 𝓛 ended hs c z (vint w32 0) 0 (tt, (block_ptr b o, tt)) (tt, (tt, tt)))))) (λ e.
    -- [`out`; its token; the locals]
    lands_as ! e refl (tt, (record { fits = lit< tt }, tt)) $
    first ! $ switches_on ! (get_tag ! (vrt ! refl (fld ! refl (stop !))) (whole !)) $ exec ! 𝓣.C 𝓣.Λ Ev (arm_body 1 (head (after 1 fn.body))) Then $
    sets_last ! (of_opd ! (lit ! tt)) refl (tt, record { fits = lit< tt }) $ exec ! 𝓣.C 𝓣.Λ Ev (after 2 fn.body) (at_ret Ev Post) $
    sets ! (of_opd ! (get ! refl)) refl (tt, record { fits = lit< tt }) $ returns ! (look_at ! 0 refl) $ free_all ! refl $
    nothing ! $ move ! (1 ∷ 0 ∷ []) $ fjoin ! $ nothing ! $ fjoin ! $
    nothing ! $ move ! (2 ∷ 0 ∷ []) $ join ! $ owned ! u32 _ (uint_Makes 𝓛 w32) 1 (vint w32 1 ∷ []) (refl, lit< tt) $
    -- [the answer; the token; what is left of the parameters]
    let v₀ : R.Denot = record { alloc = a; index = None; dead = record { rows = None }; spent = record { rows = None }; syncer = None } in
    use0 𝓛 (raw (fact 𝓤 ((v₀.index ≡ None) × (v₀.dead.rows ≡ None)))) (fact_i 𝓤 _ (emp 𝓤) (refl, refl)) $ nothing ! $ join ! $
    use1 𝓛 (raw (ex 𝓤 (out 1 x.now))) (ex_i 𝓤 (out 1 x.now) v₀) $
    use0 𝓛 (raw (fact 𝓤 ((1 ≡ 0) ⊎ (1 ≡ 1)))) (fact_i 𝓤 _ (emp 𝓤) (inr refl)) $ join ! $ move ! (2 ∷ 3 ∷ 1 ∷ 0 ∷ []) $
    by ! (leaves 𝓛 ended hs c z (vint w32 1) 1 (tt, (x.now, tt)) (tt, (tt, tt)))))))))))
