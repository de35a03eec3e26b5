-- What a running scan has ready.
use Rattle.std.proofs.Common.{◌≡◌, ℕ, ◌<◌, ◌||◌, Bool, true, false, Option, None, unwrap_or, List, [], ◌∷◌, ◌++◌, length, refl, sym, ap, subst, ◌∙◌, arith}
use Rattle.index_model.specs.declared.range.Range.{Range}
use Rattle.schedule.proofs.Imports.{Action, AskScan, Call, is_among, IsAscending, Entry, is_among-append, same_entry-self, AscendsPast-back, State, Ghosts, waiting, ScanOp, IsScanSoFar, ready_of}
use Rattle.schedule.proofs.Imports.{OpRuns, ready_count, DeadSets, Op, Insert, Scan, Bulk, Cleanup}
use Rattle.schedule.specs.Ready.{MayComeNext, ReadyMayComeNext}

or_true : (a b : Bool) → b ≡ true → (a || b) ≡ true
or_true true b h = refl
or_true false b h = h

-- the first entry after others is among them all
first_among : (given rest : List Entry) (e : Entry) → is_among (given ++ e ∷ rest) e ≡ true
first_among given rest e = is_among-append given (e ∷ rest) e ∙ or_true (is_among given e) (is_among (e ∷ rest) e) (ap (λ (b : Bool). b || is_among rest e) (same_entry-self e))

-- the first that a scan has ready may come next
next_of : (start : Entry → Bool) (history : List Action) (began : ℕ) (given ready : List Entry) (op : ScanOp) → waiting op ≡ ready → 0 < length ready → IsScanSoFar start history began given op
    → MayComeNext start history op.range began (length history) given
next_of start history began given [] op is some k = absurd (omega (arith, some))
next_of start history began given (e ∷ rest) op is some k =
    let among : is_among (given ++ waiting op) e ≡ true = subst (λ (l : List Entry). is_among (given ++ l) e ≡ true) (sym is) (first_among given rest e) in
    record {
      entry = e;
      matched = k.matched e among;
      was_there = k.was_there e among;
      beyond = (AscendsPast-back None given (e ∷ rest) (subst (λ (l : List Entry). IsAscending (given ++ l)) is k.ascending)).0;
    }

same_range : (r t : Range) → AskScan r ≡ AskScan t → r ≡ t
same_range r t e = cc

next_in : (st : State) (sets : DeadSets) (start : Entry → Bool) (history : List Action) (call : Call) (range : Range) (op : Op)
    → OpRuns st sets start history call op → call.ask ≡ AskScan range → 0 < length (ready_of op)
    → MayComeNext start history range call.began (length history) call.given
next_in st sets start history call range (Scan op) runs asks some =
    subst (λ (r : Range). MayComeNext start history r call.began (length history) call.given) (same_range op.range range (sym runs.ask ∙ asks))
    (next_of start history call.began call.given (waiting op) op refl some runs.knows)
next_in st sets start history call range (Insert op) runs asks some = absurd (omega (arith, some))
next_in st sets start history call range (Bulk set op) runs asks some = absurd (omega (arith, some))
next_in st sets start history call range (Cleanup op) runs asks some = absurd (omega (arith, some))

pub ready_may_come_next : {S : Type 0} (g : Ghosts S) → ReadyMayComeNext g
ready_may_come_next g start now session number call range fits is asks some =
    let at = fits.explains.run session number call is in
    let runs = fits.invariant.runs session number call at.0 at.1 is in
    next_in (g.state now.store) now.sets start now.history call range at.0 runs.0 asks
    (subst (λ (o : Option (Option Op)). 0 < ready_count (unwrap_or o None)) at.1 some)
