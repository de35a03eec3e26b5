-- Calls that are given up before a store is handed out.
use Rattle.std.specs.Prelude.{◌≡◌, ℕ, zero, suc, ◌+◌, ◌<◌, ◌≤◌, false, Option, Some, None, List, [], ◌∷◌, length, slice_get, unwrap_or}
use Rattle.std.proofs.Common.{refl, sym, ap, subst, ◌∙◌, arith, inl, inr}
use Rattle.std.proofs.lemmas.Bool.{cases_eq, cases_lt}
use Rattle.page_action.specs.States.{State}
use Rattle.session_calls.specs.Sessions.{after_slot, is_busy}
use Rattle.session_calls.specs.Slots.{slot_of, has_call, slot_has_call}
use Rattle.session_calls.specs.declared.op.Op.{Op}
use Rattle.session_calls.specs.declared.op.Op.TheVariants.{Insert, Scan, Bulk, Cleanup}
use Rattle.schedule.specs.Events.{OthersStay}
use Rattle.schedule.specs.TheoremMoments.{RunsOne}
use Rattle.world.specs.Worlds.{OnlyLetsGo}

pub lets_nothing_go : (st : State) → OnlyLetsGo st st
lets_nothing_go st = record { format = refl; frames = refl; pages = refl; counted = refl; acts = refl; begun = refl }

pub lets_more_go : (first mid last : State) → OnlyLetsGo first mid → OnlyLetsGo mid last → OnlyLetsGo first last
lets_more_go first mid last one more = record {
  format = more.format ∙ one.format;
  frames = more.frames ∙ one.frames;
  pages = more.pages ∙ one.pages;
  counted = more.counted ∙ one.counted;
  acts = more.acts ∙ one.acts;
  begun = more.begun ∙ one.begun;
}

-- what a session's call lets go at its end
over_lets_go : (slot : Option Op) (st : State) → OnlyLetsGo st (after_slot slot st)
over_lets_go None st = lets_nothing_go st
over_lets_go (Some (Insert op)) st = record { format = refl; frames = refl; pages = refl; counted = refl; acts = refl; begun = refl }
over_lets_go (Some (Scan op)) st = record { format = refl; frames = refl; pages = refl; counted = refl; acts = refl; begun = refl }
over_lets_go (Some (Bulk set op)) st = record { format = refl; frames = refl; pages = refl; counted = refl; acts = refl; begun = refl }
over_lets_go (Some (Cleanup op)) st = record { format = refl; frames = refl; pages = refl; counted = refl; acts = refl; begun = refl }

pub lets_go : (slot : Option Op) (old new : State) → new ≡ after_slot slot old → OnlyLetsGo old new
lets_go slot old new is = subst (OnlyLetsGo old) (sym is) (over_lets_go slot old)

-- a session whose slot is empty has no call
pub runs_nothing : (slots : List (Option Op)) (session : ℕ) → slot_of slots session ≡ None → has_call slots session ≡ false
runs_nothing slots session none = of (slice_get slots session) none
  where
    of : (o : Option (Option Op)) → unwrap_or o None ≡ None → slot_has_call o ≡ false
    of None h = refl
    of (Some None) h = refl
    of (Some (Some op)) h = absurd cc

-- what runs no call has no running one
pub has_none : (slots : List (Option Op)) (session : ℕ) → has_call slots session ≡ false → RunsOne slots session → ⊥
has_none slots session none one = (let there = sym (ap slot_has_call one.1) ∙ none in absurd cc)

-- no session beyond the last one has a call
beyond : (slots : List (Option Op)) (session : ℕ) → length slots ≤ session → has_call slots session ≡ false
beyond [] session le = refl
beyond (slot ∷ slots) zero le = absurd (omega arith)
beyond (slot ∷ slots) (suc session) le = beyond slots session (omega arith)

-- if none of the first so many has a call, and these are all, none has
pub none_runs : (slots : List (Option Op)) (count : ℕ) → length slots ≤ count → ((session : ℕ) → session < count → has_call slots session ≡ false)
    → (session : ℕ) → has_call slots session ≡ false
none_runs slots count all over session = elim (cases_lt session count) [
  | inl lt ↦ over session lt
  | inr le ↦ beyond slots session (omega (arith, all, le))
]

-- if one more session's call is over, the first so many and it have none
pub over_next : (old new : List (Option Op)) (next : ℕ) → OthersStay next old new → has_call new next ≡ false → ((session : ℕ) → session < next → has_call old session ≡ false)
    → (session : ℕ) → session < next + 1 → has_call new session ≡ false
over_next old new next others over before session lt = elim (cases_eq session next) [
  | inl is ↦ subst (λ (s : ℕ). has_call new s ≡ false) (sym is) over
  | inr apart ↦ ap slot_has_call (others session apart) ∙ before session (omega arith)
]
