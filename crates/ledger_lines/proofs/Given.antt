-- What an open scan has given.
use Rattle.std.specs.Prelude.{Result, Ok, flat_map}
use Rattle.std.proofs.Common.{◌≡◌, ℕ, ◌+◌, false, Option, Some, List, [], ◌∷◌, ◌++◌, length, refl, sym, ap, subst, ◌∙◌, append-nil, append_assoc, length-append, arith}
use Rattle.access_method.specs.declared.token.ScanToken.{ScanToken}
use Rattle.access_method.specs.declared.token.Sitter.{Sitter}
use Rattle.index_model.specs.declared.entry.Entry.{Entry}
use Rattle.ledger_lines.proofs.Imports.{AppendsFirst, BreaksScan, Appends-trans, Appends, SameTokens, TokenAfter, seat_with, seat_of, Index, Fault, Ghosts, GivesEach, IsGive, PrintsScan, listed_line}

-- so many entries were given, and printed
pub record HasGiven {S : Type 0} (g : Ghosts S) (token : ScanToken) (count : ℕ) (old new : Index S) (before after : Option (List ℕ)) : Type 0 where
  pub given : List Entry
  pub many : count ≡ length given
  pub gives : GivesEach g token given old new
  pub printed : Appends before after (flat_map listed_line given)

module _ {S : Type 0} (g : Ghosts S) (token : ScanToken) where
  -- one more is given
  pub gives_more : (given : List Entry) (entry : Entry) (old mid new : Index S) → GivesEach g token given old mid
      → IsGive g token (Ok (Some entry)) mid new → GivesEach g token (given ++ entry ∷ []) old new
  gives_more [] entry old mid new none give = (new, subst (λ (i : Index S). IsGive g token (Ok (Some entry)) i new) none give, refl)
  gives_more (e ∷ given) entry old mid new more give = (more.0, more.1, gives_more given entry more.0 mid new more.2 give)

  -- what was answered, by its value
  pub answered : (r s : Result (Option Entry) Fault) (old new : Index S) → r ≡ s → IsGive g token r old new → IsGive g token s old new
  answered r s old new same give = subst (λ (x : Result (Option Entry) Fault). IsGive g token x old new) same give

  -- its token stays open
  pub stays_open : (r : Result (Option Entry) Fault) (o : Option Entry) (old new : Index S) → r ≡ Ok o → TokenAfter token r old new → seat_of old.seats token ≡ seat_with token false
      → seat_of new.seats token ≡ seat_with token false
  stays_open r o old new same after seat =
      let kept : SameTokens old new = subst (λ (x : Result (Option Entry) Fault). TokenAfter token x old new) same after in
      ap (λ (seats : List (Option Sitter)). seat_of seats token) kept.seats_is ∙ seat

lines_more : (given : List Entry) (entry : Entry) → flat_map listed_line given ++ listed_line entry ≡ flat_map listed_line (given ++ entry ∷ [])
lines_more [] entry = sym (append-nil (listed_line entry))
lines_more (e ∷ given) entry = append_assoc (listed_line e) (flat_map listed_line given) (listed_line entry) ∙ ap (λ (text : List ℕ). listed_line e ++ text) (lines_more given entry)

-- one more is given and printed
pub given_more : {S : Type 0} (g : Ghosts S) (token : ScanToken) (count : ℕ) (entry : Entry) (old mid new : Index S) (a b c : Option (List ℕ)) → HasGiven g token count old mid a b
    → IsGive g token (Ok (Some entry)) mid new → Appends b c (listed_line entry) → HasGiven g token (count + 1) old new a c
given_more g token count entry old mid new a b c h give printed = record {
  given = h.given ++ entry ∷ [];
  many = let many = h.many in simp length-append (omega (arith, many));
  gives = gives_more g token h.given entry old mid new h.gives give;
  printed = subst (λ (text : List ℕ). Appends a c text) (lines_more h.given entry) (Appends-trans a b c (flat_map listed_line h.given) (listed_line entry) h.printed printed);
}

-- one more is given, and the first bytes of its line are printed
pub breaks_at : {S : Type 0} (g : Ghosts S) (token : ScanToken) (count : ℕ) (entry : Entry) (old mid new : Index S) (a b c : Option (List ℕ)) → HasGiven g token count old mid a b
    → IsGive g token (Ok (Some entry)) mid new → AppendsFirst b c (listed_line entry) → BreaksScan g token old new a c
breaks_at g token count entry old mid new a b c h give p =
    let before = flat_map listed_line h.given in record {
      given = h.given ++ entry ∷ [];
      gives = gives_more g token h.given entry old mid new h.gives give;
      printed = record {
        first = before ++ p.first;
        rest = p.rest;
        are = sym (lines_more h.given entry) ∙ ap (λ (text : List ℕ). before ++ text) p.are ∙ sym (append_assoc before p.first p.rest);
        printed = Appends-trans a b c before p.first h.printed p.printed;
      };
    }

-- what was printed, by how it ended
pub printed_as : {S : Type 0} {g : Ghosts S} (token : ScanToken) (r s : Result ℕ Fault) (opened new : Index S) (before after : Option (List ℕ)) → r ≡ s → PrintsScan g token r opened new before after
    → PrintsScan g token s opened new before after
printed_as {S} {g} token r s opened new before after same prints = subst (λ (x : Result ℕ Fault). PrintsScan g token x opened new before after) same prints
