-- Pages printed one after the other.
use Rattle.index_model.specs.Faults.{HasCause}
use Rattle.index_model.specs.declared.fault.Fault.TheVariants.{NoMemory}
use Rattle.command_line.specs.Listing.{causes_of_listed}
use Rattle.command_line.proofs.Imports.{Backing, Fault, State, causes_of_checked}
use Rattle.std.proofs.Common.{◌≢◌, refl, ◌≡◌, ℕ, ◌+◌, ◌++◌, ◌∷◌, [], List, take, slice_get, Some, true, sym, ap, ◌∙◌, subst}
use Rattle.text_forms.specs.Dumping.{page_text, pages_text}
use Rattle.command_line.proofs.Imports.{Appends-trans, take_more, flat_map_more, get_or_from_slice_get, slice_get_within, Appends, Option, Bool, get_or, Page, PrintsPages}

-- the lines of a page stand after those of the pages before it
next_lines : (pages : List Page) (i : ℕ) (page : Page) → slice_get pages i ≡ Some page
    → pages_text (take i pages) ++ page_text page ≡ pages_text (take (i + 1) pages)
next_lines pages i page found =
    let there : get_or pages i page ≡ page = get_or_from_slice_get pages i page page found in
    flat_map_more page_text [] (take i pages) page
    ∙ ap pages_text (ap (λ p. take i pages ++ p ∷ []) (sym there) ∙ sym (take_more pages i page (slice_get_within pages i page found)))

-- one page more is printed
pub lists_on : (before now : Bool) (pages : List Page) (i : ℕ) (page : Page) (a b c : Option (List ℕ)) → (now ≡ true → before ≡ true)
    → PrintsPages before (take i pages) a b → (now ≡ true → slice_get pages i ≡ Some page) → Appends b c (page_text page) → PrintsPages now (take (i + 1) pages) a c
lists_on before now pages i page a b c was lists found printed = λ honest.
    subst (Appends a c) (next_lines pages i page (found honest))
    (Appends-trans a b c (pages_text (take i pages)) (page_text page) (lists (was honest)) printed)

-- a refusal that isn't for memory
pub listed_cause : (st : State) (old new : Backing) (was fault : Fault) → was ≡ fault → was ≢ NoMemory → HasCause (causes_of_checked st old new) was → HasCause (causes_of_listed st old new) fault
listed_cause st old new was fault same other cause = subst (HasCause (causes_of_listed st old new)) same (by was other cause)
  where
    by : (f : Fault) → f ≢ NoMemory → HasCause (causes_of_checked st old new) f → HasCause (causes_of_listed st old new) f
    by NoMemory other cause = absurd (other refl)
    by f other cause = cause
