-- What a store shows, if its parts are alike.
use Rattle.std.proofs.Common.{◌≡◌, ◌∙◌, ℕ, List, ap}
use Rattle.page_store.proofs.Imports.{Format, Page, TableOfCalls, state_with}

pub state_alike : (l k : Format) (f h : ℕ) (ps qs : List Page) (a b : ℕ) (c d : TableOfCalls) → l ≡ k → f ≡ h → ps ≡ qs → a ≡ b → c ≡ d → state_with l f ps a c ≡ state_with k h qs b d
state_alike l k f h ps qs a b c d format frames pages acts calls =
    ap (λ (x : Format). state_with x f ps a c) format
    ∙ (ap (λ (x : ℕ). state_with k x ps a c) frames
    ∙ (ap (λ (x : List Page). state_with k h x a c) pages
    ∙ (ap (λ (x : ℕ). state_with k h qs x c) acts
    ∙ ap (λ (x : TableOfCalls). state_with k h qs b x) calls)))
