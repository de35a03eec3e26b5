-- Pages that an act changes one after the other.
use Rattle.std.proofs.Common.{◌≡◌, ◌≢◌, inl, inr, ℕ, zero, suc, ◌≤◌, Some, None, List, [], ◌∷◌, ◌++◌, length, take, slice_get, refl, sym, ap, subst, ◌∙◌, arith}
use Rattle.buffer_pool.specs.Pools.{held_page, act_of, changed_of, IsChanged}
use Rattle.page_store.proofs.Imports.{cases_eq, is_some, if◌then◌else◌, has_block, Pool, Format, Page, AreActable, with_page, with_pages, last_image, later_of, if_of, last_image-append, AreActed}
use Rattle.page_store.proofs.Imports.{used_after, with_changed, pages_now, with_act, History}
use Rattle.page_store.proofs.Images.{if_same, if_other, length-with_page, after_acts-append}

take_next : {A : Type 0} (xs : List A) (k : ℕ) (x : A) → slice_get xs k ≡ Some x → take (suc k) xs ≡ take k xs ++ x ∷ []
take_next [] k x at = absurd cc
take_next (y ∷ xs) zero x at = let e : y ≡ x = cc in ap (λ z. z ∷ []) e
take_next (y ∷ xs) (suc k) x at = ap (λ l. y ∷ l) (take_next xs k x at)

abbrev step : List ℕ → Page → List ℕ
step blocks page = if has_block blocks page.block then blocks else blocks ++ page.block ∷ []

changed-append : (blocks : List ℕ) (xs : List Page) (page : Page) → with_changed blocks (xs ++ page ∷ []) ≡ step (with_changed blocks xs) page
changed-append blocks [] page = refl
changed-append blocks (x ∷ xs) page = changed-append (step blocks x) xs page

last_of : (xs : List Page) (page : Page) (b : ℕ) → last_image (xs ++ page ∷ []) b ≡ later_of (last_image xs b) (if_of b page)
last_of xs page b = last_image-append xs (page ∷ []) b

last_same : (xs : List Page) (page : Page) (b : ℕ) → page.block ≡ b → last_image (xs ++ page ∷ []) b ≡ Some page
last_same xs page b same = last_of xs page b ∙ ap (later_of (last_image xs b)) (if_same b page same)

last_other : (xs : List Page) (page : Page) (b : ℕ) → page.block ≢ b → last_image (xs ++ page ∷ []) b ≡ last_image xs b
last_other xs page b ne = last_of xs page b ∙ ap (later_of (last_image xs b)) (if_other b page ne)

-- one page more
acted_more : (old mid new : Pool) (xs : List Page) (page : Page) (act : ℕ) → AreActed old mid xs act → IsChanged mid new page act → AreActed old new (xs ++ page ∷ []) act
acted_more old mid new xs page act a c = record {
  most = c.most ∙ a.most;
  reach = c.reach ∙ a.reach;
  count = c.count ∙ a.count;
  places = λ b. c.places b ∙ a.places b;
  held = λ b p named. elim (cases_eq page.block b) [
    | inl same ↦
        let both : Some p ≡ Some page = sym named ∙ last_same xs page b same in
        let e : p ≡ page = cc in
        ap (held_page new) (sym same) ∙ (c.held ∙ ap Some (sym e))
    | inr ne ↦ c.others b (λ e. ne (sym e)) ∙ a.held b p (sym (last_other xs page b ne) ∙ named)
  ];
  others = λ b none. elim (cases_eq page.block b) [
    | inl same ↦ (let both : None ≡ Some page = sym none ∙ last_same xs page b same in absurd cc)
    | inr ne ↦ c.others b (λ e. ne (sym e)) ∙ a.others b (sym (last_other xs page b ne) ∙ none)
  ];
  acted = λ b named. elim (cases_eq page.block b) [
    | inl same ↦ ap (act_of new) (sym same) ∙ c.changed
    | inr ne ↦ c.acts b (λ e. ne (sym e)) ∙ a.acted b (ap is_some (sym (last_other xs page b ne)) ∙ named)
  ];
  before = λ b none. elim (cases_eq page.block b) [
    | inl same ↦ (let both : None ≡ Some page = sym none ∙ last_same xs page b same in absurd cc)
    | inr ne ↦ c.acts b (λ e. ne (sym e)) ∙ a.before b (sym (last_other xs page b ne) ∙ none)
  ];
  order = c.order ∙ (ap (λ (blocks : List ℕ). step blocks page) a.order ∙ sym (changed-append (changed_of old) xs page));
}

pub acted_next : (old mid new : Pool) (pages : List Page) (k : ℕ) (page : Page) (act : ℕ) → slice_get pages k ≡ Some page
    → AreActed old mid (take k pages) act → IsChanged mid new page act → AreActed old new (take (suc k) pages) act
acted_next old mid new pages k page act at a c =
    subst (λ (xs : List Page). AreActed old new xs act) (sym (take_next pages k page at)) (acted_more old mid new (take k pages) page act a c)

-- the pages are as many as the next unused block is
pub length_acted : (format : Format) (used : ℕ) (pages changed : List Page) → AreActable format used changed → used ≤ length pages
    → length (with_pages pages changed) ≡ used_after (length pages) changed
length_acted format used pages [] may more = refl
length_acted format used pages (page ∷ changed) may more =
    let place : page.block ≤ length pages = omega (arith, may.1.0) in
    let long = length-with_page pages page place in
    length_acted format used (with_page pages page) changed may.3 (omega (arith, long)) ∙ ap (λ (n : ℕ). used_after n changed) long

-- the pages after one act more
pub pages_acted : (h : History) (changed : List Page) → pages_now (with_act changed h) ≡ with_pages (pages_now h) changed
pages_acted h changed = after_acts-append h.start h.acts (changed ∷ [])
