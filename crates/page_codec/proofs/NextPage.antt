-- Reading items one after the other, as a loop does.
use Rattle.std.proofs.Common.{◌≡◌, ℕ, ◌<◌, List, [], ◌∷◌, ◌++◌, length, drop, refl, sym, ap, subst, ◌∙◌, append_assoc, length-append, arith}
use Rattle.std.specs.List.{flat_map, AllByRecursion}
use Rattle.page_codec.proofs.Imports.{append-nil, Begins}
use Rattle.page_codec.proofs.Pieces.{items_more, items_first, items_later}

-- the list goes on after the items with others, whose bytes come next
pub record GoesOnWithOthers {A : Type 0} (Q : A → Type 0) (spelled : A → List ℕ) (items : List A) (rest : List ℕ) (xs : List A) : Type 0 where
  pub more : List A
  pub same : xs ≡ items ++ more
  pub valid : AllByRecursion Q more
  pub front : Begins (flat_map spelled more) rest

-- one more item, whose bytes come next
pub record HasNext {A : Type 0} (Q : A → Type 0) (spelled : A → List ℕ) (width : ℕ) (items : List A) (rest : List ℕ) (xs : List A) : Type 0 where
  pub item : A
  pub valid : Q item
  pub front : Begins (spelled item) rest
  pub goes_on : GoesOnWithOthers Q spelled (items ++ item ∷ []) (drop width rest) xs

module _ {A : Type 0} (spelled : A → List ℕ) where
  pub starts : (Q : A → Type 0) (xs : List A) (rest : List ℕ) → AllByRecursion Q xs → Begins (flat_map spelled xs) rest → GoesOnWithOthers Q spelled [] rest xs
  starts Q xs rest h b = record { more = xs; same = refl; valid = h; front = b }

  pub next : (Q : A → Type 0) (width : ℕ) (long : (x : A) → Q x → length (spelled x) ≡ width) (items xs : List A) (rest : List ℕ)
      → GoesOnWithOthers Q spelled items rest xs → length items < length xs → HasNext Q spelled width items rest xs
  next Q width long items xs rest g lt = by g.more refl
    where
      by : (more : List A) → more ≡ g.more → HasNext Q spelled width items rest xs
      by [] e =
          let all : xs ≡ items = g.same ∙ ap (λ (m : List A). items ++ m) (sym e) ∙ append-nil items in
          let many : length xs ≡ length items = ap (λ (m : List A). length m) all in
          absurd (omega arith)
      by (y ∷ more) e =
          let valid : AllByRecursion Q (y ∷ more) = subst (λ (m : List A). AllByRecursion Q m) (sym e) g.valid in
          let front : Begins (flat_map spelled (y ∷ more)) rest = subst (λ (m : List A). Begins (flat_map spelled m) rest) (sym e) g.front in
          record {
            item = y;
            valid = valid.0;
            front = items_first spelled width y more rest front;
            goes_on = record {
              more = more;
              same = g.same ∙ ap (λ (m : List A). items ++ m) (sym e) ∙ sym (append_assoc items (y ∷ []) more);
              valid = valid.1;
              front = items_later spelled width y more rest (long y valid.0) front;
            };
          }

  pub ends : (Q : A → Type 0) (items xs : List A) (rest : List ℕ) → GoesOnWithOthers Q spelled items rest xs → length items ≡ length xs → items ≡ xs
  ends Q items xs rest g many = by g.more refl
    where
      by : (more : List A) → more ≡ g.more → items ≡ xs
      by [] e = sym (g.same ∙ ap (λ (m : List A). items ++ m) (sym e) ∙ append-nil items)
      by (y ∷ more) e =
          let longer : length xs ≡ length (items ++ y ∷ more) = ap (λ (m : List A). length m) (g.same ∙ ap (λ (m : List A). items ++ m) (sym e)) in
          absurd (omega (arith, length-append items (y ∷ more)))

  -- what follows the item follows those before it
  pub whole_more : (width : ℕ) (items more : List A) (x : A) (rest bytes : List ℕ) → length (spelled x) ≡ width → Begins (spelled x) rest
      → ((ys : List A) → Begins (flat_map spelled ys) rest → Begins (flat_map spelled (items ++ ys)) bytes)
      → Begins (flat_map spelled more) (drop width rest) → Begins (flat_map spelled ((items ++ x ∷ []) ++ more)) bytes
  whole_more width items more x rest bytes long front so_far h =
      subst (λ (ys : List A). Begins (flat_map spelled ys) bytes) (sym (append_assoc items (x ∷ []) more)) (so_far (x ∷ more) (items_more spelled width x more rest long front h))

  pub all_of_one : (Q : A → Type 0) (items : List A) (x : A) → AllByRecursion Q items → Q x → AllByRecursion Q (items ++ x ∷ [])
  all_of_one Q [] x h q = (q, tt)
  all_of_one Q (y ∷ ys) x h q = (h.0, all_of_one Q ys x h.1 q)
