-- Whose transitions are, after some more of them, and where a job that ran has become a record.
use Rattle.std.proofs.Common.{◌≡◌, ◌≢◌, ◌==◌, if◌then◌else◌, Bool, true, false, ℕ, suc, List, [], ◌∷◌, ◌++◌, length, map, refl, sym, ap, ◌∙◌, arith, append_assoc}
use Rattle.shared_world.proofs.Imports.{append-nil, nat_tests, AllByRecursion, Transition, Owner, OfRecord, OfSession, is_owner, owned_by, gift_of, gifts_of}

pub same_test : (a b : ℕ) → a ≡ b → (a == b) ≡ true
same_test a b e = grind (arith, nat_tests, e)

pub other_test : (a b : ℕ) → a ≢ b → (a == b) ≡ false
other_test a b n = grind (arith, nat_tests, n)

test_same : (a b : ℕ) → (a == b) ≡ true → a ≡ b
test_same a b e = grind (arith, nat_tests, e)

is_owner-self : (owner : Owner) → is_owner owner owner ≡ true
is_owner-self (OfRecord place) = same_test place place refl
is_owner-self (OfSession session) = same_test session session refl

-- all of a list, and of one after it
pub all_both : {A : Type 0} (P : A → Type 0) (xs ys : List A) → AllByRecursion P xs → AllByRecursion P ys → AllByRecursion P (xs ++ ys)
all_both P [] ys one two = two
all_both P (x ∷ xs) ys one two = (one.0, all_both P xs ys one.1 two)

pub all_so : {A : Type 0} (P Q : A → Type 0) (xs : List A) → ((x : A) → P x → Q x) → AllByRecursion P xs → AllByRecursion Q xs
all_so P Q [] f all = tt
all_so P Q (x ∷ xs) f all = (f x all.0, all_so P Q xs f all.1)

pub all_mapped : {A : Type 0} (P Q : A → Type 0) (m : A → A) (xs : List A) → ((x : A) → P x → Q (m x)) → AllByRecursion P xs → AllByRecursion Q (map m xs)
all_mapped P Q m [] f all = tt
all_mapped P Q m (x ∷ xs) f all = (f x all.0, all_mapped P Q m xs f all.1)

module _ {S : Type 0} where
  -- the same owner for each of these
  abbrev pub owners_for : Owner → List (Transition S) → List Owner
  owners_for owner [] = []
  owners_for owner (t ∷ ts) = owner ∷ owners_for owner ts

  pub length_for : (owner : Owner) (ts : List (Transition S)) → length (owners_for owner ts) ≡ length ts
  length_for owner [] = refl
  length_for owner (t ∷ ts) = ap suc (length_for owner ts)

  pub all_for : (P : Owner → Type 0) (owner : Owner) (ts : List (Transition S)) → P owner → AllByRecursion P (owners_for owner ts)
  all_for P owner [] h = tt
  all_for P owner (t ∷ ts) h = (h, all_for P owner ts h)

  pub owned_append : (owner : Owner) (owners more : List Owner) (ts us : List (Transition S)) → length owners ≡ length ts
      → owned_by owner (owners ++ more) (ts ++ us) ≡ owned_by owner owners ts ++ owned_by owner more us
  owned_append owner [] more [] us e = refl
  owned_append owner [] more (t ∷ ts) us e = absurd (omega (arith, e))
  owned_append owner (x ∷ owners) more [] us e = absurd (omega (arith, e))
  owned_append owner (x ∷ owners) more (t ∷ ts) us e = by (owned_append owner owners more ts us (omega (arith, e))) (is_owner owner x)
    where
      by : owned_by owner (owners ++ more) (ts ++ us) ≡ owned_by owner owners ts ++ owned_by owner more us → (b : Bool)
          → (if b then t ∷ owned_by owner (owners ++ more) (ts ++ us) else owned_by owner (owners ++ more) (ts ++ us)) ≡
          (if b then t ∷ owned_by owner owners ts else owned_by owner owners ts) ++ owned_by owner more us
      by rest true = ap (λ (l : List (Transition S)). t ∷ l) rest
      by rest false = rest

  owned_all : (owner : Owner) (us : List (Transition S)) → owned_by owner (owners_for owner us) us ≡ us
  owned_all owner [] = refl
  owned_all owner (t ∷ us) =
      ap (λ (b : Bool). if b then t ∷ owned_by owner (owners_for owner us) us else owned_by owner (owners_for owner us) us) (is_owner-self owner)
      ∙ ap (λ (l : List (Transition S)). t ∷ l) (owned_all owner us)

  -- what nobody owns
  pub owned_nobody : (owner : Owner) (owners : List Owner) (ts : List (Transition S)) → AllByRecursion (λ x. is_owner owner x ≡ false) owners → owned_by owner owners ts ≡ []
  owned_nobody owner [] ts all = refl
  owned_nobody owner (x ∷ owners) [] all = refl
  owned_nobody owner (x ∷ owners) (t ∷ ts) all =
      ap (λ (b : Bool). if b then t ∷ owned_by owner owners ts else owned_by owner owners ts) all.0 ∙ owned_nobody owner owners ts all.1

  -- after more of one owner: his own, and those of another
  pub owned_own : (owner : Owner) (owners : List Owner) (ts us : List (Transition S)) → length owners ≡ length ts
      → owned_by owner (owners ++ owners_for owner us) (ts ++ us) ≡ owned_by owner owners ts ++ us
  owned_own owner owners ts us e = owned_append owner owners (owners_for owner us) ts us e ∙ ap (λ (l : List (Transition S)). owned_by owner owners ts ++ l) (owned_all owner us)

  pub owned_else : (owner other : Owner) (owners : List Owner) (ts us : List (Transition S)) → length owners ≡ length ts
      → is_owner owner other ≡ false → owned_by owner (owners ++ owners_for other us) (ts ++ us) ≡ owned_by owner owners ts
  owned_else owner other owners ts us e apart =
      owned_append owner owners (owners_for other us) ts us e
      ∙ ap (λ (l : List (Transition S)). owned_by owner owners ts ++ l) (owned_nobody owner (owners_for other us) us (all_for (λ x. is_owner owner x ≡ false) other us apart))
      ∙ append-nil (owned_by owner owners ts)

  -- owners under other names
  owned_mapped : (m : Owner → Owner) (owner was : Owner) (owners : List Owner) (ts : List (Transition S))
      → AllByRecursion (λ x. is_owner owner (m x) ≡ is_owner was x) owners → owned_by owner (map m owners) ts ≡ owned_by was owners ts
  owned_mapped m owner was [] ts all = refl
  owned_mapped m owner was (x ∷ owners) [] all = refl
  owned_mapped m owner was (x ∷ owners) (t ∷ ts) all =
      ap (λ (b : Bool). if b then t ∷ owned_by owner (map m owners) ts else owned_by owner (map m owners) ts) all.0
      ∙ ap (λ (l : List (Transition S)). if is_owner was x then t ∷ l else l) (owned_mapped m owner was owners ts all.1)

  pub gifts-append : (ts us : List (Transition S)) → gifts_of (ts ++ us) ≡ gifts_of ts ++ gifts_of us
  gifts-append [] us = refl
  gifts-append (t ∷ ts) us = ap (λ l. gift_of t.answer ++ l) (gifts-append ts us) ∙ sym (append_assoc (gift_of t.answer) (gifts_of ts) (gifts_of us))

-- what the session owned, the record at this place owns
abbrev pub handed_over : ℕ → ℕ → Owner → Owner
handed_over session place (OfRecord other) = OfRecord other
handed_over session place (OfSession other) = if session == other then OfRecord place else OfSession other

module _ {S : Type 0} (session place : ℕ) (owners : List Owner) (ts : List (Transition S)) where
  to_record : (x : Owner) → is_owner (OfRecord place) x ≡ false → is_owner (OfRecord place) (handed_over session place x) ≡ is_owner (OfSession session) x
  to_record (OfRecord other) h = h
  to_record (OfSession other) h = by (session == other)
    where
      by : (b : Bool) → is_owner (OfRecord place) (if b then OfRecord place else OfSession other) ≡ b
      by true = same_test place place refl
      by false = refl

  pub owned_by_record : AllByRecursion (λ x. is_owner (OfRecord place) x ≡ false) owners
      → owned_by (OfRecord place) (map (handed_over session place) owners) ts ≡ owned_by (OfSession session) owners ts
  owned_by_record none = owned_mapped (handed_over session place) (OfRecord place) (OfSession session) owners ts (all_so (λ x. is_owner (OfRecord place) x ≡ false) _ owners to_record none)

  other_record : (other : ℕ) → other ≢ place → (x : Owner) → is_owner (OfRecord other) (handed_over session place x) ≡ is_owner (OfRecord other) x
  other_record other apart (OfRecord of) = refl
  other_record other apart (OfSession of) = by (session == of)
    where
      by : (b : Bool) → is_owner (OfRecord other) (if b then OfRecord place else OfSession of) ≡ false
      by true = other_test other place apart
      by false = refl

  pub owned_by_other_record : (other : ℕ) → other ≢ place → owned_by (OfRecord other) (map (handed_over session place) owners) ts ≡ owned_by (OfRecord other) owners ts
  owned_by_other_record other apart = owned_mapped (handed_over session place) (OfRecord other) (OfRecord other) owners ts (all_of owners)
    where
      all_of : (xs : List Owner) → AllByRecursion (λ x. is_owner (OfRecord other) (handed_over session place x) ≡ is_owner (OfRecord other) x) xs
      all_of [] = tt
      all_of (x ∷ xs) = (other_record other apart x, all_of xs)

  other_session : (other : ℕ) → other ≢ session → (x : Owner) → is_owner (OfSession other) (handed_over session place x) ≡ is_owner (OfSession other) x
  other_session other apart (OfRecord of) = refl
  other_session other apart (OfSession of) = by (session == of) refl
    where
      by : (b : Bool) → (session == of) ≡ b → is_owner (OfSession other) (if b then OfRecord place else OfSession of) ≡ (other == of)
      by true e = sym (other_test other of (λ h. apart (h ∙ sym (test_same session of e))))
      by false e = refl

  pub owned_by_other_session : (other : ℕ) → other ≢ session → owned_by (OfSession other) (map (handed_over session place) owners) ts ≡ owned_by (OfSession other) owners ts
  owned_by_other_session other apart = owned_mapped (handed_over session place) (OfSession other) (OfSession other) owners ts (all_of owners)
    where
      all_of : (xs : List Owner) → AllByRecursion (λ x. is_owner (OfSession other) (handed_over session place x) ≡ is_owner (OfSession other) x) xs
      all_of [] = tt
      all_of (x ∷ xs) = (other_session other apart x, all_of xs)
