-- Why it is enough to look at the entries of the start and at those that a history adds.
use Rattle.std.proofs.Common.{◌≡◌, ℕ, zero, suc, ◌≤◌, Bool, true, false, ◌||◌, Option, Some, None, List, [], ◌∷◌, take, refl, sym, ap, subst, ◌∙◌, arith, inl, inr, ◌⊎◌}
use Rattle.std.specs.List.{AllByRecursion}
use Rattle.std.specs.Ordering.{is_eq}
use Rattle.std.specs.declared.cmp.Ordering.{Ordering}
use Rattle.std.specs.declared.cmp.Ordering.TheVariants.{Less, Equal, Greater}
use Rattle.std.proofs.lemmas.Cmp.{tied_itself}
use Rattle.index_model.specs.declared.range.Range.{Range}
use Rattle.index_model.proofs.Order.{entries_total, exact_entries}
use Rattle.tests_reference.proofs.Imports.{unwrap_or, if◌then◌else◌, Row, entry_cmp, same_entry, is_among, IsAscending, Effect, Add, Remove, Shape, Action, said_of, later_or, last_said, or-true}
use Rattle.tests_reference.proofs.Imports.{is_there_after, GivesOnly, GivesAll, AreRemovable, Entry, with_added, added_by, IsGivenIfOwed, MayBeGiven, IsRemoved, AreRemoved, IsRemovable, or_cases}
use Rattle.tests_reference.proofs.Imports.{AllByRecursion-among}

is_equal : (o : Ordering) → is_eq o ≡ true → o ≡ Equal
is_equal Less e = absurd cc
is_equal Equal e = refl
is_equal Greater e = absurd cc

-- entries that compare alike are one
pub same_is : (a b : Entry) → same_entry a b ≡ true → a ≡ b
same_is a b e = exact_entries a b (is_equal (entry_cmp a b) e)

pub same_itself : (e : Entry) → same_entry e e ≡ true
same_itself e = ap is_eq (tied_itself entries_total e)

pub same_decides : (a b : Entry) → a ≡ b → same_entry a b ≡ true
same_decides a b e = subst (λ (x : Entry). same_entry a x ≡ true) e (same_itself a)

-- ... and the other way round
pub among_all : (P : Entry → Type 0) (xs : List Entry) → ((e : Entry) → is_among xs e ≡ true → P e) → AllByRecursion P xs
among_all P [] h = tt
among_all P (x ∷ xs) h =
    (h x (ap (λ (b : Bool). b || is_among xs x) (same_itself x)), among_all P xs (λ e among. h e (ap (λ (b : Bool). same_entry x e || b) among ∙ or-true (same_entry x e))))

pub all_of_every : (P : Entry → Type 0) (xs : List Entry) → ((e : Entry) → P e) → AllByRecursion P xs
all_of_every P xs h = among_all P xs (λ e among. h e)

among_with : (effect : Effect) (xs : List Entry) (e : Entry) → is_among xs e ≡ true → is_among (with_added effect xs) e ≡ true
among_with (Add x) xs e h = ap (λ (b : Bool). same_entry x e || b) h ∙ or-true (same_entry x e)
among_with (Remove es) xs e h = h
among_with Shape xs e h = h

said_removed : (b : Bool) → let said : Option Bool = if b then Some false else None in said ≡ Some true → ⊥
said_removed true h = cc
said_removed false h = cc

said_added : (b : Bool) → let said : Option Bool = if b then Some true else None in said ≡ Some true → b ≡ true
said_added true h = refl
said_added false h = absurd cc

among_said : (effect : Effect) (xs : List Entry) (e : Entry) → said_of effect e ≡ Some true → is_among (with_added effect xs) e ≡ true
among_said (Add x) xs e h = ap (λ (b : Bool). b || is_among xs e) (said_added (same_entry x e) h)
among_said (Remove es) xs e h = absurd (said_removed (is_among es e) h)
among_said Shape xs e h = absurd cc

-- an entry of which a history says last that it is there is one that it adds
said_is_added : (history : List Action) (e : Entry) → last_said history e ≡ Some true → is_among (added_by history) e ≡ true
said_is_added [] e h = absurd cc
said_is_added (a ∷ history) e h = by (last_said history e) refl (said_is_added history e)
  where
    by : (later : Option Bool) → last_said history e ≡ later → (last_said history e ≡ Some true → is_among (added_by history) e ≡ true) → is_among (added_by (a ∷ history)) e ≡ true
    by (Some said) is before =
        let same : later_or (Some said) (said_of a.effect e) ≡ Some true = ap (λ (o : Option Bool). later_or o (said_of a.effect e)) (sym is) ∙ h in
        among_with a.effect (added_by history) e (before (is ∙ same))
    by None is before =
        let same : later_or None (said_of a.effect e) ≡ Some true = ap (λ (o : Option Bool). later_or o (said_of a.effect e)) (sym is) ∙ h in
        among_said a.effect (added_by history) e same

more_or : (a b c : Bool) → (b ≡ true → c ≡ true) → (a || b) ≡ true → (a || c) ≡ true
more_or true b c more h = refl
more_or false b c more h = more h

more_added : (effect : Effect) (xs ys : List Entry) (e : Entry) → (is_among xs e ≡ true → is_among ys e ≡ true)
    → is_among (with_added effect xs) e ≡ true → is_among (with_added effect ys) e ≡ true
more_added (Add x) xs ys e more h = more_or (same_entry x e) (is_among xs e) (is_among ys e) more h
more_added (Remove es) xs ys e more h = more h
more_added Shape xs ys e more h = more h

added_before : (k : ℕ) (history : List Action) (e : Entry) → is_among (added_by (take k history)) e ≡ true → is_among (added_by history) e ≡ true
added_before zero history e h = absurd cc
added_before (suc k) [] e h = h
added_before (suc k) (a ∷ history) e h = more_added a.effect (added_by (take k history)) (added_by history) e (added_before k history e) h

-- an entry that is there at some moment is one of the start, or one that the history adds
pub there_is_named : (start : List Entry) (history : List Action) (k : ℕ) (e : Entry) → is_there_after (is_among start) history k e ≡ true
    → (is_among start e ≡ true) ⊎ (is_among (added_by history) e ≡ true)
there_is_named start history k e h = by (last_said (take k history) e) refl
  where
    by : (last : Option Bool) → last_said (take k history) e ≡ last → (is_among start e ≡ true) ⊎ (is_among (added_by history) e ≡ true)
    by (Some said) is =
        let same : said ≡ true = ap (λ (o : Option Bool). unwrap_or o (is_among start e)) (sym is) ∙ h in
        inr (added_before k history e (said_is_added (take k history) e (is ∙ ap Some same)))
    by None is = inl (ap (λ (o : Option Bool). unwrap_or o (is_among start e)) (sym is) ∙ h)

-- what holds of the entries of the start and of those that are added holds of each that is there at some
-- moment
pub all_of_there : (P : Entry → Type 0) (start : List Entry) (history : List Action) (k : ℕ) (e : Entry) → AllByRecursion P start
    → AllByRecursion P (added_by history) → is_there_after (is_among start) history k e ≡ true → P e
all_of_there P start history k e first added there = by (there_is_named start history k e there)
  where
    by : (is_among start e ≡ true) ⊎ (is_among (added_by history) e ≡ true) → P e
    by (inl among) = AllByRecursion-among P start e first among
    by (inr among) = AllByRecursion-among P (added_by history) e added among

pub gives_all : (start : List Entry) (history : List Action) (range : Range) (began now : ℕ) (given : List Entry) (IsWithin : Entry → Type 0) → began ≤ now
    → AllByRecursion (IsGivenIfOwed (is_among start) history range began now given IsWithin) start
    → AllByRecursion (IsGivenIfOwed (is_among start) history range began now given IsWithin) (added_by history)
    → GivesAll (is_among start) history range began now given IsWithin
gives_all start history range began now given IsWithin le first added e within matched throughout =
    (all_of_there (IsGivenIfOwed (is_among start) history range began now given IsWithin) start history began e first added (throughout began (omega arith) le)).if_owed within matched throughout

pub owed_of_all : (start : Entry → Bool) (history : List Action) (range : Range) (began now : ℕ) (given : List Entry) (IsWithin : Entry → Type 0)
    → GivesAll start history range began now given IsWithin → (xs : List Entry) → AllByRecursion (IsGivenIfOwed start history range began now given IsWithin) xs
owed_of_all start history range began now given IsWithin h xs =
    all_of_every (IsGivenIfOwed start history range began now given IsWithin) xs (λ e. record { if_owed = h e })

pub gives_only : (start : Entry → Bool) (history : List Action) (range : Range) (began now : ℕ) (given : List Entry)
    → IsAscending given → AllByRecursion (MayBeGiven start history range began now) given → GivesOnly start history range began now given
gives_only start history range began now given ascending all =
    let each = AllByRecursion-among (MayBeGiven start history range began now) given in
    record { ascending = ascending; matched = λ e among. (each e all among).matched; was_there = λ e among. (each e all among).was_there }

pub all_may : (start : Entry → Bool) (history : List Action) (range : Range) (began now : ℕ) (given : List Entry)
    → GivesOnly start history range began now given → AllByRecursion (MayBeGiven start history range began now) given
all_may start history range began now given only =
    among_all (MayBeGiven start history range began now) given (λ e among. record { matched = only.matched e among; was_there = only.was_there e among })

pub are_gone : (start : List Entry) (history : List Action) (began ended : ℕ) (dead : Row → Bool)
    → AllByRecursion (IsRemoved (is_among start) history began ended dead) start
    → AllByRecursion (IsRemoved (is_among start) history began ended dead) (added_by history) → AreRemoved (is_among start) history began ended dead
are_gone start history began ended dead first added e is_dead before after =
    (all_of_there (IsRemoved (is_among start) history began ended dead) start history began e first added before).unless_added is_dead before after

pub each_gone : (start : Entry → Bool) (history : List Action) (began ended : ℕ) (dead : Row → Bool) → AreRemoved start history began ended dead
    → (xs : List Entry) → AllByRecursion (IsRemoved start history began ended dead) xs
each_gone start history began ended dead gone xs = all_of_every (IsRemoved start history began ended dead) xs (λ e. record { unless_added = gone e })

pub are_removable : (was_there : Entry → Bool) (dead : Row → Bool) (es : List Entry) → AllByRecursion (IsRemovable was_there dead) es → AreRemovable was_there dead es
are_removable was_there dead es all e among =
    let removable = AllByRecursion-among (IsRemovable was_there dead) es e all among in
    (removable.is_dead, removable.is_there)

pub each_removable : (was_there : Entry → Bool) (dead : Row → Bool) (es : List Entry) → AreRemovable was_there dead es → AllByRecursion (IsRemovable was_there dead) es
each_removable was_there dead es h =
    among_all (IsRemovable was_there dead) es (λ e among. record { is_dead = (h e among).0; is_there = (h e among).1 })
