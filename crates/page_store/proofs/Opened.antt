-- Pages as they were opened are an own device's.
use Rattle.std.proofs.Common.{◌≡◌, ℕ, ◌+◌, ◌-◌, ◌*◌, ◌/◌, ◌<◌, ◌≤◌, true, List, [], ◌∷◌, length, inl, inr, refl, sym, subst, arith}
use Rattle.page_store.proofs.Imports.{cases_lt, Page, AreStored, format_of, keeps_restarts, place, Held, is_named, StandsOpened, IsOwn, History}
use Rattle.page_store.proofs.Restarting.{leaves_part}

-- a list of no length
pub none_of_length : {A : Type 0} (xs : List A) → length xs ≡ 0 → xs ≡ []
none_of_length [] is = refl
none_of_length (x ∷ xs) is = absurd cc

module _ (held : Held) (stored : AreStored (format_of held.log) 0 held.history.start) (few : length held.history.start ≤ (format_of held.log).pages)
    (long : place (format_of held.log) (format_of held.log).pages ≤ length held.trace.now.seen) (clean : (block : ℕ) → held.unwritten block ≡ 0)
    (fresh : length held.history.acts ≡ 0) (none : held.acts ≡ 0)
    (none_durable : held.durable ≡ 0) where
  abbrev from_start : History
  from_start = record held.history { acts = [] }

  abbrev opened : Held
  opened = record held { history = from_start; durable = 0; acts = 0 }

  own_opened : StandsOpened held.log held.trace.now held.history.start → IsOwn opened
  own_opened stands = record {
    start_stored = stored;
    start_few = few;
    long = long;
    acts_are = tt;
    counted = refl;
    leaves = leaves_part (format_of held.log) from_start stored few tt 0 0 held.trace.now (omega arith) stands.superblock_on stands.home long
        (keeps_restarts held.log held.trace.now [] 0 stands.log_keeps);
    kept = λ alive. record {
      base = 0;
      forced = 0;
      base_few = omega arith;
      durable_is = refl;
      log_keeps = stands.log_keeps;
      home = stands.home;
      superblock_on = stands.superblock_on;
      named = λ block some. absurd (omega (arith, clean block));
      last = λ block some. absurd (omega (arith, clean block));
      written = λ block page found is image. (let never : is_named [] block ≡ true = image in absurd cc);
    };
  }

  pub is_own : StandsOpened held.log held.trace.now held.history.start → IsOwn held
  is_own stands =
      subst (λ (as' : List (List Page)). IsOwn (record held { history = record held.history { acts = as' } })) (sym (none_of_length held.history.acts fresh))
      (subst (λ (n : ℕ). IsOwn (record held { history = from_start; acts = n })) (sym none)
      (subst (λ (n : ℕ). IsOwn (record held { history = from_start; acts = 0; durable = n })) (sym none_durable) (own_opened stands)))

-- if the log is empty, its room is the whole
pub room_is : (at waits room bytes : ℕ) → at ≡ 0 → waits ≡ 0 → ((n : ℕ) → 0 < n → n ≤ room → at + (6 + 4096 * (waits + n)) ≤ bytes)
    → ((n : ℕ) → room < n → at + (6 + 4096 * (waits + n)) ≤ bytes → ⊥) → room ≡ (bytes - 6) / 4096
room_is at waits room bytes none idle fit no_more = elim (cases_lt room ((bytes - 6) / 4096)) [
  | inl less ↦ absurd (no_more ((bytes - 6) / 4096) less (omega (arith, none, idle, less)))
  | inr most ↦ elim (cases_lt ((bytes - 6) / 4096) room) [
    | inl more ↦ omega (arith, none, idle, more, fit room (omega (arith, more)) (omega arith))
    | inr least ↦ omega (arith, most, least)
  ]
]
