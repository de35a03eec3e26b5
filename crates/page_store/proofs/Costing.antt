-- What a frame costs, and how a page takes one.
use mathlib.Core.Path.{fun_ext}
use Rattle.std.proofs.Common.{◌≡◌, ◌≢◌, ℕ, zero, suc, ◌+◌, ◌<◌, ◌≤◌, ◌/◌, Bool, true, false, Option, Some, None, List, [], ◌∷◌, ◌++◌, length, map, take, drop, slice_get, get_or, set, add-one, inl, inr, refl, sym, ap, subst, ◌∙◌, arith}
use Rattle.std.specs.Prelude.{All, remove, not, is_some}
use Rattle.std.specs.List.{position}
use Rattle.std.proofs.lemmas.List.Quantifiers.{position-Some}
use Rattle.buffer_pool.specs.Pools.{most_of, pool_count, pool_blocks, frame_of, act_of, changed_of, HasSamePages, HasSameChanges, CanBeTaken, IsPut, IsPool}
use Rattle.page_store.proofs.Imports.{cases_lt, not-false, get_or_append_left, length-take, slice_get_within, Ghosts, IsOldest, has_block, Pool, Page, Memory, LogStays, TakesFrame, TakesUnused}
use Rattle.page_store.proofs.Imports.{TakesOver, takes_nothing, takes_next, takes_rest, Backing, is_stopped, waiting_blocks, Log, held_of, backing_of, memory_in, IsUnforced, AreWrittenAhead}
use Rattle.page_store.proofs.Imports.{CostsFrame, GetsFrame, GetFrames, LoggedPages}
use Rattle.page_store.proofs.Evicting.{put_back, has_between, has_wide}
use Rattle.page_store.proofs.Pooling.{bool_cases, unchanged}

-- the block at a place, with those before and after it
split_at : (xs : List ℕ) (k b : ℕ) → slice_get xs k ≡ Some b → xs ≡ take k xs ++ b ∷ drop (suc k) xs
split_at [] k b at = absurd cc
split_at (x ∷ xs) zero b at = (let same : x ≡ b = cc in ap (λ (y : ℕ). y ∷ xs) same)
split_at (x ∷ xs) (suc k) b at = ap (λ (l : List ℕ). x ∷ l) (split_at xs k b at)

-- the first that passes stands after some that don't
passed_before : (p : ℕ → Bool) (xs front rest : List ℕ) (place : ℕ) → position p xs ≡ Some place → xs ≡ front ++ rest → length front ≡ place → All (λ b. p b ≡ false) front
passed_before p xs front rest place first is many = λ k d less.
    ap p (sym (get_or_append_left front rest d k less) ∙ ap (λ (l : List ℕ). get_or l k d) (sym is))
    ∙ (position-Some p xs place d first).2 k (omega (arith, many, less))

-- a pool with the same pages and changes shows the same
pub same_memory : (old new : Pool) → HasSamePages old new → HasSameChanges old new → memory_in new ≡ memory_in old
same_memory old new pages changes =
    ap (λ (bs : List ℕ). record { held = bs; unwritten = act_of new }) pages.blocks
    ∙ ap (λ (acts : ℕ → ℕ). record { held = pool_blocks old; unwritten = acts }) (fun_ext changes.acts)

pub changes_same : (old new : Pool) → new ≡ old → HasSameChanges old new
changes_same old new is = record { order = ap changed_of is; acts = λ block. ap (λ (p : Pool). act_of p block) is }

-- if none was found, none is there
pub none_of : {A : Type 0} (o : Option A) (found : Bool) → found ≡ is_some o → found ≡ false → o ≡ None
none_of None found is none = refl
none_of (Some x) found is none = (let both : true ≡ false = sym is ∙ none in absurd cc)

-- a block without a frame isn't in memory
pub not_there : (pool : Pool) (block : ℕ) → IsPool pool → frame_of pool block ≡ None → has_block (pool_blocks pool) block ≡ true → ⊥
not_there pool block is none among = (let both : true ≡ false = sym among ∙ (is.there block ∙ ap is_some none) in cc)

-- the blocks of the first `i` pages and one more
pub blocks_next : (pages : List Page) (i : ℕ) (page : Page) → slice_get pages i ≡ Some page
    → map (λ (p : Page). p.block) (take (i + 1) pages) ≡ map (λ (p : Page). p.block) (take i pages) ++ page.block ∷ []
blocks_next pages i page at = ap (λ (n : ℕ). map (λ (p : Page). p.block) (take n pages)) (add-one i) ∙ by pages i at
  where
    by : (pages : List Page) (i : ℕ) → slice_get pages i ≡ Some page → map (λ (p : Page). p.block) (take (suc i) pages) ≡ map (λ (p : Page). p.block) (take i pages) ++ page.block ∷ []
    by [] i at = absurd cc
    by (p ∷ pages) zero at = (let same : p ≡ page = cc in ap (λ (x : Page). x.block ∷ []) same)
    by (p ∷ pages) (suc i) at = ap (λ (l : List ℕ). p.block ∷ l) (by pages i at)

-- ... with those after
pub blocks_split : (pages : List Page) (i : ℕ) (page : Page) → slice_get pages i ≡ Some page
    → map (λ (p : Page). p.block) pages ≡ (map (λ (p : Page). p.block) (take i pages) ++ page.block ∷ []) ++ map (λ (p : Page). p.block) (drop (suc i) pages)
blocks_split [] i page at = absurd cc
blocks_split (p ∷ pages) zero page at = (let same : p ≡ page = cc in ap (λ (x : Page). x.block ∷ map (λ (q : Page). q.block) pages) same)
blocks_split (p ∷ pages) (suc i) page at = ap (λ (l : List ℕ). p.block ∷ l) (blocks_split pages i page at)

module _ {D : Type 0} (g : Ghosts D) where
  pub stays : (a b : LoggedPages D g) → IsUnforced g a b → b.promised ≡ a.promised → LogStays (backing_of (held_of g a)) (backing_of (held_of g b))
  stays a b same promised = record {
    durable = same.durable;
    room = same.room;
    promised = promised;
    stopped = ap is_stopped same.log;
    waiting = ap waiting_blocks same.log;
  }

  pub stays_both : (a b c : LoggedPages D g) → LogStays (backing_of (held_of g a)) (backing_of (held_of g b))
      → LogStays (backing_of (held_of g b)) (backing_of (held_of g c)) → LogStays (backing_of (held_of g a)) (backing_of (held_of g c))
  stays_both a b c f s = record {
    durable = s.durable ∙ f.durable;
    room = s.room ∙ f.room;
    promised = s.promised ∙ f.promised;
    stopped = s.stopped ∙ f.stopped;
    waiting = s.waiting ∙ f.waiting;
  }

  -- ... and nothing more
  pub costs_on : (pinned : List ℕ) (a b c : LoggedPages D g) → CostsFrame g pinned a b → HasSameChanges b.pool c.pool → IsUnforced g b c → c.promised ≡ b.promised → CostsFrame g pinned a c
  costs_on pinned a b c (inl none) changes same promised = inl (record {
    log = stays_both a b c none.log (stays b c same promised);
    changed = changes.order ∙ none.changed;
    unwritten = λ block. changes.acts block ∙ none.unwritten block;
  })
  costs_on pinned a b c (inr over) changes same promised = inr (record {
    full = over.full;
    clean = over.clean;
    front = over.front;
    block = over.block;
    later = over.later;
    was = over.was;
    passed = over.passed;
    unpinned = over.unpinned;
    forced = λ early. stays_both a b c (over.forced early) (stays b c same promised);
    left = elim over.left [
      | inl none ↦ inl (changes.order ∙ none)
      | inr some ↦ inr (record {
        more = some.more;
        rest = some.rest;
        was = some.was;
        left = changes.order ∙ some.left;
        few = some.few;
        each = λ k d less. (let one = some.each k d less in (one.0, omega (arith, one.1, same.durable)));
      })
    ];
    others = λ block among. changes.acts block ∙ over.others block (ap (λ (l : List ℕ). has_block l block) (sym changes.order) ∙ among);
  })

  -- no frame is free, and this changed page is to be written
  module _ (pinned : List ℕ) (old chosen new : LoggedPages D g) (place block act : ℕ) (pages : HasSamePages old.pool chosen.pool) (changes : HasSameChanges old.pool chosen.pool)
      (oldest : IsOldest chosen.pool pinned place block act) (law : IsPool chosen.pool)
      (forced : act ≤ old.durable → LogStays (backing_of (held_of g old)) (backing_of (held_of g new))) where
    full : length (pool_blocks old.pool) ≡ most_of old.pool
    full = sym (ap (λ (l : List ℕ). length l) pages.blocks) ∙ (law.count ∙ (oldest.full ∙ pages.most))

    clean : All (λ b. has_block (changed_of old.pool) b ≡ false → has_block pinned b ≡ true) (pool_blocks old.pool)
    clean =
        let all = subst (λ (bs : List ℕ). All (λ b. act_of chosen.pool b ≡ 0 → has_block pinned b ≡ true) bs) pages.blocks oldest.clean in
        λ k d less out.
        let b = get_or (pool_blocks old.pool) k d in
        all k d less (unchanged chosen.pool law b (ap (λ (l : List ℕ). has_block l b) changes.order ∙ out))

    passed : (front rest : List ℕ) → changed_of chosen.pool ≡ front ++ rest → length front ≡ place → All (λ b. has_block pinned b ≡ true) front
    passed front rest is many =
        let before = passed_before (λ b. not (has_block pinned b)) (changed_of chosen.pool) front rest place oldest.first is many in
        λ k d less. not-false (has_block pinned (get_or front k d)) (before k d less)

    early : act_of old.pool block ≤ old.durable → LogStays (backing_of (held_of g old)) (backing_of (held_of g new))
    early le = forced (omega (arith, oldest.changed, changes.acts block, le))

    -- it wasn't written
    pub over_failed : changed_of new.pool ≡ changed_of chosen.pool → ((b : ℕ) → act_of new.pool b ≡ act_of chosen.pool b) → CostsFrame g pinned old new
    over_failed order acts =
        let split = split_at (changed_of chosen.pool) place block oldest.at in
        let front = take place (changed_of chosen.pool) in
        inr (record {
          full = full;
          clean = clean;
          front = front;
          block = block;
          later = drop (suc place) (changed_of chosen.pool);
          was = sym changes.order ∙ split;
          passed = passed front _ split (omega (arith, length-take place (changed_of chosen.pool), slice_get_within (changed_of chosen.pool) place block oldest.at));
          unpinned = oldest.unpinned;
          forced = early;
          left = inl (order ∙ changes.order);
          others = λ b among. acts b ∙ changes.acts b;
        })

    -- it was, and some after it
    pub over_written : (mid : LoggedPages D g) → changed_of mid.pool ≡ remove (changed_of chosen.pool) place → most_of mid.pool ≡ most_of chosen.pool
        → ((b : ℕ) → has_block (changed_of mid.pool) b ≡ true → act_of mid.pool b ≡ act_of chosen.pool b)
        → AreWrittenAhead pinned mid.durable place mid.pool new.pool → new.durable ≡ mid.durable → CostsFrame g pinned old new
    over_written mid order most acts ahead durable =
        let was : changed_of chosen.pool ≡ ahead.front ++ block ∷ (ahead.more ++ ahead.rest) =
        put_back (changed_of chosen.pool) ahead.front (ahead.more ++ ahead.rest) block
        (subst (λ (k : ℕ). slice_get (changed_of chosen.pool) k ≡ Some block) (sym ahead.passed) oldest.at)
        (subst (λ (k : ℕ). remove (changed_of chosen.pool) k ≡ ahead.front ++ (ahead.more ++ ahead.rest)) (sym ahead.passed) (sym order ∙ ahead.was)) in
        inr (record {
          full = full;
          clean = clean;
          front = ahead.front;
          block = block;
          later = ahead.more ++ ahead.rest;
          was = sym changes.order ∙ was;
          passed = passed ahead.front (block ∷ (ahead.more ++ ahead.rest)) was ahead.passed;
          unpinned = oldest.unpinned;
          forced = early;
          left = inr (record {
            more = ahead.more;
            rest = ahead.rest;
            was = refl;
            left = ahead.left;
            few = subst (λ (n : ℕ). length ahead.more ≤ n / 4) (most ∙ pages.most) ahead.few;
            each = λ k d less.
                let one = ahead.each k d less in
                let b = get_or ahead.more k d in
                let there : has_block (changed_of mid.pool) b ≡ true = ap (λ (l : List ℕ). has_block l b) ahead.was ∙ has_between ahead.front ahead.more ahead.rest k d less in
                (one.0, omega (arith, one.1, acts b there, changes.acts b, durable));
          });
          others = λ b among.
              let wide : has_block (changed_of mid.pool) b ≡ true =
              ap (λ (l : List ℕ). has_block l b) ahead.was ∙ has_wide ahead.front ahead.more ahead.rest b (ap (λ (l : List ℕ). has_block l b) (sym ahead.left) ∙ among) in
              ahead.others b among ∙ (acts b wide ∙ changes.acts b);
        })

  -- what the log and the device show is as it was
  pub backing_same : (a b : LoggedPages D g) → changed_of b.pool ≡ changed_of a.pool → b.log ≡ a.log → g.is_honest b.device ≡ g.is_honest a.device → g.failures b.device ≡ g.failures a.device
      → b.durable ≡ a.durable → b.room ≡ a.room → b.promised ≡ a.promised → backing_of (held_of g b) ≡ backing_of (held_of g a)
  backing_same a b changed log honest failures durable room promised =
      let B = backing_of (held_of g b) in
      ap (λ (x : List ℕ). record B { changed = x }) changed
      ∙ (ap (λ (x : Log). record B { changed = changed_of a.pool; stopped = is_stopped x; waiting = waiting_blocks x }) log
      ∙ (ap (λ (x : Bool). record (backing_of (held_of g a)) { honest = x; failures = g.failures b.device; durable = b.durable; room = b.room; promised = b.promised }) honest
      ∙ (ap (λ (x : ℕ). record (backing_of (held_of g a)) { failures = x; durable = b.durable; room = b.room; promised = b.promised }) failures
      ∙ (ap (λ (x : ℕ). record (backing_of (held_of g a)) { durable = x; room = b.room; promised = b.promised }) durable
      ∙ (ap (λ (x : ℕ). record (backing_of (held_of g a)) { room = x; promised = b.promised }) room
      ∙ ap (λ (x : ℕ). record (backing_of (held_of g a)) { promised = x }) promised)))))

  -- if it is, and the pages in memory too, a page is brought in as before
  pub gets_from : (pinned : List ℕ) (block : ℕ) (a b c : LoggedPages D g) → most_of b.pool ≡ most_of a.pool → memory_in b.pool ≡ memory_in a.pool → backing_of (held_of g b) ≡ backing_of (held_of g a)
      → GetsFrame g pinned block b c → GetsFrame g pinned block a c
  gets_from pinned block a b c most memory backing gets =
      subst (λ (n : ℕ). TakesFrame n pinned block (memory_in a.pool) (memory_in c.pool) (backing_of (held_of g a)) (backing_of (held_of g c))) most
      (subst (λ (m : Memory). TakesFrame (most_of b.pool) pinned block m (memory_in c.pool) (backing_of (held_of g a)) (backing_of (held_of g c))) memory
      (subst (λ (x : Backing). TakesFrame (most_of b.pool) pinned block (memory_in b.pool) (memory_in c.pool) x (backing_of (held_of g c))) backing gets))

  -- ... and a page that is there costs nothing
  pub gets_there : (pinned : List ℕ) (block : ℕ) (a b : LoggedPages D g) → memory_in b.pool ≡ memory_in a.pool → backing_of (held_of g b) ≡ backing_of (held_of g a) → GetsFrame g pinned block a b
  gets_there pinned block a b memory backing =
      subst (λ (m : Memory). TakesFrame (most_of a.pool) pinned block (memory_in a.pool) m (backing_of (held_of g a)) (backing_of (held_of g b))) (sym memory)
      (subst (λ (x : Backing). TakesFrame (most_of a.pool) pinned block (memory_in a.pool) (memory_in a.pool) (backing_of (held_of g a)) x) (sym backing)
      (takes_nothing (most_of a.pool) pinned block (memory_in a.pool) (backing_of (held_of g a))))

  -- a page that isn't there, and isn't brought in
  pub gets_none : (pinned : List ℕ) (block : ℕ) (old new : LoggedPages D g) → IsPool old.pool → frame_of old.pool block ≡ None
      → CostsFrame g pinned old new → pool_blocks new.pool ≡ pool_blocks old.pool → GetsFrame g pinned block old new
  gets_none pinned block old new law none cost same = record {
    there = λ among. absurd (not_there old.pool block law none among);
    cost = cost;
    frame = inl same;
  }

  -- a page that came into a frame
  module _ (pinned : List ℕ) (at : ℕ) (old mid new : LoggedPages D g) (page : Page) (law : IsPool old.pool) (absent : frame_of old.pool page.block ≡ None)
      (same : HasSamePages old.pool mid.pool) (free : CanBeTaken mid.pool at)
      (unpinned : (block : ℕ) → has_block pinned block ≡ true → frame_of old.pool block ≢ Some at)
      (unused : pool_count old.pool < most_of old.pool → at ≡ pool_count old.pool) (put : IsPut mid.pool new.pool at page) where
    takes_unused : pool_count old.pool < most_of old.pool → TakesUnused (most_of old.pool) page.block (memory_in old.pool) (memory_in new.pool)
    takes_unused some = record {
      unused = omega (arith, some, law.count);
      held = put.added (omega (arith, unused some, same.count)) ∙ ap (λ (l : List ℕ). l ++ page.block ∷ []) same.blocks;
    }

    takes_over : most_of old.pool ≤ pool_count old.pool → TakesOver (most_of old.pool) pinned page.block (memory_in old.pool) (memory_in new.pool)
    takes_over many =
        let within : at < pool_count old.pool = omega (arith, many, free.within, same.most) in
        let block = get_or (pool_blocks old.pool) at 0 in
        let framed : frame_of old.pool block ≡ Some at = law.frames at within in
        record {
          full = omega (arith, many, law.few, law.count);
          at = at;
          within = omega (arith, free.within, same.most);
          unpinned = elim (bool_cases (has_block pinned block)) [
            | inl pin ↦ absurd (unpinned block pin framed)
            | inr not ↦ not
          ];
          clean = put.changes.acts block ∙ elim (cases_lt 0 (act_of mid.pool block)) [
            | inl some ↦ absurd (free.clean block some (same.places block ∙ framed))
            | inr none ↦ omega arith
          ];
          held = put.over (omega (arith, within, same.count)) ∙ ap (λ (l : List ℕ). set l at page.block) same.blocks;
        }

    pub gets_one : CostsFrame g pinned old new → GetsFrame g pinned page.block old new
    gets_one cost = record {
      there = λ among. absurd (not_there old.pool page.block law absent among);
      cost = cost;
      frame = elim (cases_lt (pool_count old.pool) (most_of old.pool)) [
        | inl some ↦ inr (inl (takes_unused some))
        | inr many ↦ inr (inr (takes_over many))
      ];
    }

  -- one page more, and nothing for others
  pub gets_next : (pinned blocks : List ℕ) (block : ℕ) (a b c : LoggedPages D g) → most_of b.pool ≡ most_of a.pool → GetFrames g pinned blocks a b
      → GetsFrame g pinned block b c → GetFrames g pinned (blocks ++ block ∷ []) a c
  gets_next pinned blocks block a b c most first next =
      takes_next (most_of a.pool) pinned blocks block (memory_in a.pool) (memory_in b.pool) (memory_in c.pool) (backing_of (held_of g a)) (backing_of (held_of g b)) (backing_of (held_of g c)) first
      (subst (λ (n : ℕ). TakesFrame n pinned block (memory_in b.pool) (memory_in c.pool) (backing_of (held_of g b)) (backing_of (held_of g c))) most next)

  pub gets_rest : (pinned blocks others : List ℕ) (a b : LoggedPages D g) → GetFrames g pinned blocks a b → GetFrames g pinned (blocks ++ others) a b
  gets_rest pinned blocks others a b first = takes_rest (most_of a.pool) pinned blocks others (memory_in a.pool) (memory_in b.pool) (backing_of (held_of g a)) (backing_of (held_of g b)) first
