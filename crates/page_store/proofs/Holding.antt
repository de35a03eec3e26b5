-- What waits in the log stays held by the pool.
use Rattle.std.proofs.Common.{◌≡◌, ◌⊎◌, inl, inr, ℕ, ◌<◌, ◌≤◌, true, List, [], length, get_or, Option, Some, None, refl, sym, ◌∙◌, ap, subst, arith}
use Rattle.std.specs.Prelude.{is_some, slice_get}
use Rattle.page_codec.specs.Spelling.{page_bytes}
use Rattle.redo_log.specs.Blocks.{with_images}
use Rattle.redo_log.proofs.Standing.{waits_once, waits_many, block_at, last_at, last_with}
use Rattle.redo_log.proofs.Keeping.{keeps_laid}
use Rattle.redo_log.specs.Kept.{ChangesItsRange, Restarts, RestartsThroughout, SameLog, WaitsAlike, end_with, format_of, waiting_images}
use Rattle.buffer_pool.specs.Pools.{act_of, held_page}
use Rattle.page_store.specs.Writing.{HoldsWaiting}
use Rattle.page_store.proofs.Imports.{AreActed, AtEachMoment, Format, HasSamePages, Log, Page, Trace, Pool, last_image, later_of, slice_get_cases, waiting_blocks, waiting_count}

-- a pool that has what waits by the same acts and pages holds it too
pub waits_same : (images : List Page) (durable : ℕ) (old new : Pool) → HoldsWaiting images durable old → ((block : ℕ) → durable < act_of old block → act_of new block ≡ act_of old block)
    → ((block : ℕ) → 0 < act_of old block → held_page new block ≡ held_page old block) → HoldsWaiting images durable new
waits_same images durable old new w acts pages = record {
  acted = λ block is. (let was = w.acted block is in omega (arith, was, acts block was));
  held = λ block held page h l. w.held block held page (sym (pages block (omega (arith, w.acted block (ap is_some l)))) ∙ h) l;
}

-- so does one with the same pages
pub waits_noted : (images : List Page) (durable : ℕ) (old new : Pool) → HoldsWaiting images durable old → HasSamePages old new
    → ((block : ℕ) → durable < act_of old block → act_of new block ≡ act_of old block) → HoldsWaiting images durable new
waits_noted images durable old new w pages acts = waits_same images durable old new w acts (λ block more. pages.held block)

-- if each act is durable, none waits
pub waits_durable : (images : List Page) (durable : ℕ) (old new : Pool) → HoldsWaiting images durable old → ((block : ℕ) → act_of old block ≤ durable) → HoldsWaiting images durable new
waits_durable images durable old new w few = record {
  acted = λ block is. absurd (omega (arith, w.acted block is, few block));
  held = λ block held page h l. absurd (omega (arith, w.acted block (ap is_some l), few block));
}

-- nothing that waits is held by any pool
pub waits_nothing : (images : List Page) (durable : ℕ) (pool : Pool) → images ≡ [] → HoldsWaiting images durable pool
waits_nothing images durable pool empty = subst (λ (l : List Page). HoldsWaiting l durable pool) (sym empty) (record {
  acted = λ block is. (let both : is_some (last_image [] block) ≡ true = is in absurd cc);
  held = λ block held page h l. (let both : None ≡ Some page = l in absurd cc);
})

-- of an act that isn't durable
pub waits_changed : (images : List Page) (durable : ℕ) (pool : Pool) → HoldsWaiting images durable pool → HoldsWaiting images 0 pool
waits_changed images durable pool w = record { acted = λ block is. omega (arith, w.acted block is); held = w.held }

-- one image more of the block, or none
last_of : (early late : Option Page) → (late ≡ None) ⊎ ((p : Page) × (late ≡ Some p))
last_of early None = inl refl
last_of early (Some p) = inr (p, refl)

the_same : (a b p : Page) → Some a ≡ Some p → Some b ≡ Some p → page_bytes a ≡ page_bytes b
the_same a b p one two = (let same : a ≡ b = cc in ap page_bytes same)

-- with an act, its pages wait too
pub waits_acted : (log : Log) (pages : List Page) (durable act : ℕ) (old new : Pool) → durable < act → HoldsWaiting (waiting_images log) durable old → AreActed old new pages act
    → HoldsWaiting (with_images (waiting_images log) pages) durable new
waits_acted log pages durable act old new more w a = record { acted = acts_are; held = pages_are }
  where
    none : (block : ℕ) → last_image pages block ≡ None → last_image (with_images (waiting_images log) pages) block ≡ last_image (waiting_images log) block
    none block at = last_with log pages block ∙ ap (later_of (last_image (waiting_images log) block)) at

    some : (block : ℕ) (p : Page) → last_image pages block ≡ Some p → last_image (with_images (waiting_images log) pages) block ≡ Some p
    some block p at = last_with log pages block ∙ ap (later_of (last_image (waiting_images log) block)) at

    acts_are : (block : ℕ) → is_some (last_image (with_images (waiting_images log) pages) block) ≡ true → durable < act_of new block
    acts_are block is = elim (last_of None (last_image pages block)) [
      | inl at ↦ omega (arith, w.acted block (ap is_some (sym (none block at)) ∙ is), a.before block at)
      | inr found ↦ omega (arith, more, a.acted block (ap is_some found.1))
    ]

    pages_are : (block : ℕ) (there page : Page) → held_page new block ≡ Some there → last_image (with_images (waiting_images log) pages) block ≡ Some page → page_bytes there ≡ page_bytes page
    pages_are block there page h l = elim (last_of None (last_image pages block)) [
      | inl at ↦ w.held block there page (sym (a.others block at) ∙ h) (sym (none block at) ∙ l)
      | inr found ↦ the_same there page found.0 (sym h ∙ a.held block found.0 found.1) (sym l ∙ some block found.0 found.1)
    ]

-- the next image that is to be laid out is the last one of its block
pub next_image : (log : Log) (k block : ℕ) → k < waiting_count log → get_or (waiting_blocks log) k 0 ≡ block → (page : Page) × (slice_get (waiting_images log) k ≡ Some page) × (last_image (waiting_images log) block ≡ Some page)
next_image log k block lt is = elim (slice_get_cases (waiting_images log) k).1 [
  | inl here ↦
      (let e : here.0.block ≡ block = sym (block_at log k here.0 here.2) ∙ is in
      (here.0, here.2, subst (λ (b : ℕ). last_image (waiting_images log) b ≡ Some here.0) e (last_at (waiting_images log) k here.0 (waits_once log) here.2)))
  | inr past ↦ absurd (omega (arith, lt, past.0, waits_many log))
]

-- a log whose images were laid out, and what a call on it says of the log as it was
module _ (old mid : Log) (w : WaitsAlike old mid) where
  pub end_laid : (n : ℕ) → end_with mid n ≡ end_with old n
  end_laid n = omega (arith, w.end, ap length w.blocks)

  pub laid_moments : (t u : Trace) → RestartsThroughout mid t u → RestartsThroughout old t u
  laid_moments t u moments acts forced k =
      subst (λ (l : Format). AtEachMoment (Restarts l acts forced) t u) w.same.format (moments acts forced (keeps_laid old mid w t.now acts forced k))

  pub laid_outside : (t u : Trace) → ChangesItsRange (format_of mid) t u → ChangesItsRange (format_of old) t u
  laid_outside t u outside = subst (λ (l : Format). ChangesItsRange l t u) w.same.format outside

  pub laid_same : (new : Log) → SameLog mid new → SameLog old new
  laid_same new s = record { format = s.format ∙ w.same.format; actions = s.actions ∙ w.same.actions }
