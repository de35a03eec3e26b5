-- Which blocks wait in the log, and what it has no room for.
use Rattle.std.proofs.Common.{◌≡◌, inl, inr, ℕ, ◌+◌, ◌<◌, ◌≤◌, Bool, true, false, List, [], ◌∷◌, ◌++◌, length, refl, sym, ap, ◌∙◌, arith}
use Rattle.redo_log.specs.Blocks.{is_among_blocks, with_blocks, new_count}
use Rattle.page_store.proofs.Imports.{◌==◌, ◌||◌, if◌then◌else◌, Result, Ok, Err, IsErrAnd, list_any, cases_lt, Fault, Stopped, LogFull, Page, with_changed, WaitsOn, Backing, ImagesFit, end_with}
use Rattle.page_store.proofs.Imports.{format_of, waiting_blocks, Log}
use Rattle.redo_log.proofs.BlockLists.{length-with_blocks}

-- to be one of these is one word of logs and of stores
among_any : (blocks : List ℕ) (block : ℕ) → is_among_blocks blocks block ≡ list_any (λ b. b == block) blocks
among_any [] block = refl
among_any (b ∷ blocks) block = ap (λ (rest : Bool). (b == block) || rest) (among_any blocks block)

-- ... and so are the blocks that wait after an act
pub blocks_changed : (blocks : List ℕ) (pages : List Page) → with_blocks blocks pages ≡ with_changed blocks pages
blocks_changed blocks [] = refl
blocks_changed blocks (page ∷ pages) =
    ap (λ (found : Bool). with_blocks (if found then blocks else blocks ++ page.block ∷ []) pages) (among_any blocks page.block)
    ∙ blocks_changed (if list_any (λ b. b == page.block) blocks then blocks else blocks ++ page.block ∷ []) pages

-- if the blocks that don't wait don't fit, they are more than the room
pub no_room : (log : Log) (room : ℕ) (pages : List Page) → (0 < room → end_with log room ≤ (format_of log).log_bytes)
    → 0 < new_count (waiting_blocks log) pages → (ImagesFit log (new_count (waiting_blocks log) pages) → ⊥)
    → length (waiting_blocks log) + room < length (with_changed (waiting_blocks log) pages)
no_room log room pages fits some full =
    let long = length-with_blocks (waiting_blocks log) pages in
    let same = ap length (blocks_changed (waiting_blocks log) pages) in
    elim (cases_lt room (new_count (waiting_blocks log) pages)) [
      | inl more ↦ omega (arith, long, same, more)
      | inr few ↦ (let h = fits (omega (arith, few, some)) in absurd (full (omega (arith, h, few))))
    ]

-- none waits if they are none
pub none_waits : (blocks : List ℕ) → length blocks ≡ 0 → blocks ≡ []
none_waits [] e = refl
none_waits (b ∷ blocks) e = absurd (omega arith)

-- what waits stays, if the log and what is durable do
pub waits_same : (acts : ℕ) (old mid new : Backing) → WaitsOn acts old mid → new.waiting ≡ mid.waiting → new.durable ≡ mid.durable → WaitsOn acts old new
waits_same acts old mid new (inl was) same durable = inl (same ∙ was)
waits_same acts old mid new (inr forced) same durable = inr (same ∙ forced.0, durable ∙ forced.1)

-- a full log isn't stopped
not_both : {T : Type 0} (r : Result T Fault) → r ≡ Err LogFull → r ≡ Err Stopped → ⊥
not_both r full stopped = cc

err_is : {T : Type 0} (r : Result T Fault) (x y : Fault) → r ≡ Err x → r ≡ Err y → x ≡ y
err_is r x y a b = cc

-- what is refused as another call was
pub full_is : {T : Type 0} (r : Result T Fault) (e : Fault) → IsErrAnd r (λ x. x ≡ e) → r ≡ Err LogFull → e ≡ LogFull
full_is (Ok x) e h is = absurd h
full_is (Err y) e h is = sym h ∙ err_is (Err y) y LogFull refl is

pub alive_full : {T : Type 0} (r : Result T Fault) (stopped : Bool) → r ≡ Err LogFull → (stopped ≡ true → r ≡ Err Stopped) → stopped ≡ false
alive_full r true full refuses = absurd (not_both r full (refuses refl))
alive_full r false full refuses = refl
