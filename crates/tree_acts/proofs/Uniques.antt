-- What a unique index tells.
use Rattle.std.proofs.Common.{◌≡◌, ◌≢◌, ℕ, zero, suc, Bool, true, false, List, [], ◌∷◌, length, refl, sym, ◌∙◌}
use Rattle.tree_shape.proofs.KeyCovers.{key_covers}
use Rattle.tree_shape.proofs.KeyPages.{one_of_a_key}
use Rattle.tree_shape.proofs.Reading.{held_covered}
use Rattle.tree_acts.proofs.Imports.{is_among, Entry, AllByRecursion-among, entries_of, Page, IsKeyFree, IsUniqueNode, AreUnique, nodes_of, held_on_its_cover, KeyShows, FreeKeyShows, UniqueShows}
use Rattle.tree_acts.proofs.Meanings.{leaf_shows}
use Rattle.tree_acts.proofs.Words.{contents_held, only_leaves}

-- what is seen at each block is a page of a unique index
pub unique_at : (pages : List Page) → AreUnique pages → (b : ℕ) → IsUniqueNode (nodes_of pages b)
unique_at [] h b = record { high = tt; bounds = tt; keys = tt }
unique_at (p ∷ pages) h zero = h.0
unique_at (p ∷ pages) h (suc b) = unique_at pages h.1 b

pub key_shows : KeyShows
key_shows st e x page h asked found cover same =
    leaf_shows st x page h found (record {
      tree = cover.tree;
      in_tree = cover.in_tree;
      covers = key_covers (nodes_of st.pages) (cover.tree.chain 0) e x page.block (λ b i. (unique_at st.pages (h.unique asked) b).high) (sym same) cover.covers;
    })

-- an entry of a key that none of these has isn't one of them
not_among : (key : List ℕ) (es : List Entry) (x : Entry) → IsKeyFree key es → x.key ≡ key → is_among es x ≡ false
not_among key es x free same = by (is_among es x) refl
  where
    by : (there : Bool) → is_among es x ≡ there → is_among es x ≡ false
    by false is = is
    by true is = absurd (AllByRecursion-among (λ (y : Entry). y.key ≢ key) es x free is same)

pub free_key_shows : FreeKeyShows
free_key_shows st e x page h asked found cover free same =
    key_shows st e x page h asked found cover same ∙ not_among e.key (entries_of page.items) x free same

pub unique_shows : UniqueShows
unique_shows format pages tree stored unique x y on_x on_y same =
    let only = only_leaves format pages stored in
    let held = (contents_held pages x).0 on_x in
    let covers = held_covered (nodes_of pages) (length pages) tree.root tree.meta.level tree.chain x tree.is only held.block held.in_use held.on in
    let covers_y = key_covers (nodes_of pages) (tree.chain 0) x y held.block (λ b i. (unique_at pages unique b).high) same covers in
    let here_x = (held_on_its_cover (nodes_of pages) (length pages) tree.root tree.meta.level tree.chain x held.block tree.is only covers).0 held in
    let here_y = (held_on_its_cover (nodes_of pages) (length pages) tree.root tree.meta.level tree.chain y held.block tree.is only covers_y).0 ((contents_held pages y).0 on_y) in
    one_of_a_key (nodes_of pages held.block).entries x y (unique_at pages unique held.block).keys here_x here_y same
