-- On a tree whose bounds are places before all rows, one leaf covers all entries of a key.
use Rattle.std.specs.Prelude.{◌≡◌, ℕ, IfSome, List}
use Rattle.index_model.specs.declared.entry.Entry.{Entry}
use Rattle.tree_shape.specs.KeyBounds.{IsKeyBound}
use Rattle.tree_shape.specs.Nodes.{Node}
use Rattle.tree_shape.specs.Chains.{first_context, IsIn}
use Rattle.tree_shape.specs.Walks.{entry_aim, IsCoverOn}

-- each high key on the chain is the place before all rows of a key
abbrev pub HaveKeyBounds : (ℕ → Node) → List ℕ → Type 0
HaveKeyBounds at chain = (b : ℕ) → IsIn b chain → IfSome (at b).high IsKeyBound

-- what covers an entry covers each entry of its key
abbrev pub KeyCovers : Type 0
KeyCovers =
    (at : ℕ → Node) (chain : List ℕ) (x y : Entry) (c : ℕ)
    → HaveKeyBounds at chain → x.key ≡ y.key
    → IsCoverOn at first_context chain (entry_aim x) c → IsCoverOn at first_context chain (entry_aim y) c
