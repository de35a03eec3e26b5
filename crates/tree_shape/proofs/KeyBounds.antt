-- A bound before all rows of a key has all entries of one key on one side.
use Rattle.std.proofs.Common.{◌≡◌, List, ℕ, refl, sym, ap, ◌∙◌}
use Rattle.tree_shape.proofs.Imports.{is_lt, ordering_then, Less, key_cmp, is_past, Bound, Entry, IsKeyBound, KeyBoundsPartKeys}

-- what it says of an entry, it says of its key
by_key : (b : Bound) (x : Entry) → IsKeyBound b → is_past b x ≡ is_lt (ordering_then (key_cmp b.key x.key) Less)
by_key b x none = rw none refl

pub key_bounds_part_keys : KeyBoundsPartKeys
key_bounds_part_keys b x y none same =
    by_key b x none ∙ ap (λ (k : List ℕ). is_lt (ordering_then (key_cmp b.key k) Less)) same ∙ sym (by_key b y none)
