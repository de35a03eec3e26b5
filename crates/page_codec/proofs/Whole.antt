-- A page's bytes, by their four pieces.
use Rattle.std.proofs.Common.{◌≡◌, ℕ, ◌-◌, ◌+◌, List, ◌++◌, length, drop, replicate, sym, ap, ◌∙◌, append_assoc, arith, length-append}
use Rattle.page_codec.specs.Spelling.{head_bytes, slot_bytes, items_bytes, used_bytes, page_bytes}
use Rattle.page_codec.proofs.Imports.{drop_at, drop-drop, length-drop, length-replicate, IsPage, Begins, size_of, Page}
use Rattle.page_codec.proofs.Again.{slot_widens, length-slot}
use Rattle.page_codec.proofs.PageAgain.{are_items, length-head}
use Rattle.page_codec.proofs.Laws.{length-items, size_fits}
use Rattle.page_codec.proofs.Pieces.{begins_itself, split_at}

-- head, high key, items and the zeros after them
pub record HasPieces (p : Page) (bytes : List ℕ) : Type 0 where
  pub head : Begins (head_bytes p) bytes
  pub slot : Begins (slot_bytes p.high) (drop 36 bytes)
  pub items : Begins (items_bytes p.items) (drop 107 bytes)
  pub zeros : drop (size_of p.items) (drop 107 bytes) ≡ replicate (length (drop (size_of p.items) (drop 107 bytes))) 0

zeros_of : Page → List ℕ
zeros_of p = replicate (4096 - (107 + size_of p.items)) 0

-- the pieces one after the other
pieces : (p : Page) → IsPage p → page_bytes p ≡ head_bytes p ++ (slot_bytes p.high ++ (items_bytes p.items ++ zeros_of p))
unfolding page_bytes used_bytes zeros_of
pieces p h =
    let used : length ((head_bytes p ++ slot_bytes p.high) ++ items_bytes p.items) ≡ 107 + size_of p.items =
    omega (
      arith,
      length-append (head_bytes p ++ slot_bytes p.high) (items_bytes p.items),
      length-append (head_bytes p) (slot_bytes p.high),
      length-head p,
      length-slot p.high (slot_widens p.layout p.high h.high),
      length-items p.items (are_items p p.items h.kind),
    ) in
    ap (λ (n : ℕ). ((head_bytes p ++ slot_bytes p.high) ++ items_bytes p.items) ++ replicate (4096 - n) 0) used
    ∙ append_assoc (head_bytes p ++ slot_bytes p.high) (items_bytes p.items) (zeros_of p)
    ∙ append_assoc (head_bytes p) (slot_bytes p.high) (items_bytes p.items ++ zeros_of p)

-- bytes that have the pieces are the page's
pub has_all : (p : Page) (bytes : List ℕ) → IsPage p → length bytes ≡ 4096 → HasPieces p bytes → bytes ≡ page_bytes p
unfolding zeros_of
has_all p bytes h full has =
    let size = size_of p.items in
    let end : drop size (drop 107 bytes) ≡ zeros_of p =
    has.zeros ∙ ap (λ (n : ℕ). replicate n 0) (length-drop size (drop 107 bytes) ∙ omega (arith, length-drop 107 bytes, size_fits p.items (are_items p p.items h.kind))) in
    let third : drop 107 bytes ≡ items_bytes p.items ++ zeros_of p =
    split_at (items_bytes p.items) (drop 107 bytes) size (length-items p.items (are_items p p.items h.kind)) has.items ∙ ap (λ (x : List ℕ). items_bytes p.items ++ x) end in
    let second : drop 36 bytes ≡ slot_bytes p.high ++ (items_bytes p.items ++ zeros_of p) =
    split_at (slot_bytes p.high) (drop 36 bytes) 71 (length-slot p.high (slot_widens p.layout p.high h.high)) has.slot ∙ ap (λ (x : List ℕ). slot_bytes p.high ++ x) (drop-drop 71 36 bytes ∙ third) in
    split_at (head_bytes p) bytes 36 (length-head p) has.head ∙ ap (λ (x : List ℕ). head_bytes p ++ x) second ∙ sym (pieces p h)

-- a page's bytes have the pieces
page_has : (p : Page) → IsPage p → HasPieces p (head_bytes p ++ (slot_bytes p.high ++ (items_bytes p.items ++ zeros_of p)))
unfolding zeros_of
page_has p h =
    let whole : List ℕ = head_bytes p ++ (slot_bytes p.high ++ (items_bytes p.items ++ zeros_of p)) in
    let size = size_of p.items in
    let at36 : drop 36 whole ≡ slot_bytes p.high ++ (items_bytes p.items ++ zeros_of p) = drop_at (head_bytes p) (slot_bytes p.high ++ (items_bytes p.items ++ zeros_of p)) 36 (length-head p) in
    let at107 : drop 107 whole ≡ items_bytes p.items ++ zeros_of p =
    sym (drop-drop 71 36 whole) ∙ ap (λ (x : List ℕ). drop 71 x) at36 ∙ drop_at (slot_bytes p.high) (items_bytes p.items ++ zeros_of p) 71 (length-slot p.high (slot_widens p.layout p.high h.high)) in
    let end : drop size (drop 107 whole) ≡ zeros_of p =
    ap (λ (x : List ℕ). drop size x) at107 ∙ drop_at (items_bytes p.items) (zeros_of p) size (length-items p.items (are_items p p.items h.kind)) in
    record {
      head = begins_itself (head_bytes p) (slot_bytes p.high ++ (items_bytes p.items ++ zeros_of p));
      slot = rw at36 (begins_itself (slot_bytes p.high) (items_bytes p.items ++ zeros_of p));
      items = rw at107 (begins_itself (items_bytes p.items) (zeros_of p));
      zeros = end ∙ ap (λ (n : ℕ). replicate n 0) (sym (length-replicate {A = ℕ} (4096 - (107 + size)) 0)) ∙ ap (λ (x : List ℕ). replicate (length x) 0) (sym end);
    }

pub has_each : (p : Page) (bytes : List ℕ) → IsPage p → bytes ≡ page_bytes p → HasPieces p bytes
has_each p bytes h e = rw (e, pieces p h) (page_has p h)
