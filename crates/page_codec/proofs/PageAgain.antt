-- The bytes of a page are read as that page.
use Rattle.std.proofs.Common.{◌≡◌, ℕ, ◌-◌, ◌+◌, ◌%◌, ◌<◌, ◌^◌, Bool, true, false, List, ◌++◌, Option, Some, None, length, drop, replicate, refl, sym, ap, subst, ◌∙◌, append_assoc, arith}
use Rattle.std.specs.List.{flat_map, AllByRecursion}
use Rattle.page_codec.specs.Spelling.{layout_digit, bit, bit_of, link_number, kind_byte, count_of, state_byte, slot_bytes, entry_bytes, downlink_bytes, items_bytes, head_bytes, used_bytes, page_bytes}
use Rattle.page_codec.proofs.Fields.{◌>>=◌, slot_at, entry_at, downlink_at, items_at, items_of, layout_at, state_at, link_at, page_at}
use Rattle.page_codec.proofs.Imports.{IfSome, nat_lt, ◌==◌, slice_index, nat_tests, drop_at, drop-drop, little_number, little_number-reads_back, IsEntry, Entry, Bound, Layout, One, Two, AreItems}
use Rattle.page_codec.proofs.Imports.{IsBlock, IsBoundIn, IsPage, IsDownlink, IsLeafIn, IsOfKind, PageState, Live, HalfDead, Deleted, Items, Meta, Entries, Downlinks, Page}
use Rattle.page_codec.proofs.Again.{slot_widens, links_widen, slot_again, entry_again, downlink_again, items_again, length-slot, length-entry, length-downlink}

leaf_entries : (s : PageState) (p : Page) (es : List Entry) → IsLeafIn s p es → AllByRecursion IsEntry es
leaf_entries Live p es h = h.entries.valid
leaf_entries HalfDead p es h = subst (λ (xs : List Entry). AllByRecursion IsEntry xs) (sym h.entries) tt
leaf_entries Deleted p es h = subst (λ (xs : List Entry). AllByRecursion IsEntry xs) (sym h.entries) tt

pub are_items : (p : Page) (items : Items) → IsOfKind p items → AreItems items
are_items p Meta h = tt
are_items p (Entries v) h = (h.count, leaf_entries p.state p v.items h.rest)
are_items p (Downlinks v) h = (h.count, links_widen p.layout v.items h.links.valid)

pub kind_again : (items : Items) (rest : List ℕ) → AreItems items → items_of (kind_byte items) (count_of items) (items_bytes items ++ rest) ≡ Some items
unfolding items_of items_bytes
kind_again Meta rest h = refl
kind_again (Entries v) rest h =
    let some : nat_lt 50 (length v.items) ≡ false = grind (arith, nat_tests, h.0) in
    let read : items_at entry_at 71 (length v.items) (flat_map entry_bytes v.items ++ rest) ≡ Some v.items = items_again entry_at 71 entry_bytes IsEntry length-entry entry_again v.items rest h.1 in
    rw (some, read) refl
kind_again (Downlinks v) rest h =
    let some : nat_lt 50 (length v.items) ≡ false = grind (arith, nat_tests, h.0) in
    let read : items_at downlink_at 75 (length v.items) (flat_map downlink_bytes v.items ++ rest) ≡ Some v.items =
    items_again downlink_at 75 downlink_bytes (IsDownlink Two) length-downlink downlink_again v.items rest h.1 in
    rw (some, read) refl

count_fits : (items : Items) → AreItems items → count_of items < 256 ^ 2
count_fits Meta h = omega arith
count_fits (Entries v) h = omega (arith, h.0)
count_fits (Downlinks v) h = omega (arith, h.0)

layout_again : (l : Layout) → layout_at (layout_digit l) ≡ Some l
layout_again One = refl
layout_again Two = refl

state_again : (s : PageState) → state_at (state_byte s) ≡ Some s
state_again Live = refl
state_again HalfDead = refl
state_again Deleted = refl

flag_again : (split : Bool) (high : Option Bound) → ((bit split + bit_of high) % 2 == 1) ≡ split
flag_again true None = refl
flag_again true (Some b) = refl
flag_again false None = refl
flag_again false (Some b) = refl

link_fits : (o : Option ℕ) → IfSome o IsBlock → link_number o < 256 ^ 4
link_fits None h = omega arith
link_fits (Some n) h = omega (arith, h.1)

link_again : (o : Option ℕ) → IfSome o IsBlock → link_at (link_number o) ≡ o
link_again None h = refl
link_again (Some n) h = let other : (n == 4294967295) ≡ false = grind (arith, nat_tests, h.1) in rw other refl

block_fits : (p : Page) (items : Items) → IsOfKind p items → p.block < 256 ^ 4
block_fits p Meta h = omega (arith, h.block)
block_fits p (Entries v) h = omega (arith, h.block.1)
block_fits p (Downlinks v) h = omega (arith, h.block.1)

pub length-head : (p : Page) → length (head_bytes p) ≡ 36
unfolding head_bytes
length-head p = refl

-- the fields of a page, if its bytes have them
pub record HasFields (p : Page) (bytes : List ℕ) : Type 0 where
  pub layout : slice_index bytes 3 ≡ layout_digit p.layout
  pub block : little_number 4 (drop 4 bytes) ≡ p.block
  pub kind : slice_index bytes 8 ≡ kind_byte p.items
  pub level : slice_index bytes 9 ≡ p.level
  pub state : slice_index bytes 10 ≡ state_byte p.state
  pub split : (slice_index bytes 11 % 2 == 1) ≡ p.split
  pub left : little_number 4 (drop 12 bytes) ≡ link_number p.left
  pub right : little_number 4 (drop 16 bytes) ≡ link_number p.right
  pub cycle : little_number 4 (drop 20 bytes) ≡ p.cycle
  pub deletion : little_number 8 (drop 24 bytes) ≡ p.deletion
  pub count : little_number 2 (drop 32 bytes) ≡ count_of p.items

head_has : (p : Page) (more : List ℕ) → IsPage p → HasFields p (head_bytes p ++ more)
unfolding head_bytes
head_has p more h =
    let whole : List ℕ = head_bytes p ++ more in
    record {
      layout = refl;
      block = little_number-reads_back 4 p.block (drop 8 whole) (block_fits p p.items h.kind);
      kind = refl;
      level = refl;
      state = refl;
      split = flag_again p.split p.high;
      left = little_number-reads_back 4 (link_number p.left) (drop 16 whole) (link_fits p.left h.left);
      right = little_number-reads_back 4 (link_number p.right) (drop 20 whole) (link_fits p.right h.right);
      cycle = little_number-reads_back 4 p.cycle (drop 24 whole) (omega (arith, h.cycle));
      deletion = little_number-reads_back 8 p.deletion (drop 32 whole) (omega (arith, h.deletion));
      count = little_number-reads_back 2 (count_of p.items) (drop 34 whole) (count_fits p.items (are_items p p.items h.kind));
    }

pub has_fields : (p : Page) (bytes : List ℕ) → IsPage p → bytes ≡ page_bytes p → HasFields p bytes
unfolding page_bytes used_bytes
has_fields p bytes h e =
    let zeros : List ℕ = replicate (4096 - length (used_bytes p)) 0 in
    let parts : page_bytes p ≡ head_bytes p ++ (slot_bytes p.high ++ (items_bytes p.items ++ zeros)) = simp append_assoc in
    rw (e, parts) (head_has p (slot_bytes p.high ++ (items_bytes p.items ++ zeros)) h)

pub page_again : (p : Page) → IsPage p → page_at (page_bytes p) ≡ Some p
unfolding page_at page_bytes used_bytes
page_again p h =
    let zeros : List ℕ = replicate (4096 - length (used_bytes p)) 0 in
    let slot : List ℕ = slot_bytes p.high in
    let items : List ℕ = items_bytes p.items in
    let whole : List ℕ = head_bytes p ++ (slot ++ (items ++ zeros)) in
    let parts : page_bytes p ≡ whole = simp append_assoc in
    let are = are_items p p.items h.kind in
    let high : IfSome p.high (IsBoundIn Two) = slot_widens p.layout p.high h.high in
    let has = head_has p (slot ++ (items ++ zeros)) h in
    let at36 : drop 36 whole ≡ slot ++ (items ++ zeros) = drop_at (head_bytes p) (slot ++ (items ++ zeros)) 36 (length-head p) in
    let at107 : drop 107 whole ≡ items ++ zeros = sym (drop-drop 71 36 whole) ∙ ap (λ (x : List ℕ). drop 71 x) at36 ∙ drop_at slot (items ++ zeros) 71 (length-slot p.high high) in
    let e_layout : layout_at (slice_index whole 3) ≡ Some p.layout = ap layout_at has.layout ∙ layout_again p.layout in
    let e_state : state_at (slice_index whole 10) ≡ Some p.state = ap state_at has.state ∙ state_again p.state in
    let e_high : slot_at (drop 36 whole) ≡ Some p.high = ap slot_at at36 ∙ slot_again p.high (items ++ zeros) high in
    let e_items : items_of (slice_index whole 8) (little_number 2 (drop 32 whole)) (drop 107 whole) ≡ Some p.items =
    (λ i. items_of (has.kind i) (has.count i) (at107 i)) ∙ kind_again p.items zeros are in
    let e_left : link_at (little_number 4 (drop 12 whole)) ≡ p.left = ap link_at has.left ∙ link_again p.left h.left in
    let e_right : link_at (little_number 4 (drop 16 whole)) ≡ p.right = ap link_at has.right ∙ link_again p.right h.right in
    ap page_at parts ∙ (λ i. e_layout i >>= λ layout. e_state i >>= λ state. e_high i >>= λ high. e_items i >>= λ its. Some (let x : Page = record {
      layout = layout;
      block = has.block i;
      level = has.level i;
      state = state;
      split = has.split i;
      left = e_left i;
      right = e_right i;
      high = high;
      cycle = has.cycle i;
      deletion = has.deletion i;
      items = its;
    } in x))
