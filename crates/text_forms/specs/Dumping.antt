-- How pages are printed.
use Rattle.std.specs.Prelude.{ℕ, Bool, true, false, Option, Some, None, List, [], ◌∷◌, ◌++◌, codes, length, flat_map}
use Rattle.std.specs.Fmt.{decimal}
use Rattle.index_model.specs.declared.bound.Bound.{Bound}
use Rattle.index_model.specs.declared.entry.Entry.{Entry}
use Rattle.page_codec.specs.declared.page.Downlink.{Downlink}
use Rattle.page_codec.specs.declared.page.Items.{Items}
use Rattle.page_codec.specs.declared.page.Items.TheVariants.{Meta, Entries, Downlinks}
use Rattle.page_codec.specs.declared.page.Page.{Page}
use Rattle.page_codec.specs.declared.page.PageState.{PageState}
use Rattle.page_codec.specs.declared.page.PageState.TheVariants.{Live, HalfDead, Deleted}
use Rattle.text_forms.specs.Printing.{numbered}
use Rattle.text_forms.specs.Spelling.{entry_text, bound_text, link_text}

-- a high key, or `-`
abbrev pub high_text : Option Bound → List ℕ
high_text None = 45 ∷ []
high_text (Some bound) = bound_text bound

-- the bound of a downlink, or `*` for minus infinity
abbrev pub low_text : Option Bound → List ℕ
low_text None = 42 ∷ []
low_text (Some bound) = bound_text bound

abbrev pub bool_bit : Bool → ℕ
bool_bit false = 0
bool_bit true = 1

-- the lines of the items: two spaces, the item, a newline
abbrev pub entry_line : Entry → List ℕ
entry_line entry = codes "  " ++ (entry_text entry ++ 10 ∷ [])

abbrev pub downlink_line : Downlink → List ℕ
downlink_line link = codes "  " ++ (low_text link.bound ++ (numbered (codes " -> ") link.child ++ 10 ∷ []))

-- the links, the high key and whether the split is incomplete
abbrev pub links_text : Page → List ℕ
links_text p = codes " left=" ++ (link_text p.left ++ (codes " right=" ++ (link_text p.right
    ++ (codes " high=" ++ (high_text p.high ++ numbered (codes " split=") (bool_bit p.split))))))

-- a leaf that is linked to its siblings, with so many entries
abbrev pub linked_leaf_line : List ℕ → Page → ℕ → List ℕ
linked_leaf_line state p count = decimal p.block ++ (codes " leaf " ++ (state ++ (links_text p
    ++ (numbered (codes " cycle=") p.cycle ++ (numbered (codes " n=") count ++ 10 ∷ [])))))

abbrev pub leaf_line : PageState → Page → ℕ → List ℕ
leaf_line Live p count = linked_leaf_line (codes "live") p count
leaf_line HalfDead p count = linked_leaf_line (codes "halfdead") p count
leaf_line Deleted p count = decimal p.block ++ (codes " leaf deleted right=" ++ (link_text p.right
    ++ (numbered (codes " number=") p.deletion ++ 10 ∷ [])))

abbrev pub internal_line : Page → ℕ → List ℕ
internal_line p count = decimal p.block ++ (numbered (codes " internal level=") p.level ++ (links_text p
    ++ (numbered (codes " n=") count ++ 10 ∷ [])))

abbrev pub meta_line : Page → List ℕ
meta_line p = decimal p.block ++ (codes " meta root=" ++ (link_text p.right
    ++ (numbered (codes " level=") p.level ++ 10 ∷ [])))

-- a page with these items: its line, and one for each item
abbrev pub page_lines : Page → Items → List ℕ
page_lines p Meta = meta_line p
page_lines p (Entries entries) = leaf_line p.state p (length entries.items) ++ flat_map entry_line entries.items
page_lines p (Downlinks links) = internal_line p (length links.items) ++ flat_map downlink_line links.items

-- the lines of a page
abbrev pub page_text : Page → List ℕ
page_text p = page_lines p p.items

-- the lines of all pages, in their order
abbrev pub pages_text : List Page → List ℕ
pages_text pages = flat_map page_text pages
