-- One more item at the front.
use Rattle.std.proofs.Common.{◌≡◌, true, List, [], ◌∷◌, Option, Some, None, refl, ap}
use Rattle.std.specs.Ordering.{is_lt}
use Rattle.std.specs.Cmp.Lexicographic.{options_total}
use Rattle.std.specs.declared.cmp.Ordering.{Ordering}
use Rattle.std.specs.declared.cmp.Ordering.TheVariants.{Less, Equal, Greater}
use Rattle.page_codec.proofs.Imports.{IsEntry, IsUpTo, Entry, Bound, Layout, IsDownlink, EntryBefore, LinkBefore, Below, EntryInPlace, LinkInPlace, AreEntries, AreLinks, Downlink}
use Rattle.index_model.proofs.Order.{bounds_total}
use Rattle.index_model.proofs.Ascending.{is_past-falls}

-- an entry less than one that is at most the high key is so too
up_to_before : (high : Option Bound) (e x : Entry) → EntryBefore e x → IsUpTo high x → IsUpTo high e
up_to_before None e x before h = tt
up_to_before (Some b) e x before h = is_past-falls b e x h before

pub no_entries : (high : Option Bound) → AreEntries high []
no_entries high = record { valid = tt; ascends = tt; within = tt }

pub entries_rest : (high : Option Bound) (e : Entry) (es : List Entry) → AreEntries high (e ∷ es) → AreEntries high es
entries_rest high e [] h = no_entries high
entries_rest high e (x ∷ xs) h = record { valid = h.valid.1; ascends = (tt, h.ascends.1.1); within = h.within.1 }

pub entries_more : (high : Option Bound) (e : Entry) (es : List Entry) → IsEntry e → EntryInPlace high e es → AreEntries high es → AreEntries high (e ∷ es)
entries_more high e [] valid place h = record { valid = (valid, tt); ascends = (tt, tt); within = (place, tt) }
entries_more high e (x ∷ xs) valid place h = record {
  valid = (valid, h.valid);
  ascends = (tt, (place, h.ascends.1));
  within = (up_to_before high e x place h.within.0, h.within);
}

lt_is : (o : Ordering) → is_lt o ≡ true → o ≡ Less
lt_is Less e = refl
lt_is Equal e = absurd cc
lt_is Greater e = absurd cc

-- a downlink before one that is below the high key is so too
below_before : (high : Option Bound) (d x : Downlink) → LinkBefore d x → Below high x → Below high d
below_before None d x before h = tt
below_before (Some b) d x before h = ap is_lt ((options_total bounds_total).trans d.bound x.bound (Some b) (lt_is _ before) (lt_is _ h))

pub no_links : (layout : Layout) (high : Option Bound) → AreLinks layout high []
no_links layout high = record { valid = tt; ascends = tt; within = tt }

pub links_rest : (layout : Layout) (high : Option Bound) (d : Downlink) (ds : List Downlink) → AreLinks layout high (d ∷ ds) → AreLinks layout high ds
links_rest layout high d [] h = no_links layout high
links_rest layout high d (x ∷ xs) h = record { valid = h.valid.1; ascends = h.ascends.1; within = h.within.1 }

pub links_more : (layout : Layout) (high : Option Bound) (d : Downlink) (ds : List Downlink) → IsDownlink layout d → LinkInPlace high d ds → AreLinks layout high ds → AreLinks layout high (d ∷ ds)
links_more layout high d [] valid place h = record { valid = (valid, tt); ascends = tt; within = (place, tt) }
links_more layout high d (x ∷ xs) valid place h = record {
  valid = (valid, h.valid);
  ascends = (place, h.ascends);
  within = (below_before high d x place h.within.0, h.within);
}
