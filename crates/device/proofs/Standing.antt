-- What a write and a sync do to bytes at a place.
use Rattle.std.proofs.Common.{◌≡◌, ◌⊎◌, inl, inr, ℕ, suc, ◌+◌, ◌-◌, ◌<◌, ◌≤◌, false, List, [], ◌∷◌, ◌++◌, length, get_or, drop, refl, sym, ◌∙◌, ap, arith, rules, length-append}
use Rattle.std.proofs.lemmas.Bool.{cases_lt}
use Rattle.std.proofs.lemmas.List.{places, drop_more, get_or-append-add, get_or_append_left}
use Rattle.std.proofs.lemmas.Bool.Decides.{nat_tests}
use Rattle.device.specs.Disk.{DiskMoment, MayCrashTo, put, is_in, wrote, synced}
use Rattle.device.specs.Places.{Has, OnDisk, ChangesOnly, IsUntouched}

pub length-put : (file : List ℕ) (at : ℕ) (bytes : List ℕ) → at + length bytes ≤ length file → length (put file at bytes) ≡ length file
length-put file at bytes fits = search (rules, places)

pub put_inside : (file : List ℕ) (at : ℕ) (bytes : List ℕ) (i : ℕ) → at + length bytes ≤ length file → i < length bytes → get_or (put file at bytes) (at + i) 0 ≡ get_or bytes i 0
put_inside file at bytes i fits lt = grind (arith, places)

pub put_outside : (file : List ℕ) (at : ℕ) (bytes : List ℕ) (i : ℕ) → at + length bytes ≤ length file → (i < at) ⊎ (at + length bytes ≤ i) → get_or (put file at bytes) i 0 ≡ get_or file i 0
put_outside file at bytes i fits (inl below) = grind (arith, places)
put_outside file at bytes i fits (inr above) = grind (arith, places)

pub is_out : (at n i : ℕ) → (i < at) ⊎ (at + n ≤ i) → is_in at n i ≡ false
is_out at n i (inl below) = grind (arith, nat_tests)
is_out at n i (inr above) = grind (arith, nat_tests)

pub wrote_only : (at : ℕ) (bytes : List ℕ) (m : DiskMoment) → at + length bytes ≤ length m.seen → ChangesOnly at (length bytes) m (wrote at bytes m)
wrote_only at bytes m fits = record {
  same_length = length-put m.seen at bytes fits;
  seen = λ i out. put_outside m.seen at bytes i fits out;
  loose = λ i out firm. let outside = is_out at (length bytes) i out in rw firm (rw outside refl);
}

pub synced_only : (at n : ℕ) (m : DiskMoment) → ChangesOnly at n m (synced m)
synced_only at n m = record { same_length = refl; seen = λ i out. refl; loose = λ i out firm. refl }

pub same_only : (at n : ℕ) (m : DiskMoment) → ChangesOnly at n m m
same_only at n m = record { same_length = refl; seen = λ i out. refl; loose = λ i out firm. firm }

pub only_more : (at n : ℕ) (a b c : DiskMoment) → ChangesOnly at n a b → ChangesOnly at n b c → ChangesOnly at n a c
only_more at n a b c f g = record {
  same_length = g.same_length ∙ f.same_length;
  seen = λ i out. g.seen i out ∙ f.seen i out;
  loose = λ i out firm. g.loose i out (f.loose i out firm);
}

wider_out : (at n start size i : ℕ) → start ≤ at → at + n ≤ start + size → (i < start) ⊎ (start + size ≤ i) → (i < at) ⊎ (at + n ≤ i)
wider_out at n start size i lo hi (inl below) = inl (omega arith)
wider_out at n start size i lo hi (inr above) = inr (omega arith)

pub only_wider : (at n start size : ℕ) (a b : DiskMoment) → start ≤ at → at + n ≤ start + size → ChangesOnly at n a b → ChangesOnly start size a b
only_wider at n start size a b lo hi f = record {
  same_length = f.same_length;
  seen = λ i out. f.seen i (wider_out at n start size i lo hi out);
  loose = λ i out firm. f.loose i (wider_out at n start size i lo hi out) firm;
}

apart : (at n a k i : ℕ) → i < n → (at + n ≤ a) ⊎ (a + k ≤ at) → (at + i < a) ⊎ (a + k ≤ at + i)
apart at n a k i lt (inl below) = inl (omega arith)
apart at n a k i lt (inr above) = inr (omega arith)

-- what stands elsewhere still does
pub has_kept : (a k at : ℕ) (q : List ℕ) (old new : DiskMoment) → ChangesOnly a k old new → (at + length q ≤ a) ⊎ (a + k ≤ at) → Has at q old.seen → Has at q new.seen
has_kept a k at q old new f out h = record {
  within = omega (arith, h.within, f.same_length);
  each = λ i lt. f.seen (at + i) (apart at (length q) a k i lt out) ∙ h.each i lt;
}

pub kept : (a k at : ℕ) (q : List ℕ) (old new : DiskMoment) → ChangesOnly a k old new → (at + length q ≤ a) ⊎ (a + k ≤ at) → OnDisk at q old → OnDisk at q new
kept a k at q old new f out h = record {
  has = has_kept a k at q old new f out h.has;
  firm = λ i lt. f.loose (at + i) (apart at (length q) a k i lt out) (h.firm i lt);
}

out_of_range : (at n start size i : ℕ) → start ≤ i → i < start + size → (start + size ≤ at) ⊎ (at + n ≤ start) → (i < at) ⊎ (at + n ≤ i)
out_of_range at n start size i from to (inl above) = inl (omega arith)
out_of_range at n start size i from to (inr below) = inr (omega arith)

-- what changes only elsewhere leaves a range untouched
pub elsewhere_untouched : (at n start size : ℕ) (a b : DiskMoment) → ChangesOnly at n a b → (start + size ≤ at) ⊎ (at + n ≤ start) → IsUntouched start size a b
elsewhere_untouched at n start size a b f out = record {
  same_length = f.same_length;
  seen = λ i from to. f.seen i (out_of_range at n start size i from to out);
  loose = λ i from to. f.loose i (out_of_range at n start size i from to out);
}

-- and what stands in it still does
pub untouched_on : (start size at : ℕ) (q : List ℕ) (a b : DiskMoment) → IsUntouched start size a b → start ≤ at → at + length q ≤ start + size → OnDisk at q a → OnDisk at q b
untouched_on start size at q a b f lo hi h = record {
  has = record {
    within = omega (arith, h.has.within, f.same_length);
    each = λ i lt. f.seen (at + i) (omega arith) (omega arith) ∙ h.has.each i lt;
  };
  firm = λ i lt. f.loose (at + i) (omega arith) (omega arith) (h.firm i lt);
}

pub wrote_has : (at : ℕ) (bytes : List ℕ) (m : DiskMoment) → at + length bytes ≤ length m.seen → Has at bytes (wrote at bytes m).seen
wrote_has at bytes m fits = record {
  within = omega (arith, length-put m.seen at bytes fits, fits);
  each = λ i lt. put_inside m.seen at bytes i fits lt;
}

pub synced_on : (at : ℕ) (q : List ℕ) (m : DiskMoment) → Has at q m.seen → OnDisk at q (synced m)
synced_on at q m h = record { has = h; firm = λ i lt. refl }

-- what is read is one of the images that a crash may leave
pub seen_stays : (m : DiskMoment) → MayCrashTo m m.seen
seen_stays m = record { same_length = refl; same = λ i firm. refl }

-- what stands on the disk is there after a crash
pub on_image : (at : ℕ) (q : List ℕ) (m : DiskMoment) (c : List ℕ) → OnDisk at q m → MayCrashTo m c → Has at q c
on_image at q m c h left = record {
  within = omega (arith, h.has.within, left.same_length);
  each = λ i lt. left.same (at + i) (h.firm i lt) ∙ h.has.each i lt;
}

-- two pieces, one after the other
pub has_front : (at : ℕ) (p q file : List ℕ) → Has at (p ++ q) file → Has at p file
has_front at p q file h = record {
  within = omega (arith, h.within, length-append p q);
  each = λ i lt. h.each i (omega (arith, length-append p q)) ∙ get_or_append_left p q 0 i lt;
}

pub has_back : (at : ℕ) (p q file : List ℕ) → Has at (p ++ q) file → Has (at + length p) q file
has_back at p q file h = record {
  within = omega (arith, h.within, length-append p q);
  each = λ i lt.
      let e : at + length p + i ≡ at + (length p + i) = omega arith in
      ap (λ (k : ℕ). get_or file k 0) e ∙ h.each (length p + i) (omega (arith, length-append p q)) ∙ get_or-append-add p q i 0;
}

pub has_both : (at : ℕ) (p q file : List ℕ) → Has at p file → Has (at + length p) q file → Has at (p ++ q) file
has_both at p q file h k = record {
  within = omega (arith, k.within, length-append p q);
  each = λ i lt. elim (cases_lt i (length p)) [
    | inl below ↦ h.each i below ∙ sym (get_or_append_left p q 0 i below)
    | inr above ↦
        let e : at + i ≡ at + length p + (i - length p) = omega arith in
        let f : i ≡ length p + (i - length p) = omega arith in
        ap (λ (k : ℕ). get_or file k 0) e ∙ k.each (i - length p) (omega (arith, length-append p q)) ∙ sym (get_or-append-add p q (i - length p) 0) ∙ ap (λ (k : ℕ). get_or (p ++ q) k 0) (sym f)
  ];
}

pub on_front : (at : ℕ) (p q : List ℕ) (m : DiskMoment) → OnDisk at (p ++ q) m → OnDisk at p m
on_front at p q m h = record { has = has_front at p q m.seen h.has; firm = λ i lt. h.firm i (omega (arith, length-append p q)) }

pub on_back : (at : ℕ) (p q : List ℕ) (m : DiskMoment) → OnDisk at (p ++ q) m → OnDisk (at + length p) q m
on_back at p q m h = record {
  has = has_back at p q m.seen h.has;
  firm = λ i lt.
      let e : at + length p + i ≡ at + (length p + i) = omega arith in
      ap m.loose e ∙ h.firm (length p + i) (omega (arith, length-append p q));
}

-- the file after a place where it has these bytes
pub has_drop : (at : ℕ) (q file : List ℕ) → Has at q file → drop at file ≡ q ++ drop (at + length q) file
has_drop at [] file h = let e : at + 0 ≡ at = omega arith in sym (ap (λ (k : ℕ). drop k file) e)
has_drop at (x ∷ q) file h =
    let first : get_or file at 0 ≡ x = (let e : at + 0 ≡ at = omega arith in sym (ap (λ (k : ℕ). get_or file k 0) e) ∙ h.each 0 (omega arith)) in
    let rest : Has (at + 1) q file = record {
      within = omega (arith, h.within);
      each = λ i lt. (let e : at + 1 + i ≡ at + suc i = omega arith in ap (λ (k : ℕ). get_or file k 0) e ∙ h.each (suc i) (omega arith));
    } in
    let e : at + 1 + length q ≡ at + suc (length q) = omega arith in
    drop_more file at 0 (omega (arith, h.within))
    ∙ ap (λ (y : ℕ). y ∷ drop (at + 1) file) first
    ∙ ap (λ (l : List ℕ). x ∷ l) (has_drop (at + 1) q file rest ∙ ap (λ (k : ℕ). q ++ drop k file) e)

pub on_both : (at : ℕ) (p q : List ℕ) (m : DiskMoment) → OnDisk at p m → OnDisk (at + length p) q m → OnDisk at (p ++ q) m
on_both at p q m h k = record {
  has = has_both at p q m.seen h.has k.has;
  firm = λ i lt. elim (cases_lt i (length p)) [
    | inl below ↦ h.firm i below
    | inr above ↦
        let e : at + i ≡ at + length p + (i - length p) = omega arith in
        ap m.loose e ∙ k.firm (i - length p) (omega (arith, length-append p q))
  ];
}
