-- What a crash leaves of a log, before and while a group is published, and while the log is closed.
use Rattle.std.proofs.Common.{◌≡◌, ◌≢◌, ◌⊎◌, inl, inr, ℕ, zero, suc, ◌+◌, ◌-◌, ◌*◌, ◌<◌, ◌≤◌, List, [], ◌∷◌, ◌++◌, length, take, drop, get_or, refl, sym, ◌∙◌, ap, subst, arith, append_assoc, length-append}
use Rattle.redo_log.proofs.Imports.{cases_eq, append-nil, w32, to_le_bytes, DiskMoment, MayCrashTo, Has, OnDisk, ChangesOnly, kept, synced, synced_on, on_image, on_front, on_back, on_both, has_both, has_drop}
use Rattle.redo_log.proofs.Imports.{Format, Page, images_bytes, AreGroups, IsGroup, spelled_groups, body, SpellsGroups, IsSettled}
use Rattle.redo_log.proofs.ImageLists.{length-images_bytes, all-append}

length_number : (n : ℕ) → length (to_le_bytes w32 n) ≡ 4
length_number n = refl

pub length_body : (format : Format) (g : List Page) → IsGroup format g → length (body g) ≡ 4 + 4096 * length g
length_body format g is = omega (arith, length-append (to_le_bytes w32 (length g)) (images_bytes g), length-images_bytes format g is.images, length_number (length g))

-- a range that begins so
range_is : (start size : ℕ) (q c : List ℕ) → Has start q c → length q ≤ size → take size (drop start c) ≡ q ++ take (size - length q) (drop (start + length q) c)
range_is start size q c h le = ap (λ (l : List ℕ). take size l) (has_drop start q c h) ∙ take_past q (drop (start + length q) c) size le
  where
    take_past : (xs ys : List ℕ) (n : ℕ) → length xs ≤ n → take n (xs ++ ys) ≡ xs ++ take (n - length xs) ys
    take_past [] ys n le = let e : n ≡ n - 0 = omega arith in ap (λ (k : ℕ). take k ys) e
    take_past (x ∷ xs) ys zero le = absurd (omega arith)
    take_past (x ∷ xs) ys (suc n) le =
        let e : n - length xs ≡ suc n - suc (length xs) = omega arith in
        ap (λ (l : List ℕ). x ∷ l) (take_past xs ys n (omega arith) ∙ ap (λ (k : ℕ). xs ++ take k ys) e)

-- open groups and a gate that isn't open
pub shut_stands : (format : Format) (start size : ℕ) (gs : List (List Page)) (gate : ℕ) (c : List ℕ) → AreGroups format gs → gate ≢ 1
    → length (spelled_groups gs) + 1 ≤ size → Has start (spelled_groups gs ++ gate ∷ []) c
    → SpellsGroups format (take size (drop start c)) gs
shut_stands format start size gs gate c good shut fits h =
    let q = spelled_groups gs ++ gate ∷ [] in
    let rest = take (size - length q) (drop (start + length q) c) in
    record {
      good = good;
      gate = gate;
      closed = shut;
      rest = rest;
      is = range_is start size q c h (omega (arith, length-append (spelled_groups gs) (gate ∷ []))) ∙ append_assoc (spelled_groups gs) (gate ∷ []) rest;
    }

pub spelled-push : (gs : List (List Page)) (g : List Page) (rest : List ℕ) → spelled_groups (gs ++ g ∷ []) ++ rest ≡ spelled_groups gs ++ (1 ∷ (body g ++ rest))
spelled-push [] g rest = ap (λ (l : List ℕ). 1 ∷ (l ++ rest)) (append-nil (body g))
spelled-push (h ∷ gs) g rest =
    append_assoc (1 ∷ body h) (spelled_groups (gs ++ g ∷ [])) rest
    ∙ (ap (λ (l : List ℕ). (1 ∷ body h) ++ l) (spelled-push gs g rest) ∙ sym (append_assoc (1 ∷ body h) (spelled_groups gs) (1 ∷ (body g ++ rest))))

-- one byte at a place, whatever it is
some_byte : (at : ℕ) (c : List ℕ) → at < length c → Has at (get_or c at 0 ∷ []) c
some_byte at c lt = record { within = omega arith; each = λ i below. one i below }
  where
    one : (i : ℕ) → i < 1 → get_or c (at + i) 0 ≡ get_or (get_or c at 0 ∷ []) i 0
    one zero below = (let e : at + 0 ≡ at = omega arith in ap (λ (k : ℕ). get_or c k 0) e)
    one (suc i) below = absurd (omega arith)

-- the groups stand on the disk, and after them a gate that is closed
module _ (format : Format) (start size at : ℕ) (gs : List (List Page)) (m : DiskMoment) (s : IsSettled format start at gs m) (fits : at + 1 ≤ size) where
  pub settled_leaves : (c : List ℕ) → MayCrashTo m c → SpellsGroups format (take size (drop start c)) gs
  settled_leaves c left = shut_stands format start size gs s.gate c s.good s.closed (omega (arith, s.end)) (on_image start _ m c s.on_disk left)

  pub settled_front : OnDisk start (spelled_groups gs) m
  settled_front = on_front start (spelled_groups gs) (s.gate ∷ []) m s.on_disk

  -- whatever is written after the gate
  pub settled_after : (n : ℕ) (m' : DiskMoment) → ChangesOnly (start + at + 1) n m m' → IsSettled format start at gs m'
  settled_after n m' only = record {
    good = s.good;
    end = s.end;
    gate = s.gate;
    closed = s.closed;
    on_disk = kept (start + at + 1) n start (spelled_groups gs ++ s.gate ∷ []) m m' only (inl (omega (arith, length-append (spelled_groups gs) (s.gate ∷ []), s.end))) s.on_disk;
  }

  -- and once it is synced
  pub settled_synced : IsSettled format start at gs (synced m)
  settled_synced = record {
    good = s.good;
    end = s.end;
    gate = s.gate;
    closed = s.closed;
    on_disk = synced_on start (spelled_groups gs ++ s.gate ∷ []) m s.on_disk.has;
  }

-- the groups, and one more after a gate
module _ (format : Format) (start size at : ℕ) (gs : List (List Page)) (good : AreGroups format gs) (end : at ≡ length (spelled_groups gs))
    (g : List Page) (is : IsGroup format g) (room : at + (6 + 4096 * length g) ≤ size) where
  abbrev piece : List ℕ
  piece = body g ++ 0 ∷ []

  pub length_piece : length piece ≡ 5 + 4096 * length g
  length_piece = omega (arith, length-append (body g) (0 ∷ []), length_body format g is)

  end_is : start + at ≡ start + length (spelled_groups gs)
  end_is = omega (arith, end)

  -- the groups with this gate after them, whatever it is
  with_gate : (x : ℕ) (c : List ℕ) → Has start (spelled_groups gs) c → Has (start + at) (x ∷ []) c → Has start (spelled_groups gs ++ x ∷ []) c
  with_gate x c front gate = has_both start (spelled_groups gs) (x ∷ []) c front (subst (λ (n : ℕ). Has n (x ∷ []) c) end_is gate)

  with_piece : (x : ℕ) (c : List ℕ) → Has start (spelled_groups gs) c → Has (start + at) (x ∷ []) c → Has (start + at + 1) piece c → Has start (spelled_groups gs ++ (x ∷ piece)) c
  with_piece x c front gate back =
      has_both start (spelled_groups gs) (x ∷ piece) c front
      (subst (λ (n : ℕ). Has n (x ∷ piece) c) end_is (has_both (start + at) (x ∷ []) piece c gate back))

  pushed : spelled_groups gs ++ (1 ∷ piece) ≡ spelled_groups (gs ++ g ∷ []) ++ 0 ∷ []
  pushed = sym (spelled-push gs g (0 ∷ []))

  length_pushed : length (spelled_groups (gs ++ g ∷ [])) ≡ at + (5 + 4096 * length g)
  length_pushed = omega (arith, ap length pushed, length-append (spelled_groups gs) (1 ∷ piece), length-append (spelled_groups (gs ++ g ∷ [])) (0 ∷ []), length_piece, end)

  good_pushed : AreGroups format (gs ++ g ∷ [])
  good_pushed = all-append (IsGroup format) gs (g ∷ []) good (is, tt)

  -- if the group stands, a crash lets it in or not
  pub lets_in : (n : DiskMoment) → OnDisk start (spelled_groups gs) n → OnDisk (start + at + 1) piece n → (c : List ℕ) → MayCrashTo n c
      → SpellsGroups format (take size (drop start c)) gs ⊎ SpellsGroups format (take size (drop start c)) (gs ++ g ∷ [])
  lets_in n on_gs on_piece c left =
      let front : Has start (spelled_groups gs) c = on_image start (spelled_groups gs) n c on_gs left in
      let back : Has (start + at + 1) piece c = on_image (start + at + 1) piece n c on_piece left in
      let x = get_or c (start + at) 0 in
      let gate : Has (start + at) (x ∷ []) c = some_byte (start + at) c (omega (arith, back.within)) in
      elim (cases_eq x 1) [
        | inl is_open ↦ inr (
            shut_stands format start size (gs ++ g ∷ []) 0 c good_pushed (λ (e : 0 ≡ 1). absurd (omega arith)) (omega (arith, length_pushed, room))
            (subst (λ (l : List ℕ). Has start l c) (ap (λ (y : ℕ). spelled_groups gs ++ (y ∷ piece)) is_open ∙ pushed) (with_piece x c front gate back)))
        | inr shut ↦ inl (shut_stands format start size gs x c good shut (omega (arith, end)) (with_gate x c front gate))
      ]

  -- and it is one of them once its gate stands open
  pub let_in : (n : DiskMoment) → OnDisk start (spelled_groups gs) n → OnDisk (start + at) (1 ∷ []) n → OnDisk (start + at + 1) piece n
      → IsSettled format start (at + (5 + 4096 * length g)) (gs ++ g ∷ []) n
  let_in n front gate back = record {
    good = good_pushed;
    end = sym length_pushed;
    gate = 0;
    closed = λ (e : 0 ≡ 1). absurd (omega arith);
    on_disk = subst (λ (l : List ℕ). OnDisk start l n) pushed (on_both start (spelled_groups gs) (1 ∷ piece) n front
        (subst (λ (k : ℕ). OnDisk k (1 ∷ piece) n) end_is (on_both (start + at) (1 ∷ []) piece n gate back)));
  }

  -- and not, once it stands closed
  pub shut_out : (n : DiskMoment) → OnDisk start (spelled_groups gs) n → OnDisk (start + at) (0 ∷ []) n → IsSettled format start at gs n
  shut_out n front gate = record {
    good = good;
    end = end;
    gate = 0;
    closed = λ (e : 0 ≡ 1). absurd (omega arith);
    on_disk = on_both start (spelled_groups gs) (0 ∷ []) n front (subst (λ (k : ℕ). OnDisk k (0 ∷ []) n) end_is gate);
  }

-- while the first gate is closed, a crash leaves what there was or nothing
pub resetting : (format : Format) (start size : ℕ) (gs : List (List Page)) (gate : ℕ) (m n : DiskMoment) → AreGroups format gs → gate ≢ 1
    → OnDisk start (spelled_groups gs ++ gate ∷ []) m → 0 < length (spelled_groups gs) → length (spelled_groups gs) + 1 ≤ size
    → ChangesOnly start 1 m n → (c : List ℕ) → MayCrashTo n c → SpellsGroups format (take size (drop start c)) gs ⊎ SpellsGroups format (take size (drop start c)) []
resetting format start size [] gate m n good shut on some fits only c left = absurd (omega arith)
resetting format start size (g ∷ gs) gate m n good shut on some fits only c left =
    let rest = body g ++ spelled_groups gs ++ gate ∷ [] in
    let after : OnDisk (start + 1) rest n = kept start 1 (start + 1) rest m n only (inr (omega arith)) (on_back start (1 ∷ []) rest m on) in
    let back : Has (start + 1) rest c = on_image (start + 1) rest n c after left in
    let x = get_or c start 0 in
    let first : Has start (x ∷ []) c = some_byte start c (omega (arith, back.within)) in
    elim (cases_eq x 1) [
      | inl is_open ↦ inl (shut_stands format start size (g ∷ gs) gate c good shut fits (subst (λ (y : ℕ). Has start (y ∷ rest) c) is_open (has_both start (x ∷ []) rest c first back)))
      | inr closed ↦ inr (shut_stands format start size [] x c tt closed (omega (arith, fits)) first)
    ]
