-- Images in order: their bytes, and which is a block's last.
use Rattle.std.proofs.Common.{◌≡◌, ℕ, ◌+◌, ◌*◌, ◌≤◌, List, [], ◌∷◌, ◌++◌, length, take, drop, Option, Some, None, refl, sym, ◌∙◌, ap, arith, append_assoc, length-append, length-take-le}
use Rattle.std.specs.List.{AllByRecursion}
use Rattle.page_codec.specs.Spelling.{page_bytes}
use Rattle.redo_log.proofs.Imports.{append-nil, drop-take, drop-append-le, Format, Page, length-page, if_of, later_of, last_image, SameImages, images_bytes, images_of, AreImages}

-- no list of no length has elements
pub none : {A : Type 0} (xs : List A) → length xs ≡ 0 → xs ≡ []
none [] e = refl
none (x ∷ xs) e = absurd (omega arith)

pub images_bytes-append : (xs ys : List Page) → images_bytes (xs ++ ys) ≡ images_bytes xs ++ images_bytes ys
images_bytes-append [] ys = refl
images_bytes-append (x ∷ xs) ys = ap (λ (l : List ℕ). page_bytes x ++ l) (images_bytes-append xs ys) ∙ sym (append_assoc (page_bytes x) (images_bytes xs) (images_bytes ys))

pub length-images_bytes : (format : Format) (ps : List Page) → AreImages format ps → length (images_bytes ps) ≡ 4096 * length ps
length-images_bytes format [] are = refl
length-images_bytes format (p ∷ ps) are =
    omega (arith, length-append (page_bytes p) (images_bytes ps), length-page p are.0.page, length-images_bytes format ps are.1)

pub all-append : {A : Type 0} (P : A → Type 0) (xs ys : List A) → AllByRecursion P xs → AllByRecursion P ys → AllByRecursion P (xs ++ ys)
all-append P [] ys a b = b
all-append P (x ∷ xs) ys a b = (a.0, all-append P xs ys a.1 b)

later_assoc : (a b c : Option Page) → later_of a (later_of b c) ≡ later_of (later_of a b) c
later_assoc a b None = refl
later_assoc a b (Some c) = refl

pub last_image-append : (xs ys : List Page) (block : ℕ) → last_image (xs ++ ys) block ≡ later_of (last_image xs block) (last_image ys block)
last_image-append [] ys block = later_none (last_image ys block)
  where
    later_none : (o : Option Page) → o ≡ later_of None o
    later_none None = refl
    later_none (Some p) = refl
last_image-append (x ∷ xs) ys block =
    ap (λ (o : Option Page). later_of (if_of block x) o) (last_image-append xs ys block)
    ∙ later_assoc (if_of block x) (last_image xs block) (last_image ys block)

pub same_refl : (xs : List Page) → SameImages xs xs
same_refl xs = record { each = λ block. refl }

pub same_eq : (xs ys : List Page) → xs ≡ ys → SameImages xs ys
same_eq xs ys e = record { each = λ block. ap (λ (l : List Page). last_image l block) e }

pub same_trans : (xs ys zs : List Page) → SameImages xs ys → SameImages ys zs → SameImages xs zs
same_trans xs ys zs s t = record { each = λ block. s.each block ∙ t.each block }

pub same_append : (xs ys zs : List Page) → SameImages xs ys → SameImages (xs ++ zs) (ys ++ zs)
same_append xs ys zs s = record {
  each = λ block.
      last_image-append xs zs block ∙ (ap (λ (o : Option Page). later_of o (last_image zs block)) (s.each block) ∙ sym (last_image-append ys zs block));
}

pub same_after : (xs ys zs : List Page) → SameImages ys zs → SameImages (xs ++ ys) (xs ++ zs)
same_after xs ys zs s = record {
  each = λ block.
      last_image-append xs ys block ∙ (ap (λ (o : Option Page). later_of (last_image xs block) o) (s.each block) ∙ sym (last_image-append xs zs block));
}

pub images_of-append : (xs ys : List (List Page)) → images_of (xs ++ ys) ≡ images_of xs ++ images_of ys
images_of-append [] ys = refl
images_of-append (x ∷ xs) ys = ap (λ (l : List Page). x ++ l) (images_of-append xs ys) ∙ sym (append_assoc x (images_of xs) (images_of ys))

pub images_of-push : (xs : List (List Page)) (x : List Page) → images_of (xs ++ x ∷ []) ≡ images_of xs ++ x
images_of-push xs x = images_of-append xs (x ∷ []) ∙ ap (λ (l : List Page). images_of xs ++ l) (append-nil x)

-- what stands after the head of a buffer, with more laid after it
pub after_head : (head j k : ℕ) (old new more : List ℕ) → head + j ≤ length old → take (head + j + k) new ≡ take (head + j) old ++ more → take (j + k) (drop head new) ≡ take j (drop head old) ++ more
after_head head j k old new more le laid =
    let e : head + j + k ≡ head + (j + k) = omega arith in
    sym (drop-take head (j + k) new)
    ∙ (ap (λ (n : ℕ). drop head (take n new)) (sym e)
    ∙ (ap (drop head) laid
    ∙ (drop-append-le head (take (head + j) old) more (omega (arith, length-take-le (head + j) old le))
    ∙ ap (λ (l : List ℕ). l ++ more) (drop-take head j old))))
