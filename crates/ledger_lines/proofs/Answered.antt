-- The lines of an input that were answered so far, and those that are left.
use Rattle.std.proofs.Common.{◌≡◌, ℕ, List, [], ◌∷◌, ◌++◌, eqb, refl, sym, ap, subst, ◌∙◌, append_assoc, inl, inr}
use Rattle.ledger_lines.specs.Replies.{reply_text}
use Rattle.ledger_lines.proofs.Imports.{◌≢◌, Bool, true, false, cond, Option, Some, None, IfSome, ⊤, Appends-kept, take_through, drop_through, DropsThrough, Keeps, Index, DeviceGhosts, Row}
use Rattle.ledger_lines.proofs.Imports.{Ghosts, Store, lines_of, with_first, Answers, AnswersEach, AnswersFirst, AnswersSome, AreFirst, BeginsAnswer, Dead}

-- ---- the first line of a text

-- a text's first line, which a read up to a newline gives, and the lines after it
record HasFirst (bytes : List ℕ) : Type 0 where
  pub text : List ℕ
  pub first : lines_of (take_through 10 bytes) ≡ text ∷ []
  pub rest : lines_of bytes ≡ text ∷ lines_of (drop_through 10 bytes)

by_cases : (b : Bool) (P : Type 0) → (b ≡ true → P) → (b ≡ false → P) → P
by_cases true P at_true at_false = at_true refl
by_cases false P at_true at_false = at_false refl

-- an empty line
first_empty : (x : ℕ) (xs : List ℕ) → eqb x 10 ≡ true → HasFirst (x ∷ xs)
first_empty x xs is = record {
  text = [];
  first = ap (λ (b : Bool). lines_of (cond b (x ∷ []) (x ∷ take_through 10 xs))) is ∙ ap (λ (b : Bool). cond b ([] ∷ []) (with_first x [])) is;
  rest = ap (λ (b : Bool). cond b ([] ∷ lines_of xs) (with_first x (lines_of xs))) is ∙ sym (ap (λ (b : Bool). [] ∷ lines_of (cond b xs (drop_through 10 xs))) is);
}

-- a last line of one byte
first_last : (x : ℕ) → eqb x 10 ≡ false → HasFirst (x ∷ [])
first_last x is = record {
  text = x ∷ [];
  first = ap (λ (b : Bool). lines_of (cond b (x ∷ []) (x ∷ []))) is ∙ ap (λ (b : Bool). cond b ([] ∷ []) (with_first x [])) is;
  rest = ap (λ (b : Bool). cond b ([] ∷ []) (with_first x [])) is ∙ sym (ap (λ (b : Bool). (x ∷ []) ∷ lines_of (cond b [] [])) is);
}

-- a byte before the first line
first_more : (x : ℕ) (xs : List ℕ) → eqb x 10 ≡ false → HasFirst xs → HasFirst (x ∷ xs)
first_more x xs is h = record {
  text = x ∷ h.text;
  first = ap (λ (b : Bool). lines_of (cond b (x ∷ []) (x ∷ take_through 10 xs))) is
      ∙ ap (λ (b : Bool). cond b ([] ∷ lines_of (take_through 10 xs)) (with_first x (lines_of (take_through 10 xs)))) is
      ∙ ap (with_first x) h.first;
  rest = ap (λ (b : Bool). cond b ([] ∷ lines_of xs) (with_first x (lines_of xs))) is
      ∙ ap (with_first x) h.rest ∙ sym (ap (λ (b : Bool). (x ∷ h.text) ∷ lines_of (cond b xs (drop_through 10 xs))) is);
}

has_first : (x : ℕ) (xs : List ℕ) → HasFirst (x ∷ xs)
has_first x [] = by_cases (eqb x 10) (HasFirst (x ∷ [])) (first_empty x []) (first_last x)
has_first x (y ∷ ys) = by_cases (eqb x 10) (HasFirst (x ∷ y ∷ ys)) (first_empty x (y ∷ ys)) (λ is. first_more x (y ∷ ys) is (has_first y ys))

-- ---- lines before what is left

-- these are the lines before what is left of an input
abbrev pub AreBefore : List (List ℕ) → Option (List ℕ) → Option (List ℕ) → Type 0
AreBefore texts None left = ⊤
AreBefore texts (Some bytes) None = ⊥
AreBefore texts (Some bytes) (Some rest) = lines_of bytes ≡ texts ++ lines_of rest

-- what was read up to a newline has the next of them
before_more : (texts : List (List ℕ)) (text line rest : List ℕ) (a b c : Option (List ℕ)) → AreBefore texts a b
    → IfSome b (λ bytes. line ≡ take_through 10 bytes) → DropsThrough b c 10 → line ≢ [] → lines_of line ≡ text ∷ lines_of rest
    → AreBefore (texts ++ text ∷ []) a c
before_more texts text line rest None b c before took drops some parts = tt
before_more texts text line rest (Some bytes) None c before took drops some parts = absurd before
before_more texts text line rest (Some bytes) (Some []) c before took drops some parts = absurd (some took)
before_more texts text line rest (Some bytes) (Some (x ∷ xs)) c before took drops some parts =
    let h = has_first x xs in
    let left = lines_of (drop_through 10 (x ∷ xs)) in
    let same : h.text ≡ text = cc (h.first, parts, ap lines_of took) in
    subst (AreBefore (texts ++ text ∷ []) (Some bytes)) (sym drops)
    (before ∙ ap (λ (ls : List (List ℕ)). texts ++ ls) (h.rest ∙ ap (λ (t : List ℕ). t ∷ left) same) ∙ sym (append_assoc texts (text ∷ []) left))

-- they are the first ones
first_of : (texts : List (List ℕ)) (input left : Option (List ℕ)) → AreBefore texts input left → AreFirst texts input
first_of texts None left before = tt
first_of texts (Some bytes) None before = absurd before
first_of texts (Some bytes) (Some rest) before = (lines_of rest, before)

-- ---- answers

-- these lines were answered, and this is left of the input
pub record HasAnswered {D : Type 0} (d : DeviceGhosts D) (g : Ghosts (Store D d)) (is_in : Dead → Row → Bool) (input left : Option (List ℕ))
    (old new : Index (Store D d)) (before after : Option (List ℕ)) : Type 0 where
  pub texts : List (List ℕ)
  pub lines : AreBefore texts input left
  pub answers : AnswersEach d g is_in texts old new before after

module _ {D : Type 0} (d : DeviceGhosts D) (g : Ghosts (Store D d)) (is_in : Dead → Row → Bool) where
  -- one more is answered
  each_more : (texts : List (List ℕ)) (text : List ℕ) (old mid new : Index (Store D d)) (a b c : Option (List ℕ))
      → AnswersEach d g is_in texts old mid a b → Answers d g is_in text mid new b c → AnswersEach d g is_in (texts ++ text ∷ []) old new a c
  each_more [] text old mid new a b c none answers =
      (new, c, subst (λ (i : Index (Store D d)). Answers d g is_in text i new a c) none.0 (subst (λ (o : Option (List ℕ)). Answers d g is_in text mid new o c) none.1 answers), (refl, refl))
  each_more (t ∷ texts) text old mid new a b c more answers = (more.0, more.1, more.2, each_more texts text more.0 mid new more.1 b c more.3 answers)

  -- its answer was handed on
  flushed : (text : List ℕ) (old new : Index (Store D d)) (a b c : Option (List ℕ)) → Answers d g is_in text old new a b → Keeps b c → Answers d g is_in text old new a c
  flushed text old new a b c h kept = record {
    reply = h.reply;
    listed = h.listed;
    replies = h.replies;
    printed = Appends-kept h.listed b c (reply_text h.reply ++ 10 ∷ []) h.printed kept;
    durable = h.durable;
    stands = h.stands;
  }

  pub answered_more : (text line rest : List ℕ) (input left then_left : Option (List ℕ)) (old mid new : Index (Store D d)) (a b c e : Option (List ℕ))
      → HasAnswered d g is_in input left old mid a b
      → IfSome left (λ bytes. line ≡ take_through 10 bytes) → DropsThrough left then_left 10 → line ≢ [] → lines_of line ≡ text ∷ lines_of rest
      → Answers d g is_in text mid new b c → Keeps c e → HasAnswered d g is_in input then_left old new a e
  answered_more text line rest input left then_left old mid new a b c e h took drops some parts answers kept = record {
    texts = h.texts ++ text ∷ [];
    lines = before_more h.texts text line rest input left then_left h.lines took drops some parts;
    answers = each_more h.texts text old mid new a b e h.answers (flushed text mid new b c e answers kept);
  }

  -- nothing was done since
  pub answered_some : (input left : Option (List ℕ)) (old new : Index (Store D d)) (a b : Option (List ℕ)) → HasAnswered d g is_in input left old new a b → AnswersFirst d g is_in input old new a b
  answered_some input left old new a b h =
      let some : AnswersSome d g is_in input old new a b = record { texts = h.texts; lines = first_of h.texts input left h.lines; answers = h.answers } in
      inl some

  -- the answer of the next one was begun
  pub answer_begun : (text line rest : List ℕ) (input left then_left : Option (List ℕ)) (old mid new : Index (Store D d)) (a b c : Option (List ℕ))
      → HasAnswered d g is_in input left old mid a b
      → IfSome left (λ bytes. line ≡ take_through 10 bytes) → DropsThrough left then_left 10 → line ≢ [] → lines_of line ≡ text ∷ lines_of rest
      → BeginsAnswer d g is_in text mid new b c → AnswersFirst d g is_in input old new a c
  answer_begun text line rest input left then_left old mid new a b c h took drops some parts begins = inr (record {
    texts = h.texts;
    text = text;
    mid = mid;
    between = b;
    lines = first_of (h.texts ++ text ∷ []) input then_left (before_more h.texts text line rest input left then_left h.lines took drops some parts);
    answers = h.answers;
    begins = begins;
  })
