-- What a crash may have left of a device up to a moment in between, and since it.
use Rattle.std.specs.Prelude.{◌≡◌, ◌⊎◌, ℕ, List, [], ◌∷◌, ◌++◌}
use Rattle.std.proofs.Common.{inl, inr, sym, ap, subst, ◌∙◌, append_assoc}
use Rattle.std.proofs.lemmas.List.{append_cancel_right}
use Rattle.device.specs.Disk.{DiskMoment, Trace, MayCrashTo}
use Rattle.device.specs.Moments.{AtSome, MayHaveCrashedTo}

split : (P : DiskMoment → Type 0) (ms ns : List DiskMoment) → AtSome P (ms ++ ns)
    → AtSome P ms ⊎ AtSome P ns
split P [] ns some = inr some
split P (m ∷ ms) ns (inl p) = inl (inl p)
split P (m ∷ ms) ns (inr some) = elim (split P ms ns some) [
  | inl late ↦ inl (inr late)
  | inr early ↦ inr early
]

front : (P : DiskMoment → Type 0) (ms ns : List DiskMoment) → AtSome P ms → AtSome P (ms ++ ns)
front P [] ns some = elim some [ ]
front P (m ∷ ms) ns (inl p) = inl p
front P (m ∷ ms) ns (inr some) = inr (front P ms ns some)

later : (P : DiskMoment → Type 0) (ms ns : List DiskMoment) → AtSome P ns → AtSome P (ms ++ ns)
later P [] ns some = some
later P (m ∷ ms) ns some = inr (later P ms ns some)

-- the newest moment is the first of all since an earlier one
newest : (P : DiskMoment → Type 0) (first second : Trace) (early : List DiskMoment)
    → second.now ∷ second.past ≡ early ++ first.now ∷ first.past → P second.now
    → AtSome P (early ++ first.now ∷ [])
newest P first second [] is p = let e : second.now ≡ first.now = cc in inl (subst P e p)
newest P first second (m ∷ ms) is p = let e : second.now ≡ m = cc in inl (subst P e p)

-- a device came from the first to the second by the early moments, and from there to the third by the late
-- ones
module _ (first second third : Trace) (image : List ℕ) (early late : List DiskMoment)
    (to_second : second.now ∷ second.past ≡ early ++ first.now ∷ first.past)
    (to_third : third.now ∷ third.past ≡ late ++ second.now ∷ second.past) where
  may : DiskMoment → Type 0
  may m = MayCrashTo m image

  to_end : third.now ∷ third.past ≡ (late ++ early) ++ first.now ∷ first.past
  to_end = to_third ∙ (ap (λ (l : List DiskMoment). late ++ l) to_second ∙ sym (append_assoc late early (first.now ∷ first.past)))

  whole : AtSome may (late ++ (early ++ first.now ∷ [])) → MayHaveCrashedTo first third image
  unfolding may
  whole some = record { since = late ++ early; is = to_end; left = subst (AtSome may) (sym (append_assoc late early (first.now ∷ []))) some }

  -- what was left since the first, was left up to the second, or since that one
  pub left_between : MayHaveCrashedTo first third image
      → MayHaveCrashedTo first second image ⊎ MayHaveCrashedTo second third image
  unfolding may
  left_between h =
      let all : h.since ≡ late ++ early = append_cancel_right h.since (late ++ early) (first.now ∷ first.past) (sym h.is ∙ to_end) in
      let some = subst (AtSome may) (ap (λ (l : List DiskMoment). l ++ first.now ∷ []) all ∙ append_assoc late early (first.now ∷ [])) h.left in
      elim (split may late (early ++ first.now ∷ []) some) [
        | inl since ↦ inr (record { since = late; is = to_third; left = front may late (second.now ∷ []) since })
        | inr before ↦ inl (record { since = early; is = to_second; left = before })
      ]

  -- what was left of a part, was left of the whole
  pub left_early : MayHaveCrashedTo first second image → MayHaveCrashedTo first third image
  unfolding may
  left_early h =
      let all : h.since ≡ early =
      append_cancel_right h.since early (first.now ∷ first.past) (sym h.is ∙ to_second) in
      whole (later may late (early ++ first.now ∷ []) (subst (λ (l : List DiskMoment). AtSome may (l ++ first.now ∷ [])) all h.left))

  pub left_late : MayHaveCrashedTo second third image → MayHaveCrashedTo first third image
  unfolding may
  left_late h =
      let all : h.since ≡ late =
      append_cancel_right h.since late (second.now ∷ second.past) (sym h.is ∙ to_third) in
      elim (split may late (second.now ∷ []) (subst (λ (l : List DiskMoment). AtSome may (l ++ second.now ∷ [])) all h.left)) [
        | inl since ↦ whole (front may late (early ++ first.now ∷ []) since)
        | inr (inl here) ↦ whole (later may late (early ++ first.now ∷ []) (newest may first second early to_second here))
        | inr (inr none) ↦ elim none [ ]
      ]
