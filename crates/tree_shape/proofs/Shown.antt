-- What a page tells a call, as the laws say it.
use Rattle.std.proofs.Common.{◌≡◌, ℕ, suc, inl, inr, true, List, [], ◌∷◌, ◌++◌, None, is_some, refl, sym, ap, subst, ◌∙◌, arith}
use Rattle.tree_shape.specs.Chains.{IsRunOf, context_after, first_context, IsIn, IsRootLevel, downlinks, due_links, AreDistinct}
use Rattle.tree_shape.specs.Walks.{is_fit}
use Rattle.tree_shape.specs.Laws.{ChainsAreShown, RootIsAPlace, PlacesGoRight, PlacesCover, LivePlacesStand, PlacesKeepTheirLevel, CoversLeadDown, PlacesLeadOn, CoverIsOne, HeldOnItsCover, FrontierCovers, IncompleteSplitHasItsLink, SeparatorFits, OnlyTheRootIsClear, HasItsHalf, IncompleteSplitHasItsHalf, PlacesStay}
use Rattle.tree_shape.proofs.Runs.{run_back, SplitAt, split_at}
use Rattle.tree_shape.proofs.Members.{in_append_right}
use Rattle.tree_shape.proofs.Chains.{chain_unique}
use Rattle.tree_shape.proofs.Clear.{IsIncomplete, incomplete_alive, new_alive}
use Rattle.tree_shape.proofs.Descent.{descend}
use Rattle.tree_shape.proofs.Locate.{low_split}
use Rattle.tree_shape.proofs.Fits.{root_from_fit, fit_aimed, fit_beyond, fit_clear, fit_eased}
use Rattle.tree_shape.proofs.Parents.{incomplete_at, has_link, added_within, separator_fits}
use Rattle.tree_shape.proofs.Places.{fit_at, cover_at}
use Rattle.tree_shape.proofs.Reading.{root_fits, goes_right, place_covers, on_chain_alive, place_level, held_on_cover, frontier_covers}
use Rattle.tree_shape.proofs.Walks.{place_stays, place_leads, cover_unique}
use Rattle.tree_shape.proofs.Imports.{false≢true, same_Some}

pub chains_are_shown : ChainsAreShown
chains_are_shown = chain_unique

pub root_is_a_place : RootIsAPlace
root_is_a_place = root_fits

pub places_go_right : PlacesGoRight
places_go_right at number used root top chain level start aim clear b tree in_top place passed =
    goes_right at number level (chain level) start aim clear b (tree.runs level in_top) place passed

pub places_cover : PlacesCover
places_cover = place_covers

pub live_places_stand : LivePlacesStand
live_places_stand = on_chain_alive

pub places_keep_their_level : PlacesKeepTheirLevel
places_keep_their_level at number used root top chain level start fit b tree in_top place = place_level at number level (chain level) start fit b (tree.runs level in_top) place

pub covers_lead_down : CoversLeadDown
unfolding low_split
covers_lead_down at used root top chain level q aim clear tree in_top covers [] bound child after links beyond =
    let c = cover_at at first_context (chain (suc level)) aim q covers in
    descend at used root top chain tree level in_top c.front q c.back c.is [] bound child after links aim (is_fit aim clear) (fit_aimed aim clear) c.beyond
covers_lead_down at used root top chain level q aim clear tree in_top covers (i ∷ is) bound child after links beyond =
    let c = cover_at at first_context (chain (suc level)) aim q covers in
    descend at used root top chain tree level in_top c.front q c.back c.is (i ∷ is) bound child after links aim (is_fit aim clear) (fit_aimed aim clear) beyond

pub places_lead_on : PlacesLeadOn
places_lead_on at number used root top chain level start aim clear b tree in_top place =
    place_leads at number level start aim (chain level) (is_fit aim clear) b (fit_beyond aim clear) (tree.runs level in_top) place

pub cover_is_one : CoverIsOne
cover_is_one at used root top chain level aim b c tree in_top is one other =
    cover_unique at at_0 level 0 aim is first_context (chain level) b c (tree.runs level in_top) one other
  where
    at_0 : ℕ → ℕ
    at_0 k = 0

pub held_on_its_cover : HeldOnItsCover
held_on_its_cover at used root top chain x b tree only covers =
    let c = cover_at at first_context (chain 0) _ b covers in
    let i = subst (IsIn b) (sym c.is) (in_append_right b c.front (b ∷ c.back) (inl refl)) in
    held_on_cover at used root top chain x b tree only covers c.alive (tree.in_use 0 b (omega arith) i).1

pub frontier_covers_entries : FrontierCovers
frontier_covers_entries at chain f x b covers beyond within = frontier_covers at first_context chain f x b covers beyond within

pub incomplete_split_has_its_link : IncompleteSplitHasItsLink
incomplete_split_has_its_link = has_link

pub separator_fits_after : SeparatorFits
separator_fits_after at used root top chain level p q new s added tree in_top fit split high right q_in put =
    let f = incomplete_at at level (chain level) p s (tree.runs level (omega arith)) fit split high in
    let w = split_at q (chain (suc level)) q_in in
    let same : new ≡ f.new = same_Some new f.new (sym right ∙ f.right_is) in
    separator_fits (context_after at first_context w.front).low p new s (at q).links added (at q).high put
    (added_within at level f.front p new s f.rest (subst (λ (n : ℕ). IsIncomplete at level first_context f.front p n s f.rest) (sym same) f.incomplete)
    (subst (λ (n : ℕ). AreDistinct (f.front ++ p ∷ n ∷ f.rest)) (sym same) (subst AreDistinct f.is (tree.distinct level (omega arith))))
    w.front q w.back (subst (λ (xs : List ℕ). IsRunOf at (suc level) first_context xs None) w.is (tree.runs (suc level) in_top))
    (subst (λ (xs : List ℕ). downlinks at first_context xs ≡ due_links at first_context (f.front ++ p ∷ new ∷ f.rest)) w.is
    (subst (λ (n : ℕ). downlinks at first_context (chain (suc level)) ≡ due_links at first_context (f.front ++ p ∷ n ∷ f.rest)) (sym same)
    (subst (λ (xs : List ℕ). downlinks at first_context (chain (suc level)) ≡ due_links at first_context xs) f.is (tree.parents level in_top))))
    added put)

pub only_the_root_is_clear : OnlyTheRootIsClear
only_the_root_is_clear at used root top chain aim b tree fit =
    let f = fit_at at first_context (chain top) (is_fit aim true) b fit in
    root_from_fit at root b f.front f.back (subst (IsRootLevel at root) f.is tree.root_level) (fit_clear aim (context_after at first_context f.front) f.passes)

pub incomplete_split_has_its_half : IncompleteSplitHasItsHalf
incomplete_split_has_its_half at used root top chain level p s tree in_top p_in split high = with_back w.back w.is
  where
    w : SplitAt p (chain level)
    w = split_at p (chain level) p_in

    with_back : (back : List ℕ) → chain level ≡ w.front ++ p ∷ back → HasItsHalf at (chain level) p
    with_back [] is =
        let here = run_back at level first_context w.front (p ∷ []) None (subst (λ (xs : List ℕ). IsRunOf at level first_context xs None) is (tree.runs level in_top)) in
        absurd (false≢true (sym here.0.high_is ∙ ap is_some high))
    with_back (new ∷ rest) is =
        let run = subst (λ (xs : List ℕ). IsRunOf at level first_context xs None) is (tree.runs level in_top) in
        let here = run_back at level first_context w.front (p ∷ new ∷ rest) None run in
        let f : IsIncomplete at level first_context w.front p new s rest = record { run = run; split = split; high = high } in
        record {
          new = new;
          right_is = here.0.right_is;
          alive = incomplete_alive at level first_context w.front p new s rest f;
          new_alive = new_alive at level first_context w.front p new s rest f;
          on_chain = subst (IsIn new) (sym is) (in_append_right new w.front (p ∷ new ∷ rest) (inr (inl refl)));
        }

pub places_stay : PlacesStay
places_stay at at' number number' chain chain' start aim clear b is keeps place = place_stays at at' number number' chain chain' start (is_fit aim clear) b (fit_eased aim clear is) keeps place
