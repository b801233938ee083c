-- Held pages, sorted by frame, in groups of one frame.
use Rattle.std.proofs.Common.{◌≡◌, ℕ, zero, suc, ◌+◌, ◌-◌, ◌<◌, ◌≤◌, ◌==◌, true, List, [], ◌∷◌, ◌++◌, length, take, drop, get_or, refl, sym, ap, ◌∙◌, subst, arith, get_or-drop, length-drop}
use Rattle.std.specs.List.{All, list_all, slice_range}
use Rattle.std.specs.List.Sorted.{IsNonDecreasingBy}
use Rattle.std.proofs.lemmas.Bool.{eqb-true, and_parts}
use Rattle.maptree.specs.Origins.{Shape, AreOuterRuns}
use Rattle.maptree.proofs.Cuttings.{split_at}
use Rattle.holdings.specs.declared.pages.HeldPage.{HeldPage}
use Rattle.pieces.specs.declared.runs.FrameRuns.{FrameRuns}
use Rattle.holdings.specs.Inner.Held.{links_in}
use Rattle.holdings.specs.Inner.Stripping.{places_in}
use Rattle.std.proofs.lemmas.List.Elements.{All-append}
use Rattle.holdings.specs.Inner.StripPlans.{AreFrameRuns, AreRunsBetween, HaveRuns, IsFrameGroup}

pub no_runs : (trees : List Shape) (pages : List HeldPage) (from : ℕ) → AreRunsBetween trees pages from from []
no_runs trees pages from = record { each = λ k d less. absurd (omega (arith, less)); whole = λ rest are. are }

assoc : (xs ys zs : List FrameRuns) → (xs ++ ys) ++ zs ≡ xs ++ (ys ++ zs)
assoc [] ys zs = refl
assoc (x ∷ xs) ys zs = ap (λ fs. x ∷ fs) (assoc xs ys zs)

-- those of the pages up to one, and from it on
pub runs_joined : (trees : List Shape) (pages : List HeldPage) (a b c : ℕ) (fs gs : List FrameRuns) → AreRunsBetween trees pages a b fs → AreRunsBetween trees pages b c gs → AreRunsBetween trees pages a c (fs ++ gs)
runs_joined trees pages a b c fs gs front behind = record {
  each = All-append (HaveRuns trees) fs gs front.each behind.each;
  whole = λ rest are. subst (AreFrameRuns trees (drop a pages)) (sym (assoc fs gs rest)) (front.whole (gs ++ rest) (behind.whole rest are));
}

-- all of one frame
pub same_frames : (hs : List HeldPage) (frame : ℕ) → list_all (λ h. h.frame == frame) hs ≡ true → All (λ h. h.frame ≡ frame) hs
same_frames [] frame all k d less = absurd (omega (arith, less))
same_frames (h ∷ hs) frame all zero d less = eqb-true h.frame frame (and_parts (h.frame == frame) (list_all (λ h. h.frame == frame) hs) all).0
same_frames (h ∷ hs) frame all (suc k) d less = same_frames hs frame (and_parts (h.frame == frame) (list_all (λ h. h.frame == frame) hs) all).1 k d (omega (arith, less))

-- one group more
pub one_group : (trees : List Shape) (pages : List HeldPage) (start from end : ℕ) (fs : List FrameRuns) → AreRunsBetween trees pages start from fs → IsNonDecreasingBy (λ h. h.frame) pages → All (λ h. h.frame < length trees) pages
    → from < end → end ≤ length pages → (f : FrameRuns) (first : HeldPage) → f.frame ≡ (get_or pages from first).frame
    → list_all (λ h. h.frame == f.frame) (slice_range pages from end) ≡ true → ((d : HeldPage) → end < length pages → (get_or pages end d).frame ≡ (get_or pages from d).frame → ⊥)
    → AreOuterRuns (links_in trees f.frame) (places_in (slice_range pages from end)) f.runs → AreRunsBetween trees pages start end (fs ++ f ∷ [])
one_group trees pages start from end fs so_far sorted within less upto f first frame same ends outer =
    runs_joined trees pages start from end fs (f ∷ []) so_far (record { each = one_each; whole = λ rest are. (group, drop end pages, split_at from end pages (omega (arith, less)), grouped, are) })
  where
    group : List HeldPage
    group = slice_range pages from end

    here : (d : HeldPage) → (get_or pages from d).frame ≡ f.frame
    here d = ap (λ (h : HeldPage). h.frame) (default pages from d first (omega (arith, less, upto))) ∙ sym frame
      where
        default : (xs : List HeldPage) (i : ℕ) (d e : HeldPage) → i < length xs → get_or xs i d ≡ get_or xs i e
        default [] i d e w = absurd (omega (arith, w))
        default (x ∷ xs) zero d e w = refl
        default (x ∷ xs) (suc i) d e w = default xs i d e (omega (arith, w))

    others : All (λ h. h.frame ≡ f.frame → ⊥) (drop end pages)
    others = λ k d w equal.
        let count = length-drop end pages in
        let at : get_or (drop end pages) k d ≡ get_or pages (end + k) d = get_or-drop end pages k d in
        let low = sorted from end d (omega (arith, less)) (omega (arith, w, count, upto)) in
        let high = sorted end (end + k) d (omega arith) (omega (arith, w, count, upto)) in
        let first_is = here d in
        let same_frame : (get_or pages (end + k) d).frame ≡ f.frame = ap (λ (h : HeldPage). h.frame) (sym at) ∙ equal in
        ends d (omega (arith, w, count, upto)) (omega (arith, low, high, first_is, same_frame))

    shorter : (n : ℕ) (xs : List HeldPage) → 0 < n → 0 < length xs → 0 < length (take n xs)
    shorter zero xs positive more = absurd (omega (arith, positive))
    shorter (suc n) [] positive more = absurd (omega (arith, more))
    shorter (suc n) (x ∷ xs) positive more = omega arith

    grouped : IsFrameGroup trees group (drop end pages) f
    grouped = record {
      some = let l = length-drop from pages in shorter (end - from) (drop from pages) (omega (arith, less)) (omega (arith, l, less, upto));
      frame = let w = within from first (omega (arith, less, upto)) in subst (λ n. n < length trees) (sym frame) w;
      same = same_frames group f.frame same;
      others = others;
      runs = outer;
    }

    one_each : All (HaveRuns trees) (f ∷ [])
    one_each zero d less = record { frame = grouped.frame; rising = outer.rising; whole = outer.whole }
    one_each (suc k) d less = absurd (omega (arith, less))

pub all_groups : (trees : List Shape) (pages : List HeldPage) (from : ℕ) (fs : List FrameRuns) → AreRunsBetween trees pages 0 from fs → length pages ≤ from → AreFrameRuns trees pages fs
all_groups trees pages from fs so_far end = subst (AreFrameRuns trees pages) (none fs) (so_far.whole [] (empty from pages end))
  where
    none : (xs : List FrameRuns) → xs ++ [] ≡ xs
    none [] = refl
    none (x ∷ xs) = ap (λ ys. x ∷ ys) (none xs)

    empty : (n : ℕ) (xs : List HeldPage) → length xs ≤ n → drop n xs ≡ []
    empty zero [] least = refl
    empty (suc n) [] least = refl
    empty zero (x ∷ xs) least = absurd (omega (arith, least))
    empty (suc n) (x ∷ xs) least = empty n xs (omega (arith, least))
