-- The first places of the outermost runs of held pages stand for all of these pages.
use Rattle.std.proofs.Common.{◌≡◌, ℕ, zero, suc, ◌<◌, true, ◌||◌, List, [], ◌∷◌, ◌++◌, length, get_or, sym, ap, ◌∙◌, subst, arith, append_assoc, append-nil, ◌⊎◌, inl, inr}
use Rattle.std.specs.List.{All}
use Rattle.std.proofs.lemmas.Bool.{and_parts, and_from, or_cases, or_left, or_right}
use Rattle.std.proofs.lemmas.List.Folds.{list_any-append}
use Rattle.fpage.specs.declared.rights.Rights.{Rights}
use Rattle.space.specs.declared.place.Place.{Place}
use Rattle.space.specs.declared.shards.Shards.{Shards}
use Rattle.space.specs.Place.{same_place}
use Rattle.space.proofs.Places.{same_self}
use Rattle.maptree.specs.Origins.{Shape}
use Rattle.model.specs.Definitions.Calls.{Limits}
use Rattle.model.specs.Definitions.Holdings.{is_held}
use Rattle.model.specs.Definitions.Derived.{is_below}
use Rattle.model.proofs.LawfulParts.{IsLawful, lawful_parts}
use Rattle.model.proofs.Chains.{below_within, in_below}
use Rattle.holdings.specs.Contents.{Contents, IsStripped, left_with}
use Rattle.holdings.specs.Places.{IsWithin, any_of}
use Rattle.holdings.specs.Inner.Held.{contents_of, links_in, holdings_in, has_entry}
use Rattle.holdings.specs.Inner.Sound.{AreSound}
use Rattle.holdings.specs.Inner.Stripping.{any_page, places_in, HasItsFrame, AreHeldPages, firsts}
use Rattle.holdings.specs.Inner.StripPlans.{AreFrameRuns, AreOuterPlaces, all_firsts}
use Rattle.holdings.specs.declared.pages.HeldPage.{HeldPage}
use Rattle.pieces.specs.declared.runs.FrameRuns.{FrameRuns}
use Rattle.holdings.proofs.Contents.Listing.{within_from_place}
use Rattle.holdings.proofs.Stripping.Frames.{covered, entry_of_held, first_named, loose_from}
use Rattle.holdings.proofs.Stripping.HeldPages.{any_within}
use Rattle.holdings.proofs.Stripping.Outer.{outer_word, outer_strip}
use Rattle.holdings.proofs.Planned.Apart.{any_cases, any_first, any_second}
use Rattle.holdings.proofs.Planned.Plan.{any_places, first_all, group_of_frame, second_all}

-- those of one frame more
pub firsts_more : (trees : List Shape) (fs : List FrameRuns) (f : FrameRuns) → all_firsts trees (fs ++ f ∷ []) ≡ all_firsts trees fs ++ firsts (links_in trees f.frame) f.runs
firsts_more trees [] f = append-nil (firsts (links_in trees f.frame) f.runs)
firsts_more trees (g ∷ fs) f =
    ap (λ rest. firsts (links_in trees g.frame) g.runs ++ rest) (firsts_more trees fs f)
    ∙ sym (append_assoc (firsts (links_in trees g.frame) g.runs) (all_firsts trees fs) (firsts (links_in trees f.frame) f.runs))

module _ (s : Shards) (trees : List Shape) (sound : AreSound s trees) where
  lawful : IsLawful (holdings_in s trees)
  lawful = lawful_parts (holdings_in s trees) sound.kept.lawful

  -- where one list of places has all of another, what is below the other is below the one
  wider : (xs ys : List Place) → ((q : Place) → any_of xs q ≡ true → any_of ys q ≡ true) → (p : Place) → is_below (holdings_in s trees) (any_of xs) p ≡ true → is_below (holdings_in s trees) (any_of ys) p ≡ true
  wider xs ys inside p below =
      below_within (holdings_in s trees) lawful (any_of xs) (any_of ys) (λ q in_xs. in_below (holdings_in s trees) lawful (any_of ys) q (inside q in_xs)) p below

  firsts_named : (pages : List HeldPage) (fs : List FrameRuns) → AreFrameRuns trees pages fs → All (HasItsFrame s) pages → (q : Place) → any_of (all_firsts trees fs) q ≡ true → any_page pages q ≡ true
  firsts_named pages [] groups has q is = absurd (cc is)
  firsts_named pages (f ∷ fs) (group, rest, whole, is, groups) has q among =
      by (any_cases (firsts (links_in trees f.frame) f.runs) (all_firsts trees fs) q among) (firsts_named rest fs groups (second_all (HasItsFrame s) group rest both) q)
    where
      both : All (HasItsFrame s) (group ++ rest)
      both = subst (All (HasItsFrame s)) whole has

      joined : any_page pages q ≡ (any_page group q || any_page rest q)
      joined = ap (λ hs. any_page hs q) whole ∙ list_any-append (λ (h : HeldPage). same_place q h.place) group rest

      by : (any_of (firsts (links_in trees f.frame) f.runs) q ≡ true) ⊎ (any_of (all_firsts trees fs) q ≡ true) → (any_of (all_firsts trees fs) q ≡ true → any_page rest q ≡ true) → any_page pages q ≡ true
      by (inl here) later =
          let of_frame = group_of_frame s trees sound f.frame group is.same (first_all (HasItsFrame s) group rest both) in
          joined ∙ or_left _ (any_page rest q) (sym (any_places s trees sound group q) ∙ first_named s trees sound f.frame (places_in group) of_frame f.runs is.runs q here)
      by (inr there) later = joined ∙ or_right (any_page group q) _ (later there)

  firsts_cover : (pages : List HeldPage) (fs : List FrameRuns) → AreFrameRuns trees pages fs → All (HasItsFrame s) pages
      → (p : Place) → is_held (holdings_in s trees) p ≡ true → any_page pages p ≡ true → is_below (holdings_in s trees) (any_of (all_firsts trees fs)) p ≡ true
  firsts_cover pages [] groups has p held named = absurd (cc (named, ap (λ hs. any_page hs p) groups))
  firsts_cover pages (f ∷ fs) (group, rest, whole, is, groups) has p held named =
      by (or_cases (any_page group p) (any_page rest p) (sym (list_any-append (λ (h : HeldPage). same_place p h.place) group rest) ∙ sym (ap (λ hs. any_page hs p) whole) ∙ named))
      (firsts_cover rest fs groups (second_all (HasItsFrame s) group rest both) p held)
    where
      both : All (HasItsFrame s) (group ++ rest)
      both = subst (All (HasItsFrame s)) whole has

      mine : List Place
      mine = firsts (links_in trees f.frame) f.runs

      by : (any_page group p ≡ true) ⊎ (any_page rest p ≡ true) → (any_page rest p ≡ true → is_below (holdings_in s trees) (any_of (all_firsts trees fs)) p ≡ true)
          → is_below (holdings_in s trees) (any_of (all_firsts trees (f ∷ fs))) p ≡ true
      by (inl here) later =
          let of_frame = group_of_frame s trees sound f.frame group is.same (first_all (HasItsFrame s) group rest both) in
          wider mine (all_firsts trees (f ∷ fs)) (λ q in_mine. any_first mine (all_firsts trees fs) q in_mine) p
          (covered s trees sound f.frame (places_in group) of_frame f.runs is.runs p held (any_places s trees sound group p ∙ here))
      by (inr there) later = wider (all_firsts trees fs) (all_firsts trees (f ∷ fs)) (λ q in_others. any_second mine (all_firsts trees fs) q in_others) p (later there)

  -- all of this
  pub outer_are : (places : List Place) (pages : List HeldPage) (fs : List FrameRuns) → AreHeldPages s (any_of places) pages → AreFrameRuns trees pages fs → AreOuterPlaces s trees places (all_firsts trees fs)
  outer_are places pages fs held groups = record {
    named = λ q is. (and_parts (any_of places q) (has_entry s q) (sym (held.named q) ∙ firsts_named pages fs groups held.frames q is)).0;
    covers = λ q is_held named. firsts_cover pages fs groups held.frames q is_held (held.named q ∙ and_from (any_of places q) (has_entry s q) named (entry_of_held s trees (loose_from s trees sound) q is_held));
  }

  -- what is stripped of the first places is stripped of all
  pub outer_stand : (places outer : List Place) → AreOuterPlaces s trees places outer → (a : Rights) (f : _) (r : Contents × Rights)
      → IsStripped (contents_of s trees) (any_of outer) a f r → IsStripped (contents_of s trees) (any_of places) a f r
  outer_stand places outer are a f r is = record {
    left = is.left ∙ ap (left_with (contents_of s trees)) (outer_strip (holdings_in s trees) lawful (any_of outer) (any_of places) are.named are.covers a f);
    status = is.status ∙ outer_word (holdings_in s trees) lawful (any_of outer) (any_of places) are.named are.covers;
  }

-- places among places within the limits are within them
pub among_within : (limits : Limits) (places outer : List Place) → All (IsWithin limits) places → ((q : Place) → any_of outer q ≡ true → any_of places q ≡ true) → All (IsWithin limits) outer
among_within limits places outer within named k d less =
    within_from_place limits (get_or outer k d) (any_within limits places within (get_or outer k d) (named (get_or outer k d) (at_of outer k d less)))
  where
    at_of : (xs : List Place) (k : ℕ) (d : Place) → k < length xs → any_of xs (get_or xs k d) ≡ true
    at_of [] k d less = absurd (omega (arith, less))
    at_of (x ∷ xs) zero d less = or_left _ _ (same_self x)
    at_of (x ∷ xs) (suc k) d less = or_right _ _ (at_of xs k d (omega (arith, less)))
