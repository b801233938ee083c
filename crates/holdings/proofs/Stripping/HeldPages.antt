-- Those of some places that are held, one place after another.
use Rattle.std.proofs.Common.{◌≡◌, ℕ, suc, ◌+◌, ◌<◌, ◌≤◌, true, false, Bool, ◌&&◌, ◌||◌, List, [], ◌∷◌, ◌++◌, length, take, get_or, Some, None, is_some, refl, sym, ap, ◌∙◌, subst, ◌⊎◌, inl, inr, arith}
use Rattle.std.specs.List.{All}
use Rattle.std.proofs.lemmas.Bool.{eq-eqb, or_cases}
use Rattle.std.proofs.lemmas.List.{take_more}
use Rattle.std.proofs.lemmas.List.Elements.{All-nil, All-push}
use Rattle.std.proofs.lemmas.List.Folds.{list_any-append}
use Rattle.space.proofs.Lists.{take_all}
use Rattle.space.specs.declared.place.Place.{Place}
use Rattle.space.specs.declared.place.Entry.{Entry}
use Rattle.space.specs.declared.shards.Shards.{Shards}
use Rattle.space.specs.Place.{same_place}
use Rattle.space.specs.Shards.{entry_at}
use Rattle.space.proofs.Places.{same_is, same_or_apart, same_self, apart_back}
use Rattle.model.specs.Definitions.Holdings.{only}
use Rattle.holdings.specs.declared.pages.HeldPage.{HeldPage}
use Rattle.model.specs.Definitions.Calls.{Limits}
use Rattle.holdings.specs.Places.{IsWithin, any_of}
use Rattle.holdings.specs.Inner.Held.{is_place, has_frame, has_entry}
use Rattle.holdings.specs.Inner.Stripping.{HasItsFrame, AreHeldPages}
use Rattle.holdings.proofs.Contents.Listing.{place_from_within}
use Rattle.holdings.proofs.Stripping.Sequences.{any_more}

module _ (shards : Shards) (places : List Place) where
  -- before the first place
  pub none_held : AreHeldPages shards (any_of (take 0 places)) []
  none_held = record { named = λ p. refl; frames = All-nil (HasItsFrame shards) }

  module _ (i : ℕ) (d : Place) (within : i < length places) (pages : List HeldPage) (so_far : AreHeldPages shards (any_of (take i places)) pages) where
    abbrev here : Place
    here = get_or places i d

    more : (p : Place) → any_of (take (i + 1) places) p ≡ (any_of (take i places) p || only here p)
    more p = ap (λ ps. any_of ps p) (take_more places i d within) ∙ any_more (take i places) here p

    -- a place that is not held
    pub one_absent : entry_at shards here ≡ None → AreHeldPages shards (any_of (take (i + 1) places)) pages
    one_absent absent = record { named = λ p. so_far.named p ∙ by p (same_or_apart p here) ∙ sym (ap (λ b. b && has_entry shards p) (more p)); frames = so_far.frames }
      where
        gone : (x y b : Bool) → b ≡ false → (x && b) ≡ ((x || y) && b)
        gone x y b is = grind (arith, is)

        other : (x y b : Bool) → y ≡ false → (x && b) ≡ ((x || y) && b)
        other x y b is = grind (arith, is)

        by : (p : Place) → (p ≡ here) ⊎ (same_place p here ≡ false) → (any_of (take i places) p && has_entry shards p) ≡ ((any_of (take i places) p || only here p) && has_entry shards p)
        by p (inl same) = gone (any_of (take i places) p) (only here p) (has_entry shards p) (ap (has_entry shards) same ∙ ap is_some absent)
        by p (inr apart) = other (any_of (take i places) p) (only here p) (has_entry shards p) (apart_back p here apart)

    -- a place that is
    pub one_held : (e : Entry) → entry_at shards here ≡ Some e → AreHeldPages shards (any_of (take (i + 1) places)) (pages ++ record { frame = e.frame; place = here } ∷ [])
    one_held e held = record {
      named = λ p. list_any-append (λ (h : HeldPage). same_place p h.place) pages (record { frame = e.frame; place = here } ∷ []) ∙ ap (λ b. b || (same_place p here || false)) (so_far.named p)
          ∙ by p (same_or_apart p here) ∙ sym (ap (λ b. b && has_entry shards p) (more p));
      frames = All-push (HasItsFrame shards) pages (record { frame = e.frame; place = here }) so_far.frames (ap (has_frame e.frame) held ∙ eq-eqb e.frame e.frame refl);
    }
      where
        one : (x b c y : Bool) → b ≡ true → c ≡ true → y ≡ true → ((x && b) || (c || false)) ≡ ((x || y) && b)
        one x b c y has same is = grind (arith, has, same, is)

        other : (x b c y : Bool) → c ≡ false → y ≡ false → ((x && b) || (c || false)) ≡ ((x || y) && b)
        other x b c y apart is = grind (arith, apart, is)

        by : (p : Place) → (p ≡ here) ⊎ (same_place p here ≡ false) → ((any_of (take i places) p && has_entry shards p) || (same_place p here || false)) ≡ ((any_of (take i places) p || only here p) && has_entry shards p)
        by p (inl same) =
            let itself : same_place p here ≡ true = ap (λ x. same_place x here) same ∙ same_self here in
            let there : only here p ≡ true = ap (only here) same ∙ same_self here in
            one (any_of (take i places) p) (has_entry shards p) (same_place p here) (only here p) (ap (has_entry shards) same ∙ ap is_some held) itself there
        by p (inr apart) = other (any_of (take i places) p) (has_entry shards p) (same_place p here) (only here p) apart (apart_back p here apart)

  -- all of them
  pub all_held : (i : ℕ) (pages : List HeldPage) → length places ≤ i → AreHeldPages shards (any_of (take i places)) pages → AreHeldPages shards (any_of places) pages
  all_held i pages past so_far = subst (λ xs. AreHeldPages shards (any_of xs) pages) (take_all i places past) so_far

-- where all places are within the limits, so is each of their set
pub any_within : (limits : Limits) (places : List Place) → All (IsWithin limits) places → (p : Place) → any_of places p ≡ true → is_place limits p ≡ true
any_within limits [] within p is = absurd (cc is)
any_within limits (q ∷ places) within p is = by (or_cases (same_place p q) (any_of places p) is) (any_within limits places (λ i d less. within (suc i) d (omega (arith, less))) p)
  where
    by : (same_place p q ≡ true) ⊎ (any_of places p ≡ true) → (any_of places p ≡ true → is_place limits p ≡ true) → is_place limits p ≡ true
    by (inl here) rest = ap (is_place limits) (same_is p q here) ∙ place_from_within limits q (within 0 q (omega arith))
    by (inr there) rest = rest there
