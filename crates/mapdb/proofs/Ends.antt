-- The ends of transfers that go: their sources, and the targets that they replace.
use Rattle.std.proofs.Common.{◌≡◌, ℕ, zero, suc, arith, ◌+◌, ◌<◌, ◌≤◌, Bool, true, false, ◌&&◌, ◌||◌, not, List, [], ◌∷◌, ◌++◌, length, take, get_or, refl, sym, ap, ◌∙◌}
use Rattle.std.proofs.lemmas.List.{take_more}
use Rattle.std.specs.List.{All}
use Rattle.std.proofs.lemmas.Bool.{or_right}
use Rattle.std.proofs.lemmas.List.Folds.{list_any-append}
use Rattle.std.proofs.lemmas.List.{take_all}
use Rattle.std.proofs.Math.Bool.{or-false}
use Rattle.space.specs.declared.place.Place.{Place}
use Rattle.space.specs.Place.{same_place}
use Rattle.space.proofs.Places.{same_self, same_is}
use Rattle.model.specs.Definitions.Calls.{Limits}
use Rattle.model.specs.Definitions.Holdings.{Holdings, is_held}
use Rattle.holdings.specs.Places.{IsWithin, any_of}
use Rattle.holdings.specs.Inner.Held.{is_place}
use Rattle.holdings.proofs.Contents.Listing.{within_from_place}
use Rattle.holdings.specs.declared.outcome.Outcome.{Outcome}
use Rattle.holdings.specs.declared.outcome.Outcome.TheVariants as outcome
use Rattle.holdings.specs.declared.transfer.Transfer.{Transfer}
use Rattle.holdings.specs.Sending.{fate_of_outcome}
use Rattle.mapdb.specs.Sending.{transfer_of, sources_in, targets_in, replaced_by, AreReplaced}

-- ---- sources

-- the places that were found are the sources of these transfers
abbrev pub AreSources : List Transfer → List Place → Type 0
AreSources ts places = (p : Place) → any_of places p ≡ sources_in ts p

module _ (ts : List Transfer) where
  module _ (i : ℕ) (d : Transfer) (within : i < length ts) (places : List Place) (so_far : AreSources (take i ts) places) where
    more : (p : Place) → sources_in (take (i + 1) ts) p ≡ (sources_in (take i ts) p || ((not (get_or ts i d).extends && same_place p (get_or ts i d).source) || false))
    more p = ap (λ xs. sources_in xs p) (take_more ts i d within) ∙ list_any-append (λ t. not t.extends && same_place p t.source) (take i ts) (get_or ts i d ∷ [])

    -- one that extends
    pub one_extends : (get_or ts i d).extends ≡ true → AreSources (take (i + 1) ts) places
    one_extends is p = so_far p ∙ sym (more p ∙ ap (λ b. sources_in (take i ts) p || ((not b && same_place p (get_or ts i d).source) || false)) is ∙ or-false (sources_in (take i ts) p))

    -- one that goes
    pub one_goes : (get_or ts i d).extends ≡ false → AreSources (take (i + 1) ts) (places ++ (get_or ts i d).source ∷ [])
    one_goes is p =
        list_any-append (same_place p) places ((get_or ts i d).source ∷ []) ∙ ap (λ b. b || (same_place p (get_or ts i d).source || false)) (so_far p)
        ∙ sym (more p ∙ ap (λ b. sources_in (take i ts) p || ((not b && same_place p (get_or ts i d).source) || false)) is)

  -- all of them
  pub all_sources : (i : ℕ) (places : List Place) → length ts ≤ i → AreSources (take i ts) places → AreSources ts places
  all_sources i places past so_far p = so_far p ∙ ap (λ xs. sources_in xs p) (take_all i ts past)

-- ---- targets

module _ (h : Holdings) where
  pub none_replaced : AreReplaced h [] []
  none_replaced p = refl

  no_more : (a t held : Bool) → a ≡ (t && held) → (a || false) ≡ ((t || false) && held)
  no_more a t held is = grind (arith, is)

  -- a held place is a target, or it is none
  one_more : (a t held same : Bool) → a ≡ (t && held) → (same ≡ true → held ≡ true) → (a || (same || false)) ≡ ((t || (same || false)) && held)
  one_more a t held true is there = grind (arith, is, there refl)
  one_more a t held false is there = grind (arith, is)

  free_more : (a t held same : Bool) → a ≡ (t && held) → (same ≡ true → held ≡ false) → (a || false) ≡ ((t || (same || false)) && held)
  free_more a t held true is none = grind (arith, is, none refl)
  free_more a t held false is none = grind (arith, is)

  -- a page more with its outcome
  pub one_replaced : (source target : Place) (o : Outcome) (ts us : List Transfer) (places more : List Place) → (o ≡ outcome.Goes → is_held h target ≡ false) → (o ≡ outcome.Replaces → is_held h target ≡ true)
      → AreReplaced h ts places → us ≡ ts ++ transfer_of (source, target) (fate_of_outcome o) [] → more ≡ places ++ replaced_by o target → AreReplaced h us more
  one_replaced source target o ts us places more free held so_far us_is more_is p =
      ap (λ xs. any_of xs p) more_is ∙ list_any-append (same_place p) places (replaced_by o target) ∙ by o free held
      ∙ sym (ap (λ xs. targets_in xs p && is_held h p) us_is ∙ ap (λ b. b && is_held h p) (list_any-append (λ t. not t.extends && same_place p t.target) ts (transfer_of (source, target) (fate_of_outcome o) [])))
    where
      none : (any_of places p || false) ≡ ((targets_in ts p || false) && is_held h p)
      none = no_more (any_of places p) (targets_in ts p) (is_held h p) (so_far p)

      by : (o : Outcome) → (o ≡ outcome.Goes → is_held h target ≡ false) → (o ≡ outcome.Replaces → is_held h target ≡ true)
          → (any_of places p || any_of (replaced_by o target) p) ≡ ((targets_in ts p || targets_in (transfer_of (source, target) (fate_of_outcome o) []) p) && is_held h p)
      by outcome.Absent free held = none
      by outcome.NoRights free held = none
      by outcome.Origin free held = none
      by outcome.Extends free held = none
      by outcome.Replaces free held = one_more (any_of places p) (targets_in ts p) (is_held h p) (same_place p target) (so_far p) (λ same. ap (is_held h) (same_is p target same) ∙ held refl)
      by outcome.Goes free held = free_more (any_of places p) (targets_in ts p) (is_held h p) (same_place p target) (so_far p) (λ same. ap (is_held h) (same_is p target same) ∙ free refl)

-- ---- both

-- a place of a list is one of its set
any_at : (places : List Place) (i : ℕ) (d : Place) → i < length places → any_of places (get_or places i d) ≡ true
any_at [] i d within = absurd (omega (arith, within))
any_at (p ∷ places) zero d within = rw (same_self p) refl
any_at (p ∷ places) (suc i) d within = or_right (same_place (get_or places i d) p) (any_of places (get_or places i d)) (any_at places i d (omega (arith, within)))

-- where the set of some places is within the limits, so is each of them
pub all_within : (limits : Limits) (places : List Place) → ((p : Place) → any_of places p ≡ true → is_place limits p ≡ true) → All (IsWithin limits) places
all_within limits places set i d within = within_from_place limits (get_or places i d) (set (get_or places i d) (any_at places i d within))
