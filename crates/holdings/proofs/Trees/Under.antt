-- A page derives from another where the tree of its frame says so.
use Rattle.std.proofs.Common.{◌≡◌, ℕ, zero, suc, Bool, false, List, Some, None, refl, sym, ap, ◌∙◌, subst, length}
use Rattle.std.specs.Prelude.{Decides, position}
use Rattle.std.specs.Option.{option_and_then}
use Rattle.std.proofs.lemmas.Bool.{false_from_ne_true}
use Rattle.std.proofs.lemmas.Option.{same_Some}
use Rattle.space.specs.declared.place.Place.{Place}
use Rattle.space.specs.declared.place.Entry.{Entry}
use Rattle.space.specs.declared.shards.Shards.{Shards}
use Rattle.space.specs.Place.{same_place}
use Rattle.space.specs.Shards.{entry_at}
use Rattle.space.proofs.Places.{same_is, same_self}
use Rattle.maptree.specs.Origins.{Origins, Shape, place_at, LeadsTo}
use Rattle.maptree.proofs.Found.{found_at}
use Rattle.model.specs.Definitions.Holdings.{Held, Holdings, PlaceSet, only}
use Rattle.model.specs.Definitions.Derived.{is_under, meets}
use Rattle.model.specs.Laws.DerivationLaws.{LeadsInto}
use Rattle.model.proofs.Derivations.{under_is_a_chain}
use Rattle.holdings.specs.Places.{IsWithin}
use Rattle.holdings.specs.Inner.Held.{links_in, limits_in, holdings_in}
use Rattle.holdings.specs.Inner.Sound.{AreSound}
use Rattle.holdings.proofs.Contents.Holders.{absent_within}
use Rattle.holdings.proofs.Trees.Chains.{chains_agree, same_decision}
use Rattle.holdings.proofs.Stripping.Frames.{loose_from}

-- what two positions decide, the places decide
pub decided_by : (os : Origins) (p q : Place) (i j : ℕ) (b : Bool) → position (λ o. same_place p o.0) os ≡ Some i → position (λ o. same_place q o.0) os ≡ Some j
    → ((d : Place) → Decides b (LeadsTo os 1 (place_at os i d) (place_at os j d))) → Decides b (LeadsTo os 1 p q)
decided_by os p q i j b found_p found_q decides =
    let first = found_at os p i found_p in
    let second = found_at os q j found_q in
    subst (λ x. Decides b (LeadsTo os 1 x q)) (first.place p) (subst (λ y. Decides b (LeadsTo os 1 (place_at os i p) y)) (second.place p) (decides p))

no_chain : (n : ℕ) (h : Holdings) (set : PlaceSet) → meets n h set None ≡ false
no_chain zero h set = refl
no_chain (suc n) h set = refl

module _ (shards : Shards) (trees : List Shape) (sound : AreSound shards trees) (place above : Place) (within : IsWithin (limits_in shards trees) place) where
  -- what is not held derives from nothing
  pub absent_derives : entry_at shards place ≡ None → false ≡ is_under (holdings_in shards trees) (only above) place
  absent_derives none =
      let free = absent_within (limits_in shards trees) shards trees place within none in
      let h = holdings_in shards trees in
      sym (ap (λ m. meets (length h) h (only above) (option_and_then (λ (x : Held). x.origin) m)) free ∙ no_chain (length h) h (only above))

  module _ (e : Entry) (stood : entry_at shards place ≡ Some e) where
    -- a chain of origins leads to a held page of the same frame
    last_held : LeadsInto (holdings_in shards trees) 1 (only above) place → (k : Entry) × (entry_at shards above ≡ Some k) × (k.frame ≡ e.frame)
    last_held to =
        let agree = chains_agree shards trees (loose_from shards trees sound) to.origins place e within stood in
        let last = agree.1 to.into to.leads in
        (last.0, ap (entry_at shards) (same_is above to.into to.within) ∙ last.1, last.2)

    pub same_frame : (k : Entry) → entry_at shards above ≡ Some k → LeadsInto (holdings_in shards trees) 1 (only above) place → k.frame ≡ e.frame
    same_frame k found to = let last = last_held to in ap (λ (x : Entry). x.frame) (same_Some k last.0 (sym found ∙ last.1)) ∙ last.2

    pub leads_there : LeadsInto (holdings_in shards trees) 1 (only above) place → LeadsTo (links_in trees e.frame) 1 place above
    leads_there to =
        let agree = chains_agree shards trees (loose_from shards trees sound) to.origins place e within stood in
        record { origins = to.origins; enough = to.enough; leads = sym agree.0 ∙ to.leads ∙ ap Some (sym (same_is above to.into to.within)) }

    pub leads_back : LeadsTo (links_in trees e.frame) 1 place above → LeadsInto (holdings_in shards trees) 1 (only above) place
    leads_back to =
        let agree = chains_agree shards trees (loose_from shards trees sound) to.origins place e within stood in
        record { origins = to.origins; enough = to.enough; into = above; leads = agree.0 ∙ to.leads; within = same_self above }

    decides : Decides (is_under (holdings_in shards trees) (only above) place) (LeadsInto (holdings_in shards trees) 1 (only above) place)
    decides = under_is_a_chain (holdings_in shards trees) sound.kept.lawful (only above) place

    pub above_absent : entry_at shards above ≡ None → false ≡ is_under (holdings_in shards trees) (only above) place
    above_absent none = sym (false_from_ne_true _ (λ is. let last = last_held (decides.0 is) in absurd (cc (none, last.1))))

    pub other_frame : (k : Entry) → entry_at shards above ≡ Some k → (k.frame ≡ e.frame → ⊥) → false ≡ is_under (holdings_in shards trees) (only above) place
    other_frame k found differ = sym (false_from_ne_true _ (λ is. differ (same_frame k found (decides.0 is))))

    pub from_tree : (b : Bool) → Decides b (LeadsTo (links_in trees e.frame) 1 place above) → b ≡ is_under (holdings_in shards trees) (only above) place
    from_tree b tells = same_decision b (is_under (holdings_in shards trees) (only above) place) tells decides leads_back leads_there
