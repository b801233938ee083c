-- A list of nodes of which one gets another place, by a map of one entry.
use Rattle.std.proofs.Common.{◌≡◌, ℕ, zero, suc, ◌-◌, ◌==◌, ◌&&◌, nat_le, Bool, true, false, List, [], ◌∷◌, map, get_or, Option, Some, None, unwrap_or, refl, sym, ap, ◌∙◌, arith, ◌⊎◌, inl, inr, if◌then◌else◌}
use Rattle.std.specs.Prelude.{position}
use Rattle.std.proofs.Math.ListN.{set}
use Rattle.std.proofs.lemmas.List.Quantifiers.{position-Some}
use Rattle.space.specs.declared.place.Place.{Place}
use Rattle.space.specs.Place.{same_place}
use Rattle.space.proofs.Places.{same_self, same_or_apart, same_is, apart_back}
use Rattle.space.specs.declared.node.Node.{Node}
use Rattle.maptree.specs.Origins.{swapped}
use Rattle.maptree.specs.Nodes.{are_distinct}
use Rattle.maptree.specs.PlaceMaps.{place_for}
use Rattle.maptree.specs.Renamings.{replaced_by, nodes_renamed}
use Rattle.maptree.proofs.Mapped.{with_place}
use Rattle.maptree.proofs.OnePlace.{put_says}
use Rattle.maptree.proofs.Renaming.{replaced, all_kept, set_is_replaced, new_from_position}
use Rattle.maptree.proofs.Positions.{position-links}

-- a map with an entry for its first page alone
pub only_says : (space first : ℕ) (q p : Place)
    → place_for (record { space = space; first = first; places = Some q ∷ [] }) p ≡ (if same_place p (record { space = space; page = first }) then Some q else None)
only_says space first q p =
    let key : Place = record { space = space; page = first } in
    let at : first - first ≡ 0 = omega arith in
    ap (λ k. place_for (record { space = space; first = first; places = set (None ∷ []) k (Some q) }) p) (sym at)
    ∙ put_says space first key refl (omega arith) (None ∷ []) [] q p (omega arith) (nothing None)
    ∙ ap (λ o. if same_place p key then Some q else o) (neither None ((p.space == space) && nat_le first p.page))
  where
    nothing : (d : Option Place) (i : ℕ) → get_or (d ∷ []) i d ≡ get_or [] i d
    nothing d zero = refl
    nothing d (suc i) = refl

    neither : (o : Option Place) (b : Bool) → (if b then o else o) ≡ o
    neither o true = refl
    neither o false = refl

module _ (new : Place → Option Place) (p q : Place) (is : (x : Place) → new x ≡ (if same_place x p then Some q else None)) where
  -- what stands for a place is the new one for the old, and itself for any other
  one_swapped : (x : Place) → replaced_by new x ≡ swapped p q x
  one_swapped x = by (same_or_apart p x)
    where
      by : (p ≡ x) ⊎ (same_place p x ≡ false) → replaced_by new x ≡ swapped p q x
      by (inl one) =
          let here : same_place x p ≡ true = ap (λ y. same_place y p) (sym one) ∙ same_self p in
          let there : same_place p x ≡ true = ap (same_place p) (sym one) ∙ same_self p in
          ap (λ o. unwrap_or o x) (is x) ∙ rw (here, there) refl
      by (inr apart) =
          let here = apart_back p x apart in
          ap (λ o. unwrap_or o x) (is x) ∙ rw (here, apart) refl

  -- so the nodes are those with that one place replaced
  all_swapped : (ns : List Node) → map (replaced p q) ns ≡ nodes_renamed new ns
  all_swapped [] = refl
  all_swapped (n ∷ ns) = ap (λ x. record { place = x; depth = n.depth } ∷ map (replaced p q) ns) (sym (one_swapped n.place)) ∙ ap (λ l. with_place (replaced_by new) n ∷ l) (all_swapped ns)

  -- where no node has the place, none changes
  pub none_replaced : (ns : List Node) → position (λ n. same_place p n.place) ns ≡ None → ns ≡ nodes_renamed new ns
  none_replaced ns none = sym (all_kept p q ns (new_from_position p ns (position-links p [] ns ∙ none))) ∙ all_swapped ns

  -- the one that has it gets the other
  pub one_replaced : (ns : List Node) (i : ℕ) (d : Node) → are_distinct ns ≡ true → position (λ n. same_place p n.place) ns ≡ Some i
      → set ns i (record { place = q; depth = (get_or ns i d).depth }) ≡ nodes_renamed new ns
  one_replaced ns i d distinct found =
      let there = position-Some (λ (n : Node). same_place p n.place) ns i d found in
      set_is_replaced q ns i d distinct there.0 ∙ ap (λ x. map (replaced x q) ns) (sym (same_is p (get_or ns i d).place there.1)) ∙ all_swapped ns
