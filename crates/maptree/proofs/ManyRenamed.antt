-- A list of nodes of which many get another place.
use Rattle.std.proofs.Common.{◌≡◌, ℕ, zero, suc, ◌+◌, ◌<◌, true, ◌||◌, List, [], ◌∷◌, ◌++◌, length, take, drop, get_or, Option, unwrap_or, refl, sym, ap, ◌∙◌, arith, inl, inr}
use Rattle.std.specs.List.{list_any}
use Rattle.std.proofs.lemmas.Bool.{and_parts, and_from}
use Rattle.std.proofs.Math.Bool.{or-true}
use Rattle.std.proofs.Math.ListN.{set}
use Rattle.space.specs.declared.place.Place.{Place}
use Rattle.space.specs.Place.{same_place}
use Rattle.space.proofs.Places.{same_self}
use Rattle.space.specs.declared.node.Node.{Node}
use Rattle.maptree.specs.Nodes.{are_depths, are_distinct, is_forest, above, links, origins_of}
use Rattle.maptree.specs.Renamings.{replaced_by, all_renamed, nodes_renamed, StayApart}
use Rattle.maptree.proofs.Paths.{HasPlace}
use Rattle.maptree.proofs.Mapped.{with_place, links-mapped, are_depths-mapped, are_distinct-mapped}

-- a node's place is one of the tree
pub has_link : (p : Place) (path : List Place) (ns : List Node) → HasPlace p ns → list_any (λ o. same_place p o.0) (links path ns) ≡ true
has_link p path [] there = absurd there
has_link p path (n ∷ ns) (inl is) = let here : same_place p n.place ≡ true = ap (same_place p) (sym is) ∙ same_self p in rw here refl
has_link p path (n ∷ ns) (inr there) = ap (λ b. same_place p n.place || b) (has_link p (n.place ∷ above n path) ns there) ∙ or-true (same_place p n.place)

module _ (new : Place → Option Place) where
  -- the tree with its places replaced
  pub all_renamed_says : (ns : List Node) → origins_of (nodes_renamed new ns) ≡ all_renamed new (origins_of ns)
  all_renamed_says ns = links-mapped (replaced_by new) [] ns

  -- it is a forest again
  pub all_renamed_forest : (ns : List Node) → is_forest ns ≡ true → StayApart new (origins_of ns) → is_forest (nodes_renamed new ns) ≡ true
  all_renamed_forest ns forest apart =
      let parts = and_parts (are_depths 0 ns) (are_distinct ns) forest in
      and_from _ _ (are_depths-mapped (replaced_by new) 0 ns ∙ parts.0)
      (are_distinct-mapped (replaced_by new) ns parts.1 (λ p q here there. apart p q (has_link p [] ns here) (has_link q [] ns there)))

  -- the nodes so many of which have their new places
  abbrev pub upto : ℕ → List Node → List Node
  upto i ns = nodes_renamed new (take i ns) ++ drop i ns

  -- the next node is as it was
  read_upto : (ns : List Node) (i : ℕ) (d : Node) → get_or (upto i ns) i d ≡ get_or ns i d
  read_upto [] zero d = refl
  read_upto [] (suc i) d = refl
  read_upto (n ∷ ns) zero d = refl
  read_upto (n ∷ ns) (suc i) d = read_upto ns i d

  -- with its new place they are one more
  set_upto : (ns : List Node) (i : ℕ) (d : Node) → i < length ns → set (upto i ns) i (with_place (replaced_by new) (get_or ns i d)) ≡ upto (suc i) ns
  set_upto [] i d within = absurd (omega (arith, within))
  set_upto (n ∷ ns) zero d within = refl
  set_upto (n ∷ ns) (suc i) d within = ap (λ l. with_place (replaced_by new) n ∷ l) (set_upto ns i d (omega (arith, within)))

  -- one node more has its new place, or stays
  pub one_renamed : (ns now : List Node) (i : ℕ) (d : Node) → i < length ns → now ≡ upto i ns → (o : Option Place) → new (get_or now i d).place ≡ o
      → set now i (record { place = unwrap_or o (get_or now i d).place; depth = (get_or now i d).depth }) ≡ upto (i + 1) ns
  one_renamed ns now i d within are o is =
      let next : suc i ≡ i + 1 = omega arith in
      let read : get_or now i d ≡ get_or ns i d = ap (λ (ms : List Node). get_or ms i d) are ∙ read_upto ns i d in
      ap (λ o. set now i (record { place = unwrap_or o (get_or now i d).place; depth = (get_or now i d).depth })) (sym is)
      ∙ ap (λ n. set now i (with_place (replaced_by new) n)) read
      ∙ ap (λ ms. set ms i (with_place (replaced_by new) (get_or ns i d))) are
      ∙ set_upto ns i d within ∙ ap (λ k. upto k ns) next
