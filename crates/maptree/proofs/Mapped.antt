-- Each place of a list of nodes mapped by a function: depths stay, and the places of the tree are mapped.
use Rattle.std.proofs.Common.{◌≡◌, ℕ, zero, suc, ◌+◌, ◌-◌, true, false, not, nat_le, ◌&&◌, List, [], ◌∷◌, length, drop, map, option_map, refl, ap, ◌∙◌, ◌⊎◌, inl, inr}
use Rattle.std.proofs.lemmas.Bool.{and_parts, and_from}
use Rattle.space.specs.declared.place.Place.{Place}
use Rattle.space.specs.Place.{same_place}
use Rattle.space.proofs.Places.{same_self, same_or_apart}
use Rattle.space.specs.declared.node.Node.{Node}
use Rattle.maptree.specs.Nodes.{are_depths, is_new, are_distinct, above, first, links}
use Rattle.maptree.proofs.Paths.{HasPlace, new_apart}

-- a node with its place mapped
abbrev pub with_place : (Place → Place) → Node → Node
with_place f n = record { place = f n.place; depth = n.depth }

module _ (f : Place → Place) where
  -- the end of a path mapped
  drop-mapped : (k : ℕ) (path : List Place) → drop k (map f path) ≡ map f (drop k path)
  drop-mapped zero path = refl
  drop-mapped (suc k) [] = refl
  drop-mapped (suc k) (x ∷ path) = drop-mapped k path

  -- a path mapped is as long
  length-mapped : (path : List Place) → length (map f path) ≡ length path
  length-mapped [] = refl
  length-mapped (x ∷ path) = ap suc (length-mapped path)

  -- the first of a path mapped
  first-mapped : (path : List Place) → first (map f path) ≡ option_map f (first path)
  first-mapped [] = refl
  first-mapped (x ∷ path) = refl

  -- the origins of a node mapped
  above-mapped : (n : Node) (path : List Place) → above (with_place f n) (map f path) ≡ map f (above n path)
  above-mapped n path = ap (λ k. drop (k - n.depth) (map f path)) (length-mapped path) ∙ drop-mapped (length path - n.depth) path

  -- the places with their origins
  pub links-mapped : (path : List Place) (ns : List Node) → links (map f path) (map (with_place f) ns) ≡ map (λ o. (f o.0, option_map f o.1)) (links path ns)
  links-mapped path [] = refl
  links-mapped path (n ∷ ns) =
      let up = above-mapped n path in
      let head : first (above (with_place f n) (map f path)) ≡ option_map f (first (above n path)) = ap first up ∙ first-mapped (above n path) in
      let rest : links (f n.place ∷ above (with_place f n) (map f path)) (map (with_place f) ns) ≡ map (λ o. (f o.0, option_map f o.1)) (links (n.place ∷ above n path) ns) =
      ap (λ x. links (f n.place ∷ x) (map (with_place f) ns)) up ∙ links-mapped (n.place ∷ above n path) ns in
      ap (λ o. (f n.place, o) ∷ links (f n.place ∷ above (with_place f n) (map f path)) (map (with_place f) ns)) head
      ∙ ap (λ l. (f n.place, option_map f (first (above n path))) ∷ l) rest

  -- depths stay
  pub are_depths-mapped : (most : ℕ) (ns : List Node) → are_depths most (map (with_place f) ns) ≡ are_depths most ns
  are_depths-mapped most [] = refl
  are_depths-mapped most (n ∷ ns) = ap (λ b. nat_le n.depth most && b) (are_depths-mapped (n.depth + 1) ns)

  -- a place that is no node's, and becomes no node's, stays so
  is_new-mapped : (x : Place) (ns : List Node) → is_new x ns ≡ true → ((q : Place) → HasPlace q ns → f x ≡ f q → x ≡ q) → is_new (f x) (map (with_place f) ns) ≡ true
  is_new-mapped x [] new apart = refl
  is_new-mapped x (n ∷ ns) new apart =
      let rest = (and_parts (not (same_place x n.place)) (is_new x ns) new).1 in
      and_from _ _ (ap not (other (same_or_apart (f x) (f n.place)))) (is_new-mapped x ns rest (λ q there. apart q (inr there)))
    where
      other : (f x ≡ f n.place) ⊎ (same_place (f x) (f n.place) ≡ false) → same_place (f x) (f n.place) ≡ false
      other (inr differ) = differ
      other (inl same) =
          let one : x ≡ n.place = apart n.place (inl refl) same in
          absurd (cc (new_apart x n.place (n ∷ ns) new (inl refl), ap (same_place x) one, same_self x))

  -- where no two places become one, they stay distinct
  pub are_distinct-mapped : (ns : List Node) → are_distinct ns ≡ true → ((p q : Place) → HasPlace p ns → HasPlace q ns → f p ≡ f q → p ≡ q) → are_distinct (map (with_place f) ns) ≡ true
  are_distinct-mapped [] distinct apart = refl
  are_distinct-mapped (n ∷ ns) distinct apart =
      let parts = and_parts (is_new n.place ns) (are_distinct ns) distinct in
      and_from _ _ (is_new-mapped n.place ns parts.0 (λ q there. apart n.place q (inl refl) (inr there))) (are_distinct-mapped ns parts.1 (λ p q here there. apart p q (inr here) (inr there)))
