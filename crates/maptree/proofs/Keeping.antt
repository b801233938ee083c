-- A list of nodes without those that are left out, where no node is kept whose origin is not.
use Rattle.std.proofs.Common.{◌≡◌, ℕ, zero, suc, ◌+◌, ◌-◌, ◌≤◌, ◌<◌, true, false, Bool, not, nat_le, if◌then◌else◌, List, [], ◌∷◌, length, drop, filter, Some, refl, sym, ap, ◌∙◌, subst, arith, ◌⊎◌, inl, inr}
use Rattle.std.proofs.lemmas.Bool.{and_parts, and_from, leb-true, le-leb, cases_order}
use Rattle.std.proofs.lemmas.List.{length-drop}
use Rattle.space.specs.declared.place.Place.{Place}
use Rattle.space.specs.Place.{same_place}
use Rattle.space.specs.declared.node.Node.{Node}
use Rattle.maptree.specs.Origins.{Origins, origin_in}
use Rattle.maptree.specs.Nodes.{are_depths, is_new, are_distinct, is_forest, above, first, links, origins_of}
use Rattle.maptree.proofs.Paths.{Agrees, agrees}
use Rattle.maptree.proofs.Cuttings.{drop_drop}

-- the last so many places of a path
abbrev pub last : ℕ → List Place → List Place
last k path = drop (length path - k) path

module _ (keep : Place → Bool) where
  -- all places of a path are kept
  abbrev pub AllKept : List Place → Type 0
  AllKept [] = Unit {0}
  AllKept (p ∷ path) = (keep p ≡ true) × AllKept path

  -- where a place of a path is kept, so are those behind it
  abbrev pub IsClosed : List Place → Type 0
  IsClosed [] = Unit {0}
  IsClosed (p ∷ path) = (keep p ≡ true → AllKept path) × IsClosed path

  -- where a node is kept, so is its origin
  abbrev pub KeepsOrigins : List Place → List Node → Type 0
  KeepsOrigins path [] = Unit {0}
  KeepsOrigins path (n ∷ ns) = ((o : Place) → first (above n path) ≡ Some o → keep n.place ≡ true → keep o ≡ true) × KeepsOrigins (n.place ∷ above n path) ns

  -- what is kept of the end of a path is the end of another
  abbrev pub Ends : List Place → List Place → Type 0
  Ends path kept = (k : ℕ) → k ≤ length path → AllKept (last k path) → (k ≤ length kept) × (last k kept ≡ last k path)

  closed_drop : (k : ℕ) (path : List Place) → IsClosed path → IsClosed (drop k path)
  closed_drop zero path closed = closed
  closed_drop (suc k) [] closed = tt
  closed_drop (suc k) (p ∷ path) closed = closed_drop k path closed.1

  -- all origins of a kept node are kept
  all_kept : (p : Place) (path : List Place) → ((o : Place) → first path ≡ Some o → keep p ≡ true → keep o ≡ true) → IsClosed path → keep p ≡ true → AllKept path
  all_kept p [] one closed is = tt
  all_kept p (o ∷ path) one closed is = let next = one o refl is in (next, closed.0 next)

  -- the end of a longer path's end
  last_last : (j k : ℕ) (path : List Place) → j ≤ k → k ≤ length path → last j (last k path) ≡ last j path
  last_last j k path less within =
      let size = length-drop (length path - k) path in
      let sum : length path - k + (length (last k path) - j) ≡ length path - j = omega (arith, size, less, within) in
      drop_drop (length path - k) (length (last k path) - j) path ∙ ap (λ n. drop n path) sum

  last_more : (k : ℕ) (p : Place) (path : List Place) → k ≤ length path → last k (p ∷ path) ≡ last k path
  last_more k p path within = let one : length (p ∷ path) - k ≡ suc (length path - k) = omega (arith, within) in ap (λ n. drop n (p ∷ path)) one

  last_all : (path : List Place) → last (length path) path ≡ path
  last_all path = let none : length path - length path ≡ 0 = omega arith in ap (λ n. drop n path) none

  abbrev pub kept : List Node → List Node
  kept ns = filter (λ n. keep n.place) ns

  pub kept_says : (path short : List Place) (ns : List Node) → Ends path short → IsClosed path → KeepsOrigins path ns → are_depths (length path) ns ≡ true
      → (are_depths (length short) (kept ns) ≡ true) × (links short (kept ns) ≡ filter (λ o. keep o.0) (links path ns))
  kept_says path short [] ends closed keeps depths = (refl, refl)
  kept_says path short (n ∷ ns) ends closed keeps depths =
      by (keep n.place) refl (λ short ends. kept_says (n.place ∷ above n path) short ns ends closed_next keeps.1 rest_depths)
    where
      parts : (nat_le n.depth (length path) ≡ true) × (are_depths (n.depth + 1) ns ≡ true)
      parts = and_parts (nat_le n.depth (length path)) (are_depths (n.depth + 1) ns) depths

      within : n.depth ≤ length path
      within = leb-true n.depth (length path) parts.0

      size : length (n.place ∷ above n path) ≡ n.depth + 1
      size = let dropped = length-drop (length path - n.depth) path in omega (arith, dropped, within)

      rest_depths : are_depths (length (n.place ∷ above n path)) ns ≡ true
      rest_depths = rw size parts.1

      next_closed : keep n.place ≡ true → AllKept (above n path)
      next_closed is = all_kept n.place (above n path) keeps.0 (closed_drop (length path - n.depth) path closed) is

      closed_next : IsClosed (n.place ∷ above n path)
      closed_next = (next_closed, closed_drop (length path - n.depth) path closed)

      -- the node goes: the path to the next is longer, and no kept end is
      gone : keep n.place ≡ false → Ends (n.place ∷ above n path) short
      gone is k upto all = by_size (k_cases k)
        where
          k_cases : (k : ℕ) → (k ≤ n.depth) ⊎ (n.depth < k)
          k_cases k = by_order (cases_order k n.depth)
            where
              by_order : (k ≡ n.depth) ⊎ ((k < n.depth) ⊎ (n.depth < k)) → (k ≤ n.depth) ⊎ (n.depth < k)
              by_order (inl same) = inl (omega (arith, same))
              by_order (inr (inl less)) = inl (omega (arith, less))
              by_order (inr (inr more)) = inr more

          by_size : (k ≤ n.depth) ⊎ (n.depth < k) → (k ≤ length short) × (last k short ≡ last k (n.place ∷ above n path))
          by_size (inl less) =
              let shorter : k ≤ length (above n path) = omega (arith, less, size) in
              let same : last k (n.place ∷ above n path) ≡ last k path = last_more k n.place (above n path) shorter ∙ last_last k n.depth path less within in
              let end = ends k (omega (arith, less, within)) (subst AllKept same all) in
              (end.0, end.1 ∙ sym same)
          by_size (inr more) =
              let whole : k ≡ length (n.place ∷ above n path) = omega (arith, more, upto, size) in
              let first_kept : AllKept (n.place ∷ above n path) = subst AllKept (ap (λ j. last j (n.place ∷ above n path)) whole ∙ last_all (n.place ∷ above n path)) all in
              absurd (cc (first_kept.0, is))

      by : (b : Bool) → keep n.place ≡ b
          → ((short : List Place) → Ends (n.place ∷ above n path) short → (are_depths (length short) (kept ns) ≡ true) × (links short (kept ns) ≡ filter (λ o. keep o.0) (links (n.place ∷ above n path) ns)))
          → (are_depths (length short) (if b then n ∷ kept ns else kept ns) ≡ true)
          × (links short (if b then n ∷ kept ns else kept ns) ≡ (if b then (n.place, first (above n path)) ∷ filter (λ o. keep o.0) (links (n.place ∷ above n path) ns) else filter (λ o. keep o.0) (links (n.place ∷ above n path) ns)))
      by true is others =
          let end = ends n.depth within (next_closed is) in
          let rest = others (n.place ∷ above n path) (λ k upto all. (upto, refl)) in (
            and_from _ _ (le-leb n.depth (length short) end.0) (subst (λ k. are_depths k (kept ns) ≡ true) size rest.0),
            ap (λ path. (n.place, first path) ∷ links (n.place ∷ path) (kept ns)) end.1 ∙ ap (λ os. (n.place, first (above n path)) ∷ os) rest.1,
          )
      by false is others = others short (gone is)

  -- no place comes twice among those kept
  new_kept : (p : Place) (ns : List Node) → is_new p ns ≡ true → is_new p (kept ns) ≡ true
  new_kept p [] new = refl
  new_kept p (n ∷ ns) new =
      let parts = and_parts (not (same_place p n.place)) (is_new p ns) new in
      by (keep n.place) parts.0 (new_kept p ns parts.1)
    where
      by : (b : Bool) → not (same_place p n.place) ≡ true → is_new p (kept ns) ≡ true → is_new p (if b then n ∷ kept ns else kept ns) ≡ true
      by true here rest = and_from _ _ here rest
      by false here rest = rest

  distinct_kept : (ns : List Node) → are_distinct ns ≡ true → are_distinct (kept ns) ≡ true
  distinct_kept [] distinct = refl
  distinct_kept (n ∷ ns) distinct =
      let parts = and_parts (is_new n.place ns) (are_distinct ns) distinct in
      by (keep n.place) (new_kept n.place ns parts.0) (distinct_kept ns parts.1)
    where
      by : (b : Bool) → is_new n.place (kept ns) ≡ true → are_distinct (kept ns) ≡ true → are_distinct (if b then n ∷ kept ns else kept ns) ≡ true
      by true here rest = and_from _ _ here rest
      by false here rest = rest

  -- origins are kept, as the tree has them
  keeps_origins : (os : Origins) (path : List Place) (ns : List Node) → Agrees os path ns → ((p o : Place) → origin_in os p ≡ Some o → keep p ≡ true → keep o ≡ true) → KeepsOrigins path ns
  keeps_origins os path [] agree keeps = tt
  keeps_origins os path (n ∷ ns) agree keeps = ((λ o is. keeps n.place o (agree.0 ∙ is)), keeps_origins os (n.place ∷ above n path) ns agree.1 keeps)

  -- what is kept of a forest is a forest, and its tree is what is kept of the tree
  pub kept_forest : (ns : List Node) → is_forest ns ≡ true → ((p o : Place) → origin_in (origins_of ns) p ≡ Some o → keep p ≡ true → keep o ≡ true)
      → (is_forest (kept ns) ≡ true) × (origins_of (kept ns) ≡ filter (λ o. keep o.0) (origins_of ns))
  kept_forest ns forest keeps =
      let parts = and_parts (are_depths 0 ns) (are_distinct ns) forest in
      let agree = agrees (origins_of ns) [] ns parts.1 (λ p k. refl) in
      let says = kept_says [] [] ns (λ k upto all. (upto, refl)) tt (keeps_origins (origins_of ns) [] ns agree keeps) parts.0 in
      (and_from _ _ says.0 (distinct_kept ns parts.1), says.1)
