-- A list of nodes of which many get another place, one after another.
use Rattle.std.proofs.Common.{◌≡◌, ◌≢◌, ℕ, ◌+◌, ◌-◌, ◌≤◌, ◌==◌, ◌&&◌, nat_le, nat_lt, Bool, true, false, List, [], ◌∷◌, length, get_or, Option, Some, None, unwrap_or, refl, sym, ap, ◌∙◌, arith, ◌⊎◌, inl, inr, if◌then◌else◌}
use Rattle.std.proofs.lemmas.List.{get_or_past}
use Rattle.std.proofs.lemmas.Bool.Decides.{nat_tests}
use Rattle.space.specs.declared.place.Place.{Place}
use Rattle.space.specs.Place.{same_place}
use Rattle.space.proofs.Places.{same_self, same_or_apart}
use Rattle.space.specs.declared.node.Node.{Node}
use Rattle.maptree.specs.Nodes.{are_distinct, origins_of}
use Rattle.maptree.specs.PlaceMaps.{Places, place_for, IsApart}
use Rattle.maptree.specs.Renamings.{replaced_by, nodes_renamed, StayApart}
use Rattle.maptree.proofs.Paths.{HasPlace}
use Rattle.maptree.proofs.Mapped.{with_place, are_distinct-mapped}
use Rattle.maptree.proofs.ManyRenamed.{has_link}

-- what two maps do one after the other, a third does
composed : (a b c : Place → Option Place) → ((p : Place) → replaced_by a (replaced_by b p) ≡ replaced_by c p) → (ns : List Node) → nodes_renamed a (nodes_renamed b ns) ≡ nodes_renamed c ns
composed a b c each [] = refl
composed a b c each (n ∷ ns) = ap (λ x. record { place = x; depth = n.depth } ∷ nodes_renamed a (nodes_renamed b ns)) (each n.place) ∙ ap (λ l. with_place (replaced_by c) n ∷ l) (composed a b c each ns)

-- maps with the same places do the same
pub alike : (a b : Place → Option Place) → ((p : Place) → a p ≡ b p) → (ns : List Node) → nodes_renamed a ns ≡ nodes_renamed b ns
alike a b each [] = refl
alike a b each (n ∷ ns) = ap (λ o. record { place = unwrap_or o n.place; depth = n.depth } ∷ nodes_renamed a ns) (each n.place) ∙ ap (λ l. with_place (replaced_by b) n ∷ l) (alike a b each ns)

-- a map with no places does nothing
pub unchanged : (a : Place → Option Place) → ((p : Place) → a p ≡ None) → (ns : List Node) → ns ≡ nodes_renamed a ns
unchanged a none [] = refl
unchanged a none (n ∷ ns) = ap (λ l. n ∷ l) (unchanged a none ns) ∙ ap (λ o. record { place = unwrap_or o n.place; depth = n.depth } ∷ nodes_renamed a ns) (sym (none n.place))

module _ (new : Places) where
  -- the places for the first so many pages
  abbrev pub for_first : ℕ → Place → Option Place
  for_first k p = if nat_lt p.page (new.first + k) then place_for new p else None

  -- they are places of the map
  pub in_map : (k : ℕ) (p q : Place) → for_first k p ≡ Some q → place_for new p ≡ Some q
  in_map k p q = by (nat_lt p.page (new.first + k))
    where
      by : (b : Bool) → (if b then place_for new p else None) ≡ Some q → place_for new p ≡ Some q
      by true is = is
      by false is = absurd (cc is)

  -- of no pages there are none
  pub for_none : (p : Place) → for_first 0 p ≡ None
  for_none p = by (nat_lt p.page (new.first + 0)) refl
    where
      low : (b c : Bool) → c ≡ false → (if b && c then get_or new.places (p.page - new.first) None else None) ≡ None
      low true true is = absurd (cc is)
      low true false is = refl
      low false c is = refl

      by : (b : Bool) → nat_lt p.page (new.first + 0) ≡ b → (if b then place_for new p else None) ≡ None
      by false is = refl
      by true is = low (p.space == new.space) (nat_le new.first p.page) (grind (arith, nat_tests, is))

  -- of all pages there are all
  pub for_all : (p : Place) → for_first (length new.places) p ≡ place_for new p
  for_all p = by (nat_lt p.page (new.first + length new.places)) refl
    where
      high : (b c : Bool) → length new.places ≤ p.page - new.first → None ≡ (if b && c then get_or new.places (p.page - new.first) None else None)
      high true true past = sym (get_or_past new.places (p.page - new.first) None past)
      high true false past = refl
      high false c past = refl

      by : (b : Bool) → nat_lt p.page (new.first + length new.places) ≡ b → (if b then place_for new p else None) ≡ place_for new p
      by true is = refl
      by false is = high (p.space == new.space) (nat_le new.first p.page) (grind (arith, nat_tests, is))

  module _ (k : ℕ) (key : Place) (space : key.space ≡ new.space) (page : key.page ≡ new.first + k) where
    -- the next page has none yet
    not_yet : for_first k key ≡ None
    not_yet = let past : nat_lt key.page (new.first + k) ≡ false = grind (arith, nat_tests, page) in rw past refl

    -- and then has that of the map
    now_has : for_first (k + 1) key ≡ place_for new key
    now_has = let within : nat_lt key.page (new.first + (k + 1)) ≡ true = grind (arith, nat_tests, page) in rw within refl

    -- the others have what they had
    others : (p : Place) → same_place p key ≡ false → for_first (k + 1) p ≡ for_first k p
    others p apart = by (p.space == new.space) refl
      where
        elsewhere : (b c d : Bool) (o : Option Place) → (if b then (if false && d then o else None) else None) ≡ (if c then (if false && d then o else None) else None)
        elsewhere true true d o = refl
        elsewhere true false d o = refl
        elsewhere false true d o = refl
        elsewhere false false d o = refl

        differs : (p.space == new.space) ≡ true → p.page ≢ new.first + k
        differs there = λ same.
            let space_same : p.space ≡ key.space = grind (arith, nat_tests, there, space) in
            let page_same : p.page ≡ key.page = omega (arith, same, page) in
            let one : p ≡ key = λ i. record { space = space_same i; page = page_same i } in
            cc (apart, ap (λ q. same_place q key) one, same_self key)

        by : (b : Bool) → (p.space == new.space) ≡ b → for_first (k + 1) p ≡ for_first k p
        by false is = rw is (elsewhere (nat_lt p.page (new.first + (k + 1))) (nat_lt p.page (new.first + k)) (nat_le new.first p.page) (get_or new.places (p.page - new.first) None))
        by true is =
            let differ = differs is in
            let same : nat_lt p.page (new.first + (k + 1)) ≡ nat_lt p.page (new.first + k) = grind (arith, nat_tests, differ) in
            ap (λ b. if b then place_for new p else None) same

    -- where the map has none for the page, nothing changes
    pub none_more : place_for new key ≡ None → (p : Place) → for_first k p ≡ for_first (k + 1) p
    none_more none p = by (same_or_apart p key)
      where
        by : (p ≡ key) ⊎ (same_place p key ≡ false) → for_first k p ≡ for_first (k + 1) p
        by (inl is) = ap (for_first k) is ∙ not_yet ∙ sym (now_has ∙ none) ∙ ap (for_first (k + 1)) (sym is)
        by (inr apart) = sym (others p apart)

    -- one page more whose place has none
    pub ends_more : ((p q : Place) → for_first k p ≡ Some q → place_for new q ≡ None) → ((q : Place) → place_for new key ≡ Some q → place_for new q ≡ None) → (p q : Place) → for_first (k + 1) p ≡ Some q → place_for new q ≡ None
    ends_more before here p q is = by (same_or_apart p key)
      where
        by : (p ≡ key) ⊎ (same_place p key ≡ false) → place_for new q ≡ None
        by (inl one) = here q (sym now_has ∙ ap (for_first (k + 1)) (sym one) ∙ is)
        by (inr apart) = before p q (sym (others p apart) ∙ is)

    module _ (place : Place) (has : place_for new key ≡ Some place) (alone : IsApart (place_for new)) where
      single : Place → Option Place
      single x = if same_place x key then Some place else None

      -- no other place becomes that of the page
      not_key : (p t : Place) → for_first k p ≡ Some t → same_place t key ≡ false
      not_key p t is = by (same_or_apart t key)
        where
          by : (t ≡ key) ⊎ (same_place t key ≡ false) → same_place t key ≡ false
          by (inr apart) = apart
          by (inl one) = absurd (cc (alone p t (in_map k p t is), ap (place_for new) one, has))

      -- first those before, and then this one
      one_on : (p : Place) → replaced_by single (replaced_by (for_first k) p) ≡ replaced_by (for_first (k + 1)) p
      unfolding single
      one_on p = by (same_or_apart p key)
        where
          stays : (x : Place) → same_place x key ≡ false → replaced_by single x ≡ x
          stays x apart = rw apart refl

          apart_from : (o : Option Place) → for_first k p ≡ o → same_place p key ≡ false → replaced_by single (unwrap_or o p) ≡ unwrap_or o p
          apart_from None is apart = stays p apart
          apart_from (Some t) is apart = stays t (not_key p t is)

          here : replaced_by single (replaced_by (for_first k) key) ≡ replaced_by (for_first (k + 1)) key
          here =
              let self = same_self key in
              let gets : replaced_by single key ≡ place = rw self refl in
              ap (λ o. replaced_by single (unwrap_or o key)) not_yet ∙ gets ∙ ap (λ o. unwrap_or o key) (sym (now_has ∙ has))

          by : (p ≡ key) ⊎ (same_place p key ≡ false) → replaced_by single (replaced_by (for_first k) p) ≡ replaced_by (for_first (k + 1)) p
          by (inl is) = ap (λ x. replaced_by single (replaced_by (for_first k) x)) is ∙ here ∙ ap (λ x. replaced_by (for_first (k + 1)) x) (sym is)
          by (inr apart) = apart_from (for_first k p) refl apart ∙ ap (λ o. unwrap_or o p) (sym (others p apart))

      -- so the nodes are those with one page more
      pub one_more : (ns now next : List Node) → now ≡ nodes_renamed (for_first k) ns
          → ((a : Place → Option Place) → ((x : Place) → a x ≡ (if same_place x key then Some place else None)) → next ≡ nodes_renamed a now) → next ≡ nodes_renamed (for_first (k + 1)) ns
      unfolding single
      one_more ns now next are is = is single (λ x. refl) ∙ ap (nodes_renamed single) are ∙ composed single (for_first k) (for_first (k + 1)) one_on ns

  -- on the way no two places become one
  pub stay_distinct : (k : ℕ) (ns now : List Node) → now ≡ nodes_renamed (for_first k) ns → are_distinct ns ≡ true → IsApart (place_for new) → StayApart (place_for new) (origins_of ns) → are_distinct now ≡ true
  stay_distinct k ns now are distinct alone apart =
      ap are_distinct are ∙ are_distinct-mapped (replaced_by (for_first k)) ns distinct (λ p q here there same. by p q here there (for_first k p) (for_first k q) refl refl same)
    where
      whole : (p : Place) (o : Option Place) → place_for new p ≡ o → replaced_by (place_for new) p ≡ unwrap_or o p
      whole p o is = ap (λ o. unwrap_or o p) is

      by : (p q : Place) → HasPlace p ns → HasPlace q ns → (a b : Option Place) → for_first k p ≡ a → for_first k q ≡ b → unwrap_or a p ≡ unwrap_or b q → p ≡ q
      by p q here there None None is_p is_q same = same
      by p q here there (Some s) (Some t) is_p is_q same =
          apart p q (has_link p [] ns here) (has_link q [] ns there) (whole p (Some s) (in_map k p s is_p) ∙ same ∙ sym (whole q (Some t) (in_map k q t is_q)))
      by p q here there (Some s) None is_p is_q same =
          let none : place_for new q ≡ None = ap (place_for new) (sym same) ∙ alone p s (in_map k p s is_p) in
          apart p q (has_link p [] ns here) (has_link q [] ns there) (whole p (Some s) (in_map k p s is_p) ∙ same ∙ sym (whole q None none))
      by p q here there None (Some t) is_p is_q same =
          let none : place_for new p ≡ None = ap (place_for new) same ∙ alone q t (in_map k q t is_q) in
          apart p q (has_link p [] ns here) (has_link q [] ns there) (whole p None none ∙ same ∙ sym (whole q (Some t) (in_map k q t is_q)))
