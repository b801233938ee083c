-- Lists that were found equal are one.
use Rattle.std.proofs.Common.{◌≡◌, true, Bool, ◌&&◌, ◌==◌, [], ◌∷◌, Option, Some, None, refl, sym, ap, ◌∙◌}
use Rattle.std.specs.Cmp.Lexicographic.{pointwise}
use Rattle.std.specs.Option.{option_eq}
use Rattle.std.proofs.lemmas.Bool.{and_parts, not-false, eqb-true}
use Rattle.space.specs.declared.place.Place.{Place}
use Rattle.maptree.specs.Origins.{Origins}
use Rattle.page_tests.proofs.trees.assert_links.Goals as goal

-- what == tests of two places
abbrev equal : Place → Place → Bool
equal p q = p.space == q.space && p.page == q.page

-- places that are equal are one
equal_is : (p q : Place) → equal p q ≡ true → p ≡ q
equal_is p q same =
    let parts = and_parts (p.space == q.space) (p.page == q.page) same in
    let space = eqb-true p.space q.space parts.0 in
    let page = eqb-true p.page q.page parts.1 in
    λ i. record { space = space i; page = page i }

-- so are origins
origin_is : (o p : Option Place) → option_eq equal o p ≡ true → o ≡ p
origin_is None None same = refl
origin_is None (Some q) same = absurd (cc same)
origin_is (Some p) None same = absurd (cc same)
origin_is (Some p) (Some q) same = ap Some (equal_is p q same)

-- so are lists of places with their origins
links_are : (xs ys : Origins) → pointwise (λ x y. equal x.0 y.0 && option_eq equal x.1 y.1) xs ys ≡ true → xs ≡ ys
links_are [] [] same = refl
links_are [] (y ∷ ys) same = absurd (cc same)
links_are (x ∷ xs) [] same = absurd (cc same)
links_are (x ∷ xs) (y ∷ ys) same =
    let parts = and_parts (equal x.0 y.0 && option_eq equal x.1 y.1) (pointwise (λ x y. equal x.0 y.0 && option_eq equal x.1 y.1) xs ys) same in
    let both = and_parts (equal x.0 y.0) (option_eq equal x.1 y.1) parts.0 in
    let place = equal_is x.0 y.0 both.0 in
    let origin = origin_is x.1 y.1 both.1 in
    let head : x ≡ y = λ i. (place i, origin i) in
    ap (λ z. z ∷ xs) head ∙ ap (λ l. y ∷ l) (links_are xs ys parts.1)

pub returns : goal.returns
returns g c =
    let same : pointwise (λ (x y : Place × Option Place). equal x.0 y.0 && option_eq equal x.1 y.1) c.as_slice.result.now c.args.expected.now ≡ true = not-false _ (sym c.ne.ensures ∙ c.if-ne.false) in
    sym c.in_ok-links.ensures.links ∙ sym c.as_slice.ensures.value ∙ links_are c.as_slice.result.now c.args.expected.now same
