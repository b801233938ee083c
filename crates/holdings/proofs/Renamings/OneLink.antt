-- One page that moves, in the tree of its frame.
use Rattle.std.proofs.Common.{◌≡◌, ℕ, ◌<◌, ◌==◌, ◌||◌, true, false, Bool, [], ◌∷◌, List, length, Option, Some, None, option_map, unwrap_or, if◌then◌else◌, refl, sym, ap, ◌∙◌, subst, ◌⊎◌, inl, inr}
use Rattle.std.proofs.lemmas.Bool.{eqb-true, eq-eqb}
use Rattle.std.proofs.lemmas.List.Elements.{All-head}
use Rattle.space.specs.declared.place.Place.{Place}
use Rattle.space.specs.Place.{same_place}
use Rattle.space.proofs.Places.{same_self, same_or_apart, apart_back}
use Rattle.maptree.specs.Origins.{Shape, Origins, swapped, renamed}
use Rattle.maptree.specs.Renamings.{replaced_by, all_renamed}
use Rattle.holdings.specs.Inner.Derivation.{stands_in}
use Rattle.holdings.specs.Inner.Held.{links_in, is_listed}
use Rattle.holdings.specs.Inner.Links.{IsTreeSet, last_target}
use Rattle.holdings.specs.Inner.Renamings.{AreMovable, AreRenamed}
use Rattle.holdings.specs.declared.link.Link.{Link}

module _ (trees : List Shape) (l : Link) (movable : AreMovable trees (l ∷ [])) where
  abbrev new : Place → Option Place
  new p = last_target (l ∷ []) p None

  pub frame_there : l.frame < length trees
  frame_there = All-head (λ (m : Link). m.frame < length trees) l [] movable.frames

  pub source_there : stands_in (links_in trees l.frame) l.source ≡ true
  source_there = All-head (λ (m : Link). is_listed trees m.frame m.source ≡ true) l [] movable.there

  -- the target stands for the source, and for itself
  for_source : replaced_by new l.source ≡ l.target
  for_source = ap (λ b. unwrap_or (if b then Some l.target else None) l.source) (same_self l.source)

  for_target : replaced_by new l.target ≡ l.target
  for_target = by (same_place l.target l.source)
    where
      by : (b : Bool) → unwrap_or (if b then Some l.target else None) l.target ≡ l.target
      by true = refl
      by false = refl

  -- so it stands nowhere in the tree, since it is in another space
  pub target_free : stands_in (links_in trees l.frame) l.target ≡ false
  target_free = by (stands_in (links_in trees l.frame) l.target) refl
    where
      by : (b : Bool) → stands_in (links_in trees l.frame) l.target ≡ b → stands_in (links_in trees l.frame) l.target ≡ false
      by false is = is
      by true is =
          let one : l.source ≡ l.target = movable.apart l.frame l.source l.target source_there is (for_source ∙ sym for_target) in
          let from : l.source.space ≡ movable.space = All-head (λ (m : Link). m.source.space ≡ movable.space) l [] movable.sources in
          absurd (All-head (λ (m : Link). m.target.space ≡ movable.space → ⊥) l [] movable.targets (ap (λ (p : Place). p.space) (sym one) ∙ from))

  -- the one place is replaced, as all would be
  one_swapped : (x : Place) → swapped l.source l.target x ≡ replaced_by new x
  one_swapped x = by (same_or_apart l.source x)
    where
      by : (l.source ≡ x) ⊎ (same_place l.source x ≡ false) → swapped l.source l.target x ≡ replaced_by new x
      by (inl one) =
          subst (λ (y : Place). swapped l.source l.target y ≡ replaced_by new y) one
          (ap (λ b. if b then l.target else l.source) (same_self l.source) ∙ sym for_source)
      by (inr apart) =
          ap (λ b. if b then l.target else x) apart ∙ sym (ap (λ b. unwrap_or (if b then Some l.target else None) x) (apart_back l.source x apart))

  one_is_all : (os : Origins) → renamed l.source l.target os ≡ all_renamed new os
  one_is_all [] = refl
  one_is_all (o ∷ os) = λ i. (one_swapped o.0 i, by o.1 i) ∷ one_is_all os i
    where
      by : (m : Option Place) → option_map (swapped l.source l.target) m ≡ option_map (replaced_by new) m
      by None = refl
      by (Some p) = ap Some (one_swapped p)

  -- the trees after it
  pub one_renamed : (after : List Shape) → IsTreeSet trees after l.frame (renamed l.source l.target (links_in trees l.frame)) → AreRenamed new (l ∷ []) trees after
  one_renamed after set = record {
    count = set.count;
    there = λ f some. here f (eqb-true l.frame f (whole (l.frame == f) some));
    elsewhere = λ f none. set.elsewhere f (λ same. cc (none, ap (λ b. b || false) (eq-eqb l.frame f (sym same))));
  }
    where
      whole : (b : Bool) → (b || false) ≡ true → b ≡ true
      whole true is = refl
      whole false is = absurd (cc is)

      here : (f : ℕ) → l.frame ≡ f → links_in after f ≡ all_renamed new (links_in trees f)
      here f same = subst (λ k. links_in after k ≡ all_renamed new (links_in trees k)) same (set.there ∙ one_is_all (links_in trees l.frame))
