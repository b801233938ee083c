-- A visit of a run takes each of its places once, whatever the order.
use Rattle.std.proofs.Common.{◌≡◌, ℕ, ◌+◌, ◌-◌, ◌<◌, ◌≤◌, true, false, Bool, ◌&&◌, ◌||◌, not, List, [], ◌∷◌, ◌++◌, length, drop, take, Option, refl, sym, ap, ◌∙◌, arith, ◌⊎◌, inl, inr}
use Rattle.std.specs.Prelude.{IsFalse}
use Rattle.std.specs.List.{list_any}
use Rattle.std.specs.Option.{option_and_then}
use Rattle.std.proofs.lemmas.Bool.{or_cases, or_left, or_right, and_parts, and_from, false_from_ne_true, not-true, not_from_false, or_parts}
use Rattle.std.proofs.lemmas.List.Folds.{list_any-append}
use Rattle.std.proofs.Math.Bool.{or-false}
use Rattle.fpage.specs.Rights.{no_rights, join}
use Rattle.fpage.specs.declared.rights.Rights.{Rights}
use Rattle.space.specs.declared.place.Place.{Place}
use Rattle.space.specs.declared.shards.Shards.{Shards}
use Rattle.space.specs.Place.{same_place}
use Rattle.space.specs.Shards.{IsPlace, IsSetAt, IsLaidOutAs, entry_at, is_taken}
use Rattle.space.proofs.Places.{same_self, same_or_apart, apart_back}
use Rattle.space.specs.declared.node.Node.{Node}
use Rattle.maptree.specs.Origins.{Origins, Shape, place_at}
use Rattle.model.specs.Definitions.Holdings.{PlaceSet}
use Rattle.holdings.specs.Inner.Held.{links_in}
use Rattle.space.specs.Entries.{narrowed, status_of}
use Rattle.holdings.specs.Inner.Sound.{AreLoose}
use Rattle.holdings.proofs.Trees.Chains.{is_among, among_at}
use Rattle.holdings.proofs.Stripping.Walks.{AreTaken, none_taken, same_taken, one_taken, among_more, not_among, place_any, listed_place}

-- ---- pages whose visit has begun

-- the places of nodes
abbrev pub is_on : List Node → PlaceSet
is_on nodes p = list_any (λ n. same_place p n.place) nodes

-- no two nodes have one place
abbrev pub are_apart : List Node → Bool
are_apart [] = true
are_apart (n ∷ ns) = not (is_on ns n.place) && are_apart ns

on_push : (ns : List Node) (n : Node) (p : Place) → is_on (ns ++ n ∷ []) p ≡ (is_on ns p || same_place p n.place)
on_push ns n p = list_any-append (λ m. same_place p m.place) ns (n ∷ []) ∙ ap (λ b. is_on ns p || b) (or-false (same_place p n.place))

apart_push : (ns : List Node) (n : Node) → are_apart ns ≡ true → is_on ns n.place ≡ false → are_apart (ns ++ n ∷ []) ≡ true
apart_push [] n apart new = refl
apart_push (m ∷ ns) n apart new =
    let parts = and_parts (not (is_on ns m.place)) (are_apart ns) apart in
    let others = or_parts (same_place n.place m.place) (is_on ns n.place) new in
    and_from _ _ (not_from_false _ (on_push ns n m.place ∙ rw (not-true _ parts.0, apart_back n.place m.place others.0) refl)) (apart_push ns n parts.1 others.1)

apart_pop : (ns : List Node) (n : Node) → are_apart (ns ++ n ∷ []) ≡ true → (are_apart ns ≡ true) × (is_on ns n.place ≡ false)
apart_pop [] n apart = (refl, refl)
apart_pop (m ∷ ns) n apart =
    let parts = and_parts (not (is_on (ns ++ n ∷ []) m.place)) (are_apart (ns ++ n ∷ [])) apart in
    let rest = apart_pop ns n parts.1 in
    let others = or_parts (is_on ns m.place) (same_place m.place n.place) (sym (on_push ns n m.place) ∙ not-true _ parts.0) in
    (and_from _ _ (not_from_false _ others.0) rest.0, rw (apart_back m.place n.place others.1) rest.1)

-- ---- the visit so far

-- of the places up to a position of the list, those whose visit has begun and not ended are as they were, the others have lost
pub record IsVisiting (old : Shards) (trees : List Shape) (frame start : ℕ) (c : Place) (a : Rights) (f : Bool) (i : ℕ) (begun : List Node) (now : Shards) (status : Rights) : Type 0 where
  pub taken : AreTaken old trees c a f (λ p. is_among (links_in trees frame) start i p && not (is_on begun p)) now status
  pub among : (p : Place) → is_on begun p ≡ true → is_among (links_in trees frame) start i p ≡ true
  pub apart : are_apart begun ≡ true

module _ (old : Shards) (trees : List Shape) (loose : AreLoose old trees) (frame start : ℕ) (c : Place) (a : Rights) (f : Bool) where
  -- before the first page
  pub visit_begins : IsVisiting old trees frame start c a f start [] old no_rights
  visit_begins = record { taken = none_taken old trees loose c a f (λ p. is_among (links_in trees frame) start start p && not false) nothing; among = λ p is. absurd (cc is); apart = refl }
    where
      nothing : (p : Place) → (is_among (links_in trees frame) start start p && not false) ≡ false
      nothing p = let same : start - start ≡ 0 = omega arith in ap (λ n. list_any (λ (o : Place × Option Place). same_place p o.0) (take n (drop start (links_in trees frame))) && not false) same

  -- the visit of a page begins
  pub visit_pushes : (i : ℕ) (begun : List Node) (n : Node) (now : Shards) (status : Rights) → IsVisiting old trees frame start c a f i begun now status
      → start ≤ i → i < length (links_in trees frame) → ((d : Place) → place_at (links_in trees frame) i d ≡ n.place) → ((j : ℕ) (d : Place) → j < length (links_in trees frame) → place_at (links_in trees frame) j d ≡ n.place → j ≡ i)
      → IsVisiting old trees frame start c a f (i + 1) (begun ++ n ∷ []) now status
  visit_pushes i begun n now status so_far least within place only_there = record {
    taken = same_taken old trees loose c a f (λ p. is_among links start i p && not (is_on begun p)) (λ p. is_among links start (i + 1) p && not (is_on (begun ++ n ∷ []) p)) now status (λ p. same p (same_or_apart p n.place)) so_far.taken;
    among = λ p is. more p ∙ by p (or_cases (is_on begun p) (same_place p n.place) (sym (on_push begun n p) ∙ is));
    apart = apart_push begun n so_far.apart (false_from_ne_true _ (λ is. cc (so_far.among n.place is, new)));
  }
    where
      links : Origins
      links = links_in trees frame

      new : is_among links start i n.place ≡ false
      new = not_among links start i n.place only_there

      more : (p : Place) → is_among links start (i + 1) p ≡ (is_among links start i p || same_place p n.place)
      more p = among_more links start i p n.place least within ∙ ap (λ r. is_among links start i p || same_place p r) (place n.place)

      by : (p : Place) → (is_on begun p ≡ true) ⊎ (same_place p n.place ≡ true) → (is_among links start i p || same_place p n.place) ≡ true
      by p (inl on) = or_left _ _ (so_far.among p on)
      by p (inr same) = or_right _ _ same

      apart_same : (x y : Bool) → (x && not y) ≡ ((x || false) && not (y || false))
      apart_same x y = grind arith

      here_same : (x y : Bool) → x ≡ false → (x && not y) ≡ ((x || true) && not (y || true))
      here_same x y is = grind (arith, is)

      same : (p : Place) → (p ≡ n.place) ⊎ (same_place p n.place ≡ false) → (is_among links start i p && not (is_on begun p)) ≡ (is_among links start (i + 1) p && not (is_on (begun ++ n ∷ []) p))
      same p (inl here) =
          let self : same_place p n.place ≡ true = ap (λ x. same_place x n.place) here ∙ same_self n.place in
          let was : is_among links start i p ≡ false = ap (is_among links start i) here ∙ new in
          rw (more p, on_push begun n p, self) (here_same (is_among links start i p) (is_on begun p) was)
      same p (inr apart) = rw (more p, on_push begun n p, apart) (apart_same (is_among links start i p) (is_on begun p))

  -- and it ends: the page loses
  pub visit_pops : (i : ℕ) (begun : List Node) (n : Node) (now next : Shards) (status more : Rights) (loses : Bool) → IsVisiting old trees frame start c a f i (begun ++ n ∷ []) now status
      → IsPlace old n.place → loses ≡ (f || not (same_place n.place c)) → more ≡ status_of (entry_at now n.place) → IsSetAt now next n.place (option_and_then (narrowed loses a) (entry_at now n.place)) → IsFalse (is_taken next) → IsLaidOutAs now next
      → IsVisiting old trees frame start c a f i begun next (join status more)
  visit_pops i begun n now next status more loses so_far n_place loses_is more_is set present layout =
      let ended = apart_pop begun n so_far.apart in record {
        taken = one_taken old trees loose c a f (λ p. is_among links start i p && not (is_on (begun ++ n ∷ []) p)) (λ p. is_among links start i p && not (is_on begun p)) now next status more n.place loses so_far.taken n_place
            (not_yet (is_among links start i n.place) _ here) (λ p. one p ended.1 (same_or_apart p n.place)) loses_is more_is set present layout;
        among = λ p is. so_far.among p (on_push begun n p ∙ or_left _ _ is);
        apart = ended.0;
      }
    where
      links : Origins
      links = links_in trees frame

      here : is_on (begun ++ n ∷ []) n.place ≡ true
      here = on_push begun n n.place ∙ or_right _ _ (same_self n.place)

      not_yet : (x y : Bool) → y ≡ true → (x && not y) ≡ false
      not_yet x y is = grind (arith, is)

      at_it : (x y z : Bool) → x ≡ true → y ≡ false → (x && not y) ≡ ((x && not (y || true)) || true)
      at_it x y z is other = grind (arith, is, other)

      apart_same : (x y : Bool) → (x && not y) ≡ ((x && not (y || false)) || false)
      apart_same x y = grind arith

      one : (p : Place) → is_on begun n.place ≡ false → (p ≡ n.place) ⊎ (same_place p n.place ≡ false) → (is_among links start i p && not (is_on begun p)) ≡ ((is_among links start i p && not (is_on (begun ++ n ∷ []) p)) || same_place p n.place)
      one p off (inl same) =
          let self : same_place p n.place ≡ true = ap (λ x. same_place x n.place) same ∙ same_self n.place in
          let is : is_among links start i p ≡ true = ap (is_among links start i) same ∙ so_far.among n.place here in
          let other : is_on begun p ≡ false = ap (is_on begun) same ∙ off in
          rw (on_push begun n p, self) (at_it (is_among links start i p) (is_on begun p) true is other)
      one p off (inr apart) = rw (on_push begun n p, apart) (apart_same (is_among links start i p) (is_on begun p))

  -- a page whose visit has begun has a word
  pub begun_place : (i : ℕ) (begun : List Node) (n : Node) (now : Shards) (status : Rights) → IsVisiting old trees frame start c a f i (begun ++ n ∷ []) now status → IsPlace old n.place
  begun_place i begun n now status so_far =
      let there = among_at (links_in trees frame) start i n.place n.place (so_far.among n.place (on_push begun n n.place ∙ or_right _ _ (same_self n.place))) in
      listed_place old trees frame loose there.0 n.place there.3 (λ d. place_any (links_in trees frame) there.0 d n.place there.3 ∙ there.4)

  -- all have ended
  pub visit_ends : (i : ℕ) (now : Shards) (status : Rights) → IsVisiting old trees frame start c a f i [] now status → AreTaken old trees c a f (is_among (links_in trees frame) start i) now status
  visit_ends i now status so_far = same_taken old trees loose c a f (λ p. is_among (links_in trees frame) start i p && not false) (is_among (links_in trees frame) start i) now status (λ p. and_true (is_among (links_in trees frame) start i p)) so_far.taken
    where
      and_true : (x : Bool) → (x && not false) ≡ x
      and_true x = grind arith
