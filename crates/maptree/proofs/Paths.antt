-- The path to a node is its chain of origins.
use Rattle.std.proofs.Common.{◌≡◌, ℕ, zero, suc, ◌≤◌, true, false, Bool, not, List, [], ◌∷◌, drop, Some, refl, sym, ap, ◌∙◌, arith, ◌⊎◌, inl, inr}
use Rattle.std.specs.FinMap.Entries.{find}
use Rattle.std.specs.Option.{option_and_then}
use Rattle.std.proofs.lemmas.Bool.{and_parts}
use Rattle.space.specs.declared.place.Place.{Place}
use Rattle.space.specs.Place.{place_cmp, same_place}
use Rattle.space.proofs.Places.{same_self, apart_back}
use Rattle.space.specs.declared.node.Node.{Node}
use Rattle.maptree.specs.Origins.{Origins, origin_in, after_origins, LeadsTo}
use Rattle.maptree.specs.Nodes.{is_new, are_distinct, above, first, links}

-- a place is one of a list
abbrev pub In : Place → List Place → Type 0
In p [] = ⊥
In p (q ∷ qs) = (p ≡ q) ⊎ In p qs

-- the path after some nodes
abbrev pub path_after : List Place → List Node → List Place
path_after path [] = path
path_after path (n ∷ ns) = path_after (n.place ∷ above n path) ns

-- each place of a path derives from the next, and the last is a root
abbrev pub IsChain : Origins → List Place → Type 0
IsChain os [] = Unit {0}
IsChain os (p ∷ path) = (origin_in os p ≡ first path) × IsChain os path

-- the end of a chain is a chain
pub chain_drop : (os : Origins) (k : ℕ) (path : List Place) → IsChain os path → IsChain os (drop k path)
chain_drop os zero path chain = chain
chain_drop os (suc k) [] chain = tt
chain_drop os (suc k) (p ∷ path) chain = chain_drop os k path chain.1

-- what the origins of a place with this path lead to is on the path
leads_in : (os : Origins) (n : ℕ) (p q : Place) (path : List Place) → origin_in os p ≡ first path → IsChain os path → after_origins (suc n) os p ≡ Some q → In q path
leads_in os n p q [] is chain leads = absurd (cc (leads, is))
leads_in os zero p q (o ∷ path) is chain leads = let same : Some o ≡ Some q = sym (ap (option_and_then (after_origins zero os)) is) ∙ leads in inl (cc same)
leads_in os (suc n) p q (o ∷ path) is chain leads =
    inr (leads_in os n o q path chain.0 chain.1 (sym (ap (option_and_then (after_origins (suc n) os)) is) ∙ leads))

-- and each place of the path is reached
pub in_leads : (os : Origins) (p q : Place) (path : List Place) → origin_in os p ≡ first path → IsChain os path → In q path → LeadsTo os 1 p q
in_leads os p q [] is chain k = absurd k
in_leads os p q (o ∷ path) is chain (inl same) = record { origins = 1; enough = omega arith; leads = ap (option_and_then (after_origins 0 os)) is ∙ ap Some (sym same) }
in_leads os p q (o ∷ path) is chain (inr k) =
    let rest = in_leads os o q path chain.0 chain.1 k in
    record { origins = suc rest.origins; enough = omega arith; leads = ap (option_and_then (after_origins rest.origins os)) is ∙ rest.leads }

-- what one origin or more lead to is on the path
pub leads_path : (os : Origins) (p q : Place) (path : List Place) → origin_in os p ≡ first path → IsChain os path → LeadsTo os 1 p q → In q path
leads_path os p q path is chain to = by to.origins to.enough to.leads
  where
    by : (n : ℕ) → 1 ≤ n → after_origins n os p ≡ Some q → In q path
    by zero some leads = absurd (omega arith)
    by (suc n) some leads = leads_in os n p q path is chain leads

-- a list of nodes has the place
abbrev pub HasPlace : Place → List Node → Type 0
HasPlace p [] = ⊥
HasPlace p (n ∷ ns) = (p ≡ n.place) ⊎ HasPlace p ns

-- each node's origin is the first of its path
abbrev pub Agrees : Origins → List Place → List Node → Type 0
Agrees os path [] = Unit {0}
Agrees os path (n ∷ ns) = (origin_in os n.place ≡ first (above n path)) × Agrees os (n.place ∷ above n path) ns

-- a place that no node has is apart from that of each
pub new_apart : (p q : Place) (ns : List Node) → is_new p ns ≡ true → HasPlace q ns → same_place p q ≡ false
new_apart p q [] new k = absurd k
new_apart p q (n ∷ ns) new (inl same) = let parts = and_parts (not (same_place p n.place)) (is_new p ns) new in ap (same_place p) same ∙ not_true (same_place p n.place) parts.0
  where
    not_true : (b : Bool) → not b ≡ true → b ≡ false
    not_true b is = grind (arith, is)
new_apart p q (n ∷ ns) new (inr k) = new_apart p q ns (and_parts (not (same_place p n.place)) (is_new p ns) new).1 k

-- the origins of distinct nodes are those of their list
pub agrees : (os : Origins) (path : List Place) (ns : List Node) → are_distinct ns ≡ true → ((p : Place) → HasPlace p ns → find place_cmp p os ≡ find place_cmp p (links path ns)) → Agrees os path ns
agrees os path [] distinct same = tt
agrees os path (n ∷ ns) distinct same =
    let parts = and_parts (is_new n.place ns) (are_distinct ns) distinct in
    let here : find place_cmp n.place os ≡ Some (first (above n path)) = same n.place (inl refl) ∙ rw (same_self n.place) refl in
    (ap (option_and_then (λ o. o)) here, agrees os (n.place ∷ above n path) ns parts.1 (λ p k. same p (inr k) ∙ rw (apart_back n.place p (new_apart n.place p ns parts.0 k)) refl))
