-- A tree in which many places are replaced at once.
use Rattle.std.specs.Prelude.{◌≡◌, true, List, map, Option, option_map, unwrap_or}
use Rattle.std.specs.List.{list_any}
use Rattle.space.specs.declared.place.Place.{Place}
use Rattle.space.specs.Place.{same_place}
use Rattle.space.specs.declared.node.Node.{Node}
use Rattle.maptree.specs.Origins.{Origins}

-- a place, or the one that stands for it
abbrev pub replaced_by : (Place → Option Place) → Place → Place
replaced_by new p = unwrap_or (new p) p

-- a tree with its places replaced, as places and as origins
abbrev pub all_renamed : (Place → Option Place) → Origins → Origins
all_renamed new os = map (λ o. (replaced_by new o.0, option_map (replaced_by new) o.1)) os

-- a list of nodes with their places replaced
abbrev pub nodes_renamed : (Place → Option Place) → List Node → List Node
nodes_renamed new ns = map (λ n. record { place = replaced_by new n.place; depth = n.depth }) ns

-- no two places of a tree become one
abbrev pub StayApart : (Place → Option Place) → Origins → Type 0
StayApart new os = (p q : Place) → list_any (λ o. same_place p o.0) os ≡ true → list_any (λ o. same_place q o.0) os ≡ true → replaced_by new p ≡ replaced_by new q → p ≡ q
