-- Both places are found, and the tree tells whether one is an origin of the other.
use Rattle.std.proofs.Common.{◌≡◌, ℕ, Bool, false, ◌&&◌, Option, Some, sym, ap, ◌∙◌}
use Rattle.std.specs.Prelude.{is_some, position}
use Rattle.std.specs.Option.{option_map_or}
use Rattle.fpage.specs.declared.item.ItemKind.{ItemKind}
use Rattle.space.specs.declared.place.Place.{Place}
use Rattle.maptree.specs.Origins.{Origins, origin_in}
use Rattle.model.specs.Definitions.Items.{is_map}
use Rattle.maptree.specs.Origins.{IsOriginAt}
use Rattle.space.specs.Place.{same_place}
use Rattle.maptree.proofs.Found.{some_found, found_at}
use Rattle.holdings.proofs.Outcomes.PairOutcomes.{is_origin_found, extends_found, replaces_found}
use Rattle.holdings.proofs.Trees.Under.{decided_by}
use Rattle.holdings.proofs.outcome.outcome_in.Goals as goal

-- the origin at the target's position is the target's
widens : (os : Origins) (kind : ItemKind) (source target : Place) (j : ℕ) (o : Option Place) → position (λ x. same_place target x.0) os ≡ Some j → IsOriginAt os j o
    → (b : Bool) → b ≡ (is_map kind && option_map_or (same_place source) o false) → b ≡ (is_map kind && option_map_or (same_place source) (origin_in os target) false)
widens os kind source target j o found at b is =
    is ∙ ap (λ x. is_map kind && option_map_or (same_place source) x false) (sym (at.is target) ∙ ap (origin_in os) ((found_at os target j found).place target))

pub unwrap-i-requires : goal.unwrap-i-requires
unwrap-i-requires c = ap is_some c.find.ensures ∙ some_found (λ o. same_place c.args.source o.0) c.args.tree.now.links c.requires.source

pub unwrap-j-requires : goal.unwrap-j-requires
unwrap-j-requires c = ap is_some c.find-2.ensures ∙ some_found (λ o. same_place c.args.target o.0) c.args.tree.now.links c.requires.target

pub returns-then-is_origin-clause-decided : goal.returns-then-is_origin-clause-decided
returns-then-is_origin-clause-decided c =
    is_origin_found c.args.tree.now.links c.args.kind c.args.source c.args.target c.is_origin.result
    (decided_by c.args.tree.now.links c.args.source c.args.target c.unwrap-i.result c.unwrap-j.result c.is_origin.result (sym c.find.ensures ∙ c.unwrap-i.ensures) (sym c.find-2.ensures ∙ c.unwrap-j.ensures) c.is_origin.ensures) c.if-is_origin.true

pub returns-then-extends-clause-decided : goal.returns-then-extends-clause-decided
returns-then-extends-clause-decided c =
    extends_found c.args.tree.now.links c.args.kind c.args.source c.args.target c.is_origin.result c.extends.result
    (decided_by c.args.tree.now.links c.args.source c.args.target c.unwrap-i.result c.unwrap-j.result c.is_origin.result (sym c.find.ensures ∙ c.unwrap-i.ensures) (sym c.find-2.ensures ∙ c.unwrap-j.ensures) c.is_origin.ensures) c.if-is_origin.false
    (widens c.args.tree.now.links c.args.kind c.args.source c.args.target c.unwrap-j.result c.place_of_origin.result (sym c.find-2.ensures ∙ c.unwrap-j.ensures) c.place_of_origin.ensures c.extends.result c.extends.ensures) c.if-extends.true

pub returns-clause-decided : goal.returns-clause-decided
returns-clause-decided c =
    replaces_found c.args.tree.now.links c.args.kind c.args.source c.args.target c.is_origin.result c.extends.result
    (decided_by c.args.tree.now.links c.args.source c.args.target c.unwrap-i.result c.unwrap-j.result c.is_origin.result (sym c.find.ensures ∙ c.unwrap-i.ensures) (sym c.find-2.ensures ∙ c.unwrap-j.ensures) c.is_origin.ensures) c.if-is_origin.false
    (widens c.args.tree.now.links c.args.kind c.args.source c.args.target c.unwrap-j.result c.place_of_origin.result (sym c.find-2.ensures ∙ c.unwrap-j.ensures) c.place_of_origin.ensures c.extends.result c.extends.ensures) c.if-extends.false
