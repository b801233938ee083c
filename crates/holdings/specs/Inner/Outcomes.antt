-- The outcome of a pair, from one tree.
use Rattle.std.specs.Option.{option_map_or}
use Rattle.std.specs.Prelude.{◌≡◌, true, ◌&&◌, false}
use Rattle.fpage.specs.declared.item.ItemKind.{ItemKind}
use Rattle.space.specs.Place.{same_place}
use Rattle.space.specs.declared.place.Place.{Place}
use Rattle.maptree.specs.Origins.{Origins, origin_in, LeadsTo}
use Rattle.model.specs.Definitions.Items.{is_map}
use Rattle.holdings.specs.declared.outcome.Outcome.{Outcome}
use Rattle.holdings.specs.declared.outcome.Outcome.TheVariants as outcome

-- the outcome of a pair whose source is held with some right that the item lets through, and whose target is held with
-- the same frame, as the tree of that frame has them
pub record IsOutcomeIn (os : Origins) (kind : ItemKind) (source target : Place) (o : Outcome) : Type 0 where
  pub origin : LeadsTo os 1 source target → o ≡ outcome.Origin
  pub extends : (LeadsTo os 1 source target → ⊥) → (is_map kind && option_map_or (same_place source) (origin_in os target) false) ≡ true → o ≡ outcome.Extends
  pub replaces : (LeadsTo os 1 source target → ⊥) → (is_map kind && option_map_or (same_place source) (origin_in os target) false) ≡ false → o ≡ outcome.Replaces
