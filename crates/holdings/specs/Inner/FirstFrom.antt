-- The first of some places of a tree at or behind another place, by space and page.
use Rattle.std.specs.Prelude.{◌≡◌, ℕ, ◌<◌, ◌≤◌, Bool, true, Option, Some, None, IfSome, if◌then◌else◌}
use Rattle.space.specs.declared.place.Place.{Place}
use Rattle.maptree.specs.Origins.{Origins, place_at}
use Rattle.holdings.specs.Places.{from_page}

-- whether a place is at or behind another
abbrev pub is_from : Place → Place → Bool
is_from first p = from_page first.space first.page p

-- the first of two places, if the second is at or behind a place
abbrev pub earlier : Place → Option Place → Place → Option Place
earlier from None p = if is_from from p then Some p else None
earlier from (Some q) p = if is_from from p then (if is_from q p then Some q else Some p) else Some q

-- a place is at or behind the first one, which there is
abbrev pub IsBehind : Option Place → Place → Type 0
IsBehind None p = ⊥
IsBehind (Some q) p = is_from q p ≡ true

-- a place at one of these positions
pub record StandsAmong (os : Origins) (a b : ℕ) (p : Place) : Type 0 where
  pub position : ℕ
  pub after : a ≤ position
  pub before : position < b
  pub place : (d : Place) → place_at os position d ≡ p

-- the first of the places at some positions that are at or behind a place
pub record IsFirstFrom (os : Origins) (a b : ℕ) (from : Place) (first : Option Place) : Type 0 where
  pub some : IfSome first (λ q. StandsAmong os a b q × (is_from from q ≡ true))
  pub least : (i : ℕ) (d : Place) → a ≤ i → i < b → is_from from (place_at os i d) ≡ true → IsBehind first (place_at os i d)
