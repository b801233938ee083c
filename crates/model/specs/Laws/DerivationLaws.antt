-- What derived means: chains of origins.
use Rattle.std.specs.Prelude.{◌≡◌, ℕ, zero, suc, ◌≤◌, false, ◌||◌, ◌⊎◌, length, IsTrue, Decides, Option, Some, None}
use Rattle.std.specs.Option.{option_and_then}
use Rattle.space.specs.declared.place.Place.{Place}
use Rattle.model.specs.Definitions.Holdings.{Holdings, PlaceSet, only, is_held, origin_at}
use Rattle.model.specs.Definitions.Derived.{is_under, is_below}
use Rattle.model.specs.Definitions.Lawful.{is_lawful}

-- the place to which so many origins lead, one after another
abbrev pub after_origins : ℕ → Holdings → Place → Option Place
after_origins zero h p = Some p
after_origins (suc n) h p = option_and_then (after_origins n h) (origin_at h p)

-- a chain of origins, at least so many, leads from the place into the set
pub record LeadsInto (h : Holdings) (least : ℕ) (set : PlaceSet) (p : Place) : Type 0 where
  pub origins : ℕ
  pub enough : least ≤ origins
  pub into : Place
  pub leads : after_origins origins h p ≡ Some into
  pub within : IsTrue (set into)

-- below a set: a chain of zero or more origins leads into it
abbrev pub BelowIsAChain : Type 0
BelowIsAChain = (h : Holdings) → IsTrue (is_lawful h) → (set : PlaceSet) (p : Place) → Decides (is_below h set p) (LeadsInto h 0 set p)

-- under a set: a chain of one or more origins leads into it
abbrev pub UnderIsAChain : Type 0
UnderIsAChain = (h : Holdings) → IsTrue (is_lawful h) → (set : PlaceSet) (p : Place) → Decides (is_under h set p) (LeadsInto h 1 set p)

-- every chain of origins ends: it has fewer origins than places are held
abbrev pub ChainsEnd : Type 0
ChainsEnd = (h : Holdings) → IsTrue (is_lawful h) → (p : Place) → IsTrue (is_held h p) → after_origins (length h) h p ≡ None

-- each place on a chain of origins is held
abbrev pub ChainsAreHeld : Type 0
ChainsAreHeld = (h : Holdings) → IsTrue (is_lawful h) → (p : Place) → IsTrue (is_held h p) → (n : ℕ) (o : Place) → after_origins n h p ≡ Some o → IsTrue (is_held h o)

-- below two sets together is below the one or below the other
abbrev pub BelowBothSets : Type 0
BelowBothSets = (h : Holdings) → IsTrue (is_lawful h) → (X Y : PlaceSet) (p : Place) → is_below h (λ q. X q || Y q) p ≡ (is_below h X p || is_below h Y p)

-- no place derives from itself
abbrev pub NoneFromItself : Type 0
NoneFromItself = (h : Holdings) → IsTrue (is_lawful h) → (p : Place) → is_under h (only p) p ≡ false

-- all that is below one place is below the other, or nothing is below both
abbrev pub NestOrApart : Type 0
NestOrApart = (h : Holdings) → IsTrue (is_lawful h) → (c d : Place)
    → ((p : Place) → IsTrue (is_below h (only c) p) → IsTrue (is_below h (only d) p))
    ⊎ ((p : Place) → IsTrue (is_below h (only d) p) → IsTrue (is_below h (only c) p))
    ⊎ ((p : Place) → IsTrue (is_below h (only c) p) → IsTrue (is_below h (only d) p) → ⊥)
