-- The recursion is the set definition.
use Rattle.std.specs.Prelude.{◌≡◌, Bool, ◌||◌, IsTrue}
use Rattle.fpage.specs.Rights.{join}
use Rattle.fpage.specs.declared.rights.Rights.{Rights}
use Rattle.model.specs.Definitions.Holdings.{Holdings, PlaceSet}
use Rattle.model.specs.Definitions.Lawful.{is_lawful}
use Rattle.model.specs.Definitions.Strip.{strip, strip_word}
use Rattle.model.specs.Definitions.Recursion.{Visited, recur}

-- what strip takes and leaves
abbrev pub unmapped : Holdings → PlaceSet → Rights → Bool → Visited
unmapped h set a f = record { word = strip_word h set; left = strip h set a f }

-- to visit the pages of a set one by one, and what derives from each first, takes and leaves what strip does, whatever
-- the set is: its pages may derive from one another, and lie in one space or in several
abbrev pub RecursionIsStrip : Type 0
RecursionIsStrip = (h : Holdings) → IsTrue (is_lawful h) → (set : PlaceSet) (a : Rights) (f : Bool) → recur h set a f ≡ unmapped h set a f

-- to strip a set, and then another of what is left, is to strip both at once
abbrev pub StripsJoin : Type 0
StripsJoin =
    (h : Holdings) → IsTrue (is_lawful h) → (X Y : PlaceSet) (a : Rights) (f : Bool)
    → (strip (strip h X a f) Y a f ≡ strip h (λ p. X p || Y p) a f) × (join (strip_word h X) (strip_word (strip h X a f) Y) ≡ strip_word h (λ p. X p || Y p))
