-- Layouts: which places have a word, and at which index. A phase that makes words moves none.
use Rattle.std.specs.Prelude.{◌≡◌, ℕ, List, [], ◌∷◌, Option, Some, None}
use Rattle.std.specs.FinMap.Entries.{find}
use Rattle.space.specs.Directory.{pages_of}
use Rattle.space.specs.declared.place.Place.{Place}
use Rattle.space.specs.Place.{place_cmp}
use Rattle.model.specs.Definitions.Holdings.{Held, Holdings, at}
use Rattle.holdings.specs.Places.{spaces_from}

-- a finite map: each place that has a word, by rising place, with the index of that word
abbrev pub Layout : Type 0
Layout = List (Place × ℕ)

-- the index of a place's word; none where no word stands for the place
abbrev pub index_in : Layout → Place → Option ℕ
index_in layout p = find place_cmp p layout

-- what has a word keeps it where it is; places that had none may have one
abbrev pub OnlyGrows : Layout → Layout → Type 0
OnlyGrows old new = (p : Place) (i : ℕ) → index_in old p ≡ Some i → index_in new p ≡ Some i

-- a layout of what is held
pub record IsLayoutOf (holdings : Holdings) (layout : Layout) : Type 0 where
  -- what is held has a word
  pub held : (p : Place) (m : Held) → at holdings p ≡ Some m → (i : ℕ) × (index_in layout p ≡ Some i)
  -- a word stands for one place alone
  pub own : (p q : Place) (i : ℕ) → index_in layout p ≡ Some i → index_in layout q ≡ Some i → p ≡ q

-- a place and its index before the others, or none
abbrev pub with_index : Place → Option ℕ → Layout → Layout
with_index p None layout = layout
with_index p (Some i) layout = (p, i) ∷ layout

-- the indexes of these places, in their order
abbrev pub indexed : (Place → Option ℕ) → List Place → Layout
indexed index [] = []
indexed index (p ∷ ps) = with_index p (index p) (indexed index ps)

-- those of the pages of so many spaces of 2^bits bytes, by rising place
unfoldable pub layout_of : ℕ → ℕ → (Place → Option ℕ) → Layout
layout_of spaces bits index = indexed index (spaces_from (pages_of bits) 0 spaces)
