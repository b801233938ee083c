-- Places, their order, and how they are written.
use Rattle.std.specs.Prelude.{ℕ, Bool, List, ◌++◌, codes}
use Rattle.std.specs.Fmt.{decimal}
use Rattle.std.specs.Ordering.{nat_cmp, ordering_then, eq_by_cmp}
use Rattle.std.specs.declared.cmp.Ordering.{Ordering}
use Rattle.space.specs.declared.place.Place.{Place}

-- by space, then by page (profile)
abbrev pub place_cmp : Place → Place → Ordering
place_cmp a b = ordering_then (nat_cmp a.space b.space) (nat_cmp a.page b.page)

-- whether two places are one
abbrev pub same_place : Place → Place → Bool
same_place = eq_by_cmp place_cmp

-- a place as it is written: space, colon, page
abbrev pub place_text : Place → List ℕ
place_text p = decimal p.space ++ codes ":" ++ decimal p.page
