-- Lawful holdings: origins are held, chains end, a frame has at most one root, no rights are empty.
use Rattle.std.specs.Prelude.{ℕ, zero, suc, Bool, true, false, ◌&&◌, ◌||◌, ◌==◌, not, length, Option, Some, None, is_some}
use Rattle.std.specs.List.{list_all}
use Rattle.std.specs.FinMap.Entries.{is_sorted}
use Rattle.fpage.specs.Rights.{is_empty, is_within}
use Rattle.space.specs.declared.place.Place.{Place}
use Rattle.space.specs.Place.{place_cmp, same_place}
use Rattle.model.specs.Definitions.Holdings.{Held, Holdings, at, origin_at}

-- whether a chain of origins ends within n places
abbrev pub ends : ℕ → Holdings → Option Place → Bool
ends n h None = true
ends zero h (Some o) = false
ends (suc n) h (Some o) = ends n h (origin_at h o)

-- an origin is held, with the same frame and at least the rights
abbrev pub is_origin_of : Held → Option Held → Bool
is_origin_of m None = false
is_origin_of m (Some o) = (o.frame == m.frame) && is_within m.rights o.rights

-- where there is an origin, it is one that the mapping may have
abbrev pub has_lawful_origin : Holdings → Held → Option Place → Bool
has_lawful_origin h m None = true
has_lawful_origin h m (Some o) = is_origin_of m (at h o)

-- no other root has the frame of this root
abbrev pub is_only_root : Holdings → Place × Held → Bool
is_only_root h e = is_some e.1.origin || list_all (λ d. is_some d.1.origin || not (d.1.frame == e.1.frame) || same_place d.0 e.0) h

-- what is asked of one mapping
abbrev pub is_lawful_at : Holdings → Place × Held → Bool
is_lawful_at h e = not (is_empty e.1.rights) && has_lawful_origin h e.1 e.1.origin && ends (length h) h e.1.origin && is_only_root h e

-- each place once, by rising place; each origin held, with the same frame and at least the rights; each chain of
-- origins ends; a frame has at most one root; no rights are empty
abbrev pub is_lawful : Holdings → Bool
is_lawful h = is_sorted place_cmp h && list_all (is_lawful_at h) h
