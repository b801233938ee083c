-- Unmap as a recursion over derived mappings, page by page (profile); it is to give what strip gives.
use Rattle.std.specs.Prelude.{ℕ, zero, suc, Bool, true, false, List, [], ◌∷◌, filter, length, Option, Some, if◌then◌else◌}
use Rattle.std.specs.Option.{option_map_or}
use Rattle.fpage.specs.Rights.{no_rights, join}
use Rattle.fpage.specs.declared.rights.Rights.{Rights}
use Rattle.space.specs.declared.place.Place.{Place}
use Rattle.space.specs.Place.{same_place}
use Rattle.model.specs.Definitions.Holdings.{Holdings, PlaceSet, at, is_held, origin_at, derives_from, each, places}
use Rattle.model.specs.Definitions.Strip.{left_of, rights_left}

-- what a visit took, and what it left
pub record Visited : Type 0 where
  pub word : Rights
  pub left : Holdings

-- with what was taken before
abbrev pub joined : Rights → Visited → Visited
joined word v = record { word = join word v.word; left = v.left }

-- one visit after another, each of what the one before left
abbrev pub in_turn : (Place → Holdings → Visited) → List Place → Holdings → Visited
in_turn visit_one [] h = record { word = no_rights; left = h }
in_turn visit_one (p ∷ ps) h = let first = visit_one p h in joined first.word (in_turn visit_one ps first.left)

-- the places that derive directly from a place, by rising place
abbrev pub children : Holdings → Place → List Place
children h p = places (filter (λ e. derives_from p e.1) h)

-- the status of a place taken and cleared, and its rights narrowed where the visit says so
abbrev pub taken : Rights → Bool → Place → Holdings → Visited
taken a narrows p h = record {
  word = option_map_or (λ m. m.status) (at h p) no_rights;
  left = each (λ q m. if same_place p q then left_of narrows (record m { rights = rights_left narrows a m.rights; status = no_rights }) else Some m) h;
}

-- what derives from the place first, and then the place; at most n places deep
abbrev pub visit : ℕ → Rights → Bool → Place → Holdings → Visited
visit zero a narrows p h = record { word = no_rights; left = h }
visit (suc n) a narrows p h =
    let below = in_turn (visit n a true) (children h p) h in
    joined below.word (taken a narrows p below.left)

-- what was taken is added to the status of the origin, if there is one
abbrev pub passed_up : Option Place → Visited → Visited
passed_up o v = record {
  word = v.word;
  left = each (λ q m. Some (if option_map_or (same_place q) o false then record m { status = join m.status v.word } else m)) v.left;
}

-- a named page that is still held
abbrev pub visit_named : ℕ → Rights → Bool → Place → Holdings → Visited
visit_named n a f p h = if is_held h p then passed_up (origin_at h p) (visit n a f p h) else record { word = no_rights; left = h }

-- each page of the set by rising place
abbrev pub recur : Holdings → PlaceSet → Rights → Bool → Visited
recur h set a f = in_turn (visit_named (length h) a f) (filter set (places h)) h
