-- Strip a set of pages of rights: the rule of Unmap for these pages, all at once (L4 X.2, Unmap; all at once: profile).
use Rattle.std.specs.Prelude.{Bool, ◌&&◌, ◌||◌, [], ◌∷◌, Option, Some, None, if◌then◌else◌}
use Rattle.fpage.specs.Rights.{no_rights, is_empty, join, without}
use Rattle.fpage.specs.declared.rights.Rights.{Rights}
use Rattle.space.specs.declared.place.Place.{Place}
use Rattle.model.specs.Definitions.Holdings.{Held, Holdings, PlaceSet, only, derives_from, each}
use Rattle.model.specs.Definitions.Derived.{is_under, is_below}

-- the union of the status over a set
abbrev pub status_over : PlaceSet → Holdings → Rights
status_over set [] = no_rights
status_over set (e ∷ h) = join (if set e.0 then e.1.status else no_rights) (status_over set h)

-- the word that is returned: the union of the status over the pages and all that derives from them (Unmap)
abbrev pub strip_word : Holdings → PlaceSet → Rights
strip_word h set = status_over (is_below h set) h

-- with f clear what derives from the pages loses the rights, with f set the pages too (Unmap); in whatever space
-- they lie, the caller's own too (profile)
abbrev pub is_narrowed : Holdings → PlaceSet → Bool → PlaceSet
is_narrowed h set f p = is_under h set p || (f && set p)

-- the status below each of these mappings that is below the set and has the origin p
abbrev pub gain_from : Holdings → PlaceSet → Place → Holdings → Rights
gain_from h set p [] = no_rights
gain_from h set p (e ∷ rest) =
    join (if derives_from p e.1 && is_below h set e.0 then strip_word h (only e.0) else no_rights) (gain_from h set p rest)

-- the status that goes to a place outside: all that was below each mapping of the set that has it as origin (profile)
abbrev pub passed_to : Holdings → PlaceSet → Place → Rights
passed_to h set p = gain_from h set p h

-- the rights of a mapping that loses some, or of one that does not
abbrev pub rights_left : Bool → Rights → Rights → Rights
rights_left loses a rights = if loses then without rights a else rights

-- the status is cleared below the set; outside it gains what is passed (profile)
abbrev pub stripped : Holdings → PlaceSet → Rights → Bool → Place → Held → Held
stripped h set a f p m = record m {
  rights = rights_left (is_narrowed h set f p) a m.rights;
  status = if is_below h set p then no_rights else join m.status (passed_to h set p);
}

-- a mapping whose rights become empty is removed (profile)
abbrev pub left_of : Bool → Held → Option Held
left_of loses m = if loses && is_empty m.rights then None else Some m

-- strip the set of rights: what derives from it and, with f set, the set itself (Unmap)
abbrev pub strip : Holdings → PlaceSet → Rights → Bool → Holdings
strip h set a f = each (λ p m. left_of (is_narrowed h set f p) (stripped h set a f p m)) h
