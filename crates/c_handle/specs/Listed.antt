-- The mappings that a listing asks for, in numbers.
use Rattle.std.specs.Prelude.{◌≡◌, ℕ, ◌+◌, ◌-◌, true, Option, Some, None, if◌then◌else◌, nat_le, ◌==◌, ◌&&◌, List, map, filter, length, take, drop, ◌++◌}
use Rattle.fpage.specs.Rights.{number}
use Rattle.space.specs.declared.place.Place.{Place}
use Rattle.model.specs.Definitions.Calls.{Limits}
use Rattle.model.specs.Definitions.Derived.{is_below}
use Rattle.model.specs.Definitions.Holdings.{Held, Holdings, PlaceSet, at, only}
use Rattle.mapdb.specs.Held.{IsWithin, from_page, listed, pages_from, spaces_from}
use Rattle.mapdb.specs.State.{State}
use Rattle.c_handle.specs.Codes.{done, is_empty, is_halted_code}
use Rattle.c_handle.specs.Look.{origin_told, place_code, space_code}
use Rattle.c_handle.specs.declared.look.OriginReply.{OriginReply}
use Rattle.c_handle.specs.declared.mappings.Listing.{Listing}
use Rattle.c_handle.specs.declared.mappings.Listing.TheVariants.{From, OfSpace, Below}
use Rattle.c_handle.specs.declared.mappings.MappingReply.{MappingReply}

-- a mapping in numbers
abbrev pub mapping_with : OriginReply → Place → Held → MappingReply
mapping_with origin p m = record {
  space = p.space;
  page = p.page;
  frame = m.frame;
  rights = number m.rights;
  status = number m.status;
  has_origin = origin.known;
  origin_space = origin.space;
  origin_page = origin.page;
}

abbrev pub mapping_told : Place × Held → MappingReply
mapping_told e = mapping_with (origin_told e.1.origin) e.0 e.1

-- the places at or behind a page, in its space alone
abbrev pub in_space_from : ℕ → ℕ → PlaceSet
in_space_from space page p = (p.space == space) && nat_le page p.page

-- whether a listing asks for the mapping of a page: all at or behind a page, those of its space, or those below another page
abbrev pub is_listed : Listing → Holdings → PlaceSet
is_listed (From first) h p = from_page first.space first.page p
is_listed (OfSpace first) h p = in_space_from first.space first.page p
is_listed (Below above first) h p = from_page first.space first.page p && is_below h (only above) p

-- the mappings that a listing asks for, by rising place
abbrev pub mappings_of : Listing → Holdings → List MappingReply
mappings_of listing h = map mapping_told (filter (λ e. is_listed listing h e.0) h)

-- how a listing is answered: the first that fits
abbrev pub listing_code : Listing → State → ℕ
listing_code (From first) s = if s.is_halted then is_halted_code else done
listing_code (OfSpace first) s = space_code s first.space
listing_code (Below above first) s = place_code s above.space above.page

-- the mappings at some places, in their order
abbrev pub mappings_at : (Place → Option Held) → List Place → List MappingReply
mappings_at held places = map mapping_told (listed held places)

-- as many of a list as a buffer has room for, and behind them what was there
abbrev pub over : {A : Type 0} → List A → List A → List A
over xs old = let written = take (length old) xs in written ++ drop (length written) old

-- whether a buffer has these written over what was there, and how many of them it has room for
pub record IsWritten {A : Type 0} (old xs new : List A) (count : ℕ) : Type 0 where
  pub counted : count ≡ length (take (length old) xs)
  pub left : new ≡ over xs old

-- a buffer in which some are written has more of them behind those
abbrev pub WritesBehind : {A : Type 0} → List A → ℕ → List A → List A → ℕ → Type 0
WritesBehind {A} before count more after result = (old xs : List A) → IsWritten old xs before count → IsWritten old (xs ++ more) after result

-- what stands after the mappings of a handle were asked for: its code, what it holds, the buffer, and how many were written
pub record AfterListing : Type 0 where
  pub code : ℕ
  pub held : Option State
  pub mappings : List MappingReply
  pub count : ℕ

-- nothing is written but where the listing is done
abbrev pub listed_of : Option State → Listing → List MappingReply → ℕ → AfterListing
listed_of None listing old count = record { code = is_empty; held = None; mappings = old; count = count }
listed_of (Some s) listing old count =
    let code = listing_code listing s in
    let found = mappings_of listing s.holdings in
    if code == done then record { code = code; held = Some s; mappings = over found old; count = length (take (length old) found) }
    else record { code = code; held = Some s; mappings = old; count = count }

-- ---- how a listing is made

-- whether a listing asks for the mapping of a page, if it lies at or behind the first page
abbrev pub is_chosen : Listing → Holdings → PlaceSet
is_chosen (From first) h p = true
is_chosen (OfSpace first) h p = true
is_chosen (Below above first) h p = is_below h (only above) p

-- a page that others are below is one that there is
abbrev pub IsListingOf : Limits → Listing → Type 0
IsListingOf limits (From first) = Unit {0}
IsListingOf limits (OfSpace first) = Unit {0}
IsListingOf limits (Below above first) = IsWithin limits above

-- where a listing begins
abbrev pub first_of : Listing → Place
first_of (From first) = first
first_of (OfSpace first) = first
first_of (Below above first) = first

-- at which space it ends, of so many
abbrev pub end_of : Listing → ℕ → ℕ
end_of (From first) spaces = spaces
end_of (OfSpace first) spaces = first.space + 1
end_of (Below above first) spaces = spaces

-- what the pages hold whose mappings it asks for
abbrev pub chosen : Listing → Holdings → Place → Option Held
chosen listing h p = if is_chosen listing h p then at h p else None

-- the places from a page on, in the rest of its space and in the spaces behind it up to one
abbrev pub places_to : ℕ → ℕ → ℕ → ℕ → List Place
places_to pages space page end = pages_from space page (pages - page) ++ spaces_from pages (space + 1) (end - (space + 1))
