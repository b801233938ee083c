-- What words and trees say is held: frame, rights and status of a place are in its word, its origin in the tree of its
-- frame.
use Rattle.std.specs.List.{slice_get}
use Rattle.std.specs.Option.{option_map_or}
use Rattle.std.specs.Prelude.{ℕ, List, length, Option, Some, None, ◌==◌, ◌&&◌, nat_lt, Bool, false, if◌then◌else◌, [], option_map, is_some, ◌∷◌}
use Rattle.space.specs.Directory.{pages_of}
use Rattle.space.specs.Shards.{entry_at, index_of, word_count, spaces_of, bits_of}
use Rattle.space.specs.declared.place.Entry.{Entry}
use Rattle.space.specs.declared.place.Place.{Place}
use Rattle.space.specs.declared.shards.Shards.{Shards}
use Rattle.maptree.specs.Origins.{Origins, Shape, origin_in}
use Rattle.model.specs.Definitions.Calls.{Limits}
use Rattle.model.specs.Definitions.Holdings.{Held, Holdings, keep}
use Rattle.holdings.specs.Contents.{Contents}
use Rattle.holdings.specs.Inner.Derivation.{stands_in}
use Rattle.holdings.specs.Layout.{Layout, layout_of}
use Rattle.holdings.specs.Places.{listing}

-- whether a place is a page of one of the spaces
abbrev pub is_place : Limits → Place → Bool
is_place limits p = nat_lt p.space limits.spaces && nat_lt p.page (pages_of limits.bits)

-- the tree of a frame; empty where there is none
abbrev pub links_in : List Shape → ℕ → Origins
links_in trees frame = option_map_or (λ t. t.links) (slice_get trees frame) []

-- whether a place stands in the tree of a frame
abbrev pub is_listed : List Shape → ℕ → Place → Bool
is_listed trees frame p = stands_in (links_in trees frame) p

-- what the word of a place and the tree of its frame say
abbrev pub held_of : List Shape → Place → Entry → Held
held_of trees p e = record { frame = e.frame; rights = e.rights; status = e.status; origin = origin_in (links_in trees e.frame) p }

-- what a place holds; nothing where its word is 0
abbrev pub held_at : Shards → List Shape → Place → Option Held
held_at shards trees p = option_map (held_of trees p) (entry_at shards p)

-- whether a place has an entry
abbrev pub has_entry : Shards → Place → Bool
has_entry shards p = is_some (entry_at shards p)

-- whether what stands at a place is a page of the frame
abbrev pub has_frame : ℕ → Option Entry → Bool
has_frame frame entry = option_map_or (λ e. e.frame == frame) entry false

-- the holdings
abbrev pub holdings_of : Limits → Shards → List Shape → Holdings
holdings_of limits shards trees = listing limits (held_at shards trees)

-- the limits that words and trees were made for
abbrev pub limits_in : Shards → List Shape → Limits
limits_in shards trees = record { spaces = spaces_of shards; bits = bits_of shards; frames = length trees }

-- what they say is held
abbrev pub holdings_in : Shards → List Shape → Holdings
holdings_in shards trees = holdings_of (limits_in shards trees) shards trees

-- the index of a place's word, if its shard is there
abbrev pub index_at : Shards → Place → Option ℕ
index_at shards p = if nat_lt (index_of shards p) (word_count shards) then Some (index_of shards p) else None

-- where the words stand
abbrev pub layout_in : Shards → Layout
layout_in shards = layout_of (spaces_of shards) (bits_of shards) (index_at shards)

-- what words and trees say
abbrev pub contents_of : Shards → List Shape → Contents
contents_of shards trees = record {
  limits = limits_in shards trees;
  holdings = holdings_in shards trees;
  layout = layout_in shards;
}

-- ---- what is held at places whose origins are known

-- what an entry says, with an origin
abbrev pub held_with : Option Place → Entry → Held
held_with origin e = record { frame = e.frame; rights = e.rights; status = e.status; origin = origin }

-- what the words hold at places, with the origin of each
abbrev pub holdings_at : Shards → Origins → Holdings
holdings_at shards [] = []
holdings_at shards (o ∷ os) = keep o.0 (option_map (held_with o.1) (entry_at shards o.0)) (holdings_at shards os)
