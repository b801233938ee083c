-- Map: the sender's page stays, and the receiver's derives from it (L4 X.2, MapItem).
use Rattle.std.specs.Prelude.{List, [], ◌∷◌, Option, Some, None}
use Rattle.std.specs.FinMap.Entries.{put}
use Rattle.fpage.specs.Rights.{no_rights, meet, join}
use Rattle.space.specs.declared.place.Place.{Place}
use Rattle.space.specs.Place.{place_cmp}
use Rattle.model.specs.Definitions.Holdings.{Held, Holdings, at}
use Rattle.model.specs.Definitions.Items.{Job, Pair, Fate, absent, norights, to_origin, extends, goes, fate, going, flush}

-- a new mapping: the source's frame, those of the source's rights that the fpage lets through, no status, and the
-- source as origin (MapItem)
abbrev pub linked : Job → Place → Held → Held
linked job source m = record { frame = m.frame; rights = meet m.rights job.rights; status = no_rights; origin = Some source }

-- the mapping that was made before gains those rights; its status and what derives from it stay (profile)
abbrev pub extended : Job → Held → Held → Held
extended job source m = record m { rights = join m.rights (meet source.rights job.rights) }

-- a pair whose source was flushed is lost and does nothing
abbrev pub link : Job → Pair → Option Held → Holdings → Holdings
link job e None h = h
link job e (Some source) h = put place_cmp e.1 (linked job e.0 source) h

-- a pair that extends
abbrev pub extend : Job → Pair → Option Held → Option Held → Holdings → Holdings
extend job e None target h = h
extend job e (Some source) None h = h
extend job e (Some source) (Some m) h = put place_cmp e.1 (extended job source m) h

-- one pair, by its outcome
abbrev pub map_pair : Holdings → Job → Pair → Fate → Holdings → Holdings
map_pair flushed job e absent h = h
map_pair flushed job e norights h = h
map_pair flushed job e to_origin h = h
map_pair flushed job e extends h = extend job e (at flushed e.0) (at flushed e.1) h
map_pair flushed job e goes h = link job e (at flushed e.0) h

-- each pair by its outcome at the item's start, as source and target stand after the flush
abbrev pub map_pairs : Holdings → Holdings → Job → List Pair → Holdings → Holdings
map_pairs start flushed job [] h = h
map_pairs start flushed job (e ∷ es) h = map_pairs start flushed job es (map_pair flushed job e (fate start job e) h)

-- one MapItem, in phases: outcomes, flush, links and extensions (the phases: profile)
abbrev pub mapped : Holdings → Job → Holdings
mapped h job = let flushed = flush h (going h job) in map_pairs h flushed job job.pairs flushed
