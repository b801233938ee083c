-- Grant: the page goes from the sender to the receiver; what derives from it then derives from its new place
-- (L4 X.2, GrantItem).
use Rattle.std.specs.Prelude.{true, List, [], ◌∷◌, filter, Option, Some, None, option_map, unwrap_or, if◌then◌else◌}
use Rattle.std.specs.FinMap.Entries.{put}
use Rattle.fpage.specs.Rights.{all_rights, no_rights, without}
use Rattle.space.specs.declared.place.Place.{Place}
use Rattle.space.specs.Place.{place_cmp, same_place}
use Rattle.model.specs.Definitions.Holdings.{Held, Holdings, is_held}
use Rattle.model.specs.Definitions.Strip.{strip}
use Rattle.model.specs.Definitions.Items.{Job, Pair, going, sources_of, flush}

-- the target of a source
abbrev pub target_of : List Pair → Place → Option Place
target_of [] p = None
target_of (e ∷ es) p = if same_place e.0 p then Some e.1 else target_of es p

-- where a place is after the move
abbrev pub moved_to : List Pair → Place → Place
moved_to es p = unwrap_or (target_of es p) p

-- a mapping after the move: its origin may have moved, and a page that moved has no status
abbrev pub moved : List Pair → Place → Held → Held
moved es p m = record m {
  status = if sources_of es p then no_rights else m.status;
  origin = option_map (moved_to es) m.origin;
}

-- each source becomes its target, as a place and as an origin, all at once (profile)
abbrev pub renamed : List Pair → Holdings → Holdings
renamed es [] = []
renamed es (e ∷ h) = put place_cmp (moved_to es e.0) (moved es e.0 e.1) (renamed es h)

-- the pairs whose source was not flushed
abbrev pub moving : Holdings → List Pair → List Pair
moving flushed es = filter (λ e. is_held flushed e.0) es

-- the sources lose, with all that derives from them, the rights that the fpage withholds; then they move (profile)
abbrev pub grant_moving : Holdings → Job → List Pair → Holdings
grant_moving flushed job es = renamed es (strip flushed (sources_of es) (without all_rights job.rights) true)

-- from the flush on
abbrev pub grant_flushed : Holdings → Job → List Pair → Holdings
grant_flushed flushed job es = grant_moving flushed job (moving flushed es)

-- one GrantItem, in phases: outcomes, flush, strip of the sources, move (the phases: profile)
abbrev pub granted : Holdings → Job → Holdings
granted h job = let es = going h job in grant_flushed (flush h es) job es
