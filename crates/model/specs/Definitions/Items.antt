-- One item of a send: which pairs of pages it has, and what becomes of each (L4 X.2, MapItem, GrantItem).
use Rattle.std.specs.Prelude.{ℕ, zero, suc, ◌+◌, Bool, true, false, ◌&&◌, List, [], ◌∷◌, filter, Option, Some, None, if◌then◌else◌}
use Rattle.std.specs.Option.{option_map_or}
use Rattle.std.specs.List.{list_any}
use Rattle.fpage.specs.Rights.{is_empty, meet, all_rights}
use Rattle.fpage.specs.Fpage.{Flexpage}
use Rattle.fpage.specs.Item.{pairs_of}
use Rattle.fpage.specs.declared.rights.Rights.{Rights}
use Rattle.fpage.specs.declared.item.Item.{Item}
use Rattle.fpage.specs.declared.item.ItemKind.{ItemKind}
use Rattle.fpage.specs.declared.item.ItemKind.TheVariants.{Map, Grant}
use Rattle.space.specs.declared.place.Place.{Place}
use Rattle.space.specs.Place.{same_place}
use Rattle.model.specs.Definitions.Holdings.{Held, Holdings, PlaceSet, only, at, is_held, origin_at}
use Rattle.model.specs.Definitions.Derived.{is_under}
use Rattle.model.specs.Definitions.Strip.{strip}

-- a source place and its target place
abbrev pub Pair : Type 0
Pair = Place × Place

-- an item between two spaces: its pairs, and the rights that it lets through
pub record Job : Type 0 where
  pub kind : ItemKind
  pub rights : Rights
  pub pairs : List Pair

-- the page after it in its space
abbrev pub next_page : Place → Place
next_page p = record p { page = p.page + 1 }

-- so many pages from a source on, each with its target
abbrev pub pairs_from : ℕ → Place → Place → List Pair
pairs_from zero source target = []
pairs_from (suc n) source target = (source, target) ∷ pairs_from n (next_page source) (next_page target)

-- the item of a send from one space to another, with the receiver's window, whose rights are ignored (profile)
abbrev pub job_of : ℕ → ℕ → Flexpage → Item → Job
job_of from to window item =
    let runs = pairs_of item window in
    record {
      kind = item.kind;
      rights = item.sent.rights;
      pairs = pairs_from runs.count (record { space = from; page = runs.source }) (record { space = to; page = runs.target });
    }

-- a MapItem of one pair
abbrev pub one_page : Rights → Place → Place → Job
one_page rights source target = record { kind = Map; rights = rights; pairs = (source, target) ∷ [] }

-- what becomes of a pair (profile): its source is not held; no right is left of the source's; its target is an
-- origin of its source; it widens the mapping that it made before; it goes
pub data Fate : Type 0 where
  absent : Fate
  norights : Fate
  to_origin : Fate
  extends : Fate
  goes : Fate

-- whether an item maps; else it grants
abbrev pub is_map : ItemKind → Bool
is_map Map = true
is_map Grant = false

-- whether the origin of what a place holds is the other place
abbrev pub has_origin : Holdings → Place → Place → Bool
has_origin h q p = option_map_or (same_place p) (origin_at h q) false

-- the same, with what the source holds
abbrev pub fate_of : Holdings → Job → Pair → Option Held → Fate
fate_of h job e None = absent
fate_of h job e (Some source) =
    if is_empty (meet source.rights job.rights) then norights
    else if is_held h e.1 && is_under h (only e.1) e.0 then to_origin
    else if is_map job.kind && has_origin h e.1 e.0 then extends
    else goes

-- the first line that fits, from the holdings at the item's start
abbrev pub fate : Holdings → Job → Pair → Fate
fate h job e = fate_of h job e (at h e.0)

-- whether the pair goes
abbrev pub is_going : Fate → Bool
is_going absent = false
is_going norights = false
is_going to_origin = false
is_going extends = false
is_going goes = true

-- the pairs that go
abbrev pub going : Holdings → Job → List Pair
going h job = filter (λ e. is_going (fate h job e)) job.pairs

-- the places that these pairs come from
abbrev pub sources_of : List Pair → PlaceSet
sources_of es p = list_any (λ e. same_place e.0 p) es

-- the places that these pairs go to
abbrev pub targets_of : List Pair → PlaceSet
targets_of es q = list_any (λ e. same_place e.1 q) es

-- the flush: the held targets of these pairs lose all, with all that derives from them, and no word is returned
-- (profile)
abbrev pub flush : Holdings → List Pair → Holdings
flush h es = strip h (λ q. targets_of es q && is_held h q) all_rights true

-- how many pairs had which outcome
pub record Counts : Type 0 where
  pub absent : ℕ
  pub norights : ℕ
  pub origin : ℕ
  pub lost : ℕ
  pub extended : ℕ
  pub linked : ℕ

-- no pair at all
abbrev pub no_counts : Counts
no_counts = record { absent = 0; norights = 0; origin = 0; lost = 0; extended = 0; linked = 0 }

-- the pairs of both
abbrev pub add_counts : Counts → Counts → Counts
add_counts a b = record {
  absent = a.absent + b.absent;
  norights = a.norights + b.norights;
  origin = a.origin + b.origin;
  lost = a.lost + b.lost;
  extended = a.extended + b.extended;
  linked = a.linked + b.linked;
}

-- a pair that goes or extends is lost where its source was flushed
abbrev pub counts_of : Fate → Bool → Counts
counts_of absent kept = record no_counts { absent = 1 }
counts_of norights kept = record no_counts { norights = 1 }
counts_of to_origin kept = record no_counts { origin = 1 }
counts_of extends kept = if kept then record no_counts { extended = 1 } else record no_counts { lost = 1 }
counts_of goes kept = if kept then record no_counts { linked = 1 } else record no_counts { lost = 1 }

-- the outcomes of pairs, from the holdings at the item's start and those after the flush
abbrev pub counts_from : Holdings → Holdings → Job → List Pair → Counts
counts_from h flushed job [] = no_counts
counts_from h flushed job (e ∷ es) = add_counts (counts_of (fate h job e) (is_held flushed e.0)) (counts_from h flushed job es)

-- the six counts of an item
abbrev pub counts : Holdings → Job → Counts
counts h job = counts_from h (flush h (going h job)) job job.pairs
