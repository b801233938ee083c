-- One item of a send: its pairs that go or extend, and what the phases after the flush leave.
use Rattle.std.specs.Prelude.{◌≡◌, ℕ, ◌+◌, ◌-◌, ◌≤◌, true, false, ◌&&◌, not, List, [], ◌∷◌, ◌++◌}
use Rattle.std.specs.List.{list_any}
use Rattle.fpage.specs.declared.item.ItemKind.{ItemKind}
use Rattle.fpage.specs.declared.item.ItemKind.TheVariants.{Map, Grant}
use Rattle.fpage.specs.declared.rights.Rights.{Rights}
use Rattle.fpage.specs.Rights.{all_rights, without}
use Rattle.space.specs.declared.place.Place.{Place}
use Rattle.space.specs.Directory.{pages_of}
use Rattle.space.specs.Place.{same_place}
use Rattle.model.specs.Definitions.Grant.{renamed}
use Rattle.model.specs.Definitions.Holdings.{Holdings, PlaceSet, is_held}
use Rattle.model.specs.Definitions.Items.{Job, Pair, pairs_from, sources_of, Fate, absent, norights, to_origin, extends, goes, fate, Counts, no_counts, add_counts}
use Rattle.model.specs.Laws.SendLaws.{total}
use Rattle.model.specs.Definitions.Strip.{strip}
use Rattle.holdings.specs.declared.item_pages.ItemPages.{ItemPages}
use Rattle.holdings.specs.declared.outcome.Outcome.{Outcome}
use Rattle.holdings.specs.declared.outcome.Outcome.TheVariants as outcome
use Rattle.holdings.specs.declared.transfer.Transfer.{Transfer}
use Rattle.holdings.specs.declared.transfer_counts.TransferCounts.{TransferCounts}
use Rattle.holdings.specs.Contents.{Contents, laid_out, left_with}
use Rattle.holdings.specs.Layout.{OnlyGrows}
use Rattle.holdings.specs.Meaning as phase
use Rattle.holdings.specs.Places.{any_of}
use Rattle.holdings.specs.Sending.{page_on, job_of_pages, map_transfers, moving_of, counts_after_flush}
use Rattle.mapdb.specs.declared.plan.Plan.{Plan}
use Rattle.mapdb.specs.declared.reply.SendReply.{SendReply}
use Rattle.mapdb.specs.Meaning.{counts_of}

-- its pages lie in spaces of 2^bits bytes
pub record FitsIn (bits : ℕ) (p : ItemPages) : Type 0 where
  pub sources : p.source.page + p.count ≤ pages_of bits
  pub targets : p.target.page + p.count ≤ pages_of bits

-- ---- the pairs that go or extend

-- a pair that goes or extends, before others
abbrev pub transfer_of : Pair → Fate → List Transfer → List Transfer
transfer_of e absent ts = ts
transfer_of e norights ts = ts
transfer_of e to_origin ts = ts
transfer_of e extends ts = record { source = e.0; target = e.1; extends = true } ∷ ts
transfer_of e goes ts = record { source = e.0; target = e.1; extends = false } ∷ ts

-- those of some pairs, in order
abbrev pub transfers_of : Holdings → Job → List Pair → List Transfer
transfers_of h job [] = []
transfers_of h job (e ∷ es) = transfer_of e (fate h job e) (transfers_of h job es)

-- how a pair counts that neither goes nor extends
abbrev pub count_before_flush : Fate → Counts
count_before_flush absent = record no_counts { absent = 1 }
count_before_flush norights = record no_counts { norights = 1 }
count_before_flush to_origin = record no_counts { origin = 1 }
count_before_flush extends = no_counts
count_before_flush goes = no_counts

-- how many of some pairs neither go nor extend
abbrev pub counts_before_flush : Holdings → Job → List Pair → Counts
counts_before_flush h job [] = no_counts
counts_before_flush h job (e ∷ es) = add_counts (count_before_flush (fate h job e)) (counts_before_flush h job es)

-- the first i of n pairs were decided: these counts and transfers with those of the pairs to come are those of all
pub record AreDecided (h : Holdings) (job : Job) (n i : ℕ) (source target : Place) (counts : Counts) (ts : List Transfer) : Type 0 where
  pub counts_are : add_counts counts (counts_before_flush h job (pairs_from (n - i) (page_on source i) (page_on target i))) ≡ counts_before_flush h job (pairs_from n source target)
  pub transfers_are : ts ++ transfers_of h job (pairs_from (n - i) (page_on source i) (page_on target i)) ≡ transfers_of h job (pairs_from n source target)
  pub few : total counts ≤ i

-- the ends of those that go
abbrev pub ends_in : (Transfer → Place) → List Transfer → PlaceSet
ends_in end ts p = list_any (λ t. not t.extends && same_place p (end t)) ts

-- their sources, and their targets
abbrev pub sources_in : List Transfer → PlaceSet
sources_in ts = ends_in (λ t. t.source) ts

abbrev pub targets_in : List Transfer → PlaceSet
targets_in ts = ends_in (λ t. t.target) ts

-- the places are the held targets of those that go
abbrev pub AreReplaced : Holdings → List Transfer → List Place → Type 0
AreReplaced h ts places = (p : Place) → any_of places p ≡ (targets_in ts p && is_held h p)

-- the target of a page with this outcome, if it is one of them
abbrev pub replaced_by : Outcome → Place → List Place
replaced_by outcome.Absent p = []
replaced_by outcome.NoRights p = []
replaced_by outcome.Origin p = []
replaced_by outcome.Extends p = []
replaced_by outcome.Replaces p = p ∷ []
replaced_by outcome.Goes p = []

-- the first i pages of an item were decided
pub record IsDecided (h : Holdings) (p : ItemPages) (i : ℕ) (plan : Plan) : Type 0 where
  pub pairs : AreDecided h (job_of_pages p) p.count i p.source p.target (counts_of plan.decided) plan.transfers.items
  pub replaced : AreReplaced h plan.transfers.items plan.replaced.items

-- ---- what is left

-- what is left of the holdings after the flush when the pages are mapped, or moved
abbrev pub after_flush : ItemKind → Rights → List Transfer → Holdings → Holdings
after_flush Map rights ts h = map_transfers h (record { kind = Map; rights = rights; pairs = [] }) ts h
after_flush Grant rights ts h = renamed (moving_of h ts) (strip h (sources_of (moving_of h ts)) (without all_rights rights) true)

-- the phase after the flush left this, and counted its transfers
pub record AreWorkedBy (old : Contents) (kind : ItemKind) (rights : Rights) (ts : List Transfer) (r : Contents × TransferCounts) : Type 0 where
  -- the limits stay; what is held and which places have a word may change
  pub left : r.0 ≡ laid_out (left_with old (after_flush kind rights ts old.holdings)) r.0.layout
  -- words are made, and none moves
  pub grows : OnlyGrows old.layout r.0.layout
  -- how many transfers were linked, extended and lost
  pub counted : phase.counts_of r.1 ≡ counts_after_flush old.holdings ts

-- items left this, and were counted so
pub record IsSent (old : Contents) (left : Holdings) (counts : Counts) (r : Contents × SendReply) : Type 0 where
  -- the limits stay; what is held and which places have a word may change
  pub left_is : r.0 ≡ laid_out (left_with old left) r.0.layout
  -- words are made, and none moves
  pub grows : OnlyGrows old.layout r.0.layout
  -- what became of the pages
  pub counted : counts_of r.1 ≡ counts
