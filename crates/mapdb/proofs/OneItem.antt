-- The phases of one item, one after another, are those of the definition.
use Rattle.std.proofs.Common.{◌≡◌, ℕ, ◌+◌, ◌^◌, ◌<◌, true, ◌&&◌, List, sym, ap, ◌∙◌, subst, arith}
use Rattle.fpage.specs.Rights.{all_rights}
use Rattle.fpage.specs.declared.item.ItemKind.TheVariants.{Grant}
use Rattle.fpage.specs.declared.rights.Rights.{Rights}
use Rattle.space.specs.declared.place.Place.{Place}
use Rattle.model.specs.Definitions.Calls.{Limits}
use Rattle.model.specs.Definitions.Holdings.{Holdings, is_held}
use Rattle.model.specs.Definitions.Lawful.{is_lawful}
use Rattle.model.specs.Definitions.Items.{Job, Counts, flush, going, targets_of, add_counts}
use Rattle.model.specs.Definitions.Answers.{item_answer}
use Rattle.model.specs.Laws.SendLaws.{total}
use Rattle.model.specs.Definitions.Strip.{strip}
use Rattle.model.proofs.LawfulParts.{IsLawful, lawful_parts, lawful_from}
use Rattle.model.proofs.StripAt.{lawful_strip}
use Rattle.holdings.specs.declared.item_pages.ItemPages.{ItemPages}
use Rattle.holdings.specs.declared.transfer.Transfer.{Transfer}
use Rattle.holdings.specs.declared.transfer_counts.TransferCounts.{TransferCounts}
use Rattle.holdings.specs.Contents.{Contents, laid_out, left_with, IsConsistent, IsStripped}
use Rattle.holdings.specs.Layout.{OnlyGrows, index_in}
use Rattle.holdings.specs.Meaning as phase
use Rattle.holdings.specs.Places.{any_of}
use Rattle.holdings.specs.Sending.{job_of_pages, AreItemPages, ArePlanned, AllGo, AreReady, counts_after_flush}
use Rattle.holdings.proofs.CountSums.{total_sum}
use Rattle.mapdb.specs.Sending.{transfers_of, counts_before_flush, targets_in, after_flush, AreReplaced, AreWorkedBy}
use Rattle.mapdb.proofs.Phases.{is_job, flush_is, left_is, counts_are, total_is, are_planned, all_ready, few_pages, grant_goes}

abbrev pub the_transfers_of : Contents → ItemPages → List Transfer
the_transfers_of old p = transfers_of old.holdings (job_of_pages p) (job_of_pages p).pairs

module _ (old : Contents) (p : ItemPages) (consistent : IsConsistent old) (pages : AreItemPages old.limits p) where
  lawful : IsLawful old.holdings
  lawful = lawful_parts old.holdings consistent.lawful

  abbrev pub the_job : Job
  the_job = job_of_pages p

  abbrev pub the_transfers : List Transfer
  the_transfers = transfers_of old.holdings (job_of_pages p) (job_of_pages p).pairs

  few : p.count < 2 ^ 32
  few = few_pages old.limits p consistent.served pages

  pub planned : ArePlanned old.limits the_transfers
  planned = are_planned old.holdings lawful p pages.differ old.limits pages few

  module _ (flushed : Contents) (is : flushed ≡ left_with old (flush old.holdings (going old.holdings the_job))) where
    -- what the flush leaves
    flushed_is : flushed.holdings ≡ flush old.holdings (going old.holdings the_job)
    flushed_is = ap (λ (c : Contents). c.holdings) is

    same_limits : flushed.limits ≡ old.limits
    same_limits = ap (λ (c : Contents). c.limits) is

    pub lawful_then : is_lawful flushed.holdings ≡ true
    lawful_then =
        ap (λ (c : Contents). is_lawful c.holdings) is
        ∙ lawful_from (flush old.holdings (going old.holdings the_job)) (lawful_strip old.holdings (λ q. targets_of (going old.holdings the_job) q && is_held old.holdings q) all_rights true lawful)

    pub planned_then : ArePlanned flushed.limits the_transfers
    planned_then = subst (λ (l : Limits). ArePlanned l the_transfers) (sym same_limits) planned

    pub ready_then : AreReady flushed.holdings p.rights the_transfers
    ready_then = subst (λ (h : Holdings). AreReady h p.rights the_transfers) (sym flushed_is) (all_ready old.holdings the_job lawful (is_job old.holdings lawful p pages.differ))

    module _ (done : Contents × TransferCounts) (by_phase : AreWorkedBy flushed p.kind p.rights the_transfers done) (first : Counts) (first_is : first ≡ counts_before_flush old.holdings the_job the_job.pairs) where
      -- what is left is that of the definition
      pub left_then : done.0 ≡ laid_out (left_with old (item_answer old.holdings the_job).left) done.0.layout
      left_then =
          let left = ap (after_flush p.kind p.rights the_transfers) flushed_is ∙ left_is old.holdings lawful p pages.differ in
          by_phase.left ∙ (λ i. record { limits = same_limits i; holdings = left i; layout = done.0.layout })

      -- the flush moves no word, and makes none
      pub grows_then : OnlyGrows old.layout done.0.layout
      grows_then p i at = by_phase.grows p i (ap (λ (c : Contents). index_in c.layout p) is ∙ at)

      -- and so are the counts
      pub counts_then : add_counts first (phase.counts_of done.1) ≡ (item_answer old.holdings the_job).counts
      counts_then =
          let after = by_phase.counted ∙ ap (λ h. counts_after_flush h the_transfers) flushed_is in
          (λ i. add_counts (first_is i) (after i)) ∙ counts_are old.holdings lawful p pages.differ

      pub total_then : total (add_counts first (phase.counts_of done.1)) < 2 ^ 32
      total_then = subst (λ n. n < 2 ^ 32) (sym (ap total counts_then ∙ total_is old.holdings lawful p pages.differ)) few

      pub fits_then : total first + total (phase.counts_of done.1) < 2 ^ 128
      fits_then = by (total first) (total (phase.counts_of done.1)) (total (add_counts first (phase.counts_of done.1))) (total_sum first (phase.counts_of done.1)) total_then
        where
          by : (a b n : ℕ) → n ≡ a + b → n < 2 ^ 32 → a + b < 2 ^ 128
          by a b n same less = omega (arith, same, less)

-- ---- the flush

-- what the flush of an item left, and what is known of its transfers then
pub record IsFlushed (old : Contents) (p : ItemPages) (ts : List Transfer) (now : Contents) : Type 0 where
  pub left : now ≡ left_with old (flush old.holdings (going old.holdings (job_of_pages p)))
  pub lawful_now : is_lawful now.holdings ≡ true
  pub are_planned : ArePlanned now.limits ts
  pub are_ready : AreReady now.holdings p.rights ts
  pub all_go : p.kind ≡ Grant → AllGo ts

-- the places that lost all their rights are the held targets of the transfers that go
pub is_flushed : (old : Contents) (p : ItemPages) → IsConsistent old → AreItemPages old.limits p → (ts : List Transfer) → ts ≡ the_transfers_of old p → (places : List Place) → AreReplaced old.holdings ts places
    → (a : Rights) → a ≡ all_rights → (r : Contents × Rights) → IsStripped old (any_of places) a true r → IsFlushed old p ts r.0
is_flushed old p consistent pages ts same places replaced a all r is =
    let h = old.holdings in
    let left : r.0 ≡ left_with old (flush h (going h (job_of_pages p))) =
    is.left ∙ (λ i. left_with old (strip h (λ q. replaced q i) (all i) true)) ∙ ap (λ (us : List Transfer). left_with old (strip h (λ q. targets_in us q && is_held h q) all_rights true)) same
    ∙ ap (left_with old) (flush_is h (lawful_parts h consistent.lawful) p pages.differ) in
    record {
      left = left;
      lawful_now = lawful_then old p consistent pages r.0 left;
      are_planned = subst (ArePlanned r.0.limits) (sym same) (planned_then old p consistent pages r.0 left);
      are_ready = subst (AreReady r.0.holdings p.rights) (sym same) (ready_then old p consistent pages r.0 left);
      all_go = λ grants. subst AllGo (sym same) (grant_goes old.holdings (job_of_pages p) grants (job_of_pages p).pairs);
    }
