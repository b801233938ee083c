-- Sources that are not there are absent.
use Rattle.std.proofs.Common.{◌≡◌, ◌+◌, ◌-◌, sym, ap, ◌∙◌, subst, arith}
use Rattle.model.specs.Definitions.Items.{add_counts}
use Rattle.holdings.specs.Sending.{job_of_pages}
use Rattle.mapdb.specs.Meaning.{counts_of}
use Rattle.mapdb.specs.Sending.{AreDecided}
use Rattle.mapdb.proofs.Plans.{absent_decided}
use Rattle.mapdb.proofs.plan.plan_item.Goals as goal

pub plan_pages-requires-clause-before : goal.plan_pages-requires-clause-before
plan_pages-requires-clause-before c =
    let h = c.args.held.now.holdings in
    let p = c.args.pages.now in
    let i = c.loop-i.i in
    let start = c.next_sources-run.result.pages.start in
    let so_far = c.loop-i.plan in
    let from = c.next_sources-run.ensures.from in
    let on : i + (start - i) ≡ start = omega (arith, from) in
    let counts = c.plus-plan.ensures ∙ ap (add_counts (counts_of so_far.decided)) c.of_absent.ensures in
    let gap = absent_decided h (job_of_pages p) p.count p.source p.target (start - i) i (counts_of so_far.decided) so_far.transfers.items
    (omega (arith, on, c.next_sources-run.ensures.order, c.next_sources-run.ensures.end)) c.loop-i.invariant.decided.pairs (λ k after before. c.next_sources-run.ensures.absent k after (omega (arith, on, before))) in
    record {
      pairs = subst (λ k. AreDecided h (job_of_pages p) p.count k p.source p.target (counts_of c.plus-plan.result) so_far.transfers.items) on
          (subst (λ n. AreDecided h (job_of_pages p) p.count (i + (start - i)) p.source p.target n so_far.transfers.items) (sym counts) gap);
      replaced = c.loop-i.invariant.decided.replaced;
    }
