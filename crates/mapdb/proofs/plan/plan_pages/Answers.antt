-- One page more.
use Rattle.std.proofs.Common.{◌++◌, [], sym, ap, ◌∙◌, arith}
use Rattle.model.specs.Definitions.Holdings.{is_held}
use Rattle.model.specs.Definitions.Items.{Pair, fate, add_counts}
use Rattle.holdings.specs.Sending.{fate_of_outcome, job_of_pages, page_on}
use Rattle.mapdb.specs.Meaning.{counts_of}
use Rattle.mapdb.specs.Sending.{transfer_of, replaced_by}
use Rattle.mapdb.proofs.Ends.{one_replaced}
use Rattle.mapdb.proofs.Plans.{one_decided}
use Rattle.mapdb.proofs.Phases.{pages_few}
use Rattle.mapdb.proofs.plan.plan_pages.Goals as goal

pub pair-requires-clause-source : goal.pair-requires-clause-source
pair-requires-clause-source c = omega (arith, c.loop-i-test.true, c.requires.end, c.requires.pages.source_pages, pages_few c.args.held.now.limits c.requires.consistent.served)

pub pair-requires-clause-target : goal.pair-requires-clause-target
pair-requires-clause-target c = omega (arith, c.loop-i-test.true, c.requires.end, c.requires.pages.target_pages, pages_few c.args.held.now.limits c.requires.consistent.served)

pub loop-i-preserved : goal.loop-i-preserved
loop-i-preserved c =
    let h = c.args.held.now.holdings in
    let p = c.args.pages.now in
    let i = c.loop-i.i in
    let job = job_of_pages p in
    let o = c.outcome-outcome.result in
    let e : Pair = (page_on p.source i, page_on p.target i) in
    let so_far = c.loop-i.plan in
    let outcome = c.outcome-outcome.ensures in
    let counts = c.plus-plan.ensures ∙ ap (add_counts (counts_of so_far.decided)) c.of_outcome.ensures in
    let transfers = c.in_ok-add_transfer.ensures ∙ ap (λ (x : Pair). so_far.transfers.items ++ transfer_of x (fate_of_outcome o) []) c.pair.ensures in
    let replaced = c.in_ok-add_replaced.ensures ∙ ap (λ (x : Pair). so_far.replaced.items ++ replaced_by o x.1) c.pair.ensures in
    record {
      pairs =
          one_decided h job p.count p.source p.target i (counts_of so_far.decided) (counts_of c.plus-plan.result) so_far.transfers.items c.add_transfer.new.transfers.items (fate_of_outcome o)
          (omega (arith, c.loop-i-test.true, c.requires.end)) c.loop-i.invariant.pairs (outcome.outcome ∙ ap (fate h job) c.pair.ensures) counts transfers;
      replaced = one_replaced h e.0 e.1 o so_far.transfers.items c.add_transfer.new.transfers.items so_far.replaced.items c.add_replaced.new.replaced.items
          (λ goes. sym (ap (λ (x : Pair). is_held h x.1) c.pair.ensures) ∙ outcome.free goes) (λ replaces. sym (ap (λ (x : Pair). is_held h x.1) c.pair.ensures) ∙ outcome.held replaces)
          c.loop-i.invariant.replaced transfers replaced;
    }
