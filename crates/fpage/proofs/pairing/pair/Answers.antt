-- The runs list the definition's pairs, since the send fpage and the window are aligned.
use Rattle.std.proofs.Common.{rules, ◌≡◌, ap, sym, ◌∙◌}
use Rattle.fpage.specs.Item.{is_pair_of, pairs_of}
use Rattle.fpage.specs.declared.pairing.Pairing.{Pairing}
use Rattle.fpage.proofs.Alignments.{aligned_from}
use Rattle.fpage.proofs.Pairings.{same_pairs}
use Rattle.fpage.proofs.pairing.pair.Goals as goal

pub returns-clause-pairs : goal.returns-clause-pairs
returns-clause-pairs c = λ p q.
    let runs : Pairing = record { source = c.run_start.result; target = c.run_start-2.result; count = c.min-count.result } in
    let same : runs ≡ pairs_of c.args.item.now c.args.window.now = search rules in
    let sent = aligned_from c.args.item.now.sent c.pages-sources.ensures.aligned in
    let window = aligned_from c.args.window.now c.pages-targets.ensures.aligned in
    ap (λ r. is_pair_of r p q) same ∙ sym (same_pairs c.args.item.now c.args.window.now p q sent window)
