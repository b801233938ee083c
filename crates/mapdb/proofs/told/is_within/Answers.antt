-- Outside the limits nothing is held.
use Rattle.std.proofs.Common.{ap, ◌∙◌, arith}
use Rattle.space.specs.Directory.{pages_of}
use Rattle.model.specs.Definitions.Calls.{Limits}
use Rattle.mapdb.proofs.ToldNotes.{outside_unheld}
use Rattle.mapdb.proofs.told.is_within.Goals as goal

pub returns-then-from-limits-clause-outside : goal.returns-then-from-limits-clause-outside
returns-then-from-limits-clause-outside c outside =
    outside_unheld c.args.held.now c.limits-limits.ensures.consistent c.args.place
    (λ within. omega (arith, within.space, c.if-from-limits.true, c.from.ensures, ap (λ (l : Limits). l.spaces) c.limits-limits.ensures.limits))

pub returns-then-place-pages-clause-outside : goal.returns-then-place-pages-clause-outside
returns-then-place-pages-clause-outside c outside =
    outside_unheld c.args.held.now c.limits-limits.ensures.consistent c.args.place
    (λ within. omega (arith, within.page, c.if-place-pages.true, c.pages.ensures ∙ ap (λ (l : Limits). pages_of l.bits) c.limits-limits.ensures.limits))
