-- The words are there.
use Rattle.std.proofs.Common.{IsFalse}
use Rattle.space.specs.Shards.{is_taken}
use Rattle.page_tests.proofs.entries.the_next_run_is_found_from_any_page.Given as goal

abbrev pub invariant-loop-page : goal.invariant-loop-page
invariant-loop-page g l = IsFalse (is_taken l.shards)

abbrev pub invariant-loop-page-2 : goal.invariant-loop-page-2
invariant-loop-page-2 g l = (goal.iterator-loop-page-2 g).can_next l.page-iterator × (goal.iterator-loop-page-2 g).is_finite l.page-iterator
