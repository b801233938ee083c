-- The held ones so far, with those of the pages to come, are all of them.
use Rattle.std.proofs.Common.{◌≡◌, ◌-◌, ◌++◌, filter}
use Rattle.model.specs.Definitions.Holdings.{is_held}
use Rattle.holdings.specs.Places.{pages_from}
use Rattle.holdings.proofs.holdings.Holdings.held_among.Given as goal

abbrev pub invariant-loop-page : goal.invariant-loop-page
invariant-loop-page l =
    l.places.items ++ filter (is_held l.self.holdings) (pages_from l.space l.page (l.pages.end - l.page))
    ≡ filter (is_held l.self.holdings) (pages_from l.space l.pages.start (l.pages.end - l.pages.start))

abbrev pub decreases-loop-page : goal.decreases-loop-page
decreases-loop-page l = l.pages.end - l.page
