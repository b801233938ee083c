-- It is the lowest so far.
use Rattle.std.proofs.Common.{◌≤◌, take}
use Rattle.std.specs.List.{All}
use Rattle.holdings.proofs.renaming.first_page.Given as goal

abbrev pub invariant-loop-link : goal.invariant-loop-link
invariant-loop-link l = All (λ m. l.first ≤ m.source.page) (take l.link-index l.links)
