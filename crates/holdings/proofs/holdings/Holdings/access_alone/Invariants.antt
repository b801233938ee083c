-- What the accesses so far left and answered, with those to come, is what all do.
use Rattle.std.proofs.Common.{◌≡◌, ◌++◌, drop}
use Rattle.holdings.specs.Contents.{left_with, touched_all, access_answers}
use Rattle.holdings.proofs.holdings.Holdings.access_alone.Given as goal

abbrev pub invariant-loop-place : goal.invariant-loop-place
invariant-loop-place l =
    (left_with l.held (touched_all l.held.holdings (drop l.place-index l.accesses)) ≡ left_with l.fn.self (touched_all l.fn.self.holdings l.accesses))
    × ((l.answers.items ++ access_answers l.held.holdings (drop l.place-index l.accesses)) ≡ access_answers l.fn.self.holdings l.accesses)
