-- The accesses so far are as many as turns, and each is of a word.
use Rattle.std.proofs.Common.{◌≡◌, true, nat_lt, length, map}
use Rattle.std.specs.List.{list_all}
use Rattle.phase_tests.proofs.by_workers.eighteen_accesses.Given as goal

abbrev pub invariant-loop-number : goal.invariant-loop-number
invariant-loop-number l = (length l.list.items ≡ l.number) × (list_all (λ i. nat_lt i 2) (map (λ x. x.index) l.list.items) ≡ true)
