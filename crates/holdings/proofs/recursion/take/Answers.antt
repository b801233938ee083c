-- The rights are lost, unless the page is the first and is to keep them.
use Rattle.std.proofs.Common.{◌≡◌, ◌∙◌, ◌||◌, not, sym, ap, subst}
use Rattle.std.proofs.Common.{ℕ, ◌&&◌, arith}
use lib.Dec.{eqb}
use Rattle.std.specs.Ordering.{nat_cmp, ordering_then, is_eq}
use Rattle.std.proofs.lemmas.Bool.Decides.{nat_tests}
use Rattle.std.specs.Option.{option_and_then}
use Rattle.space.specs.Place.{same_place}
use Rattle.space.specs.Entries.{narrowed}
use Rattle.space.specs.Shards.{IsSetAt, entry_at}
use Rattle.holdings.proofs.recursion.take.Goals.{then-flush, else-flush}
use Rattle.holdings.proofs.recursion.take.Goals as goal

same_numbers : (a b c d : ℕ) → (eqb a c && eqb b d) ≡ is_eq (ordering_then (nat_cmp a c) (nat_cmp b d))
same_numbers a b c d = grind (arith, nat_tests)

pub returns-clause-set : goal.returns-clause-set
returns-clause-set c =
    let flag : c.if-flush.loses ≡ (c.args.flush || not (same_place c.args.place c.args.first)) = elim c.if-flush.branch as (λ _. c.if-flush.loses ≡ (c.args.flush || not (same_place c.args.place c.args.first))) [
      | then-flush w ↦ w.loses-is ∙ w.if-flush.true ∙ ap (λ b. b || not (same_place c.args.place c.args.first)) (sym w.if-flush.true)
      | else-flush w ↦ w.loses-is ∙ w.ne-loses.ensures ∙ ap not (same_numbers c.args.place.space c.args.place.page c.args.first.space c.args.first.page) ∙ ap (λ b. b || not (same_place c.args.place c.args.first)) (sym w.if-flush.false)
    ] in
    subst (λ b. IsSetAt c.args.shards.now c.narrow.new.self c.args.place (option_and_then (narrowed b c.args.revoked) (entry_at c.args.shards.now c.args.place))) flag c.narrow.ensures.set
