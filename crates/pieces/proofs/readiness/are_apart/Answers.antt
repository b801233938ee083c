-- The set has the indexes that are changed, so it tells of each fold word whether it is one of them.
use Rattle.std.proofs.Common.{rules, tests, ◌≡◌, ◌∙◌, sym, ap, not, is_some}
use Rattle.std.specs.List.{list_all, list_any}
use Rattle.std.specs.Ordering.{nat_cmp, is_eq}
use Rattle.std.proofs.lemmas.Iterator.{YieldsList-from_slice}
use Rattle.std.proofs.lemmas.Iterator.Search.{all_from_yields_List}
use Rattle.pieces.specs.Phases.{folds}
use Rattle.pieces.proofs.ReadyTests.{apart_by_keys}
use Rattle.pieces.proofs.readiness.are_apart.Goals as goal

pub returns : goal.returns
returns c =
    let keys = c.in-Some.changed.keys in
    let each : c.all.result ≡ list_all (λ p. list_all (λ i. not (list_any (λ k. is_eq (nat_cmp i k)) keys)) (folds p)) c.args.pieces.now =
    all_from_yields_List _ _ _ c.all.result c.all.ensures.ran (YieldsList-from_slice c.args.pieces.now cc) (λ x b q k. search (rules, tests)) in
    each
    ∙ apart_by_keys keys c.deref.result.now c.args.pieces.now (c.deref.ensures.value ∙ c.in_ok-changed.ensures) (sym (ap is_some c.in-Some.is) ∙ c.in_ok-distinct_set.ensures.distinct)
    (rw c.in-Some.is at c.in_ok-distinct_set.ensures.set)
