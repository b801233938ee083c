-- Without the runs that are gone the tree has what has entries.
use Rattle.std.proofs.Common.{◌≡◌, ℕ, List, [], ◌∷◌, length, refl, subst, sym, ap, ◌∙◌, arith}
use Rattle.std.specs.List.{All}
use Rattle.std.specs.declared.ops.Range.{Range}
use Rattle.std.proofs.lemmas.Bool.{eqb-true}
use Rattle.maptree.specs.Origins.{Origins, IsRun}
use Rattle.maptree.specs.Cuts.{outside}
use Rattle.holdings.proofs.Stripping.GoneRuns.{without_gone}
use Rattle.holdings.proofs.prune.prune.Goals.{then-not-is_empty, else-not-is_empty}
use Rattle.holdings.proofs.prune.prune.Goals as goal

-- outside of no runs is all
none_out : (runs : List (Range ℕ)) (os : Origins) → length runs ≡ 0 → os ≡ outside 0 runs os
none_out [] os is = refl
none_out (r ∷ rs) os is = absurd (omega (arith, is))

pub remove-requires-clause-runs : goal.remove-requires-clause-runs
remove-requires-clause-runs c = subst (All (IsRun c.args.tree.now.links)) (sym c.deref.ensures.value) c.in_ok-gone.ensures.whole

pub returns : goal.returns
returns c =
    let os = c.args.tree.now.links in
    let gone = c.in_ok-gone.gone in
    let left = without_gone c.args.shards.now os gone.items c.in_ok-gone.ensures in
    elim c.if-not-is_empty.branch [
      | then-not-is_empty w ↦ ap (λ t. t.links) w.tree-is ∙ w.remove.ensures.links ∙ ap (λ rs. outside 0 rs os) w.deref.ensures.value ∙ left
      | else-not-is_empty w ↦
          let empty = eqb-true gone.len 0 (sym c.is_empty.ensures ∙ w.if-not-is_empty.false) in
          ap (λ t. t.links) w.tree-is ∙ none_out gone.items os (sym gone.ok.0 ∙ empty) ∙ left
    ]
