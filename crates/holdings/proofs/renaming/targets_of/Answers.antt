-- One more is told.
use Rattle.std.proofs.Common.{get_or, Some, ap, ◌∙◌, sym, subst, ◌≤◌, if◌then◌else◌}
use Rattle.std.specs.List.{All}
use Rattle.space.specs.Place.{same_place}
use Rattle.holdings.proofs.Links.LinkedTrees.{no_link, one_told}
use Rattle.holdings.proofs.renaming.targets_of.Goals as goal

pub loop-link-init : goal.loop-link-init
loop-link-init c = record { space = c.none-targets.ensures.space; first = subst (λ n. All (λ m. n ≤ m.source.page) c.args.links.now) (sym c.none-targets.ensures.first) c.first_page.ensures; are = c.none-targets.ensures.none }

pub loop-link-preserved : goal.loop-link-preserved
loop-link-preserved c =
    let ls = c.args.links.now in
    let l = get_or ls c.loop-link.link-index no_link in
    record {
      space = c.put.ensures.space ∙ c.loop-link.invariant.space;
      first = subst (λ n. All (λ m. n ≤ m.source.page) ls) (sym c.put.ensures.first) c.loop-link.invariant.first;
      are = λ p. c.in_ok-put.ensures.put p ∙ ap (λ o. if same_place p l.source then Some l.target else o) (c.loop-link.invariant.are p) ∙ sym (one_told ls c.loop-link.link-index no_link p c.loop-link-test.true);
    }
