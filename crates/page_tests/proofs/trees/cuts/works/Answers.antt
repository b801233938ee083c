-- What is kept is kept with its origin.
use Rattle.std.proofs.Common.{◌≡◌, true, not, Some, ap, ◌∙◌, subst}
use Rattle.std.specs.List.{list_all, list_any}
use Rattle.space.specs.declared.place.Place.{Place}
use Rattle.space.specs.Place.{same_place}
use Rattle.maptree.specs.Origins.{origin_in}
use Rattle.space.specs.Slices.{nodes_of}
use Rattle.maptree.specs.Cuts.{kept_of}
use Rattle.page_tests.proofs.trees.cuts.works.Goals as goal

pub splice-spliced-requires : goal.splice-spliced-requires
splice-spliced-requires g c =
    let os = c.args.tree.now.links in
    let gone = c.in_ok-gone.gone.items in
    let left = c.cuts.new.tree in
    record {
      whole = os;
      given = nodes_of c.in_ok-parts.parts.items;
      cut = c.in_ok-parts.ensures;
      keep = λ p. not (list_any (λ q. same_place q p) gone);
      kept = c.in_ok-kept.ensures
          ∙ ap (λ gs. kept_of (λ p. not (list_any (λ q. same_place q p) gs)) (nodes_of c.deref-3.result.now)) c.deref-4.ensures.value
          ∙ ap (λ ps. kept_of (λ p. not (list_any (λ q. same_place q p) gone)) (nodes_of ps)) c.deref-3.ensures.value;
      left = subst (λ gs. list_all (λ o. not (list_any (λ q. same_place q o.0) gs)) left.links ≡ true) c.deref-2.ensures.value (c.are_absent.ensures c.if-not-are_absent.false);
      origins = subst (λ gs. (p o : Place) → origin_in os p ≡ Some o → not (list_any (λ q. same_place q p) gs) ≡ true → not (list_any (λ q. same_place q o) gs) ≡ true)
          c.deref.ensures.value (c.are_closed.ensures c.if-not-are_closed.false);
    }
