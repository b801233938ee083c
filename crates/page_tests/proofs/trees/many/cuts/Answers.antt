-- What is kept is kept with its origin.
use Rattle.std.proofs.Common.{not, ap, ◌∙◌}
use Rattle.std.specs.List.{list_any}
use Rattle.space.specs.Place.{same_place}
use Rattle.space.specs.Slices.{nodes_of}
use Rattle.maptree.specs.Cuts.{kept_of}
use Rattle.page_tests.proofs.trees.many.cuts.Goals as goal

pub splice-requires : goal.splice-requires
splice-requires g c =
    let gone = c.args.gone.now in
    record {
      whole = c.args.tree.now.links;
      given = nodes_of c.in_ok-parts.parts.items;
      cut = c.in_ok-parts.ensures.cut;
      keep = λ p. not (list_any (λ q. same_place q p) gone);
      kept = c.in_ok-kept.ensures ∙ ap (λ ps. kept_of (λ p. not (list_any (λ q. same_place q p) gone)) (nodes_of ps)) c.deref-3.ensures.value;
      left = c.are_absent.ensures c.if-not-are_absent.false;
      origins = c.are_closed.ensures c.if-not-are_closed.false;
    }
