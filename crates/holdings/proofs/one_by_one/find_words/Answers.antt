-- One word more.
use Rattle.std.proofs.Common.{◌≡◌, ◌-◌, ◌<◌, ◌≤◌, slice_index, slice_set, length, sym, ap, ◌∙◌, subst, arith, below_more}
use Rattle.std.proofs.lemmas.List.{get_or-set_same, get_or-set_other, length-set}
use Rattle.space.specs.declared.place.Place.{Place}
use Rattle.space.specs.Shards.{IsPlace, HasWord, index_of}
use Rattle.maptree.specs.Origins.{place_at}
use Rattle.holdings.proofs.one_by_one.find_words.Goals as goal

pub index-requires-clause-place : goal.index-requires-clause-place
index-requires-clause-place c =
    let d : Place = record { space = 0; page = 0 } in
    let is : place_at c.args.nodes.now c.loop-j.j d ≡ c.at.result.place = sym (c.at.ensures.place d ∙ ap (λ os. place_at os c.loop-j.j d) c.loop-j.invariant.nodes) in
    subst (IsPlace c.args.shards.now) is (c.requires.words c.loop-j.j d (omega (arith, c.loop-j-test.true, c.requires.within))).place

pub index-requires-clause-has : goal.index-requires-clause-has
index-requires-clause-has c =
    let d : Place = record { space = 0; page = 0 } in
    let is : place_at c.args.nodes.now c.loop-j.j d ≡ c.at.result.place = sym (c.at.ensures.place d ∙ ap (λ os. place_at os c.loop-j.j d) c.loop-j.invariant.nodes) in
    subst (HasWord c.args.shards.now) is (c.requires.words c.loop-j.j d (omega (arith, c.loop-j-test.true, c.requires.within))).word

pub loop-j-preserved : goal.loop-j-preserved
loop-j-preserved c =
    let s = c.args.shards.now in
    let from = c.args.from in
    let j = c.loop-j.j in
    let so_far = c.loop-j.invariant in
    let many = so_far.many in
    let least : from ≤ j = omega (arith, c.loop-j.auto.j) in
    let inside : j - from < length c.loop-j.found = omega (arith, many, c.loop-j-test.true, c.requires.few, least) in
    record {
      nodes = c.at.ensures.same ∙ so_far.nodes;
      many = length-set c.loop-j.found (j - from) c.index.result ∙ many;
      found = below_more (λ k. (d : Place) → from ≤ k → slice_index (slice_set c.loop-j.found (j - from) c.index.result) (k - from) ≡ index_of s (place_at c.args.nodes.now k d)) j
          (λ k less d behind. get_or-set_other c.loop-j.found (j - from) (k - from) c.index.result 0 (λ same. omega (arith, same, less, behind, least)) ∙ so_far.found k less d behind)
          (λ d behind. get_or-set_same c.loop-j.found (j - from) c.index.result 0 inside ∙ c.index.ensures.index
          ∙ ap (index_of s) (c.at.ensures.place d ∙ ap (λ os. place_at os j d) so_far.nodes));
    }
