-- A page has an index where its shard is there.
use Rattle.std.proofs.Common.{Some, sym, ap, ◌∙◌, subst}
use Rattle.holdings.specs.Contents.{Contents}
use Rattle.holdings.specs.Inner.Held.{limits_in}
use Rattle.holdings.specs.Layout.{index_in}
use Rattle.holdings.specs.Places.{IsWithin}
use Rattle.holdings.proofs.Contents.Holders.{place_within}
use Rattle.holdings.proofs.Contents.Layouts.{has_index, no_index}
use Rattle.holdings.proofs.holdings.Holdings.index.Goals as goal

pub returns-then-not-has : goal.returns-then-not-has
returns-then-not-has c =
    let shards = c.self.inside.shards in
    sym (no_index shards c.args.place (λ has. absurd (cc (c.has.ensures.there.1 has, c.if-not-has.true))))
    ∙ ap (λ (h : Contents). index_in h.layout c.args.place) c.self.view_is

pub returns : goal.returns
returns c =
    let d = c.self.inside in
    let within = subst (λ (h : Contents). IsWithin h.limits c.args.place) (sym c.self.view_is) c.requires in
    let limits = limits_in d.shards d.trees.items in
    let place = place_within limits d.shards d.trees.items c.self.invariant.kept.fits c.args.place within in
    let there = has_index d.shards c.args.place place (c.has.ensures.there.0 c.if-not-has.false) in
    ap (λ n. Some n) c.index.ensures.index ∙ sym there
    ∙ ap (λ (h : Contents). index_in h.layout c.args.place) c.self.view_is
