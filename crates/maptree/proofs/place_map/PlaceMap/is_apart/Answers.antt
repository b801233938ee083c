-- One page more, and then all.
use Rattle.std.proofs.Common.{◌≡◌, length, ap, ◌∙◌, rules, arith}
use Rattle.maptree.proofs.EachReplaced.{for_first, for_none, for_all, ends_more}
use Rattle.maptree.proofs.place_map.PlaceMap.is_apart.Goals as goal

pub loop-k-init : goal.loop-k-init
loop-k-init c = λ p q is. absurd (cc (for_none c.args.self.now p, is))

pub loop-k-preserved : goal.loop-k-preserved
loop-k-preserved c =
    ends_more c.args.self.now c.loop-k.k c.key.result c.key.ensures.space c.key.ensures.page c.loop-k.invariant (c.ends_at.ensures (search rules))

pub returns : goal.returns
returns c = λ true p q is.
    let new = c.args.self.now in
    let all : c.loop-k.k ≡ length new.places = search (rules, arith) in
    c.loop-k.invariant p q (ap (λ k. for_first new k p) all ∙ for_all new p ∙ is)
