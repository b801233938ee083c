-- Space after space.
use Rattle.std.proofs.Common.{◌+◌, ◌<◌, ◌++◌, ◌∙◌, map, ap, sym, subst, append_assoc}
use Rattle.holdings.specs.Mappings.{mapped_of, held_from}
use Rattle.holdings.proofs.Contents.FromPages.{from_space, all_spaces, one_space}
use Rattle.holdings.proofs.mappings.Mappings.list.Goals as goal

pub loop-space-init : goal.loop-space-init
loop-space-init c =
    ap (λ ms. map mapped_of ms ++ from_space c.args.self.now 0) c.in_ok-list.ensures.items ∙ all_spaces c.args.self.now c.limits-limits.ensures.consistent

pub loop-space-preserved : goal.loop-space-preserved
loop-space-preserved c =
    let h = c.args.self.now in
    let s = c.loop-space.space in
    let so_far = map mapped_of c.loop-space.list.items in
    let within : s < h.limits.spaces = subst (λ n. s < n) (ap (λ l. l.spaces) c.limits-limits.ensures.limits) c.loop-space-test.true in
    ap (λ ms. ms ++ from_space h (s + 1)) c.in_ok-push_space.ensures ∙ append_assoc so_far (held_from h s 0) (from_space h (s + 1)) ∙ ap (λ ms. so_far ++ ms) (sym (one_space h s within))
    ∙ c.loop-space.invariant
