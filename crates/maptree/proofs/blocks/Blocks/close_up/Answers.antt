-- Blocks without nodes hold none.
use Rattle.std.proofs.Common.{◌≤◌, ◌<◌, ◌+◌, length, not, nat_eq, vec_capacity, ap, rules, arith, ◌∙◌, drop}
use Rattle.std.proofs.lemmas.Fn.{filter_same}
use Rattle.maptree.specs.Blocks.{nodes_in, is_least, is_most}
use Rattle.maptree.proofs.Parts.{without_empty, some_block}
use Rattle.maptree.proofs.blocks.Blocks.close_up.Goals as goal

pub returns-clause-nodes : goal.returns-clause-nodes
returns-clause-nodes c =
    ap nodes_in (filter_same _ (λ b. not (nat_eq (length b) 0)) _ (λ x b f t. search rules) _ _ c.retain.ensures.filtered) ∙ without_empty c.join_sparse.new.blocks.items ∙ c.join_sparse.ensures.nodes ∙ ap (λ v. nodes_in v.blocks) c.self.view_is

pub count-requires-clause-fits : goal.count-requires-clause-fits
count-requires-clause-fits c =
    let items = c.self.inside.blocks.items in
    let same = ap length (ap nodes_in (filter_same _ (λ b. not (nat_eq (length b) 0)) _ (λ x b f t. search rules) _ _ c.retain.ensures.filtered) ∙ without_empty c.join_sparse.new.blocks.items ∙ c.join_sparse.ensures.nodes) in
    let here = ap (λ l. length (nodes_in l)) c.deref-2.ensures.value in
    let inv = c.self.invariant in
    omega (arith, here, same, inv.0, inv.4)

pub invariant_of-self : goal.invariant_of-self
invariant_of-self c =
    let items = c.self.inside.blocks.items in
    let nodes = ap nodes_in (filter_same _ (λ b. not (nat_eq (length b) 0)) _ (λ x b f t. search rules) _ _ c.retain.ensures.filtered) ∙ without_empty c.join_sparse.new.blocks.items ∙ c.join_sparse.ensures.nodes in
    let same = ap length nodes in
    let inv = c.self.invariant in
    let some : 0 < length (nodes_in c.retain.new.self.items) = search (rules, arith, same, inv.0) in
    let fewer : length c.retain.new.self.items ≤ length items = search (rules, arith) in
    let room : length items + c.self.inside.room ≤ vec_capacity c.retain.new.self = search (rules, arith) in
    let starts : length items + c.self.inside.room ≤ c.count.new.starts.capacity = search (rules, arith, inv.6) in
    let min_depths : length items + c.self.inside.room ≤ c.list_min_depths.new.min_depths.capacity = search (rules, arith, inv.8) in
    (omega (arith, same, inv.0), some_block c.retain.new.self.items some, inv.2, omega (arith, fewer, room), inv.4, search rules, omega (arith, fewer, starts), search rules, omega (arith, fewer, min_depths), ap (λ ns. is_least c.self.inside.behind (drop 1 ns)) nodes ∙ inv.9, ap (is_most c.self.inside.deepest) nodes ∙ inv.10)
