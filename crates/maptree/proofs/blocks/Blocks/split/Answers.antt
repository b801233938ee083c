-- The nodes of a block from a position on stand in a block behind it.
use Rattle.std.proofs.Common.{◌≡◌, ℕ, List, ◌<◌, ◌≤◌, ◌+◌, ◌-◌, [], length, ap, rules, arith, ◌∙◌, sym, subst, vec_capacity, set, take, drop, get_or, if◌then◌else◌}
use Rattle.std.specs.Prelude.{insert}
use Rattle.space.specs.declared.node.Node.{Node}
use Rattle.maptree.proofs.InBlocks.{as_read, count_to}
use Rattle.maptree.specs.Blocks.{nodes_in, split_block, is_least, is_most, number_at, AreMinDepths, AreStarts}
use Rattle.maptree.proofs.MinDepths.{min_depths_insert, min_depths_set}
use Rattle.std.proofs.lemmas.List.{length-take-le}
use Rattle.maptree.proofs.Starts.{before_all, has_nodes, split_above, starts_rise, starts_split}
use Rattle.maptree.proofs.BlockChanges.{split_nodes, split_length}
use Rattle.maptree.proofs.blocks.Blocks.split.Goals as goal

-- what becomes of the blocks
split_is : (items new : List (List Node)) (k at : ℕ) (front back : List Node) → new ≡ insert (set items k front) (k + 1) back → front ≡ take at (get_or items k []) → back ≡ drop at (get_or items k []) → new ≡ split_block at items k
split_is items new k at front back is first second =
    is ∙ ap (λ x. insert (set items k x) (k + 1) back) first ∙ ap (λ y. insert (set items k (take at (get_or items k []))) (k + 1) y) second

pub overflow_add-before : goal.overflow_add-before
overflow_add-before c =
    let items = c.self.inside.blocks.items in
    let same : items ≡ c.args.self.now.blocks = search rules in
    let count = ap length same in
    let within : c.args.block < length items = search (rules, arith, count) in
    let upto : c.args.at ≤ length (get_or items c.args.block []) = subst (λ l. c.args.at ≤ length (get_or l c.args.block [])) (sym same) c.requires.at in
    let read : c.index_mut-front.result.now ≡ get_or items c.args.block [] = as_read items c.args.block c.index_mut-front.result.now within c.index_mut-front.ensures.value in
    let long : c.len.result ≡ c.args.at = c.len.ensures.len ∙ ap length (c.number_parts.ensures.front ∙ c.split_into.ensures.front ∙ ap (take c.args.at) read) ∙ length-take-le c.args.at (get_or items c.args.block []) upto in
    let are = c.self.invariant.5 in
    let start = c.get-before.ensures in
    let here = are.each c.args.block within in
    let next = count_to items c.args.block within in
    let all = before_all items (c.args.block + 1) in
    let inv = c.self.invariant in
    omega (arith, start, long, here, next, all, upto, inv.0, inv.4)

pub insert-requires-clause-above : goal.insert-requires-clause-above
insert-requires-clause-above c k less =
    let items = c.self.inside.blocks.items in
    let same : items ≡ c.args.self.now.blocks = search rules in
    let count = ap length same in
    let within : c.args.block < length items = search (rules, arith, count) in
    let upto : c.args.at ≤ length (get_or items c.args.block []) = subst (λ l. c.args.at ≤ length (get_or l c.args.block [])) (sym same) c.requires.at in
    let read : c.index_mut-front.result.now ≡ get_or items c.args.block [] = as_read items c.args.block c.index_mut-front.result.now within c.index_mut-front.ensures.value in
    let long : c.len.result ≡ c.args.at = c.len.ensures.len ∙ ap length (c.number_parts.ensures.front ∙ c.split_into.ensures.front ∙ ap (take c.args.at) read) ∙ length-take-le c.args.at (get_or items c.args.block []) upto in
    let are = c.self.invariant.5 in
    let start = c.get-before.ensures in
    let above = split_above items c.self.inside.starts c.args.block c.args.at are within k less in
    omega (arith, start, long, above)

pub insert-requires-clause-below : goal.insert-requires-clause-below
insert-requires-clause-below c k more less =
    let items = c.self.inside.blocks.items in
    let same : items ≡ c.args.self.now.blocks = search rules in
    let count = ap length same in
    let within : c.args.block < length items = search (rules, arith, count) in
    let upto : c.args.at ≤ length (get_or items c.args.block []) = subst (λ l. c.args.at ≤ length (get_or l c.args.block [])) (sym same) c.requires.at in
    let read : c.index_mut-front.result.now ≡ get_or items c.args.block [] = as_read items c.args.block c.index_mut-front.result.now within c.index_mut-front.ensures.value in
    let long : c.len.result ≡ c.args.at = c.len.ensures.len ∙ ap length (c.number_parts.ensures.front ∙ c.split_into.ensures.front ∙ ap (take c.args.at) read) ∙ length-take-le c.args.at (get_or items c.args.block []) upto in
    let are = c.self.invariant.5 in
    let start = c.get-before.ensures in
    let below = has_nodes items c.self.inside.starts c.args.block c.args.at are within upto k (omega (arith, more)) less in
    omega (arith, start, long, below)

pub insert-requires-clause-rising : goal.insert-requires-clause-rising
insert-requires-clause-rising c j k upto less = starts_rise c.self.inside.blocks.items c.self.inside.starts c.self.invariant.5 j k upto less

pub invariant_of-self : goal.invariant_of-self
invariant_of-self c =
    let items = c.self.inside.blocks.items in
    let same : items ≡ c.args.self.now.blocks = search rules in
    let count = ap length same in
    let within : c.args.block < length items = search (rules, arith, count) in
    let upto : c.args.at ≤ length (get_or items c.args.block []) = subst (λ l. c.args.at ≤ length (get_or l c.args.block [])) (sym same) c.requires.at in
    let read : c.index_mut-front.result.now ≡ get_or items c.args.block [] = as_read items c.args.block c.index_mut-front.result.now within c.index_mut-front.ensures.value in
    let long : c.len.result ≡ c.args.at = c.len.ensures.len ∙ ap length (c.number_parts.ensures.front ∙ c.split_into.ensures.front ∙ ap (take c.args.at) read) ∙ length-take-le c.args.at (get_or items c.args.block []) upto in
    let are = c.self.invariant.5 in
    let start = c.get-before.ensures in
    let front = c.number_parts.new.front in
    let back = c.number_parts.new.back in
    let new = c.insert-inserted.new.self in
    let put : new.items ≡ insert (set items c.args.block front) (c.args.block + 1) back =
    c.insert-inserted.ensures.items ∙ ap (λ b. if b then insert (set items c.args.block front) (c.args.block + 1) back else set items c.args.block front) (sym c.is_ok.ensures.value ∙ c.if-prove.false) in
    let is : new.items ≡ split_block c.args.at items c.args.block =
    split_is items new.items c.args.block c.args.at front back put
    (c.number_parts.ensures.front ∙ c.split_into.ensures.front ∙ ap (take c.args.at) read) (c.number_parts.ensures.back ∙ c.split_into.ensures.back ∙ ap (drop c.args.at) read) in
    let size : length new.items ≡ length items + 1 = ap length is ∙ split_length items c.args.block c.args.at within in
    let all = ap (λ l. length (nodes_in l)) is ∙ ap length (split_nodes items c.args.block c.args.at within) in
    let inv = c.self.invariant in
    let some : 0 < c.self.inside.room = search (rules, arith) in
    let spare : c.self.inside.room - 1 ≤ length c.pop.new.self.items = search (rules, arith) in
    let room : length items + c.self.inside.room ≤ vec_capacity new = search (rules, arith) in
    let starts : length items + c.self.inside.room ≤ c.insert.new.self.capacity = search (rules, arith, inv.6) in
    let min_depths : length items + c.self.inside.room ≤ c.insert-2.new.self.capacity = search (rules, arith, inv.8) in
    let number : number_at c.insert.new.self (c.args.block + 1) ≡ number_at c.self.inside.starts c.args.block + c.args.at = let here = c.insert.ensures.here in omega (arith, here, start, long) in
    let counted : AreStarts new.items c.insert.new.self =
    subst (λ l. AreStarts l c.insert.new.self) (sym is) (starts_split items c.args.block c.args.at c.self.inside.starts c.insert.new.self within upto are c.insert.ensures.count c.insert.ensures.upto number c.insert.ensures.behind) in
    let lists : c.insert-2.new.self.min_depths ≡ insert (set c.self.inside.min_depths.min_depths c.args.block c.least.result) (c.args.block + 1) c.least-2.result =
    c.insert-2.ensures.min_depths ∙ ap (λ l. insert l (c.args.block + 1) c.least-2.result) c.set.ensures.min_depths in
    let low : AreMinDepths new.items c.insert-2.new.self.min_depths =
    subst (λ l. AreMinDepths new.items l) (sym lists)
    (subst (λ l. AreMinDepths l (insert (set c.self.inside.min_depths.min_depths c.args.block c.least.result) (c.args.block + 1) c.least-2.result)) (sym put)
    (min_depths_insert (set items c.args.block front) (c.args.block + 1) back (set c.self.inside.min_depths.min_depths c.args.block c.least.result) c.least-2.result
    (min_depths_set items c.args.block front c.self.inside.min_depths.min_depths c.least.result within inv.7 c.least.ensures) c.least-2.ensures)) in
    (omega (arith, inv.0, all), omega (arith, size), spare, omega (arith, size, room, some), omega (arith, inv.4), counted, omega (arith, size, starts, some), low, omega (arith, size, min_depths, some), ap (λ ns. is_least c.self.inside.behind (drop 1 ns)) (ap nodes_in is ∙ split_nodes items c.args.block c.args.at within) ∙ inv.9, ap (is_most c.self.inside.deepest) (ap nodes_in is ∙ split_nodes items c.args.block c.args.at within) ∙ inv.10)
