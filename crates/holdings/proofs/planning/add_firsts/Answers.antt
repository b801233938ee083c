-- Each run begins within the list, and its first place is put behind the others.
use Rattle.std.proofs.Common.{rules, ◌≡◌, ℕ, ◌+◌, ◌++◌, ◌∷◌, [], List, length, take, get_or, sym, ap, ◌∙◌, subst, append_assoc, append-nil, arith}
use Rattle.std.specs.declared.ops.Range.{Range}
use Rattle.std.proofs.lemmas.List.{map-append, take_all, take_more}
use Rattle.space.specs.declared.place.Place.{Place}
use Rattle.maptree.specs.Origins.{AreRising, place_at}
use Rattle.holdings.specs.Inner.Stripping.{firsts}
use Rattle.holdings.proofs.Stripping.Sequences.{rising_at}
use Rattle.holdings.proofs.planning.add_firsts.Goals as goal

pub loop-run-init : goal.loop-run-init
loop-run-init c = sym (append-nil c.args.outer.now.items)

pub node-requires : goal.node-requires
node-requires c =
    let runs = c.as_slice-run-items.result.now in
    let most = length c.args.tree.now.links in
    let rising = subst (λ (rs : List (Range ℕ)). AreRising 0 rs most) (sym c.as_slice-run-items.ensures) c.requires in
    let bounds = rising_at 0 runs most c.loop-run.run-index (record { start = 0; end = 0 }) rising c.loop-run-test.true in
    omega (arith, bounds.0, bounds.1)

pub loop-run-preserved : goal.loop-run-preserved
loop-run-preserved c =
    let links = c.args.tree.now.links in
    let read = c.as_slice-run-items.result.now in
    let old = c.args.outer.now.items in
    let k = c.loop-run.run-index in
    let none : Range ℕ = record { start = 0; end = 0 } in
    let nowhere : Place = record { space = 0; page = 0 } in
    let run = get_or read k none in
    let front = firsts links (take k read) in
    let first = place_at links run.start nowhere in
    let grown : take (k + 1) read ≡ take k read ++ run ∷ [] = take_more read k none c.loop-run-test.true in
    let pushed : c.push.new.self.items ≡ c.loop-run.outer.items ++ c.node.result.place ∷ [] = search rules in
    pushed ∙ ap (λ p. c.loop-run.outer.items ++ p ∷ []) (c.node.ensures.place nowhere) ∙ ap (λ ps. ps ++ first ∷ []) c.loop-run.invariant
    ∙ append_assoc old front (first ∷ [])
    ∙ ap (λ ps. old ++ ps) (sym (map-append (λ (r : Range ℕ). place_at links r.start nowhere) (take k read) (run ∷ [])) ∙ ap (firsts links) (sym grown))

pub returns : goal.returns
returns c =
    let links = c.args.tree.now.links in
    let read = c.as_slice-run-items.result.now in
    c.loop-run.invariant ∙ ap (λ rs. c.args.outer.now.items ++ firsts links rs) (take_all c.loop-run.run-index read c.loop-run-test.false ∙ c.as_slice-run-items.ensures)
