-- The run.
use Rattle.std.proofs.Common.{◌≡◌, ℕ, ◌<◌, ◌+◌, ◌&&◌, nat_le, nat_lt, length, drop, [], subst, sym, ap, ◌∙◌, arith, rules}
use Rattle.std.specs.Prelude.{Decides}
use Rattle.std.proofs.lemmas.List.{take_rest, length-drop}
use Rattle.space.specs.declared.place.Place.{Place}
use Rattle.maptree.specs.Origins.{Shape, place_at, LeadsTo}
use Rattle.maptree.specs.Nodes.{run_len}
use Rattle.maptree.proofs.Positions.{run_says, run_len-le, length-links}
use Rattle.maptree.proofs.tree.Tree.run_of.Goals as goal

pub returns-clause-run : goal.returns-clause-run
returns-clause-run c =
    let nodes = c.self.inside.nodes.nodes in
    let size : length c.args.self.now.links ≡ length nodes = ap (λ (s : Shape). length s.links) (sym c.self.view_is) ∙ length-links [] nodes in
    let run = c.run_of-derived.ensures.run ∙ ap (run_len c.run_of-derived.result.0.depth) (sym (take_rest nodes (c.args.i + 1))) in
    subst (λ (s : Shape). (j : ℕ) (d : Place) → j < length s.links → Decides (nat_le c.args.i j && nat_lt j (c.args.i + 1 + c.run_of-derived.result.1)) (LeadsTo s.links 0 (place_at s.links j d) (place_at s.links c.args.i d))) c.self.view_is
    (run_says nodes c.args.i c.run_of-derived.result.1 c.run_of-derived.result.0 c.self.invariant (omega (arith, size, c.requires)) c.run_of-derived.ensures.node run)

pub overflow_add-result-2 : goal.overflow_add-result-2
overflow_add-result-2 c =
    let nodes = c.self.inside.nodes.nodes in
    let size : length c.args.self.now.links ≡ length nodes = ap (λ (s : Shape). length s.links) (sym c.self.view_is) ∙ length-links [] nodes in
    let low = run_len-le c.run_of-derived.result.0.depth (drop (c.args.i + 1) nodes) in
    let rest = length-drop (c.args.i + 1) nodes in
    let fits = c.run_of-derived.ensures.fits in
    let run = c.run_of-derived.ensures.run in
    search (rules, arith, size, low, rest, fits, run)

pub returns-clause-end : goal.returns-clause-end
returns-clause-end c =
    let nodes = c.self.inside.nodes.nodes in
    let size : length c.args.self.now.links ≡ length nodes = ap (λ (s : Shape). length s.links) (sym c.self.view_is) ∙ length-links [] nodes in
    let low = run_len-le c.run_of-derived.result.0.depth (drop (c.args.i + 1) nodes) in
    let rest = length-drop (c.args.i + 1) nodes in
    let run = c.run_of-derived.ensures.run in
    let within = c.requires in
    omega (arith, size, low, rest, run, within)
