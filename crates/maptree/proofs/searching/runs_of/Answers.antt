-- One position more.
use Rattle.std.proofs.Common.{◌+◌, ◌<◌, drop, length, sym, ap, ◌∙◌, subst, rules, arith}
use Rattle.std.proofs.lemmas.List.{length-drop}
use Rattle.maptree.proofs.Positions.{run_len-le}
use Rattle.maptree.proofs.Named.{AreRunsTo, inside_run, next_run, runs_of_all}
use Rattle.maptree.proofs.searching.runs_of.Goals.{then-end-i+in_ok-push, else-end-i}
use Rattle.maptree.proofs.searching.runs_of.Goals as goal

pub overflow_add-end-then-end-i : goal.overflow_add-end-then-end-i
overflow_add-end-then-end-i c =
    let ns = c.args.nodes.now.nodes in
    let i = c.index-i.result.now in
    let inside : c.loop-m.m < length c.in_ok-positions.positions.items = search (rules, arith) in
    let within = subst (λ k. k < length ns) (sym c.index-i.ensures) (c.in_ok-positions.ensures.positions.within c.loop-m.m i inside) in
    let size = length-drop (i + 1) ns in
    let most = run_len-le c.run_of-derived.result.0.depth (drop (i + 1) ns) in
    let run = c.run_of-derived.ensures.run in
    let fits = c.run_of-derived.ensures.fits in
    search (rules, arith, within, size, most, run, fits)

pub loop-m-preserved : goal.loop-m-preserved
loop-m-preserved c =
    let ns = c.args.nodes.now.nodes in
    let at = c.in_ok-positions.positions.items in
    let i = c.index-i.result.now in
    let inside : c.loop-m.m < length at = search (rules, arith) in
    let are = c.in_ok-positions.ensures.positions in
    let rising = c.in_ok-positions.ensures.rising in
    elim c.if-end-i.branch [
      | then-end-i+in_ok-push w ↦
          subst (λ e. AreRunsTo ns c.args.places.now at (c.loop-m.m + 1) e c.if-end-i.runs.items) (sym w.end-is)
          (subst (AreRunsTo ns c.args.places.now at (c.loop-m.m + 1) (i + 1 + w.run_of-derived.result.1)) (sym (ap (λ v. v.items) w.runs-is ∙ w.in_ok-push.ensures.items))
          (next_run ns c.args.places.now at c.loop-m.m c.loop-m.end c.loop-m.runs.items are rising c.loop-m.invariant i w.run_of-derived.result.1 w.run_of-derived.result.0 c.requires inside c.index-i.ensures w.if-end-i.true w.run_of-derived.ensures.node w.run_of-derived.ensures.run))
      | else-end-i w ↦
          subst (λ e. AreRunsTo ns c.args.places.now at (c.loop-m.m + 1) e c.if-end-i.runs.items) (sym w.end-is)
          (subst (AreRunsTo ns c.args.places.now at (c.loop-m.m + 1) c.loop-m.end) (sym (ap (λ v. v.items) w.runs-is))
          (inside_run ns c.args.places.now at c.loop-m.m c.loop-m.end c.loop-m.runs.items are rising c.loop-m.invariant i inside c.index-i.ensures w.if-end-i.false))
    ]

pub returns : goal.returns
returns c =
    runs_of_all c.args.nodes.now.nodes c.args.places.now c.in_ok-positions.positions.items c.loop-m.m c.loop-m.end c.loop-m.runs.items c.in_ok-positions.ensures.positions c.in_ok-positions.ensures.rising c.loop-m.invariant c.requires (search (rules, arith))
