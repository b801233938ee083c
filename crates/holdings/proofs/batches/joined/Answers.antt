-- One batch more.
use Rattle.std.proofs.Common.{rules, ◌≡◌, ℕ, ◌+◌, ◌-◌, ◌++◌, ◌∷◌, [], length, slice_index, IfOk, ◌∙◌, ap, sym, subst, arith}
use Rattle.std.proofs.lemmas.Iterator.Adapters.{YieldsList-from_vec}
use Rattle.std.proofs.lemmas.Iterator.Consumers.{YieldsList-turn, YieldsList-end}
use Rattle.std.proofs.lemmas.List.{length-append}
use Rattle.holdings.specs.Inner.StripPlans.{AreRunsBetween, ArePlannedStrips, IsBatchPlanned}
use Rattle.holdings.proofs.Planned.Groups.{no_runs, runs_joined, all_groups}
use Rattle.holdings.proofs.Planned.Runs.{no_frame, more_frames}
use Rattle.holdings.proofs.batches.joined.Goals as goal

pub loop-part-init : goal.loop-part-init
loop-part-init c =
    let b = c.args.batches.now in
    let fs = c.new-frames.ensures.items in
    record {
      runs = subst (λ n. AreRunsBetween b.trees.now b.pages.now 0 n c.new-frames.result.items) (sym c.requires.cuts.first) (subst (AreRunsBetween b.trees.now b.pages.now 0 0) (sym fs) (no_runs b.trees.now b.pages.now 0));
      strips = subst (λ gs. ArePlannedStrips b.shards.now b.trees.now b.revoked b.flush gs c.new-pieces.result.items) (sym fs) (subst (ArePlannedStrips b.shards.now b.trees.now b.revoked b.flush []) (sym c.new-pieces.ensures.items) (no_frame b.shards.now b.trees.now b.revoked b.flush));
    }

pub loop-part-preserved : goal.loop-part-preserved
loop-part-preserved c =
    let b = c.args.batches.now in
    let s = b.shards.now in
    let trees = b.trees.now in
    let pages = b.pages.now in
    let k : ℕ = length c.loop-part.yielded in
    let before = c.loop-part.frames.items in
    let plan = c.in-Some.part in
    let mine = c.in_ok-plan.plan in
    let from : ℕ = slice_index b.cuts.now k in
    let to : ℕ = slice_index b.cuts.now (k + 1) in
    let road = YieldsList-from_vec c.args.planned.items (search rules) (search rules) in
    let turn = YieldsList-turn road c.loop-part.yielded c.loop-part.part-iterator c.loop-part.yielded_by c.next.result c.next.new.self plan c.in-Some.is c.next.ensures.steps in
    let planned : IsBatchPlanned s trees b.revoked b.flush pages from to mine.frames.items mine.pieces.items =
    subst (λ r. IfOk r (λ p. IsBatchPlanned s trees b.revoked b.flush pages from to p.frames.items p.pieces.items)) (sym turn.1 ∙ c.in_ok-plan.was) (c.requires.each k plan turn.0) in
    let more : length (c.loop-part.yielded ++ plan ∷ []) ≡ k + 1 = length-append c.loop-part.yielded (plan ∷ []) in
    let fs : c.append.new.self.items ≡ before ++ mine.frames.items = c.in_ok-append.ensures.items in
    record {
      runs = subst (λ n. AreRunsBetween trees pages 0 (slice_index b.cuts.now n) c.append.new.self.items) (sym more)
          (subst (AreRunsBetween trees pages 0 to) (sym fs) (runs_joined trees pages 0 from to before mine.frames.items c.loop-part.invariant.runs planned.runs));
      strips = subst (λ gs. ArePlannedStrips s trees b.revoked b.flush gs c.append-in-loop-part.new.self.items) (sym fs)
          (subst (ArePlannedStrips s trees b.revoked b.flush (before ++ mine.frames.items)) (sym c.in_ok-append-2.ensures.items)
          (more_frames s trees b.revoked b.flush before mine.frames.items c.loop-part.pieces.items mine.pieces.items c.loop-part.invariant.strips planned.strips));
    }

pub returns : goal.returns
returns c =
    let b = c.args.batches.now in
    let pages = b.pages.now in
    let road = YieldsList-from_vec c.args.planned.items (search rules) (search rules) in
    let end = YieldsList-end road c.loop-part.yielded c.loop-part.part-iterator c.loop-part.yielded_by c.next.result c.next.new.self c.in-None.is c.next.ensures.steps in
    let n : ℕ = length c.loop-part.yielded in
    let last : n ≡ length b.cuts.now - 1 = omega (arith, end.1, c.requires.many) in
    let whole : slice_index b.cuts.now n ≡ length pages = ap (slice_index b.cuts.now) last ∙ c.requires.cuts.last in
    record {
      runs = all_groups b.trees.now pages (slice_index b.cuts.now n) c.loop-part.frames.items c.loop-part.invariant.runs (omega (arith, whole));
      strips = c.loop-part.invariant.strips;
    }
