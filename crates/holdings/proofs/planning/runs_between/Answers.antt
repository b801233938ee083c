-- One group of pages more.
use Rattle.std.proofs.Common.{◌≡◌, ℕ, ◌-◌, ◌++◌, ◌∷◌, [], List, drop, take, is_ok, if◌then◌else◌, refl, sym, ap, ◌∙◌, subst, arith}
use Rattle.std.specs.List.{slice_range, drop-map, take-map}
use Rattle.maptree.specs.Origins.{AreOuterRuns}
use Rattle.holdings.specs.declared.pages.HeldPage.{HeldPage}
use Rattle.pieces.specs.declared.runs.FrameRuns.{FrameRuns}
use Rattle.holdings.specs.Inner.Held.{links_in}
use Rattle.holdings.specs.Inner.StripPlans.{AreRunsBetween}
use Rattle.holdings.specs.Inner.Stripping.{places_in}
use Rattle.holdings.proofs.Contents.Holders.{links_read}
use Rattle.holdings.proofs.Planned.Cuts.{not_past}
use Rattle.holdings.proofs.Planned.Groups.{no_runs, one_group}
use Rattle.holdings.proofs.planning.runs_between.Goals as goal

-- the places of a slice of pages
places_slice : (pages : List HeldPage) (from end : ℕ) → slice_range (places_in pages) from end ≡ places_in (slice_range pages from end)
places_slice pages from end = ap (take (end - from)) (drop-map (λ (h : HeldPage). h.place) from pages) ∙ take-map (λ (h : HeldPage). h.place) (end - from) (drop from pages)

abbrev none : HeldPage
none = record { frame = 0; place = record { space = 0; page = 0 } }

pub loop-first-init : goal.loop-first-init
loop-first-init c = record {
  order = omega arith;
  upto = c.requires.order;
  runs = subst (AreRunsBetween c.args.trees.now c.args.pages.now c.args.from c.args.from) (sym c.new-frames.ensures.items) (no_runs c.args.trees.now c.args.pages.now c.args.from);
}

pub loop-first-preserved : goal.loop-first-preserved
loop-first-preserved c =
    let trees = c.args.trees.now in
    let pages = c.args.pages.now in
    let at = c.loop-first.first in
    let end = c.group_end-end.result in
    let some = c.group_end-end.ensures.some in
    let within = c.group_end-end.ensures.within in
    let same = c.group_end-end.ensures.frames none in
    let frame = c.requires.frames at none (omega (arith, c.loop-first-test.true, c.requires.within)) in
    let links = links_read trees _ c.index-trees-frame.result frame c.index-trees-frame.is in
    let f : FrameRuns = record { frame = _; runs = c.in_ok-runs.runs } in
    let places = ap (λ ps. slice_range ps at end) c.requires.places ∙ places_slice pages at end in
    let outer = subst (λ ps. AreOuterRuns (links_in trees f.frame) ps c.in_ok-runs.runs) places (subst (λ os. AreOuterRuns os (slice_range c.args.places.now at end) c.in_ok-runs.runs) (sym links) c.in_ok-runs.ensures) in
    let pushed : c.push.new.self.items ≡ c.loop-first.frames.items ++ f ∷ [] = c.push.ensures.items ∙ ap (λ b. if b then c.loop-first.frames.items ++ f ∷ [] else c.loop-first.frames.items) (sym c.map_err.ensures.variant ∙ ap is_ok c.in_ok-map_err.was) in
    record {
      order = omega (arith, c.loop-first.invariant.order, some);
      upto = not_past pages at end some within none same c.args.to c.loop-first-test.true c.requires.within c.requires.cut;
      runs = subst (AreRunsBetween trees pages c.args.from end) (sym pushed)
          (one_group trees pages c.args.from at end c.loop-first.frames.items c.loop-first.invariant.runs c.requires.sorted c.requires.frames some within f none refl same c.group_end-end.ensures.ends outer);
    }

pub returns : goal.returns
returns c =
    let last : c.loop-first.first ≡ c.args.to = omega (arith, c.loop-first-test.false, c.loop-first.invariant.upto) in
    subst (λ n. AreRunsBetween c.args.trees.now c.args.pages.now c.args.from n c.loop-first.frames.items) last c.loop-first.invariant.runs
