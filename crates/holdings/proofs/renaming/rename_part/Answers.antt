-- One more link: its tree is renamed, if it is of the part and was not yet.
use Rattle.std.proofs.Common.{arith, ◌≡◌, ◌+◌, ◌-◌, ◌<◌, ◌==◌, ℕ, length, take, get_or, true, false, Bool, not, Option, Some, None, refl, sym, ap, subst}
use Rattle.std.specs.Option.{option_eq}
use Rattle.std.proofs.lemmas.Bool.{eqb-true}
use Rattle.std.proofs.lemmas.List.{take_all}
use Rattle.maptree.specs.PlaceMaps.{place_for}
use Rattle.holdings.proofs.Links.LinkedTrees.{no_link}
use Rattle.holdings.proofs.Renamings.Parts.{AreRenaming, step_passed, step_renamed, apart_there, part_renamed}
use Rattle.holdings.proofs.renaming.rename_part.Goals.{then-frame-start+then-frame-start-2+then-ne, else-frame-start, else-frame-start-via-then-frame-start+then-frame-start-2+else-ne, else-frame-start-via-then-frame-start+else-frame-start-2, else-frame-start-via-else-frame-start}
use Rattle.holdings.proofs.renaming.rename_part.Goals as goal

-- the last frame is this one
is_last : (o : Option ℕ) (f : ℕ) → false ≡ not (option_eq (λ a b. a == b) o (Some f)) → o ≡ Some f
is_last None f is = absurd (cc is)
is_last (Some g) f is = ap Some (eqb-true g f (by (g == f) is))
  where
    by : (b : Bool) → false ≡ not b → b ≡ true
    by true is = refl
    by false is = absurd (cc is)

pub rename_all-requires : goal.rename_all-requires
rename_all-requires c =
    let ls = c.args.links.now in let i = c.loop-link.link-index in let first = c.args.part.now in let start = c.args.start in
    let l = get_or ls i no_link in
    record {
      apart = apart_there (place_for c.args.targets.now) start first c.requires ls i no_link c.loop-link-test.true c.loop-link.part c.loop-link.passed c.loop-link.invariant
          (l.frame - start) (omega (arith, c.if-frame-start-2.true, c.loop-link.invariant.count)) (omega (arith, c.if-frame-start.true)) c.index-part-frame.result c.index-part-frame.is;
    }

pub loop-link-preserved : goal.loop-link-preserved
loop-link-preserved c =
    let new = place_for c.args.targets.now in
    let ls = c.args.links.now in let i = c.loop-link.link-index in let first = c.args.part.now in let start = c.args.start in let mid = c.loop-link.part in let last = c.loop-link.passed in
    let so_far = c.loop-link.invariant in
    let less = c.loop-link-test.true in
    let l = get_or ls i no_link in
    elim c.if-frame-start.branch as (λ _. AreRenaming new start first (take (i + 1) ls) c.if-frame-start.part c.if-frame-start.passed) [
      | then-frame-start+then-frame-start-2+then-ne w ↦
          subst (λ trees. AreRenaming new start first (take (i + 1) ls) trees c.if-frame-start.passed) (sym w.part-is)
          (step_renamed new start first c.requires ls i no_link less mid last so_far (l.frame - start) (omega (arith, w.if-frame-start-2.true, so_far.count)) (omega (arith, w.if-frame-start.true))
          w.index-part-frame.result w.index-part-frame.is w.rename_all.new.self w.rename_all.ensures.links c.if-frame-start.passed w.passed-is)
      | else-frame-start w ↦
          let passed : (f : ℕ) → f < length first → l.frame ≡ start + f → last ≡ Some l.frame =
          elim w.else-frame-start.branch as (λ _. (f : ℕ) → f < length first → l.frame ≡ start + f → last ≡ Some l.frame) [
            | else-frame-start-via-then-frame-start+then-frame-start-2+else-ne v ↦ λ f within at. is_last last l.frame v.if-ne.ensures
            | else-frame-start-via-then-frame-start+else-frame-start-2 v ↦ λ f within at. absurd (omega (arith, within, at, v.if-frame-start-2.false, so_far.count))
            | else-frame-start-via-else-frame-start v ↦ λ f within at. absurd (omega (arith, at, v.if-frame-start.false))
          ] in
          subst (λ trees. AreRenaming new start first (take (i + 1) ls) trees c.if-frame-start.passed) (sym w.part-is)
          (subst (AreRenaming new start first (take (i + 1) ls) mid) (sym w.passed-is) (step_passed new start first c.requires ls i no_link less mid last so_far passed))
    ]

pub returns : goal.returns
returns c =
    let new = place_for c.args.targets.now in
    part_renamed new c.args.start c.args.part.now c.args.links.now c.loop-link.part c.loop-link.passed
    (subst (λ ls. AreRenaming new c.args.start c.args.part.now ls c.loop-link.part c.loop-link.passed) (take_all c.loop-link.link-index c.args.links.now c.loop-link-test.false) c.loop-link.invariant)
