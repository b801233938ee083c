-- One place more.
use Rattle.std.proofs.Common.{◌+◌, take, sym, ap, ◌∙◌, subst}
use Rattle.holdings.specs.Places.{any_of}
use Rattle.holdings.specs.Inner.Stripping.{AreHeldPages}
use Rattle.holdings.proofs.Stripping.HeldPages.{none_held, one_absent, one_held, all_held}
use Rattle.holdings.proofs.pages.held_pages.Goals.{in-Some+in_ok-push, in_default}
use Rattle.holdings.proofs.pages.held_pages.Goals as goal

pub loop-place-init : goal.loop-place-init
loop-place-init c = subst (AreHeldPages c.args.shards.now (any_of (take 0 c.args.places.now))) (sym c.new-pages.ensures.items) (none_held c.args.shards.now c.args.places.now)

pub loop-place-preserved : goal.loop-place-preserved
loop-place-preserved c =
    let s = c.args.shards.now in
    let ps = c.args.places.now in
    let i = c.loop-place.place-index in
    elim c.match-get.branch [
      | in-Some+in_ok-push w ↦
          subst (AreHeldPages s (any_of (take (i + 1) ps))) (sym (ap (λ v. v.items) w.pages-is ∙ w.in_ok-push.ensures.items))
          (one_held s ps i _ c.loop-place-test.true c.loop-place.pages.items c.loop-place.invariant w.in-Some.entry (sym c.get.ensures ∙ w.in-Some.is))
      | in_default w ↦
          subst (AreHeldPages s (any_of (take (i + 1) ps))) (sym (ap (λ v. v.items) w.pages-is))
          (one_absent s ps i _ c.loop-place-test.true c.loop-place.pages.items c.loop-place.invariant (sym c.get.ensures ∙ w.in_default.is))
    ]

pub returns : goal.returns
returns c = all_held c.args.shards.now c.args.places.now c.loop-place.place-index c.loop-place.pages.items c.loop-place-test.false c.loop-place.invariant
