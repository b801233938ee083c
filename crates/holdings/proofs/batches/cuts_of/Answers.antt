-- A cut more, where a group ends.
use Rattle.std.proofs.Common.{◌++◌, ◌∷◌, [], length, ap, ◌∙◌, arith}
use Rattle.holdings.specs.declared.pages.HeldPage.{HeldPage}
use Rattle.holdings.proofs.Planned.Cuts.{first_cut, end_is_cut, next_cut, ends_at_cut}
use Rattle.holdings.proofs.batches.cuts_of.Goals as goal

abbrev none : HeldPage
none = record { frame = 0; place = record { space = 0; page = 0 } }

pub loop-cut-init : goal.loop-cut-init
loop-cut-init c = record { within = omega arith; cuts = first_cut c.args.pages.now c.push.new.self.items (c.in_ok-push.ensures.items ∙ ap (λ ns. ns ++ 0 ∷ []) c.new-cuts.ensures.items) }

pub loop-cut-preserved : goal.loop-cut-preserved
loop-cut-preserved c =
    let pages = c.args.pages.now in
    let end = c.group_end-cut.ensures in
    let is_cut = ends_at_cut pages _ c.group_end-cut.result end.some end.within none (end.frames none) end.ends in
    record {
      within = end.within;
      cuts = next_cut pages c.loop-cut.cuts.items c.push-in-loop-cut.new.self.items c.loop-cut.cut c.group_end-cut.result c.loop-cut.invariant.cuts c.in_ok-push-2.ensures.items (omega (arith, end.some)) end.within is_cut;
    }

pub returns : goal.returns
returns c =
    let pages = c.args.pages.now in
    next_cut pages c.loop-cut.cuts.items c.push-2.new.self.items c.loop-cut.cut (length pages) c.loop-cut.invariant.cuts c.in_ok-push-3.ensures.items c.loop-cut.invariant.within (omega arith) (end_is_cut pages)
