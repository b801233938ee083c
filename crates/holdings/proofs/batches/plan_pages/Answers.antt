-- Each batch is planned by the function that was handed out.
use Rattle.std.proofs.Common.{◌<◌, ◌+◌, ◌∙◌, length, ap, arith, subst, sym}
use Rattle.holdings.specs.Inner.StripPlans.{AreCuts, CanBePlanned}
use Rattle.holdings.proofs.batches.plan_pages.OwnLists.{reads-pre-1-1, reads-post-1-1}
use Rattle.holdings.proofs.batches.plan_pages.Goals as goal

pub plan-requires : goal.plan-requires
plan-requires g c =
    let pages = c.args.pages.now in
    let cuts = c.deref-2.result.now in
    let can : CanBePlanned c.args.shards.now c.args.trees.now pages c.deref.result.now cuts c.args.most = record {
      sound = c.requires.sound;
      some = c.requires.most;
      sorted = c.requires.sorted;
      frames = c.requires.frames;
      places_are = c.deref.ensures.value ∙ c.in_ok-places.ensures;
      cuts_are = subst (λ cs. AreCuts pages cs (length pages)) (sym c.deref-2.ensures.value) c.in_ok-cuts.ensures;
    } in
    record {
      each = λ part less.
          let within : part + 1 < length cuts = omega (arith, less, c.len.ensures, c.in_ok-cuts.cuts.ok.0, ap length c.deref-2.ensures.value) in
          search (reads-pre-1-1, can, within);
    }

pub joined-requires-clause-each : goal.joined-requires-clause-each
joined-requires-clause-each g c k d less =
    let planned = c.in_ok-planned.ensures.each k d (subst (λ n. k < n) c.in_ok-planned.ensures.count less) in
    search (reads-post-1-1, planned)
