-- All pages are those from the first one on.
use Rattle.std.proofs.Common.{◌∙◌, length, arith}
use Rattle.std.proofs.lemmas.Result.{IfOk-weaker}
use Rattle.holdings.proofs.Planned.Cuts.{end_is_cut}
use Rattle.holdings.proofs.Planned.Groups.{all_groups}
use Rattle.holdings.proofs.planning.runs_by_frame.Goals as goal

pub runs_between-requires-clause-places : goal.runs_between-requires-clause-places
runs_between-requires-clause-places c = c.deref.ensures.value ∙ c.in_ok-places.ensures

pub runs_between-requires-clause-cut : goal.runs_between-requires-clause-cut
runs_between-requires-clause-cut c = end_is_cut c.args.pages.now

pub returns : goal.returns
returns c =
    let pages = c.args.pages.now in
    IfOk-weaker c.runs_between.result _ _ (λ frames between. all_groups c.args.trees.now pages (length pages) frames.items between (omega arith)) c.runs_between.ensures
