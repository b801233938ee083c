-- One record more is answered.
use Rattle.std.proofs.Common.{◌≡◌, drop, take, ap, subst, ◌∙◌}
use Rattle.std.proofs.lemmas.List.{drop-drop}
use Rattle.model.specs.Definitions.Records.{Version}
use Rattle.mapdb.specs.State.{laid_out, left_with}
use Rattle.l4trace_moments.specs.Moment.{left_by}
use Rattle.l4trace_moments.proofs.Moments.{left_step}
use Rattle.l4trace_moments.proofs.answering.answer_records.Goals as goal

pub loop-i-preserved : goal.loop-i-preserved
loop-i-preserved g c =
    let so_far = c.loop-i.invariant in
    let rows = c.args.reader.now.records in
    let version = c.args.reader.now.version in
    let d = c.loop-i.database in
    let layout = c.answer_next.new.database.layout in
    let step =
    subst (λ (v : Version). c.answer_next.new.database ≡ laid_out (left_with d (left_by v d.limits (take 1 c.loop-i.reader.records) d.holdings)) layout) so_far.version
    c.in_ok-answer_next.ensures.left in
    record {
      records = c.in_ok-answer_next.ensures.taken ∙ ap (drop 1) so_far.records ∙ drop-drop 1 c.loop-i.i rows;
      version = c.in_ok-answer_next.ensures.version ∙ so_far.version;
      left = step ∙ left_step version c.args.database.now d layout rows c.loop-i.reader.records c.loop-i.i so_far.records so_far.left;
    }
