-- One record is answered.
use Rattle.std.proofs.Common.{◌≡◌, ℕ, map, take, sym, ap, ◌∙◌, arith}
use Rattle.model.specs.Definitions.Records.{request}
use Rattle.mapdb.specs.State.{laid_out, left_with}
use Rattle.l4trace_moments.specs.Moment.{first_reply, left_by}
use Rattle.l4trace_moments.proofs.answering.answer_last.Goals as goal

pub returns-clause-reply : goal.returns-clause-reply
returns-clause-reply c =
    let d = c.args.database.now in
    let r = c.args.reader.now in
    let one : c.args.most ≡ 1 = omega (arith, c.requires.one, c.if-most-eq0.false) in
    c.in_ok-reply.ensures.reply ∙ ap (λ (n : ℕ). first_reply d.limits (map (request r.version d.limits) (take n r.records)) d.holdings) (sym one)

pub returns-clause-left : goal.returns-clause-left
returns-clause-left c =
    let d = c.args.database.now in
    let r = c.args.reader.now in
    let layout = c.answer_next.new.database.layout in
    let one : c.args.most ≡ 1 = omega (arith, c.requires.one, c.if-most-eq0.false) in
    c.in_ok-reply.ensures.left ∙ ap (λ (n : ℕ). laid_out (left_with d (left_by r.version d.limits (take n r.records) d.holdings)) layout) (sym one)
