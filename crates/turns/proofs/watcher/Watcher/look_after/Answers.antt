use Rattle.std.proofs.Common.{◌≤◌, ap, ◌∙◌, sym, subst}
use Rattle.pieces.specs.Distinct.{is_none_of}
use Rattle.turns.specs.SharedWords.{SharedContent}
use Rattle.turns.specs.Watching.{changed_by, steps_of_piece}
use Rattle.turns.proofs.Moments.{still_of, then_looked}
use Rattle.turns.proofs.watcher.Watcher.look_after.Goals as goal

pub returns-clause-forward : goal.returns-clause-forward
returns-clause-forward c = λ seen. c.look.ensures.forward (still_of c.args.self.now c.learn.new.self c.learn.ensures.same.0 c.learn.ensures.kept c.args.index seen)

pub returns-clause-still : goal.returns-clause-still
returns-clause-still c = λ i seen. c.look.ensures.still i (still_of c.args.self.now c.learn.new.self c.learn.ensures.same.0 c.learn.ensures.kept i seen)

pub returns-clause-moment : goal.returns-clause-moment
returns-clause-moment c = then_looked c.args.self.now c.learn.new.self c.look.new.self c.args.index c.look.result c.learn.ensures.same.0 c.learn.ensures.kept c.look.ensures.moment

pub returns-clause-after : goal.returns-clause-after
returns-clause-after c =
    λ changed. c.look.ensures.forward (c.learn.ensures.ended c.args.index (ap (λ (s : SharedContent). is_none_of (changed_by s c.args.receipt.piece) c.args.index) (c.learn.ensures.same.0 ∙ c.requires.of) ∙ changed))

pub returns-clause-ended : goal.returns-clause-ended
returns-clause-ended c = λ i changed. c.look.ensures.still i (c.learn.ensures.ended i (ap (λ (s : SharedContent). is_none_of (changed_by s c.args.receipt.piece) i) (sym c.look.ensures.same.0) ∙ changed))

pub returns-clause-told : goal.returns-clause-told
returns-clause-told c =
    λ counts all.
    subst (λ (s : SharedContent). steps_of_piece s c.args.receipt.piece ≤ counts c.args.receipt.piece) (sym c.look.ensures.same.0) (c.learn.ensures.told counts (c.look.ensures.moment.kept counts all))
