use Rattle.std.proofs.Common.{length, ap, sym, subst}
use Rattle.turns.specs.SharedWords.{IsPhase}
use Rattle.turns.specs.Tables.{indexes_of}
use Rattle.turns.proofs.open.share.Goals as goal

pub lay-requires-clause-phase : goal.lay-requires-clause-phase
lay-requires-clause-phase c =
    subst (λ ps. IsPhase (record { words = c.args.words.items; pieces = ps; indexes = indexes_of (length c.args.words.items) c.args.indexes; watchers = c.args.watchers })) (sym (ap (λ v. v.items) c.of-opening.ensures)) c.requires.phase
