-- A page that is held has its word.
use Rattle.std.proofs.Common.{ap, arith}
use Rattle.space.specs.Positions.{count_of}
use Rattle.space.proofs.ShardWords.{held_has}
use Rattle.space.proofs.shards.Shards.words.Goals as goal

pub returns-clause-held : goal.returns-clause-held
returns-clause-held c p held = omega (arith, held_has c.args.self.now p held, c.count.ensures, ap count_of c.deref.ensures)
