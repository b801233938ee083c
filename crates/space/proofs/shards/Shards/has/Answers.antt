-- The pages of one shard have their words there, or none has.
use Rattle.std.proofs.Common.{◌≡◌, ◌∙◌, ◌≤◌, ap, arith}
use Rattle.std.proofs.lemmas.Bool.{ltb-false}
use Rattle.space.specs.Directory.{shard_of}
use Rattle.space.specs.Positions.{count_of, position_in}
use Rattle.space.specs.declared.directory.Directory.{Directory}
use Rattle.space.proofs.ShardWords.{beside, absent_unless}
use Rattle.space.proofs.shards.Shards.has.Goals as goal

pub returns-clause-absent : goal.returns-clause-absent
returns-clause-absent c none p space pages =
    let s = c.args.self.now in
    let past : c.count.result ≤ c.position.result = ltb-false c.position.result c.count.result none in
    let at : c.position.result ≡ position_in s.directory.value (shard_of s.bits c.args.place) =
    c.position.ensures ∙ ap (λ (d : Directory). position_in d c.shard.result) c.deref.ensures ∙ ap (position_in s.directory.value) c.shard.ensures.shard in
    absent_unless s p (λ has. absurd (omega (arith, has, beside s c.args.place c.requires.place p space pages, at, c.count.ensures.count, ap count_of c.deref-2.ensures, past)))
