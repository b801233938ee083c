-- No run of the shard has one alone then, and the shard is put.
use Rattle.std.proofs.Common.{◌∙◌, arith}
use Rattle.space.proofs.directory.Directory.add.Goals as goal

pub returns-clause-ok : goal.returns-clause-ok
returns-clause-ok c =
    let run = c.in_ok-part_run.ensures.same in
    let leaf = c.in_ok-part_leaf.ensures.same in
    let put = c.put.ensures in
    record {
      most = put.most ∙ leaf.most ∙ run.most;
      count = omega (arith, put.count, leaf.count, run.count);
      there = put.there ∙ leaf.count ∙ run.count;
      elsewhere = λ other differ. put.elsewhere other differ ∙ leaf.positions other ∙ run.positions other;
    }
