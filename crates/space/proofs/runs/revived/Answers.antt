-- The bits of the runs of 16 that have a shard are joined to those of the live ones.
use Rattle.std.proofs.Common.{◌∙◌, sym, ◌/◌}
use Rattle.space.proofs.RunBits.{bit_shifted, left_none, right_none}
use Rattle.space.proofs.runs.revived.Goals as goal

pub returns : goal.returns
returns c = record {
  life = λ leaf low none. sym (bit_shifted c.args.number 16 leaf) ∙ right_none c.args.number (c.args.number / 65536) leaf none;
  there = λ i none. left_none c.args.number (c.args.number / 65536) i none;
}
