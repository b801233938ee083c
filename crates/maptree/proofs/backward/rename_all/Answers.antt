-- Each node changes where it stands.
use Rattle.std.proofs.Common.{ap, ◌∙◌}
use Rattle.std.specs.Prelude.{reverse}
use Rattle.maptree.proofs.Reversed.{map_back}
use Rattle.maptree.proofs.backward.rename_all.Goals as goal

pub returns : goal.returns
returns c = ap reverse c.replace_places.ensures ∙ map_back _ c.args.backward.now
