-- The runs of a frame, in either form.
use Rattle.std.specs.Prelude.{ℕ, List, [], ◌∷◌}
use Rattle.std.specs.declared.ops.Range.{Range}
use Rattle.pieces.specs.declared.runs.Form.{Form}
use Rattle.pieces.specs.declared.runs.Form.TheVariants.{One, Many}

abbrev pub runs_in : Form → List (Range ℕ)
runs_in (One run) = run ∷ []
runs_in (Many runs) = runs.items
