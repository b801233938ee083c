-- What is written to an empty text is the replay.
use Rattle.std.proofs.Common.{◌≡◌, ℕ, List, [], Some, Ok, ap, ◌∙◌, sym}
use Rattle.model.specs.Definitions.Text.{output_of, output_of_trace}
use Rattle.replay.specs.Run.{WritesReplay}
use Rattle.replay.specs.declared.replay.Summary.{Summary}

pub replay_written : (bytes items : List ℕ) (s : Summary) → WritesReplay bytes (Some []) (Some items) s → output_of bytes ≡ Ok items
replay_written bytes items s written = ap output_of_trace written.is_trace ∙ ap Ok (sym written.replayed.written)
