-- The parts of the line, one behind the other.
use Rattle.std.proofs.Common.{◌∙◌, refl, append_assoc}
use Rattle.replay.proofs.Streams.{ok_from}
use Rattle.replay.proofs.replay.end_text.Goals as goal

pub returns : goal.returns
returns c = ok_from c.format.result _ _ c.format.ensures.ok (λ text is. is ∙ rw (append_assoc, append_assoc, append_assoc) refl)
