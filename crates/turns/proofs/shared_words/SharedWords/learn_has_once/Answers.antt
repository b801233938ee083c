use Rattle.std.proofs.Common.{◌∙◌, ap, sym}
use Rattle.turns.specs.SharedWords.{SharedContent}
use Rattle.turns.proofs.Entering.{tells_once}
use Rattle.turns.proofs.Seats.{some_words}
use Rattle.turns.proofs.shared_words.SharedWords.learn_has_once.Goals as goal

pub load-requires : goal.load-requires
load-requires c = (c.requires.id ∙ sym (ap (λ (s : SharedContent). s.id) c.self.view_is), some_words _ _ _ c.self.invariant, tells_once _ _ _ _ _)
