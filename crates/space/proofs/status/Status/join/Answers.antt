-- The number of a union is "or" of the numbers.
use Rattle.std.proofs.Common.{◌∙◌, sym, ap, subst, ◌<◌}
use Rattle.fpage.specs.Rights.{of_bits, join}
use Rattle.space.proofs.Words.{bits_number, joined_bits, number_small}
use Rattle.space.proofs.status.Status.join.Goals as goal

pub invariant_of-result : goal.invariant_of-result
invariant_of-result c =
    subst (λ n. n < 8) (sym (joined_bits c.self.inside.bits c.other.inside.bits c.self.invariant c.other.invariant)) (number_small (join (of_bits c.self.inside.bits) (of_bits c.other.inside.bits)))

pub returns : goal.returns
returns c =
    ap of_bits (joined_bits c.self.inside.bits c.other.inside.bits c.self.invariant c.other.invariant) ∙ bits_number (join (of_bits c.self.inside.bits) (of_bits c.other.inside.bits))
    ∙ (λ i. join (c.self.view_is i) (c.other.view_is i))
