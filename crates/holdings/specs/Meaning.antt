-- What the types of the crate stand for in the definitions.
use Rattle.model.specs.Definitions.Calls.{Limits}
use Rattle.model.specs.Definitions.Items.{Counts, no_counts}
use Rattle.holdings.specs.declared.limits.Limits.{Limits as TheLimits}
use Rattle.holdings.specs.declared.transfer_counts.TransferCounts.{TransferCounts}

-- the limits that these are
abbrev pub limits_of : TheLimits → Limits
limits_of l = record { spaces = l.spaces; bits = l.bits; frames = l.frames }

-- what became of transfers, as a send counts it
abbrev pub counts_of : TransferCounts → Counts
counts_of w = record no_counts { lost = w.lost; extended = w.extended; linked = w.linked }
