-- What a reply writes to what is lent to a call; a refusal writes nothing.
use Rattle.std.specs.Prelude.{ℕ, List, if◌then◌else◌}
use Rattle.fpage.specs.Rights.{number}
use Rattle.model.specs.Definitions.Calls.{Reply, sent, accessed, unmapped, cleared}
use Rattle.model.specs.Definitions.Items.{Counts}
use Rattle.c_handle.specs.declared.send.SendReply.{SendReply}

-- the six counts of a send
abbrev pub counts_in : Counts → SendReply
counts_in c = record { absent = c.absent; norights = c.norights; origin = c.origin; lost = c.lost; extended = c.extended; linked = c.linked }

-- by a send
abbrev pub counts_told : SendReply → Reply → SendReply
counts_told old (sent counts) = counts_in counts
counts_told old other = old

-- by an unmap
abbrev pub words_told : List ℕ → Reply → List ℕ
words_told old (unmapped words) = words
words_told old other = old

-- by a clear
abbrev pub status_told : ℕ → Reply → ℕ
status_told old (cleared status) = number status
status_told old other = old

-- by an access
abbrev pub made_told : ℕ → Reply → ℕ
made_told old (accessed made) = if made then 1 else 0
made_told old other = old
