-- What the types of the database stand for in the definitions.
use Rattle.model.specs.Definitions.Items.{Counts}
use Rattle.mapdb.specs.declared.reply.SendReply.{SendReply}

-- the six counts that a reply has
abbrev pub counts_of : SendReply → Counts
counts_of r = record { absent = r.absent; norights = r.norights; origin = r.origin; lost = r.lost; extended = r.extended; linked = r.linked }
