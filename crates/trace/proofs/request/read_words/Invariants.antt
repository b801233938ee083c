-- the words so far and those of the fields that are left are the words of all
use Rattle.std.proofs.Common.{◌≡◌, length}
use Rattle.model.specs.Definitions.Records.{word_fields}
use Rattle.trace.proofs.Words.{prefixed}
use Rattle.trace.proofs.request.read_words.Given as goal

abbrev pub invariant-loop-field : goal.invariant-loop-field
invariant-loop-field l = prefixed l.words.items (word_fields l.fields) ≡ word_fields l.fn.fields

abbrev pub decreases-loop-field : goal.decreases-loop-field
decreases-loop-field l = length l.fields
