-- What is known of a source that was not read to its end.
use Rattle.std.specs.Prelude.{◌≡◌, Bool, true}
use Rattle.trace.specs.declared.read.TraceError.{TraceError}
use Rattle.trace.specs.declared.read.TraceError.TheVariants as trace
use Rattle.trace.specs.declared.stream.ReadError.{ReadError}
use Rattle.trace.specs.declared.stream.ReadError.TheVariants.{Failed, NoMemory}

-- a failed read is told as one, and out of memory comes with no failed read
abbrev pub TellsFailure : Bool → Bool → ReadError → Type 0
TellsFailure old new Failed = new ≡ true
TellsFailure old new NoMemory = new ≡ old

-- why a trace was not read, where its source was not
abbrev pub IsOfRead : ReadError → TraceError → Type 0
IsOfRead Failed e = e ≡ trace.Unreadable
IsOfRead NoMemory e = e ≡ trace.NoMemory
