-- What ends a run where no trace was read.
use Rattle.std.specs.Prelude.{◌≡◌}
use Rattle.trace.specs.declared.read.TraceError.{TraceError}
use Rattle.trace.specs.declared.read.TraceError.TheVariants as trace
use Rattle.trace.specs.declared.stream.ReadError.{ReadError}
use Rattle.trace.specs.declared.stream.ReadError.TheVariants as read
use Rattle.replay.specs.declared.error.RunError.{RunError}
use Rattle.replay.specs.declared.error.RunError.TheVariants.{BadHeader, NoMemory, Unreadable}

-- no record was come to
abbrev pub IsOfTrace : TraceError → RunError → Type 0
IsOfTrace trace.Unreadable e = e ≡ Unreadable
IsOfTrace trace.BadHeader e = e ≡ BadHeader
IsOfTrace trace.NoMemory e = e ≡ NoMemory 0

-- the input was not read to its end
abbrev pub IsOfRead : ReadError → RunError → Type 0
IsOfRead read.Failed e = e ≡ Unreadable
IsOfRead read.NoMemory e = e ≡ NoMemory 0
