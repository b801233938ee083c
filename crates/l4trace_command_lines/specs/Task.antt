-- What a task of the command line promises.
use Rattle.std.specs.Prelude.{⊤}
use Rattle.fpage.specs.Fpage.{IsSpaceBits}
use Rattle.l4trace_random_traces.specs.Random.{IsPlan}
use Rattle.l4trace_command_lines.specs.declared.task.Task.{Task}
use Rattle.l4trace_command_lines.specs.declared.task.Task.TheVariants.{Explain, Tell, Compare, Show, Audit, Sentences, Why, Random, Check}

-- words are explained for spaces that there are, and traces are made for limits that are served
abbrev pub IsServed : Task → Type 0
IsServed (Explain words bits) = IsSpaceBits bits
IsServed (Tell text) = ⊤
IsServed (Compare trace answers at options color) = ⊤
IsServed (Show trace view color) = ⊤
IsServed (Audit trace at) = ⊤
IsServed (Sentences trace at most) = ⊤
IsServed (Why trace question color) = ⊤
IsServed (Random plan) = IsPlan plan
IsServed (Check trace most) = ⊤
