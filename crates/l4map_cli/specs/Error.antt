-- The exit status and the line of an error.
use Rattle.std.specs.Prelude.{ℕ, List, ◌++◌, codes}
use Rattle.std.specs.Fmt.{decimal}
use Rattle.replay.specs.declared.error.RunError.{RunError}
use Rattle.replay.specs.declared.error.RunError.TheVariants.{BadHeader, BadLimits, NoMemory, NoWorker, Unreadable, WriteFailed}

-- 2 for the header, 3 for memory and threads, 4 for the streams
abbrev pub status_of : RunError → ℕ
status_of BadHeader = 2
status_of BadLimits = 2
status_of (NoMemory n) = 3
status_of (NoWorker n) = 3
status_of Unreadable = 4
status_of WriteFailed = 4

abbrev pub record_line : ℕ → List ℕ → List ℕ
record_line n what = codes "l4map: record " ++ decimal n ++ what

-- what is told on standard error
abbrev pub error_line : RunError → List ℕ
error_line BadHeader = codes "l4map: BadHeader\n"
error_line BadLimits = codes "l4map: BadLimits\n"
error_line (NoMemory n) = record_line n (codes ": NoMemory\n")
error_line (NoWorker n) = record_line n (codes ": NoWorker\n")
error_line Unreadable = codes "l4map: Unreadable\n"
error_line WriteFailed = codes "l4map: WriteFailed\n"
