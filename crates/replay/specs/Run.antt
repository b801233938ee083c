-- What a run writes, and what it leaves where it ends early.
use Rattle.std.specs.Prelude.{◌≡◌, ℕ, zero, suc, ◌≤◌, ◌<◌, ⊤, Bool, true, false, List, length, take, Option, Ok, Err}
use Rattle.std.specs.Io.KnownBytes.{Appends, Keeps}
use Rattle.model.specs.Definitions.Replay.{Told}
use Rattle.model.specs.Definitions.Records.{Trace, bad_header, bad_limits, trace_of}
use Rattle.model.specs.Definitions.Text.{text, told, reply_lines, refused_count}
use Rattle.replay.specs.declared.replay.Summary.{Summary}
use Rattle.replay.specs.declared.error.RunError.{RunError}
use Rattle.replay.specs.declared.error.RunError.TheVariants.{BadHeader, BadLimits, NoMemory, NoWorker, Unreadable, WriteFailed}

-- the reply lines of the records before number k + 1 were written, and nothing else
pub record StopsBefore (t : Told) (old new : Option (List ℕ)) (k : ℕ) : Type 0 where
  pub within : k ≤ length t.replies
  pub written : Appends old new (reply_lines 1 (take k t.replies))

-- the whole text was written, and its last numbers are told
pub record WritesText (t : Told) (old new : Option (List ℕ)) (s : Summary) : Type 0 where
  pub written : Appends old new (text t)
  pub records : s.records ≡ length t.replies
  pub refused : s.refused ≡ refused_count t.replies

-- the input is a trace, and its replay was written
pub record WritesReplay (input : List ℕ) (old new : Option (List ℕ)) (s : Summary) : Type 0 where
  pub trace : Trace
  pub is_trace : trace_of input ≡ Ok trace
  pub replayed : WritesText (told trace) old new s

-- the input is a trace, and the reply lines before a record were written
pub record StopsInReplay (input : List ℕ) (old new : Option (List ℕ)) (k : ℕ) : Type 0 where
  pub trace : Trace
  pub is_trace : trace_of input ≡ Ok trace
  pub stopped : StopsBefore (told trace) old new k

-- the same, before a record that is there
pub record StopsAtRecord (input : List ℕ) (old new : Option (List ℕ)) (k : ℕ) : Type 0 where
  pub trace : Trace
  pub is_trace : trace_of input ≡ Ok trace
  pub stopped : StopsBefore (told trace) old new k
  pub there : k < length (told trace).replies

-- the input is a trace
pub record IsTrace (input : List ℕ) : Type 0 where
  pub trace : Trace
  pub is_trace : trace_of input ≡ Ok trace

-- what an error says of the input and of what was written
abbrev pub EndsEarly : List ℕ → Option (List ℕ) → Option (List ℕ) → RunError → Type 0
EndsEarly input old new BadHeader = trace_of input ≡ Err bad_header
EndsEarly input old new BadLimits = trace_of input ≡ Err bad_limits
EndsEarly input old new (NoMemory zero) = ⊤
EndsEarly input old new (NoMemory (suc k)) = StopsInReplay input old new k
EndsEarly input old new (NoWorker zero) = ⊥
EndsEarly input old new (NoWorker (suc k)) = StopsAtRecord input old new k
EndsEarly input old new Unreadable = ⊤
EndsEarly input old new WriteFailed = IsTrace input

-- the errors before which nothing was written
abbrev pub WritesNothing : Option (List ℕ) → Option (List ℕ) → RunError → Type 0
WritesNothing old new BadHeader = Keeps old new
WritesNothing old new BadLimits = Keeps old new
WritesNothing old new (NoMemory zero) = Keeps old new
WritesNothing old new (NoMemory (suc k)) = ⊤
WritesNothing old new (NoWorker zero) = ⊥
WritesNothing old new (NoWorker (suc k)) = ⊤
WritesNothing old new Unreadable = Keeps old new
WritesNothing old new WriteFailed = ⊤

-- a thread could not be started
abbrev pub IsNoWorker : RunError → Type 0
IsNoWorker (NoWorker n) = ⊤
IsNoWorker (NoMemory n) = ⊥
IsNoWorker BadHeader = ⊥
IsNoWorker BadLimits = ⊥
IsNoWorker Unreadable = ⊥
IsNoWorker WriteFailed = ⊥

-- which of reader and writer has failed
abbrev pub TellsStreams : Bool → Bool → RunError → Type 0
TellsStreams reader writer Unreadable = (reader ≡ true) × (writer ≡ false)
TellsStreams reader writer WriteFailed = (reader ≡ false) × (writer ≡ true)
TellsStreams reader writer BadHeader = (reader ≡ false) × (writer ≡ false)
TellsStreams reader writer BadLimits = (reader ≡ false) × (writer ≡ false)
TellsStreams reader writer (NoMemory n) = (reader ≡ false) × (writer ≡ false)
TellsStreams reader writer (NoWorker n) = (reader ≡ false) × (writer ≡ false)
