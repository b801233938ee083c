-- What the parts of a run write, record by record, and what they leave where they end early.
use Rattle.std.specs.Prelude.{◌≡◌, ℕ, zero, suc, ◌+◌, ◌≤◌, ◌<◌, ⊤, Bool, true, false, List, [], ◌∷◌, ◌++◌, map, length, take, Option, Ok, Err}
use Rattle.std.specs.Io.KnownBytes.{Appends, Keeps}
use Rattle.crew.specs.declared.error.CrewError.{CrewError}
use Rattle.crew.specs.declared.error.CrewError.TheVariants as crew
use Rattle.fpage.specs.declared.rights.Access.{Access}
use Rattle.space.specs.declared.place.Place.{Place}
use Rattle.model.specs.Definitions.Holdings.{Holdings}
use Rattle.model.specs.Definitions.Calls.{Limits, access, Request, Reply, accessed}
use Rattle.model.specs.Definitions.Answers.{answer}
use Rattle.model.specs.Definitions.Replay.{Told, replay}
use Rattle.model.specs.Definitions.Records.{Fields, Trace, Version, are_limits, bad_header, bad_limits, request, trace_of}
use Rattle.model.specs.Definitions.Text.{told, reply_lines, refused_count}
use Rattle.mapdb.specs.State.{State, laid_out, new_state}
use Rattle.trace.specs.Meaning.{reply_of}
use Rattle.replay.specs.declared.answer.Replies.{Replies}
use Rattle.replay.specs.declared.answer.Replies.TheVariants.{One, Accesses}
use Rattle.replay.specs.declared.replay.Replayed.{Replayed}
use Rattle.replay.specs.declared.error.RunError.{RunError}
use Rattle.replay.specs.declared.error.RunError.TheVariants.{BadHeader, BadLimits, NoMemory, NoWorker, Unreadable, WriteFailed}
use Rattle.replay.specs.Run.{StopsBefore, StopsInReplay, StopsAtRecord, IsTrace}

-- the replies to these records of a trace of a version, and the last holdings
abbrev pub told_of : Version → Limits → List Fields → Holdings → Told
told_of version limits rows h = replay (answer limits) h (map (request version limits) rows)

-- the same, to a request and then to these records
abbrev pub told_behind : Version → Limits → Request → List Fields → Holdings → Told
told_behind version limits request_of_first rows h = replay (answer limits) h (request_of_first ∷ map (request version limits) rows)

-- the replies that were given
abbrev pub replies_of : Replies → List Reply
replies_of (One reply) = reply_of reply ∷ []
replies_of (Accesses answers) = map accessed answers.items

-- the accesses that records ask for
abbrev pub asked : Place × Access → Request
asked a = Ok (access a.0 a.1)

-- an access, with those that the first of these records ask for
pub record AreAsked (version : Version) (limits : Limits) (first : Place × Access) (rows : List Fields) (accesses : List (Place × Access)) : Type 0 where
  pub others : List (Place × Access)
  pub are : accesses ≡ first ∷ others
  pub within : length others ≤ length rows
  pub requests : map (request version limits) (take (length others) rows) ≡ map asked others

-- of a text a front was written, and these bytes of it are left
pub record PassesOn (old new : Option (List ℕ)) (text left : List ℕ) : Type 0 where
  pub front : List ℕ
  pub written : Appends old new front
  pub text_is : text ≡ front ++ left

-- why the replies were not all written; whether the writer had failed, and has
abbrev pub StopsEarly : Told → Option (List ℕ) → Option (List ℕ) → Bool → Bool → RunError → Type 0
StopsEarly t old new was is (NoMemory zero) = ⊥
StopsEarly t old new was is (NoMemory (suc k)) = StopsBefore t old new k × (is ≡ was)
StopsEarly t old new was is (NoWorker zero) = ⊥
StopsEarly t old new was is (NoWorker (suc k)) = StopsBefore t old new k × (k < length t.replies) × (is ≡ was)
StopsEarly t old new was is WriteFailed = is ≡ true
StopsEarly t old new was is BadHeader = ⊥
StopsEarly t old new was is BadLimits = ⊥
StopsEarly t old new was is Unreadable = ⊥

-- how a run ends at a record for want of memory or of a worker, once the lines before it are written; whether the writer had failed, and has
abbrev pub StopsAt : CrewError → ℕ → List ℕ → Option (List ℕ) → Option (List ℕ) → Bool → Bool → RunError → Type 0
StopsAt why number lines old new was is (NoMemory n) = (n ≡ number) × Appends old new lines × (is ≡ was)
StopsAt why number lines old new was is (NoWorker n) = (why ≡ crew.NoWorker) × (n ≡ number) × Appends old new lines × (is ≡ was)
StopsAt why number lines old new was is WriteFailed = is ≡ true
StopsAt why number lines old new was is BadHeader = ⊥
StopsAt why number lines old new was is BadLimits = ⊥
StopsAt why number lines old new was is Unreadable = ⊥

-- the lines of the first k of these replies, from this number on, were written behind others
pub record StopsBehind (number : ℕ) (replies : List Reply) (lines : List ℕ) (old new : Option (List ℕ)) (n : ℕ) : Type 0 where
  pub k : ℕ
  pub n_is : n ≡ number + k
  pub within : k ≤ length replies
  pub written : Appends old new (lines ++ reply_lines number (take k replies))

-- why a run ends before the lines of these replies are all there
abbrev pub StopsAmong : ℕ → List Reply → List ℕ → Option (List ℕ) → Option (List ℕ) → Bool → Bool → RunError → Type 0
StopsAmong number replies lines old new was is (NoMemory n) = StopsBehind number replies lines old new n × (is ≡ was)
StopsAmong number replies lines old new was is (NoWorker n) = ⊥
StopsAmong number replies lines old new was is WriteFailed = is ≡ true
StopsAmong number replies lines old new was is BadHeader = ⊥
StopsAmong number replies lines old new was is BadLimits = ⊥
StopsAmong number replies lines old new was is Unreadable = ⊥

-- a database at the start, whose limits are served
pub record IsStarted (limits : Limits) (database : State) : Type 0 where
  pub served : are_limits limits ≡ true
  pub new : database ≡ laid_out (new_state limits) database.layout

-- why there is no database
abbrev pub StartsNot : Limits → RunError → Type 0
StartsNot limits BadLimits = are_limits limits ≡ false
StartsNot limits (NoMemory zero) = ⊤
StartsNot limits (NoMemory (suc k)) = ⊥
StartsNot limits BadHeader = ⊥
StartsNot limits (NoWorker n) = ⊥
StartsNot limits Unreadable = ⊥
StartsNot limits WriteFailed = ⊥

-- all records of a trace are answered: their lines are written or left, and what is held is known
pub record AwaitsAudit (input : List ℕ) (old now : Option (List ℕ)) (r : Replayed) : Type 0 where
  pub trace : Trace
  pub is_trace : trace_of input ≡ Ok trace
  pub lines_are : PassesOn old now (reply_lines 1 (told trace).replies) r.lines
  pub last : r.database.holdings ≡ (told trace).last
  pub number : r.number ≡ length (told trace).replies + 1
  pub refused : r.refused ≡ refused_count (told trace).replies
  pub running : r.database.is_halted ≡ false

-- why the records of some input are not all answered; whether the writer had failed, and has
abbrev pub StopsInput : List ℕ → Option (List ℕ) → Option (List ℕ) → Bool → Bool → RunError → Type 0
StopsInput input old new was is BadHeader = (trace_of input ≡ Err bad_header) × Keeps old new × (is ≡ was)
StopsInput input old new was is BadLimits = (trace_of input ≡ Err bad_limits) × Keeps old new × (is ≡ was)
StopsInput input old new was is (NoMemory zero) = Keeps old new × (is ≡ was)
StopsInput input old new was is (NoMemory (suc k)) = StopsInReplay input old new k × (is ≡ was)
StopsInput input old new was is (NoWorker zero) = ⊥
StopsInput input old new was is (NoWorker (suc k)) = StopsAtRecord input old new k × (is ≡ was)
StopsInput input old new was is Unreadable = ⊥
StopsInput input old new was is WriteFailed = IsTrace input × (is ≡ true)
