-- A database as its callers see it.
use Rattle.std.specs.Prelude.{◌≡◌, ◌⊎◌, ℕ, Bool, false, true, Result, Ok, Err, IfErr, Option, Some, None, option_map, if◌then◌else◌, List, [], ◌∷◌}
use Rattle.fpage.specs.Fpage.{Flexpage}
use Rattle.fpage.specs.declared.rights.Rights.{Rights}
use Rattle.model.specs.Definitions.Answers.{pages_in, call_refusal}
use Rattle.model.specs.Definitions.Calls.{Limits, Call, unmap, Refusal, same_space, no_window}
use Rattle.model.specs.Definitions.Holdings.{Holdings}
use Rattle.model.specs.Definitions.Recursion.{recur}
use Rattle.model.specs.Definitions.Replay.{start}
use Rattle.model.specs.Definitions.Strip.{strip, strip_word}
use Rattle.holdings.specs.Contents.{Contents}
use Rattle.holdings.specs.Layout.{Layout}
use Rattle.mapdb.specs.declared.error.DbError.{DbError}
use Rattle.mapdb.specs.declared.error.DbError.TheVariants.{NoSuchSpace, SameSpace, NoWindow, NoMemory, NoWorker, Halted}

-- a database; once it is halted nothing is held, and no place has a word
pub record State : Type 0 where
  -- how many spaces, bits and frames there are
  pub limits : Limits
  -- which page holds what, and from which page it came
  pub holdings : Holdings
  -- which places have a word, and at which index
  pub layout : Layout
  -- whether a call ran out of memory, or had no worker
  pub is_halted : Bool

-- what the fields of a database say
abbrev pub state_of : Limits → Option Contents → State
state_of limits None = record { limits = limits; holdings = []; layout = []; is_halted = true }
state_of limits (Some c) = record { limits = limits; holdings = c.holdings; layout = c.layout; is_halted = false }

-- what is held has these limits
abbrev pub AreLimitsOf : Limits → Option Contents → Type 0
AreLimitsOf limits None = Unit {0}
AreLimitsOf limits (Some c) = c.limits ≡ limits

-- a new database, before any place has a word
abbrev pub new_state : Limits → State
new_state limits = record { limits = limits; holdings = start limits; layout = []; is_halted = false }

-- after a call that ran out of memory, or that had no worker
abbrev pub halted : State → State
halted s = record s { holdings = []; layout = []; is_halted = true }

-- after a call that changed what is held
abbrev pub left_with : State → Holdings → State
left_with s h = record s { holdings = h }

-- the same, with the layout that a call left
abbrev pub laid_out : State → Layout → State
laid_out s layout = record s { layout = layout }

-- an answer of a call that changes nothing: that it is halted, or this
abbrev pub unless_halted : {A : Type 0} → State → A → Result A DbError
unless_halted s answer = if s.is_halted then Err Halted else Ok answer

-- the error that says why a call is refused; what refuses a record alone refuses no call
abbrev pub error_of : Refusal → DbError
error_of same_space = SameSpace
error_of no_window = NoWindow
error_of other = NoSuchSpace

-- why a call is refused, if not for want of memory or of a worker: the first that fits
abbrev pub refusal : State → Call → Option DbError
refusal s call = if s.is_halted then Some Halted else option_map error_of (call_refusal s.limits call)

-- why an unmap is refused: it takes a space, and its words make no difference
abbrev pub unmap_refusal : State → ℕ → Option DbError
unmap_refusal s space = refusal s (unmap space false [])

-- a call that is refused for this answers so and changes nothing; any other may run out of memory or have no worker, and has no other error
abbrev pub IsRefused : {A : Type 0} → Option DbError → State → State → Result A DbError → Type 0
IsRefused (Some why) old new result = (result ≡ Err why) × (new ≡ old)
IsRefused None old new result = IfErr result (λ e. (e ≡ NoMemory) ⊎ (e ≡ NoWorker))

-- the status that each word of an unmap gives back, one word after another
abbrev pub unmap_status : ℕ → Bool → List Flexpage → Holdings → List Rights
unmap_status space f [] h = []
unmap_status space f (w ∷ ws) h = let named = pages_in space w in strip_word h named ∷ unmap_status space f ws (strip h named w.rights f)

-- what the words of an unmap leave, one after another
abbrev pub unmap_left : ℕ → Bool → List Flexpage → Holdings → Holdings
unmap_left space f [] h = h
unmap_left space f (w ∷ ws) h = let named = pages_in space w in unmap_left space f ws (strip h named w.rights f)

-- the same words, each by the recursion page by page
abbrev pub plain_status : ℕ → Bool → List Flexpage → Holdings → List Rights
plain_status space f [] h = []
plain_status space f (w ∷ ws) h = let visited = recur h (pages_in space w) w.rights f in visited.word ∷ plain_status space f ws visited.left

abbrev pub plain_left : ℕ → Bool → List Flexpage → Holdings → Holdings
plain_left space f [] h = h
plain_left space f (w ∷ ws) h = let visited = recur h (pages_in space w) w.rights f in plain_left space f ws visited.left
