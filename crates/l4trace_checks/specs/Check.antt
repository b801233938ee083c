-- Which records of a trace are refused, and what a check of it finds.
use Rattle.std.specs.Prelude.{◌≡◌, ℕ, Bool, List, length, count_by, is_some, Option, Some, Ok, Err}
use Rattle.model.specs.Definitions.Calls.{Limits, Refusal, Request}
use Rattle.model.specs.Definitions.Answers.{call_refusal}
use Rattle.model.specs.Definitions.Records.{Fields, Version, Trace, bad_header, bad_limits, request, trace_of}
use Rattle.model.specs.Definitions.Text.{refused_count, told}
use Rattle.l4trace_checks.specs.declared.check.Found.{Found}
use Rattle.l4trace_checks.specs.declared.check.Found.TheVariants.{BadHeader, BadLimits, Records}

-- why a record is refused, if it is: for what it asks, or by the database
abbrev pub refusal_in : Limits → Request → Option Refusal
refusal_in limits (Err r) = Some r
refusal_in limits (Ok call) = call_refusal limits call

-- whether a record of a trace of a version is refused
abbrev pub is_refused_record : Version → Limits → Fields → Bool
is_refused_record version limits fields = is_some (refusal_in limits (request version limits fields))

-- how many of some records are refused
abbrev pub refused_among : Version → Limits → List Fields → ℕ
refused_among version limits rows = count_by (is_refused_record version limits) rows

-- the numbers are those of the records behind a header
abbrev pub CountsRest : Version → Limits → List Fields → Found → Type 0
CountsRest version limits rest BadHeader = ⊥
CountsRest version limits rest BadLimits = ⊥
CountsRest version limits rest (Records records refused) = (records ≡ length rest) × (refused ≡ refused_among version limits rest)

-- the bytes are a trace with so many records, of which so many are answered by a refusal
pub record AreCounted (bytes : List ℕ) (records refused : ℕ) : Type 0 where
  pub trace : Trace
  pub is : trace_of bytes ≡ Ok trace
  pub all : records ≡ length (told trace).replies
  pub some : refused ≡ refused_count (told trace).replies

-- what a check found of these bytes
abbrev pub IsFound : List ℕ → Found → Type 0
IsFound bytes BadHeader = trace_of bytes ≡ Err bad_header
IsFound bytes BadLimits = trace_of bytes ≡ Err bad_limits
IsFound bytes (Records records refused) = AreCounted bytes records refused
