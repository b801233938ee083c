-- What a trace that was read stands for.
use Rattle.std.specs.Prelude.{◌≡◌, ℕ, Bool, true, false, ⊤, List, [], ◌∷◌, map, Option, Some, None}
use Rattle.model.specs.Definitions.Records.{Fields, Version, Header, header_fields, records_of}
use Rattle.mapdb.specs.Held.{limits_of}
use Rattle.trace.specs.Meaning.{TraceRecord}
use Rattle.trace.specs.declared.read.Trace.{Trace}
use Rattle.trace.specs.declared.read.TraceError.{TraceError}
use Rattle.trace.specs.declared.read.TraceError.TheVariants.{Unreadable, BadHeader, NoMemory}

-- fields as a record of a trace of a version
abbrev pub of_version : Version → Fields → TraceRecord
of_version version fields = record { version = version; fields = fields }

-- the bytes are a header that names a version and these limits, and then these records of that version, in order
pub record IsTraceOf (bytes : List ℕ) (t : Trace) : Type 0 where
  pub header : Fields
  pub version : Version
  pub others : List Fields
  pub whole : records_of bytes ≡ header ∷ others
  pub names : header_fields header ≡ Some (record { version = version; limits = limits_of t.limits })
  pub records : t.records.items ≡ map (of_version version) others

-- what the first record names, if it has the form of a header
abbrev pub named_header : List Fields → Option Header
named_header [] = None
named_header (header ∷ records) = header_fields header

-- there is no first record, or it does not have the form of a header
abbrev pub LacksHeader : List ℕ → Type 0
LacksHeader bytes = named_header (records_of bytes) ≡ None

-- what an error says of the bytes
abbrev pub IsFaultOf : List ℕ → TraceError → Type 0
IsFaultOf bytes Unreadable = ⊤
IsFaultOf bytes BadHeader = LacksHeader bytes
IsFaultOf bytes NoMemory = ⊤

-- what an error says of the reader, which had not failed: whether it has
abbrev pub TellsReader : Bool → TraceError → Type 0
TellsReader failed Unreadable = failed ≡ true
TellsReader failed BadHeader = failed ≡ false
TellsReader failed NoMemory = failed ≡ false
