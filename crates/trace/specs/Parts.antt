-- What the parts of a record stand for, as they are read.
use Rattle.std.specs.Prelude.{◌≡◌, ⊤, ℕ, List, [], ◌∷◌, Option, Some, None, Result, Ok, Err}
use Rattle.std.specs.Borrow.{Bor}
use Rattle.fpage.specs.declared.error.FpageError.{FpageError}
use Rattle.fpage.specs.declared.rights.Access.{Access}
use Rattle.space.specs.declared.place.Place.{Place}
use Rattle.model.specs.Definitions.Calls as calls
use Rattle.model.specs.Definitions.Calls.{Request, access}
use Rattle.model.specs.Definitions.Records.{Fields, Header, AccessFields, SendFields, UnmapFields}
use Rattle.mapdb.specs.declared.call.Call.{Call}
use Rattle.trace.specs.declared.call.CallError.{CallError}
use Rattle.trace.specs.declared.call.CallError.TheVariants.{Refused, NoMemory}
use Rattle.mapdb.specs.declared.call.Refusal.{Refusal}
use Rattle.mapdb.specs.declared.call.Refusal.TheVariants.{BadRecord}
use Rattle.mapdb.specs.Held.{limits_of}
use Rattle.fields.specs.Meaning.{version_of}
use Rattle.trace.specs.declared.request.Header.{Header as TheHeader}
use Rattle.trace.specs.declared.request.SendFields.{SendFields as TheSendFields}
use Rattle.trace.specs.declared.request.AccessFields.{AccessFields as TheAccessFields}
use Rattle.trace.specs.declared.request.UnmapFields.{UnmapFields as TheUnmapFields}
use Rattle.trace.specs.Meaning.{refusal_of, call_of}

-- what a header names
abbrev pub header_of : TheHeader → Header
header_of h = record { version = version_of h.version; limits = limits_of h.limits }

-- the fields of an access record
abbrev pub access_of : TheAccessFields → AccessFields
access_of a = record { space = a.space; address = a.address; kind = a.kind }

-- the request that an access or a refusal is
abbrev pub asked_of : Result (Place × Access) Refusal → Request
asked_of (Ok a) = Ok (access a.0 a.1)
asked_of (Err e) = Err (refusal_of e)

-- the fields of a send record, with its words
abbrev pub send_of : List ℕ → TheSendFields → SendFields
send_of words s = record { from = s.from; to = s.to; window = s.window; words = words }

-- the fields of an unmap record, with its words
abbrev pub unmap_of : List ℕ → TheUnmapFields → UnmapFields
unmap_of words u = record { space = u.space; control = u.control; words = words }

-- the record is refused as a word's error says
abbrev pub Refuses : FpageError → CallError → Type 0
Refuses e (Refused r) = refusal_of r ≡ calls.refusal_of e
Refuses e NoMemory = ⊥

-- fields were read as defined, or are a bad record, unless memory ran out
abbrev pub ReadsFields : {A B : Type 0} → (A → B) → Option B → Result A CallError → Type 0
ReadsFields of defined (Ok x) = Some (of x) ≡ defined
ReadsFields of defined (Err (Refused r)) = (r ≡ BadRecord) × (None ≡ defined)
ReadsFields of defined (Err NoMemory) = ⊤

-- words were read as defined, or are refused by their first error, unless memory ran out
abbrev pub ReadsWords : {A B : Type 0} → (A → B) → Result B FpageError → Result A CallError → Type 0
ReadsWords of defined (Ok x) = Ok (of x) ≡ defined
ReadsWords of defined (Err (Refused r)) = (f : FpageError) × (Err f ≡ defined) × (refusal_of r ≡ calls.refusal_of f)
ReadsWords of defined (Err NoMemory) = ⊤

-- the call or the refusal is the one defined, unless memory ran out
abbrev pub Asks : Request → Result Call CallError → Type 0
Asks defined (Ok call) = Ok (call_of call) ≡ defined
Asks defined (Err (Refused r)) = Err (refusal_of r) ≡ defined
Asks defined (Err NoMemory) = ⊤

-- the next field was taken from these, and the others are left
abbrev pub Takes : Fields → Option (Bor (List ℕ)) → Fields → Type 0
Takes old None new = old ≡ []
Takes old (Some field) new = old ≡ field.now ∷ new
