-- What records, calls, refusals and replies stand for in the definitions.
use Rattle.std.specs.Prelude.{ℕ, Bool, nat_lt, ◌&&◌, List, map, Result, Ok, Err}
use Rattle.std.specs.Borrow.{Bor}
use Rattle.model.specs.Definitions.Calls.{Request}
use Rattle.model.specs.Definitions.Items.{Counts}
use Rattle.model.specs.Definitions.Records.{Fields, Version}
pub use Rattle.mapdb.specs.Calls.{call_of, refusal_of, reply_of, IsWithinLimits}
use Rattle.mapdb.specs.declared.call.Call.{Call as TheCall}
use Rattle.mapdb.specs.declared.call.Refusal.{Refusal as TheRefusal}

-- the bytes of borrowed fields
abbrev pub shown : List (Bor (List ℕ)) → Fields
shown fields = map (λ field. field.now) fields

-- a record of a trace: the version that the trace has, and the fields
pub record TraceRecord : Type 0 where
  pub version : Version
  pub fields : Fields

-- the request that a call or a refusal of the program is
abbrev pub request_of : Result TheCall TheRefusal → Request
request_of (Ok call) = Ok (call_of call)
request_of (Err e) = Err (refusal_of e)

-- each count has one digit
abbrev pub have_one_digit : Counts → Bool
have_one_digit c = nat_lt c.absent 10 && nat_lt c.norights 10 && nat_lt c.origin 10 && nat_lt c.lost 10 && nat_lt c.extended 10 && nat_lt c.linked 10
