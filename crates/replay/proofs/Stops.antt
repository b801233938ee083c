-- Why the lines of replies are not all there.
use Rattle.std.proofs.Common.{◌≡◌, ℕ, ◌+◌, ◌≤◌, Bool, List, ◌++◌, take, map, length, Option, sym, ◌∙◌, append-nil, add-zero, arith}
use Rattle.std.proofs.lemmas.List.{length-map, take-map}
use Rattle.model.specs.Definitions.Calls.{Reply, accessed}
use Rattle.model.specs.Definitions.Text.{reply_lines}
use Rattle.crew.specs.declared.error.CrewError.{CrewError}
use Rattle.crew.specs.declared.error.CrewError.TheVariants as crew
use Rattle.replay.specs.declared.error.RunError.{RunError}
use Rattle.replay.specs.declared.error.RunError.TheVariants.{BadHeader, BadLimits, NoMemory, NoWorker, Unreadable, WriteFailed}
use Rattle.replay.specs.Run.{IsNoWorker}
use Rattle.replay.specs.Steps.{PassesOn, StopsAt, StopsAmong}
use Rattle.replay.proofs.Passing.{appends_same, passes_rest}

-- before the first of them
pub stops_first : (number : ℕ) (replies : List Reply) (lines : List ℕ) (old new : Option (List ℕ)) (was is : Bool) (e : RunError) → StopsAt crew.NoMemory number lines old new was is e → StopsAmong number replies lines old new was is e
stops_first number replies lines old new was is (NoMemory n) stop = (record { k = 0; n_is = stop.0 ∙ sym (add-zero number); within = omega arith; written = appends_same old new (sym (append-nil lines)) stop.1 }, stop.2)
stops_first number replies lines old new was is (NoWorker n) stop = absurd (cc stop.0)
stops_first number replies lines old new was is WriteFailed stop = stop
stops_first number replies lines old new was is BadHeader stop = stop
stops_first number replies lines old new was is BadLimits stop = stop
stops_first number replies lines old new was is Unreadable stop = stop

-- before the one at a place
pub stops_within : (number i : ℕ) (answers : List Bool) (lines left : List ℕ) (old mid new : Option (List ℕ)) (was is failed : Bool) (e : RunError) → i ≤ length answers → is ≡ was
    → PassesOn old mid (lines ++ reply_lines number (map accessed (take i answers))) left → StopsAt crew.NoMemory (number + i) left mid new is failed e → StopsAmong number (map accessed answers) lines old new was failed e
stops_within number i answers lines left old mid new was is failed (NoMemory n) le same p stop = (record { k = i; n_is = stop.0; within = omega (arith, length-map answers accessed); written = rw take-map (passes_rest p new stop.1) }, stop.2 ∙ same)
stops_within number i answers lines left old mid new was is failed (NoWorker n) le same p stop = absurd (cc stop.0)
stops_within number i answers lines left old mid new was is failed WriteFailed le same p stop = stop
stops_within number i answers lines left old mid new was is failed BadHeader le same p stop = stop
stops_within number i answers lines left old mid new was is failed BadLimits le same p stop = stop
stops_within number i answers lines left old mid new was is failed Unreadable le same p stop = stop

-- no reply wants a worker
pub among_no_worker : (number : ℕ) (replies : List Reply) (lines : List ℕ) (old new : Option (List ℕ)) (was is : Bool) (e : RunError) → StopsAmong number replies lines old new was is e → IsNoWorker e → ⊥
among_no_worker number replies lines old new was is (NoMemory n) stop none = none
among_no_worker number replies lines old new was is (NoWorker n) stop none = stop
among_no_worker number replies lines old new was is WriteFailed stop none = none
among_no_worker number replies lines old new was is BadHeader stop none = none
among_no_worker number replies lines old new was is BadLimits stop none = none
among_no_worker number replies lines old new was is Unreadable stop none = none

-- a run ends so only for want of one
pub at_no_worker : (why : CrewError) (number : ℕ) (lines : List ℕ) (old new : Option (List ℕ)) (was is : Bool) (e : RunError) → StopsAt why number lines old new was is e → IsNoWorker e → why ≡ crew.NoWorker
at_no_worker why number lines old new was is (NoMemory n) stop none = absurd none
at_no_worker why number lines old new was is (NoWorker n) stop none = stop.0
at_no_worker why number lines old new was is WriteFailed stop none = absurd none
at_no_worker why number lines old new was is BadHeader stop none = absurd none
at_no_worker why number lines old new was is BadLimits stop none = absurd none
at_no_worker why number lines old new was is Unreadable stop none = absurd none
