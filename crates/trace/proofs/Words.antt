-- Words from a list, the first ones taken already, and words that were read where they were put.
use Rattle.std.proofs.Common.{◌≡◌, ℕ, List, ◌++◌, Option, Result, Ok, Err}
use Rattle.std.specs.Option.{option_map}
use Rattle.std.specs.Result.{IsErrAnd}
use Rattle.fpage.specs.declared.error.FpageError.{FpageError}
use Rattle.trace.specs.declared.call.CallError.{CallError}
use Rattle.trace.specs.declared.call.CallError.TheVariants.{Refused, NoMemory}
use Rattle.trace.specs.Parts.{Refuses, ReadsWords}

-- words that were taken, and those that follow, if there are any
abbrev pub prefixed : List ℕ → Option (List ℕ) → Option (List ℕ)
prefixed front rest = option_map (λ words. front ++ words) rest

-- words that are refused by an error
pub reads_refused : {A B : Type 0} (of : A → B) (defined : Result B FpageError) (r : Result A CallError) (e : FpageError) → Err e ≡ defined → IsErrAnd r (Refuses e) → ReadsWords of defined r
reads_refused of defined (Ok x) e is h = absurd h
reads_refused of defined (Err (Refused r)) e is h = (e, is, h)
reads_refused of defined (Err NoMemory) e is h = tt
