-- Text pushed behind text that was pushed.
use Rattle.std.proofs.Common.{◌≡◌, ℕ, List, ◌++◌, ap, ◌∙◌, append_assoc, Result, Ok, Err, OnOk}

pub told_behind : {E : Type 0} (r : Result (Unit {0}) E) (old middle new first second : List ℕ) → middle ≡ old ++ first → OnOk r (new ≡ middle ++ second) → OnOk r (new ≡ old ++ (first ++ second))
told_behind (Err e) old middle new first second is then_is = tt
told_behind (Ok x) old middle new first second is then_is = then_is ∙ ap (λ m. m ++ second) is ∙ append_assoc old first second
