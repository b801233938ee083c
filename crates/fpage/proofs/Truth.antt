-- Tests: equal where each is true when the other is.
use Rattle.std.proofs.Common.{◌≡◌, true, false, Bool, refl}

pub same_truth : (a b : Bool) → (a ≡ true → b ≡ true) → (b ≡ true → a ≡ true) → a ≡ b
same_truth true true f g = refl
same_truth true false f g = cc (f refl)
same_truth false true f g = cc (g refl)
same_truth false false f g = refl
