-- What a last write says, with the writes before it.
use Rattle.std.proofs.Common.{Result, Ok, Err, OnOk}

pub on_ok : {E : Type 0} (r : Result (Unit {0}) E) (P Q : Type 0) → (P → Q) → OnOk r P → OnOk r Q
on_ok (Ok x) P Q f h = f h
on_ok (Err e) P Q f h = h
