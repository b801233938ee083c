-- What a result says, told of another.
use Rattle.std.proofs.Common.{◌≡◌, Result, Ok, Err, IfOk, IfErr, OnOk, is_err, false, sym, subst}
use Rattle.std.specs.Result.{IsErrAnd}
use Rattle.replay.specs.declared.replay.Summary.{Summary}

-- an error that was passed on
pub err_of : {T E : Type 0} (r : Result T E) (e : E) (P : E → Type 0) → IsErrAnd r (λ x. x ≡ e) → P e → IfErr r P
err_of (Ok x) e P is p = tt
err_of (Err x) e P is p = subst P (sym is) p

pub err_from : {T E : Type 0} (r : Result T E) (P Q : E → Type 0) → IfErr r P → ((e : E) → P e → Q e) → IfErr r Q
err_from (Ok x) P Q p f = tt
err_from (Err e) P Q p f = f e p

pub ok_from : {T E : Type 0} (r : Result T E) (P Q : T → Type 0) → IfOk r P → ((x : T) → P x → Q x) → IfOk r Q
ok_from (Ok x) P Q p f = f x p
ok_from (Err e) P Q p f = tt

-- the last numbers of a run whose text is written
pub closed : {E : Type 0} (r : Result Summary E) (s : Summary) (A : Type 0) (P : Summary → Type 0) → IfOk r (λ x. x ≡ s) → OnOk r A → (A → P s) → IfOk r P
closed (Ok x) s A P is a f = subst P (sym is) (f a)
closed (Err e) s A P is a f = tt

-- an error that tells of another
pub fault_of : {T E : Type 0} (r : Result T E) (Q P : E → Type 0) → IsErrAnd r Q → ((e : E) → Q e → P e) → IfErr r P
fault_of (Ok x) Q P is f = tt
fault_of (Err e) Q P is f = f e is

-- what is so where there is no error
pub on_ok : {T E A : Type 0} (r : Result T E) → is_err r ≡ false → OnOk r A → A
on_ok (Ok x) is a = a
on_ok (Err e) is a = absurd (cc is)
