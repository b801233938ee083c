-- The pointer of the box is the handle's, and its allocator is the heap.
use Rattle.std.proofs.Common.{◌≡◌, List, [], ◌∷◌, ◌++◌, refl, sym, subst}
use mir.Val.{Val}
use base.Logic.{SProp, ent, emp, id⊢}
use prog.Wp.{WpFn}
use types.Kit.{‵, raw, ◌⊛◌, ◌$◌, ◌∵◌, !, qed, by, keep, drop, split, fsplit, fjoin, use0, suffices, fpack}
use types.Run.{stop, fld, of_opd, no_more, and_then, returns, enter}
use types.ByLocal.{alloc_all, pass_all, free_all, look_at, get, get_in, sets}
use types.Part.{agg, sub, whole as whole-value}
use contract.Monad.{fact, fact_i}
use contract.Running.{tables}
use denote.RattleType.{owns}
use denote.Signature.{types_at, plain}
use denote.Steps.{nothing}
use denote.Triple.Entry.{alive}
use denote.Triple.Walked.{Stays, stay_dropped, walk_of}
use Rattle.std.proofs.raw_atomic.Walks.{proved_at, leaves}
use Rattle.std.proofs.alloc.Calls.{Goes-blank}
use Rattle.std.specs.declared.alloc.Global.{Global}
use Rattle.std.specs.declared.option.Option.TheVariants.{Some}
use Rattle.std.specs.Box.Ownership.{box_owns}
use Rattle.std.specs.contracts.impls.GlobalAllocator.TheImpl.{ghosts}
use Rattle.c_handle.proofs.Steps.{at_typed, handle_typed, pointer_typed, Held, Stored, Pointer, handle_word, pointer_word, handle_in, pointer_out}
use Rattle.c_handle.specs.contracts.handle.Handle.holding as f
use Rattle.c_handle.proofs.handle.Handle.holding.Statement.{statement}
use Rattle.c_handle.proofs.handle.Handle.holding.Code as code

abbrev stayed : Stays f.ended.signature.params f.ended.kept
stayed = (stay_dropped (plain (λ _. Pointer)) f.ended.kept.0, tt)

pub holding_spec : {M : Type 1} → statement M
holding_spec 𝓤 𝓛 𝓜 𝓡 wired =
    let c = f.clauses 𝓛 𝓜.mem 𝓡.returns in let 𝓣 = tables 𝓤 𝓛.H 𝓜 𝓡 𝓡.env in let fn = code.function in
    proved_at 𝓛 f.ended stayed c 𝓜 𝓡 (Goes-blank 𝓛 0 (plain (λ _. Pointer)) f.ended.kept.0 (λ κs x w. tt), tt) f.Key.name fn (code.unfolded 𝓤 𝓛.H 𝓜 𝓡 wired)
    (λ z are.
    let κs = z.0.0 in let qs = z.0.1 in let pointer = z.0.3.0 in
    let Post : Val → SProp 𝓤 = (walk_of 𝓛 f.ended stayed c).post z in
    let Runs : List Val → SProp 𝓤 = λ ws. WpFn 𝓤 𝓛.H 𝓣.C 𝓣.Λ fn ws Post in
    let made : Held.Denot = record { at = pointer.at; kept = Some pointer.value } in
    qed 𝓛 ((raw (alive 𝓛 f.signature κs qs) ⊛ ‵ (owns (types_at f.ended.signature.params κs) z.0.3 z.0.4)) ∷ raw ((c κs z.0.3).requires z.1) ∷ []) ∵
    split ! $ drop ! $ fsplit ! $ pointer_out ! pointer z.0.4.0 (λ h ws fits.
    let w : Val = pointer_word pointer.at h in
    suffices ! (Runs (w ∷ [])) (subst (λ (us : List Val). ent 𝓤 (Runs (w ∷ [])) (Runs us)) (sym (λ i. ws i ++ [])) (id⊢ 𝓤 (Runs (w ∷ [])))) $
    enter ! 𝓣.C 𝓣.Λ fn (w ∷ []) Post $ alloc_all ! (λ l. pass_all ! refl (pointer_typed pointer.at h fits, tt) $
    sets ! (of_opd ! (get_in ! (fld ! refl (stop !)) (sub ! 0 refl (whole-value !)))) refl (at_typed pointer.at) $
    sets ! (of_opd ! (get ! refl)) refl (at_typed pointer.at) $
    sets ! (agg ! (and_then ! (get ! refl) (no_more !))) refl (handle_typed pointer.at) $
    fpack ! Global (λ heap. box_owns (ghosts.dealloc_token heap) Stored pointer.at pointer.value) pointer.alloc $ handle_in ! made $
    use0 𝓛 (raw (fact 𝓤 (made.kept ≡ Some pointer.value))) (fact_i 𝓤 (made.kept ≡ Some pointer.value) (emp 𝓤) refl) $
    nothing ! $ nothing ! $ fjoin ! $ nothing ! $
    returns ! (look_at ! 0 refl) $ free_all ! refl $
    keep ! (0 ∷ 1 ∷ 3 ∷ 2 ∷ []) $ by ! (leaves 𝓛 f.ended stayed c z (handle_word pointer.at) made (tt, tt) (tt, tt)))))
