-- The pointer is compared with null, and where it is not null the database is there.
use Rattle.std.proofs.Common.{◌≡◌, List, [], ◌∷◌, ◌++◌, refl, sym, subst, lit<}
use lib.Dec.{T}
use mir.Val.{Val, vcons, vnil, has_ty, WT}
use base.Logic.{SProp, ent, emp, id⊢}
use prog.Wp.{WpFn}
use types.Kit.{‵, raw, ◌⊛◌, at_ret, ◌$◌, ◌∵◌, !, qed, by, move, keep, drop, split, fsplit, fjoin, use0, use1, suffices}
use types.Run.{stop, fld, lit, of_opd, bin, no_more, and_then, first, branches, exec, returns, enter}
use types.ByLocal.{alloc_all, pass_all, free_all, look_at, get, get_in, sets, sets_last, env}
use types.Part.{agg, sub, whole as whole-value}
use types.Match.{live}
use contract.Monad.{fact, fact_i}
use contract.Running.{tables}
use denote.RattleType.{RattleType, owns}
use denote.RawPtr.{Ptr, block_ptr, null_ptr, tests_null}
use denote.Param.{layout}
use denote.Signature.{types_at, type_at, plain}
use denote.Steps.{nothing}
use denote.Triple.Entry.{alive}
use denote.Triple.Walked.{Stays, stay_dropped, Goes-dropped, walk_of}
use Rattle.std.proofs.raw_atomic.Walks.{proved_at, leaves}
use Rattle.std.proofs.alloc.Calls.{handle_tells}
use Rattle.std.proofs.alloc.Shapes.{after}
use Rattle.std.proofs.option.Made.{Some-of, none_of}
use Rattle.std_alloc.proofs.ResultValues.{and_tt}
use Rattle.std.specs.declared.option.Option.TheVariants.{None, Some}
use Rattle.std.specs.Option.{option_map}
use Rattle.std.specs.contracts.alloc.Global as heap
use Rattle.std.specs.contracts.impls.GlobalAllocator.TheImpl.{ghosts}
use Rattle.std.specs.Box.Ownership.{box_owns}
use Rattle.c_handle.specs.Held.{boxed_value}
use Rattle.c_handle.proofs.Steps.{Held, Stored, Pointer, allocator, handle_word, pointer_word, at_typed, handle_typed, pointer_typed, handle_out, pointer_in, either_held}
use Rattle.c_handle.specs.contracts.handle.Handle.into_raw_box as f
use Rattle.c_handle.proofs.handle.Handle.into_raw_box.Statement.{statement}
use Rattle.c_handle.proofs.handle.Handle.into_raw_box.Code as code

abbrev stayed : Stays f.ended.signature.params f.ended.kept
stayed = (stay_dropped (plain (λ _. Held)) f.ended.kept.0, (stay_dropped (plain (λ _. heap.the_row)) f.ended.kept.1.0, tt))

pub into_raw_box_spec : {M : Type 1} → statement M
into_raw_box_spec 𝓤 𝓛 𝓜 𝓡 wired =
    let c = f.clauses 𝓛 𝓜.mem 𝓡.returns in let 𝓣 = tables 𝓤 𝓛.H 𝓜 𝓡 𝓡.env in let fn = code.function in
    proved_at 𝓛 f.ended stayed c 𝓜 𝓡 (Goes-dropped 𝓛 0 (plain (λ _. Held)) f.ended.kept.0 (λ κs x w. refl), (Goes-dropped 𝓛 0 (plain (λ _. heap.the_row)) f.ended.kept.1.0 (λ κs x w. refl), tt)) f.Key.name fn (code.unfolded 𝓤 𝓛.H 𝓜 𝓡 wired)
    (λ z are.
    let κs = z.0.0 in let qs = z.0.1 in let handle = z.0.3.0 in let a = z.0.3.1.0 in
    let Post : Val → SProp 𝓤 = (walk_of 𝓛 f.ended stayed c).post z in
    let Runs : List Val → SProp 𝓤 = λ ws. WpFn 𝓤 𝓛.H 𝓣.C 𝓣.Λ fn ws Post in
    let Out : RattleType = type_at f.signature.result κs in
    qed 𝓛 ((raw (alive 𝓛 f.signature κs qs) ⊛ ‵ (owns (types_at f.ended.signature.params κs) z.0.3 z.0.4)) ∷ raw ((c κs z.0.3).requires z.1) ∷ []) ∵
    split ! $ drop ! $ fsplit ! $ handle_out ! handle z.0.4.0 (λ hs. move ! (1 ∷ []) $ fsplit ! $ handle_tells allocator ! a z.0.4.1.0 (λ h gs fits.
    -- [the allocator; nothing; what the handle owns]
    let Runs-at : Ptr → SProp 𝓤 = λ p. Runs (handle_word p ∷ h ∷ []) in
    move ! (2 ∷ []) $
    suffices ! (Runs-at handle.at) (subst (λ (us : List Val). ent 𝓤 (Runs-at handle.at) (Runs us)) (sym (λ i. hs i ++ (gs i ++ []))) (id⊢ 𝓤 (Runs-at handle.at))) $
    either_held ! handle.at handle.kept
    (λ is_none is_null.
    suffices ! (Runs-at null_ptr) (subst (λ (p : Ptr). ent 𝓤 (Runs-at null_ptr) (Runs-at p)) (sym is_null) (id⊢ 𝓤 (Runs-at null_ptr))) $
    enter ! 𝓣.C 𝓣.Λ fn (handle_word null_ptr ∷ h ∷ []) Post $ alloc_all ! (λ l. let Locals = env fn.locals l in pass_all ! refl (handle_typed null_ptr, (fits, tt)) $
    sets ! (of_opd ! (get_in ! (fld ! refl (stop !)) (sub ! 0 refl (whole-value !)))) refl (at_typed null_ptr) $
    sets ! (bin ! (get ! refl) (lit ! tt) tt) refl (tt, tt) $ first ! $ branches ! (get ! refl)
    (λ _. sets_last ! (agg ! (and_then ! (lit ! tt) (no_more !))) refl (tt, (record { fits = lit< tt }, tt)) $
    exec ! 𝓣.C 𝓣.Λ Locals (after 3 fn.body) (at_ret Locals Post) $ sets ! (of_opd ! (get ! refl)) refl (tt, (record { fits = lit< tt }, tt)) $
    use0 𝓛 (‵ (Out.own_val None (live 0 vnil ∷ []))) (none_of 𝓛 Pointer) $
    use0 𝓛 (raw (fact 𝓤 (option_map boxed_value None ≡ handle.kept))) (fact_i 𝓤 (option_map boxed_value None ≡ handle.kept) (emp 𝓤) (sym is_none)) $
    nothing ! $ nothing ! $ fjoin ! $ nothing ! $ fjoin ! $ nothing ! $
    returns ! (look_at ! 0 refl) $ free_all ! refl $
    keep ! (0 ∷ 1 ∷ 3 ∷ 2 ∷ []) $ by ! (leaves 𝓛 f.ended stayed c z (live 0 vnil) None (tt, (tt, tt)) (tt, (tt, tt))))
    (λ wrong. absurd wrong)))
    (λ b o heap x is_some is_block may_test.
    let p : Ptr = block_ptr b o in let made : Pointer.Denot = record { at = p; alloc = a; value = x } in let v : Val = live 1 (vcons (pointer_word p h) vnil) in
    let typed = pointer_typed p h fits in
    let out_typed : T (has_ty (layout Out) v) × WT v = (and_tt _ typed.0, (record { fits = lit< tt }, (typed.1, tt))) in
    suffices ! (Runs-at p) (subst (λ (q : Ptr). ent 𝓤 (Runs-at p) (Runs-at q)) (sym is_block) (id⊢ 𝓤 (Runs-at p))) $
    enter ! 𝓣.C 𝓣.Λ fn (handle_word p ∷ h ∷ []) Post $ alloc_all ! (λ l. let Locals = env fn.locals l in pass_all ! refl (handle_typed p, (fits, tt)) $
    sets ! (of_opd ! (get_in ! (fld ! refl (stop !)) (sub ! 0 refl (whole-value !)))) refl (at_typed p) $
    sets ! (bin ! (get ! refl) (lit ! tt) (tests_null p may_test)) refl (tt, tt) $ first ! $ branches ! (get ! refl)
    (λ wrong. absurd wrong)
    (λ _. sets ! (of_opd ! (get ! refl)) refl (at_typed p) $
    sets ! (agg ! (and_then ! (get ! refl) (and_then ! (get ! refl) (no_more !)))) refl typed $
    sets_last ! (agg ! (and_then ! (lit ! tt) (and_then ! (get ! refl) (no_more !)))) refl out_typed $
    exec ! 𝓣.C 𝓣.Λ Locals (after 3 fn.body) (at_ret Locals Post) $ sets ! (of_opd ! (get ! refl)) refl out_typed $
    use1 𝓛 (‵ (box_owns (ghosts.dealloc_token a) Stored p x)) (id⊢ 𝓤 _) $ pointer_in ! h made $
    use1 𝓛 (‵ (Out.own_val (Some made) (v ∷ []))) (Some-of 𝓛 Pointer made (pointer_word p h)) $
    use0 𝓛 (raw (fact 𝓤 (option_map boxed_value (Some made) ≡ handle.kept))) (fact_i 𝓤 (option_map boxed_value (Some made) ≡ handle.kept) (emp 𝓤) (sym is_some)) $
    nothing ! $ nothing ! $ fjoin ! $ nothing ! $ fjoin ! $ nothing ! $
    returns ! (look_at ! 0 refl) $ free_all ! refl $
    keep ! (0 ∷ 1 ∷ 3 ∷ 2 ∷ []) $ by ! (leaves 𝓛 f.ended stayed c z v (Some made) (tt, (tt, tt)) (tt, (tt, tt)))))))))
