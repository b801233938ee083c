-- What a handle and the pointer of a box own, by the step. Assumes `Logic`.
use Rattle.std.proofs.Common.{◌≡◌, ℕ, List, [], ◌∷◌, ◌++◌, refl, subst, lit<}
use seplogic.Ra.Ura.{Ura}
use lib.Dec.{T}
use mir.Syntax.{impl, tnil, dnil}
use mir.Raw.{raw as bare}
use mir.Val.{Val, vstruct, vcons, vnil, of_list, has_ty, WT}
use base.Logic.{ent, via, guard_i, guard, snd∗, fst∗, never}
use base.Fraction.{full_share}
use base.Fml.{Fml}
use types.Logic.{Logic, sem}
use types.Kit.{Item, Goal, Seq, Step, step, given, ‵, ◌$◌, move, drop, use1, learn, fsplit, fjoin, fpick, fpack, feq_i, feq_l}
use contract.Monad.{fact_use}
use denote.RattleType.{RattleType, Valss}
use denote.Builtin.{RawPtr}
use denote.Memory.{lone}
use denote.RawPtr.{Ptr, block_ptr, null_ptr, ptr_val, in_a_block, lies_at, Testable}
use denote.Steps.{nothing}
use denote.Param.{layout}
use denote.Struct.Struct.{within}
use denote.Struct.Owning.{shape}
use Rattle.std_alloc.proofs.ResultValues.{and_tt}
use Rattle.std.proofs.alloc.Calls.{Al, Fits, handle_tells}
use Rattle.std.proofs.GlobalToken.{dealloc_token-Testable}
use Rattle.std.proofs.alloc.Global.TheLaws as heap_laws
use Rattle.std.specs.contracts.alloc.Global as heap
use Rattle.std.specs.contracts.impls.GlobalAllocator.TheImpl.{ghosts}
use Rattle.std.specs.declared.alloc.Global.{Global}
use Rattle.std.specs.declared.option.Option.{Option}
use Rattle.std.specs.declared.option.Option.TheVariants.{None, Some}
use Rattle.std.specs.Box.Ownership.{box_owns}
use Rattle.c_handle.specs.contracts.kept.Kept as kept
use Rattle.c_handle.specs.contracts.raw_box.RawBox as raw_box
use Rattle.c_handle.specs.Owned.{owned_at}
use Rattle.c_handle.specs.contracts.handle.Handle as handle

abbrev pub Held : RattleType
Held = handle.the_row

abbrev pub Stored : RattleType
Stored = kept.the_row

abbrev pub Pointer : RattleType
Pointer = raw_box.the_row Stored heap.the_row ghosts

-- the machine values of a handle, and of the pointer of a box with its allocator
abbrev pub handle_word : Ptr → Val
handle_word p = vstruct (vcons (ptr_val p) vnil)

abbrev pub pointer_word : Ptr → Val → Val
pointer_word p h = vstruct (vcons (ptr_val p) (vcons h vnil))

abbrev pub allocator : Al
allocator = record { row = heap.the_row; laws = heap_laws.the_row_laws; g = ghosts; d = impl [] tnil dnil; drops = impl [] tnil dnil }

pub at_typed : (p : Ptr) → T (has_ty (layout RawPtr) (ptr_val p)) × WT (ptr_val p)
at_typed null_ptr = (tt, record { fits = lit< tt })
at_typed (block_ptr b o) = (tt, tt)

pub handle_typed : (p : Ptr) → T (has_ty (layout Held) (handle_word p)) × WT (handle_word p)
handle_typed null_ptr = (tt, (record { fits = lit< tt }, tt))
handle_typed (block_ptr b o) = (tt, (tt, tt))

pub pointer_typed : (p : Ptr) (h : Val) → Fits allocator h → T (has_ty (layout Pointer) (pointer_word p h)) × WT (pointer_word p h)
pointer_typed null_ptr h fits = (and_tt (has_ty (layout heap.the_row) h) fits.0, (record { fits = lit< tt }, (fits.1, tt)))
pointer_typed (block_ptr b o) h fits = (and_tt (has_ty (layout heap.the_row) h) fits.0, (tt, (fits.1, tt)))

module _ {M : Type 1} {𝓤 : Ura M} {𝓛 : Logic 𝓤} {K : Type 0} {Γ : List (Item 𝓤)} {G : Goal 𝓤 𝓛.H} where
  pub handle_in : K → (d : Held.Denot) → Step K 𝓛 (‵ (Held.own_val d (handle_word d.at ∷ [])) ∷ Γ) G (‵ (owned_at Stored d.at d.kept) ∷ Γ) G
  handle_in t d = step (λ s. let w : Val = handle_word d.at in
      nothing t $ feq_i t (List Val) (ptr_val d.at ∷ []) (ptr_val d.at ∷ []) refl $ fjoin t $ feq_i t (List Val) (w ∷ []) (w ∷ []) refl $ fjoin t $
      fpack t (Valss (RawPtr ∷ [])) (within (shape handle.the_type) (d.at, tt) (w ∷ [])) (ptr_val d.at ∷ [], tt) $ fjoin t $ s)

  pub handle_out : K → (d : Held.Denot) (vs : List Val) → (vs ≡ handle_word d.at ∷ [] → Seq K 𝓛 (‵ (owned_at Stored d.at d.kept) ∷ Γ) G) → Seq K 𝓛 (‵ (Held.own_val d vs) ∷ Γ) G
  handle_out t d vs k =
      fsplit t $ fpick t (λ vss. fsplit t $ feq_l t (λ word_is. fsplit t $ feq_l t (λ at_is. drop t $
      k (subst (λ (ps : List Val). vs ≡ vstruct (of_list (ps ++ [])) ∷ []) at_is word_is))))

  pub pointer_in : K → (h : Val) (d : Pointer.Denot)
      → Step K 𝓛 (‵ (Pointer.own_val d (pointer_word d.at h ∷ [])) ∷ Γ) G (‵ (box_owns (ghosts.dealloc_token d.alloc) Stored d.at d.value) ∷ ‵ (heap.the_row.own_val d.alloc (h ∷ [])) ∷ Γ) G
  pointer_in t h d = step (λ s. let w : Val = pointer_word d.at h in
      nothing t $ move t (2 ∷ 0 ∷ []) $ fjoin t $ feq_i t (List Val) (ptr_val d.at ∷ []) (ptr_val d.at ∷ []) refl $ fjoin t $ feq_i t (List Val) (w ∷ []) (w ∷ []) refl $ fjoin t $
      fpack t (Valss (RawPtr ∷ heap.the_row ∷ [])) (within (shape (raw_box.the_type Stored heap.the_row ghosts)) (d.at, (d.alloc, tt)) (w ∷ [])) (ptr_val d.at ∷ [], (h ∷ [], tt)) $ fjoin t $ s)

  pub pointer_out : K → (d : Pointer.Denot) (vs : List Val)
      → ((h : Val) → vs ≡ pointer_word d.at h ∷ [] → Fits allocator h → Seq K 𝓛 (‵ (box_owns (ghosts.dealloc_token d.alloc) Stored d.at d.value) ∷ Γ) G)
      → Seq K 𝓛 (‵ (Pointer.own_val d vs) ∷ Γ) G
  pointer_out t d vs k =
      fsplit t $ fpick t (λ vss. fsplit t $ feq_l t (λ word_is. fsplit t $ feq_l t (λ at_is. fsplit t $ handle_tells allocator t d.alloc vss.1.0 (λ h alloc_is fits. drop t $ drop t $
      k h (subst (λ (ws : List Val). vs ≡ vstruct (of_list (ptr_val d.at ∷ (ws ++ []))) ∷ []) alloc_is
      (subst (λ (ps : List Val). vs ≡ vstruct (of_list (ps ++ (vss.1.0 ++ []))) ∷ []) at_is word_is)) fits))))

module _ {M : Type 1} {𝓤 : Ura M} (𝓛 : Logic 𝓤) (a : Global) (p : Ptr) (x : Stored.Denot) where
  abbrev Owned : Fml
  Owned = box_owns (ghosts.dealloc_token a) Stored p x

  pub tested : ent 𝓤 (sem 𝓛 Owned) (guard 𝓤 (Testable p) (sem 𝓛 Owned))
  tested = fact_use 𝓤 (Testable p)
      (via 𝓤 (sem 𝓛 (ghosts.dealloc_token a (bare (lone Stored.mir)) p)) (snd∗ 𝓤 (sem 𝓛 (lies_at Stored full_share p x)) (sem 𝓛 (ghosts.dealloc_token a (bare (lone Stored.mir)) p))) (dealloc_token-Testable 𝓛 a (bare (lone Stored.mir)) p))
      (guard_i 𝓤 (Testable p) (sem 𝓛 Owned))

module _ {M : Type 1} {𝓤 : Ura M} {𝓛 : Logic 𝓤} {K : Type 0} {Γ : List (Item 𝓤)} {G : Goal 𝓤 𝓛.H} where
  -- a handle holds nothing at null, or a database at a pointer that may be compared with null
  pub either_held : K → (p : Ptr) (held : Option Stored.Denot)
      → (held ≡ None → p ≡ null_ptr → Seq K 𝓛 Γ G)
      → ((b o : ℕ) (a : Global) (x : Stored.Denot) → held ≡ Some x → p ≡ block_ptr b o → Testable (block_ptr b o) → Seq K 𝓛 (‵ (box_owns (ghosts.dealloc_token a) Stored (block_ptr b o) x) ∷ Γ) G)
      → Seq K 𝓛 (‵ (owned_at Stored p held) ∷ Γ) G
  either_held t p None none one = fpick t (λ is_null. drop t $ none refl is_null)
  either_held t p (Some x) none one = fpick t (λ a.
      in_a_block t p (λ q. box_owns (ghosts.dealloc_token a) Stored q x) (fst∗ 𝓤 (never 𝓤) (sem 𝓛 (ghosts.dealloc_token a (bare (lone Stored.mir)) null_ptr))) (λ b o is_block.
      use1 𝓛 (given (Testable (block_ptr b o)) (‵ (box_owns (ghosts.dealloc_token a) Stored (block_ptr b o) x))) (tested 𝓛 a (block_ptr b o) x) $ learn t (λ may_test.
      one b o a x refl is_block may_test)))
