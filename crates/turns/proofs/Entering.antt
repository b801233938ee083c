-- A seat comes that has no piece; and a load tells a seat that it has none twice.
use Rattle.std.proofs.Common.{◌≡◌, ⊎_elim, ℕ, ◌+◌, ◌≤◌, [], ◌∷◌, ◌++◌, set, refl, ap, ◌∙◌, sym, subst, arith}
use Rattle.std.specs.List.{All}
use Rattle.std.proofs.lemmas.List.{set-get_or}
use Rattle.atomic_table.specs.Table.{Me, Allows, Enters}
use Rattle.atomic_table.specs.Table as table
use Rattle.atomic_table.proofs.Lists.{at_snoc, set_again}
use Rattle.turns.specs.Views.{names_in, counted, named, first_view, entered, HasOnce}
use Rattle.turns.specs.Rules.{Holds}
use Rattle.turns.specs.Tables.{Ruled}
use Rattle.turns.specs.declared.view.Opening.{Opening}
use Rattle.turns.specs.declared.view.View.{View}
use Rattle.turns.proofs.Moves.{words_same, still}
use Rattle.turns.proofs.Sums.{counted_append, named_append, within}

pub enters : (o : Opening) (slots i : ℕ) → Enters {S = Unit {0}} (Ruled o) slots i (λ n w. w ≡ entered (first_view o))
enters o slots i s h homes bound =
    let vs = s.views in
    let new : View = entered (first_view o) in
    let counts : (p : ℕ) → counted (vs ++ new ∷ []) p ≡ counted vs p = λ p. counted_append p vs new ∙ (let a : ℕ = counted vs p in let z : a + 0 ≡ a = omega arith in z) in (
      new,
      record {
        words_are = h.words_are ∙ sym (words_same o (counted vs) (counted (vs ++ new ∷ [])) counts);
        once = λ p. let a : ℕ = named (vs ++ new ∷ []) p in let b : ℕ = named vs p in let e : a ≡ b + 0 = named_append p vs new in let one : b ≤ 1 = h.once p in omega (arith, e, one);
        each = λ p less. let a : ℕ = named (vs ++ new ∷ []) p in let b : ℕ = named vs p in let e : a ≡ b + 0 = named_append p vs new in let one : b ≡ 1 = h.each p less in omega (arith, e, one);
        same = λ j u there alive. ⊎_elim (λ was. h.same j u was alive) (λ (x : new ≡ u). ap (λ (y : View). y.opening) (sym x)) (at_snoc vs new u j there);
        noted =
            λ j u there.
            ⊎_elim
            (λ was. still (counted vs) (counted (vs ++ new ∷ [])) u.notes (λ p. let a : ℕ = counted vs p in let b : ℕ = counted (vs ++ new ∷ []) p in let e : b ≡ a = counts p in omega arith) (h.noted j u was))
            (λ (x : new ≡ u). subst (λ (y : View). All (λ n. n.1 ≤ counted (vs ++ new ∷ []) n.0) y.notes) x (λ k d less. absurd (omega (arith, less))))
            (at_snoc vs new u j there);
      },
      refl,
    )

-- a load tells a seat that it has no piece twice
pub tells_once : (o : Opening) (slots id i : ℕ) (me : Me (Unit {0}) View) → Allows (Ruled o) slots id me i (λ n. n) (λ found after. (after ≡ me) × HasOnce me.0)
tells_once o slots id i me s h homes at bound = (
  me.0,
  table.keeps,
  tt,
  subst (λ ws. Holds o ws (set s.views id me.0)) (sym (set-get_or s.words i 0)) (subst (Holds o s.words) (sym (set_again s.views id me.0 at)) h),
  (refl, λ p. let a : ℕ = names_in p me.0.counts in let b : ℕ = named s.views p in let inside : a ≤ b = within p s.views id me.0 at in let one : b ≤ 1 = h.once p in omega arith),
)
