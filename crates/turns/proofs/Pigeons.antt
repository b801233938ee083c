-- Of so many pieces, each named once at most, no more are named.
use Rattle.std.proofs.Common.{◌≡◌, ⊎_elim, ℕ, zero, suc, ◌+◌, ◌<◌, ◌≤◌, Bool, true, false, List, [], ◌∷◌, length, refl, ap, ◌∙◌, sym, arith, zero-add, if◌then◌else◌}
use Rattle.std.specs.Prelude.{◌==◌}
use Rattle.std.specs.List.{All}
use Rattle.std.proofs.lemmas.Bool.{cases_lt, eqb-true, eq-eqb, ne_eqb, true≢false}
use Rattle.turns.specs.Views.{names_in}

-- how often the first so many pieces are named
abbrev names_below : ℕ → List (ℕ × ℕ) → ℕ
names_below zero cs = 0
names_below (suc n) cs = names_in n cs + names_below n cs

below_none : (n : ℕ) → names_below n [] ≡ 0
below_none zero = refl
below_none (suc n) = zero-add (names_below n []) ∙ below_none n

below_past : (n : ℕ) (c : ℕ × ℕ) (cs : List (ℕ × ℕ)) → n ≤ c.0 → names_below n (c ∷ cs) ≡ names_below n cs
below_past zero c cs past = refl
below_past (suc n) c cs past =
    ap (λ t. ((if t then 1 else 0) + names_in n cs) + names_below n (c ∷ cs)) (ne_eqb c.0 n (λ is. omega (arith, past, is))) ∙ ap (λ m. m + names_below n (c ∷ cs)) (zero-add (names_in n cs))
    ∙ ap (λ m. names_in n cs + m) (below_past n c cs (omega (arith, past)))

below_more : (n : ℕ) (c : ℕ × ℕ) (cs : List (ℕ × ℕ)) → c.0 < n → names_below n (c ∷ cs) ≡ suc (names_below n cs)
below_more zero c cs low = absurd (omega (arith, low))
below_more (suc n) c cs low = by (c.0 == n) refl (below_more n c cs)
  where
    by : (t : Bool) → (c.0 == n) ≡ t → (c.0 < n → names_below n (c ∷ cs) ≡ suc (names_below n cs)) → ((if t then 1 else 0) + names_in n cs) + names_below n (c ∷ cs) ≡ suc (names_in n cs + names_below n cs)
    by true is later =
        let a : ℕ = names_in n cs in let b : ℕ = names_below n (c ∷ cs) in let d : ℕ = names_below n cs in
        let same : b ≡ d = below_past n c cs (let e : c.0 ≡ n = eqb-true c.0 n is in omega arith) in omega (arith, same)
    by false is later =
        let a : ℕ = names_in n cs in let b : ℕ = names_below n (c ∷ cs) in let d : ℕ = names_below n cs in
        let low' : c.0 < n = ⊎_elim (λ (x : c.0 < n). x) (λ (x : n ≤ c.0). absurd (true≢false (sym (eq-eqb c.0 n (omega (arith, low, x))) ∙ is))) (cases_lt c.0 n) in
        let same : b ≡ suc d = later low' in omega (arith, same)

all_below : (n : ℕ) (cs : List (ℕ × ℕ)) → All (λ c. c.0 < n) cs → length cs ≡ names_below n cs
all_below n [] all = sym (below_none n)
all_below n (c ∷ cs) all = ap suc (all_below n cs (λ k d less. all (suc k) d (omega (arith, less)))) ∙ sym (below_more n c cs (all 0 c (omega arith)))

few_below : (n : ℕ) (cs : List (ℕ × ℕ)) → ((p : ℕ) → names_in p cs ≤ 1) → names_below n cs ≤ n
few_below zero cs once = omega arith
few_below (suc n) cs once = let a : ℕ = names_in n cs in let b : ℕ = names_below n cs in let one : a ≤ 1 = once n in let rest : b ≤ n = few_below n cs once in omega arith

pub no_more : (n : ℕ) (cs : List (ℕ × ℕ)) → All (λ c. c.0 < n) cs → ((p : ℕ) → names_in p cs ≤ 1) → length cs ≤ n
no_more n cs all once = let a : ℕ = length cs in let b : ℕ = names_below n cs in let same : a ≡ b = all_below n cs all in let few : b ≤ n = few_below n cs once in omega (arith, same, few)

-- and where each of them is named once, as many are
full_below : (n : ℕ) (cs : List (ℕ × ℕ)) → ((p : ℕ) → p < n → names_in p cs ≡ 1) → names_below n cs ≡ n
full_below zero cs each = refl
full_below (suc n) cs each =
    let a : ℕ = names_in n cs in let b : ℕ = names_below n cs in let one : a ≡ 1 = each n (omega arith) in
    let rest : b ≡ n = full_below n cs (λ p less. each p (omega (arith, less))) in let z : a + b ≡ suc n = omega (arith, one, rest) in z

pub as_many : (n : ℕ) (cs : List (ℕ × ℕ)) → All (λ c. c.0 < n) cs → ((p : ℕ) → p < n → names_in p cs ≡ 1) → length cs ≡ n
as_many n cs all each = all_below n cs all ∙ full_below n cs each
