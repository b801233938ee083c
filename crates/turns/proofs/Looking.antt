-- Looks keep the rule, and so does the dealing of a seat that only knows.
use Rattle.std.proofs.Common.{◌≡◌, ◌≢◌, ⊎_elim, ℕ, zero, suc, ◌+◌, ◌<◌, ◌≤◌, Bool, true, false, List, [], ◌∷◌, ◌++◌, length, map, max, set, get_or, Some, refl, ap, ◌∙◌, sym, subst, arith, if◌then◌else◌}
use Rattle.std.specs.Prelude.{◌==◌, slice_get}
use Rattle.std.specs.List.{range_with_len}
use Rattle.std.proofs.Math.Nat.{le-max_left, le-max_right, max-le}
use Rattle.std.proofs.lemmas.Bool.{cases_lt, eq-eqb, eqb-true, true≢false}
use Rattle.std.proofs.lemmas.List.{set-get_or}
use Rattle.std.proofs.lemmas.List.Elements.{All-append}
use mathlib.Core.Option.{some, some-ne-none, some-injective}
use lib.ListN.{get_elem?}
use Rattle.atomic_table.specs.Table.{Allows, Splits}
use Rattle.atomic_table.specs.Table as table
use Rattle.atomic_table.proofs.Lists.{at_set, at_snoc, set_again}
use Rattle.turns.specs.Views.{count_in, names_in, counted, named, AtLeast, told}
use Rattle.turns.specs.Rules.{word_in, Holds, IsSeen, IsLooked}
use Rattle.turns.specs.Tables.{Ruled}
use Rattle.turns.specs.declared.view.Opening.{Opening}
use Rattle.turns.specs.declared.view.View.{View}
use Rattle.turns.proofs.Moves.{words_same, still}
use Rattle.turns.proofs.Sums.{only_here, counted_set, named_set, counted_append, named_append}
use Rattle.turns.proofs.Raising.{map_here}

-- ---- notes

-- so many pieces, with as many steps done as these counts say
abbrev counts_of_all : ℕ → (ℕ → ℕ) → List (ℕ × ℕ)
counts_of_all n counts = map (λ p. (p, counts p)) (range_with_len 0 n)

-- what all seats count may be noted
known_from : (counts : ℕ → ℕ) (q n : ℕ) → AtLeast (map (λ p. (p, counts p)) (range_with_len q n)) counts
known_from counts q zero k d less = absurd (omega (arith, less))
known_from counts q (suc n) zero d less = let a : ℕ = counts q in omega arith
known_from counts q (suc n) (suc k) d less = known_from counts (q + 1) n k d (omega (arith, less))

known : (counts : ℕ → ℕ) (n : ℕ) → AtLeast (counts_of_all n counts) counts
known counts n = known_from counts 0 n

-- and then no fewer are done of each piece
noted_at : (counts more : ℕ → ℕ) (q n : ℕ) → AtLeast (map (λ p. (p, counts p)) (range_with_len q n)) more → (p : ℕ) → q ≤ p → p < q + n → counts p ≤ more p
noted_at counts more q zero all p low high = absurd (omega (arith, low, high))
noted_at counts more q (suc n) all p low high = by (q == p) refl (noted_at counts more (q + 1) n (λ k d less. all (suc k) d (omega (arith, less))) p)
  where
    by : (t : Bool) → (q == p) ≡ t → (q + 1 ≤ p → p < q + 1 + n → counts p ≤ more p) → counts p ≤ more p
    by true is later = let same : q ≡ p = eqb-true q p is in subst (λ r. counts r ≤ more r) same (all 0 (q, 0) (omega arith))
    by false is later =
        later (⊎_elim (λ (x : q < p). let y : q + 1 ≤ p = omega (arith, x) in y) (λ (x : p ≤ q). absurd (true≢false (sym (eq-eqb q p (omega (arith, x, low))) ∙ is))) (cases_lt q p)) (omega (arith, high))

noted_all : (counts more : ℕ → ℕ) (n : ℕ) → AtLeast (counts_of_all n counts) more → (p : ℕ) → p < n → counts p ≤ more p
noted_all counts more n all p less = noted_at counts more 0 n all p (omega arith) (omega (arith, less))

-- notes in two parts
pub notes_first : (xs ys : List (ℕ × ℕ)) (counts : ℕ → ℕ) → AtLeast (xs ++ ys) counts → AtLeast xs counts
notes_first [] ys counts all k d less = absurd (omega (arith, less))
notes_first (x ∷ xs) ys counts all zero d less = all 0 d (omega arith)
notes_first (x ∷ xs) ys counts all (suc k) d less = notes_first xs ys counts (λ j e low. all (suc j) e (omega (arith, low))) k d (omega (arith, less))

pub notes_second : (xs ys : List (ℕ × ℕ)) (counts : ℕ → ℕ) → AtLeast (xs ++ ys) counts → AtLeast ys counts
notes_second [] ys counts all = all
notes_second (x ∷ xs) ys counts all = notes_second xs ys counts (λ j e low. all (suc j) e (omega (arith, low)))

-- what a seat counts, all count
own_count : (p : ℕ) (vs : List View) (k : ℕ) (v : View) → get_elem? vs k ≡ some v → count_in p v.counts ≤ counted vs p
own_count p [] k v at = absurd (some-ne-none v (sym at))
own_count p (u ∷ vs) zero v at =
    let a : ℕ = count_in p u.counts in let b : ℕ = counted vs p in let c : ℕ = count_in p v.counts in let same : a ≡ c = ap (λ (x : View). count_in p x.counts) (some-injective u v at) in omega arith
own_count p (u ∷ vs) (suc k) v at = let a : ℕ = count_in p u.counts in let b : ℕ = counted vs p in let c : ℕ = count_in p v.counts in let m : c ≤ b = own_count p vs k v at in omega arith

own_counts : (cs : List (ℕ × ℕ)) (counts : ℕ → ℕ) → ((p : ℕ) → count_in p cs ≤ counts p) → AtLeast cs counts
own_counts [] counts few k d less = absurd (omega (arith, less))
own_counts (c ∷ cs) counts few zero d less =
    let n : ℕ = c.1 in let a : ℕ = if c.0 == c.0 then c.1 else 0 in let a' : a ≡ n = ap (λ t. if t then c.1 else 0) (eq-eqb c.0 c.0 refl) in
    let b : ℕ = count_in c.0 cs in let m : ℕ = counts c.0 in let all : a + b ≤ m = few c.0 in omega (arith, a', all)
own_counts (c ∷ cs) counts few (suc k) d less =
    own_counts cs counts (λ p. let a : ℕ = if c.0 == p then c.1 else 0 in let b : ℕ = count_in p cs in let m : ℕ = counts p in let all : a + b ≤ m = few p in omega (arith, all)) k d (omega (arith, less))

-- ---- a seat knows more

-- a seat whose counts stay notes what is so
pub renoted : (o : Opening) (words : List ℕ) (vs : List View) (k : ℕ) (v : View) (notes : List (ℕ × ℕ)) → Holds o words vs → get_elem? vs k ≡ some v → AtLeast notes (counted vs) → Holds o words (set vs k (record v { notes = notes }))
renoted o words vs k v notes h at so = record {
  words_are = h.words_are ∙ sym (words_same o (counted vs) (counted (set vs k w)) counts);
  once =
      λ p.
      let a : ℕ = named (set vs k w) p in let b : ℕ = named vs p in let x : ℕ = names_in p v.counts in
      let sums : a + x ≡ b + x = named_set p vs k v w at in let one : b ≤ 1 = h.once p in omega (arith, sums, one);
  each =
      λ p less.
      let a : ℕ = named (set vs k w) p in let b : ℕ = named vs p in let x : ℕ = names_in p v.counts in
      let sums : a + x ≡ b + x = named_set p vs k v w at in let one : b ≡ 1 = h.each p less in omega (arith, sums, one);
  same =
      λ j u there alive.
      ⊎_elim
      (λ (x : (j ≡ k) × (w ≡ u)). subst (λ (y : View). y.live ≡ true → y.opening ≡ o) x.1 (λ live. h.same k v at live) alive)
      (λ (x : (j ≢ k) × (get_elem? vs j ≡ some u)). h.same j u x.1 alive)
      (at_set vs k j w u there);
  noted =
      λ j u there.
      ⊎_elim
      (λ (x : (j ≡ k) × (w ≡ u)). subst (λ (y : View). AtLeast y.notes (counted (set vs k w))) x.1 (keep notes so))
      (λ (x : (j ≢ k) × (get_elem? vs j ≡ some u)). keep u.notes (h.noted j u x.1))
      (at_set vs k j w u there);
}
  where
    w : View
    w = record v { notes = notes }

    counts : (p : ℕ) → counted (set vs k (record v { notes = notes })) p ≡ counted vs p
    counts p =
        let a : ℕ = counted (set vs k (record v { notes = notes })) p in let b : ℕ = counted vs p in let x : ℕ = count_in p v.counts in
        let sums : a + x ≡ b + x = counted_set p vs k v (record v { notes = notes }) at in omega (arith, sums)

    keep : (ns : List (ℕ × ℕ)) → AtLeast ns (counted vs) → AtLeast ns (counted (set vs k (record v { notes = notes })))
    keep ns all = still (counted vs) (counted (set vs k (record v { notes = notes }))) ns (λ p. let a : ℕ = counted vs p in let b : ℕ = counted (set vs k (record v { notes = notes })) p in let e : b ≡ a = counts p in omega (arith, e)) all

-- a seat that counts nothing comes, and what it notes is so
pub comes : (o : Opening) (words : List ℕ) (vs : List View) (w : View) → Holds o words vs → w.counts ≡ [] → (w.live ≡ true → w.opening ≡ o) → AtLeast w.notes (counted vs) → Holds o words (vs ++ w ∷ [])
comes o words vs w h none of so = record {
  words_are = h.words_are ∙ sym (words_same o (counted vs) (counted (vs ++ w ∷ [])) counts);
  once =
      λ p.
      let a : ℕ = named (vs ++ w ∷ []) p in let b : ℕ = named vs p in let x : ℕ = names_in p w.counts in
      let e : a ≡ b + x = named_append p vs w in let x0 : x ≡ 0 = ap (names_in p) none in let one : b ≤ 1 = h.once p in omega (arith, e, x0, one);
  each =
      λ p less.
      let a : ℕ = named (vs ++ w ∷ []) p in let b : ℕ = named vs p in let x : ℕ = names_in p w.counts in
      let e : a ≡ b + x = named_append p vs w in let x0 : x ≡ 0 = ap (names_in p) none in let one : b ≡ 1 = h.each p less in omega (arith, e, x0, one);
  same = λ j u there alive. ⊎_elim (λ was. h.same j u was alive) (λ (x : w ≡ u). subst (λ (y : View). y.live ≡ true → y.opening ≡ o) x of alive) (at_snoc vs w u j there);
  noted =
      λ j u there.
      ⊎_elim (λ was. keep u.notes (h.noted j u was)) (λ (x : w ≡ u). subst (λ (y : View). AtLeast y.notes (counted (vs ++ w ∷ []))) x (keep w.notes so)) (at_snoc vs w u j there);
}
  where
    counts : (p : ℕ) → counted (vs ++ w ∷ []) p ≡ counted vs p
    counts p =
        let a : ℕ = counted (vs ++ w ∷ []) p in let b : ℕ = counted vs p in let x : ℕ = count_in p w.counts in
        let e : a ≡ b + x = counted_append p vs w in let x0 : x ≡ 0 = ap (count_in p) none in omega (arith, e, x0)

    keep : (ns : List (ℕ × ℕ)) → AtLeast ns (counted vs) → AtLeast ns (counted (vs ++ w ∷ []))
    keep ns all = still (counted vs) (counted (vs ++ w ∷ [])) ns (λ p. let a : ℕ = counted vs p in let b : ℕ = counted (vs ++ w ∷ []) p in let e : b ≡ a = counts p in omega (arith, e)) all

-- ---- a look

-- a seat that looked when so many steps of each piece were done
abbrev looked : View → (ℕ → ℕ) → View
looked v counts = record v { notes = v.notes ++ counts_of_all (length v.opening.pieces) counts }

pub looks : (o : Opening) (slots id : ℕ) (v : View) (held : List (ℕ × Unit {0})) (j i : ℕ) → v.opening ≡ o → slice_get o.indexes j ≡ Some i
    → Allows (Ruled o) slots id (v, held) j (λ n. n) (λ found after. (after.1 ≡ held) × IsLooked i v found after.0)
looks o slots id v held j i of there s h homes at bound =
    let counts : ℕ → ℕ = counted s.views in
    let n : ℕ = length v.opening.pieces in
    let notes : List (ℕ × ℕ) = v.notes ++ counts_of_all n counts in
    let so : AtLeast notes counts = All-append (λ (m : ℕ × ℕ). m.1 ≤ counts m.0) v.notes (counts_of_all n counts) (h.noted id v at) (known counts n) in (
      looked v counts,
      table.keeps,
      tt,
      subst (λ ws. Holds o ws (set s.views id (looked v counts))) (sym (set-get_or s.words j 0)) (renoted o s.words s.views id v notes h at so),
      (
        refl,
        record {
          counts = counts;
          no_earlier = h.noted id v at;
          found = ap (λ ws. get_or ws j 0) h.words_are ∙ map_here (word_in o counts) o.indexes j i there ∙ ap (λ p. word_in p counts i) (sym of);
          noted = λ p less more all. noted_all counts more n (notes_second v.notes (counts_of_all n counts) more all) p less;
          kept = λ more all. notes_first v.notes (counts_of_all n counts) more all;
          view = refl;
        },
      ),
    )

-- one of which the seat notes nothing
pub sees : (o : Opening) (slots id : ℕ) (v : View) (held : List (ℕ × Unit {0})) (j i : ℕ) → v.opening ≡ o → slice_get o.indexes j ≡ Some i
    → Allows (Ruled o) slots id (v, held) j (λ n. n) (λ found after. (after ≡ (v, held)) × IsSeen i v found)
sees o slots id v held j i of there s h homes at bound = (
  v,
  table.keeps,
  tt,
  subst (λ ws. Holds o ws (set s.views id v)) (sym (set-get_or s.words j 0)) (subst (Holds o s.words) (sym (set_again s.views id v at)) h),
  (
    refl,
    record {
      counts = counted s.views;
      agree = λ p some. only_here p s.views id v at (h.once p) some;
      found = ap (λ ws. get_or ws j 0) h.words_are ∙ map_here (word_in o (counted s.views)) o.indexes j i there ∙ ap (λ p. word_in p (counted s.views) i) (sym of);
    },
  ),
)

-- ---- no look is needed to know of a moment

-- the fewest steps of a piece that notes tell of
abbrev pub fewest : List (ℕ × ℕ) → ℕ → ℕ
fewest [] p = 0
fewest (n ∷ ns) p = max (if n.0 == p then n.1 else 0) (fewest ns p)

pub fewest_noted : (ns : List (ℕ × ℕ)) → AtLeast ns (fewest ns)
fewest_noted [] k d less = absurd (omega (arith, less))
fewest_noted (n ∷ ns) zero d less = subst (λ t. n.1 ≤ max (if t then n.1 else 0) (fewest ns n.0)) (sym (eq-eqb n.0 n.0 refl)) (le-max_left n.1 (fewest ns n.0))
fewest_noted (n ∷ ns) (suc k) d less =
    let m : ℕ × ℕ = get_or ns k d in
    let a : ℕ = m.1 in let b : ℕ = fewest ns m.0 in let c : ℕ = if n.0 == m.0 then n.1 else 0 in let e : ℕ = max c b in
    let low : a ≤ b = fewest_noted ns k d (omega (arith, less)) in let high : b ≤ e = le-max_right c b in
    let all : a ≤ e = omega (arith, low, high) in all

pub fewest_of : (ns : List (ℕ × ℕ)) (more : ℕ → ℕ) → AtLeast ns more → (p : ℕ) → fewest ns p ≤ more p
fewest_of [] more all p = omega arith
fewest_of (n ∷ ns) more all p = max-le (by (n.0 == p) refl) (fewest_of ns more (λ k d less. all (suc k) d (omega (arith, less))) p)
  where
    by : (t : Bool) → (n.0 == p) ≡ t → (if t then n.1 else 0) ≤ more p
    by true is = subst (λ q. n.1 ≤ more q) (eqb-true n.0 p is) (all 0 n (omega arith))
    by false is = omega arith

-- ---- a seat is dealt that only knows

pub tells : (o : Opening) (id : ℕ) (v : View) → Splits {S = Unit {0}} (Ruled o) id v v (told v)
tells o id v s h at =
    subst (λ vs. Holds o s.words (vs ++ told v ∷ [])) (sym (set_again s.views id v at))
    (comes o s.words s.views (told v) h refl (λ live. h.same id v at live)
    (All-append (λ (n : ℕ × ℕ). n.1 ≤ counted s.views n.0) v.notes v.counts (h.noted id v at) (own_counts v.counts (counted s.views) (λ p. own_count p s.views id v at))))
