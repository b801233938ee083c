-- The moves of seats keep the rule.
use Rattle.std.proofs.Common.{◌≡◌, ◌≢◌, ◌⊎◌, ⊎_elim, ℕ, suc, ◌+◌, ◌<◌, ◌≤◌, Bool, true, false, List, [], ◌∷◌, ◌++◌, length, set, get_or, Some, refl, ap, ◌∙◌, sym, subst, arith, if◌then◌else◌}
use Rattle.std.specs.Prelude.{◌==◌, slice_get}
use Rattle.std.specs.List.{All}
use Rattle.std.proofs.lemmas.Bool.{eq-eqb, ne_eqb, true≢false}
use Rattle.std.proofs.lemmas.List.Elements.{All-append}
use mathlib.Core.Option.{some}
use lib.ListN.{get_elem?}
use Rattle.atomic_table.specs.Table.{State, Allows, Splits, Joins}
use Rattle.atomic_table.specs.Table as table
use Rattle.atomic_table.proofs.Lists.{at_set, at_snoc}
use Rattle.pieces.specs.Effects.{Effect}
use Rattle.turns.specs.Views.{count_in, names_in, counted, named, one_more, first_of, behind_first, raised, first_only, others_of, joined, spent}
use Rattle.turns.specs.Rules.{word_in, words_in, IsOpening, Holds, index_of, made, next_step, IsNext, IsMade}
use Rattle.turns.specs.Tables.{Ruled}
use Rattle.turns.specs.declared.view.Opening.{Opening}
use Rattle.turns.specs.declared.view.View.{View}
use Rattle.turns.proofs.Sums.{count_append, names_append, unnamed, counted_set, named_set, counted_append, named_append, within, only_here}
use Rattle.turns.proofs.Raising.{map_here, IsFirst, first_step, words_raised}

-- counts that are the same number by number make the same words
pub words_same : (o : Opening) (counts more : ℕ → ℕ) → ((p : ℕ) → more p ≡ counts p) → words_in o more ≡ words_in o counts
words_same o counts more same = ap (words_in o) (λ i p. same p i)

-- what was noted of counts that only grew
pub still : (counts more : ℕ → ℕ) (notes : List (ℕ × ℕ)) → ((p : ℕ) → counts p ≤ more p) → All (λ n. n.1 ≤ counts n.0) notes → All (λ n. n.1 ≤ more n.0) notes
still counts more notes grown all = λ k d less. let n : ℕ × ℕ = get_or notes k d in let a : ℕ = n.1 in let b : ℕ = counts n.0 in let c : ℕ = more n.0 in
    let before : a ≤ b = all k d less in let after : b ≤ c = grown n.0 in omega arith

-- ---- one step

-- the first count is one more
count_first : (p : ℕ) (c : ℕ × ℕ) (cs : List (ℕ × ℕ)) → c.0 ≡ p → count_in p (one_more (c ∷ cs)) ≡ suc (count_in p (c ∷ cs))
count_first p c cs is =
    let rest : ℕ = count_in p cs in
    let n : ℕ = c.1 in
    let a : ℕ = if c.0 == p then c.1 + 1 else 0 in
    let b : ℕ = if c.0 == p then c.1 else 0 in
    let a' : a ≡ n + 1 = ap (λ t. if t then c.1 + 1 else 0) (eq-eqb c.0 p is) in
    let b' : b ≡ n = ap (λ t. if t then c.1 else 0) (eq-eqb c.0 p is) in
    omega arith

count_others : (p : ℕ) (cs : List (ℕ × ℕ)) → (c : ℕ × ℕ) → p ≢ c.0 → count_in p (one_more (c ∷ cs)) ≡ count_in p (c ∷ cs)
count_others p cs c apart = ap (λ t. (if t then c.1 + 1 else 0) + count_in p cs) off ∙ ap (λ t. (if t then c.1 else 0) + count_in p cs) (sym off)
  where
    off : (c.0 == p) ≡ false
    off = ne_eqb c.0 p (λ is. apart (sym is))

count_grows : (p : ℕ) (cs : List (ℕ × ℕ)) → count_in p cs ≤ count_in p (one_more cs)
count_grows p [] = omega arith
count_grows p (c ∷ cs) = by (c.0 == p)
  where
    by : (t : Bool) → (if t then c.1 else 0) + count_in p cs ≤ (if t then c.1 + 1 else 0) + count_in p cs
    by true = let a : ℕ = c.1 in let b : ℕ = count_in p cs in omega arith
    by false = let b : ℕ = count_in p cs in omega arith

same_names : (p : ℕ) (cs : List (ℕ × ℕ)) → names_in p (one_more cs) ≡ names_in p cs
same_names p [] = refl
same_names p (c ∷ cs) = refl

-- the first piece is counted by its seat alone, once
count_here : (vs : List View) (k : ℕ) (v : View) (c : ℕ × ℕ) (cs : List (ℕ × ℕ)) → get_elem? vs k ≡ some v → ((p : ℕ) → named vs p ≤ 1) → v.counts ≡ c ∷ cs → counted vs c.0 ≡ c.1
count_here vs k v c cs at once are =
    let p : ℕ = c.0 in
    let one_here : (if c.0 == c.0 then 1 else 0) ≡ 1 = ap (λ t. if t then 1 else 0) (eq-eqb c.0 c.0 refl) in
    let names : ℕ = names_in c.0 v.counts in
    let rest : ℕ = names_in c.0 cs in
    let names_are : names ≡ 1 + rest = ap (names_in c.0) are ∙ ap (λ n. n + names_in c.0 cs) one_here in
    let all : ℕ = named vs c.0 in
    let inside : names ≤ all = within c.0 vs k v at in
    let one : all ≤ 1 = once c.0 in
    let none : rest ≡ 0 = omega arith in
    let x : ℕ = count_in c.0 cs in
    let x0 : x ≡ 0 = unnamed c.0 cs none in
    let n : ℕ = c.1 in
    let here : (if c.0 == c.0 then c.1 else 0) ≡ n = ap (λ t. if t then c.1 else 0) (eq-eqb c.0 c.0 refl) in
    only_here c.0 vs k v at one (omega arith) ∙ ap (count_in c.0) are ∙ ap (λ m. m + count_in c.0 cs) here ∙ ap (λ m. n + m) x0 ∙ omega arith

-- seats after one of them made a step
record IsRaised (vs : List View) (k p : ℕ) (v : View) : Type 0 where
  more : counted (set vs k (raised v)) p ≡ suc (counted vs p)
  others : (q : ℕ) → q ≢ p → counted (set vs k (raised v)) q ≡ counted vs q

counts_raised : (vs : List View) (k : ℕ) (v : View) (c : ℕ × ℕ) (cs : List (ℕ × ℕ)) → get_elem? vs k ≡ some v → v.counts ≡ c ∷ cs → IsRaised vs k c.0 v
counts_raised vs k v c cs at are = record {
  more =
      let a : ℕ = counted (set vs k (raised v)) c.0 in
      let b : ℕ = counted vs c.0 in
      let x : ℕ = count_in c.0 v.counts in
      let y : ℕ = count_in c.0 (one_more v.counts) in
      let sums : a + x ≡ b + y = counted_set c.0 vs k v (raised v) at in
      let y' : y ≡ suc x = ap (λ ds. count_in c.0 (one_more ds)) are ∙ count_first c.0 c cs refl ∙ ap (λ ds. suc (count_in c.0 ds)) (sym are) in
      omega arith;
  others =
      λ q apart.
      let a : ℕ = counted (set vs k (raised v)) q in
      let b : ℕ = counted vs q in
      let x : ℕ = count_in q v.counts in
      let y : ℕ = count_in q (one_more v.counts) in
      let sums : a + x ≡ b + y = counted_set q vs k v (raised v) at in
      let y' : y ≡ x = ap (λ ds. count_in q (one_more ds)) are ∙ count_others q cs c apart ∙ ap (count_in q) (sym are) in
      omega (arith, sums, y');
}

-- a seat's view is replaced: the rule but for its first line
record KeepRest (o : Opening) (vs : List View) (k : ℕ) (w : View) : Type 0 where
  once : (p : ℕ) → named (set vs k w) p ≤ 1
  each : (p : ℕ) → p < length o.pieces → named (set vs k w) p ≡ 1
  same : (j : ℕ) (u : View) → get_elem? (set vs k w) j ≡ some u → u.live ≡ true → u.opening ≡ o
  noted : (j : ℕ) (u : View) → get_elem? (set vs k w) j ≡ some u → All (λ n. n.1 ≤ counted (set vs k w) n.0) u.notes

rest_raised : (o : Opening) (words : List ℕ) (vs : List View) (k : ℕ) (v : View) → Holds o words vs → get_elem? vs k ≡ some v → v.live ≡ true → KeepRest o vs k (raised v)
rest_raised o words vs k v h at live = record {
  once =
      λ p.
      let a : ℕ = named (set vs k (raised v)) p in
      let b : ℕ = named vs p in
      let x : ℕ = names_in p v.counts in
      let y : ℕ = names_in p (one_more v.counts) in
      let sums : a + x ≡ b + y = named_set p vs k v (raised v) at in
      let y' : y ≡ x = same_names p v.counts in
      let one : b ≤ 1 = h.once p in
      omega (arith, sums, y', one);
  each =
      λ p less.
      let a : ℕ = named (set vs k (raised v)) p in
      let b : ℕ = named vs p in
      let x : ℕ = names_in p v.counts in
      let y : ℕ = names_in p (one_more v.counts) in
      let sums : a + x ≡ b + y = named_set p vs k v (raised v) at in
      let y' : y ≡ x = same_names p v.counts in
      let one : b ≡ 1 = h.each p less in
      omega (arith, sums, y', one);
  same =
      λ j u there alive.
      ⊎_elim
      (λ (x : (j ≡ k) × (raised v ≡ u)). subst (λ (y : View). y.opening ≡ o) x.1 (h.same k v at live))
      (λ (x : (j ≢ k) × (get_elem? vs j ≡ some u)). h.same j u x.1 alive)
      (at_set vs k j (raised v) u there);
  noted =
      λ j u there.
      ⊎_elim
      (λ (x : (j ≡ k) × (raised v ≡ u)). subst (λ (y : View). All (λ n. n.1 ≤ counted (set vs k (raised v)) n.0) y.notes) x.1 (still (counted vs) (counted (set vs k (raised v))) v.notes grown (h.noted k v at)))
      (λ (x : (j ≢ k) × (get_elem? vs j ≡ some u)). still (counted vs) (counted (set vs k (raised v))) u.notes grown (h.noted j u x.1))
      (at_set vs k j (raised v) u there);
}
  where
    grown : (p : ℕ) → counted vs p ≤ counted (set vs k (raised v)) p
    grown p =
        let a : ℕ = counted (set vs k (raised v)) p in
        let b : ℕ = counted vs p in
        let x : ℕ = count_in p v.counts in
        let y : ℕ = count_in p (one_more v.counts) in
        let sums : a + x ≡ b + y = counted_set p vs k v (raised v) at in
        let y' : x ≤ y = count_grows p v.counts in
        omega arith

step_holds : (o : Opening) → IsOpening o → (words : List ℕ) (vs : List View) (k : ℕ) (v : View) (e : Effect) (j : ℕ) → v.opening ≡ o → IsNext v e → slice_get o.indexes j ≡ Some (index_of e) → Holds o words vs → get_elem? vs k ≡ some v
    → Holds o (set words j (made e (get_or words j 0))) (set vs k (raised v))
step_holds o is words vs k v e j of next there h at =
    let first : IsFirst o v.counts e = first_step o v.counts e (ap (λ p. next_step p v.counts) (sym of) ∙ next.step) in
    let c : ℕ × ℕ = first.first in
    let up : IsRaised vs k c.0 v = counts_raised vs k v c first.others at first.are in
    let here : counted vs c.0 ≡ c.1 = count_here vs k v c first.others at h.once first.are in
    let words_next = words_raised o is (counted vs) (counted (set vs k (raised v))) c.0 j first.steps e first.of (ap (slice_get first.steps) here ∙ first.step) up.more up.others there in
    let rest = rest_raised o words vs k v h at next.live in
    record {
      words_are = ap (λ ws. set ws j (made e (get_or ws j 0))) h.words_are ∙ sym words_next;
      once = rest.once;
      each = rest.each;
      same = rest.same;
      noted = rest.noted;
    }

-- what a step finds
found_is : (o : Opening) (words : List ℕ) (vs : List View) (k : ℕ) (v : View) (e : Effect) (j : ℕ) → v.opening ≡ o → IsNext v e → slice_get o.indexes j ≡ Some (index_of e) → Holds o words vs → get_elem? vs k ≡ some v
    → IsMade (index_of e) v (get_or words j 0) (raised v)
found_is o words vs k v e j of next there h at =
    record {
      view = refl;
      seen = record {
        counts = counted vs;
        agree = λ p some. only_here p vs k v at (h.once p) some;
        found = ap (λ ws. get_or ws j 0) h.words_are ∙ map_here (word_in o (counted vs)) o.indexes j (index_of e) there ∙ ap (λ p. word_in p (counted vs) (index_of e)) (sym of);
      };
    }

pub allows : (o : Opening) → IsOpening o → (slots id : ℕ) (v : View) (held : List (ℕ × Unit {0})) (e : Effect) (j : ℕ) → v.opening ≡ o → IsNext v e → slice_get o.indexes j ≡ Some (index_of e)
    → Allows (Ruled o) slots id (v, held) j (made e) (λ found after. (after.1 ≡ held) × IsMade (index_of e) v found after.0)
allows o is slots id v held e j of next there s h homes at bound =
    (raised v, table.keeps, tt, step_holds o is s.words s.views id v e j of next there h at, (refl, found_is o s.words s.views id v e j of next there h at))

-- ---- a seat is dealt

names_dealt : (p : ℕ) (cs : List (ℕ × ℕ)) → names_in p (behind_first cs) + names_in p (first_of cs) ≡ names_in p cs
names_dealt p [] = refl
names_dealt p (c ∷ cs) = let a : ℕ = if c.0 == p then 1 else 0 in let b : ℕ = names_in p cs in omega arith

counts_dealt : (p : ℕ) (cs : List (ℕ × ℕ)) → count_in p (behind_first cs) + count_in p (first_of cs) ≡ count_in p cs
counts_dealt p [] = refl
counts_dealt p (c ∷ cs) = let a : ℕ = if c.0 == p then c.1 else 0 in let b : ℕ = count_in p cs in omega arith

pub deals : (o : Opening) (id : ℕ) (v : View) → Splits {S = Unit {0}} (Ruled o) id v (others_of v) (first_only v)
deals o id v s h at =
    let vs = s.views in
    let dealt = set vs id (others_of v) ++ first_only v ∷ [] in
    let counts : (p : ℕ) → counted dealt p ≡ counted vs p = λ p.
    let a : ℕ = counted dealt p in
    let m : ℕ = counted (set vs id (others_of v)) p in
    let b : ℕ = counted vs p in
    let x : ℕ = count_in p (first_of v.counts) in
    let y : ℕ = count_in p (behind_first v.counts) in
    let z : ℕ = count_in p v.counts in
    let one : a ≡ m + x = counted_append p (set vs id (others_of v)) (first_only v) in
    let two : m + z ≡ b + y = counted_set p vs id v (others_of v) at in
    let three : y + x ≡ z = counts_dealt p v.counts in
    omega (arith, one, two, three) in
    record {
      words_are = h.words_are ∙ sym (words_same o (counted vs) (counted dealt) counts);
      once =
          λ p.
          let a : ℕ = named dealt p in
          let m : ℕ = named (set vs id (others_of v)) p in
          let b : ℕ = named vs p in
          let x : ℕ = names_in p (first_of v.counts) in
          let y : ℕ = names_in p (behind_first v.counts) in
          let z : ℕ = names_in p v.counts in
          let one : a ≡ m + x = named_append p (set vs id (others_of v)) (first_only v) in
          let two : m + z ≡ b + y = named_set p vs id v (others_of v) at in
          let three : y + x ≡ z = names_dealt p v.counts in
          let four : b ≤ 1 = h.once p in
          omega (arith, one, two, three, four);
      each =
          λ p less.
          let a : ℕ = named dealt p in
          let m : ℕ = named (set vs id (others_of v)) p in
          let b : ℕ = named vs p in
          let x : ℕ = names_in p (first_of v.counts) in
          let y : ℕ = names_in p (behind_first v.counts) in
          let z : ℕ = names_in p v.counts in
          let one : a ≡ m + x = named_append p (set vs id (others_of v)) (first_only v) in
          let two : m + z ≡ b + y = named_set p vs id v (others_of v) at in
          let three : y + x ≡ z = names_dealt p v.counts in
          let four : b ≡ 1 = h.each p less in
          omega (arith, one, two, three, four);
      same = λ j u there alive. of j u alive (at_snoc (set vs id (others_of v)) (first_only v) u j there);
      noted = λ j u there. note (λ p. counts p) j u (at_snoc (set vs id (others_of v)) (first_only v) u j there);
    }
  where
    of_set : (j : ℕ) (u : View) → u.live ≡ true → get_elem? (set s.views id (others_of v)) j ≡ some u → u.opening ≡ o
    of_set j u alive there =
        ⊎_elim
        (λ (x : (j ≡ id) × (others_of v ≡ u)). subst (λ (y : View). y.live ≡ true → y.opening ≡ o) x.1 (λ live. h.same id v at live) alive)
        (λ (x : (j ≢ id) × (get_elem? s.views j ≡ some u)). h.same j u x.1 alive)
        (at_set s.views id j (others_of v) u there)

    of : (j : ℕ) (u : View) → u.live ≡ true → (get_elem? (set s.views id (others_of v)) j ≡ some u) ⊎ (first_only v ≡ u) → u.opening ≡ o
    of j u alive there = ⊎_elim (of_set j u alive) (λ (x : first_only v ≡ u). subst (λ (y : View). y.live ≡ true → y.opening ≡ o) x (λ live. h.same id v at live) alive) there

    keep : (more : ℕ → ℕ) (notes : List (ℕ × ℕ)) → ((p : ℕ) → more p ≡ counted s.views p) → All (λ n. n.1 ≤ counted s.views n.0) notes → All (λ n. n.1 ≤ more n.0) notes
    keep more notes same = still (counted s.views) more notes (λ p. let a : ℕ = counted s.views p in let b : ℕ = more p in let e : b ≡ a = same p in omega arith)

    note : {more : ℕ → ℕ} → ((p : ℕ) → more p ≡ counted s.views p) → (j : ℕ) (u : View) → (get_elem? (set s.views id (others_of v)) j ≡ some u) ⊎ (first_only v ≡ u) → All (λ n. n.1 ≤ more n.0) u.notes
    note {more} same j u there =
        ⊎_elim
        (λ there.
        ⊎_elim
        (λ (x : (j ≡ id) × (others_of v ≡ u)). subst (λ (y : View). All (λ n. n.1 ≤ more n.0) y.notes) x.1 (keep more v.notes same (h.noted id v at)))
        (λ (x : (j ≢ id) × (get_elem? s.views j ≡ some u)). keep more u.notes same (h.noted j u x.1))
        (at_set s.views id j (others_of v) u there))
        (λ (x : first_only v ≡ u). subst (λ (y : View). All (λ n. n.1 ≤ more n.0) y.notes) x (λ k d less. absurd (omega (arith, less))))
        there

-- ---- a seat is taken back

record IsTakenBack (vs : List View) (id : ℕ) (v : View) (other : ℕ) (w : View) : Type 0 where
  counts : (p : ℕ) → counted (set (set vs id (joined v w)) other spent) p ≡ counted vs p
  names : (p : ℕ) → named (set (set vs id (joined v w)) other spent) p ≡ named vs p

sums_taken_back : (vs : List View) (id : ℕ) (v : View) (other : ℕ) (w : View) → get_elem? vs id ≡ some v → get_elem? (set vs id (joined v w)) other ≡ some w → IsTakenBack vs id v other w
sums_taken_back vs id v other w at there = record {
  counts =
      λ p.
      let a : ℕ = counted (set (set vs id (joined v w)) other spent) p in
      let m : ℕ = counted (set vs id (joined v w)) p in
      let b : ℕ = counted vs p in
      let x : ℕ = count_in p v.counts in
      let y : ℕ = count_in p w.counts in
      let z : ℕ = count_in p (v.counts ++ w.counts) in
      let one : a + y ≡ m + 0 = counted_set p (set vs id (joined v w)) other w spent there in
      let two : m + x ≡ b + z = counted_set p vs id v (joined v w) at in
      let three : z ≡ x + y = count_append p v.counts w.counts in
      omega (arith, one, two, three);
  names =
      λ p.
      let a : ℕ = named (set (set vs id (joined v w)) other spent) p in
      let m : ℕ = named (set vs id (joined v w)) p in
      let b : ℕ = named vs p in
      let x : ℕ = names_in p v.counts in
      let y : ℕ = names_in p w.counts in
      let z : ℕ = names_in p (v.counts ++ w.counts) in
      let one : a + y ≡ m + 0 = named_set p (set vs id (joined v w)) other w spent there in
      let two : m + x ≡ b + z = named_set p vs id v (joined v w) at in
      let three : z ≡ x + y = names_append p v.counts w.counts in
      omega (arith, one, two, three);
}

pub takes_back : (o : Opening) (id : ℕ) (v : View) (other : ℕ) (w : View) → v.live ≡ true → Joins {S = Unit {0}} (Ruled o) id v other w (joined v w) spent
takes_back o id v other w live s h at apart there =
    let vs = s.views in
    let after = set (set vs id (joined v w)) other spent in
    let sums : IsTakenBack vs id v other w = sums_taken_back vs id v other w at there in
    record {
      words_are = h.words_are ∙ sym (words_same o (counted vs) (counted after) sums.counts);
      once = λ p. let a : ℕ = named after p in let b : ℕ = named vs p in let e : a ≡ b = sums.names p in let one : b ≤ 1 = h.once p in omega (arith, e, one);
      each = λ p less. sums.names p ∙ h.each p less;
      same =
          λ j u here alive.
          ⊎_elim
          (λ (x : (j ≡ other) × (spent ≡ u)). absurd (true≢false (sym alive ∙ ap (λ (y : View). y.live) (sym x.1))))
          (λ (x : (j ≢ other) × (get_elem? (set vs id (joined v w)) j ≡ some u)). of j u alive x.1)
          (at_set (set vs id (joined v w)) other j spent u here);
      noted =
          λ j u here.
          ⊎_elim
          (λ (x : (j ≡ other) × (spent ≡ u)). subst (λ (y : View). All (λ n. n.1 ≤ counted after n.0) y.notes) x.1 (λ k d less. absurd (omega (arith, less))))
          (λ (x : (j ≢ other) × (get_elem? (set vs id (joined v w)) j ≡ some u)). note (counted after) sums.counts j u x.1)
          (at_set (set vs id (joined v w)) other j spent u here);
    }
  where
    of : (j : ℕ) (u : View) → u.live ≡ true → get_elem? (set s.views id (joined v w)) j ≡ some u → u.opening ≡ o
    of j u alive there =
        ⊎_elim
        (λ (x : (j ≡ id) × (joined v w ≡ u)). subst (λ (y : View). y.opening ≡ o) x.1 (h.same id v at live))
        (λ (x : (j ≢ id) × (get_elem? s.views j ≡ some u)). h.same j u x.1 alive)
        (at_set s.views id j (joined v w) u there)

    keep : (more : ℕ → ℕ) (notes : List (ℕ × ℕ)) → ((p : ℕ) → more p ≡ counted s.views p) → All (λ n. n.1 ≤ counted s.views n.0) notes → All (λ n. n.1 ≤ more n.0) notes
    keep more notes same = still (counted s.views) more notes (λ p. let a : ℕ = counted s.views p in let b : ℕ = more p in let e : b ≡ a = same p in omega arith)

    theirs : get_elem? s.views other ≡ some w
    theirs = ⊎_elim (λ (x : (other ≡ id) × (joined v w ≡ w)). absurd (apart x.0)) (λ (x : (other ≢ id) × (get_elem? s.views other ≡ some w)). x.1) (at_set s.views id other (joined v w) w there)

    note : (more : ℕ → ℕ) → ((p : ℕ) → more p ≡ counted s.views p) → (j : ℕ) (u : View) → get_elem? (set s.views id (joined v w)) j ≡ some u → All (λ n. n.1 ≤ more n.0) u.notes
    note more same j u there =
        ⊎_elim
        (λ (x : (j ≡ id) × (joined v w ≡ u)).
        subst
        (λ (y : View). All (λ n. n.1 ≤ more n.0) y.notes)
        x.1
        (keep more (v.notes ++ w.notes) same (All-append (λ n. n.1 ≤ counted s.views n.0) v.notes w.notes (h.noted id v at) (h.noted other w theirs))))
        (λ (x : (j ≢ id) × (get_elem? s.views j ≡ some u)). keep more u.notes same (h.noted j u x.1))
        (at_set s.views id j (joined v w) u there)
