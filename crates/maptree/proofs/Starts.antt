-- For each block, how many nodes stand before it.
use Rattle.std.proofs.Common.{◌≡◌, ℕ, zero, suc, ◌+◌, ◌-◌, ◌<◌, ◌≤◌, List, [], ◌∷◌, ◌++◌, length, take, drop, refl, get_or, set, map, Option, sym, ap, ◌∙◌, subst, arith, ◌⊎◌, inl, inr}
use Rattle.std.specs.Prelude.{insert}
use Rattle.std.proofs.lemmas.List.{length-append, take-append-drop, get_or-take, length-set, length-take-le, take-set-le, take-map, length-map, take_all}
use Rattle.std.proofs.Math.Seq.{take-set-lt}
use Rattle.space.specs.declared.node.Node.{Node}
use Rattle.space.specs.declared.place.Place.{Place}
use Rattle.maptree.specs.Renamings.{nodes_renamed}
use Rattle.maptree.specs.Blocks.{nodes_in, split_block, AreStarts, Grouped, number_at}
use Rattle.maptree.proofs.InBlocks.{count_cut, count_to}
use Rattle.maptree.proofs.BlockChanges.{first_of, count_set, renamed_in, split_length}

-- before a later block no fewer nodes stand
pub before_later : (bs : List (List Node)) (j k : ℕ) → j ≤ k → length (nodes_in (take j bs)) ≤ length (nodes_in (take k bs))
before_later bs j k less =
    let cut = count_cut (take k bs) j in
    let first = ap (λ l. length (nodes_in l)) (first_of j k bs less) in
    omega (arith, cut, first)

-- none more than there are
pub before_all : (bs : List (List Node)) (k : ℕ) → length (nodes_in (take k bs)) ≤ length (nodes_in bs)
before_all bs k = let cut = count_cut bs k in omega (arith, cut)

-- a number as it is read
pub start_read : (items bs : List (List Node)) (starts : Grouped) (k n : ℕ) → items ≡ bs → AreStarts items starts → k < length items → n ≡ number_at starts k → n ≡ length (nodes_in (take k bs))
start_read items bs starts k n same are within is = is ∙ are.each k within ∙ ap (λ l. length (nodes_in (take k l))) same

-- behind a block there are the nodes before it and its own
pub has_nodes : (bs : List (List Node)) (starts : Grouped) (k n : ℕ) → AreStarts bs starts → k < length bs → n ≤ length (get_or bs k []) → (j : ℕ) → k < j → j < length starts.inside → number_at starts k + n ≤ number_at starts j
has_nodes bs starts k n are within less j behind inside =
    let count = are.count in
    let here = are.each k within in
    let there = are.each j (omega (arith, count, inside)) in
    let next = count_to bs k within in
    let later = before_later bs (k + 1) j (omega (arith, behind)) in
    omega (arith, here, there, next, later, less)

-- one block has other nodes
pub starts_set : (bs : List (List Node)) (k : ℕ) (b : List Node) (starts next : Grouped) → k < length bs → AreStarts bs starts → length next.inside ≡ length starts.inside
    → ((j : ℕ) → j ≤ k → number_at next j ≡ number_at starts j)
    → ((j : ℕ) → k < j → j < length starts.inside → number_at next j + length (get_or bs k []) ≡ number_at starts j + length b)
    → AreStarts (set bs k b) next
starts_set bs k b starts next within are count before from = record {
  count = let same = length-set bs k b in omega (arith, same, count, are.count);
  each = λ j less. let same = length-set bs k b in by j (omega (arith, same, less)) (order j k);
}
  where
    order : (j k : ℕ) → (j ≤ k) ⊎ (k < j)
    order j k = grind arith

    by : (j : ℕ) → j < length bs → (j ≤ k) ⊎ (k < j) → number_at next j ≡ length (nodes_in (take j (set bs k b)))
    by j less (inl upto) = before j upto ∙ are.each j less ∙ ap (λ l. length (nodes_in l)) (sym (take-set-le j bs k b upto))
    by j less (inr behind) =
        let is = are.each j less in
        let more = from j behind (omega (arith, less, are.count)) in
        let inside = length-take-le j bs (omega (arith, less)) in
        let counted = count_set (take j bs) k b (omega (arith, inside, behind)) in
        let same = ap length (get_or-take j bs k [] behind) in
        let there = ap (λ l. length (nodes_in l)) (take-set-lt j bs k b behind) in
        omega (arith, is, more, counted, same, there)

-- all have as many
pub starts_same : (bs next : List (List Node)) (starts : Grouped) → AreStarts bs starts → length next ≡ length bs → ((j : ℕ) → length (nodes_in (take j next)) ≡ length (nodes_in (take j bs))) → AreStarts next starts
starts_same bs next starts are count same = record {
  count = omega (arith, are.count, count);
  each = λ j less. are.each j (omega (arith, less, count)) ∙ sym (same j);
}

-- one block more is counted
pub starts_more : (bs : List (List Node)) (i before : ℕ) (starts next : Grouped) → i < length bs → AreStarts (take i bs) starts → before ≡ length (nodes_in (take i bs)) → length next.inside ≡ length starts.inside + 1
    → ((j : ℕ) → j < length starts.inside → number_at next j ≡ number_at starts j) → number_at next (length starts.inside) ≡ before → AreStarts (take (i + 1) bs) next
starts_more bs i before starts next within are is_before longer others last =
    let old = length-take-le i bs (omega (arith, within)) in
    let new = length-take-le (i + 1) bs (omega (arith, within)) in
    record {
      count = omega (arith, old, new, longer, are.count);
      each = λ j less. by j (order j (omega (arith, new, less)));
    }
  where
    order : (j : ℕ) → j < i + 1 → (j < i) ⊎ (j ≡ i)
    order j less = grind arith

    size : length starts.inside ≡ i
    size = let old = length-take-le i bs (omega (arith, within)) in omega (arith, old, are.count)

    by : (j : ℕ) → (j < i) ⊎ (j ≡ i) → number_at next j ≡ length (nodes_in (take j (take (i + 1) bs)))
    by j (inl less) =
        let old = length-take-le i bs (omega (arith, within)) in
        others j (omega (arith, size, less)) ∙ are.each j (omega (arith, old, less))
        ∙ ap (λ l. length (nodes_in l)) (first_of j i bs (omega (arith, less)) ∙ sym (first_of j (i + 1) bs (omega (arith, less))))
    by j (inr same) =
        ap (number_at next) (same ∙ sym size) ∙ last ∙ is_before
        ∙ ap (λ l. length (nodes_in l)) (sym (first_of i (i + 1) bs (omega arith)) ∙ ap (λ k. take k (take (i + 1) bs)) (sym same))

-- none of those before has more before it
pub none_above : (bs : List (List Node)) (starts : Grouped) (before : ℕ) → AreStarts bs starts → before ≡ length (nodes_in bs) → (j : ℕ) → j < length starts.inside → number_at starts j ≤ before
none_above bs starts before are is j less =
    let count = are.count in
    let here = are.each j (omega (arith, count, less)) in
    let upto = before_all bs j in
    omega (arith, here, upto, is)

-- all are counted
pub starts_all : (bs : List (List Node)) (i : ℕ) (starts : Grouped) → length bs ≤ i → AreStarts (take i bs) starts → AreStarts bs starts
starts_all bs i starts upto are = subst (λ l. AreStarts l starts) (take_all i bs upto) are

-- as many nodes stand before a block with other places
pub renamed_before : (new : Place → Option Place) (bs : List (List Node)) (j : ℕ) → length (nodes_in (take j (map (nodes_renamed new) bs))) ≡ length (nodes_in (take j bs))
renamed_before new bs j =
    ap (λ l. length (nodes_in l)) (take-map (nodes_renamed new) j bs) ∙ ap length (renamed_in new (take j bs)) ∙ length-map (nodes_in (take j bs)) _

-- the seat behind so many nodes, in the last block before which fewer stand
pub last_seat : (bs : List (List Node)) (starts : Grouped) (k i : ℕ) → AreStarts bs starts → k < length bs → (0 < k → number_at starts k < i) → (k + 1 < length starts.inside → i ≤ number_at starts (k + 1)) → i ≤ length (nodes_in bs)
    → (number_at starts k ≤ i) × (i ≤ number_at starts k + length (get_or bs k []))
last_seat bs starts k i are within below next most = (upto (first k), by (last (k + 1) (length bs)))
  where
    here : number_at starts k ≡ length (nodes_in (take k bs))
    here = are.each k within

    first : (k : ℕ) → (k ≡ 0) ⊎ (0 < k)
    first k = grind arith

    none : (k : ℕ) → k ≡ 0 → length (nodes_in (take k bs)) ≡ 0
    none k is = ap (λ n. length (nodes_in (take n bs))) is

    upto : (k ≡ 0) ⊎ (0 < k) → number_at starts k ≤ i
    upto (inl is) = let start = here in let zero = none k is in omega (arith, start, zero)
    upto (inr some) = let less = below some in omega (arith, less)

    last : (a b : ℕ) → (a < b) ⊎ (b ≤ a)
    last a b = grind arith

    by : (k + 1 < length bs) ⊎ (length bs ≤ k + 1) → i ≤ number_at starts k + length (get_or bs k [])
    by (inl more) =
        let start = here in
        let count = are.count in
        let there = are.each (k + 1) more in
        let bound = next (omega (arith, more, count)) in
        let behind = count_to bs k within in
        omega (arith, start, there, bound, behind)
    by (inr end) =
        let start = here in
        let all = ap (λ l. length (nodes_in l)) (take_all (k + 1) bs end) in
        let behind = count_to bs k within in
        omega (arith, start, all, behind, most)

-- ---- a block in two

-- behind another block
split_more : (b : List Node) (bs : List (List Node)) (at k : ℕ) → split_block at (b ∷ bs) (suc k) ≡ b ∷ split_block at bs k
split_more b bs at k = let one : suc k + 1 ≡ suc (k + 1) = omega arith in ap (λ i. insert (b ∷ set bs k (take at (get_or bs k []))) i (drop at (get_or bs k []))) one

-- the blocks before it stay
split_front : (bs : List (List Node)) (at k j : ℕ) → k < length bs → j ≤ k → take j (split_block at bs k) ≡ take j bs
split_front [] at k j within upto = absurd (omega (arith, within))
split_front (b ∷ bs) at zero zero within upto = refl
split_front (b ∷ bs) at zero (suc j) within upto = absurd (omega (arith, upto))
split_front (b ∷ bs) at (suc k) zero within upto = refl
split_front (b ∷ bs) at (suc k) (suc j) within upto = ap (take (suc j)) (split_more b bs at k) ∙ ap (λ l. b ∷ l) (split_front bs at k j (omega (arith, within)) (omega (arith, upto)))

-- before its second part there are those of the first too
split_half : (bs : List (List Node)) (at k : ℕ) → k < length bs → at ≤ length (get_or bs k []) → length (nodes_in (take (k + 1) (split_block at bs k))) ≡ length (nodes_in (take k bs)) + at
split_half [] at k within less = absurd (omega (arith, within))
split_half (b ∷ bs) at zero within less = let e = length-append (take at b) [] in let half = length-take-le at b less in omega (arith, e, half)
split_half (b ∷ bs) at (suc k) within less =
    let rest = split_half bs at k (omega (arith, within)) less in
    let new = length-append b (nodes_in (take (k + 1) (split_block at bs k))) in
    let old = length-append b (nodes_in (take k bs)) in
    let one : suc k + 1 ≡ suc (k + 1) = omega arith in
    let read = ap (λ l. length (nodes_in (take (suc k + 1) l))) (split_more b bs at k) ∙ ap (λ n. length (nodes_in (take n (b ∷ split_block at bs k)))) one in
    omega (arith, rest, new, old, read)

-- before those behind it there are as many
split_behind : (bs : List (List Node)) (at k j : ℕ) → k < length bs → k < j → length (nodes_in (take (j + 1) (split_block at bs k))) ≡ length (nodes_in (take j bs))
split_behind [] at k j within more = absurd (omega (arith, within))
split_behind (b ∷ bs) at zero zero within more = absurd (omega (arith, more))
split_behind (b ∷ bs) at zero (suc j) within more =
    let one : suc j + 1 ≡ suc (suc j) = omega arith in
    let rest = nodes_in (take j bs) in
    let first = length-append (take at b) (drop at b ++ rest) in
    let second = length-append (drop at b) rest in
    let both = ap length (take-append-drop at b) in
    let halves = length-append (take at b) (drop at b) in
    let old = length-append b rest in
    let read = ap (λ n. length (nodes_in (take n (split_block at (b ∷ bs) zero)))) one in
    omega (arith, read, first, second, both, halves, old)
split_behind (b ∷ bs) at (suc k) zero within more = absurd (omega (arith, more))
split_behind (b ∷ bs) at (suc k) (suc j) within more =
    let rest = split_behind bs at k j (omega (arith, within)) (omega (arith, more)) in
    let new = length-append b (nodes_in (take (j + 1) (split_block at bs k))) in
    let old = length-append b (nodes_in (take j bs)) in
    let one : suc j + 1 ≡ suc (j + 1) = omega arith in
    let read = ap (λ l. length (nodes_in (take (suc j + 1) l))) (split_more b bs at k) ∙ ap (λ n. length (nodes_in (take n (b ∷ split_block at bs k)))) one in
    omega (arith, rest, new, old, read)

pub starts_split : (bs : List (List Node)) (k at : ℕ) (starts next : Grouped) → k < length bs → at ≤ length (get_or bs k []) → AreStarts bs starts → length next.inside ≡ length starts.inside + 1
    → ((j : ℕ) → j < k + 1 → number_at next j ≡ number_at starts j) → number_at next (k + 1) ≡ number_at starts k + at
    → ((j : ℕ) → k + 1 ≤ j → j < length starts.inside → number_at next (j + 1) ≡ number_at starts j) → AreStarts (split_block at bs k) next
starts_split bs k at starts next within less are longer upto here behind = record {
  count = omega (arith, longer, are.count, split_length bs k at within);
  each = λ j inside. by j (omega (arith, inside, split_length bs k at within)) (order j);
}
  where
    order : (j : ℕ) → (j < k + 1) ⊎ ((j ≡ k + 1) ⊎ (k + 1 < j))
    order j = grind arith

    by : (j : ℕ) → j < length bs + 1 → (j < k + 1) ⊎ ((j ≡ k + 1) ⊎ (k + 1 < j)) → number_at next j ≡ length (nodes_in (take j (split_block at bs k)))
    by j inside (inl before) = upto j before ∙ are.each j (omega (arith, before, within)) ∙ ap (λ l. length (nodes_in l)) (sym (split_front bs at k j within (omega (arith, before))))
    by j inside (inr (inl same)) =
        ap (number_at next) same ∙ here ∙ ap (λ n. n + at) (are.each k within) ∙ sym (split_half bs at k within less) ∙ ap (λ n. length (nodes_in (take n (split_block at bs k)))) (sym same)
    by j inside (inr (inr more)) =
        let one : j - 1 + 1 ≡ j = omega (arith, more) in
        ap (number_at next) (sym one) ∙ behind (j - 1) (omega (arith, more)) (omega (arith, inside, more, are.count)) ∙ are.each (j - 1) (omega (arith, inside, more))
        ∙ sym (split_behind bs at k (j - 1) within (omega (arith, more))) ∙ ap (λ n. length (nodes_in (take n (split_block at bs k)))) one

-- none before a block, or the block itself, is above its number and more
pub split_above : (bs : List (List Node)) (starts : Grouped) (k n : ℕ) → AreStarts bs starts → k < length bs → (j : ℕ) → j < k + 1 → number_at starts j ≤ number_at starts k + n
split_above bs starts k n are within j upto =
    let here = are.each k within in
    let there = are.each j (omega (arith, upto, within)) in
    let later = before_later bs j k (omega (arith, upto)) in
    omega (arith, here, there, later)

-- the numbers rise
pub starts_rise : (bs : List (List Node)) (starts : Grouped) → AreStarts bs starts → (j k : ℕ) → j ≤ k → k < length starts.inside → number_at starts j ≤ number_at starts k
starts_rise bs starts are j k upto within =
    let count = are.count in
    let here = are.each k (omega (arith, count, within)) in
    let there = are.each j (omega (arith, count, within, upto)) in
    let later = before_later bs j k upto in
    omega (arith, here, there, later)
