-- For each block, a depth that none of its nodes goes below.
use Rattle.std.proofs.Common.{◌≡◌, ℕ, zero, suc, ◌+◌, ◌<◌, ◌≤◌, true, List, [], ◌∷◌, ◌++◌, length, take, drop, get_or, set, map, Option, sym, ap, ◌∙◌, subst, arith}
use Rattle.std.specs.Prelude.{insert}
use Rattle.std.specs.List.{slice_index}
use Rattle.std.proofs.lemmas.List.{get_or_default, take_more, take_all}
use Rattle.space.specs.declared.place.Place.{Place}
use Rattle.space.specs.declared.node.Node.{Node}
use Rattle.maptree.specs.Nodes.{run_len, last_less}
use Rattle.maptree.specs.Renamings.{nodes_renamed}
use Rattle.maptree.specs.Blocks.{is_least, nodes_in, AreMinDepths}
use Rattle.maptree.proofs.Depths.{all_deeper, none_less, least_renamed}
use Rattle.maptree.proofs.LastLess.{later}
use Rattle.maptree.proofs.InBlocks.{as_read, run_block_on, count_to, last_block}

-- ---- block by block

pub min_depths_first : (b : List Node) (bs : List (List Node)) (a : ℕ) (ls : List ℕ) → AreMinDepths (b ∷ bs) (a ∷ ls) → is_least a b ≡ true
min_depths_first b bs a ls are = are.each 0 (omega arith)

pub min_depths_rest : (b : List Node) (bs : List (List Node)) (a : ℕ) (ls : List ℕ) → AreMinDepths (b ∷ bs) (a ∷ ls) → AreMinDepths bs ls
min_depths_rest b bs a ls are = record { count = let count = are.count in omega (arith, count); each = λ k less. are.each (suc k) (omega (arith, less)) }

pub min_depths_one_more : (b : List Node) (bs : List (List Node)) (a : ℕ) (ls : List ℕ) → is_least a b ≡ true → AreMinDepths bs ls → AreMinDepths (b ∷ bs) (a ∷ ls)
min_depths_one_more b bs a ls is are = record { count = let count = are.count in omega (arith, count); each = by }
  where
    by : (k : ℕ) → k < length (b ∷ bs) → is_least (slice_index (a ∷ ls) k) (get_or (b ∷ bs) k []) ≡ true
    by zero less = is
    by (suc k) less = are.each k (omega (arith, less))

pub min_depths_none : AreMinDepths [] []
min_depths_none = record { count = omega arith; each = λ k less. absurd (omega (arith, less)) }

-- what a number says of a block as it is read
pub least_of_block : (bs : List (List Node)) (ls : List ℕ) (k : ℕ) (b : List Node) → AreMinDepths bs ls → k < length bs → b ≡ get_or bs k b → is_least (slice_index ls k) b ≡ true
least_of_block bs ls k b are within read = ap (is_least (slice_index ls k)) (as_read bs k b within read) ∙ are.each k within

-- ---- changes

-- a block and its number are others
pub min_depths_set : (bs : List (List Node)) (k : ℕ) (b : List Node) (ls : List ℕ) (a : ℕ) → k < length bs → AreMinDepths bs ls → is_least a b ≡ true → AreMinDepths (set bs k b) (set ls k a)
min_depths_set [] k b ls a within are is = absurd (omega (arith, within))
min_depths_set (x ∷ bs) k b [] a within are is = absurd (let count = are.count in omega (arith, count))
min_depths_set (x ∷ bs) zero b (l ∷ ls) a within are is = min_depths_one_more b bs a ls is (min_depths_rest x bs l ls are)
min_depths_set (x ∷ bs) (suc k) b (l ∷ ls) a within are is =
    min_depths_one_more x (set bs k b) l (set ls k a) (min_depths_first x bs l ls are) (min_depths_set bs k b ls a (omega (arith, within)) (min_depths_rest x bs l ls are) is)

-- a block is another, and its number serves
pub min_depths_kept : (bs : List (List Node)) (k : ℕ) (b : List Node) (ls : List ℕ) → k < length bs → AreMinDepths bs ls → is_least (slice_index ls k) b ≡ true → AreMinDepths (set bs k b) ls
min_depths_kept [] k b ls within are is = absurd (omega (arith, within))
min_depths_kept (x ∷ bs) k b [] within are is = absurd (let count = are.count in omega (arith, count))
min_depths_kept (x ∷ bs) zero b (l ∷ ls) within are is = min_depths_one_more b bs l ls is (min_depths_rest x bs l ls are)
min_depths_kept (x ∷ bs) (suc k) b (l ∷ ls) within are is =
    min_depths_one_more x (set bs k b) l ls (min_depths_first x bs l ls are) (min_depths_kept bs k b ls (omega (arith, within)) (min_depths_rest x bs l ls are) is)

-- a block more
pub min_depths_insert : (bs : List (List Node)) (k : ℕ) (b : List Node) (ls : List ℕ) (a : ℕ) → AreMinDepths bs ls → is_least a b ≡ true → AreMinDepths (insert bs k b) (insert ls k a)
min_depths_insert bs zero b ls a are is = min_depths_one_more b bs a ls is are
min_depths_insert [] (suc k) b [] a are is = min_depths_one_more b [] a [] is are
min_depths_insert [] (suc k) b (l ∷ ls) a are is = absurd (let count = are.count in omega (arith, count))
min_depths_insert (x ∷ bs) (suc k) b [] a are is = absurd (let count = are.count in omega (arith, count))
min_depths_insert (x ∷ bs) (suc k) b (l ∷ ls) a are is =
    min_depths_one_more x (insert bs k b) l (insert ls k a) (min_depths_first x bs l ls are) (min_depths_insert bs k b ls a (min_depths_rest x bs l ls are) is)

-- other places change no depth
pub min_depths_renamed : (new : Place → Option Place) (bs : List (List Node)) (ls : List ℕ) → AreMinDepths bs ls → AreMinDepths (map (nodes_renamed new) bs) ls
min_depths_renamed new [] ls are = record { count = are.count; each = λ k less. absurd (omega (arith, less)) }
min_depths_renamed new (b ∷ bs) [] are = absurd (let count = are.count in omega (arith, count))
min_depths_renamed new (b ∷ bs) (a ∷ ls) are =
    min_depths_one_more (nodes_renamed new b) (map (nodes_renamed new) bs) a ls (least_renamed new a b ∙ min_depths_first b bs a ls are) (min_depths_renamed new bs ls (min_depths_rest b bs a ls are))

-- ---- one after another

-- one block more is listed
pub min_depths_more : (bs : List (List Node)) (i : ℕ) (b : List Node) (ls next : List ℕ) (a : ℕ) → i < length bs → b ≡ get_or bs i b → AreMinDepths (take i bs) ls → is_least a b ≡ true → next ≡ ls ++ a ∷ []
    → AreMinDepths (take (i + 1) bs) next
min_depths_more bs i b ls next a within read are is more =
    subst (λ l. AreMinDepths (take (i + 1) bs) l) (sym more)
    (subst (λ l. AreMinDepths l (ls ++ a ∷ [])) (sym (take_more bs i [] within)) (both (take i bs) ls are (subst (λ x. is_least a x ≡ true) (as_read bs i b within read) is)))
  where
    both : (xs : List (List Node)) (ls : List ℕ) → AreMinDepths xs ls → is_least a (get_or bs i []) ≡ true → AreMinDepths (xs ++ get_or bs i [] ∷ []) (ls ++ a ∷ [])
    both [] [] are is = min_depths_one_more (get_or bs i []) [] a [] is are
    both [] (l ∷ ls) are is = absurd (let count = are.count in omega (arith, count))
    both (x ∷ xs) [] are is = absurd (let count = are.count in omega (arith, count))
    both (x ∷ xs) (l ∷ ls) are is = min_depths_one_more x (xs ++ get_or bs i [] ∷ []) l (ls ++ a ∷ []) (min_depths_first x xs l ls are) (both xs ls (min_depths_rest x xs l ls are) is)

-- all are listed
pub min_depths_all : (bs : List (List Node)) (i : ℕ) (ls : List ℕ) → length bs ≤ i → AreMinDepths (take i bs) ls → AreMinDepths bs ls
min_depths_all bs i ls upto are = subst (λ l. AreMinDepths l ls) (take_all i bs upto) are

-- ---- what they say of runs

module _ (bs : List (List Node)) (ls : List ℕ) (k : ℕ) (are : AreMinDepths bs ls) (within : k < length bs) where
  here : get_or bs k [] ≡ get_or bs k (get_or bs k [])
  here = get_or_default bs k [] (get_or bs k []) within

  -- a block whose nodes are all deeper is passed
  pub deeper_block : (depth : ℕ) → depth < slice_index ls k
      → length (nodes_in (take k bs)) + run_len depth (nodes_in (drop k bs)) ≡ length (nodes_in (take (k + 1) bs)) + run_len depth (nodes_in (drop (k + 1) bs))
  deeper_block depth deep =
      let b = get_or bs k [] in
      let all = all_deeper depth (slice_index ls k) b deep (are.each k within) in
      let on = run_block_on depth bs k (length b) b within here (sym all) (omega arith) in
      let next = count_to bs k within in
      omega (arith, on, next)

  -- and one of which none is less deep
  pub block_not_above : (depth : ℕ) → depth ≤ slice_index ls k → last_less depth (nodes_in (take (k + 1) bs)) ≡ last_less depth (nodes_in (take k bs))
  block_not_above depth low = last_block depth bs k (get_or bs k []) within here ∙ ap (λ o. later (length (nodes_in (take k bs))) o (last_less depth (nodes_in (take k bs)))) (none_less depth (slice_index ls k) (get_or bs k []) low (are.each k within))

-- blocks one after another are passed so
pub deeper_blocks : (bs : List (List Node)) (ls : List ℕ) → AreMinDepths bs ls → (depth from n : ℕ) → from + n ≤ length bs → ((k : ℕ) → from ≤ k → k < from + n → depth < slice_index ls k)
    → length (nodes_in (take from bs)) + run_len depth (nodes_in (drop from bs)) ≡ length (nodes_in (take (from + n) bs)) + run_len depth (nodes_in (drop (from + n) bs))
deeper_blocks bs ls are depth from zero within deep =
    let same : from ≡ from + 0 = omega arith in ap (λ k. length (nodes_in (take k bs)) + run_len depth (nodes_in (drop k bs))) same
deeper_blocks bs ls are depth from (suc n) within deep =
    let next : from + n + 1 ≡ from + suc n = omega arith in
    deeper_blocks bs ls are depth from n (omega (arith, within)) (λ k low less. deep k low (omega (arith, less)))
    ∙ deeper_block bs ls (from + n) are (omega (arith, within)) depth (deep (from + n) (omega arith) (omega arith))
    ∙ ap (λ k. length (nodes_in (take k bs)) + run_len depth (nodes_in (drop k bs))) next

pub blocks_not_above : (bs : List (List Node)) (ls : List ℕ) → AreMinDepths bs ls → (depth from n : ℕ) → from + n ≤ length bs → ((k : ℕ) → from ≤ k → k < from + n → depth ≤ slice_index ls k)
    → last_less depth (nodes_in (take (from + n) bs)) ≡ last_less depth (nodes_in (take from bs))
blocks_not_above bs ls are depth from zero within low =
    let same : from + 0 ≡ from = omega arith in ap (λ k. last_less depth (nodes_in (take k bs))) same
blocks_not_above bs ls are depth from (suc n) within low =
    let next : from + suc n ≡ from + n + 1 = omega arith in
    ap (λ k. last_less depth (nodes_in (take k bs))) next
    ∙ block_not_above bs ls (from + n) are (omega (arith, within)) depth (low (from + n) (omega arith) (omega arith))
    ∙ blocks_not_above bs ls are depth from n (omega (arith, within)) (λ k under less. low k under (omega (arith, less)))
