-- A list in blocks: what stands before a block, in it and behind it.
use Rattle.std.proofs.Common.{◌≡◌, ℕ, suc, ◌+◌, ◌-◌, ◌<◌, ◌≤◌, true, false, Bool, nat_lt, List, [], ◌∷◌, ◌++◌, length, take, drop, get_or, Some, None, option_map, refl, sym, ap, ◌∙◌, arith, if◌then◌else◌, ◌⊎◌, inl, inr}
use Rattle.std.specs.Prelude.{position}
use Rattle.std.proofs.lemmas.List.{append-nil, length-append, take-append-drop, take_more, drop_more, take_all, drop_all, get_or_default, get_or-append-add, get_or_append_left, drop-append-le, drop_at, take-append-le, drop-drop}
use Rattle.std.proofs.lemmas.List.Concat.{flat_map-append}
use Rattle.space.specs.declared.node.Node.{Node}
use Rattle.maptree.specs.declared.blocks.Seat.{Seat}
use Rattle.maptree.specs.Nodes.{run_len, last_less}
use Rattle.maptree.specs.Blocks.{nodes_in, IsSeat}
use Rattle.maptree.proofs.LastLess.{later, last_append, some_says}
use Rattle.maptree.proofs.Searches.{found_first, found_second}
use Rattle.std.proofs.lemmas.List.Quantifiers.{position-Some}

-- the nodes of some blocks and of others
pub nodes_of_both : (xs ys : List (List Node)) → nodes_in (xs ++ ys) ≡ nodes_in xs ++ nodes_in ys
nodes_of_both xs ys = flat_map-append (λ b. b) xs ys

module _ (bs : List (List Node)) (k : ℕ) where
  -- before a block, and from it on
  pub cut_at : nodes_in bs ≡ nodes_in (take k bs) ++ nodes_in (drop k bs)
  cut_at = ap nodes_in (sym (take-append-drop k bs)) ∙ nodes_of_both (take k bs) (drop k bs)

  pub from_block : k < length bs → nodes_in (drop k bs) ≡ get_or bs k [] ++ nodes_in (drop (k + 1) bs)
  from_block within = ap nodes_in (drop_more bs k [] within)

  pub to_block : k < length bs → nodes_in (take (k + 1) bs) ≡ nodes_in (take k bs) ++ get_or bs k []
  to_block within = ap nodes_in (take_more bs k [] within) ∙ nodes_of_both (take k bs) (get_or bs k [] ∷ []) ∙ ap (λ b. nodes_in (take k bs) ++ b) (append-nil (get_or bs k []))

  -- before a block, in it, and behind it
  pub three : k < length bs → nodes_in bs ≡ nodes_in (take k bs) ++ (get_or bs k [] ++ nodes_in (drop (k + 1) bs))
  three within = cut_at ∙ ap (λ b. nodes_in (take k bs) ++ b) (from_block within)

  -- the same by numbers
  pub count_cut : length (nodes_in bs) ≡ length (nodes_in (take k bs)) + length (nodes_in (drop k bs))
  count_cut = ap length cut_at ∙ length-append (nodes_in (take k bs)) (nodes_in (drop k bs))

  pub count_from : k < length bs → length (nodes_in (drop k bs)) ≡ length (get_or bs k []) + length (nodes_in (drop (k + 1) bs))
  count_from within = ap length (from_block within) ∙ length-append (get_or bs k []) (nodes_in (drop (k + 1) bs))

  pub count_to : k < length bs → length (nodes_in (take (k + 1) bs)) ≡ length (nodes_in (take k bs)) + length (get_or bs k [])
  count_to within = ap length (to_block within) ∙ length-append (nodes_in (take k bs)) (get_or bs k [])

  -- where more nodes are to come, a block is
  pub more_blocks : k < length bs → length (nodes_in (take k bs)) + length (get_or bs k []) < length (nodes_in bs) → k + 1 < length bs
  more_blocks within more = by (order (k + 1) (length bs))
    where
      order : (a b : ℕ) → (a < b) ⊎ (b ≤ a)
      order a b = grind arith

      by : (k + 1 < length bs) ⊎ (length bs ≤ k + 1) → k + 1 < length bs
      by (inl less) = less
      by (inr upto) =
          let all : length (nodes_in (take (k + 1) bs)) ≡ length (nodes_in bs) = ap (λ l. length (nodes_in l)) (take_all (k + 1) bs upto) in
          let to = count_to within in
          absurd (omega (arith, all, to, more))

-- a block as it is read
pub as_read : (bs : List (List Node)) (k : ℕ) (b : List Node) → k < length bs → b ≡ get_or bs k b → b ≡ get_or bs k []
as_read bs k b within is = is ∙ get_or_default bs k b [] within

-- the node at a seat
pub at_seat : (bs : List (List Node)) (k off : ℕ) (d : Node) → k < length bs → off < length (get_or bs k []) → get_or (nodes_in bs) (length (nodes_in (take k bs)) + off) d ≡ get_or (get_or bs k []) off d
at_seat bs k off d within inside =
    ap (λ l. get_or l (length (nodes_in (take k bs)) + off) d) (three bs k within)
    ∙ get_or-append-add (nodes_in (take k bs)) (get_or bs k [] ++ nodes_in (drop (k + 1) bs)) off d
    ∙ get_or_append_left (get_or bs k []) (nodes_in (drop (k + 1) bs)) d off inside

-- behind all nodes of a block stands the seat before those of the next
pub next_seat : (bs : List (List Node)) (k off i : ℕ) → IsSeat bs i (record { block = k; offset = off }) → length (get_or bs k []) ≤ off → k + 1 < length bs → IsSeat bs i (record { block = k + 1; offset = 0 })
next_seat bs k off i is end within =
    let upto = is.upto in
    let before = is.before in
    let count = count_to bs k is.within in
    record { within = within; upto = omega arith; before = omega (arith, count, upto, before, end) }

-- what is behind a seat
pub behind_seat : (bs : List (List Node)) (k off : ℕ) → k < length bs → off ≤ length (get_or bs k []) → drop (length (nodes_in (take k bs)) + off) (nodes_in bs) ≡ drop off (get_or bs k []) ++ nodes_in (drop (k + 1) bs)
behind_seat bs k off within inside =
    let front = nodes_in (take k bs) in
    let rest = get_or bs k [] ++ nodes_in (drop (k + 1) bs) in
    sym (drop-drop off (length front) (nodes_in bs))
    ∙ ap (λ l. drop off (drop (length front) l)) (three bs k within)
    ∙ ap (drop off) (drop_at front rest (length front) refl)
    ∙ drop-append-le off (get_or bs k []) (nodes_in (drop (k + 1) bs)) inside

-- what is before a seat
pub before_seat : (bs : List (List Node)) (k off : ℕ) → k < length bs → off ≤ length (get_or bs k []) → take (length (nodes_in (take k bs)) + off) (nodes_in bs) ≡ nodes_in (take k bs) ++ take off (get_or bs k [])
before_seat bs k off within inside =
    ap (take (length (nodes_in (take k bs)) + off)) (three bs k within)
    ∙ more (nodes_in (take k bs)) (get_or bs k [] ++ nodes_in (drop (k + 1) bs)) off
    ∙ ap (λ l. nodes_in (take k bs) ++ l) (take-append-le off (get_or bs k []) (nodes_in (drop (k + 1) bs)) inside)
  where
    more : (xs ys : List Node) (n : ℕ) → take (length xs + n) (xs ++ ys) ≡ xs ++ take n ys
    more [] ys n = let none : 0 + n ≡ n = omega arith in ap (λ m. take m ys) none
    more (x ∷ xs) ys n = let one : length (x ∷ xs) + n ≡ suc (length xs + n) = omega arith in ap (λ m. take m (x ∷ xs ++ ys)) one ∙ ap (λ l. x ∷ l) (more xs ys n)

-- what is counted up to the end of a block
pub record Counts (bs : List (List Node)) (k : ℕ) (b : List Node) : Type 0 where
  pub next : length (nodes_in (take (k + 1) bs)) ≡ length (nodes_in (take k bs)) + length b
  pub upto : length (nodes_in (take k bs)) + length b ≤ length (nodes_in bs)

pub counts : (bs : List (List Node)) (k : ℕ) (b : List Node) → k < length bs → b ≡ get_or bs k b → Counts bs k b
counts bs k b within is =
    let same = ap length (as_read bs k b within is) in
    let next = count_to bs k within in
    let all = count_cut bs (k + 1) in
    record { next = omega (arith, same, next); upto = omega (arith, same, next, all) }

-- ---- runs

-- the run of two parts
pub run_append : (depth : ℕ) (xs ys : List Node) → run_len depth xs < length xs → run_len depth (xs ++ ys) ≡ run_len depth xs
run_append depth [] ys less = absurd (omega (arith, less))
run_append depth (x ∷ xs) ys less = by (nat_lt depth x.depth) less (run_append depth xs ys)
  where
    by : (b : Bool) → (if b then 1 + run_len depth xs else 0) < suc (length xs) → (run_len depth xs < length xs → run_len depth (xs ++ ys) ≡ run_len depth xs)
        → (if b then 1 + run_len depth (xs ++ ys) else 0) ≡ (if b then 1 + run_len depth xs else 0)
    by false less rest = refl
    by true less rest = let r = rest (omega (arith, less)) in omega (arith, r)

pub run_through : (depth : ℕ) (xs ys : List Node) → length xs ≤ run_len depth xs → run_len depth (xs ++ ys) ≡ run_len depth xs + run_len depth ys
run_through depth [] ys all = omega arith
run_through depth (x ∷ xs) ys all = by (nat_lt depth x.depth) all (run_through depth xs ys)
  where
    by : (b : Bool) → suc (length xs) ≤ (if b then 1 + run_len depth xs else 0) → (length xs ≤ run_len depth xs → run_len depth (xs ++ ys) ≡ run_len depth xs + run_len depth ys)
        → (if b then 1 + run_len depth (xs ++ ys) else 0) ≡ (if b then 1 + run_len depth xs else 0) + run_len depth ys
    by false all rest = absurd (omega (arith, all))
    by true all rest = let r = rest (omega (arith, all)) in omega (arith, r)

-- a run that goes through whole blocks, one block more
pub run_block_on : (depth : ℕ) (bs : List (List Node)) (k here : ℕ) (b : List Node) → k < length bs → b ≡ get_or bs k b → here ≡ run_len depth b → length b ≤ here
    → run_len depth (nodes_in (drop k bs)) ≡ here + run_len depth (nodes_in (drop (k + 1) bs))
run_block_on depth bs k here b within is run all =
    let same = as_read bs k b within is in
    ap (run_len depth) (from_block bs k within) ∙ ap (λ x. run_len depth (x ++ nodes_in (drop (k + 1) bs))) (sym same)
    ∙ run_through depth b (nodes_in (drop (k + 1) bs)) (omega (arith, run, all)) ∙ ap (λ n. n + run_len depth (nodes_in (drop (k + 1) bs))) (sym run)

-- and one that ends in it
pub run_block_ends : (depth : ℕ) (bs : List (List Node)) (k here : ℕ) (b : List Node) → k < length bs → b ≡ get_or bs k b → here ≡ run_len depth b → here < length b
    → run_len depth (nodes_in (drop k bs)) ≡ here
run_block_ends depth bs k here b within is run less =
    let same = as_read bs k b within is in
    ap (run_len depth) (from_block bs k within) ∙ ap (λ x. run_len depth (x ++ nodes_in (drop (k + 1) bs))) (sym same)
    ∙ run_append depth b (nodes_in (drop (k + 1) bs)) (omega (arith, run, less)) ∙ sym run

pub run_of_none : (depth : ℕ) (bs : List (List Node)) (k : ℕ) → length bs ≤ k → run_len depth (nodes_in (drop k bs)) ≡ 0
run_of_none depth bs k upto = ap (λ l. run_len depth (nodes_in l)) (drop_all k bs upto)

-- ---- the last that is less deep

-- of the nodes up to the end of a block
pub last_block : (depth : ℕ) (bs : List (List Node)) (k : ℕ) (b : List Node) → k < length bs → b ≡ get_or bs k b
    → last_less depth (nodes_in (take (k + 1) bs)) ≡ later (length (nodes_in (take k bs))) (last_less depth b) (last_less depth (nodes_in (take k bs)))
last_block depth bs k b within is =
    ap (last_less depth) (to_block bs k within) ∙ ap (λ x. last_less depth (nodes_in (take k bs) ++ x)) (sym (as_read bs k b within is)) ∙ last_append depth (nodes_in (take k bs)) b

-- of those before a seat
pub last_seat : (depth : ℕ) (bs : List (List Node)) (k off i : ℕ) → k < length bs → off ≤ length (get_or bs k []) → length (nodes_in (take k bs)) + off ≡ i
    → last_less depth (take i (nodes_in bs)) ≡ later (length (nodes_in (take k bs))) (last_less depth (take off (get_or bs k []))) (last_less depth (nodes_in (take k bs)))
last_seat depth bs k off i within inside before =
    ap (λ n. last_less depth (take n (nodes_in bs))) (sym before) ∙ ap (last_less depth) (before_seat bs k off within inside) ∙ last_append depth (nodes_in (take k bs)) (take off (get_or bs k []))

-- it stands in the list
pub last_within : (depth : ℕ) (ns : List Node) (r : ℕ) → last_less depth ns ≡ Some r → r < length ns
last_within depth ns r is = (some_says depth ns r is).within

-- a block that is read from the same blocks
pub read_of : (items bs : List (List Node)) (k : ℕ) (b : List Node) → items ≡ bs → b ≡ get_or items k b → b ≡ get_or bs k b
read_of items bs k b same is = is ∙ ap (λ l. get_or l k b) same

-- what is behind a node
pub behind_node : (bs : List (List Node)) (i : ℕ) (seat : Seat) (b : List Node) → IsSeat bs i seat → b ≡ get_or bs seat.block [] → seat.offset < length (get_or bs seat.block [])
    → drop (i + 1) (nodes_in bs) ≡ drop (seat.offset + 1) b ++ nodes_in (drop (seat.block + 1) bs)
behind_node bs i seat b is read inside =
    let before = is.before in
    let next : i + 1 ≡ length (nodes_in (take seat.block bs)) + (seat.offset + 1) = omega (arith, before) in
    ap (λ n. drop n (nodes_in bs)) next ∙ behind_seat bs seat.block (seat.offset + 1) is.within (omega (arith, inside))
    ∙ ap (λ x. drop (seat.offset + 1) x ++ nodes_in (drop (seat.block + 1) bs)) (sym read)

-- ---- the position of a place

module _ (test : Node → Bool) where
  pub found_within : (b : List Node) (off : ℕ) → position test b ≡ Some off → off < length b
  found_within b off found = (position-Some test b off (record { place = record { space = 0; page = 0 }; depth = 0 }) found).0

  -- it stands in a block, and in none before
  pub found_in_block : (bs : List (List Node)) (k : ℕ) (b : List Node) (off : ℕ) → k < length bs → b ≡ get_or bs k b → position test (nodes_in (take k bs)) ≡ None → position test b ≡ Some off
      → position test (nodes_in bs) ≡ Some (length (nodes_in (take k bs)) + off)
  found_in_block bs k b off within is none found =
      let rest = nodes_in (drop (k + 1) bs) in
      ap (position test) (three bs k within) ∙ ap (λ x. position test (nodes_in (take k bs) ++ (x ++ rest))) (sym (as_read bs k b within is))
      ∙ found_second test (nodes_in (take k bs)) (b ++ rest) none ∙ ap (option_map (λ r. length (nodes_in (take k bs)) + r)) (found_first test b rest off found)

  -- it stands in none up to the end of a block
  pub none_in_block : (bs : List (List Node)) (k : ℕ) (b : List Node) → k < length bs → b ≡ get_or bs k b → position test (nodes_in (take k bs)) ≡ None → position test b ≡ None
      → position test (nodes_in (take (k + 1) bs)) ≡ None
  none_in_block bs k b within is none here =
      ap (position test) (to_block bs k within) ∙ ap (λ x. position test (nodes_in (take k bs) ++ x)) (sym (as_read bs k b within is))
      ∙ found_second test (nodes_in (take k bs)) b none ∙ ap (option_map (λ r. length (nodes_in (take k bs)) + r)) here

-- ---- one block back

pub record OneBack (bs : List (List Node)) (k : ℕ) (b : List Node) : Type 0 where
  pub counted : length (nodes_in (take k bs)) ≡ length (nodes_in (take (k - 1) bs)) + length b
  pub upto : length (nodes_in (take k bs)) ≤ length (nodes_in bs)
  pub last : (depth : ℕ) → last_less depth (nodes_in (take k bs)) ≡ later (length (nodes_in (take (k - 1) bs))) (last_less depth b) (last_less depth (nodes_in (take (k - 1) bs)))

pub one_back : (bs : List (List Node)) (k : ℕ) (b : List Node) → 0 < k → k ≤ length bs → b ≡ get_or bs (k - 1) b → OneBack bs k b
one_back bs k b some within is =
    let one : k - 1 + 1 ≡ k = omega (arith, some) in
    let less : k - 1 < length bs = omega (arith, some, within) in
    let all = counts bs (k - 1) b less is in
    let next = all.next in
    let same = ap (λ n. length (nodes_in (take n bs))) one in
    let cut = count_cut bs k in
    record {
      counted = omega (arith, next, same);
      upto = omega (arith, cut);
      last = λ depth. ap (λ n. last_less depth (nodes_in (take n bs))) (sym one) ∙ last_block depth bs (k - 1) b less is;
    }
