-- The directory: where shards stand while branches, leaves and shards are added.
use Rattle.std.proofs.Common.{◌≡◌, ◌∙◌, sym, ap, subst, arith, ℕ, zero, suc, ◌+◌, ◌-◌, ◌*◌, ◌/◌, ◌%◌, ◌^◌, ◌<◌, ◌≤◌, ◌⊎◌, inl, inr, Bool, true, false, refl, ◌==◌, nat_lt, List, ◌++◌, length, slice_index, slice_set}
use Rattle.std.specs.Prelude.{not, replicate, if◌then◌else◌}
use Rattle.std.specs.Int.{div_ceil}
use mathlib.Core.Logic.{∥∥₁_elim}
use Rattle.std.proofs.Math.Nat.{ℕ_set}
use Rattle.std.proofs.Math.Bridge.{le_prop}
use Rattle.std.proofs.lemmas.Bool.{eq-eqb, ne_eqb, eqb-true, ltb-true, ltb-false, lt-ltb}
use Rattle.std.proofs.lemmas.Bool.Decides.{nat_tests}
use Rattle.std.proofs.lemmas.Grind.{div_ceil_times}
use Rattle.std.proofs.lemmas.List.{length-append, length-replicate, length-set, get_or-set_same, get_or-set_other, get_or_past, get_or-replicate, get_or_append_left, get_or-append_right}
use Rattle.space.specs.Leaves.{nowhere, lone_leaf, alone, block_of, with_block, with_leaf, leaf_alone, in_branch, with_one, position_alone, or_else, slot_in, number_at, branch_at, entry_at, leaf_at, position_at, count_up, has_block, is_there, AreBlocks, AreLaid, laid, ArePlaced, placed, IsDirectory, IsFound}
use Rattle.space.specs.declared.directory.Directory.{Directory}
use Rattle.space.specs.Positions.{most_of, count_of, position_in, AreRuns, AreRunsOf}

pub same_or_not : (i j : ℕ) → (i ≡ j) ⊎ (i ≡ j → ⊥)
same_or_not i j = by (i == j) refl
  where
    by : (b : Bool) → (i == j) ≡ b → (i ≡ j) ⊎ (i ≡ j → ⊥)
    by true is = inl (eqb-true i j is)
    by false is = inr (λ same. cc (is, eq-eqb i j same))

pub positive : (n : ℕ) → (n ≡ 0 → ⊥) → 0 < n
positive zero some = absurd (some refl)
positive (suc n) some = omega arith

pub within_or_past : (i n : ℕ) → (i < n) ⊎ (n ≤ i)
within_or_past i n = by (nat_lt i n) refl
  where
    by : (b : Bool) → nat_lt i n ≡ b → (i < n) ⊎ (n ≤ i)
    by true is = inl (ltb-true i n is)
    by false is = inr (ltb-false i n is)

-- ---- how many numbers pass

abbrev one_more : Bool → ℕ
one_more b = if b then 1 else 0

at_most_one : (b : Bool) → one_more b ≤ 1
at_most_one true = let one : one_more true ≡ 1 = refl in omega (arith, one)
at_most_one false = let none : one_more false ≡ 0 = refl in omega (arith, none)

pub count_few : (f : ℕ → Bool) (n : ℕ) → count_up f n ≤ n
count_few f zero = omega arith
count_few f (suc n) = omega (arith, count_few f n, at_most_one (f n))

pub count_same : (f g : ℕ → Bool) (n : ℕ) → ((k : ℕ) → k < n → g k ≡ f k) → count_up g n ≡ count_up f n
count_same f g zero same = refl
count_same f g (suc n) same =
    ap (λ b. one_more b + count_up g n) (same n (omega arith)) ∙ ap (λ m. one_more (f n) + m) (count_same f g n (λ k less. same k (omega (arith, less))))

pub count_none : (f : ℕ → Bool) (n : ℕ) → ((k : ℕ) → k < n → f k ≡ false) → count_up f n ≡ 0
count_none f zero none = refl
count_none f (suc n) none =
    let last : one_more (f n) ≡ 0 = ap one_more (none n (omega arith)) in
    let rest : count_up f n ≡ 0 = count_none f n (λ k less. none k (omega (arith, less))) in
    omega (arith, last, rest)

pub count_all : (f : ℕ → Bool) (n : ℕ) → ((k : ℕ) → k < n → f k ≡ true) → count_up f n ≡ n
count_all f zero all = refl
count_all f (suc n) all =
    let last : one_more (f n) ≡ 1 = ap one_more (all n (omega arith)) in
    let rest : count_up f n ≡ n = count_all f n (λ k less. all k (omega (arith, less))) in
    omega (arith, last, rest)

pub count_more : (f g : ℕ → Bool) (n k : ℕ) → k < n → f k ≡ false → g k ≡ true → ((j : ℕ) → (j ≡ k → ⊥) → g j ≡ f j) → count_up g n ≡ count_up f n + 1
count_more f g zero k less was is others = absurd (omega (arith, less))
count_more f g (suc n) k less was is others = elim (same_or_not n k) as (λ _. count_up g (suc n) ≡ count_up f (suc n) + 1) [
  | inl same ↦
      let below : count_up g n ≡ count_up f n = count_same f g n (λ j j_less. others j (λ j_is. absurd (omega (arith, j_less, j_is, same)))) in
      let now : g n ≡ true = ap g same ∙ is in
      let before : f n ≡ false = ap f same ∙ was in
      let one : one_more (g n) ≡ 1 = ap one_more now in
      let none : one_more (f n) ≡ 0 = ap one_more before in
      omega (arith, one, none, below)
  | inr differ ↦
      let below : count_up g n ≡ count_up f n + 1 = count_more f g n k (omega (arith, less, differ)) was is others in
      let last : one_more (g n) ≡ one_more (f n) = ap one_more (others n differ) in
      omega (arith, last, below)
]

-- where one does not pass, fewer do
count_less : (f : ℕ → Bool) (n k : ℕ) → k < n → f k ≡ false → count_up f n < n
count_less f n k less was =
    let with_it : ℕ → Bool = λ j. if j == k then true else f j in
    let more = count_more f with_it n k less was (ap (λ b. if b then true else f k) (eq-eqb k k refl)) (λ j differ. ap (λ b. if b then true else f j) (ne_eqb j k differ)) in
    omega (arith, more, count_few with_it n)

-- ---- entries that name a block

pub block_low : (limit entry : ℕ) → entry < limit → block_of limit entry ≡ entry
block_low limit entry low = grind (arith, nat_tests)

pub block_high : (limit entry : ℕ) → limit ≤ entry → block_of limit entry ≡ 0
block_high limit entry high = grind (arith, nat_tests)

-- an entry that names a block of its own is below the limit
pub block_is : (limit entry : ℕ) → 0 < block_of limit entry → (entry < limit) × (block_of limit entry ≡ entry)
block_is limit entry some = grind (arith, nat_tests)

-- ---- entries with one leaf alone

leaf_low : (entry run : ℕ) → entry < lone_leaf → leaf_alone entry run ≡ 0
leaf_low entry run low = grind (arith, nat_tests)

leaf_high : (entry run : ℕ) → alone ≤ entry → leaf_alone entry run ≡ 0
leaf_high entry run high = grind (arith, nat_tests)

leaf_other : (entry run : ℕ) → (entry % 256 / 16 ≡ run % 16 → ⊥) → leaf_alone entry run ≡ 0
leaf_other entry run differ = grind (arith, nat_tests)

-- the entry with a leaf
leaf_is_there : (leaf run : ℕ) → leaf < 2 ^ 20 → leaf_alone (with_leaf leaf run) run ≡ leaf
leaf_is_there leaf run few = grind (arith, nat_tests)

leaf_elsewhere : (leaf run i : ℕ) → (i % 16 ≡ run % 16 → ⊥) → leaf_alone (with_leaf leaf run) i ≡ 0
leaf_elsewhere leaf run i differ = grind (arith, nat_tests)

-- ---- entries with one shard alone

alone_low : (entry shard : ℕ) → entry < alone → position_alone entry shard ≡ nowhere
alone_low entry shard low = grind (arith, nat_tests)

alone_other : (entry shard : ℕ) → (entry % 256 ≡ shard % 256 → ⊥) → position_alone entry shard ≡ nowhere
alone_other entry shard differ = grind (arith, nat_tests)

one_high : (position shard : ℕ) → alone ≤ with_one position shard
one_high position shard = omega arith

one_is_there : (position shard : ℕ) → position_alone (with_one position shard) shard ≡ position
one_is_there position shard = grind (arith, nat_tests)

one_elsewhere : (position shard other : ℕ) → (other % 256 ≡ shard % 256 → ⊥) → position_alone (with_one position shard) other ≡ nowhere
one_elsewhere position shard other differ = grind (arith, nat_tests)

-- ---- what a branch has in place of such an entry: the same leaf, and the same shard

leaf_in_branch : (entry run : ℕ) → lone_leaf ≤ entry → entry % 256 / 16 ≡ run % 16 → block_of alone (in_branch entry) ≡ leaf_alone entry run
leaf_in_branch entry run high same = grind (arith, nat_tests)

alone_in_branch : (entry shard : ℕ) → position_alone (in_branch entry) shard ≡ position_alone entry shard
alone_in_branch entry shard = grind (arith, nat_tests)

same_sources : (p q : ℕ) (r s : ℕ) (m n : ℕ) → p ≡ q → r ≡ s → m ≡ n → or_else p (or_else r m) ≡ or_else q (or_else s n)
same_sources p q r s m n first entry number = ap (λ x. or_else x (or_else r m)) first ∙ ap (λ x. or_else q (or_else x m)) entry ∙ ap (λ x. or_else q (or_else s x)) number

-- an entry with one shard tells it for a run of 256 as for a run of 16
alone_moved : (entry low number shard : ℕ) → low < alone → or_else nowhere (or_else (position_alone entry shard) number) ≡ or_else (position_alone entry shard) (or_else (position_alone low shard) number)
alone_moved entry low number shard small = grind (arith, nat_tests)

-- where entries and numbers of a shard are the same, so is its position
same_position : (firsts entries numbers branches leaves positions : List ℕ) (shard : ℕ) → slice_index firsts (shard / 256) ≡ slice_index branches (shard / 256)
    → entry_at firsts entries (shard / 16) ≡ entry_at branches leaves (shard / 16)
    → number_at (leaf_at firsts entries) numbers shard ≡ number_at (leaf_at branches leaves) positions shard
    → position_at firsts entries numbers shard ≡ position_at branches leaves positions shard
same_position firsts entries numbers branches leaves positions shard first entry number =
    same_sources (position_alone (slice_index firsts (shard / 256)) shard) (position_alone (slice_index branches (shard / 256)) shard)
    (position_alone (entry_at firsts entries (shard / 16)) shard) (position_alone (entry_at branches leaves (shard / 16)) shard)
    (number_at (leaf_at firsts entries) numbers shard) (number_at (leaf_at branches leaves) positions shard)
    (ap (λ e. position_alone e shard) first) (ap (λ e. position_alone e shard) entry) number

-- where no entry has the shard alone, its position is that in its leaf
pub by_numbers : (branches leaves positions : List ℕ) (shard : ℕ) → slice_index branches (shard / 256) < alone → entry_at branches leaves (shard / 16) < alone
    → position_at branches leaves positions shard ≡ number_at (leaf_at branches leaves) positions shard
by_numbers branches leaves positions shard branch_low entry_low =
    grind (arith, nat_tests)

-- the leaf of a run of 16 whose run of 256 has a branch, or nothing
pub leaf_of_branch : (branches leaves : List ℕ) (run : ℕ) → slice_index branches (run / 16) < lone_leaf → leaf_at branches leaves run ≡ block_of alone (entry_at branches leaves run)
leaf_of_branch branches leaves run low = omega (arith, leaf_low (slice_index branches (run / 16)) run low)

-- where entries are the same, so is the leaf
same_leaf : (firsts entries branches leaves : List ℕ) (run : ℕ) → leaf_alone (slice_index firsts (run / 16)) run ≡ leaf_alone (slice_index branches (run / 16)) run
    → entry_at firsts entries run ≡ entry_at branches leaves run → leaf_at firsts entries run ≡ leaf_at branches leaves run
same_leaf firsts entries branches leaves run first entry = omega (arith, first, ap (block_of alone) entry)

-- ---- numbers in blocks of sixteen

read_filled_with : (n i x : ℕ) → i < n → slice_index (replicate n x) i ≡ x
read_filled_with n i x within = get_or-replicate n i x 0 within

-- no run has a block of its own
pub no_blocks : (absent runs : ℕ) (block : ℕ → ℕ) (numbers : List ℕ) → ((run : ℕ) → block run ≡ 0) → numbers ≡ replicate 16 absent → AreBlocks absent runs block numbers
no_blocks absent runs block numbers first numbers_are = record {
  past = λ run past. first run;
  how_many =
      let none : count_up (has_block block) runs ≡ 0 = count_none (has_block block) runs (λ k less. ap (nat_lt 0) (first k)) in
      omega (arith, none, long);
  within = λ run. omega (arith, long, first run);
  own = λ i j some same. absurd (omega (arith, some, first i));
  empty = λ slot less. ap (λ xs. slice_index xs slot) numbers_are ∙ read_filled_with 16 slot absent less;
}
  where
    long : length numbers ≡ 16
    long = ap length numbers_are ∙ length-replicate 16 absent

-- the same blocks, told in another way
pub same_blocks : (absent runs : ℕ) (block after : ℕ → ℕ) (numbers : List ℕ) → AreBlocks absent runs block numbers → ((run : ℕ) → after run ≡ block run) → AreBlocks absent runs after numbers
same_blocks absent runs block after numbers found same = record {
  past = λ run past. same run ∙ found.past run past;
  how_many = found.how_many ∙ ap (λ n. (n + 1) * 16) (sym (count_same (has_block block) (has_block after) runs (λ k less. ap (nat_lt 0) (same k))));
  within = λ run. rw (same run) (found.within run);
  own = λ i j some is. found.own i j (omega (arith, some, same i)) (sym (same i) ∙ is ∙ same j);
  empty = found.empty;
}

module _ (absent runs : ℕ) (block : ℕ → ℕ) (numbers : List ℕ) (found : AreBlocks absent runs block numbers) where
  pub slot_within : (key : ℕ) → slot_in block key < length numbers
  slot_within key = omega (arith, found.within (key / 16))

  -- keys with one slot, in a block of their own, are one
  slot_apart : (j k : ℕ) → 0 < block (k / 16) → slot_in block j ≡ slot_in block k → j ≡ k
  slot_apart j k some same =
      let one : block (k / 16) ≡ block (j / 16) = omega (arith, same) in
      let run : k / 16 ≡ j / 16 = found.own (k / 16) (j / 16) some one in
      omega (arith, run, one, same)

  -- how many there can be
  blocks_few : length numbers / 16 ≤ runs + 1
  blocks_few = omega (arith, found.how_many, count_few (has_block block) runs)

  -- ---- a block is added
  module _ (run : ℕ) (run_low : run < runs) (none : block run ≡ 0) (after : ℕ → ℕ) (there : after run ≡ length numbers / 16)
      (elsewhere : (i : ℕ) → (i ≡ run → ⊥) → after i ≡ block i) (more : List ℕ) (more_is : more ≡ numbers ++ replicate 16 absent) where
    longer : length more ≡ length numbers + 16
    longer = ap length more_is ∙ length-append numbers (replicate 16 absent) ∙ ap (λ n. length numbers + n) (length-replicate 16 absent)

    pub block_some : 0 < after run
    block_some = omega (arith, there, found.how_many)

    read_before : (slot : ℕ) → slot < length numbers → slice_index more slot ≡ slice_index numbers slot
    read_before slot within = ap (λ xs. slice_index xs slot) more_is ∙ get_or_append_left numbers (replicate 16 absent) 0 slot within

    pub same_numbers : (key : ℕ) → number_at after more key ≡ number_at block numbers key
    same_numbers key = elim (same_or_not (key / 16) run) as (λ _. number_at after more key ≡ number_at block numbers key) [
      | inl same ↦
          let here : after (key / 16) ≡ length numbers / 16 = ap after same ∙ there in
          let slot : slot_in after key ≡ length numbers + key % 16 = omega (arith, here, found.how_many) in
          let was : slot_in block key ≡ key % 16 = let block_was : block (key / 16) ≡ 0 = ap block same ∙ none in omega (arith, block_was) in
          ap (slice_index more) slot ∙ ap (λ xs. slice_index xs (length numbers + key % 16)) more_is
          ∙ get_or-append_right numbers (replicate 16 absent) (length numbers) (length numbers + key % 16) 0 refl (omega arith)
          ∙ read_filled_with 16 (length numbers + key % 16 - length numbers) absent (omega arith)
          ∙ sym (ap (slice_index numbers) was ∙ found.empty (key % 16) (omega arith))
      | inr differ ↦
          let slot : slot_in after key ≡ slot_in block key = ap (λ n. n * 16 + key % 16) (elsewhere (key / 16) differ) in
          ap (slice_index more) slot ∙ read_before (slot_in block key) (slot_within key)
    ]

    pub block_added : AreBlocks absent runs after more
    block_added = record {
      past = λ i past. elsewhere i (λ same. absurd (omega (arith, same, past, run_low))) ∙ found.past i past;
      how_many =
          let one : count_up (has_block after) runs ≡ count_up (has_block block) runs + 1 =
          count_more (has_block block) (has_block after) runs run run_low (ap (nat_lt 0) none) (lt-ltb 0 (after run) block_some) (λ j differ. ap (nat_lt 0) (elsewhere j differ)) in
          omega (arith, longer, found.how_many, one);
      within = λ i. elim (same_or_not i run) as (λ _. after i * 16 + 16 ≤ length more) [
        | inl same ↦ let here : after i ≡ length numbers / 16 = ap after same ∙ there in omega (arith, here, longer)
        | inr differ ↦ omega (arith, elsewhere i differ, found.within i, longer)
      ];
      own = λ i j some same. elim (same_or_not i run) as (λ _. i ≡ j) [
        | inl i_is ↦ elim (same_or_not j run) as (λ _. i ≡ j) [
          | inl j_is ↦ i_is ∙ sym j_is
          | inr j_differs ↦
              let here : after i ≡ length numbers / 16 = ap after i_is ∙ there in
              absurd (omega (arith, here, same, elsewhere j j_differs, found.within j, found.how_many))
        ]
        | inr i_differs ↦ elim (same_or_not j run) as (λ _. i ≡ j) [
          | inl j_is ↦
              let here : after j ≡ length numbers / 16 = ap after j_is ∙ there in
              absurd (omega (arith, here, same, elsewhere i i_differs, found.within i, found.how_many))
          | inr j_differs ↦ found.own i j (omega (arith, some, elsewhere i i_differs)) (sym (elsewhere i i_differs) ∙ same ∙ elsewhere j j_differs)
        ]
      ];
      empty = λ slot within. read_before slot (omega (arith, within, found.how_many)) ∙ found.empty slot within;
    }

  -- ---- a number is put at a key whose block is its own
  module _ (key : ℕ) (some : 0 < block (key / 16)) (number : ℕ) (after : List ℕ) (after_is : after ≡ slice_set numbers (slot_in block key) number) where
    pub number_there : number_at block after key ≡ number
    number_there = ap (λ xs. slice_index xs (slot_in block key)) after_is ∙ get_or-set_same numbers (slot_in block key) number 0 (slot_within key)

    pub numbers_elsewhere : (other : ℕ) → (other ≡ key → ⊥) → number_at block after other ≡ number_at block numbers other
    numbers_elsewhere other differ =
        ap (λ xs. slice_index xs (slot_in block other)) after_is
        ∙ get_or-set_other numbers (slot_in block key) (slot_in block other) number 0 (λ same. differ (slot_apart other key some same))

    as_long : length after ≡ length numbers
    as_long = ap length after_is ∙ length-set numbers (slot_in block key) number

    pub number_put : AreBlocks absent runs block after
    number_put = record {
      past = found.past;
      how_many = as_long ∙ found.how_many;
      within = λ run. rw as_long (found.within run);
      own = found.own;
      empty = λ slot within.
          ap (λ xs. slice_index xs slot) after_is ∙ get_or-set_other numbers (slot_in block key) slot number 0 (λ same. absurd (omega (arith, same, within, some))) ∙ found.empty slot within;
    }

-- ---- a block is added, with one number in it
module _ (absent runs : ℕ) (block : ℕ → ℕ) (numbers : List ℕ) (found : AreBlocks absent runs block numbers) (run : ℕ) (run_low : run < runs) (none : block run ≡ 0) (after : ℕ → ℕ)
    (there : after run ≡ length numbers / 16) (elsewhere : (i : ℕ) → (i ≡ run → ⊥) → after i ≡ block i) (key number : ℕ) (of : key / 16 ≡ run) (more : List ℕ)
    (more_is : more ≡ with_block absent numbers (key % 16) number) where
  wider : AreBlocks absent runs after (numbers ++ replicate 16 absent)
  wider = block_added absent runs block numbers found run run_low none after there elsewhere (numbers ++ replicate 16 absent) refl

  own_block : 0 < after (key / 16)
  own_block = omega (arith, ap after of, there, found.how_many)

  number_is : more ≡ slice_set (numbers ++ replicate 16 absent) (slot_in after key) number
  number_is = let slot : length numbers + key % 16 ≡ slot_in after key = omega (arith, ap after of, there, found.how_many) in more_is ∙ ap (λ at. slice_set (numbers ++ replicate 16 absent) at number) slot

  one_added : AreBlocks absent runs after more
  one_added = number_put absent runs after (numbers ++ replicate 16 absent) wider key own_block number more number_is

  one_now : number_at after more key ≡ number
  one_now = number_there absent runs after (numbers ++ replicate 16 absent) wider key own_block number more number_is

  others_now : (other : ℕ) → (other ≡ key → ⊥) → number_at after more other ≡ number_at block numbers other
  others_now other differ =
      numbers_elsewhere absent runs after (numbers ++ replicate 16 absent) wider key own_block number more number_is other differ
      ∙ same_numbers absent runs block numbers found run run_low none after there elsewhere (numbers ++ replicate 16 absent) refl other

-- ---- a new directory

pub of_branches : (branches leaves positions : List ℕ) → AreLaid branches leaves positions → AreBlocks 0 (length branches) (branch_at branches) leaves
of_branches branches leaves positions (laid found_branches found_leaves) = found_branches

pub of_leaves : (branches leaves positions : List ℕ) → AreLaid branches leaves positions → AreBlocks nowhere (length branches * 16) (leaf_at branches leaves) positions
of_leaves branches leaves positions (laid found_branches found_leaves) = found_leaves

pub shard_count : (most count : ℕ) (branches leaves positions : List ℕ) → ArePlaced most count branches leaves positions → count ≡ count_up (is_there branches leaves positions) most
shard_count most count branches leaves positions (placed so_many below own) = so_many

pub below_count : (most count : ℕ) (branches leaves positions : List ℕ) → ArePlaced most count branches leaves positions
    → (shard : ℕ) → (position_at branches leaves positions shard ≡ nowhere → ⊥) → position_at branches leaves positions shard < count
below_count most count branches leaves positions (placed so_many below own) = below

pub are_apart : (most count : ℕ) (branches leaves positions : List ℕ) → ArePlaced most count branches leaves positions
    → (j k : ℕ) → position_at branches leaves positions j < count → position_at branches leaves positions j ≡ position_at branches leaves positions k → j ≡ k
are_apart most count branches leaves positions (placed so_many below own) = own

-- where no entry has a shard alone, and no leaf has one
none_at : (branches leaves positions : List ℕ) → ((run : ℕ) → slice_index branches run < alone) → ((run : ℕ) → entry_at branches leaves run < alone)
    → ((slot : ℕ) → slot < length positions → slice_index positions slot ≡ nowhere)
    → ((run : ℕ) → leaf_at branches leaves run * 16 + 16 ≤ length positions) → (shard : ℕ) → position_at branches leaves positions shard ≡ nowhere
none_at branches leaves positions branch_low entry_low filled within shard =
    by_numbers branches leaves positions shard (branch_low (shard / 256)) (entry_low (shard / 16)) ∙ filled (slot_in (leaf_at branches leaves) shard) (omega (arith, within (shard / 16)))

of_no_shards : (most : ℕ) (branches leaves positions : List ℕ) → most ≤ 2 ^ 23 → length branches ≡ div_ceil most 256 → AreBlocks 0 (length branches) (branch_at branches) leaves
    → AreBlocks nowhere (length branches * 16) (leaf_at branches leaves) positions → ((shard : ℕ) → position_at branches leaves positions shard ≡ nowhere) → IsDirectory most 0 branches leaves positions
of_no_shards most branches leaves positions few runs of_branches of_leaves none = record {
  few = few;
  runs = runs;
  are_laid = laid of_branches of_leaves;
  are_placed =
      placed (sym (count_none (is_there branches leaves positions) most (λ k less. ap (λ n. not (n == nowhere)) (none k)))) (λ shard there. absurd (there (none shard)))
      (λ j k there same. absurd (omega (arith, there)));
}

-- one with the empty branch and the empty leaf alone
module _ (most : ℕ) (branches leaves positions : List ℕ) (few : most ≤ 2 ^ 23) (branches_are : branches ≡ replicate (div_ceil most 256) 0)
    (leaves_are : leaves ≡ replicate 16 0) (positions_are : positions ≡ replicate 16 nowhere) where
  no_entry : (run : ℕ) → slice_index branches run ≡ 0
  no_entry run = ap (λ xs. slice_index xs run) branches_are ∙ by (within_or_past run (div_ceil most 256))
    where
      by : (run < div_ceil most 256) ⊎ (div_ceil most 256 ≤ run) → slice_index (replicate (div_ceil most 256) 0) run ≡ 0
      by (inl within) = read_filled_with (div_ceil most 256) run 0 within
      by (inr past) = get_or_past (replicate (div_ceil most 256) 0) run 0 (omega (arith, length-replicate {A = ℕ} (div_ceil most 256) 0, past))

  no_branch : (run : ℕ) → branch_at branches run ≡ 0
  no_branch run = ap (block_of lone_leaf) (no_entry run)

  no_branches : AreBlocks 0 (length branches) (branch_at branches) leaves
  no_branches = no_blocks 0 (length branches) (branch_at branches) leaves no_branch leaves_are

  no_leaf_entry : (run : ℕ) → entry_at branches leaves run ≡ 0
  no_leaf_entry run = let slot : slot_in (branch_at branches) run ≡ run % 16 = omega (arith, no_branch (run / 16)) in ap (slice_index leaves) slot ∙ no_branches.empty (run % 16) (omega arith)

  no_leaf : (run : ℕ) → leaf_at branches leaves run ≡ 0
  no_leaf run = leaf_of_branch branches leaves run (omega (arith, no_entry (run / 16))) ∙ ap (block_of alone) (no_leaf_entry run)

  no_leaves : AreBlocks nowhere (length branches * 16) (leaf_at branches leaves) positions
  no_leaves = no_blocks nowhere (length branches * 16) (leaf_at branches leaves) positions no_leaf positions_are

  pub sparse_nowhere : (shard : ℕ) → position_at branches leaves positions shard ≡ nowhere
  sparse_nowhere shard =
      let slot : slot_in (leaf_at branches leaves) shard ≡ shard % 16 = omega (arith, no_leaf (shard / 16)) in
      by_numbers branches leaves positions shard (omega (arith, no_entry (shard / 256))) (omega (arith, no_leaf_entry (shard / 16)))
      ∙ ap (slice_index positions) slot ∙ no_leaves.empty (shard % 16) (omega arith)

  pub sparse_directory : IsDirectory most 0 branches leaves positions
  sparse_directory = of_no_shards most branches leaves positions few (ap length branches_are ∙ length-replicate (div_ceil most 256) 0) no_branches no_leaves sparse_nowhere

-- ---- a directory as it grows
module _ (most count : ℕ) (branches leaves positions : List ℕ) (found : IsDirectory most count branches leaves positions) where
  pub branch_blocks : AreBlocks 0 (length branches) (branch_at branches) leaves
  branch_blocks = of_branches branches leaves positions found.are_laid

  pub leaf_blocks : AreBlocks nowhere (length branches * 16) (leaf_at branches leaves) positions
  leaf_blocks = of_leaves branches leaves positions found.are_laid

  so_many : count ≡ count_up (is_there branches leaves positions) most
  so_many = shard_count most count branches leaves positions found.are_placed

  pub below : (shard : ℕ) → (position_at branches leaves positions shard ≡ nowhere → ⊥) → position_at branches leaves positions shard < count
  below = below_count most count branches leaves positions found.are_placed

  pub apart : (j k : ℕ) → position_at branches leaves positions j < count → position_at branches leaves positions j ≡ position_at branches leaves positions k → j ≡ k
  apart = are_apart most count branches leaves positions found.are_placed

  -- no more shards are there than there can be
  pub few_there : count ≤ most
  few_there = rw so_many (count_few (is_there branches leaves positions) most)

  -- the run of a shard
  pub run_within : (shard : ℕ) → shard < most → shard / 256 < length branches
  run_within shard less = omega (arith, less, found.runs, div_ceil_times most 256 (omega arith))

  -- branches and leaves can have a number
  pub runs_few : length branches ≤ 2 ^ 15
  runs_few = omega (arith, found.runs, found.few, div_ceil_times most 256 (omega arith))

  -- a run without a branch has no leaf, and no entry for one
  pub no_entry_of : (run : ℕ) → branch_at branches (run / 16) ≡ 0 → entry_at branches leaves run ≡ 0
  no_entry_of run none =
      let slot : slot_in (branch_at branches) run ≡ run % 16 = omega (arith, none) in
      ap (slice_index leaves) slot ∙ branch_blocks.empty (run % 16) (omega arith)

  -- its leaf is the one of the run of 256
  pub leaf_without_branch : (run : ℕ) → lone_leaf ≤ slice_index branches (run / 16) → leaf_at branches leaves run ≡ leaf_alone (slice_index branches (run / 16)) run
  leaf_without_branch run high = omega (arith, ap (block_of alone) (no_entry_of run (block_high lone_leaf (slice_index branches (run / 16)) high)))

  pub no_leaf_of : (run : ℕ) → slice_index branches (run / 16) ≡ 0 → leaf_at branches leaves run ≡ 0
  no_leaf_of run none =
      leaf_of_branch branches leaves run (omega (arith, none)) ∙ ap (block_of alone) (no_entry_of run (ap (block_of lone_leaf) none))

  -- a run of 16 with an entry of its own has a branch
  pub branch_if : (run : ℕ) → 0 < entry_at branches leaves run → 0 < branch_at branches (run / 16)
  branch_if run some = positive (branch_at branches (run / 16)) (λ none. absurd (omega (arith, some, no_entry_of run none)))

  -- of a run without a leaf no shard is in a leaf
  pub no_number : (shard : ℕ) → leaf_at branches leaves (shard / 16) ≡ 0 → number_at (leaf_at branches leaves) positions shard ≡ nowhere
  no_number shard none =
      let slot : slot_in (leaf_at branches leaves) shard ≡ shard % 16 = omega (arith, none) in
      ap (slice_index positions) slot ∙ leaf_blocks.empty (shard % 16) (omega arith)

  -- the position of a shard whose run of 256 has one shard alone
  pub by_branch : (shard : ℕ) → alone ≤ slice_index branches (shard / 256) → position_at branches leaves positions shard ≡ position_alone (slice_index branches (shard / 256)) shard
  by_branch shard high =
      let of : shard / 16 / 16 ≡ shard / 256 = omega arith in
      let first : alone ≤ slice_index branches (shard / 16 / 16) = subst (λ run. alone ≤ slice_index branches run) (sym of) high in
      let nothing : entry_at branches leaves (shard / 16) ≡ 0 = no_entry_of (shard / 16) (block_high lone_leaf (slice_index branches (shard / 16 / 16)) (omega (arith, first))) in
      let no_leaf : leaf_at branches leaves (shard / 16) ≡ 0 = leaf_without_branch (shard / 16) (omega (arith, first)) ∙ leaf_high (slice_index branches (shard / 16 / 16)) (shard / 16) first in
      grind (arith, nat_tests, nothing, no_number shard no_leaf)

  -- of one whose run of 16 has no leaf
  pub by_entry : (shard : ℕ) → slice_index branches (shard / 256) < alone → leaf_at branches leaves (shard / 16) ≡ 0
      → position_at branches leaves positions shard ≡ position_alone (entry_at branches leaves (shard / 16)) shard
  by_entry shard low none = grind (arith, nat_tests, no_number shard none)

  -- beside the shard that an entry has alone none is there, of a run of 16 without a leaf
  pub none_beside : (shard entry : ℕ) → leaf_at branches leaves (shard / 16) ≡ 0 → (alone ≤ slice_index branches (shard / 256) → entry ≡ slice_index branches (shard / 256))
      → (slice_index branches (shard / 256) < alone → entry ≡ entry_at branches leaves (shard / 16)) → (shard % 16 ≡ entry % 16 → ⊥) → position_at branches leaves positions shard ≡ nowhere
  none_beside shard entry none first own differ =
      let apart : entry % 256 ≡ shard % 256 → ⊥ = λ same. differ (omega (arith, same)) in
      elim (within_or_past (slice_index branches (shard / 256)) alone) as (λ _. position_at branches leaves positions shard ≡ nowhere) [
        | inl low ↦ by_entry shard low none ∙ ap (λ e. position_alone e shard) (sym (own low)) ∙ alone_other entry shard apart
        | inr high ↦ by_branch shard high ∙ ap (λ e. position_alone e shard) (sym (first high)) ∙ alone_other entry shard apart
      ]

  -- a run of 16 with a leaf has no shard alone
  pub none_alone : (run : ℕ) → 0 < leaf_at branches leaves run → (slice_index branches (run / 16) < alone) × (entry_at branches leaves run < alone)
  none_alone run some = elim (within_or_past (slice_index branches (run / 16)) lone_leaf) as (λ _. (slice_index branches (run / 16) < alone) × (entry_at branches leaves run < alone)) [
    | inl low ↦ (omega (arith, low), (block_is alone (entry_at branches leaves run) (omega (arith, some, leaf_of_branch branches leaves run low))).0)
    | inr high ↦
        let nothing = no_entry_of run (block_high lone_leaf (slice_index branches (run / 16)) high) in
        let is = leaf_without_branch run high in
        elim (within_or_past (slice_index branches (run / 16)) alone) as (λ _. (slice_index branches (run / 16) < alone) × (entry_at branches leaves run < alone)) [
          | inl low ↦ (low, omega (arith, nothing))
          | inr one ↦ absurd (omega (arith, some, is, leaf_high (slice_index branches (run / 16)) run one))
        ]
  ]

  -- and one with a shard alone has no leaf
  pub no_leaf_beside : (run : ℕ) → alone ≤ entry_at branches leaves run → leaf_at branches leaves run ≡ 0
  no_leaf_beside run high = elim (same_or_not (leaf_at branches leaves run) 0) as (λ _. leaf_at branches leaves run ≡ 0) [
    | inl same ↦ same
    | inr differ ↦ absurd (omega (arith, high, (none_alone run (positive (leaf_at branches leaves run) differ)).1))
  ]

  -- of one whose run of 16 has a leaf
  pub by_leaf : (shard : ℕ) → 0 < leaf_at branches leaves (shard / 16) → position_at branches leaves positions shard ≡ number_at (leaf_at branches leaves) positions shard
  by_leaf shard some =
      let low = none_alone (shard / 16) some in
      let of : shard / 16 / 16 ≡ shard / 256 = omega arith in
      by_numbers branches leaves positions shard (subst (λ run. slice_index branches run < alone) of low.0) low.1

  -- of one whose run of 256 has one leaf alone
  lone_leaf_is : (shard : ℕ) → lone_leaf ≤ slice_index branches (shard / 256) → leaf_at branches leaves (shard / 16) ≡ leaf_alone (slice_index branches (shard / 256)) (shard / 16)
  lone_leaf_is shard high =
      let of : shard / 16 / 16 ≡ shard / 256 = omega arith in
      leaf_without_branch (shard / 16) (subst (λ run. lone_leaf ≤ slice_index branches run) (sym of) high) ∙ ap (λ run. leaf_alone (slice_index branches run) (shard / 16)) of

  pub lone_leaf_within : (shard : ℕ) → lone_leaf ≤ slice_index branches (shard / 256) → leaf_alone (slice_index branches (shard / 256)) (shard / 16) * 16 + shard % 16 < length positions
  lone_leaf_within shard high = omega (arith, lone_leaf_is shard high, leaf_blocks.within (shard / 16))

  pub by_lone_leaf : (shard : ℕ) → lone_leaf ≤ slice_index branches (shard / 256) → slice_index branches (shard / 256) < alone
      → position_at branches leaves positions shard ≡ slice_index positions (leaf_alone (slice_index branches (shard / 256)) (shard / 16) * 16 + shard % 16)
  by_lone_leaf shard high low =
      let of : shard / 16 / 16 ≡ shard / 256 = omega arith in
      let nothing : entry_at branches leaves (shard / 16) ≡ 0 = no_entry_of (shard / 16) (ap (branch_at branches) of ∙ block_high lone_leaf (slice_index branches (shard / 256)) high) in
      by_numbers branches leaves positions shard low (omega (arith, nothing)) ∙ ap (λ n. slice_index positions (n * 16 + shard % 16)) (lone_leaf_is shard high)

  pub position_within : (shard : ℕ) → slot_in (leaf_at branches leaves) shard < length positions
  position_within = slot_within nowhere (length branches * 16) (leaf_at branches leaves) positions leaf_blocks

  pub leaf_within : (run : ℕ) → slot_in (branch_at branches) run < length leaves
  leaf_within = slot_within 0 (length branches) (branch_at branches) leaves branch_blocks

  -- the positions of a leaf are side by side
  pub read_in_leaf : (shard k leaf : ℕ) (read : List ℕ) → leaf ≡ leaf_at branches leaves (shard / 16) → 0 < leaf → shard % 16 + k < 16 → read ≡ positions
      → slice_index read (leaf * 16 + shard % 16 + k) ≡ position_at branches leaves positions (shard + k)
  read_in_leaf shard k leaf read is some low same =
      let first = leaf * 16 + shard % 16 in
      let run : (shard + k) / 16 ≡ shard / 16 = omega (arith, low) in
      let slot : slot_in (leaf_at branches leaves) (shard + k) ≡ first + k = omega (arith, ap (leaf_at branches leaves) run, is, low, run) in
      let own = by_leaf (shard + k) (omega (arith, ap (leaf_at branches leaves) run, is, some)) in
      ap (λ xs. slice_index xs (first + k)) same ∙ sym (own ∙ ap (slice_index positions) slot)

  -- where each shard is where it was
  same_places : (after more_leaves more : List ℕ) → length after ≡ length branches → AreBlocks 0 (length after) (branch_at after) more_leaves
      → AreBlocks nowhere (length after * 16) (leaf_at after more_leaves) more
      → ((shard : ℕ) → position_at after more_leaves more shard ≡ position_at branches leaves positions shard) → IsDirectory most count after more_leaves more
  same_places after more_leaves more as_many of_branches of_leaves same = record {
    few = found.few;
    runs = as_many ∙ found.runs;
    are_laid = laid of_branches of_leaves;
    are_placed =
        placed (so_many ∙ sym (count_same (is_there branches leaves positions) (is_there after more_leaves more) most (λ k less. ap (λ n. not (n == nowhere)) (same k))))
        (λ shard there. rw (same shard) (below shard (λ is. there (same shard ∙ is)))) (λ j k there is. apart j k (subst (λ n. n < count) (same j) there) (sym (same j) ∙ is ∙ same k));
  }

  -- there is room for a shard that is not there
  pub fewer_there : (shard : ℕ) → shard < most → position_at branches leaves positions shard ≡ nowhere → count < most
  fewer_there shard low absent = omega (arith, so_many, count_less (is_there branches leaves positions) most shard low (ap (λ n. not (n == nowhere)) absent))

  pub few_branches : length leaves < 2 ^ 20
  few_branches = omega (arith, blocks_few 0 (length branches) (branch_at branches) leaves branch_blocks, runs_few)

  pub few_leaves : length positions < 2 ^ 24
  few_leaves = omega (arith, blocks_few nowhere (length branches * 16) (leaf_at branches leaves) positions leaf_blocks, runs_few)

  -- ---- a run of 256 gets a branch, which has the one leaf or the one shard that is there
  module _ (run : ℕ) (run_low : run < length branches) (entry : ℕ) (entry_is : slice_index branches run ≡ entry) (high : lone_leaf ≤ entry) (after more : List ℕ)
      (after_is : after ≡ slice_set branches run (length leaves / 16)) (more_is : more ≡ with_block 0 leaves (entry % 256 / 16) (in_branch entry)) where
    -- the run of 16 that it has
    abbrev key : ℕ
    key = run * 16 + entry % 256 / 16

    none : branch_at branches run ≡ 0
    none = ap (block_of lone_leaf) entry_is ∙ block_high lone_leaf entry high

    as_many : length after ≡ length branches
    as_many = ap length after_is ∙ length-set branches run (length leaves / 16)

    first_now : slice_index after run ≡ length leaves / 16
    first_now = ap (λ xs. slice_index xs run) after_is ∙ get_or-set_same branches run (length leaves / 16) 0 run_low

    firsts_elsewhere : (i : ℕ) → (i ≡ run → ⊥) → slice_index after i ≡ slice_index branches i
    firsts_elsewhere i differ = ap (λ xs. slice_index xs i) after_is ∙ get_or-set_other branches run i (length leaves / 16) 0 (λ same. differ same)

    branch_there : branch_at after run ≡ length leaves / 16
    branch_there = ap (block_of lone_leaf) first_now ∙ block_low lone_leaf (length leaves / 16) (omega (arith, few_branches))

    branches_elsewhere : (i : ℕ) → (i ≡ run → ⊥) → branch_at after i ≡ branch_at branches i
    branches_elsewhere i differ = ap (block_of lone_leaf) (firsts_elsewhere i differ)

    key_run : key / 16 ≡ run
    key_run = omega arith

    more_put : more ≡ with_block 0 leaves (key % 16) (in_branch entry)
    more_put = let place : entry % 256 / 16 ≡ key % 16 = omega arith in more_is ∙ ap (λ n. with_block 0 leaves n (in_branch entry)) place

    with_branch : AreBlocks 0 (length branches) (branch_at after) more
    with_branch =
        one_added 0 (length branches) (branch_at branches) leaves branch_blocks run run_low none (branch_at after) branch_there branches_elsewhere key (in_branch entry) key_run more more_put

    entry_there : entry_at after more key ≡ in_branch entry
    entry_there =
        one_now 0 (length branches) (branch_at branches) leaves branch_blocks run run_low none (branch_at after) branch_there branches_elsewhere key (in_branch entry) key_run more more_put

    entries_elsewhere : (i : ℕ) → (i ≡ key → ⊥) → entry_at after more i ≡ entry_at branches leaves i
    entries_elsewhere =
        others_now 0 (length branches) (branch_at branches) leaves branch_blocks run run_low none (branch_at after) branch_there branches_elsewhere key (in_branch entry) key_run more more_put

    was_none : (i : ℕ) → i / 16 ≡ run → entry_at branches leaves i ≡ 0
    was_none i same = no_entry_of i (ap (branch_at branches) same ∙ none)

    -- of a run of 16 of the run
    same_leaf_here : (i : ℕ) → i / 16 ≡ run → leaf_at after more i ≡ leaf_at branches leaves i
    same_leaf_here i here =
        let now = leaf_of_branch after more i (omega (arith, ap (slice_index after) here, first_now, few_branches)) in
        let was = leaf_without_branch i (omega (arith, ap (slice_index branches) here, entry_is, high)) ∙ ap (λ e. leaf_alone e i) (ap (slice_index branches) here ∙ entry_is) in
        let last : block_of alone (entry_at after more i) ≡ leaf_alone entry i = elim (same_or_not i key) as (λ _. block_of alone (entry_at after more i) ≡ leaf_alone entry i) [
          | inl same ↦ ap (block_of alone) (ap (entry_at after more) same ∙ entry_there) ∙ leaf_in_branch entry i high (omega (arith, same))
          | inr differ ↦ ap (block_of alone) (entries_elsewhere i differ ∙ was_none i here) ∙ sym (leaf_other entry i (λ same. differ (omega (arith, same, here))))
        ] in
        now ∙ last ∙ sym was

    same_leaves : (i : ℕ) → leaf_at after more i ≡ leaf_at branches leaves i
    same_leaves i = elim (same_or_not (i / 16) run) as (λ _. leaf_at after more i ≡ leaf_at branches leaves i) [
      | inl here ↦ same_leaf_here i here
      | inr apart ↦ same_leaf after more branches leaves i (ap (λ e. leaf_alone e i) (firsts_elsewhere (i / 16) apart)) (entries_elsewhere i (λ same. apart (omega (arith, same))))
    ]

    same_in_leaves : (shard : ℕ) → number_at (leaf_at after more) positions shard ≡ number_at (leaf_at branches leaves) positions shard
    same_in_leaves shard = ap (λ n. slice_index positions (n * 16 + shard % 16)) (same_leaves (shard / 16))

    -- of a shard of the run
    same_here : (shard : ℕ) → shard / 256 ≡ run → position_at after more positions shard ≡ position_at branches leaves positions shard
    same_here shard here =
        let nothing : entry_at branches leaves (shard / 16) ≡ 0 = was_none (shard / 16) (omega (arith, here)) in
        let first : slice_index branches (shard / 256) ≡ entry = ap (slice_index branches) here ∙ entry_is in
        let first_small : slice_index after (shard / 256) < alone = omega (arith, ap (slice_index after) here, first_now, few_branches) in
        let last : position_alone (entry_at after more (shard / 16)) shard ≡ position_alone entry shard = elim (same_or_not (shard / 16) key) as (λ _. position_alone (entry_at after more (shard / 16)) shard ≡ position_alone entry shard) [
          | inl same ↦ ap (λ e. position_alone e shard) (ap (entry_at after more) same ∙ entry_there) ∙ alone_in_branch entry shard
          | inr differ ↦
              alone_low (entry_at after more (shard / 16)) shard (omega (arith, entries_elsewhere (shard / 16) differ, nothing))
              ∙ sym (alone_other entry shard (λ same. differ (omega (arith, same, here))))
        ] in
        same_sources (position_alone (slice_index after (shard / 256)) shard) nowhere (position_alone (entry_at after more (shard / 16)) shard) (position_alone entry shard)
        (number_at (leaf_at after more) positions shard) (number_at (leaf_at branches leaves) positions shard) (alone_low (slice_index after (shard / 256)) shard first_small) last (same_in_leaves shard)
        ∙ alone_moved entry (entry_at branches leaves (shard / 16)) (number_at (leaf_at branches leaves) positions shard) shard (omega (arith, nothing))
        ∙ ap (λ e. or_else (position_alone e shard) (or_else (position_alone (entry_at branches leaves (shard / 16)) shard) (number_at (leaf_at branches leaves) positions shard))) (sym first)

    pub same_by_branch : (shard : ℕ) → position_at after more positions shard ≡ position_at branches leaves positions shard
    same_by_branch shard = elim (same_or_not (shard / 256) run) as (λ _. position_at after more positions shard ≡ position_at branches leaves positions shard) [
      | inl here ↦ same_here shard here
      | inr apart ↦
          same_position after more positions branches leaves positions shard (firsts_elsewhere (shard / 256) apart) (entries_elsewhere (shard / 16) (λ same. apart (omega (arith, same))))
          (same_in_leaves shard)
    ]

    pub branch_parted : IsDirectory most count after more positions
    branch_parted =
        same_places after more positions as_many (rw as_many with_branch)
        (rw as_many (same_blocks nowhere (length branches * 16) (leaf_at branches leaves) (leaf_at after more) positions leaf_blocks same_leaves)) same_by_branch

    pub first_parted : slice_index after run < lone_leaf
    first_parted = omega (arith, first_now, few_branches)

  -- ---- a run of 16 gets a leaf, which has the one shard that is there
  module _ (run : ℕ) (run_low : run < length branches * 16) (entry key : ℕ) (key_is : key ≡ run * 16 + entry % 16) (firsts entries more : List ℕ)
      (none : leaf_at branches leaves run ≡ 0) (there : leaf_at firsts entries run ≡ length positions / 16)
      (elsewhere : (i : ℕ) → (i ≡ run → ⊥) → leaf_at firsts entries i ≡ leaf_at branches leaves i)
      (more_is : more ≡ with_block nowhere positions (entry % 16) (position_alone entry key)) where
    run_of_key : key / 16 ≡ run
    run_of_key = omega (arith, key_is)

    more_numbers : more ≡ with_block nowhere positions (key % 16) (position_alone entry key)
    more_numbers = let place : entry % 16 ≡ key % 16 = omega (arith, key_is) in more_is ∙ ap (λ n. with_block nowhere positions n (position_alone entry key)) place

    with_new_leaf : AreBlocks nowhere (length branches * 16) (leaf_at firsts entries) more
    with_new_leaf =
        one_added nowhere (length branches * 16) (leaf_at branches leaves) positions leaf_blocks run run_low none (leaf_at firsts entries) there elsewhere key (position_alone entry key) run_of_key more more_numbers

    number_now : number_at (leaf_at firsts entries) more key ≡ position_alone entry key
    number_now =
        one_now nowhere (length branches * 16) (leaf_at branches leaves) positions leaf_blocks run run_low none (leaf_at firsts entries) there elsewhere key (position_alone entry key) run_of_key more more_numbers

    others_numbers : (shard : ℕ) → (shard ≡ key → ⊥) → number_at (leaf_at firsts entries) more shard ≡ number_at (leaf_at branches leaves) positions shard
    others_numbers =
        others_now nowhere (length branches * 16) (leaf_at branches leaves) positions leaf_blocks run run_low none (leaf_at firsts entries) there elsewhere key (position_alone entry key) run_of_key more more_numbers

    -- of a shard of the run
    same_in_run : slice_index firsts (run / 16) < alone → entry_at firsts entries run < alone → (shard : ℕ) → shard / 16 ≡ run → position_at branches leaves positions shard ≡ position_alone entry shard
        → position_at firsts entries more shard ≡ position_at branches leaves positions shard
    same_in_run first_small entry_small shard here before =
        let of : run / 16 ≡ shard / 256 = omega (arith, here) in
        let nothing : number_at (leaf_at branches leaves) positions shard ≡ nowhere = no_number shard (ap (leaf_at branches leaves) here ∙ none) in
        let now = by_numbers firsts entries more shard (subst (λ r. slice_index firsts r < alone) of first_small) (subst (λ r. entry_at firsts entries r < alone) (sym here) entry_small) in
        let last : number_at (leaf_at firsts entries) more shard ≡ position_alone entry shard = elim (same_or_not shard key) as (λ _. number_at (leaf_at firsts entries) more shard ≡ position_alone entry shard) [
          | inl same ↦ ap (number_at (leaf_at firsts entries) more) same ∙ number_now ∙ sym (ap (position_alone entry) same)
          | inr differ ↦ others_numbers shard differ ∙ nothing ∙ sym (alone_other entry shard (λ same. differ (omega (arith, same, here, key_is))))
        ] in
        now ∙ last ∙ sym before

    -- of another
    same_beside : (shard : ℕ) → (shard / 16 ≡ run → ⊥) → position_alone (slice_index firsts (shard / 256)) shard ≡ position_alone (slice_index branches (shard / 256)) shard
        → entry_at firsts entries (shard / 16) ≡ entry_at branches leaves (shard / 16) → position_at firsts entries more shard ≡ position_at branches leaves positions shard
    same_beside shard apart first same =
        same_sources (position_alone (slice_index firsts (shard / 256)) shard) (position_alone (slice_index branches (shard / 256)) shard)
        (position_alone (entry_at firsts entries (shard / 16)) shard) (position_alone (entry_at branches leaves (shard / 16)) shard)
        (number_at (leaf_at firsts entries) more shard) (number_at (leaf_at branches leaves) positions shard)
        first (ap (λ e. position_alone e shard) same) (others_numbers shard (λ is. apart (omega (arith, is, key_is))))

  -- where the shard is alone in the run but not alone in its run of 256
  module _ (run : ℕ) (run_low : run < length branches * 16) (entry : ℕ) (entry_is : entry_at branches leaves run ≡ entry) (high : alone ≤ entry)
      (key : ℕ) (key_is : key ≡ run * 16 + entry % 16) (after more : List ℕ)
      (after_is : after ≡ slice_set leaves (slot_in (branch_at branches) run) (length positions / 16))
      (more_is : more ≡ with_block nowhere positions (entry % 16) (position_alone entry key)) where
    branch_own : 0 < branch_at branches (run / 16)
    branch_own = branch_if run (omega (arith, entry_is, high))

    first_low : slice_index branches (run / 16) < lone_leaf
    first_low = (block_is lone_leaf (slice_index branches (run / 16)) branch_own).0

    leaf_none : leaf_at branches leaves run ≡ 0
    leaf_none = no_leaf_beside run (omega (arith, entry_is, high))

    entry_now : entry_at branches after run ≡ length positions / 16
    entry_now = number_there 0 (length branches) (branch_at branches) leaves branch_blocks run branch_own (length positions / 16) after after_is

    others_entries : (i : ℕ) → (i ≡ run → ⊥) → entry_at branches after i ≡ entry_at branches leaves i
    others_entries = numbers_elsewhere 0 (length branches) (branch_at branches) leaves branch_blocks run branch_own (length positions / 16) after after_is

    leaf_there : leaf_at branches after run ≡ length positions / 16
    leaf_there = leaf_of_branch branches after run first_low ∙ ap (block_of alone) entry_now ∙ block_low alone (length positions / 16) (omega (arith, few_leaves))

    leaves_elsewhere : (i : ℕ) → (i ≡ run → ⊥) → leaf_at branches after i ≡ leaf_at branches leaves i
    leaves_elsewhere i differ = same_leaf branches after branches leaves i refl (others_entries i differ)

    pub entry_parted : entry_at branches after run < alone
    entry_parted = omega (arith, entry_now, few_leaves)

    pub leaf_some : 0 < leaf_at branches after run
    leaf_some = omega (arith, leaf_there, leaf_blocks.how_many)

    pub same_by_leaf : (shard : ℕ) → position_at branches after more shard ≡ position_at branches leaves positions shard
    same_by_leaf shard = elim (same_or_not (shard / 16) run) as (λ _. position_at branches after more shard ≡ position_at branches leaves positions shard) [
      | inl here ↦
          let of : run / 16 ≡ shard / 256 = omega (arith, here) in
          let before : position_at branches leaves positions shard ≡ position_alone entry shard =
          by_entry shard (omega (arith, ap (slice_index branches) of, first_low)) (ap (leaf_at branches leaves) here ∙ leaf_none) ∙ ap (λ e. position_alone e shard) (ap (entry_at branches leaves) here ∙ entry_is) in
          same_in_run run run_low entry key key_is branches after more leaf_none leaf_there leaves_elsewhere more_is (omega (arith, first_low)) entry_parted shard here before
      | inr apart ↦
          same_beside run run_low entry key key_is branches after more leaf_none leaf_there leaves_elsewhere more_is shard apart refl (others_entries (shard / 16) apart)
    ]

    pub leaf_parted : IsDirectory most count branches after more
    leaf_parted =
        same_places branches after more refl (number_put 0 (length branches) (branch_at branches) leaves branch_blocks run branch_own (length positions / 16) after after_is)
        (with_new_leaf run run_low entry key key_is branches after more leaf_none leaf_there leaves_elsewhere more_is) same_by_leaf

  -- ---- a run of 256 without a branch gets another entry that names none
  module _ (run : ℕ) (run_low : run < length branches) (no_branch_there : branch_at branches run ≡ 0) (entry : ℕ) (high : lone_leaf ≤ entry) (after : List ℕ) (after_is : after ≡ slice_set branches run entry) where
    pub still_many : length after ≡ length branches
    still_many = ap length after_is ∙ length-set branches run entry

    first_is : slice_index after run ≡ entry
    first_is = ap (λ xs. slice_index xs run) after_is ∙ get_or-set_same branches run entry 0 run_low

    others_firsts : (i : ℕ) → (i ≡ run → ⊥) → slice_index after i ≡ slice_index branches i
    others_firsts i differ = ap (λ xs. slice_index xs i) after_is ∙ get_or-set_other branches run i entry 0 (λ same. differ same)

    branches_same : (i : ℕ) → branch_at after i ≡ branch_at branches i
    branches_same i = elim (same_or_not i run) as (λ _. branch_at after i ≡ branch_at branches i) [
      | inl same ↦ ap (block_of lone_leaf) (ap (slice_index after) same ∙ first_is) ∙ block_high lone_leaf entry high ∙ sym (ap (branch_at branches) same ∙ no_branch_there)
      | inr differ ↦ ap (block_of lone_leaf) (others_firsts i differ)
    ]

    entries_same : (i : ℕ) → entry_at after leaves i ≡ entry_at branches leaves i
    entries_same i = ap (λ n. slice_index leaves (n * 16 + i % 16)) (branches_same (i / 16))

    branches_laid : AreBlocks 0 (length after) (branch_at after) leaves
    branches_laid = rw still_many (same_blocks 0 (length branches) (branch_at branches) (branch_at after) leaves branch_blocks branches_same)

  -- where a run of 16 has the one shard of its run of 256, it gets a leaf that is alone there
  module _ (run : ℕ) (run_low : run < length branches * 16) (entry : ℕ) (entry_is : slice_index branches (run / 16) ≡ entry) (high : alone ≤ entry) (of_run : entry % 256 / 16 ≡ run % 16)
      (key : ℕ) (key_is : key ≡ run * 16 + entry % 16) (after more : List ℕ)
      (after_is : after ≡ slice_set branches (run / 16) (with_leaf (length positions / 16) run))
      (more_is : more ≡ with_block nowhere positions (entry % 16) (position_alone entry key)) where
    whole_run_low : run / 16 < length branches
    whole_run_low = omega (arith, run_low)

    no_branch_yet : branch_at branches (run / 16) ≡ 0
    no_branch_yet = ap (block_of lone_leaf) entry_is ∙ block_high lone_leaf entry (omega (arith, high))

    lone_many : length after ≡ length branches
    lone_many = still_many (run / 16) whole_run_low no_branch_yet (with_leaf (length positions / 16) run) (omega arith) after after_is

    lone_is : slice_index after (run / 16) ≡ with_leaf (length positions / 16) run
    lone_is = first_is (run / 16) whole_run_low no_branch_yet (with_leaf (length positions / 16) run) (omega arith) after after_is

    firsts_beside : (i : ℕ) → (i ≡ run / 16 → ⊥) → slice_index after i ≡ slice_index branches i
    firsts_beside = others_firsts (run / 16) whole_run_low no_branch_yet (with_leaf (length positions / 16) run) (omega arith) after after_is

    entries_as_they_were : (i : ℕ) → entry_at after leaves i ≡ entry_at branches leaves i
    entries_as_they_were = entries_same (run / 16) whole_run_low no_branch_yet (with_leaf (length positions / 16) run) (omega arith) after after_is

    nothing_in_branch : entry_at branches leaves run ≡ 0
    nothing_in_branch = no_entry_of run no_branch_yet

    no_leaf_yet : (i : ℕ) → i / 16 ≡ run / 16 → leaf_alone (slice_index branches (i / 16)) i ≡ 0
    no_leaf_yet i same = ap (λ e. leaf_alone e i) (ap (slice_index branches) same ∙ entry_is) ∙ leaf_high entry i high

    lone_none : leaf_at branches leaves run ≡ 0
    lone_none = omega (arith, no_leaf_yet run refl, ap (block_of alone) nothing_in_branch)

    lone_there : leaf_at after leaves run ≡ length positions / 16
    lone_there =
        omega (arith, ap (λ e. leaf_alone e run) lone_is ∙ leaf_is_there (length positions / 16) run (omega (arith, few_leaves)), ap (block_of alone) (entries_as_they_were run ∙ nothing_in_branch))

    lone_elsewhere : (i : ℕ) → (i ≡ run → ⊥) → leaf_at after leaves i ≡ leaf_at branches leaves i
    lone_elsewhere i differ = elim (same_or_not (i / 16) (run / 16)) as (λ _. leaf_at after leaves i ≡ leaf_at branches leaves i) [
      | inl same ↦
          same_leaf after leaves branches leaves i
          (ap (λ e. leaf_alone e i) (ap (slice_index after) same ∙ lone_is) ∙ leaf_elsewhere (length positions / 16) run i (λ is. differ (omega (arith, is, same))) ∙ sym (no_leaf_yet i same))
          (entries_as_they_were i)
      | inr apart ↦ same_leaf after leaves branches leaves i (ap (λ e. leaf_alone e i) (firsts_beside (i / 16) apart)) (entries_as_they_were i)
    ]

    pub lone_some : 0 < leaf_at after leaves run
    lone_some = omega (arith, lone_there, leaf_blocks.how_many)

    lone_low : slice_index after (run / 16) < alone
    lone_low = omega (arith, lone_is, few_leaves)

    -- no shard outside of the run is there
    alone_beside : (shard : ℕ) → (shard / 16 ≡ run → ⊥) → position_alone (slice_index after (shard / 256)) shard ≡ position_alone (slice_index branches (shard / 256)) shard
    alone_beside shard apart = elim (same_or_not (shard / 256) (run / 16)) as (λ _. position_alone (slice_index after (shard / 256)) shard ≡ position_alone (slice_index branches (shard / 256)) shard) [
      | inl same ↦
          alone_low (slice_index after (shard / 256)) shard (subst (λ r. slice_index after r < alone) (sym same) lone_low)
          ∙ sym (ap (λ e. position_alone e shard) (ap (slice_index branches) same ∙ entry_is) ∙ alone_other entry shard (λ is. apart (omega (arith, is, same, of_run))))
      | inr differ ↦ ap (λ e. position_alone e shard) (firsts_beside (shard / 256) differ)
    ]

    pub same_by_lone : (shard : ℕ) → position_at after leaves more shard ≡ position_at branches leaves positions shard
    same_by_lone shard = elim (same_or_not (shard / 16) run) as (λ _. position_at after leaves more shard ≡ position_at branches leaves positions shard) [
      | inl here ↦
          let of : run / 16 ≡ shard / 256 = omega (arith, here) in
          let first : slice_index branches (shard / 256) ≡ entry = ap (slice_index branches) (sym of) ∙ entry_is in
          let before : position_at branches leaves positions shard ≡ position_alone entry shard = by_branch shard (omega (arith, first, high)) ∙ ap (λ e. position_alone e shard) first in
          same_in_run run run_low entry key key_is after leaves more lone_none lone_there lone_elsewhere more_is lone_low (omega (arith, entries_as_they_were run, nothing_in_branch)) shard here before
      | inr apart ↦
          same_beside run run_low entry key key_is after leaves more lone_none lone_there lone_elsewhere more_is shard apart (alone_beside shard apart) (entries_as_they_were (shard / 16))
    ]

    pub lone_parted : IsDirectory most count after leaves more
    lone_parted =
        same_places after leaves more lone_many (branches_laid (run / 16) whole_run_low no_branch_yet (with_leaf (length positions / 16) run) (omega arith) after after_is)
        (rw lone_many (with_new_leaf run run_low entry key key_is after leaves more lone_none lone_there lone_elsewhere more_is)) same_by_lone

  -- ---- a shard has the next position
  module _ (shard : ℕ) (shard_low : shard < most) (absent : position_at branches leaves positions shard ≡ nowhere) (firsts entries numbers : List ℕ)
      (there : position_at firsts entries numbers shard ≡ count)
      (elsewhere : (other : ℕ) → (other ≡ shard → ⊥) → position_at firsts entries numbers other ≡ position_at branches leaves positions other) where
    one_there : count_up (is_there firsts entries numbers) most ≡ count + 1
    one_there =
        let before : is_there branches leaves positions shard ≡ false = ap (λ n. not (n == nowhere)) absent in
        let low : count < nowhere = omega (arith, few_there, found.few) in
        let now : is_there firsts entries numbers shard ≡ true = is_number low there in
        count_more (is_there branches leaves positions) (is_there firsts entries numbers) most shard shard_low before now (λ j differ. ap (λ n. not (n == nowhere)) (elsewhere j differ))
        ∙ ap (λ n. n + 1) (sym so_many)
      where
        is_number : count < nowhere → position_at firsts entries numbers shard ≡ count → is_there firsts entries numbers shard ≡ true
        is_number low is = ap (λ n. not (n == nowhere)) is ∙ by (count == nowhere) refl
          where
            by : (b : Bool) → (count == nowhere) ≡ b → not (count == nowhere) ≡ true
            by true same = absurd (omega (arith, low, eqb-true count nowhere same))
            by false same = ap not same

    placed_more : ArePlaced most (count + 1) firsts entries numbers
    placed_more = placed (sym one_there) below_now apart_now
      where
        below_now : (k : ℕ) → (position_at firsts entries numbers k ≡ nowhere → ⊥) → position_at firsts entries numbers k < count + 1
        below_now k some = elim (same_or_not k shard) as (λ _. position_at firsts entries numbers k < count + 1) [
          | inl same ↦ let is : position_at firsts entries numbers k ≡ count = ap (position_at firsts entries numbers) same ∙ there in omega (arith, is)
          | inr differ ↦
              let is = elsewhere k differ in
              omega (arith, is, below k (λ away. some (is ∙ away)))
        ]

        -- what was there before has a lower position
        lower : (k : ℕ) → (k ≡ shard → ⊥) → position_at firsts entries numbers k < count + 1 → position_at branches leaves positions k < count
        lower k differ less =
            let is = elsewhere k differ in
            below k (λ away. absurd (omega (arith, is, away, less, few_there, found.few)))

        apart_now : (j k : ℕ) → position_at firsts entries numbers j < count + 1 → position_at firsts entries numbers j ≡ position_at firsts entries numbers k → j ≡ k
        apart_now j k less same = elim (same_or_not j shard) as (λ _. j ≡ k) [
          | inl j_is ↦ elim (same_or_not k shard) as (λ _. j ≡ k) [
            | inl k_is ↦ j_is ∙ sym k_is
            | inr k_differs ↦
                let here : position_at firsts entries numbers j ≡ count = ap (position_at firsts entries numbers) j_is ∙ there in
                absurd (omega (arith, here, same, elsewhere k k_differs, lower k k_differs (omega (arith, here, same))))
          ]
          | inr j_differs ↦
              let low = lower j j_differs less in
              elim (same_or_not k shard) as (λ _. j ≡ k) [
                | inl k_is ↦
                    let here : position_at firsts entries numbers k ≡ count = ap (position_at firsts entries numbers) k_is ∙ there in
                    absurd (omega (arith, here, same, elsewhere j j_differs, low))
                | inr k_differs ↦ apart j k low (sym (elsewhere j j_differs) ∙ same ∙ elsewhere k k_differs)
              ]
        ]

  -- alone in its run of 256
  module _ (shard : ℕ) (shard_low : shard < most) (absent : position_at branches leaves positions shard ≡ nowhere) (none : slice_index branches (shard / 256) ≡ 0) (after : List ℕ)
      (after_is : after ≡ slice_set branches (shard / 256) (with_one count shard)) where
    low_count : count < 2 ^ 23
    low_count = omega (arith, fewer_there shard shard_low absent, found.few)

    none_before : branch_at branches (shard / 256) ≡ 0
    none_before = ap (block_of lone_leaf) none

    alone_many : length after ≡ length branches
    alone_many = still_many (shard / 256) (run_within shard shard_low) none_before (with_one count shard) (omega arith) after after_is

    alone_is : slice_index after (shard / 256) ≡ with_one count shard
    alone_is = first_is (shard / 256) (run_within shard shard_low) none_before (with_one count shard) (omega arith) after after_is

    firsts_as_before : (i : ℕ) → (i ≡ shard / 256 → ⊥) → slice_index after i ≡ slice_index branches i
    firsts_as_before = others_firsts (shard / 256) (run_within shard shard_low) none_before (with_one count shard) (omega arith) after after_is

    all_entries_same : (i : ℕ) → entry_at after leaves i ≡ entry_at branches leaves i
    all_entries_same = entries_same (shard / 256) (run_within shard shard_low) none_before (with_one count shard) (omega arith) after after_is

    all_leaves_same : (i : ℕ) → leaf_at after leaves i ≡ leaf_at branches leaves i
    all_leaves_same i = same_leaf after leaves branches leaves i (by (same_or_not (i / 16) (shard / 256))) (all_entries_same i)
      where
        by : (i / 16 ≡ shard / 256) ⊎ (i / 16 ≡ shard / 256 → ⊥) → leaf_alone (slice_index after (i / 16)) i ≡ leaf_alone (slice_index branches (i / 16)) i
        by (inl same) =
            ap (λ e. leaf_alone e i) (ap (slice_index after) same ∙ alone_is) ∙ leaf_high (with_one count shard) i (one_high count shard)
            ∙ sym (ap (λ e. leaf_alone e i) (ap (slice_index branches) same ∙ none))
        by (inr differ) = ap (λ e. leaf_alone e i) (firsts_as_before (i / 16) differ)

    numbers_same : (other : ℕ) → number_at (leaf_at after leaves) positions other ≡ number_at (leaf_at branches leaves) positions other
    numbers_same other = ap (λ n. slice_index positions (n * 16 + other % 16)) (all_leaves_same (other / 16))

    pub alone_there : position_at after leaves positions shard ≡ count
    alone_there = grind (arith, nat_tests, ap (λ e. position_alone e shard) alone_is ∙ one_is_there count shard, low_count)

    pub alone_elsewhere : (other : ℕ) → (other ≡ shard → ⊥) → position_at after leaves positions other ≡ position_at branches leaves positions other
    alone_elsewhere other differ =
        let first : position_alone (slice_index after (other / 256)) other ≡ position_alone (slice_index branches (other / 256)) other =
        elim (same_or_not (other / 256) (shard / 256)) as (λ _. position_alone (slice_index after (other / 256)) other ≡ position_alone (slice_index branches (other / 256)) other) [
          | inl here ↦
              ap (λ e. position_alone e other) (ap (slice_index after) here ∙ alone_is) ∙ one_elsewhere count shard other (λ same. differ (omega (arith, same, here)))
              ∙ sym (alone_low (slice_index branches (other / 256)) other (omega (arith, ap (slice_index branches) here, none)))
          | inr apart ↦ ap (λ e. position_alone e other) (firsts_as_before (other / 256) apart)
        ] in
        same_sources (position_alone (slice_index after (other / 256)) other) (position_alone (slice_index branches (other / 256)) other)
        (position_alone (entry_at after leaves (other / 16)) other) (position_alone (entry_at branches leaves (other / 16)) other)
        (number_at (leaf_at after leaves) positions other) (number_at (leaf_at branches leaves) positions other)
        first (ap (λ e. position_alone e other) (all_entries_same (other / 16))) (numbers_same other)

    pub alone_added : IsDirectory most (count + 1) after leaves positions
    alone_added = record {
      few = found.few;
      runs = alone_many ∙ found.runs;
      are_laid = laid (branches_laid (shard / 256) (run_within shard shard_low) none_before (with_one count shard) (omega arith) after after_is)
          (rw alone_many (same_blocks nowhere (length branches * 16) (leaf_at branches leaves) (leaf_at after leaves) positions leaf_blocks all_leaves_same));
      are_placed = placed_more shard shard_low absent after leaves positions alone_there alone_elsewhere;
    }

  -- alone in its run of 16
  module _ (shard : ℕ) (shard_low : shard < most) (absent : position_at branches leaves positions shard ≡ nowhere) (first_small : slice_index branches (shard / 256) < lone_leaf)
      (some : 0 < slice_index branches (shard / 256)) (none : entry_at branches leaves (shard / 16) ≡ 0) (after : List ℕ)
      (after_is : after ≡ slice_set leaves (slot_in (branch_at branches) (shard / 16)) (with_one count shard)) where
    small_count : count < 2 ^ 23
    small_count = omega (arith, fewer_there shard shard_low absent, found.few)

    has_branch : 0 < branch_at branches (shard / 16 / 16)
    has_branch =
        let of : shard / 16 / 16 ≡ shard / 256 = omega arith in
        omega (arith, ap (branch_at branches) of, block_low lone_leaf (slice_index branches (shard / 256)) first_small, some)

    entry_is_one : entry_at branches after (shard / 16) ≡ with_one count shard
    entry_is_one = number_there 0 (length branches) (branch_at branches) leaves branch_blocks (shard / 16) has_branch (with_one count shard) after after_is

    entries_as_before : (i : ℕ) → (i ≡ shard / 16 → ⊥) → entry_at branches after i ≡ entry_at branches leaves i
    entries_as_before = numbers_elsewhere 0 (length branches) (branch_at branches) leaves branch_blocks (shard / 16) has_branch (with_one count shard) after after_is

    leaves_as_before : (i : ℕ) → leaf_at branches after i ≡ leaf_at branches leaves i
    leaves_as_before i = elim (same_or_not i (shard / 16)) as (λ _. leaf_at branches after i ≡ leaf_at branches leaves i) [
      | inl same ↦
          let now = ap (block_of alone) (ap (entry_at branches after) same ∙ entry_is_one) ∙ block_high alone (with_one count shard) (one_high count shard) in
          let before = ap (block_of alone) (ap (entry_at branches leaves) same ∙ none) in
          omega (arith, now, before)
      | inr differ ↦ same_leaf branches after branches leaves i refl (entries_as_before i differ)
    ]

    pub beside_there : position_at branches after positions shard ≡ count
    beside_there = grind (arith, nat_tests, ap (λ e. position_alone e shard) entry_is_one ∙ one_is_there count shard, first_small, small_count)

    pub beside_elsewhere : (other : ℕ) → (other ≡ shard → ⊥) → position_at branches after positions other ≡ position_at branches leaves positions other
    beside_elsewhere other differ =
        let entry : position_alone (entry_at branches after (other / 16)) other ≡ position_alone (entry_at branches leaves (other / 16)) other =
        elim (same_or_not (other / 16) (shard / 16)) as (λ _. position_alone (entry_at branches after (other / 16)) other ≡ position_alone (entry_at branches leaves (other / 16)) other) [
          | inl here ↦
              ap (λ e. position_alone e other) (ap (entry_at branches after) here ∙ entry_is_one) ∙ one_elsewhere count shard other (λ same. differ (omega (arith, same, here)))
              ∙ sym (alone_low (entry_at branches leaves (other / 16)) other (omega (arith, ap (entry_at branches leaves) here, none)))
          | inr apart ↦ ap (λ e. position_alone e other) (entries_as_before (other / 16) apart)
        ] in
        same_sources (position_alone (slice_index branches (other / 256)) other) (position_alone (slice_index branches (other / 256)) other)
        (position_alone (entry_at branches after (other / 16)) other) (position_alone (entry_at branches leaves (other / 16)) other)
        (number_at (leaf_at branches after) positions other) (number_at (leaf_at branches leaves) positions other)
        refl entry (ap (λ n. slice_index positions (n * 16 + other % 16)) (leaves_as_before (other / 16)))

    pub beside_added : IsDirectory most (count + 1) branches after positions
    beside_added = record {
      few = found.few;
      runs = found.runs;
      are_laid = laid (number_put 0 (length branches) (branch_at branches) leaves branch_blocks (shard / 16) has_branch (with_one count shard) after after_is)
          (same_blocks nowhere (length branches * 16) (leaf_at branches leaves) (leaf_at branches after) positions leaf_blocks leaves_as_before);
      are_placed = placed_more shard shard_low absent branches after positions beside_there beside_elsewhere;
    }

  -- in its leaf
  module _ (shard : ℕ) (shard_low : shard < most) (absent : position_at branches leaves positions shard ≡ nowhere) (some : 0 < leaf_at branches leaves (shard / 16)) (after : List ℕ)
      (after_is : after ≡ slice_set positions (slot_in (leaf_at branches leaves) shard) count) where
    pub shard_there : position_at branches leaves after shard ≡ count
    shard_there =
        let low = none_alone (shard / 16) some in
        let of : shard / 16 / 16 ≡ shard / 256 = omega arith in
        by_numbers branches leaves after shard (subst (λ run. slice_index branches run < alone) of low.0) low.1
        ∙ number_there nowhere (length branches * 16) (leaf_at branches leaves) positions leaf_blocks shard some count after after_is

    pub shards_elsewhere : (other : ℕ) → (other ≡ shard → ⊥) → position_at branches leaves after other ≡ position_at branches leaves positions other
    shards_elsewhere other differ =
        same_position branches leaves after branches leaves positions other refl refl
        (numbers_elsewhere nowhere (length branches * 16) (leaf_at branches leaves) positions leaf_blocks shard some count after after_is other differ)

    pub shard_added : IsDirectory most (count + 1) branches leaves after
    shard_added = record {
      few = found.few;
      runs = found.runs;
      are_laid = laid branch_blocks (number_put nowhere (length branches * 16) (leaf_at branches leaves) positions leaf_blocks shard some count after after_is);
      are_placed = placed_more shard shard_low absent branches leaves after shard_there shards_elsewhere;
    }

-- ---- a shard is put where it belongs: alone in its run of 256, alone in its run of 16, or in its leaf

pub data IsPut (count shard : ℕ) (branches leaves positions firsts entries numbers : List ℕ) : Type 0 where
  put_alone : slice_index branches (shard / 256) ≡ 0 → firsts ≡ slice_set branches (shard / 256) (with_one count shard) → entries ≡ leaves → numbers ≡ positions
      → IsPut count shard branches leaves positions firsts entries numbers
  put_beside : 0 < slice_index branches (shard / 256) → slice_index branches (shard / 256) < lone_leaf → entry_at branches leaves (shard / 16) ≡ 0 → firsts ≡ branches
      → entries ≡ slice_set leaves (slot_in (branch_at branches) (shard / 16)) (with_one count shard) → numbers ≡ positions
      → IsPut count shard branches leaves positions firsts entries numbers
  put_in_leaf : 0 < leaf_at branches leaves (shard / 16) → firsts ≡ branches → entries ≡ leaves → numbers ≡ slice_set positions (slot_in (leaf_at branches leaves) shard) count
      → IsPut count shard branches leaves positions firsts entries numbers

module _ (most count : ℕ) (branches leaves positions : List ℕ) (found : IsDirectory most count branches leaves positions) (shard : ℕ) (shard_low : shard < most)
    (absent : position_at branches leaves positions shard ≡ nowhere) (firsts entries numbers : List ℕ) where
  -- where each shard is then
  at_rest : (f e n : List ℕ) → firsts ≡ f → entries ≡ e → numbers ≡ n → (other : ℕ) → position_at firsts entries numbers other ≡ position_at f e n other
  at_rest f e n firsts_are entries_are numbers_are other =
      ap (λ xs. position_at xs entries numbers other) firsts_are ∙ ap (λ xs. position_at f xs numbers other) entries_are ∙ ap (λ xs. position_at f e xs other) numbers_are

  pub put_there : IsPut count shard branches leaves positions firsts entries numbers → position_at firsts entries numbers shard ≡ count
  put_there (put_alone none firsts_are entries_are numbers_are) =
      at_rest firsts leaves positions refl entries_are numbers_are shard ∙ alone_there most count branches leaves positions found shard shard_low absent none firsts firsts_are
  put_there (put_beside some low none firsts_are entries_are numbers_are) =
      at_rest branches entries positions firsts_are refl numbers_are shard ∙ beside_there most count branches leaves positions found shard shard_low absent low some none entries entries_are
  put_there (put_in_leaf some firsts_are entries_are numbers_are) =
      at_rest branches leaves numbers firsts_are entries_are refl shard ∙ shard_there most count branches leaves positions found shard shard_low absent some numbers numbers_are

  pub put_elsewhere : IsPut count shard branches leaves positions firsts entries numbers → (other : ℕ) → (other ≡ shard → ⊥) → position_at firsts entries numbers other ≡ position_at branches leaves positions other
  put_elsewhere (put_alone none firsts_are entries_are numbers_are) other differ =
      at_rest firsts leaves positions refl entries_are numbers_are other ∙ alone_elsewhere most count branches leaves positions found shard shard_low absent none firsts firsts_are other differ
  put_elsewhere (put_beside some low none firsts_are entries_are numbers_are) other differ =
      at_rest branches entries positions firsts_are refl numbers_are other ∙ beside_elsewhere most count branches leaves positions found shard shard_low absent low some none entries entries_are other differ
  put_elsewhere (put_in_leaf some firsts_are entries_are numbers_are) other differ =
      at_rest branches leaves numbers firsts_are entries_are refl other ∙ shards_elsewhere most count branches leaves positions found shard shard_low absent some numbers numbers_are other differ

  moved_to : (f e n : List ℕ) → firsts ≡ f → entries ≡ e → numbers ≡ n → IsDirectory most (count + 1) f e n → IsDirectory most (count + 1) firsts entries numbers
  moved_to f e n firsts_are entries_are numbers_are is =
      subst (λ xs. IsDirectory most (count + 1) xs entries numbers) (sym firsts_are)
      (subst (λ xs. IsDirectory most (count + 1) f xs numbers) (sym entries_are) (subst (λ xs. IsDirectory most (count + 1) f e xs) (sym numbers_are) is))

  pub put_added : IsPut count shard branches leaves positions firsts entries numbers → IsDirectory most (count + 1) firsts entries numbers
  put_added (put_alone none firsts_are entries_are numbers_are) =
      moved_to firsts leaves positions refl entries_are numbers_are (alone_added most count branches leaves positions found shard shard_low absent none firsts firsts_are)
  put_added (put_beside some low none firsts_are entries_are numbers_are) =
      moved_to branches entries positions firsts_are refl numbers_are (beside_added most count branches leaves positions found shard shard_low absent low some none entries entries_are)
  put_added (put_in_leaf some firsts_are entries_are numbers_are) =
      moved_to branches leaves numbers firsts_are entries_are refl (shard_added most count branches leaves positions found shard shard_low absent some numbers numbers_are)

-- ---- of a directory that there is

pub closed_found : {most count : ℕ} {branches leaves positions : List ℕ} → IsDirectory most count branches leaves positions → IsFound most count branches leaves positions
closed_found is = ∣ is ∣₁

pub found_in : (d : Directory) → IsDirectory d.most d.count d.branches.items d.leaves.items d.positions.items
found_in d = ∥∥₁_elim {P = IsDirectory d.most d.count d.branches.items d.leaves.items d.positions.items} d.found (hlevel (ℕ_set, le_prop)) (λ (is : IsDirectory d.most d.count d.branches.items d.leaves.items d.positions.items). is)

pub runs_in : (d : Directory) (live runs : List ℕ) → AreRunsOf d live runs → AreRuns d live runs
runs_in d live runs are = ∥∥₁_elim {P = AreRuns d live runs} are (hlevel (ℕ_set, le_prop)) (λ (is : AreRuns d live runs). is)

pub few_there_in : (d : Directory) → count_of d ≤ most_of d
few_there_in d = few_there d.most d.count d.branches.items d.leaves.items d.positions.items (found_in d)

pub below_in : (d : Directory) (shard : ℕ) → (position_in d shard ≡ nowhere → ⊥) → position_in d shard < count_of d
unfolding position_in
below_in d shard there = below d.most d.count d.branches.items d.leaves.items d.positions.items (found_in d) shard there

-- what is not there is not live
pub dead_unless : (d : Directory) (live : List ℕ) → length live ≡ count_of d → (shard : ℕ) → position_in d shard ≡ nowhere → slice_index live (position_in d shard) ≡ 0
dead_unless d live how_many shard away = get_or_past live (position_in d shard) 0 (omega (arith, how_many, away, few_there_in d, (found_in d).few))

-- what is live is there
pub live_within : (d : Directory) (live : List ℕ) → length live ≡ count_of d → (shard : ℕ) → (slice_index live (position_in d shard) ≡ 0 → ⊥) → position_in d shard < count_of d
live_within d live how_many shard some = elim (within_or_past (position_in d shard) (count_of d)) as (λ _. position_in d shard < count_of d) [
  | inl within ↦ within
  | inr past ↦ absurd (some (get_or_past live (position_in d shard) 0 (omega (arith, how_many, past))))
]

pub apart_in : (d : Directory) (j k : ℕ) → position_in d j < count_of d → position_in d j ≡ position_in d k → j ≡ k
unfolding position_in
apart_in d j k there same = apart d.most d.count d.branches.items d.leaves.items d.positions.items (found_in d) j k there same
