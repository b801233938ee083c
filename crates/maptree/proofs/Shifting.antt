-- Numbers in groups of 64 that move on by one.
use Rattle.std.proofs.Common.{◌≡◌, ℕ, List, ◌+◌, ◌*◌, ◌/◌, ◌%◌, ◌-◌, ◌^◌, ◌<◌, ◌≤◌, length, set, sym, ap, ◌∙◌, arith, ◌⊎◌, inl, inr}
use Rattle.std.proofs.lemmas.List.{get_or-set_same, get_or-set_other, length-set}
use Rattle.std.specs.List.{slice_index}
use Rattle.maptree.specs.Blocks.{Grouped, AreGrouped, IsShifted, grouped, number_at}

-- those before a block have moved on; those from it on, and their groups, are as they were
pub record IsOnTheWay (old now : Grouped) (block before at base carried : ℕ) : Type 0 where
  pub inside_count : length now.inside ≡ length old.inside
  pub groups_count : length now.groups ≡ length old.groups
  pub from : block ≤ at
  pub upto : (k : ℕ) → k < block → number_at now k ≡ number_at old k
  pub here : block < at → number_at now block ≡ before
  pub behind : (k : ℕ) → block ≤ k → k + 1 < at → number_at now (k + 1) ≡ number_at old k
  pub first : (g : ℕ) → 64 * g < length old.inside → slice_index now.inside (64 * g) ≡ 0
  pub rest : (k : ℕ) → at ≤ k → slice_index now.inside k ≡ slice_index old.inside k
  pub groups_rest : (g : ℕ) → at ≤ 64 * g → slice_index now.groups g ≡ slice_index old.groups g
  pub base_is : at < length old.inside → 0 < at % 64 → base ≡ slice_index old.groups (at / 64)
  pub carried_first : at ≡ block → carried ≡ before
  pub carried_next : (k : ℕ) → block ≤ k → k + 1 ≡ at → carried ≡ number_at old k

-- what stands at a number of a list that was set there, and elsewhere
set_here : (xs : List ℕ) (i y : ℕ) → i < length xs → slice_index (set xs i y) i ≡ y
set_here xs i y within = get_or-set_same xs i y 0 within

set_elsewhere : (xs : List ℕ) (i j y : ℕ) → (j < i) ⊎ (i < j) → slice_index (set xs i y) j ≡ slice_index xs j
set_elsewhere xs i j y (inl less) = get_or-set_other xs i j y 0 (λ same. absurd (omega (arith, less, same)))
set_elsewhere xs i j y (inr more) = get_or-set_other xs i j y 0 (λ same. absurd (omega (arith, more, same)))

-- the groups when a number is come to: the first of a group has it, and the old one of the group is kept
pub record IsGroupTaken (now : Grouped) (groups : List ℕ) (at base next carried : ℕ) : Type 0 where
  pub count : length groups ≡ length now.groups
  pub others : (g : ℕ) → (g < at / 64) ⊎ (at / 64 < g) → slice_index groups g ≡ slice_index now.groups g
  pub begins : at % 64 ≡ 0 → (slice_index groups (at / 64) ≡ carried) × (next ≡ slice_index now.groups (at / 64))
  pub goes_on : 0 < at % 64 → (slice_index groups (at / 64) ≡ slice_index now.groups (at / 64)) × (next ≡ base)

pub group_begins : (now : Grouped) (groups : List ℕ) (at base next carried : ℕ) → groups ≡ set now.groups (at / 64) carried → next ≡ slice_index now.groups (at / 64) → at % 64 ≡ 0 → at / 64 < length now.groups
    → IsGroupTaken now groups at base next carried
group_begins now groups at base next carried set_is kept first within = record {
  count = ap length set_is ∙ length-set now.groups (at / 64) carried;
  others = λ g apart. ap (λ l. slice_index l g) set_is ∙ set_elsewhere now.groups (at / 64) g carried apart;
  begins = λ _. (ap (λ l. slice_index l (at / 64)) set_is ∙ set_here now.groups (at / 64) carried within, kept);
  goes_on = λ inside. absurd (omega (arith, first, inside));
}

pub group_goes_on : (now : Grouped) (groups : List ℕ) (at base next carried : ℕ) → groups ≡ now.groups → next ≡ base → (at % 64 ≡ 0 → ⊥) → IsGroupTaken now groups at base next carried
group_goes_on now groups at base next carried same kept inside = record {
  count = ap length same;
  others = λ g apart. ap (λ l. slice_index l g) same;
  begins = λ first. absurd (inside first);
  goes_on = λ _. (ap (λ l. slice_index l (at / 64)) same, kept);
}

-- a number inside its group, or the first one
is_inside : (at : ℕ) → (at % 64 ≡ 0) ⊎ (0 < at % 64)
is_inside at = grind arith

module _ (old now : Grouped) (block before at base carried : ℕ) (are : AreGrouped old) (way : IsOnTheWay old now block before at base carried) (within : at < length old.inside)
    (above : (k : ℕ) → k < block → number_at old k ≤ before) (below : (k : ℕ) → block ≤ k → k < length old.inside → before ≤ number_at old k)
    (rising : (j k : ℕ) → j ≤ k → k < length old.inside → number_at old j ≤ number_at old k)
    (groups : List ℕ) (next : ℕ) (taken : IsGroupTaken now groups at base next carried) where
  -- the number that is carried on
  pub next_is : next + slice_index now.inside at ≡ number_at old at
  next_is = by (is_inside at)
    where
      by : (at % 64 ≡ 0) ⊎ (0 < at % 64) → next + slice_index now.inside at ≡ number_at old at
      by (inl first) =
          let group = (taken.begins first).1 in
          let same = way.groups_rest (at / 64) (omega (arith, first)) in
          let inside = way.rest at (omega arith) in
          omega (arith, group, same, inside)
      by (inr more) =
          let group = (taken.goes_on more).1 in
          let same = way.base_is within more in
          let inside = way.rest at (omega arith) in
          omega (arith, group, same, inside)

  -- the number before it, as it is now, is not above what is carried
  low_before : (k : ℕ) → k + 1 ≡ at → number_at now k ≤ carried
  low_before k is = by (order k block)
    where
      order : (a b : ℕ) → (a < b) ⊎ ((a ≡ b) ⊎ (b < a))
      order a b = grind arith

      behind : (j : ℕ) → j + 1 ≡ k → block ≤ j → number_at now k ≤ carried
      behind j here from =
          let was = way.behind j from (omega (arith, here, is)) in
          let same = ap (number_at now) here in
          let rise = rising j k (omega (arith, here)) (omega (arith, is, within)) in
          let on = way.carried_next k (omega (arith, here, from)) is in
          omega (arith, was, same, rise, on)

      by : (k < block) ⊎ ((k ≡ block) ⊎ (block < k)) → number_at now k ≤ carried
      by (inl less) =
          let was = way.upto k less in
          let most = above k less in
          let on = way.carried_first (omega (arith, less, is, way.from)) in
          omega (arith, was, most, on)
      by (inr (inl same)) =
          let was = way.here (omega (arith, same, is)) in
          let here = ap (number_at now) same in
          let least = below k (omega (arith, same)) (omega (arith, is, within)) in
          let on = way.carried_next k (omega (arith, same)) is in
          omega (arith, was, here, least, on)
      by (inr (inr more)) = behind (k - 1) (omega (arith, more)) (omega (arith, more))

  -- so its group is not
  pub group_low : slice_index groups (at / 64) ≤ carried
  group_low = by (is_inside at)
    where
      by : (at % 64 ≡ 0) ⊎ (0 < at % 64) → slice_index groups (at / 64) ≤ carried
      by (inl first) = let group = (taken.begins first).0 in omega (arith, group)
      by (inr more) =
          let group = (taken.goes_on more).0 in
          let some : at - 1 + 1 ≡ at = omega (arith, more) in
          let low = low_before (at - 1) some in
          let one : (at - 1) / 64 ≡ at / 64 = omega (arith, more) in
          let same = ap (slice_index now.groups) one in
          omega (arith, group, low, same)

  -- the numbers with that one
  abbrev pub after : Grouped
  after = record { groups = groups; inside = set now.inside at (carried - slice_index groups (at / 64)); capacity = 0 }

  inside_here : slice_index after.inside at ≡ carried - slice_index groups (at / 64)
  inside_here = set_here now.inside at (carried - slice_index groups (at / 64)) (omega (arith, way.inside_count, within))

  inside_else : (k : ℕ) → (k < at) ⊎ (at < k) → slice_index after.inside k ≡ slice_index now.inside k
  inside_else k apart = set_elsewhere now.inside at k (carried - slice_index groups (at / 64)) apart

  -- one before it is as it was
  number_before : (k : ℕ) → k < at → number_at after k ≡ number_at now k
  number_before k less = by (order (k / 64) (at / 64))
    where
      order : (a b : ℕ) → (a < b) ⊎ (b ≤ a)
      order a b = grind arith

      by : (k / 64 < at / 64) ⊎ (at / 64 ≤ k / 64) → number_at after k ≡ number_at now k
      by (inl group) =
          let same = taken.others (k / 64) (inl group) in
          let inside = inside_else k (inl less) in
          omega (arith, same, inside)
      by (inr group) =
          let one : k / 64 ≡ at / 64 = omega (arith, group, less) in
          let more : 0 < at % 64 = omega (arith, one, less) in
          let stays = (taken.goes_on more).0 in
          let old_group = ap (slice_index now.groups) one in
          let new_group = ap (slice_index groups) one in
          let inside = inside_else k (inl less) in
          omega (arith, stays, old_group, new_group, inside)

  number_here : number_at after at ≡ carried
  number_here = let low = group_low in let inside = inside_here in omega (arith, low, inside)

  pub step : IsOnTheWay old after block before (at + 1) next (next + slice_index now.inside at)
  step = record {
    inside_count = length-set now.inside at (carried - slice_index groups (at / 64)) ∙ way.inside_count;
    groups_count = taken.count ∙ way.groups_count;
    from = omega (arith, way.from);
    upto = λ k less. number_before k (omega (arith, less, way.from)) ∙ way.upto k less;
    here = λ less. by_here (order at block);
    behind = λ k from less. by_behind k from (last (k + 1) less);
    first = λ g less. by_first g less (sides (64 * g));
    rest = λ k less. inside_else k (inr (omega (arith, less))) ∙ way.rest k (omega (arith, less));
    groups_rest = λ g less. taken.others g (inr (omega (arith, less))) ∙ way.groups_rest g (omega (arith, less));
    base_is = λ inside more. by_base more (is_inside at);
    carried_first = λ same. absurd (omega (arith, same, way.from));
    carried_next = λ k from is. next_is ∙ ap (number_at old) (omega (arith, is));
  }
    where
      order : (a b : ℕ) → (a ≡ b) ⊎ ((a < b) ⊎ (b < a))
      order a b = grind arith

      by_here : (at ≡ block) ⊎ ((at < block) ⊎ (block < at)) → number_at after block ≡ before
      by_here (inl same) = ap (number_at after) (sym same) ∙ number_here ∙ way.carried_first same
      by_here (inr (inl less)) = absurd (omega (arith, less, way.from))
      by_here (inr (inr more)) = number_before block more ∙ way.here more

      last : (k : ℕ) → k < at + 1 → (k < at) ⊎ (k ≡ at)
      last k less = grind arith

      by_behind : (k : ℕ) → block ≤ k → (k + 1 < at) ⊎ (k + 1 ≡ at) → number_at after (k + 1) ≡ number_at old k
      by_behind k from (inl less) = number_before (k + 1) less ∙ way.behind k from less
      by_behind k from (inr same) = ap (number_at after) same ∙ number_here ∙ way.carried_next k from same

      sides : (k : ℕ) → (k ≡ at) ⊎ ((k < at) ⊎ (at < k))
      sides k = grind arith

      by_first : (g : ℕ) → 64 * g < length old.inside → (64 * g ≡ at) ⊎ ((64 * g < at) ⊎ (at < 64 * g)) → slice_index after.inside (64 * g) ≡ 0
      by_first g less (inl same) =
          let none : at % 64 ≡ 0 = omega (arith, same) in
          let group = (taken.begins none).0 in
          let inside = inside_here in
          let here = ap (slice_index after.inside) same in
          omega (arith, group, inside, here)
      by_first g less (inr apart) = inside_else (64 * g) apart ∙ way.first g less

      by_base : 0 < (at + 1) % 64 → (at % 64 ≡ 0) ⊎ (0 < at % 64) → next ≡ slice_index old.groups ((at + 1) / 64)
      by_base more (inl none) =
          let group = (taken.begins none).1 in
          let same = way.groups_rest (at / 64) (omega (arith, none)) in
          let one : (at + 1) / 64 ≡ at / 64 = omega (arith, more) in
          let read = ap (slice_index old.groups) one in
          omega (arith, group, same, read)
      by_base more (inr some) =
          let group = (taken.goes_on some).1 in
          let same = way.base_is within some in
          let one : (at + 1) / 64 ≡ at / 64 = omega (arith, more) in
          let read = ap (slice_index old.groups) one in
          omega (arith, group, same, read)

-- a number is told by its lists
pub number_as : (groups inside others within : List ℕ) (k : ℕ) → groups ≡ others → inside ≡ within → number_at (grouped groups inside) k ≡ number_at (grouped others within) k
number_as groups inside others within k same_groups same_inside = ap (λ l. number_at (grouped l inside) k) same_groups ∙ ap (λ l. number_at (grouped others l) k) same_inside

module _ (old new : Grouped) (block before last : ℕ) (are : AreGrouped old) (have : IsShifted old new block before last) (within : block ≤ length old.inside)
    (above : (k : ℕ) → k < block → number_at old k ≤ before) (below : (k : ℕ) → block ≤ k → k < length old.inside → before ≤ number_at old k)
    (rising : (j k : ℕ) → j ≤ k → k < length old.inside → number_at old j ≤ number_at old k) where
  sides : (k : ℕ) → (k < block) ⊎ ((k ≡ block) ⊎ (block < k))
  sides k = grind arith

  -- none is above that of the last
  pub none_above_last : (k : ℕ) → k < length old.inside → number_at new k ≤ last
  none_above_last k less = by (order (length old.inside) block) (sides k)
    where
      order : (a b : ℕ) → (a ≤ b) ⊎ (b < a)
      order a b = grind arith

      by : (length old.inside ≤ block) ⊎ (block < length old.inside) → (k < block) ⊎ ((k ≡ block) ⊎ (block < k)) → number_at new k ≤ last
      by (inl none) (inl before_it) =
          let is = have.last_none (omega (arith, none, within)) in
          let same = have.upto k before_it in
          let most = above k before_it in
          omega (arith, is, same, most)
      by (inl none) (inr (inl same)) = absurd (omega (arith, none, same, less))
      by (inl none) (inr (inr more)) = absurd (omega (arith, none, more, less))
      by (inr some) (inl before_it) =
          let is = have.last_some (length old.inside - 1) (omega (arith, some)) (omega (arith, some)) in
          let same = have.upto k before_it in
          let most = rising k (length old.inside - 1) (omega (arith, less)) (omega (arith, some)) in
          omega (arith, is, same, most)
      by (inr some) (inr (inl same)) =
          let is = have.last_some (length old.inside - 1) (omega (arith, some)) (omega (arith, some)) in
          let here = ap (number_at new) same ∙ have.here some in
          let most = below (length old.inside - 1) (omega (arith, some)) (omega (arith, some)) in
          omega (arith, is, here, most)
      by (inr some) (inr (inr more)) =
          let is = have.last_some (length old.inside - 1) (omega (arith, some)) (omega (arith, some)) in
          let one : k - 1 + 1 ≡ k = omega (arith, more) in
          let same = have.behind (k - 1) (omega (arith, more)) (omega (arith, less, more)) in
          let read = ap (number_at new) one in
          let most = rising (k - 1) (length old.inside - 1) (omega (arith, less)) (omega (arith, some)) in
          omega (arith, is, same, read, most)

  -- and they stay in groups
  pub grouped_shifted : before < 2 ^ 64 → AreGrouped new
  grouped_shifted small = record {
    enough = omega (arith, are.enough, have.inside_count, have.groups_count);
    few = omega (arith, are.few, have.inside_count, have.groups_count);
    first = λ g less. have.first g (omega (arith, less, have.inside_count));
    fits = λ k less. fit k (omega (arith, less, have.inside_count)) (sides k);
  }
    where
      fit : (k : ℕ) → k < length old.inside → (k < block) ⊎ ((k ≡ block) ⊎ (block < k)) → number_at new k < 2 ^ 64
      fit k less (inl before_it) = let same = have.upto k before_it in let fits = are.fits k less in omega (arith, same, fits)
      fit k less (inr (inl same)) =
          let here = ap (number_at new) same ∙ have.here (omega (arith, same, less)) in
          omega (arith, here, small)
      fit k less (inr (inr more)) =
          let one : k - 1 + 1 ≡ k = omega (arith, more) in
          let same = have.behind (k - 1) (omega (arith, more)) (omega (arith, less, more)) in
          let read = ap (number_at new) one in
          let fits = are.fits (k - 1) (omega (arith, less)) in
          omega (arith, same, read, fits)
