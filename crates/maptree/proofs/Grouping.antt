-- Numbers in groups of 64, of which those behind one change.
use Rattle.std.proofs.Common.{◌≡◌, ℕ, ◌+◌, ◌*◌, ◌/◌, ◌%◌, ◌-◌, ◌<◌, ◌≤◌, ◌^◌, List, length, sym, ap, ◌∙◌, subst, arith, ◌⊎◌, inl, inr}
use Rattle.std.specs.Prelude.{min}
use Rattle.std.specs.List.{slice_index}
use Rattle.std.proofs.Math.Nat.{mul-div_cancel_left}
use Rattle.maptree.specs.Blocks.{Grouped, AreGrouped, number_at}

-- a group begins at so many numbers
pub group_at : (g : ℕ) → 64 * g / 64 ≡ g
group_at g = mul-div_cancel_left g (omega arith)

-- its first number is that of the group
pub first_at : (s : Grouped) (g : ℕ) → AreGrouped s → g < length s.groups → (64 * g < length s.inside) × (number_at s (64 * g) ≡ slice_index s.groups g)
first_at s g are within =
    let few = are.few in
    let less : 64 * g < length s.inside = omega (arith, few, within) in
    let none = are.first g less in
    let same = ap (slice_index s.groups) (group_at g) in
    (less, omega (arith, none, same))

-- the numbers behind one, up to the next group, and all groups behind have more
pub record HaveMore (old new : Grouped) (block end n : ℕ) : Type 0 where
  pub end_is : end ≡ block + min (length old.inside - block) (64 - block % 64)
  pub inside_count : length new.inside ≡ length old.inside
  pub groups_count : length new.groups ≡ length old.groups
  pub before : (k : ℕ) → k < block + 1 → slice_index new.inside k ≡ slice_index old.inside k
  pub more : (k : ℕ) → block + 1 ≤ k → k < end → slice_index new.inside k ≡ slice_index old.inside k + n
  pub behind : (k : ℕ) → end ≤ k → slice_index new.inside k ≡ slice_index old.inside k
  pub groups_before : (g : ℕ) → g < block / 64 + 1 → slice_index new.groups g ≡ slice_index old.groups g
  pub groups_more : (g : ℕ) → block / 64 + 1 ≤ g → g < length old.groups → slice_index new.groups g ≡ slice_index old.groups g + n

module _ (old new : Grouped) (block end n : ℕ) (are : AreGrouped old) (have : HaveMore old new block end n) (within : block < length old.inside) where
  -- a number up to it is as it was
  pub as_before : (k : ℕ) → k ≤ block → number_at new k ≡ number_at old k
  as_before k upto =
      let inside = have.before k (omega (arith, upto)) in
      let group = have.groups_before (k / 64) (omega (arith, upto)) in
      omega (arith, inside, group)

  -- one behind it is more
  pub more_behind : (k : ℕ) → block < k → k < length old.inside → number_at new k ≡ number_at old k + n
  more_behind k behind less = by (order k)
    where
      order : (k : ℕ) → (k < end) ⊎ (end ≤ k)
      order k = grind arith

      by : (k < end) ⊎ (end ≤ k) → number_at new k ≡ number_at old k + n
      by (inl upto) =
          let end_is = have.end_is in
          let inside = have.more k (omega (arith, behind)) upto in
          let group = have.groups_before (k / 64) (omega (arith, end_is, upto)) in
          omega (arith, inside, group)
      by (inr from) =
          let end_is = have.end_is in
          let enough = are.enough in
          let inside = have.behind k from in
          let group = have.groups_more (k / 64) (omega (arith, end_is, from, less)) (omega (arith, enough, less)) in
          omega (arith, inside, group)

  -- and they stay in groups
  pub grouped_more : ((k : ℕ) → block < k → k < length old.inside → number_at old k + n < 2 ^ 64) → AreGrouped new
  grouped_more fits = record {
    enough = let a = are.enough in let b = have.inside_count in let c = have.groups_count in omega (arith, a, b, c);
    few = let a = are.few in let b = have.inside_count in let c = have.groups_count in omega (arith, a, b, c);
    first = λ g less. let size = have.inside_count in first_kept g (omega (arith, less, size)) (order g);
    fits = λ k less. let size = have.inside_count in fit k (omega (arith, less, size)) (side k);
  }
    where
      order : (g : ℕ) → (64 * g < block + 1) ⊎ (block < 64 * g)
      order g = grind arith

      first_kept : (g : ℕ) → 64 * g < length old.inside → (64 * g < block + 1) ⊎ (block < 64 * g) → slice_index new.inside (64 * g) ≡ 0
      first_kept g less (inl upto) = have.before (64 * g) upto ∙ are.first g less
      first_kept g less (inr behind) = have.behind (64 * g) (let end_is = have.end_is in omega (arith, end_is, behind)) ∙ are.first g less

      side : (k : ℕ) → (k ≤ block) ⊎ (block < k)
      side k = grind arith

      fit : (k : ℕ) → k < length old.inside → (k ≤ block) ⊎ (block < k) → number_at new k < 2 ^ 64
      fit k less (inl upto) = let same = as_before k upto in let small = are.fits k less in omega (arith, same, small)
      fit k less (inr behind) = let more = more_behind k behind less in let small = fits k behind less in omega (arith, more, small)

-- the numbers behind one, up to the next group, and all groups behind have less
pub record HaveLess (old new : Grouped) (block end n : ℕ) : Type 0 where
  pub end_is : end ≡ block + min (length old.inside - block) (64 - block % 64)
  pub inside_count : length new.inside ≡ length old.inside
  pub groups_count : length new.groups ≡ length old.groups
  pub before : (k : ℕ) → k < block + 1 → slice_index new.inside k ≡ slice_index old.inside k
  pub less : (k : ℕ) → block + 1 ≤ k → k < end → slice_index new.inside k + n ≡ slice_index old.inside k
  pub behind : (k : ℕ) → end ≤ k → slice_index new.inside k ≡ slice_index old.inside k
  pub groups_before : (g : ℕ) → g < block / 64 + 1 → slice_index new.groups g ≡ slice_index old.groups g
  pub groups_less : (g : ℕ) → block / 64 + 1 ≤ g → g < length old.groups → slice_index new.groups g + n ≡ slice_index old.groups g

-- so they are no more, and stay in groups
module _ (old new : Grouped) (block end n : ℕ) (are : AreGrouped old) (have : HaveLess old new block end n) (within : block < length old.inside) where
  inside_upto : (k : ℕ) → slice_index new.inside k ≤ slice_index old.inside k
  inside_upto k = by (order k)
    where
      order : (k : ℕ) → (k < block + 1) ⊎ ((block + 1 ≤ k) × (k < end) ⊎ (end ≤ k))
      order k = grind arith

      by : (k < block + 1) ⊎ ((block + 1 ≤ k) × (k < end) ⊎ (end ≤ k)) → slice_index new.inside k ≤ slice_index old.inside k
      by (inl upto) = let same = have.before k upto in omega (arith, same)
      by (inr (inl (from, upto))) = let less = have.less k from upto in omega (arith, less)
      by (inr (inr behind)) = let same = have.behind k behind in omega (arith, same)

  group_upto : (g : ℕ) → g < length old.groups → slice_index new.groups g ≤ slice_index old.groups g
  group_upto g within = by (order g)
    where
      order : (g : ℕ) → (g < block / 64 + 1) ⊎ (block / 64 + 1 ≤ g)
      order g = grind arith

      by : (g < block / 64 + 1) ⊎ (block / 64 + 1 ≤ g) → slice_index new.groups g ≤ slice_index old.groups g
      by (inl upto) = let same = have.groups_before g upto in omega (arith, same)
      by (inr from) = let less = have.groups_less g from within in omega (arith, less)

  pub grouped_less : AreGrouped new
  grouped_less = record {
    enough = let a = are.enough in let b = have.inside_count in let c = have.groups_count in omega (arith, a, b, c);
    few = let a = are.few in let b = have.inside_count in let c = have.groups_count in omega (arith, a, b, c);
    first = λ g less. let size = have.inside_count in let none = are.first g (omega (arith, less, size)) in let upto = inside_upto (64 * g) in omega (arith, none, upto);
    fits = λ k less.
        let size = have.inside_count in
        let enough = are.enough in
        let small = are.fits k (omega (arith, less, size)) in
        let upto = inside_upto k in
        let group = group_upto (k / 64) (omega (arith, less, size, enough)) in
        omega (arith, small, upto, group);
  }

-- lists that are the same stay in groups, with room for any number
pub grouped_as : (groups inside g i : List ℕ) (capacity : ℕ) → groups ≡ g → inside ≡ i → AreGrouped (record { groups = g; inside = i; capacity = 0 }) → AreGrouped (record { groups = groups; inside = inside; capacity = capacity })
grouped_as groups inside g i capacity same_groups same_inside are =
    subst (λ l. AreGrouped (record { groups = l; inside = inside; capacity = capacity })) (sym same_groups)
    (subst (λ l. AreGrouped (record { groups = g; inside = l; capacity = capacity })) (sym same_inside)
    (record { enough = are.enough; few = are.few; first = are.first; fits = are.fits }))

-- a number found in its group
pub record IsLastIn (s : Grouped) (group k n : ℕ) : Type 0 where
  pub group_within : group < length s.groups
  pub group_less : 0 < group → slice_index s.groups group < n
  pub from : 64 * group ≤ k
  pub to : k < 64 * group + min 64 (length s.inside - 64 * group)
  pub less : 64 * group < k → slice_index s.inside k < n - slice_index s.groups group

module _ (s : Grouped) (group k n : ℕ) (are : AreGrouped s) (is : IsLastIn s group k n) where
  in_group : k / 64 ≡ group
  in_group = let from = is.from in let to = is.to in omega (arith, from, to)

  -- it is less
  pub last_is_less : 0 < k → number_at s k < n
  last_is_less some = by (order (64 * group) k)
    where
      order : (a b : ℕ) → (a < b) ⊎ (b ≤ a)
      order a b = grind arith

      here : slice_index s.groups (k / 64) ≡ slice_index s.groups group
      here = ap (slice_index s.groups) in_group

      by : (64 * group < k) ⊎ (k ≤ 64 * group) → number_at s k < n
      by (inl behind) = let less = is.less behind in let same = here in omega (arith, less, same)
      by (inr upto) =
          let from = is.from in
          let to = is.to in
          let at : k ≡ 64 * group = omega (arith, from, upto) in
          let none : slice_index s.inside k ≡ 0 = ap (slice_index s.inside) at ∙ are.first group (omega (arith, to, at)) in
          let less = is.group_less (omega (arith, some, at)) in
          let same = here in
          omega (arith, none, less, same)
