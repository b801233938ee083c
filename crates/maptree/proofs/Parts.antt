-- Ranges taken out of a list one after another, in place, and parts put back so.
use Rattle.std.proofs.Common.{◌≡◌, ℕ, zero, suc, ◌+◌, ◌-◌, ◌<◌, ◌≤◌, List, [], ◌∷◌, ◌++◌, length, take, drop, get_or, not, nat_eq, false, filter, refl, sym, ap, ◌∙◌, subst, arith}
use Rattle.std.specs.List.{slice_range}
use Rattle.std.specs.declared.ops.Range.{Range}
use Rattle.std.proofs.lemmas.List.{append_assoc, length-append, take_at, length-take-le, length-drop, drop-drop, drop_at, drop_more, get_or_default, length-map}
use Rattle.std.proofs.lemmas.Bool.Decides.{nat_tests}
use Rattle.space.specs.declared.node.Node.{Node}
use Rattle.maptree.specs.Origins.{AreRising}
use Rattle.std.specs.Prelude.{insert, remove, set}
use Rattle.std.proofs.lemmas.List.Edits.{insert-append_right}
use Rattle.space.specs.Slices.{nodes_of}
use Rattle.maptree.specs.Cuts.{outside, joined, AreGaps, count_of}
use Rattle.space.specs.declared.slice.Slice.{Slice}
use Rattle.maptree.specs.Blocks.{nodes_in}
use Rattle.maptree.proofs.BlockChanges.{take_on}
use Rattle.maptree.proofs.Cuttings.{next_range, rising_within, split_at, gaps_within}

-- some of a list behind another
take_behind : (xs ys : List Node) (n : ℕ) → take (length xs + n) (xs ++ ys) ≡ xs ++ take n ys
take_behind [] ys n = let none : 0 + n ≡ n = omega arith in ap (λ m. take m ys) none
take_behind (x ∷ xs) ys n = let one : length (x ∷ xs) + n ≡ suc (length xs + n) = omega arith in ap (λ m. take m (x ∷ xs ++ ys)) one ∙ ap (λ l. x ∷ l) (take_behind xs ys n)

drop_behind : (xs ys : List Node) (n : ℕ) → drop (length xs + n) (xs ++ ys) ≡ drop n ys
drop_behind xs ys n = sym (drop-drop n (length xs) (xs ++ ys)) ∙ ap (drop n) (drop_at xs ys (length xs) refl)

-- the ranges before this one are taken out, so many nodes
pub record IsOutSoFar (nodes : List Node) (ranges : List (Range ℕ)) (i gone : ℕ) (now : List Node) : Type 0 where
  -- what is left up to the end of the last of them
  pub front : List Node
  pub from : ℕ
  pub now_is : now ≡ front ++ drop from nodes
  pub count : length front + gone ≡ from
  pub rising : AreRising from (drop i ranges) (length nodes)
  pub left : outside 0 ranges nodes ≡ front ++ outside from (drop i ranges) nodes

pub none_out : (nodes : List Node) (ranges : List (Range ℕ)) → AreRising 0 ranges (length nodes) → IsOutSoFar nodes ranges 0 0 nodes
none_out nodes ranges rising = record { front = []; from = 0; now_is = refl; count = omega arith; rising = rising; left = refl }

-- where the next range is now
pub record NextOut (nodes : List Node) (ranges : List (Range ℕ)) (i gone : ℕ) (now : List Node) (r : Range ℕ) : Type 0 where
  pub start : gone ≤ r.start
  pub rises : r.start < r.end
  pub within : r.end - gone ≤ length now
  pub more : (next : List Node) → next ≡ take (r.start - gone) now ++ drop (r.end - gone) now → IsOutSoFar nodes ranges (i + 1) (gone + (r.end - r.start)) next

pub next_out : (nodes : List Node) (ranges : List (Range ℕ)) (i gone : ℕ) (now : List Node) (r : Range ℕ) → i < length ranges → r ≡ get_or ranges i r → IsOutSoFar nodes ranges i gone now → NextOut nodes ranges i gone now r
next_out nodes ranges i gone now r less is so_far =
    let at = subst (λ x. (so_far.from ≤ x.start) × (x.start < x.end) × AreRising x.end (drop (i + 1) ranges) (length nodes)) (sym is) (next_range so_far.from i ranges (length nodes) r so_far.rising less) in
    let most = rising_within r.end (drop (i + 1) ranges) (length nodes) at.2 in
    let size = ap length so_far.now_is ∙ length-append so_far.front (drop so_far.from nodes) in
    let rest = length-drop so_far.from nodes in
    let count = so_far.count in
    record {
      start = omega (arith, count, at.0);
      rises = at.1;
      within = omega (arith, size, rest, count, most, at.0, at.1);
      more = λ next next_is.
          let first : r.start - gone ≡ length so_far.front + (r.start - so_far.from) = omega (arith, count, at.0) in
          let last : r.end - gone ≡ length so_far.front + (r.end - so_far.from) = omega (arith, count, at.0, at.1) in
          let end : so_far.from + (r.end - so_far.from) ≡ r.end = omega (arith, at.0, at.1) in
          let part = slice_range nodes so_far.from r.start in
          let kept : take (r.start - gone) now ≡ so_far.front ++ part = ap (take (r.start - gone)) so_far.now_is ∙ ap (λ n. take n (so_far.front ++ drop so_far.from nodes)) first ∙ take_behind so_far.front (drop so_far.from nodes) (r.start - so_far.from) in
          let behind : drop (r.end - gone) now ≡ drop r.end nodes = ap (drop (r.end - gone)) so_far.now_is ∙ ap (λ n. drop n (so_far.front ++ drop so_far.from nodes)) last ∙ drop_behind so_far.front (drop so_far.from nodes) (r.end - so_far.from) ∙ drop-drop (r.end - so_far.from) so_far.from nodes ∙ ap (λ n. drop n nodes) end in
          let longer = length-append so_far.front part in
          let taken = length-take-le (r.start - so_far.from) (drop so_far.from nodes) (omega (arith, rest, most, at.0, at.1)) in
          record {
            front = so_far.front ++ part;
            from = r.end;
            now_is = next_is ∙ ap (λ l. l ++ drop (r.end - gone) now) kept ∙ ap (λ l. (so_far.front ++ part) ++ l) behind;
            count = omega (arith, longer, taken, count, at.0, at.1);
            rising = at.2;
            left = so_far.left ∙ ap (λ rs. so_far.front ++ outside so_far.from rs nodes) (drop_more ranges i r less ∙ ap (λ x. x ∷ drop (i + 1) ranges) (sym is)) ∙ sym (append_assoc so_far.front part (outside r.end (drop (i + 1) ranges) nodes));
          };
    }

pub all_out : (nodes : List Node) (ranges : List (Range ℕ)) (i gone : ℕ) (now : List Node) → length ranges ≤ i → IsOutSoFar nodes ranges i gone now → now ≡ outside 0 ranges nodes
all_out nodes ranges i gone now upto so_far =
    so_far.now_is ∙ ap (λ rs. so_far.front ++ outside so_far.from rs nodes) (sym (drop_none ranges i upto)) ∙ sym so_far.left
  where
    drop_none : (rs : List (Range ℕ)) (i : ℕ) → length rs ≤ i → drop i rs ≡ []
    drop_none [] zero upto = refl
    drop_none [] (suc i) upto = refl
    drop_none (r ∷ rs) zero upto = absurd (omega (arith, upto))
    drop_none (r ∷ rs) (suc i) upto = drop_none rs i (omega (arith, upto))

-- a range that is read within the list
pub range_read : (rs : List (Range ℕ)) (i : ℕ) (d : Range ℕ) → i < length rs → get_or rs i d ≡ get_or rs i (get_or rs i d)
range_read rs i d within = get_or_default rs i d (get_or rs i d) within

-- ---- parts put back, from the last on

-- up to the first gap the list is as it was
pub joined_from : (from gap : ℕ) (left : List Node) (gaps : List ℕ) (parts : List (List Node)) → from ≤ gap → AreGaps gap gaps (length left) → length gaps ≡ length parts → joined from left gaps parts ≡ slice_range left from gap ++ joined gap left gaps parts
joined_from from gap left [] parts upto rise same = split_at from gap left upto
joined_from from gap left (g ∷ gaps) [] upto rise same = absurd (omega (arith, same))
joined_from from gap left (g ∷ gaps) (part ∷ parts) upto rise same =
    let whole : gap - from + (g - gap) ≡ g - from = omega (arith, upto, rise.0) in
    let there : from + (gap - from) ≡ gap = omega (arith, upto) in
    let front : slice_range left from g ≡ slice_range left from gap ++ slice_range left gap g =
    ap (λ n. take n (drop from left)) (sym whole) ∙ sym (take_on (gap - from) (g - gap) (drop from left))
    ∙ ap (λ l. take (gap - from) (drop from left) ++ take (g - gap) l) (drop-drop (gap - from) from left ∙ ap (λ n. drop n left) there) in
    let rest = joined g left gaps parts in
    ap (λ l. (l ++ part) ++ rest) front ∙ ap (λ l. l ++ rest) (append_assoc (slice_range left from gap) (slice_range left gap g) part) ∙ append_assoc (slice_range left from gap) (slice_range left gap g ++ part) rest

-- one part more is put back
pub part_back : (left : List Node) (gap : ℕ) (gaps : List ℕ) (part : List Node) (parts : List (List Node)) → AreGaps gap gaps (length left) → length gaps ≡ length parts
    → take gap (joined 0 left gaps parts) ++ (part ++ drop gap (joined 0 left gaps parts)) ≡ joined 0 left (gap ∷ gaps) (part ∷ parts)
part_back left gap gaps part parts rise same =
    let most = gaps_within gap gaps (length left) rise in
    let none : gap - 0 ≡ gap = omega arith in
    let from = joined_from 0 gap left gaps parts (omega arith) rise same in
    let size : length (slice_range left 0 gap) ≡ gap = ap (λ n. length (take n left)) none ∙ length-take-le gap left most in
    ap (λ l. take gap l ++ (part ++ drop gap l)) from
    ∙ ap (λ l. l ++ (part ++ drop gap (slice_range left 0 gap ++ joined gap left gaps parts))) (take_at (slice_range left 0 gap) (joined gap left gaps parts) gap size)
    ∙ ap (λ l. slice_range left 0 gap ++ (part ++ l)) (drop_at (slice_range left 0 gap) (joined gap left gaps parts) gap size)
    ∙ sym (append_assoc (slice_range left 0 gap) part (joined gap left gaps parts))

-- one node more in front of those that were put in
pub node_in : (ns xs : List Node) (i : ℕ) (x : Node) → i ≤ length ns → insert (take i ns ++ xs) i x ≡ take i ns ++ (x ∷ xs)
node_in ns xs i x within =
    let size = length-take-le i ns within in
    let none : i - i ≡ 0 = omega arith in
    insert-append_right (take i ns) xs i i x size (omega arith) ∙ ap (λ n. take i ns ++ insert xs n x) none

-- the gaps behind one
gaps_behind : (from k : ℕ) (gaps : List ℕ) (most : ℕ) → AreGaps from gaps most → k < length gaps → AreGaps (get_or gaps k 0) (drop (suc k) gaps) most
gaps_behind from k [] most rise within = absurd (omega (arith, within))
gaps_behind from zero (g ∷ gaps) most rise within = rise.1
gaps_behind from (suc k) (g ∷ gaps) most rise within = gaps_behind g k gaps most rise.1 (omega (arith, within))

-- the parts from one on
pub parts_from : (parts : List Slice) (k : ℕ) (e : Slice) → k < length parts → drop k (nodes_of parts) ≡ (get_or parts k e).nodes.items ∷ drop (suc k) (nodes_of parts)
parts_from [] k e within = absurd (omega (arith, within))
parts_from (p ∷ parts) zero e within = refl
parts_from (p ∷ parts) (suc k) e within = parts_from parts k e (omega (arith, within))

-- some of the parts have no more nodes than all
count_drop : (ps : List (List Node)) (k : ℕ) → count_of (drop k ps) ≤ count_of ps
count_drop [] zero = omega arith
count_drop [] (suc k) = omega arith
count_drop (p ∷ ps) zero = omega arith
count_drop (p ∷ ps) (suc k) = let rest = count_drop ps k in omega (arith, rest)

-- what the next part does, from the back
pub record NextBack (left : List Node) (gaps : List ℕ) (parts : List Slice) (k : ℕ) (now part : List Node) : Type 0 where
  pub within : get_or gaps (k - 1) 0 ≤ length now
  pub nodes : (next : List Node) → next ≡ take (get_or gaps (k - 1) 0) now ++ (part ++ drop (get_or gaps (k - 1) 0) now) → next ≡ joined 0 left (drop (k - 1) gaps) (drop (k - 1) (nodes_of parts))
  pub count : count_of (drop (k - 1) (nodes_of parts)) ≡ length part + count_of (drop k (nodes_of parts))
  pub upto : length part + count_of (drop k (nodes_of parts)) ≤ count_of (nodes_of parts)

pub next_back : (left : List Node) (gaps : List ℕ) (parts : List Slice) (k : ℕ) (now : List Node) (e : Slice) → AreGaps 0 gaps (length left) → length gaps ≡ length parts → 0 < k → k ≤ length parts
    → now ≡ joined 0 left (drop k gaps) (drop k (nodes_of parts)) → NextBack left gaps parts k now (get_or parts (k - 1) e).nodes.items
next_back left gaps parts k now e rise same some within now_is =
    let next : suc (k - 1) ≡ k = omega (arith, some) in
    let less : k - 1 < length parts = omega (arith, some, within) in
    let less_gaps : k - 1 < length gaps = omega (arith, same, less) in
    let gap = get_or gaps (k - 1) 0 in
    let part = (get_or parts (k - 1) e).nodes.items in
    let behind : AreGaps gap (drop k gaps) (length left) = subst (λ n. AreGaps gap (drop n gaps) (length left)) next (gaps_behind 0 (k - 1) gaps (length left) rise less_gaps) in
    let all : length (nodes_of parts) ≡ length parts = length-map parts (λ s. s.nodes.items) in
    let fewer_gaps = length-drop k gaps in
    let fewer_parts = length-drop k (nodes_of parts) in
    let each : length (drop k gaps) ≡ length (drop k (nodes_of parts)) = omega (arith, fewer_gaps, fewer_parts, all, same) in
    let most = gaps_within gap (drop k gaps) (length left) behind in
    let from = joined_from 0 gap left (drop k gaps) (drop k (nodes_of parts)) (omega arith) behind each in
    let none : gap - 0 ≡ gap = omega arith in
    let front : length (slice_range left 0 gap) ≡ gap = ap (λ n. length (take n left)) none ∙ length-take-le gap left most in
    let size = ap length (now_is ∙ from) ∙ length-append (slice_range left 0 gap) (joined gap left (drop k gaps) (drop k (nodes_of parts))) in
    let here : drop (k - 1) (nodes_of parts) ≡ part ∷ drop k (nodes_of parts) = parts_from parts (k - 1) e less ∙ ap (λ n. part ∷ drop n (nodes_of parts)) next in
    let gaps_here : drop (k - 1) gaps ≡ gap ∷ drop k gaps = drop_more gaps (k - 1) 0 less_gaps ∙ ap (λ n. gap ∷ drop n gaps) (one ∙ next) in
    let count = ap count_of here in
    let low = count_drop (nodes_of parts) (k - 1) in
    record {
      within = omega (arith, size, front);
      nodes = λ after is.
          is ∙ ap (λ l. take gap l ++ (part ++ drop gap l)) now_is ∙ part_back left gap (drop k gaps) part (drop k (nodes_of parts)) behind each
          ∙ ap (λ gs. joined 0 left gs (part ∷ drop k (nodes_of parts))) (sym gaps_here) ∙ ap (joined 0 left (drop (k - 1) gaps)) (sym here);
      count = count;
      upto = omega (arith, count, low);
    }
  where
    one : k - 1 + 1 ≡ suc (k - 1)
    one = omega arith

-- ---- blocks without nodes

pub without_empty : (bs : List (List Node)) → nodes_in (filter (λ b. not (nat_eq (length b) 0)) bs) ≡ nodes_in bs
without_empty [] = refl
without_empty ([] ∷ bs) = without_empty bs
without_empty ((n ∷ b) ∷ bs) = let e = some_nodes (length b) in rw e (ap (λ l. (n ∷ b) ++ l) (without_empty bs))
  where
    some_nodes : (k : ℕ) → nat_eq (suc k) 0 ≡ false
    some_nodes k = grind (arith, nat_tests)

pub some_block : (bs : List (List Node)) → 0 < length (nodes_in bs) → 0 < length bs
some_block [] some = absurd (omega (arith, some))
some_block (b ∷ bs) some = omega arith

-- two blocks joined have the nodes of both
pub joined_blocks : (bs : List (List Node)) (k : ℕ) → suc k < length bs → nodes_in (set (remove bs (suc k)) k (get_or bs k [] ++ get_or bs (suc k) [])) ≡ nodes_in bs
joined_blocks [] k within = absurd (omega (arith, within))
joined_blocks (x ∷ []) zero within = absurd (omega (arith, within))
joined_blocks (x ∷ y ∷ bs) zero within = append_assoc x y (nodes_in bs)
joined_blocks (x ∷ bs) (suc k) within = ap (λ l. x ++ l) (joined_blocks bs k (omega (arith, within)))
