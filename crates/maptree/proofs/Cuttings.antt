-- Parts are taken out of a list of nodes one after another, and put back in the same way.
use Rattle.std.proofs.Common.{◌≡◌, ℕ, zero, suc, ◌+◌, ◌-◌, ◌≤◌, ◌<◌, List, [], ◌∷◌, ◌++◌, length, take, drop, min, get_or, refl, sym, ap, ◌∙◌, subst, arith}
use Rattle.std.specs.List.{slice_range}
use Rattle.std.specs.Prelude.{Vec, vec_capacity}
use Rattle.std.specs.declared.alloc.Global.{Global}
use Rattle.std.specs.declared.ops.Range.{Range}
use Rattle.std.proofs.Math.Seq.{paste}
use Rattle.std.proofs.lemmas.List.Edits.{take-paste, drop-paste, length-paste}
use Rattle.std.proofs.lemmas.List.{take-append-drop, drop_more, drop-append-le, take-append-le, length-drop, append_assoc, append-nil, map-append, drop-map, drop-drop, length-append, length-map, length-take-le, drop-take}
use Rattle.space.specs.declared.node.Node.{Node}
use Rattle.space.specs.declared.slice.Slice.{Slice}
use Rattle.maptree.specs.declared.cutting.Cutting.{Cutting}
use Rattle.maptree.specs.Origins.{AreRising}
use Rattle.space.proofs.Lists.{first_piece, take_all, drop_all}
use Rattle.maptree.proofs.BlockChanges.{first_of}
use Rattle.space.specs.Slices.{pieces, nodes_of}
use Rattle.maptree.specs.Cuts.{outside, pieces_of, joined, AreGaps, IsCutting}

-- ---- parts of lists

module _ {A : Type 0} where
  pub drop_drop : (a b : ℕ) (xs : List A) → drop b (drop a xs) ≡ drop (a + b) xs
  drop_drop zero b xs = let same : b ≡ 0 + b = omega arith in ap (λ n. drop n xs) same
  drop_drop (suc a) b [] = drop_all b [] (omega arith) ∙ sym (drop_all (suc a + b) [] (omega arith))
  drop_drop (suc a) b (x ∷ xs) = let more : suc a + b ≡ suc (a + b) = omega arith in drop_drop a b xs ∙ ap (λ n. drop n (x ∷ xs)) (sym more)

  -- the rest of a list, cut at a later place
  pub split_at : (a b : ℕ) (xs : List A) → a ≤ b → drop a xs ≡ slice_range xs a b ++ drop b xs
  split_at a b xs upto =
      let whole : a + (b - a) ≡ b = omega (arith, upto) in
      sym (take-append-drop (b - a) (drop a xs)) ∙ ap (λ ys. take (b - a) (drop a xs) ++ ys) (drop_drop a (b - a) xs ∙ ap (λ n. drop n xs) whole)

  -- the front of a list up to a later place
  pub take_more : (a b : ℕ) (xs : List A) → a ≤ b → take b xs ≡ take a xs ++ slice_range xs a b
  take_more zero b xs upto = let same : b ≡ b - 0 = omega arith in ap (λ n. take n xs) same
  take_more (suc a) zero xs upto = absurd (omega (arith, upto))
  take_more (suc a) (suc b) [] upto = sym (take_all (suc b - suc a) [] (omega arith))
  take_more (suc a) (suc b) (x ∷ xs) upto =
      let less : suc b - suc a ≡ b - a = omega arith in
      ap (λ ys. x ∷ ys) (take_more a b xs (omega (arith, upto))) ∙ ap (λ n. x ∷ take a xs ++ take n (drop a xs)) (sym less)

-- ---- parts and gaps

-- gaps begin within
pub gaps_within : (from : ℕ) (gaps : List ℕ) (most : ℕ) → AreGaps from gaps most → from ≤ most
gaps_within from [] most rise = rise
gaps_within from (gap ∷ gaps) most rise = let rest = gaps_within gap gaps most rise.1 in omega (arith, rest, rise.0)

-- the next gap
pub next_gap : (from i : ℕ) (gaps : List ℕ) (most d : ℕ) → AreGaps from (drop i gaps) most → i < length gaps → (from ≤ get_or gaps i d) × AreGaps (get_or gaps i d) (drop (i + 1) gaps) most
next_gap from i gaps most d rise within = subst (λ gs. AreGaps from gs most) (drop_more gaps i d within) rise

-- more nodes are left behind all parts
pub joined_left : (from : ℕ) (left xs : List Node) (gaps : List ℕ) (parts : List (List Node)) → AreGaps from gaps (length left) → length gaps ≡ length parts → joined from (left ++ xs) gaps parts ≡ joined from left gaps parts ++ xs
joined_left from left xs [] parts rise same = drop-append-le from left xs rise
joined_left from left xs (gap ∷ gaps) [] rise same = absurd (omega (arith, same))
joined_left from left xs (gap ∷ gaps) (part ∷ parts) rise same =
    let most = gaps_within gap gaps (length left) rise.1 in
    let dropped = length-drop from left in
    let front : slice_range (left ++ xs) from gap ≡ slice_range left from gap = ap (take (gap - from)) (drop-append-le from left xs (omega (arith, most, rise.0))) ∙ take-append-le (gap - from) (drop from left) xs (omega (arith, dropped, most)) in
    rw (front, joined_left gap left xs gaps parts rise.1 (omega (arith, same))) (simp append_assoc)

-- one more part behind all that is left
pub joined_part : (from : ℕ) (left part : List Node) (gaps : List ℕ) (parts : List (List Node)) → AreGaps from gaps (length left) → length gaps ≡ length parts
    → joined from left (gaps ++ length left ∷ []) (parts ++ part ∷ []) ≡ joined from left gaps parts ++ part
joined_part from left part [] [] rise same =
    let dropped = length-drop from left in
    rw (take_all (length left - from) (drop from left) (omega (arith, dropped)), drop_all (length left) left (omega arith)) (simp (append_assoc, append-nil))
joined_part from left part [] (p ∷ parts) rise same = absurd (omega (arith, same))
joined_part from left part (gap ∷ gaps) [] rise same = absurd (omega (arith, same))
joined_part from left part (gap ∷ gaps) (p ∷ parts) rise same = rw (joined_part gap left part gaps parts rise.1 (omega (arith, same))) (simp append_assoc)

-- the gaps after it
pub gaps_part : (from most : ℕ) (gaps : List ℕ) → AreGaps from gaps most → AreGaps from (gaps ++ most ∷ []) most
gaps_part from most [] rise = (rise, omega arith)
gaps_part from most (gap ∷ gaps) rise = (rise.0, gaps_part gap most gaps rise.1)

-- the gaps where more nodes are left
pub gaps_left : (from most more : ℕ) (gaps : List ℕ) → AreGaps from gaps most → most ≤ more → AreGaps from gaps more
gaps_left from most more [] rise upto = omega (arith, rise, upto)
gaps_left from most more (gap ∷ gaps) rise upto = (rise.0, gaps_left gap most more gaps rise.1 upto)

-- what `take` has done of these nodes, when these are still to be taken
pub record IsTaken (most : ℕ) (start : Cutting) (nodes : List Node) (now : Cutting) (rest : List Node) : Type 0 where
  pub left : now.left ≡ start.left
  pub parts : nodes_of now.parts.items ++ pieces (length rest) most rest ≡ nodes_of start.parts.items ++ pieces (length nodes) most nodes
  pub gaps_are : AreGaps 0 now.gaps.items now.left
  pub each_part : length now.gaps.items ≡ length now.parts.items
  pub whole : (left : List Node) → length left ≡ start.left → joined 0 left now.gaps.items (nodes_of now.parts.items) ++ rest ≡ joined 0 left start.gaps.items (nodes_of start.parts.items) ++ nodes

-- what `joined` has put back of the parts before this one
pub record IsRejoined (left : List Node) (gaps : List ℕ) (parts : List Slice) (i from : ℕ) (nodes : Vec Node Global) (room : ℕ) : Type 0 where
  pub gaps_are : AreGaps from (drop i gaps) (length left)
  pub items : nodes.items ++ joined from left (drop i gaps) (drop i (nodes_of parts)) ≡ joined 0 left gaps (nodes_of parts)
  pub capacity : room ≤ vec_capacity nodes

-- what `of` has taken of the ranges before this one
pub record IsTakenUpTo (most : ℕ) (nodes : List Node) (ranges : List (Range ℕ)) (i from : ℕ) (now : Cutting) : Type 0 where
  -- the nodes up to there that are in none of them
  pub left : List Node
  pub count : length left ≡ now.left
  pub upto : now.left ≤ from
  pub left_is : left ++ outside from (drop i ranges) nodes ≡ outside 0 ranges nodes
  pub rising : AreRising from (drop i ranges) (length nodes)
  pub parts : nodes_of now.parts.items ++ pieces_of most (drop i ranges) nodes ≡ pieces_of most ranges nodes
  pub whole : IsCutting (take from nodes) left now.gaps.items now.parts.items

-- one more part is put back
pub rejoined_part : (left : List Node) (gaps : List ℕ) (parts : List Slice) (i from d : ℕ) (e : Slice) (nodes next : Vec Node Global) (room : ℕ) → length gaps ≡ length parts → i < length parts
    → IsRejoined left gaps parts i from nodes room → next.items ≡ (nodes.items ++ slice_range left from (get_or gaps i d)) ++ (get_or parts i e).nodes.items → room ≤ vec_capacity next
    → IsRejoined left gaps parts (i + 1) (get_or gaps i d) next room
rejoined_part left gaps parts i from d e nodes next room each_part within so_far items capacity =
    let within_gaps : i < length gaps = omega (arith, each_part, within) in
    let gap = drop_more gaps i d within_gaps in
    let part : drop i (nodes_of parts) ≡ (get_or parts i e).nodes.items ∷ drop (i + 1) (nodes_of parts) =
    drop-map (λ s. s.nodes.items) i parts ∙ ap nodes_of (drop_more parts i e within) ∙ ap (λ ns. (get_or parts i e).nodes.items ∷ ns) (sym (drop-map (λ s. s.nodes.items) (i + 1) parts)) in
    record {
      gaps_are = (next_gap from i gaps (length left) d so_far.gaps_are within_gaps).1;
      items = ap (λ ns. ns ++ joined (get_or gaps i d) left (drop (i + 1) gaps) (drop (i + 1) (nodes_of parts))) items ∙ regroup ∙ sym (rw (gap, part) refl) ∙ so_far.items;
      capacity = capacity;
    }
  where
    regroup : ((nodes.items ++ slice_range left from (get_or gaps i d)) ++ (get_or parts i e).nodes.items) ++ joined (get_or gaps i d) left (drop (i + 1) gaps) (drop (i + 1) (nodes_of parts))
        ≡ nodes.items ++ joined from left (get_or gaps i d ∷ drop (i + 1) gaps) ((get_or parts i e).nodes.items ∷ drop (i + 1) (nodes_of parts))
    regroup = simp append_assoc

-- one more part is taken out
pub taken_part : (most : ℕ) (start : Cutting) (nodes : List Node) (now next : Cutting) (rest others part : List Node) (k : ℕ) → 1 ≤ most → 0 < length rest → k ≡ min most (length rest) → part ≡ take k rest → others ≡ drop k rest
    → IsTaken most start nodes now rest → next.left ≡ now.left → next.gaps.items ≡ now.gaps.items ++ now.left ∷ [] → nodes_of next.parts.items ≡ nodes_of now.parts.items ++ part ∷ []
    → length next.parts.items ≡ length now.parts.items + 1 → IsTaken most start nodes next others
taken_part most start nodes now next rest others part k some more least is_part is_others so_far left gaps parts count =
    let piece : pieces (length rest) most rest ≡ part ∷ pieces (length others) most others = first_piece most rest some more ∙ rw (is_part, is_others, least) refl in
    let whole : part ++ others ≡ rest = rw (is_part, is_others) (take-append-drop k rest) in
    let longer = length-append now.gaps.items (now.left ∷ []) in
    let same_length : length (nodes_of now.parts.items) ≡ length now.parts.items = length-map now.parts.items (λ s. s.nodes.items) in
    record {
      left = left ∙ so_far.left;
      parts = rw parts (simp append_assoc) ∙ ap (λ ps. nodes_of now.parts.items ++ ps) (sym piece) ∙ so_far.parts;
      gaps_are = rw (gaps, left) (gaps_part 0 now.left now.gaps.items so_far.gaps_are);
      each_part = ap length gaps ∙ omega (arith, longer, so_far.each_part, count);
      whole = λ behind size.
          let here : length behind ≡ now.left = size ∙ sym so_far.left in
          let gaps_here : next.gaps.items ≡ now.gaps.items ++ length behind ∷ [] = gaps ∙ ap (λ n. now.gaps.items ++ n ∷ []) (sym here) in
          rw (gaps_here, parts) (ap (λ ns. ns ++ others) (joined_part 0 behind part now.gaps.items (nodes_of now.parts.items) (subst (λ n. AreGaps 0 now.gaps.items n) (sym here) so_far.gaps_are) (so_far.each_part ∙ sym same_length)))
          ∙ append_assoc (joined 0 behind now.gaps.items (nodes_of now.parts.items)) part others ∙ ap (λ ns. joined 0 behind now.gaps.items (nodes_of now.parts.items) ++ ns) whole ∙ so_far.whole behind size;
    }

-- more nodes are left behind what was taken out
pub more_left : (nodes left xs : List Node) (gaps : List ℕ) (parts : List Slice) → IsCutting nodes left gaps parts → IsCutting (nodes ++ xs) (left ++ xs) gaps parts
more_left nodes left xs gaps parts is =
    let longer = length-append left xs in
    record {
      gaps_are = gaps_left 0 (length left) (length (left ++ xs)) gaps is.gaps_are (omega (arith, longer));
      each_part = is.each_part;
      whole = joined_left 0 left xs gaps (nodes_of parts) is.gaps_are (is.each_part ∙ sym (length-map parts (λ s. s.nodes.items))) ∙ ap (λ ns. ns ++ xs) is.whole;
    }

-- where the next range is
pub next_range : (from i : ℕ) (ranges : List (Range ℕ)) (most : ℕ) (d : Range ℕ) → AreRising from (drop i ranges) most → i < length ranges
    → (from ≤ (get_or ranges i d).start) × ((get_or ranges i d).start < (get_or ranges i d).end) × AreRising (get_or ranges i d).end (drop (i + 1) ranges) most
next_range from i ranges most d rise within = subst (λ rs. AreRising from rs most) (drop_more ranges i d within) rise

-- rising ranges begin within
pub rising_within : (from : ℕ) (ranges : List (Range ℕ)) (most : ℕ) → AreRising from ranges most → from ≤ most
rising_within from [] most rise = rise
rising_within from (r ∷ ranges) most rise = let rest = rising_within r.end ranges most rise.2 in omega (arith, rest, rise.0, rise.1)

-- one more range is taken out: what lies before it is left, and then the range itself is taken
pub taken_range : (most : ℕ) (nodes : List Node) (ranges : List (Range ℕ)) (i from : ℕ) (d : Range ℕ) (now next : Cutting) → i < length ranges
    → (so_far : IsTakenUpTo most nodes ranges i from now) → next.left ≡ now.left + ((get_or ranges i d).start - from)
    → nodes_of next.parts.items ≡ nodes_of now.parts.items ++ pieces (length (slice_range nodes (get_or ranges i d).start (get_or ranges i d).end)) most (slice_range nodes (get_or ranges i d).start (get_or ranges i d).end)
    → ((left : List Node) → length left ≡ now.left + ((get_or ranges i d).start - from) → IsCutting (joined 0 left now.gaps.items (nodes_of now.parts.items) ++ slice_range nodes (get_or ranges i d).start (get_or ranges i d).end) left next.gaps.items next.parts.items)
    → IsTakenUpTo most nodes ranges (i + 1) (get_or ranges i d).end next
taken_range most nodes ranges i from d now next within so_far next_left parts whole =
    let more = drop_more ranges i d within in
    let at = next_range from i ranges (length nodes) d so_far.rising within in
    let r = get_or ranges i d in
    let left = so_far.left ++ slice_range nodes from r.start in
    let before = more_left (take from nodes) so_far.left (slice_range nodes from r.start) now.gaps.items now.parts.items so_far.whole in
    let joined_is : joined 0 left now.gaps.items (nodes_of now.parts.items) ≡ take r.start nodes =
    before.whole ∙ sym (take_more from r.start nodes at.0) in
    let most_of = rising_within r.end (drop (i + 1) ranges) (length nodes) at.2 in
    let rest = length-drop from nodes in
    let longer = length-append so_far.left (slice_range nodes from r.start) in
    let part = length-take-le (r.start - from) (drop from nodes) (omega (arith, rest, most_of, at.0, at.1)) in
    let count : length left ≡ now.left + (r.start - from) = omega (arith, longer, part, so_far.count) in
    record {
      left = left;
      count = count ∙ sym next_left;
      upto = omega (arith, next_left, so_far.upto, at.0, at.1);
      left_is = append_assoc so_far.left (slice_range nodes from r.start) (outside r.end (drop (i + 1) ranges) nodes)
          ∙ ap (λ rs. so_far.left ++ outside from rs nodes) (sym more) ∙ so_far.left_is;
      rising = at.2;
      parts = ap (λ ps. ps ++ pieces_of most (drop (i + 1) ranges) nodes) parts ∙ append_assoc (nodes_of now.parts.items) _ (pieces_of most (drop (i + 1) ranges) nodes)
          ∙ ap (λ rs. nodes_of now.parts.items ++ pieces_of most rs nodes) (sym more) ∙ so_far.parts;
      whole = subst (λ ns. IsCutting ns left next.gaps.items next.parts.items) (ap (λ ns. ns ++ slice_range nodes r.start r.end) joined_is ∙ sym (take_more r.start r.end nodes (omega (arith, at.1)))) (whole left count);
    }

-- one more part in the list of parts
pub more_parts : (parts : List Slice) (s : Slice) → (nodes_of (parts ++ s ∷ []) ≡ nodes_of parts ++ s.nodes.items ∷ []) × (length (parts ++ s ∷ []) ≡ length parts + 1)
more_parts parts s = (map-append (λ s. s.nodes.items) parts (s ∷ []), length-append parts (s ∷ []))

-- a list with more behind it is no shorter
pub longer : (xs ys zs : List Node) → zs ≡ xs ++ ys → length xs ≤ length zs
longer xs ys zs is = let size = ap length is ∙ length-append xs ys in omega (arith, size)

-- the rest of the nodes is left
pub all_taken : (most : ℕ) (nodes : List Node) (ranges : List (Range ℕ)) (i from : ℕ) (now : Cutting) → length ranges ≤ i → IsTakenUpTo most nodes ranges i from now
    → (nodes_of now.parts.items ≡ pieces_of most ranges nodes) × IsCutting nodes (outside 0 ranges nodes) now.gaps.items now.parts.items
all_taken most nodes ranges i from now upto so_far =
    let none = drop_all i ranges upto in
    let within = rising_within from (drop i ranges) (length nodes) so_far.rising in
    let whole : take from nodes ++ drop from nodes ≡ nodes = take-append-drop from nodes in
    let left : so_far.left ++ drop from nodes ≡ outside 0 ranges nodes = ap (λ rs. so_far.left ++ outside from rs nodes) (sym none) ∙ so_far.left_is in (
      sym (append-nil (nodes_of now.parts.items)) ∙ ap (λ rs. nodes_of now.parts.items ++ pieces_of most rs nodes) (sym none) ∙ so_far.parts,
      subst (λ ns. IsCutting ns (outside 0 ranges nodes) now.gaps.items now.parts.items) whole
          (subst (λ ns. IsCutting (take from nodes ++ drop from nodes) ns now.gaps.items now.parts.items) left
          (more_left (take from nodes) so_far.left (drop from nodes) now.gaps.items now.parts.items so_far.whole)),
    )

-- what `close_gaps` has done when this range comes: so many nodes are kept in front
pub record IsClosedUpTo (nodes : List Node) (ranges : List (Range ℕ)) (i from kept : ℕ) (now : List Node) : Type 0 where
  pub upto : kept ≤ from
  pub rising : AreRising from (drop i ranges) (length nodes)
  pub size : length now ≡ length nodes
  pub rest : drop from now ≡ drop from nodes
  pub left : take kept now ++ outside from (drop i ranges) nodes ≡ outside 0 ranges nodes

-- what comes behind the kept nodes when the nodes between two positions are moved there
pub closed_up : (nodes : List Node) (ranges : List (Range ℕ)) (i from kept to : ℕ) (now next : List Node) → from ≤ to → to ≤ length nodes → IsClosedUpTo nodes ranges i from kept now → next ≡ paste now kept (drop from now) (to - from)
    → (take (kept + (to - from)) next ≡ take kept now ++ slice_range nodes from to) × (length next ≡ length nodes) × ((end : ℕ) → to ≤ end → drop end next ≡ drop end nodes)
closed_up nodes ranges i from kept to now next rises within so_far is =
    let n = to - from in
    let source = drop from now in
    let more : length source ≡ length now - from = length-drop from now in
    let enough : n ≤ length source = omega (arith, more, so_far.size, within) in
    let upto : kept ≤ length now = omega (arith, so_far.upto, so_far.size, rises, within) in
    let fits : kept + n ≤ length now = omega (arith, so_far.upto, so_far.size, rises, within) in (
      ap (take (kept + n)) is ∙ take-paste now kept source n upto enough ∙ ap (λ l. take kept now ++ take n l) so_far.rest,
      ap length is ∙ length-paste now kept source n fits enough ∙ so_far.size,
      λ end least.
          let on : (kept + n) + (end - (kept + n)) ≡ end = omega (arith, so_far.upto, rises, least) in
          let past : from + (end - from) ≡ end = omega (arith, rises, least) in
          ap (λ k. drop k next) (sym on) ∙ sym (drop-drop (end - (kept + n)) (kept + n) next)
          ∙ ap (drop (end - (kept + n))) (ap (drop (kept + n)) is ∙ drop-paste now kept source n upto enough)
          ∙ drop-drop (end - (kept + n)) (kept + n) now ∙ ap (λ k. drop k now) (on ∙ sym past) ∙ sym (drop-drop (end - from) from now)
          ∙ ap (drop (end - from)) so_far.rest ∙ drop-drop (end - from) from nodes ∙ ap (λ k. drop k nodes) past,
    )

pub closed_range : (nodes : List Node) (ranges : List (Range ℕ)) (i from kept : ℕ) (d : Range ℕ) (now next : List Node) → i < length ranges → IsClosedUpTo nodes ranges i from kept now → next ≡ paste now kept (drop from now) ((get_or ranges i d).start - from)
    → IsClosedUpTo nodes ranges (i + 1) (get_or ranges i d).end (kept + ((get_or ranges i d).start - from)) next
closed_range nodes ranges i from kept d now next within so_far is =
    let more = drop_more ranges i d within in
    let at = next_range from i ranges (length nodes) d so_far.rising within in
    let r = get_or ranges i d in
    let most = rising_within r.end (drop (i + 1) ranges) (length nodes) at.2 in
    let up = closed_up nodes ranges i from kept r.start now next at.0 (omega (arith, most, at.1)) so_far is in
    record {
      upto = omega (arith, so_far.upto, at.0, at.1);
      rising = at.2;
      size = up.1;
      rest = up.2 r.end (omega (arith, at.1));
      left = ap (λ l. l ++ outside r.end (drop (i + 1) ranges) nodes) up.0 ∙ append_assoc (take kept now) (slice_range nodes from r.start) (outside r.end (drop (i + 1) ranges) nodes)
          ∙ ap (λ rs. take kept now ++ outside from rs nodes) (sym more) ∙ so_far.left;
    }

pub closed_end : (nodes : List Node) (ranges : List (Range ℕ)) (i from kept len : ℕ) (now next : List Node) → length ranges ≤ i → len ≡ length nodes → IsClosedUpTo nodes ranges i from kept now → next ≡ paste now kept (drop from now) (len - from)
    → take (kept + (len - from)) next ≡ outside 0 ranges nodes
closed_end nodes ranges i from kept len now next upto is_len so_far is =
    let within = rising_within from (drop i ranges) (length nodes) so_far.rising in
    let up = closed_up nodes ranges i from kept len now next (omega (arith, within, is_len)) (omega (arith, is_len)) so_far is in
    let rest = length-drop from nodes in
    up.0 ∙ ap (λ l. take kept now ++ l) (take_all (len - from) (drop from nodes) (omega (arith, rest, is_len))) ∙ ap (λ rs. take kept now ++ outside from rs nodes) (sym (drop_all i ranges upto)) ∙ so_far.left

-- the first nodes of a range, and the others
pub range_parts : (nodes : List Node) (at to k : ℕ) → at ≤ to → to ≤ length nodes → k ≤ to - at
    → (length (slice_range nodes at to) ≡ to - at) × (slice_range nodes at (at + k) ≡ take k (slice_range nodes at to)) × (slice_range nodes (at + k) to ≡ drop k (slice_range nodes at to))
range_parts nodes at to k rises within few =
    let rest = length-drop at nodes in
    let first : at + k - at ≡ k = omega arith in
    let others : to - (at + k) ≡ to - at - k = omega arith in
    let size = length-take-le (to - at) (drop at nodes) (omega (arith, rest, within)) in
    let whole : k + (to - at - k) ≡ to - at = omega (arith, few) in (
      size,
      ap (λ n. take n (drop at nodes)) first ∙ sym (first_of k (to - at) (drop at nodes) few),
      ap (λ n. take n (drop (at + k) nodes)) others ∙ ap (take (to - at - k)) (sym (drop-drop k at nodes)) ∙ sym (drop-take k (to - at - k) (drop at nodes)) ∙ ap (λ n. drop k (take n (drop at nodes))) whole,
    )
