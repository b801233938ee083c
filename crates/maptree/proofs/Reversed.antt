-- A list of nodes whose last one stands first.
use Rattle.std.proofs.Common.{◌≡◌, ◌≢◌, ℕ, suc, ◌+◌, ◌-◌, ◌<◌, ◌≤◌, false, List, [], ◌∷◌, ◌++◌, length, take, drop, get_or, set, insert, map, None, option_map, ◌⊎◌, inl, inr, refl, sym, ap, ◌∙◌, arith}
use Rattle.std.specs.Prelude.{reverse, position}
use Rattle.std.specs.List.{slice_range}
use Rattle.std.specs.declared.ops.Range.{Range}
use Rattle.std.proofs.lemmas.List.{reverse-append, length-reverse, get_or-reverse, length-set, length-drop, length-take-le, take-append-drop, drop_at, take_at, take_more, take_all, drop_all, drop-take, same_lists, get_or-set_same, get_or-set_other, map-append, append_assoc, append-nil}
use Rattle.space.specs.declared.place.Place.{Place}
use Rattle.space.specs.Place.{same_place}
use Rattle.space.specs.declared.node.Node.{Node}
use Rattle.maptree.specs.Cuts.{outside}
use Rattle.maptree.specs.Nodes.{run_len}
use Rattle.maptree.proofs.Positions.{run_on, run_ends}
use Rattle.maptree.proofs.Searches.{found_second}

module _ (ns : List Node) (n : ℕ) (within : n ≤ length ns) where
  parts : reverse ns ≡ reverse (drop (length ns - n) ns) ++ reverse (take (length ns - n) ns)
  parts = ap reverse (sym (take-append-drop (length ns - n) ns)) ∙ reverse-append (take (length ns - n) ns) (drop (length ns - n) ns)

  count : length (reverse (drop (length ns - n) ns)) ≡ n
  count = let a = length-reverse (drop (length ns - n) ns) in let b = length-drop (length ns - n) ns in omega (arith, a, b, within)

  -- the front of the list is the end of the vector
  pub take_reverse : take n (reverse ns) ≡ reverse (drop (length ns - n) ns)
  take_reverse = ap (take n) parts ∙ take_at (reverse (drop (length ns - n) ns)) (reverse (take (length ns - n) ns)) n count

  -- and the end of the list its front
  pub drop_reverse : drop n (reverse ns) ≡ reverse (take (length ns - n) ns)
  drop_reverse = ap (drop n) parts ∙ drop_at (reverse (drop (length ns - n) ns)) (reverse (take (length ns - n) ns)) n count

-- the node at a position
pub node_back : (ns : List Node) (i : ℕ) (d : Node) → i < length ns → get_or (reverse ns) i d ≡ get_or ns (length ns - 1 - i) d
node_back ns i d within = get_or-reverse ns i d within

-- some of them
pub range_back : (ns : List Node) (from to : ℕ) → from ≤ to → to ≤ length ns → reverse (slice_range ns (length ns - to) (length ns - from)) ≡ slice_range (reverse ns) from to
range_back ns from to rising within =
    let ys = take (length ns - from) ns in
    let size : length ys ≡ length ns - from = length-take-le (length ns - from) ns (omega arith) in
    let at : length ys - (to - from) ≡ length ns - to = omega (arith, size, rising, within) in
    let whole : length ns - from ≡ (length ns - to) + (to - from) = omega (arith, rising, within) in
    let many : length ns - from - (length ns - to) ≡ to - from = omega (arith, rising, within) in
    sym (ap (take (to - from)) (drop_reverse ns from (omega (arith, rising, within)))
    ∙ take_reverse ys (to - from) (omega (arith, size, rising, within))
    ∙ ap (λ n. reverse (drop n ys)) at
    ∙ ap (λ n. reverse (drop (length ns - to) (take n ns))) whole
    ∙ ap reverse (drop-take (length ns - to) (to - from) ns)
    ∙ ap (λ n. reverse (take n (drop (length ns - to) ns))) (sym many))

-- a vector that was written as a whole
pub refilled : (ns ws : List Node) → length ws ≡ length ns → take (length ns) (ws ++ drop (length ws) ns) ≡ ws
refilled ns ws same = ap (λ l. take (length ns) (ws ++ l)) (drop_all (length ws) ns (omega (arith, same))) ∙ ap (take (length ns)) (append-nil ws) ∙ take_all (length ns) ws (omega (arith, same))

-- what is left without one range of the list
pub outside_back : (ns : List Node) (r : Range ℕ) → r.start ≤ r.end → r.end ≤ length ns
    → reverse (outside 0 (record { start = length ns - r.end; end = length ns - r.start } ∷ []) ns) ≡ outside 0 (r ∷ []) (reverse ns)
outside_back ns r rising within =
    let all : (n : ℕ) → n - 0 ≡ n = λ n. omega arith in
    reverse-append (take (length ns - r.end - 0) ns) (drop (length ns - r.start) ns)
    ∙ ap (λ n. reverse (drop (length ns - r.start) ns) ++ reverse (take n ns)) (all (length ns - r.end))
    ∙ (λ i. sym (take_reverse ns r.start (omega (arith, rising, within))) i ++ sym (drop_reverse ns r.end within) i)
    ∙ ap (λ n. take n (reverse ns) ++ drop r.end (reverse ns)) (sym (all r.start))

one_first : (x : Node) (ns : List Node) → reverse (x ∷ ns) ≡ reverse ns ++ x ∷ []
one_first x ns = reverse-append (x ∷ []) ns

-- one node more
pub insert_back : (ns : List Node) (i : ℕ) (x : Node) → i ≤ length ns → reverse (insert ns (length ns - i) x) ≡ insert (reverse ns) i x
insert_back ns i x within =
    let k = length ns - i in
    reverse-append (take k ns) (x ∷ drop k ns) ∙ ap (λ l. l ++ reverse (take k ns)) (one_first x (drop k ns)) ∙ append_assoc (reverse (drop k ns)) (x ∷ []) (reverse (take k ns))
    ∙ ap (λ l. l ++ x ∷ reverse (take k ns)) (sym (take_reverse ns i within)) ∙ ap (λ l. take i (reverse ns) ++ x ∷ l) (sym (drop_reverse ns i within))

-- another node
pub set_back : (ns : List Node) (i : ℕ) (x : Node) → i < length ns → reverse (set ns (length ns - 1 - i) x) ≡ set (reverse ns) i x
set_back ns i x within =
    let j = length ns - 1 - i in
    same_lists (reverse (set ns j x)) (set (reverse ns) i x) (length-reverse (set ns j x) ∙ length-set ns j x ∙ sym (length-set (reverse ns) i x ∙ length-reverse ns)) each
  where
    order : (k : ℕ) → (k ≡ i) ⊎ (k ≢ i)
    order k = grind arith

    each : (k : ℕ) (d : Node) → k < length (reverse (set ns (length ns - 1 - i) x)) → get_or (reverse (set ns (length ns - 1 - i) x)) k d ≡ get_or (set (reverse ns) i x) k d
    each k d less =
        let a = length-reverse (set ns (length ns - 1 - i) x) in
        let b = length-set ns (length ns - 1 - i) x in
        let inside : k < length ns = omega (arith, a, b, less) in
        get_or-reverse (set ns (length ns - 1 - i) x) k d (omega (arith, a, less)) ∙ ap (λ n. get_or (set ns (length ns - 1 - i) x) (n - 1 - k) d) b ∙ by inside (order k)
      where
        by : k < length ns → (k ≡ i) ⊎ (k ≢ i) → get_or (set ns (length ns - 1 - i) x) (length ns - 1 - k) d ≡ get_or (set (reverse ns) i x) k d
        by inside (inl same) =
            let at : length ns - 1 - k ≡ length ns - 1 - i = ap (λ n. length ns - 1 - n) same in
            let size = length-reverse ns in
            ap (λ n. get_or (set ns (length ns - 1 - i) x) n d) at ∙ get_or-set_same ns (length ns - 1 - i) x d (omega (arith, within))
            ∙ sym (ap (λ n. get_or (set (reverse ns) i x) n d) same ∙ get_or-set_same (reverse ns) i x d (omega (arith, size, within)))
        by inside (inr other) =
            get_or-set_other ns (length ns - 1 - i) (length ns - 1 - k) x d (λ same. other (omega (arith, same, inside, within))) ∙ sym (get_or-reverse ns k d inside)
            ∙ sym (get_or-set_other (reverse ns) i k x d other)

-- the same change of each
pub map_back : (f : Node → Node) (ns : List Node) → reverse (map f ns) ≡ map f (reverse ns)
map_back f [] = refl
map_back f (n ∷ ns) = one_first (f n) (map f ns) ∙ ap (λ l. l ++ f n ∷ []) (map_back f ns) ∙ sym (ap (map f) (one_first n ns) ∙ map-append f (reverse ns) (n ∷ []))

-- ---- loops over the list

-- the nodes behind a position are deeper so far
pub record AreDeeper (depth from : ℕ) (xs : List Node) (k : ℕ) : Type 0 where
  pub least : from ≤ k
  pub upto : k ≤ length xs
  pub run : run_len depth (drop from xs) ≡ (k - from) + run_len depth (drop k xs)

pub deeper_begins : (depth from : ℕ) (xs : List Node) → from ≤ length xs → AreDeeper depth from xs from
deeper_begins depth from xs within = record { least = omega arith; upto = within; run = omega arith }

pub deeper_goes : (depth from : ℕ) (xs : List Node) (k : ℕ) (d : Node) → AreDeeper depth from xs k → k < length xs → depth < (get_or xs k d).depth → AreDeeper depth from xs (k + 1)
deeper_goes depth from xs k d so_far within deep =
    let one : suc k ≡ k + 1 = omega arith in
    let step = run_on depth xs k d within deep in
    let next = ap (λ i. run_len depth (drop i xs)) one in
    let least = so_far.least in
    let run = so_far.run in
    record { least = omega (arith, least); upto = omega (arith, within); run = omega (arith, run, step, next, least) }

pub deeper_stops : (depth from : ℕ) (xs : List Node) (k : ℕ) (d : Node) → AreDeeper depth from xs k → k < length xs → (get_or xs k d).depth ≤ depth → k - from ≡ run_len depth (drop from xs)
deeper_stops depth from xs k d so_far within low = let none = run_ends depth xs k d within low in let run = so_far.run in omega (arith, run, none)

pub deeper_ends : (depth from : ℕ) (xs : List Node) (k : ℕ) → AreDeeper depth from xs k → length xs ≤ k → length xs - from ≡ run_len depth (drop from xs)
deeper_ends depth from xs k so_far end =
    let none : run_len depth (drop k xs) ≡ 0 = ap (run_len depth) (drop_all k xs end) in
    let run = so_far.run in
    let upto = so_far.upto in
    omega (arith, run, none, upto, end)

module _ (p : Place) (xs : List Node) where
  -- no node so far has the place
  abbrev pub IsNotYet : ℕ → Type 0
  IsNotYet i = position (λ n. same_place p n.place) (take i xs) ≡ None

  pub not_at_first : IsNotYet 0
  not_at_first = refl

  pub not_on : (i : ℕ) (d : Node) → IsNotYet i → i < length xs → same_place p (get_or xs i d).place ≡ false → IsNotYet (i + 1)
  not_on i d so_far within other =
      ap (position (λ n. same_place p n.place)) (take_more xs i d within)
      ∙ found_second (λ (n : Node). same_place p n.place) (take i xs) (get_or xs i d ∷ []) so_far
      ∙ ap (option_map (λ r. length (take i xs) + r)) alone
    where
      alone : position (λ n. same_place p n.place) (get_or xs i d ∷ []) ≡ None
      alone = rw other refl

  pub not_at_all : (i : ℕ) → IsNotYet i → length xs ≤ i → None ≡ position (λ n. same_place p n.place) xs
  not_at_all i so_far end = sym (ap (position (λ n. same_place p n.place)) (sym (take_all i xs end)) ∙ so_far)
